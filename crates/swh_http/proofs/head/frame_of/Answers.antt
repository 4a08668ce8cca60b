use Rattle.std.proofs.Common.{subst, List}
use Rattle.swh_http.specs.Field.{Pair, IsRefusedAs}
use Rattle.swh_http.proofs.head.frame_of.Goals as goal

pub returns-in-Err : goal.returns-in-Err
returns-in-Err c =
    let P : List Pair → Type 0 = λ fs. IsRefusedAs fs c.in-Err.status in
    record {
      head = c.requires.found.head;
      reads = c.requires.found.reads;
      refused = subst P c.requires.found.fields (rw c.in-Err.is at c.in_ok-length.ensures);
    }
