use Rattle.std.proofs.Common.{◌≡◌, None, List, take, subst, sym}
use Rattle.std.specs.FinMap as finite
use Rattle.swh_base.specs.declared.entry.Entry.{Entry}
use Rattle.swh_model.specs.Archive.{Bodies, body_of}
use Rattle.swh_model.proofs.Entries.{added-append, new-at}
use Rattle.swh_store.specs.Entries.{bodies_in}
use Rattle.swh_store.proofs.entries.Held.push_all.Goals as goal

pub push_again-requires-clause-absent : goal.push_again-requires-clause-absent
push_again-requires-clause-absent c =
    let old = c.args.self.now.entries.items in
    let es = c.args.entries.now in
    let i = c.loop-entry.entry-index in
    let e = c.entry-item.result in
    subst (λ (l : List Entry). body_of (bodies_in l) e.name ≡ None) (sym c.loop-entry.invariant.items)
    (subst (λ (b : Bodies). body_of b e.name ≡ None) (sym (added-append finite.empty old (take i es))) (new-at (bodies_in old) es i e c.loop-entry-test.true c.entry-item.is c.requires.absent))
