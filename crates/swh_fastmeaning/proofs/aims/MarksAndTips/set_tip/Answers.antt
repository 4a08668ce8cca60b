use Rattle.std.proofs.Common.{◌∙◌, sym, ap, ℕ, List}
use Rattle.std.specs.Global.{Vec}
use Rattle.std.specs.Ordering.{nat_cmp}
use Rattle.std.specs.Cmp.Lexicographic.{slice_cmp}
use Rattle.swh_trees.specs.declared.tree.Tree.{Tree}
use Rattle.swh_fastmeaning.specs.Aims.{Aim, AllAims, with_tip}
use Rattle.swh_fastmeaning.specs.Tips.{aim_of, aims_of}
use Rattle.swh_fastmeaning.proofs.MappedMaps.{insert-mapped}
use Rattle.swh_fastmeaning.proofs.aims.MarksAndTips.set_tip.Goals as goal

pub returns : goal.returns
returns c =
    let inside = c.self.inside in
    let branch = c.args.branch.now in
    record {
      ok = ap (aims_of inside.marks) c.in_ok-insert.ensures.entries
          ∙ ap (λ (t : List (List ℕ × Aim Tree)). let a : AllAims Tree = record { marks = (aims_of inside.marks inside.tips.entries).marks; tips = t } in a) (sym (insert-mapped (λ (k : Vec ℕ). k.items) aim_of (slice_cmp nat_cmp) inside.tips.entries c.in_ok-from_slice.field-0 c.args.target))
          ∙ ap (λ (b : List ℕ). with_tip b (aim_of c.args.target) (aims_of inside.marks inside.tips.entries)) c.in_ok-from_slice.ensures.items
          ∙ ap (with_tip branch (aim_of c.args.target)) c.self.view_is;
    }
