use Rattle.std.proofs.Common.{◌∙◌, sym, ap, ℕ, List}
use Rattle.std.specs.Global.{Vec}
use Rattle.std.specs.Ordering.{nat_cmp}
use Rattle.std.specs.Cmp.Lexicographic.{slice_cmp}
use Rattle.std.specs.BTreeMap.{is_at}
use Rattle.swh_trees.specs.declared.tree.Tree.{Tree}
use Rattle.swh_fastmeaning.specs.Aims.{Aim, AllAims, without_tip}
use Rattle.swh_fastmeaning.specs.Tips.{aim_of, aims_of}
use Rattle.swh_fastmeaning.proofs.MappedMaps.{remove-mapped}
use Rattle.swh_fastmeaning.proofs.aims.MarksAndTips.drop_tip.Goals as goal

pub returns : goal.returns
returns c =
    let inside = c.self.inside in
    ap (aims_of inside.marks) c.remove.ensures.entries
    ∙ ap (λ (t : List (List ℕ × Aim Tree)). let a : AllAims Tree = record { marks = (aims_of inside.marks inside.tips.entries).marks; tips = t } in a) (sym (remove-mapped (λ (k : Vec ℕ). k.items) aim_of (is_at (slice_cmp nat_cmp c.args.branch.now)) inside.tips.entries))
    ∙ ap (without_tip c.args.branch.now) c.self.view_is
