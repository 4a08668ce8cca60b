use Rattle.std.proofs.Common.{◌∙◌, sym, ap, ℕ, List, Option, Some}
use Rattle.std.specs.Ordering.{nat_cmp}
use Rattle.swh_trees.specs.declared.tree.Tree.{Tree}
use Rattle.swh_model.proofs.Results.{on_ok}
use Rattle.swh_fastmeaning.specs.declared.aims.Target.{Target}
use Rattle.swh_fastmeaning.specs.Aims.{Aim, AllAims, with_mark}
use Rattle.swh_fastmeaning.specs.Tips.{aim_of, aims_of}
use Rattle.swh_fastmeaning.proofs.MappedMaps.{insert-mapped}
use Rattle.swh_fastmeaning.proofs.aims.MarksAndTips.set_mark.Goals as goal

pub returns-in-Some : goal.returns-in-Some
returns-in-Some c =
    let inside = c.self.inside in
    let mark = c.in-Some.mark in
    record {
      ok = on_ok c.set.result c.set.ensures
          (λ set.
          ap (λ (m : List (ℕ × Target)). aims_of m inside.tips.entries) set
          ∙ ap (λ (t : List (ℕ × Aim Tree)). let a : AllAims Tree = record { marks = t; tips = (aims_of inside.marks inside.tips.entries).tips } in a) (sym (insert-mapped (λ (k : ℕ). k) aim_of nat_cmp inside.marks mark c.args.target))
          ∙ ap (with_mark (Some mark) (aim_of c.args.target)) c.self.view_is
          ∙ ap (λ (m : Option ℕ). with_mark m (aim_of c.args.target) c.args.self.now) (sym c.in-Some.is));
    }
