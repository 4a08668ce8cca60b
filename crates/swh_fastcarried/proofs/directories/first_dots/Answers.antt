use Rattle.std.proofs.Common.{◌≡◌, true, false, [], sym, ◌∙◌, subst, List}
use Rattle.std.specs.Prelude.{Contains}
use Rattle.std.proofs.lemmas.List.{take_all}
use Rattle.swh_carried.specs.Rules.{IsDots}
use Rattle.swh_dirfmt.specs.declared.entry.SpelledEntry.{SpelledEntry}
use Rattle.swh_fastcarried.proofs.OwnBranches.{each_more}
use Rattle.swh_fastcarried.proofs.directories.first_dots.Goals as goal

abbrev none : SpelledEntry
none = record { mode = 0; name = record { ref_ptr = (0, 0); now = [] }; id = record { ref_ptr = (0, 0); now = [] } }

pub loop-entry-preserved : goal.loop-entry-preserved
loop-entry-preserved c =
    each_more (λ (e : SpelledEntry). IsDots e.name.now → ⊥) c.args.entries.now c.loop-entry.entry-index none c.loop-entry-test.true c.loop-entry.invariant
    (λ is. let e : true ≡ false = sym (c.is_dots.ensures.1 is) ∙ c.if-is_dots.false in cc)

pub returns-clause-none : goal.returns-clause-none
returns-clause-none c =
    λ e there. c.loop-entry.invariant e (subst (λ (es : List SpelledEntry). Contains es e) (sym (take_all c.loop-entry.entry-index c.args.entries.now c.loop-entry-test.false)) there)
