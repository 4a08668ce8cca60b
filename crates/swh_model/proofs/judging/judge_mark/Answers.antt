use Rattle.std.proofs.Common.{List, ℕ, ap, ◌∙◌, refl, subst}
use Rattle.swh_model.specs.declared.event.EventKind.TheVariants.{Mark}
use Rattle.swh_model.specs.declared.event.Visit.{Visit}
use Rattle.swh_model.specs.Archive.{Archive, visits_of}
use Rattle.swh_model.specs.Judge.{FilePasses}
use Rattle.swh_model.specs.Judged.{NonePasses, MayBeMarked, SuitsStatus}
use Rattle.swh_model.proofs.Refusals.{mark_passes}
use Rattle.swh_model.proofs.judging.judge_mark.Goals as goal

pub returns-clause-ok : goal.returns-clause-ok
returns-clause-ok c =
    let h = c.args.history.now in
    let by = c.args.by in
    let url = c.args.origin.now in
    let visit = c.args.visit in
    let status = c.args.mark.0 in
    let snapshot = c.args.mark.1 in
    let same = c.in_ok-again.ensures in
    let files = subst (λ (u : List ℕ). NonePasses (FilePasses h (Mark u visit status snapshot))) same c.in_ok-fit_files.ensures.ok in
    let may = subst (λ (vs : List Visit). MayBeMarked vs by visit) (c.visits.ensures ∙ ap (λ (a : Archive). visits_of a.origins url) c.requires) c.in_default.ensures.none in
    let suits = subst (λ (a : Archive). SuitsStatus a.bodies status snapshot) c.requires (rw c.in_default-2.is at c.in_ok-cause.ensures.none) in
    (mark_passes h by url visit status snapshot files may suits, (λ i. record { by = by; what = Mark (same i) visit status snapshot }), refl)
