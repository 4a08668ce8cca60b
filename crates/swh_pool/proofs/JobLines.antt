-- The lines of some jobs and of one more.
use Rattle.std.proofs.Common.{◌≡◌, ℕ, Result, List, [], ◌∷◌, ◌++◌, map, refl, sym, ap, ◌∙◌, append-nil}
use Rattle.std.proofs.lemmas.Grind.{flat_map-append}
use Rattle.std.proofs.lemmas.List.{map-append}
use Rattle.swh_loader.specs.declared.end.Loaded.{Loaded}
use Rattle.swh_ingest.specs.declared.end.LoadFault.{LoadFault}
use Rattle.swh_loader.specs.Report.{report_of}
use Rattle.swh_pool.specs.declared.dated.DatedJob.{DatedJob}
use Rattle.swh_pool.specs.Lines.{ended, lines_of}
use Rattle.swh_pool.specs.Loads.{OneLoad}

abbrev Ended : Type 0
Ended = List ℕ × Result Loaded LoadFault

-- the origin of a load, and how it ended
abbrev pub end_of : {S F : Type 0} → OneLoad S F → Ended
end_of l = (l.after.job.origin, l.outcome)

-- one load more adds its line
pub lines_more : {S F : Type 0} (loads : List (OneLoad S F)) (l : OneLoad S F) (text : List ℕ) → text ≡ lines_of (map end_of loads) → text ++ report_of l.after.job.origin l.outcome ≡ lines_of (map end_of (loads ++ l ∷ []))
lines_more {S} {F} loads l text is =
    ap (λ (t : List ℕ). t ++ report_of l.after.job.origin l.outcome) is
    ∙ ap (λ (t : List ℕ). lines_of (map end_of loads) ++ t) (sym (append-nil (report_of l.after.job.origin l.outcome)))
    ∙ sym (flat_map-append (λ (j : Ended). report_of j.0 j.1) (map end_of loads) (end_of l ∷ []))
    ∙ ap (λ (js : List Ended). lines_of js) (sym (map-append (λ (x : OneLoad S F). end_of x) loads (l ∷ [])))

ended_loads : {S F : Type 0} (loads : List (OneLoad S F)) → ended (map (λ l. l.after) loads) (map (λ l. l.outcome) loads) ≡ map end_of loads
ended_loads [] = refl
ended_loads (l ∷ loads) = ap (λ (js : List Ended). end_of l ∷ js) (ended_loads loads)

-- the lines of the loads are those of the jobs
pub lines_all : {S F : Type 0} (loads : List (OneLoad S F)) (jobs : List (DatedJob S F)) (outcomes : List (Result Loaded LoadFault)) (text : List ℕ) → jobs ≡ map (λ l. l.after) loads → outcomes ≡ map (λ l. l.outcome) loads → text ≡ lines_of (map end_of loads)
    → text ≡ lines_of (ended jobs outcomes)
lines_all {S} {F} loads jobs outcomes text after ends is =
    is ∙ ap (λ (js : List Ended). lines_of js) (sym (ended_loads loads) ∙ ap (λ (os : List (Result Loaded LoadFault)). ended (map (λ l. l.after) loads) os) (sym ends) ∙ ap (λ (js : List (DatedJob S F)). ended js outcomes) (sym after))
