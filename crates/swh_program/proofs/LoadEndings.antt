-- Which lines loads have by how they end, each and together.
use Rattle.std.proofs.Common.{◌≡◌, ◌⊎◌, inl, inr, ⊎_elim, ℕ, ◌<◌, Result, Ok, Err, List, [], ◌∷◌, ◌++◌, false, refl, sym, ap, ◌∙◌, arith}
use Rattle.std.specs.List.{AllByRecursion}
use Rattle.std.proofs.lemmas.List.{append-nil}
use Rattle.swh_loader.specs.declared.end.End.{End}
use Rattle.swh_loader.specs.declared.end.End.TheVariants.{Full, NotFound, Failed}
use Rattle.swh_loader.specs.declared.end.Loaded.{Loaded}
use Rattle.swh_ingest.specs.declared.stop.Stop.{Stop}
use Rattle.swh_ingest.specs.declared.stop.Stop.TheVariants as why
use Rattle.swh_ingest.specs.declared.end.LoadFault.{LoadFault}
use Rattle.swh_ingest.proofs.Batches.{at_element}
use Rattle.swh_pool.specs.Stops.{is_fault, is_disk_fault, HaveNoDiskFault}
use Rattle.swh_exit.specs.Answers.{status_for, last_line_for}
use Rattle.swh_exit.specs.Run.{ComesTo}
use Rattle.swh_program.specs.Causes.{IsFullEnd, IsFullLine, IsShortEnd, IsOtherStop, IsShortLine, HasShortLine}
use Rattle.swh_program.specs.Lines.{ending_of_end, ending_of_why, ending_for, ending_of_all, worse}
use Rattle.swh_exit.specs.declared.answer.Ending.{Ending}
use Rattle.swh_exit.specs.declared.answer.Ending.TheVariants as ending
use Rattle.swh_program.proofs.Elements.{contains_first, contains_more}

-- a line is short where its load ended as wanting
end_short : (end : End) → ending_of_end end ≡ ending.Wanting → IsShortEnd end
end_short (Full snapshot) e = let f : ending.Done ≡ ending.Wanting = e in absurd (cc)
end_short NotFound e = tt
end_short (Failed bad) e = tt

why_short : (reason : Stop) → ending_of_why reason ≡ ending.Wanting → IsOtherStop reason
why_short (why.Ended status) e = tt
why_short why.DiskFault e = let f : ending.OutsideDisk ≡ ending.Wanting = e in absurd (cc)
why_short why.Wounded e = let f : ending.OutsideDisk ≡ ending.Wanting = e in absurd (cc)
why_short (why.Limit which number) e = tt
why_short why.Memory e = let f : ending.Memory ≡ ending.Wanting = e in absurd (cc)

pub wanting_short : (loaded : Result Loaded LoadFault) → ending_for loaded ≡ ending.Wanting → IsShortLine loaded
wanting_short (Ok l) e = end_short l.end e
wanting_short (Err f) e = why_short f.why e

short_end : (end : End) → IsShortEnd end → ending_of_end end ≡ ending.Wanting
short_end (Full snapshot) is = absurd is
short_end NotFound is = refl
short_end (Failed bad) is = refl

short_why : (reason : Stop) → IsOtherStop reason → ending_of_why reason ≡ ending.Wanting
short_why (why.Ended status) is = refl
short_why why.DiskFault is = absurd is
short_why why.Wounded is = absurd is
short_why (why.Limit which number) is = refl
short_why why.Memory is = absurd is

pub short_wanting : (loaded : Result Loaded LoadFault) → IsShortLine loaded → ending_for loaded ≡ ending.Wanting
short_wanting (Ok l) is = short_end l.end is
short_wanting (Err f) is = short_why f.why is

end_full : (end : End) → ending_of_end end ≡ ending.Done → IsFullEnd end
end_full (Full snapshot) e = tt
end_full NotFound e = let f : ending.Wanting ≡ ending.Done = e in absurd (cc)
end_full (Failed bad) e = let f : ending.Wanting ≡ ending.Done = e in absurd (cc)

full_end : (end : End) → IsFullEnd end → ending_of_end end ≡ ending.Done
full_end (Full snapshot) is = refl
full_end NotFound is = absurd is
full_end (Failed bad) is = absurd is

pub why_undone : (reason : Stop) → ending_of_why reason ≡ ending.Done → ⊥
why_undone (why.Ended status) e = let f : ending.Wanting ≡ ending.Done = e in cc
why_undone why.DiskFault e = let f : ending.OutsideDisk ≡ ending.Done = e in cc
why_undone why.Wounded e = let f : ending.OutsideDisk ≡ ending.Done = e in cc
why_undone (why.Limit which number) e = let f : ending.Wanting ≡ ending.Done = e in cc
why_undone why.Memory e = let f : ending.Memory ≡ ending.Done = e in cc

-- and full where it ended as done
pub done_full : (loaded : Result Loaded LoadFault) → ending_for loaded ≡ ending.Done → IsFullLine loaded
done_full (Ok l) e = end_full l.end e
done_full (Err f) e = why_undone f.why e

pub full_done : (loaded : Result Loaded LoadFault) → IsFullLine loaded → ending_for loaded ≡ ending.Done
full_done (Ok l) is = full_end l.end is
full_done (Err f) is = absurd is

pub one_done : (end : Ending) → status_for end ≡ 0 → end ≡ ending.Done
one_done ending.Done e = refl
one_done ending.Wanting e = absurd (omega (arith, e))
one_done ending.OutsideDisk e = absurd (omega (arith, e))
one_done ending.Memory e = absurd (omega (arith, e))

pub one_wanting : (end : Ending) → status_for end ≡ 1 → end ≡ ending.Wanting
one_wanting ending.Done e = absurd (omega (arith, e))
one_wanting ending.Wanting e = refl
one_wanting ending.OutsideDisk e = absurd (omega (arith, e))
one_wanting ending.Memory e = absurd (omega (arith, e))

-- the line ends with nothing after it
pub line_alone : (text : List ℕ) (end : Ending) → status_for end < 2 → text ++ last_line_for end ≡ text
line_alone text ending.Done less = append-nil text
line_alone text ending.Wanting less = append-nil text
line_alone text ending.OutsideDisk less = absurd (omega (arith, less))
line_alone text ending.Memory less = absurd (omega (arith, less))

pub undone : (end : Ending) → (end ≡ ending.Done → ⊥) → ComesTo 1 (status_for end)
undone ending.Done apart = absurd (apart refl)
undone ending.Wanting apart = inl refl
undone ending.OutsideDisk apart = inr (inl refl)
undone ending.Memory apart = inr (inr refl)

-- a disk that failed is the worse of any two
pub worse-by_disk : (a : Ending) → worse a ending.OutsideDisk ≡ ending.OutsideDisk
worse-by_disk ending.Done = refl
worse-by_disk ending.Wanting = refl
worse-by_disk ending.OutsideDisk = refl
worse-by_disk ending.Memory = refl

-- both are done where the worse is
pub both_done : (a b : Ending) → worse a b ≡ ending.Done → (a ≡ ending.Done) × (b ≡ ending.Done)
both_done ending.Done b e = (refl, e)
both_done ending.Wanting ending.Done e = let f : ending.Wanting ≡ ending.Done = e in absurd (cc)
both_done ending.Wanting ending.Wanting e = let f : ending.Wanting ≡ ending.Done = e in absurd (cc)
both_done ending.Wanting ending.OutsideDisk e = let f : ending.OutsideDisk ≡ ending.Done = e in absurd (cc)
both_done ending.Wanting ending.Memory e = let f : ending.Memory ≡ ending.Done = e in absurd (cc)
both_done ending.OutsideDisk b e = let f : ending.OutsideDisk ≡ ending.Done = e in absurd (cc)
both_done ending.Memory ending.Done e = let f : ending.Memory ≡ ending.Done = e in absurd (cc)
both_done ending.Memory ending.Wanting e = let f : ending.Memory ≡ ending.Done = e in absurd (cc)
both_done ending.Memory ending.OutsideDisk e = let f : ending.OutsideDisk ≡ ending.Done = e in absurd (cc)
both_done ending.Memory ending.Memory e = let f : ending.Memory ≡ ending.Done = e in absurd (cc)

-- one is wanting where the worse is
one_wants : (a b : Ending) → worse a b ≡ ending.Wanting → (a ≡ ending.Wanting) ⊎ (b ≡ ending.Wanting)
one_wants ending.Done b e = inr e
one_wants ending.Wanting b e = inl refl
one_wants ending.OutsideDisk b e = let f : ending.OutsideDisk ≡ ending.Wanting = e in absurd (cc)
one_wants ending.Memory ending.Done e = let f : ending.Memory ≡ ending.Wanting = e in absurd (cc)
one_wants ending.Memory ending.Wanting e = let f : ending.Memory ≡ ending.Wanting = e in absurd (cc)
one_wants ending.Memory ending.OutsideDisk e = let f : ending.OutsideDisk ≡ ending.Wanting = e in absurd (cc)
one_wants ending.Memory ending.Memory e = let f : ending.Memory ≡ ending.Wanting = e in absurd (cc)

-- all lines are full where all are done together, and then alone
pub all_full : (os : List (Result Loaded LoadFault)) → ending_of_all os ≡ ending.Done → AllByRecursion IsFullLine os
all_full [] e = tt
all_full (o ∷ os) e = let both = both_done (ending_for o) (ending_of_all os) e in (done_full o both.0, all_full os both.1)

pub full_all : (os : List (Result Loaded LoadFault)) → AllByRecursion IsFullLine os → ending_of_all os ≡ ending.Done
full_all [] all = refl
full_all (o ∷ os) all = ap (λ (x : Ending). worse x (ending_of_all os)) (full_done o all.0) ∙ full_all os all.1

short_line : (o : Result Loaded LoadFault) (os : List (Result Loaded LoadFault)) → IsShortLine o → HasShortLine (o ∷ os)
short_line o os short = record { outcome = o; among = contains_first o os; short = short }

short_more : (o : Result Loaded LoadFault) (os : List (Result Loaded LoadFault)) → HasShortLine os → HasShortLine (o ∷ os)
short_more o os s = record { outcome = s.outcome; among = contains_more o os s.outcome s.among; short = s.short }

-- a line is short where they are wanting together
pub one_short : (os : List (Result Loaded LoadFault)) → ending_of_all os ≡ ending.Wanting → HasShortLine os
one_short [] e = let f : ending.Done ≡ ending.Wanting = e in absurd (cc)
one_short (o ∷ os) e =
    ⊎_elim
    (λ (here : ending_for o ≡ ending.Wanting). short_line o os (wanting_short o here))
    (λ (later : ending_of_all os ≡ ending.Wanting). short_more o os (one_short os later))
    (one_wants (ending_for o) (ending_of_all os) e)

-- and then not all are done
pub short_undone : (os : List (Result Loaded LoadFault)) → HasShortLine os → ending_of_all os ≡ ending.Done → ⊥
short_undone os s e =
    let f : ending.Wanting ≡ ending.Done = sym (short_wanting s.outcome s.short) ∙ full_done s.outcome (at_element IsFullLine os s.outcome (all_full os e) s.among) in
    cc

-- no disk failed where none is told
no_fault : (reason : Stop) → (ending_of_why reason ≡ ending.OutsideDisk → ⊥) → is_fault reason ≡ false
no_fault (why.Ended status) apart = refl
no_fault why.DiskFault apart = absurd (apart refl)
no_fault why.Wounded apart = refl
no_fault (why.Limit which number) apart = refl
no_fault why.Memory apart = refl

no_disk_fault : (o : Result Loaded LoadFault) → (ending_for o ≡ ending.OutsideDisk → ⊥) → is_disk_fault o ≡ false
no_disk_fault (Ok l) apart = refl
no_disk_fault (Err f) apart = no_fault f.why apart

-- a disk that failed is told, whatever else ended
module _ (o : Result Loaded LoadFault) (os : List (Result Loaded LoadFault)) (apart : ending_of_all (o ∷ os) ≡ ending.OutsideDisk → ⊥) where
  pub first_apart : ending_for o ≡ ending.OutsideDisk → ⊥
  first_apart e = apart (ap (λ (x : Ending). worse x (ending_of_all os)) e)

  pub others_apart : ending_of_all os ≡ ending.OutsideDisk → ⊥
  others_apart e = apart (ap (worse (ending_for o)) e ∙ worse-by_disk (ending_for o))

pub no_disk_faults : (os : List (Result Loaded LoadFault)) → (ending_of_all os ≡ ending.OutsideDisk → ⊥) → HaveNoDiskFault os
no_disk_faults [] apart = tt
no_disk_faults (o ∷ os) apart = (no_disk_fault o (first_apart o os apart), no_disk_faults os (others_apart o os apart))
