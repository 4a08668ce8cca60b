-- What the ends of `init` mean.
use Rattle.std.proofs.Common.{◌≡◌, ⊎_elim, ℕ, List, sym, subst}
use Rattle.swh_base.specs.declared.kind.Kind.{Kind}
use Rattle.swh_exit.specs.declared.answer.Ending.TheVariants as ending
use Rattle.swh_outside.specs.Disk.{EachImage}
use Rattle.swh_outside.specs.Files.{Files, EachImages}
use Rattle.swh_outside.proofs.Numbered.{files_left_whole, files_left_same, files_left_by}
use Rattle.swh_segment.specs.Making.{IsNotMade, IsNotMadeOrEmpty, making_calls}
use Rattle.swh_segment.proofs.Crash.{making_moments}
use Rattle.swh_keeper.proofs.OwnLemmas.{making_moments as own_making_moments}
use Rattle.swh_program.specs.InitCommand.{InitEnds, IsSafeInit}
use Rattle.swh_exit.specs.declared.answer.Answer.{Answer}
use Rattle.swh_exit.specs.declared.answer.Answer.TheVariants.{Made, AlreadyMade, OutsideDisk, Memory}

left_by : (old new : Files) (answer : Answer) → InitEnds old new answer → IsNotMade (old 0).seen → EachImage (old 0) IsNotMade → EachImages new IsNotMadeOrEmpty
left_by old new Made e not_made each = files_left_whole (making_calls (old 0).seen) old new IsNotMadeOrEmpty (making_moments old not_made each).moments e.done
left_by old new AlreadyMade e not_made each = files_left_same (making_calls (old 0).seen) old new IsNotMadeOrEmpty (making_moments old not_made each).moments e.same
left_by old new OutsideDisk e not_made each =
    let moments = (making_moments old not_made each).moments in
    ⊎_elim (λ same. files_left_same (making_calls (old 0).seen) old new IsNotMadeOrEmpty moments same) (λ breaks. files_left_by (making_calls (old 0).seen) old new IsNotMadeOrEmpty moments breaks) e
left_by old new Memory e not_made each = files_left_same (making_calls (old 0).seen) old new IsNotMadeOrEmpty (making_moments old not_made each).moments e
left_by old new _ e not_made each = absurd e

pub safe : (id_of : Kind → List ℕ → List ℕ) (old new : Files) (answer : Answer) → InitEnds old new answer → IsSafeInit id_of old new
safe id_of old new answer ends = record { moments = making_moments old; left = left_by old new answer ends; own = λ not_made own. own_making_moments id_of old own not_made }

-- an end of the opened files is one of the archive that they are
pub ends_at : (a b old new : Files) (answer : Answer) → a ≡ old → new ≡ b → InitEnds a b answer → InitEnds old new answer
ends_at a b old new answer given taken ends =
    subst (λ (f : Files). InitEnds old f answer) (sym taken) (subst (λ (f : Files). InitEnds f b answer) given ends)
