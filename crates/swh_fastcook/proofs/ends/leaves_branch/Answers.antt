use Rattle.swh_fastcook.proofs.ends.leaves_branch.Goals as goal

pub returns-then-has_revision : goal.returns-then-has_revision
returns-then-has_revision c =
    (λ yes. (c.has_revision.ensures.0 c.if-has_revision.true, c.lack_cook_branch.ensures.0 yes), λ both. c.lack_cook_branch.ensures.1 both.1)
