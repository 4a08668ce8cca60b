use Rattle.swh_api.proofs.routing.route.Goals as goal

pub returns-in_default : goal.returns-in_default
returns-in_default c = λ origin h. (rw c.as_slice.ensures at c.in_default.ensures.none) h.text h.path
