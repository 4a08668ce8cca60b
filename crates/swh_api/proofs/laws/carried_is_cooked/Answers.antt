use Rattle.swh_api.proofs.CarriedNames.{cooked_if_carried}
use Rattle.swh_api.proofs.laws.carried_is_cooked.Goals as goal

pub returns : goal.returns
returns c = λ a request name reply asks carried is. cooked_if_carried a request name asks carried reply is
