use Rattle.std.proofs.Common.{sym, subst}
use Rattle.std.specs.List.{AllByRecursion}
use Rattle.swh_model.specs.Archive.{empty_archive}
use Rattle.swh_model.specs.Happens.{IsGoodEvent}
use Rattle.swh_model.proofs.PlainSteps.{history-named, named-good}
use Rattle.swh_desk.proofs.reading.read_reply.Goals as goal

pub replay_anew-requires : goal.replay_anew-requires
replay_anew-requires g c =
    let id_of = g.N.Namer.id_of in
    let h = c.args.keeper.now.history in
    subst (AllByRecursion IsGoodEvent) (sym c.history.ensures.value) (named-good id_of h (history-named id_of empty_archive h c.history.ensures.kept.history))
