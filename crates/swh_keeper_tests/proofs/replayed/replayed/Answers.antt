use Rattle.std.proofs.Common.{sym, subst}
use Rattle.std.specs.List.{AllByRecursion}
use Rattle.swh_model.specs.Archive.{empty_archive}
use Rattle.swh_model.specs.Happens.{IsGoodEvent}
use Rattle.swh_model.proofs.PlainSteps.{history-named, named-good}
use Rattle.swh_keeper_tests.proofs.replayed.replayed.Goals as goal

pub replay-requires : goal.replay-requires
replay-requires g c =
    let id_of = g.N.Namer.id_of in
    let h = c.args.history.now.items in
    subst (AllByRecursion IsGoodEvent) (sym c.as_slice.ensures.value) (named-good id_of h (history-named id_of empty_archive h c.requires))
