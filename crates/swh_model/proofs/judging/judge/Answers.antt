use Rattle.swh_model.specs.Archive.{empty_archive}
use Rattle.swh_model.proofs.PlainSteps.{history-named, named-good}
use Rattle.swh_model.proofs.judging.judge.Goals as goal

pub replay-requires : goal.replay-requires
replay-requires c =
    let id_of = c.requires.id_of in
    let h = c.args.history.now in
    named-good id_of h (history-named id_of empty_archive h c.requires.is)

pub unreachable-requires : goal.unreachable-requires
unreachable-requires c =
    let none = rw c.in_default.is at (c.in_ok-state.ensures.none c.requires.id_of) in none c.requires.is
