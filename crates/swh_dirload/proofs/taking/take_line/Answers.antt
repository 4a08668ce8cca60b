use Rattle.std.proofs.Common.{inr, inl, refl}
use Rattle.swh_dirload.proofs.TakenLines.{executable_result, link_result}
use Rattle.swh_dirload.proofs.Helds.{mode_held}
use Rattle.swh_dirload.proofs.Onward.{mode_on}
use Rattle.swh_dirload.proofs.taking.take_line.Goals as goal

pub returns-in-Executable-clause-taken : goal.returns-in-Executable-clause-taken
returns-in-Executable-clause-taken c = λ before stand.
    rw c.in-Executable.is
    (executable_result c.args.spots.now.items c.args.places.now.items c.take_mode.new.places.items before c.args.listed.now.path c.take_mode.result c.requires.table c.requires.count stand (rw (c.as_slice.ensures.value, c.as_slice-path.ensures) at c.take_mode.ensures.taken))

pub returns-in-Link-clause-taken : goal.returns-in-Link-clause-taken
returns-in-Link-clause-taken c = λ before stand.
    rw c.in-Link.is
    (link_result c.args.spots.now.items c.args.places.now.items c.take_mode-in-Link.new.places.items before c.args.listed.now.path c.take_mode-in-Link.result c.requires.table c.requires.count stand (rw (c.as_slice-in-Link.ensures.value, c.as_slice-path.ensures) at c.take_mode-in-Link.ensures.taken))

pub returns-in-Executable-clause-held : goal.returns-in-Executable-clause-held
returns-in-Executable-clause-held c = λ names held.
    mode_held names c.args.spots.now.items c.args.listed.now.path c.args.places.now.items c.take_mode.new.places.items 100755 c.take_mode.result (inr (inl refl)) (rw (c.as_slice.ensures.value, c.as_slice-path.ensures) at c.take_mode.ensures.taken) held

pub returns-in-Link-clause-held : goal.returns-in-Link-clause-held
returns-in-Link-clause-held c = λ names held.
    mode_held names c.args.spots.now.items c.args.listed.now.path c.args.places.now.items c.take_mode-in-Link.new.places.items 120000 c.take_mode-in-Link.result (inr (inr refl)) (rw (c.as_slice-in-Link.ensures.value, c.as_slice-path.ensures) at c.take_mode-in-Link.ensures.taken) held

pub returns-in-Executable-clause-goes : goal.returns-in-Executable-clause-goes
returns-in-Executable-clause-goes c =
    mode_on c.args.spots.now.items c.args.listed.now.path c.args.places.now.items c.take_mode.new.places.items 100755 c.take_mode.result c.requires.count (rw (c.as_slice.ensures.value, c.as_slice-path.ensures) at c.take_mode.ensures.taken)

pub returns-in-Link-clause-goes : goal.returns-in-Link-clause-goes
returns-in-Link-clause-goes c =
    mode_on c.args.spots.now.items c.args.listed.now.path c.args.places.now.items c.take_mode-in-Link.new.places.items 120000 c.take_mode-in-Link.result c.requires.count (rw (c.as_slice-in-Link.ensures.value, c.as_slice-path.ensures) at c.take_mode-in-Link.ensures.taken)
