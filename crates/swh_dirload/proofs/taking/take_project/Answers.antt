use Rattle.swh_dirload.specs.declared.lookup.Lookup.TheVariants.{Free, Lost}
use Rattle.swh_dirload.specs.Index.{LooksUp}
use Rattle.swh_dirload.proofs.TakenLines.{project_result, project_none}
use Rattle.swh_dirload.proofs.Helds.{project_held}
use Rattle.swh_dirload.proofs.Onward.{project_on}
use Rattle.swh_dirload.proofs.taking.take_project.Goals as goal

pub returns-in-Free-clause-taken : goal.returns-in-Free-clause-taken
returns-in-Free-clause-taken c = λ before stand.
    let spots = c.args.spots.now.items in
    let looks : LooksUp spots c.args.path.now (Free c.in-Free.above c.in-Free.name) = rw (c.in-Free.is, c.as_slice.ensures.value) at c.in_ok-above.ensures in
    project_result spots c.add_project.new.spots.items c.args.places.now.items c.add_project.new.places.items before c.args.path.now c.args.id c.in-Free.above c.in-Free.name c.add_project.result c.requires.table c.requires.count stand looks c.add_project.ensures.adds

pub returns-in-Lost-clause-taken : goal.returns-in-Lost-clause-taken
returns-in-Lost-clause-taken c = λ before stand good may.
    let spots = c.args.spots.now.items in
    let looks : LooksUp spots c.args.path.now Lost = rw (c.in-Lost.is, c.as_slice.ensures.value) at c.in_ok-above.ensures in
    project_none spots c.args.places.now.items before c.args.path.now c.args.id Lost (λ a n is. absurd (cc)) c.requires.table stand looks may

pub returns-in-Free-clause-held : goal.returns-in-Free-clause-held
returns-in-Free-clause-held c = λ names held.
    project_held names c.in-Free.above c.in-Free.name c.args.id c.args.spots.now.items c.add_project.new.spots.items c.args.places.now.items c.add_project.new.places.items c.add_project.result c.add_project.ensures.adds held

pub returns-in-Free-clause-goes : goal.returns-in-Free-clause-goes
returns-in-Free-clause-goes c =
    project_on c.in-Free.above c.in-Free.name c.args.id c.args.spots.now.items c.add_project.new.spots.items c.args.places.now.items c.add_project.new.places.items c.add_project.result c.requires.count c.add_project.ensures.adds
