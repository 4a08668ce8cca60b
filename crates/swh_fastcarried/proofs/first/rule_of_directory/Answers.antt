use Rattle.std.proofs.Common.{ℕ, Option, refl, sym, subst}
use Rattle.std.specs.Map.{lookup}
use Rattle.std.specs.BTreeMap.{is_at}
use Rattle.swh_base.specs.Name.{name_cmp}
use Rattle.swh_dirfmt.specs.Entries.{entries_in_body}
use Rattle.swh_carried.specs.Ways.{Tells, TellsOfFolders}
use Rattle.swh_fastcarried.specs.RevisionWays.{IsWay}
use Rattle.swh_fastcarried.proofs.Reaching.{if_ok, on_ok, none_broken, nothing_told, folders_told, rule_held}
use Rattle.swh_fastcarried.proofs.first.rule_of_directory.Goals as goal

pub returns-in-Err-NotHeld-clause-rule : goal.returns-in-Err-NotHeld-clause-rule
returns-in-Err-NotHeld-clause-rule g c =
    let gap = rw c.in-Err-NotHeld.field-0-is at c.in-Err-NotHeld.ensures.err in
    none_broken (g.L.Look.archive c.args.look.now).bodies c.args.reached.now.order.now c.args.name gap.1

pub returns-in-Err-NotHeld-clause-ways : goal.returns-in-Err-NotHeld-clause-ways
returns-in-Err-NotHeld-clause-ways g c =
    let gap = rw c.in-Err-NotHeld.field-0-is at c.in-Err-NotHeld.ensures.err in
    let ways = c.args.ways.now.entries in
    nothing_told (g.L.Look.archive c.args.look.now).bodies c.args.name ways ways gap.1 refl (lookup (is_at (name_cmp c.args.name)) ways)

pub returns-clause-rule : goal.returns-clause-rule
returns-clause-rule g c =
    let bodies = (g.L.Look.archive c.args.look.now).bodies in
    let r = c.args.reached.now in
    let entries = entries_in_body c.in-Ok.entries.items in
    if_ok c.rule_of_entries.result
    (rule_held bodies r.order.now c.args.name c.requires.kind entries c.in-Ok.ensures.ok c.way_to-way.result
    (subst (Tells (IsWay bodies r.order.now c.args.name)) (sym c.way_to-way.ensures) c.requires.known)) (rw c.as_slice-2.ensures.value at c.rule_of_entries.ensures)

pub returns-clause-ways : goal.returns-clause-ways
returns-clause-ways g c =
    let bodies = (g.L.Look.archive c.args.look.now).bodies in
    let old = c.args.ways.now.entries in
    let new = c.pass_on.new.ways.entries in
    let over = rw c.as_slice.ensures.value at c.in_ok-pass_on.ensures.some in
    on_ok c.rule_of_entries.result
    (subst (λ (o : Option ℕ). TellsOfFolders bodies c.args.name o old new) c.way_to-way.ensures
    (folders_told bodies c.args.name old new (entries_in_body c.in-Ok.entries.items) c.in-Ok.ensures.ok c.way_to-way.result over c.in_ok-pass_on.ensures.none))
