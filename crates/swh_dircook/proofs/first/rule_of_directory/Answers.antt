use Rattle.std.specs.Map.{lookup}
use Rattle.std.specs.BTreeMap.{is_at}
use Rattle.swh_base.specs.Name.{name_cmp}
use Rattle.swh_dircook.proofs.Rules.{none_broken, none_held, rule_held}
use Rattle.swh_dircook.proofs.first.rule_of_directory.Goals as goal

pub returns-in-Err-NotHeld : goal.returns-in-Err-NotHeld
returns-in-Err-NotHeld g c =
    let gap = rw c.in-Err-NotHeld.field-0-is at c.in-Err-NotHeld.ensures.err in
    none_broken (g.L.Look.archive c.args.look.now).bodies c.args.name c.args.root (none_held (g.L.Look.archive c.args.look.now).bodies c.args.name gap.1)

pub returns : goal.returns
returns g c =
    rule_held (g.L.Look.archive c.args.look.now).bodies c.args.name c.requires.kind c.in-Ok.entries.items c.in-Ok.ensures.ok c.args.root (lookup (is_at (name_cmp c.args.name)) c.args.ways.now.entries)
    (c.requires.ways c.args.name) c.rule_of_entries.result (rw (c.as_slice.ensures.value, c.way_to.ensures) at c.rule_of_entries.ensures)
