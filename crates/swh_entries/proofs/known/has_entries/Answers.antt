use Rattle.std.proofs.Common.{rules, ◌≡◌, length, arith}
use Rattle.std.proofs.lemmas.List.{ext_get_or}
use Rattle.swh_entries.proofs.Packings.{no_entry}
use Rattle.swh_entries.proofs.known.has_entries.Goals as goal

pub returns : goal.returns
returns c =
    let long : length c.args.node.now.items ≡ length c.args.entries.now = search rules in
    λ yes. ext_get_or no_entry c.args.node.now.items c.args.entries.now long (λ i lt. c.loop-place.invariant i no_entry (omega arith))
