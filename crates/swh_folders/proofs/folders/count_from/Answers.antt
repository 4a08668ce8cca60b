use Rattle.std.proofs.Common.{rules, ◌≡◌, length, refl, arith}
use Rattle.swh_folders.specs.declared.folders.Folders.{Folders}
use Rattle.swh_folders.specs.Working.{IsTallied}
use Rattle.swh_folders.proofs.Tallies.{tallied-all}
use Rattle.swh_folders.proofs.folders.count_from.Goals as goal

pub returns-in-Some-clause-tallied : goal.returns-in-Some-clause-tallied
returns-in-Some-clause-tallied c =
    let old = c.args.folders.now in
    let none : Folders = record { names = old.names; nodes = old.nodes; known = old.known; counted = c.args.first; entries = 0; room = old.room; most = old.most } in
    let counted : IsTallied c.args.first none = record { from = omega arith; up_to = c.requires; sum = omega arith } in
    let count : c.len-count.result ≡ length old.nodes.items = search rules in
    tallied-all c.args.first none _ counted refl count c.in-Some.ensures.sum
