use Rattle.std.specs.List.{All}
use Rattle.swh_memory_input.specs.Links.{IsUnused}
use Rattle.swh_desk_tests.proofs.links.links_of.Given as goal

-- none of the links so far was used
abbrev pub invariant-texts : goal.invariant-texts
invariant-texts l = All IsUnused l.links.items
