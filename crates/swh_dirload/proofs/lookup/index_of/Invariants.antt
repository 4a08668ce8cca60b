use Rattle.std.proofs.Common.{◌<◌, ◌≤◌, length}
use Rattle.swh_dirload.specs.Index.{IsIndexTo}
use Rattle.swh_dirload.proofs.lookup.index_of.Given as goal

abbrev pub invariant-spots : goal.invariant-spots
invariant-spots l = record {
  some : 0 < l.number;
  within : l.number ≤ length l.spots;
  index : IsIndexTo l.spots l.number l.numbers.entries;
}
