use Rattle.std.proofs.Common.{◌≡◌, ◌+◌, ◌*◌, ◌≤◌, ◌++◌, drop, length, vec_capacity}
use Rattle.swh_base.specs.Escape.{escaped}
use Rattle.swh_loader.proofs.writing.put_escaped.Given as goal

abbrev pub invariant-bytes : goal.invariant-bytes
invariant-bytes l = record {
  items : l.out.items ++ escaped (drop l.byte-index l.bytes) ≡ l.fn.out.items ++ escaped l.bytes;
  short : length l.out.items ≤ length l.fn.out.items + 3 * l.byte-index;
  capacity : vec_capacity l.fn.out ≤ vec_capacity l.out;
}
