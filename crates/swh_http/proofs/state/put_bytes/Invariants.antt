use Rattle.std.proofs.Common.{◌≡◌, ◌+◌, ◌++◌, take, vec_len, vec_capacity}
use Rattle.swh_http.proofs.state.put_bytes.Given as goal

abbrev pub invariant-loop-byte : goal.invariant-loop-byte
invariant-loop-byte l = record {
  items : l.body.items ≡ l.initial.body.items ++ take l.byte-index l.more;
  longer : vec_len l.body ≡ vec_len l.initial.body + l.byte-index;
  room : vec_capacity l.body ≡ vec_capacity l.initial.body;
}
