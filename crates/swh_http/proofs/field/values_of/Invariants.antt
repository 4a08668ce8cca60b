use Rattle.std.proofs.Common.{◌≡◌, List, ℕ, map, take}
use Rattle.std.specs.Borrow.{Bor}
use Rattle.httparse.specs.Spans.{header_bytes}
use Rattle.swh_http.specs.Field.{values}
use Rattle.swh_http.proofs.field.values_of.Given as goal

abbrev pub invariant-loop-header : goal.invariant-loop-header
invariant-loop-header l =
    map (λ (v : Bor (List ℕ)). v.now) l.found.items ≡ values l.name (map (header_bytes l.head) (take l.header-index l.headers))
