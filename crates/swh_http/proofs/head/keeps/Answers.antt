use Rattle.std.proofs.Common.{ℕ, List, Bool, map, ap, sym, ◌∙◌}
use Rattle.std.specs.Prelude.{◌==◌, ◌&&◌, not}
use Rattle.std.specs.Borrow.{Bor}
use Rattle.std.specs.List.{list_any}
use Rattle.swh_http.specs.Field.{has_close}
use Rattle.swh_http.proofs.Fields.{list_any-map}
use Rattle.swh_http.proofs.head.keeps.Goals as goal

pub returns : goal.returns
returns c =
    let said = ap (map (λ (v : Bor (List ℕ)). v.now)) c.as_slice.ensures.value ∙ c.in_ok-connection.ensures in
    c.keeps_open.ensures
    ∙ ap (λ (b : Bool). c.args.minor == 1 && not b)
    (c.asks_close-closes.ensures ∙ sym (list_any-map has_close (λ (v : Bor (List ℕ)). v.now) c.as_slice.result.now) ∙ ap (list_any has_close) said)
