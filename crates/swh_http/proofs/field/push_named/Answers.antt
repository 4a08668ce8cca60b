use Rattle.std.proofs.Common.{◌≡◌, ℕ, List, [], ◌∷◌, ◌++◌, map, ap, sym, ◌∙◌, true, false}
use Rattle.std.specs.Borrow.{Bor}
use Rattle.std.specs.Str.{str_eq_ignore_ascii_case}
use Rattle.std.proofs.lemmas.List.{map-append, append-nil}
use Rattle.httparse.specs.Spans.{header_bytes}
use Rattle.swh_http.specs.Field.{values}
use Rattle.swh_http.proofs.Fields.{values-yes, values-no}
use Rattle.swh_http.proofs.field.push_named.Goals as goal

pub returns-in_ok-push : goal.returns-in_ok-push
returns-in_ok-push c =
    let field = header_bytes c.args.head.now c.args.header.now in
    let same : str_eq_ignore_ascii_case field.0 c.args.name.now ≡ true =
    ap (λ (x : List ℕ). str_eq_ignore_ascii_case x c.args.name.now) (sym c.of.ensures) ∙ sym c.is_same_word.ensures ∙ c.if-is_same_word.true in
    let pushed : c.of-then-is_same_word.result.now ∷ [] ≡ values c.args.name.now (field ∷ []) =
    ap (λ (x : List ℕ). x ∷ []) c.of-then-is_same_word.ensures ∙ sym (values-yes c.args.name.now field same) in
    ap (map (λ (v : Bor (List ℕ)). v.now)) c.in_ok-push.ensures.items
    ∙ map-append (λ (v : Bor (List ℕ)). v.now) c.args.found.now.items (c.of-then-is_same_word.result ∷ [])
    ∙ ap (λ (x : List (List ℕ)). map (λ (v : Bor (List ℕ)). v.now) c.args.found.now.items ++ x) pushed

pub returns-else-is_same_word : goal.returns-else-is_same_word
returns-else-is_same_word c =
    let field = header_bytes c.args.head.now c.args.header.now in
    let other : str_eq_ignore_ascii_case field.0 c.args.name.now ≡ false =
    ap (λ (x : List ℕ). str_eq_ignore_ascii_case x c.args.name.now) (sym c.of.ensures) ∙ sym c.is_same_word.ensures ∙ c.if-is_same_word.false in
    sym (ap (λ (x : List (List ℕ)). map (λ (v : Bor (List ℕ)). v.now) c.args.found.now.items ++ x) (values-no c.args.name.now field other)
    ∙ append-nil (map (λ (v : Bor (List ℕ)). v.now) c.args.found.now.items))
