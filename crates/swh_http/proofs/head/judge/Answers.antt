use Rattle.std.proofs.Common.{ℕ, List, length, map, refl, sym, ap, ◌∙◌, arith, subst, inl, inr}
use Rattle.std.specs.Borrow.{Bor}
use Rattle.std.proofs.lemmas.List.{length-map}
use Rattle.std.proofs.lemmas.Bool.{eqb-true}
use Rattle.httparse.specs.Spans.{header_bytes}
use Rattle.swh_http.specs.Field.{AreLength}
use Rattle.swh_http.proofs.Heads.{none-left, no-items}
use Rattle.swh_http.proofs.head.judge.Goals as goal

pub returns-in_default : goal.returns-in_default
returns-in_default c =
    let said = ap (map (λ (v : Bor (List ℕ)). v.now)) c.as_slice.ensures.value ∙ c.in_ok-lengths.ensures in
    inl (refl, λ n are. let P : List (List ℕ) → Type 0 = λ vs. AreLength vs n in c.in_default.ensures.none n (subst P (sym said) are))

pub returns-then-headers-gt-FIELD_LIMIT : goal.returns-then-headers-gt-FIELD_LIMIT
returns-then-headers-gt-FIELD_LIMIT c =
    let said = ap (map (λ (v : Bor (List ℕ)). v.now)) c.as_slice.ensures.value ∙ c.in_ok-lengths.ensures in
    let P : List (List ℕ) → Type 0 = λ vs. AreLength vs c.in-Some.length in
    inr (inl (refl, λ bad. bad c.in-Some.length (subst P said c.in-Some.ensures.some), omega (arith, length-map c.args.headers.now (header_bytes c.args.head.now))))

pub returns-then-not-is_empty : goal.returns-then-not-is_empty
returns-then-not-is_empty c =
    let said = ap (map (λ (v : Bor (List ℕ)). v.now)) c.as_slice.ensures.value ∙ c.in_ok-lengths.ensures in
    let P : List (List ℕ) → Type 0 = λ vs. AreLength vs c.in-Some.length in
    let coded = ap (map (λ (v : Bor (List ℕ)). v.now)) c.as_slice-2.ensures.value ∙ c.in_ok-codings.ensures in
    let some = none-left _ c.if-not-is_empty.ensures in
    inr (inr (inl (
      refl,
      λ bad. bad c.in-Some.length (subst P said c.in-Some.ensures.some),
      λ many. omega (arith, many, length-map c.args.headers.now (header_bytes c.args.head.now)),
      omega (arith, some, ap length coded, length-map c.as_slice-2.result.now (λ (v : Bor (List ℕ)). v.now)),
    )))

pub returns-then-length-gt-BODY_LIMIT : goal.returns-then-length-gt-BODY_LIMIT
returns-then-length-gt-BODY_LIMIT c =
    let said = ap (map (λ (v : Bor (List ℕ)). v.now)) c.as_slice.ensures.value ∙ c.in_ok-lengths.ensures in
    let P : List (List ℕ) → Type 0 = λ vs. AreLength vs c.in-Some.length in
    let are = subst P said c.in-Some.ensures.some in
    let coded = ap (map (λ (v : Bor (List ℕ)). v.now)) c.as_slice-2.ensures.value ∙ c.in_ok-codings.ensures in
    let none = eqb-true _ 0 (sym c.if-not-is_empty.ensures) in
    inr (inr (inr (
      refl,
      λ bad. bad c.in-Some.length are,
      λ many. omega (arith, many, length-map c.args.headers.now (header_bytes c.args.head.now)),
      λ some. omega (arith, some, none, ap length coded, length-map c.as_slice-2.result.now (λ (v : Bor (List ℕ)). v.now)),
      (c.in-Some.length, are, c.if-length-gt-BODY_LIMIT.true),
    )))

pub returns : goal.returns
returns c =
    let said = ap (map (λ (v : Bor (List ℕ)). v.now)) c.as_slice.ensures.value ∙ c.in_ok-lengths.ensures in
    let P : List (List ℕ) → Type 0 = λ vs. AreLength vs c.in-Some.length in
    let coded = ap (map (λ (v : Bor (List ℕ)). v.now)) c.as_slice-2.ensures.value ∙ c.in_ok-codings.ensures in
    let none = eqb-true _ 0 (sym c.if-not-is_empty.ensures) in
    record {
      lengths = subst P said c.in-Some.ensures.some;
      few = omega (arith, length-map c.args.headers.now (header_bytes c.args.head.now));
      plain = no-items _ (omega (arith, none, ap length coded, length-map c.as_slice-2.result.now (λ (v : Bor (List ℕ)). v.now)));
      short = omega arith;
    }
