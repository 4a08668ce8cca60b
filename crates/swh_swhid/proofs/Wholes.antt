-- Pieces without a `;`: what the grammar's parts are, and where a text is cut at them.
use Rattle.std.proofs.Common.{◌≡◌, ◌≢◌, ℕ, ◌==◌, Bool, true, ◌&&◌, not, ◌⊎◌, inl, inr, Option, Some, None, List, [], ◌∷◌, ◌++◌, decimal, refl, sym, ap, ◌∙◌, subst, arith, append_assoc}
use Rattle.std.specs.List.{AllByRecursion}
use Rattle.std.proofs.lemmas.Bool.{and_parts, cases_order}
use Rattle.std.proofs.lemmas.Bool.Decides.{nat_tests}
use Rattle.std.proofs.lemmas.List.{append-nil}
use Rattle.std.proofs.lemmas.List.Elements.{recursion_from_All}
use Rattle.hex.specs.Hex.{encode_lower}
use Rattle.swh_base.specs.Name.{is_lower_hex_digit}
use Rattle.swh_base.specs.declared.kind.Kind.{Kind}
use Rattle.swh_base.specs.declared.kind.Kind.TheVariants.{Content, Directory, Revision, Release, Snapshot}
use Rattle.swh_swhid.specs.declared.identifier.Role.{Role}
use Rattle.swh_swhid.specs.declared.swhid.Key.{Key}
use Rattle.swh_swhid.specs.declared.swhid.Key.TheVariants.{Origin, Visit, Anchor, Path, Lines, Bytes}
use Rattle.swh_swhid.specs.declared.swhid.Swhid.{Swhid}
use Rattle.swh_swhid.specs.Front.{BreaksAt}
use Rattle.swh_swhid.specs.Core.{kind_word, lead, HasCore}
use Rattle.swh_swhid.specs.Number.{HasRange, IsRange, range_text}
use Rattle.swh_swhid.specs.Text.{is_text_byte, IsText, IsPathText}
use Rattle.swh_swhid.specs.Qualifier.{key_word, IsValueText, MayComeNext}
use Rattle.swh_swhid.specs.Reading.{is_whole, IsPieceEnd}
use Rattle.swh_base.proofs.Ids.{IsIdText-encode}
use Rattle.swh_swhid.proofs.Numerals.{AreDigits, text_number}

both_true : (a b : Bool) → a ≡ true → b ≡ true → a && b ≡ true
both_true a b e f = rw (e, f) refl

not_semicolon : (c : ℕ) → (c ≡ 59 → ⊥) → not (c == 59) ≡ true
not_semicolon c h = grind (arith, nat_tests)

semicolon_not : (c : ℕ) → not (c == 59) ≡ true → c ≡ 59 → ⊥
semicolon_not c h e = let at : not (59 == 59) ≡ true = subst (λ (k : ℕ). not (k == 59) ≡ true) e h in absurd cc

whole-append : (a b : List ℕ) → is_whole a ≡ true → is_whole b ≡ true → is_whole (a ++ b) ≡ true
whole-append [] b h k = k
whole-append (c ∷ a) b h k = let parts = and_parts (not (c == 59)) (is_whole a) h in both_true (not (c == 59)) (is_whole (a ++ b)) parts.0 (whole-append a b parts.1 k)

whole-front : (a b : List ℕ) → is_whole (a ++ b) ≡ true → is_whole a ≡ true
whole-front [] b h = refl
whole-front (c ∷ a) b h = let parts = and_parts (not (c == 59)) (is_whole (a ++ b)) h in both_true (not (c == 59)) (is_whole a) parts.0 (whole-front a b parts.1)

whole-behind : (a b : List ℕ) → is_whole (a ++ b) ≡ true → is_whole b ≡ true
whole-behind [] b h = h
whole-behind (c ∷ a) b h = let parts = and_parts (not (c == 59)) (is_whole (a ++ b)) h in whole-behind a b parts.1

whole-lower : (ds : List ℕ) → AllByRecursion (λ c. is_lower_hex_digit c ≡ true) ds → is_whole ds ≡ true
whole-lower [] h = refl
whole-lower (c ∷ ds) h = let lower = h.0 in both_true (not (c == 59)) (is_whole ds) (not_semicolon c (λ e. let at : is_lower_hex_digit 59 ≡ true = subst (λ (k : ℕ). is_lower_hex_digit k ≡ true) e lower in absurd cc)) (whole-lower ds h.1)

whole-digits : (ds : List ℕ) → AreDigits ds → is_whole ds ≡ true
whole-digits [] h = refl
whole-digits (c ∷ ds) h = let digit = h.0 in both_true (not (c == 59)) (is_whole ds) (not_semicolon c (λ e. omega (arith, digit, e))) (whole-digits ds h.1)

whole-text : (t : List ℕ) → IsText t → is_whole t ≡ true
whole-text [] h = refl
whole-text (c ∷ t) h = let byte = h.0 in both_true (not (c == 59)) (is_whole t) (not_semicolon c (λ e. let at : is_text_byte 59 ≡ true = subst (λ (k : ℕ). is_text_byte k ≡ true) e byte in absurd cc)) (whole-text t h.2)

whole-kind : (k : Kind) → is_whole (kind_word k) ≡ true
whole-kind Content = refl
whole-kind Directory = refl
whole-kind Revision = refl
whole-kind Release = refl
whole-kind Snapshot = refl

whole-key : (k : Key) → is_whole (key_word k) ≡ true
whole-key Origin = refl
whole-key Visit = refl
whole-key Anchor = refl
whole-key Path = refl
whole-key Lines = refl
whole-key Bytes = refl

along : (t u : List ℕ) → t ≡ u → is_whole u ≡ true → is_whole t ≡ true
along t u e h = ap is_whole e ∙ h

pub whole-core : (place : Role) (t : List ℕ) → HasCore place t → is_whole t ≡ true
whole-core place t h =
    let id = recursion_from_All (λ c. is_lower_hex_digit c ≡ true) (encode_lower h.name.id) (IsIdText-encode h.name.id h.core.named).1 in
    along t _ h.core.spelled (whole-append lead (kind_word h.name.kind ++ encode_lower h.name.id) refl (whole-append (kind_word h.name.kind) (encode_lower h.name.id) (whole-kind h.name.kind) (whole-lower (encode_lower h.name.id) id)))

whole-range_text : (least first : ℕ) (more : Option ℕ) → IsRange least first more → is_whole (range_text first more) ≡ true
whole-range_text least first None r = whole-digits (decimal first) (text_number first r.small).0.are_digits
whole-range_text least first (Some last) r = whole-append (decimal first) (45 ∷ decimal last) (whole-digits (decimal first) (text_number first r.small).0.are_digits) (whole-digits (decimal last) (text_number last r.last.1).0.are_digits)

whole-range : (least : ℕ) (t : List ℕ) → HasRange least t → is_whole t ≡ true
whole-range least t h = along t _ h.spelled (whole-range_text least h.first h.more h.range)

whole-path : (t : List ℕ) → IsPathText t → is_whole t ≡ true
whole-path [] h = refl
whole-path (c ∷ t) h = let slash = h.0 in both_true (not (c == 59)) (is_whole t) (not_semicolon c (λ e. omega (arith, slash, e))) (whole-text t h.1)

whole-value : (k : Key) (t : List ℕ) → IsValueText k t → is_whole t ≡ true
whole-value Origin t h = whole-text t h.1
whole-value Visit t h = whole-core _ t h
whole-value Anchor t h = whole-core _ t h
whole-value Path t h = whole-path t h
whole-value Lines t h = whole-range 1 t h
whole-value Bytes t h = whole-range 0 t h

pub whole-next : (s : Swhid) (t : List ℕ) → MayComeNext s t → is_whole t ≡ true
whole-next s t h = along t _ h.spelled (whole-append (key_word h.key) h.rest (whole-key h.key) (whole-value h.key h.rest h.follows))

closed_head : (z x : List ℕ) (c : ℕ) → IsPieceEnd z → z ≡ c ∷ x → c ≡ 59
closed_head z x c h e = subst IsPieceEnd e h

-- two pieces and what is closed after them
pub same_piece : (q p z y : List ℕ) → is_whole q ≡ true → is_whole p ≡ true → IsPieceEnd z → IsPieceEnd y → q ++ z ≡ p ++ y → (q ≡ p) × (z ≡ y)
same_piece [] [] z y hq hp hz hy e = (refl, e)
same_piece [] (c ∷ p) z y hq hp hz hy e = absurd (semicolon_not c (and_parts (not (c == 59)) (is_whole p) hp).0 (closed_head z (p ++ y) c hz e))
same_piece (c ∷ q) [] z y hq hp hz hy e = absurd (semicolon_not c (and_parts (not (c == 59)) (is_whole q) hq).0 (closed_head y (q ++ z) c hy (sym e)))
same_piece (c ∷ q) (d ∷ p) z y hq hp hz hy e =
    let same : c ≡ d = cc in
    let after : q ++ z ≡ p ++ y = cc in
    let both = same_piece q p z y (and_parts (not (c == 59)) (is_whole q) hq).1 (and_parts (not (d == 59)) (is_whole p) hp).1 hz hy after in
    let fronts = both.0 in (cc, both.1)

longer_piece : (q f z x : List ℕ) (c : ℕ) → is_whole f ≡ true → IsPieceEnd z → (c ≡ 59 → ⊥) → q ++ z ≡ f ++ c ∷ x → (more : List ℕ) × (q ≡ f ++ c ∷ more)
longer_piece [] [] z x c hf hz ne e = absurd (ne (closed_head z x c hz e))
longer_piece [] (d ∷ f) z x c hf hz ne e = absurd (semicolon_not d (and_parts (not (d == 59)) (is_whole f) hf).0 (closed_head z (f ++ c ∷ x) d hz e))
longer_piece (d ∷ q) [] z x c hf hz ne e = let same : d ≡ c = cc in (q, cc)
longer_piece (d ∷ q) (a ∷ f) z x c hf hz ne e =
    let same : d ≡ a = cc in
    let after : q ++ z ≡ f ++ c ∷ x = cc in
    let rest = longer_piece q f z x c (and_parts (not (a == 59)) (is_whole f) hf).1 hz ne after in
    let found = rest.1 in (rest.0, cc)

-- A text that begins with a piece of a language and is closed after it.
pub record Begins (L : List ℕ → Type 0) (text : List ℕ) : Type 0 where
  pub piece : List ℕ
  pub rest : List ℕ
  pub cut : text ≡ piece ++ rest
  pub good : L piece
  pub closed : IsPieceEnd rest

is_semicolon : (b : ℕ) → (b ≡ 59) ⊎ (b ≢ 59)
is_semicolon b = elim (cases_order b 59) [
  | inl same ↦ inl same
  | inr (inl less) ↦ inr (λ e. omega (arith, e, less))
  | inr (inr more) ↦ inr (λ e. omega (arith, e, more))
]

head_whole : (r y tail : List ℕ) (c : ℕ) → is_whole r ≡ true → r ++ y ≡ c ∷ tail → c ≡ 59 → r ≡ []
head_whole [] y tail c h e is = refl
head_whole (d ∷ r) y tail c h e is = let same : d ≡ c = cc in absurd (semicolon_not d (and_parts (not (d == 59)) (is_whole r) h).0 (same ∙ is))

head_other : (r y tail : List ℕ) (c : ℕ) → IsPieceEnd y → r ++ y ≡ c ∷ tail → (c ≡ 59 → ⊥) → (more : List ℕ) × (r ≡ c ∷ more)
head_other [] y tail c h e ne = absurd (ne (closed_head y tail c h e))
head_other (d ∷ r) y tail c h e ne = let same : d ≡ c = cc in (r, cc)

-- Where a piece breaks, so does the text that has it in front.
pub piece_breaks : (L K : List ℕ → Type 0) (p y : List ℕ) (n : ℕ) → ((q : List ℕ) → L q → is_whole q ≡ true) → ((t : List ℕ) → K t → Begins L t) → ((q : List ℕ) → L q → K q) → is_whole p ≡ true → IsPieceEnd y → BreaksAt L p n → BreaksAt K (p ++ y) n
piece_breaks L K p y n whole out into hp hy b =
    let joined : is_whole (b.front ++ b.rest) ≡ true = ap is_whole (sym b.cut) ∙ hp in
    let hf = whole-front b.front b.rest joined in
    let hr = whole-behind b.front b.rest joined in
    record {
      front = b.front;
      rest = b.rest ++ y;
      cut = ap (λ (t : List ℕ). t ++ y) b.cut ∙ append_assoc b.front b.rest y;
      here = b.here;
      more = b.more;
      goes_on = into (b.front ++ b.more) b.goes_on;
      stops = λ c tail x e h.
          let begun = out (b.front ++ c ∷ x) h in
          elim (is_semicolon c) [
            | inl semi ↦
                let both = same_piece begun.piece b.front begun.rest (c ∷ x) (whole begun.piece begun.good) hf begun.closed semi (sym begun.cut) in
                let none = head_whole b.rest y tail c hr e semi in
                let all : p ≡ b.front = b.cut ∙ ap (λ (t : List ℕ). b.front ++ t) none ∙ append-nil b.front in
                b.refused (subst L (both.0 ∙ sym all) begun.good)
            | inr other ↦
                let longer = longer_piece begun.piece b.front begun.rest x c hf begun.closed other (sym begun.cut) in
                let rest = head_other b.rest y tail c hy e other in
                b.stops c rest.0 longer.0 rest.1 (subst L longer.1 begun.good)
          ];
      refused = λ h.
          let begun = out (p ++ y) h in
          let both = same_piece begun.piece p begun.rest y (whole begun.piece begun.good) hp begun.closed hy (sym begun.cut) in
          b.refused (subst L both.0 begun.good);
    }

pub whole-push : (t : List ℕ) (c : ℕ) → is_whole t ≡ true → (c ≡ 59 → ⊥) → is_whole (t ++ c ∷ []) ≡ true
whole-push t c h ne = whole-append t (c ∷ []) h (both_true (not (c == 59)) true (not_semicolon c ne) refl)
