-- How far bytes go that the line of some kind begins with.
use Rattle.std.proofs.Common.{◌≡◌, ◌≢◌, ℕ, ◌<◌, ◌≤◌, max, inl, inr, List, ◌∷◌, ◌++◌, length, get_or, take, refl, sym, ap, ◌∙◌, subst, arith, append_assoc, length-append, codes}
use Rattle.std.proofs.Math.ListN.{get_or-append}
use Rattle.std.proofs.lemmas.Bool.{cases_lt}
use Rattle.swh_base.specs.declared.kind.Kind.{Kind}
use Rattle.swh_base.specs.declared.kind.Kind.TheVariants.{Content, Directory, Revision, Release, Snapshot}
use Rattle.swh_base.specs.Kind.{word_of}
use Rattle.swh_base.proofs.RevisionLemmas.{no_feed}
use Rattle.swh_base.proofs.Splits.{first_split, sized_split}
use Rattle.swh_revfmt.specs.Reading.{type_text, IsCommonFront, IsTypePlace}
use Rattle.swh_revfmt.proofs.LinePlaces.{front_at}

-- a kind's line and what follows
pub type_then : (kind : Kind) (x : List ℕ) → type_text kind ++ x ≡ codes "type " ++ (word_of kind ++ 10 ∷ (codes "tag " ++ x))
type_then kind x = ap (λ (t : List ℕ). codes "type " ++ t) (append_assoc (word_of kind) (10 ∷ codes "tag ") x)

-- what follows the line of a kind
pub one_type : (a b : Kind) (x y : List ℕ) → type_text a ++ x ≡ type_text b ++ y → x ≡ y
one_type a b x y e =
    let cut = sym (type_then a x) ∙ e ∙ type_then b y in
    let words = sized_split (codes "type ") (codes "type ") (word_of a ++ 10 ∷ (codes "tag " ++ x)) (word_of b ++ 10 ∷ (codes "tag " ++ y)) refl cut in
    let feeds = first_split 10 (word_of a) (word_of b) (codes "tag " ++ x) (codes "tag " ++ y) (no_feed a) (no_feed b) words.1 in
    (sized_split (codes "tag ") (codes "tag ") x y refl feeds.1).1

-- a part of a kind's line that is not the whole
pub record Goes (kind : Kind) (bytes : List ℕ) (n : ℕ) : Type 0 where
  pub common : IsCommonFront (type_text kind) bytes n
  pub part : n < length (type_text kind)

-- no front that is longer goes on as this kind's line
stops : (kind : Kind) (bytes : List ℕ) (n most : ℕ) → Goes kind bytes n → n ≤ most → (m : ℕ) (more rest : List ℕ) → most < m → m ≤ length bytes → take m bytes ++ more ≡ type_text kind ++ rest → ⊥
stops kind bytes n most g le m more rest lt within e =
    g.common.stops g.part (omega arith) (front_at bytes more (type_text kind ++ rest) m n (omega arith) within e ∙ get_or-append (type_text kind) rest 0 n g.part)

not_begun : (kind : Kind) (bytes : List ℕ) (n : ℕ) → Goes kind bytes n → (rest : List ℕ) → bytes ≡ type_text kind ++ rest → ⊥
not_begun kind bytes n g rest e =
    let part = g.part in
    let inside : n < length bytes = omega (arith, ap length e, length-append (type_text kind) rest, part) in
    g.common.stops g.part inside (ap (λ (t : List ℕ). get_or t n 0) e ∙ get_or-append (type_text kind) rest 0 n g.part)

-- some kind's line begins with these many bytes
record Reaches (bytes : List ℕ) (n : ℕ) : Type 0 where
  in_bytes : n ≤ length bytes
  kind : Kind
  no_snapshot : kind ≢ Snapshot
  begins : take n bytes ≡ take n (type_text kind)

farther : (bytes : List ℕ) (a b : ℕ) → Reaches bytes a → Reaches bytes b → Reaches bytes (max a b)
farther bytes a b ra rb =
    elim (cases_lt a b) [
      | inl below ↦ let e : b ≡ max a b = omega arith in subst (Reaches bytes) e rb
      | inr upto ↦ let e : a ≡ max a b = omega arith in subst (Reaches bytes) e ra
    ]

reaches : (kind : Kind) (bytes : List ℕ) (n : ℕ) → kind ≢ Snapshot → Goes kind bytes n → Reaches bytes n
reaches kind bytes n ne g = record { in_bytes = g.common.in_bytes; kind = kind; no_snapshot = ne; begins = g.common.same }

pub type_place : (bytes : List ℕ) (revision directory content release : ℕ) → Goes Revision bytes revision → Goes Directory bytes directory → Goes Content bytes content → Goes Release bytes release → IsTypePlace bytes (max (max revision directory) (max content release))
type_place bytes revision directory content release gr gd gc gl =
    let far = farther bytes (max revision directory) (max content release)
    (farther bytes revision directory (reaches Revision bytes revision (λ e. cc) gr) (reaches Directory bytes directory (λ e. cc) gd))
    (farther bytes content release (reaches Content bytes content (λ e. cc) gc) (reaches Release bytes release (λ e. cc) gl)) in
    let most : ℕ = max (max revision directory) (max content release) in
    record {
      in_bytes = far.in_bytes;
      kind = far.kind;
      no_snapshot = far.no_snapshot;
      begins = far.begins;
      none = λ other rest ne e. elim other as (λ k. k ≢ Snapshot → bytes ≡ type_text k ++ rest → ⊥) [
        | Content ↦ λ _ e. not_begun Content bytes content gc rest e
        | Directory ↦ λ _ e. not_begun Directory bytes directory gd rest e
        | Revision ↦ λ _ e. not_begun Revision bytes revision gr rest e
        | Release ↦ λ _ e. not_begun Release bytes release gl rest e
        | Snapshot ↦ λ n _. n refl
      ] ne e;
      longest = λ m other others rest lt within ne e. elim other as (λ k. k ≢ Snapshot → take m bytes ++ others ≡ type_text k ++ rest → ⊥) [
        | Content ↦ λ _ e. stops Content bytes content most gc (omega arith) m others rest lt within e
        | Directory ↦ λ _ e. stops Directory bytes directory most gd (omega arith) m others rest lt within e
        | Revision ↦ λ _ e. stops Revision bytes revision most gr (omega arith) m others rest lt within e
        | Release ↦ λ _ e. stops Release bytes release most gl (omega arith) m others rest lt within e
        | Snapshot ↦ λ n _. n refl
      ] ne e;
    }
