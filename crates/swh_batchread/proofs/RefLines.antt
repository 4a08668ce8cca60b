-- Lines of refs: what a line has to be to be one, and that a text begins with one at most.
use Rattle.std.proofs.Common.{◌≡◌, ◌≢◌, ℕ, ◌≤◌, ◌-◌, Option, Some, None, List, [], ◌∷◌, ◌++◌, length, take, Contains, refl, sym, ap, ◌∙◌, subst, arith, append_assoc, length-append}
use Rattle.hex.specs.Hex.{encode_lower}
use Rattle.swh_base.specs.Limits.{line_limit}
use Rattle.swh_base.specs.Name.{IsIdText}
use Rattle.swh_base.proofs.HexLines.{hex-injective}
use Rattle.swh_base.proofs.Ids.{IsIdText-encode}
use Rattle.swh_base.proofs.Splits.{first_split, not_nil}
use Rattle.std.proofs.lemmas.List.Elements.{Contains-append_right}
use Rattle.swh_fastlex.specs.Line.{IsLine}
use Rattle.swh_fastlex.proofs.Windows.{none_joined}
use Rattle.swh_base.proofs.Middle.{in_middle}
use Rattle.swh_batchread.specs.Refs.{RefLine, ref_line, ref_text, IsRefLine}
use Rattle.swh_batchread.specs.declared.ref_line.RefIn.{RefIn}
use Rattle.swh_batchread.specs.RefSteps.{line_of, IsRefBefore, IsRefIn}
use Rattle.swh_batchread.proofs.Headers.{hex_no, none_cons}

-- no line is this ref's
abbrev pub NotRef : List ℕ → Type 0
NotRef line = (r : RefLine) → IsRefLine r → line ≡ ref_line r → ⊥

pub ref-no_space : (line : List ℕ) → (Contains line 32 → ⊥) → NotRef line
ref-no_space line none r is e = none (subst (λ (t : List ℕ). Contains t 32) (sym e) (in_middle (encode_lower r.id) r.name 32))

-- what stands before and after the first space
after_id : (line hex name : List ℕ) → (Contains hex 32 → ⊥) → line ≡ hex ++ 32 ∷ name → (r : RefLine) → IsRefLine r → line ≡ ref_line r → (hex ≡ encode_lower r.id) × (name ≡ r.name)
after_id line hex name none cut r is e = first_split 32 hex (encode_lower r.id) name r.name none (hex_no r.id 32 is.id refl) (sym cut ∙ e)

pub ref-no_id : (line hex name : List ℕ) → (Contains hex 32 → ⊥) → line ≡ hex ++ 32 ∷ name → (IsIdText hex → ⊥) → NotRef line
ref-no_id line hex name none cut never r is e = never (subst IsIdText (sym (after_id line hex name none cut r is e).0) (IsIdText-encode r.id is.id))

pub ref-no_name : (line hex name : List ℕ) → (Contains hex 32 → ⊥) → line ≡ hex ++ 32 ∷ name → ((name ≢ []) × (Contains name 0 → ⊥) → ⊥) → NotRef line
ref-no_name line hex name none cut never r is e =
    let same = (after_id line hex name none cut r is e).1 in
    never (subst (λ (t : List ℕ). t ≢ []) (sym same) is.some, subst (λ (t : List ℕ). Contains t 0 → ⊥) (sym same) is.no_nul)

-- a name with a NUL in it
pub has_nul : (name front rest : List ℕ) → name ≡ front ++ 0 ∷ rest → Contains name 0
has_nul name front rest cut = subst (λ (t : List ℕ). Contains t 0) (sym cut) (in_middle front rest 0)

-- the parts make a line
pub whole_ref : (line hex name id : List ℕ) → line ≡ hex ++ 32 ∷ name → hex ≡ encode_lower id → line ≡ encode_lower id ++ 32 ∷ name
whole_ref line hex name id cut i = cut ∙ ap (λ (t : List ℕ). t ++ 32 ∷ name) i

pub ref_no_feed : (r : RefLine) → IsRefLine r → Contains (ref_line r) 10 → ⊥
ref_no_feed r is =
    let name = none_cons 32 10 r.name (λ e. absurd (omega arith)) is.no_feed in
    none_joined (encode_lower r.id) (32 ∷ r.name) 10 (hex_no r.id 10 is.id refl) name

abbrev pub made : List ℕ → List ℕ → RefLine
made id name = record { id = id; name = name }

pub one_ref_line : (r q : RefLine) → IsRefLine r → IsRefLine q → ref_line r ≡ ref_line q → r ≡ q
one_ref_line r q is js e =
    let both = first_split 32 (encode_lower r.id) (encode_lower q.id) r.name q.name (hex_no r.id 32 is.id refl) (hex_no q.id 32 js.id refl) e in
    ap (λ (x : List ℕ). made x r.name) (hex-injective r.id q.id is.id.1 js.id.1 both.0) ∙ ap (made q.id) both.1

pub ref_then : (r : RefLine) (x : List ℕ) → ref_text r ++ x ≡ ref_line r ++ 10 ∷ x
ref_then r x = append_assoc (ref_line r) (10 ∷ []) x

pub one_ref : (r q : RefLine) (x y : List ℕ) → IsRefLine r → IsRefLine q → ref_text r ++ x ≡ ref_text q ++ y → (r ≡ q) × (x ≡ y)
one_ref r q x y is js e =
    let both = first_split 10 (ref_line r) (ref_line q) x y (ref_no_feed r is) (ref_no_feed q js) (sym (ref_then r x) ∙ e ∙ ref_then q y) in
    (one_ref_line r q is js both.0, both.1)

pub ref_not_nil : (r : RefLine) (x : List ℕ) → ref_text r ++ x ≡ [] → ⊥
ref_not_nil r x e = not_nil (ref_line r) x 10 (sym (ref_then r x) ∙ e)

-- a line without its LF is what stands before that
front_same : (line : List ℕ) → (l : IsLine line) → take (length line - 1) line ≡ l.front
front_same line l =
    let size = ap length l.text ∙ length-append l.front (10 ∷ []) in
    let count : length line - 1 ≡ length l.front = omega (arith, size) in
    ap (λ (n : ℕ). take n line) count ∙ ap (take (length l.front)) l.text ∙ taken l.front (10 ∷ [])
  where
    taken : (a b : List ℕ) → take (length a) (a ++ b) ≡ a
    taken [] b = refl
    taken (c ∷ a) b = ap (λ (t : List ℕ). c ∷ t) (taken a b)

-- what a line says with its LF is what it says without
pub ref_with_feed : (line : List ℕ) (r : Option RefIn) → IsLine line → length line ≤ line_limit → IsRefBefore (take (length line - 1) line) r → IsRefIn line r
ref_with_feed line (Some r) l short h =
    let front : l.front ≡ ref_line (line_of r) = sym (front_same line l) ∙ h.3 in
    let whole : line ≡ ref_text (line_of r) = l.text ∙ ap (λ (t : List ℕ). t ++ 10 ∷ []) front in
    let none : Contains (ref_line (line_of r)) 10 → ⊥ = subst (λ (t : List ℕ). Contains t 10 → ⊥) front l.no_feed in
    let size = ap length whole in (
      record {
        id = h.0;
        some = h.1;
        no_nul = h.2;
        no_feed = λ c. none (in_tail (encode_lower r.id ++ 32 ∷ []) r.name.now 10 (ref_line (line_of r)) (append_assoc (encode_lower r.id) (32 ∷ []) r.name.now) c);
        short = omega (arith, size, short);
      },
      whole,
    )
  where
    in_tail : (a b : List ℕ) (x : ℕ) (whole : List ℕ) → (a ++ b ≡ whole) → Contains b x → Contains whole x
    in_tail a b x whole e c = subst (λ (t : List ℕ). Contains t x) e (Contains-append_right a b x c)
ref_with_feed line None l short h = λ r is e.
    let both = first_split 10 l.front (ref_line r) [] [] l.no_feed (ref_no_feed r is) (sym l.text ∙ e) in
    h r is (front_same line l ∙ both.0)
