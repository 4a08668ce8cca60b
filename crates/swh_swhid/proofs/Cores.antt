-- Core identifiers: each name has one, and how far a text goes along with them.
use Rattle.std.proofs.Common.{◌≡◌, ℕ, ◌+◌, ◌<◌, ◌≤◌, true, List, ◌++◌, length, drop, Some, Result, Ok, Err, replicate, refl, sym, ap, ◌∙◌, subst, arith, length-drop}
use Rattle.std.specs.Prelude.{IfOk, IfErr}
use Rattle.std.specs.Result.{result_ok}
use Rattle.std.proofs.lemmas.List.{take-append-drop, append_cancel_left, drop-drop}
use Rattle.std.proofs.Math.Seq.{take-length}
use Rattle.hex.specs.Hex.{encode_lower}
use Rattle.swh_base.specs.Name.{IsName, IsIdText}
use Rattle.swh_base.specs.declared.kind.Kind.{Kind}
use Rattle.swh_base.specs.declared.kind.Kind.TheVariants.{Snapshot}
use Rattle.swh_base.specs.declared.name.Name.{Name}
use Rattle.swh_base.proofs.HexLines.{hex-injective}
use Rattle.swh_swhid.specs.declared.identifier.Role.{Role}
use Rattle.swh_swhid.specs.declared.identifier.Role.TheVariants.{Text}
use Rattle.swh_swhid.specs.Front.{BreaksAt, Chosen, common}
use Rattle.swh_swhid.specs.Core.{accepts, kind_word, lead, along, core_text, IsCore, HasCore, KindAndId}
use Rattle.swh_swhid.proofs.Fronts.{common-le, take-common, breaks_after, breaks_same, chosen_breaks}
use Rattle.swh_base.proofs.Ids.{spelled_id, IsId-from_text, IsIdText-encode}
use Rattle.swh_swhid.proofs.Ids.{zeros-id}
use Rattle.swh_swhid.proofs.KindWords.{one_kind, length-kind_word, accepted_along, accepts-Snapshot}

-- a core identifier after its lead, both ways
core_in : (place : Role) (y : List ℕ) → KindAndId place y → HasCore place (lead ++ y)
core_in place y h =
    let id = spelled_id h.rest h.follows in
    record {
      name = record { kind = h.key; id = id.id };
      core = record { accepted = h.may_stand; named = IsId-from_text h.rest id.id h.follows id.same; spelled = ap (λ (t : List ℕ). lead ++ t) (h.spelled ∙ ap (λ (t : List ℕ). kind_word h.key ++ t) id.same) };
    }

core_out : (place : Role) (y : List ℕ) → HasCore place (lead ++ y) → KindAndId place y
core_out place y h = record {
  key = h.name.kind;
  may_stand = h.core.accepted;
  rest = encode_lower h.name.id;
  spelled = append_cancel_left lead y (kind_word h.name.kind ++ encode_lower h.name.id) h.core.spelled;
  follows = IsIdText-encode h.name.id h.core.named;
}

abbrev Led : Role → List ℕ → Type 0
Led place = Chosen (Unit {0}) (λ _. lead) (λ _. true) (λ _. KindAndId place)

-- a text without the lead
pub lead_breaks : (place : Role) (text : List ℕ) (n : ℕ) → n ≡ common lead text → n < 6 → BreaksAt (HasCore place) text n
lead_breaks place text n e short =
    let zeros : KindAndId place (kind_word Snapshot ++ replicate 40 48) = record { key = Snapshot; may_stand = accepts-Snapshot place; rest = replicate 40 48; spelled = refl; follows = zeros-id } in
    breaks_same (HasCore place) (Led place) text n
    (λ y h. subst (HasCore place) (sym h.spelled) (core_in place h.rest h.follows))
    (λ y h. record { key = tt; may_stand = refl; rest = kind_word h.name.kind ++ encode_lower h.name.id; spelled = h.core.spelled; follows = core_out place _ (subst (HasCore place) h.core.spelled h) })
    (chosen_breaks (Unit {0}) (λ _. lead) (λ _. true) (λ _. KindAndId place) text n tt (kind_word Snapshot ++ replicate 40 48) refl (omega arith) zeros (λ k _. (omega arith, omega arith)))

-- a word that the text goes along with to its end stands in front of it
pub word_first : (w t : List ℕ) → length w ≤ common w t → t ≡ w ++ drop (length w) t
word_first w t h =
    sym (take-append-drop (length w) t) ∙ ap (λ (f : List ℕ). f ++ drop (length w) t) (sym (take-common w t (length w) h) ∙ take-length w)

pub kind_behind : (place : Role) (text : List ℕ) (n : ℕ) → 6 ≤ common lead text → BreaksAt (KindAndId place) (drop 6 text) n → BreaksAt (HasCore place) text (6 + n)
kind_behind place text n h b = subst (λ (t : List ℕ). BreaksAt (HasCore place) t (6 + n)) (sym (word_first lead text h)) (breaks_after (HasCore place) (KindAndId place) lead (drop 6 text) n (core_in place) (core_out place) b)

id_behind : (place : Role) (kind : Kind) (text : List ℕ) (n : ℕ) → along place kind text ≡ 4 → BreaksAt IsIdText (drop 4 text) n → BreaksAt (KindAndId place) text (4 + n)
id_behind place kind text n h b =
    let is = accepted_along place kind text h in
    let four = length-kind_word kind in
    let cut : text ≡ kind_word kind ++ drop 4 text = subst (λ (k : ℕ). text ≡ kind_word kind ++ drop k text) four (word_first (kind_word kind) text (omega (arith, is.1, four))) in
    let at = breaks_after (KindAndId place) IsIdText (kind_word kind) (drop 4 text) n
    (λ y id. record { key = kind; may_stand = is.0; rest = y; spelled = refl; follows = id })
    (λ y id. subst IsIdText (sym (one_kind kind id.key y id.rest id.spelled).1) id.follows)
    b in
    subst (λ (t : List ℕ). BreaksAt (KindAndId place) t (4 + n)) (sym cut) (subst (λ (k : ℕ). BreaksAt (KindAndId place) (kind_word kind ++ drop 4 text) (k + n)) four at)

pub id_behind_lead : (place : Role) (kind : Kind) (text : List ℕ) (n : ℕ) → 6 ≤ common lead text → along place kind (drop 6 text) ≡ 4 → BreaksAt IsIdText (drop 10 text) n → BreaksAt (HasCore place) text (10 + n)
id_behind_lead place kind text n h a b =
    let same : drop 4 (drop 6 text) ≡ drop 10 text = drop-drop 4 6 text in
    subst (BreaksAt (HasCore place) text) (omega arith) (kind_behind place text (4 + n) h (id_behind place kind (drop 6 text) n a (subst (λ (t : List ℕ). BreaksAt IsIdText t n) (sym same) b)))

-- a text that goes on with a kind's word after the lead has ten bytes
pub kind_long : (place : Role) (kind : Kind) (text : List ℕ) → along place kind (drop 6 text) ≡ 4 → 10 ≤ length text
kind_long place kind text h =
    let far = (accepted_along place kind (drop 6 text) h).1 in
    let bound = (common-le (kind_word kind) (drop 6 text)).1 in
    omega (arith, far, bound, length-drop 6 text)

-- the name that was read
pub core_read : (place : Role) (text : List ℕ) (kind : Kind) (name : Name) → 6 ≤ common lead text → along place kind (drop 6 text) ≡ 4 → name.kind ≡ kind → drop 10 text ≡ encode_lower name.id → IsIdText (drop 10 text) → IsCore place text name
core_read place text kind name h a k e id =
    let is = accepted_along place kind (drop 6 text) a in
    let four = length-kind_word kind in
    let same : drop 4 (drop 6 text) ≡ drop 10 text = drop-drop 4 6 text in
    let cut : drop 6 text ≡ kind_word kind ++ drop 4 (drop 6 text) = subst (λ (j : ℕ). drop 6 text ≡ kind_word kind ++ drop j (drop 6 text)) four (word_first (kind_word kind) (drop 6 text) (omega (arith, is.1, four))) in
    record {
      accepted = subst (λ (j : Kind). accepts place j ≡ true) (sym k) is.0;
      named = IsId-from_text (drop 10 text) name.id id e;
      spelled = word_first lead text h ∙ ap (λ (t : List ℕ). lead ++ t) (cut ∙ ap (λ (t : List ℕ). kind_word kind ++ t) (same ∙ e) ∙ ap (λ (j : Kind). kind_word j ++ encode_lower name.id) (sym k));
    }

-- each name has one core identifier
pub core-injective : (n m : Name) → IsName n → IsName m → core_text n ≡ core_text m → n ≡ m
core-injective n m hn hm e =
    let behind = append_cancel_left lead (kind_word n.kind ++ encode_lower n.id) (kind_word m.kind ++ encode_lower m.id) e in
    let both = one_kind n.kind m.kind (encode_lower n.id) (encode_lower m.id) behind in
    let ids = hex-injective n.id m.id hn.1 hm.1 both.1 in
    let a : n ≡ record { kind = m.kind; id = n.id } = ap (λ (k : Kind). record { kind = k; id = n.id }) both.0 in
    let b : record { kind = m.kind; id = n.id } ≡ m = ap (λ (x : List ℕ). record { kind = m.kind; id = x }) ids in
    a ∙ b

-- what was read is the one name with this text
pub only_name : (text : List ℕ) (r : Result Name ℕ) → IfOk r (IsCore Text text) → IfErr r (BreaksAt (HasCore Text) text) → (name : Name) → IsName name → text ≡ core_text name → result_ok r ≡ Some name
only_name text (Ok found) ok err name h e = ap Some (core-injective found name ok.named h (sym ok.spelled ∙ e))
only_name text (Err n) ok err name h e = absurd (err.refused (record { name = name; core = record { accepted = refl; named = h; spelled = e } }))

-- the core identifier of a snapshot whose id is all zeros stands anywhere
pub any_core : (place : Role) → HasCore place (lead ++ (kind_word Snapshot ++ replicate 40 48))
any_core place = core_in place (kind_word Snapshot ++ replicate 40 48) (record { key = Snapshot; may_stand = accepts-Snapshot place; rest = replicate 40 48; spelled = refl; follows = zeros-id })
