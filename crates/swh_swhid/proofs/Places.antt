-- What is read so far, and how it goes on: a place after whole pieces.
use Rattle.std.proofs.Common.{◌≡◌, ℕ, suc, ◌+◌, ◌<◌, ◌≤◌, true, false, Option, Some, List, [], ◌∷◌, ◌++◌, length, get_or, take, drop, refl, sym, ap, ◌∙◌, subst, arith, append_assoc, length-append, length-drop, drop-cons}
use Rattle.std.proofs.lemmas.List.{take-append-drop, length-take-le, take_all, append-nil, drop-drop}
use Rattle.hex.specs.Hex.{encode_lower, lower_digits}
use Rattle.hex.proofs.HexLemmas.{length-encode_with}
use Rattle.percent_encoding.specs.Percent.{percent_decode}
use Rattle.swh_base.specs.Name.{IsName}
use Rattle.swh_base.specs.declared.name.Name.{Name}
use Rattle.swh_base.proofs.Splits.{sized_split}
use Rattle.swh_swhid.specs.declared.identifier.Role.TheVariants.{Text}
use Rattle.swh_swhid.specs.declared.swhid.Key.{Key}
use Rattle.swh_swhid.specs.declared.swhid.Key.TheVariants.{Origin, Visit, Anchor, Path, Lines, Bytes}
use Rattle.swh_swhid.specs.declared.swhid.Swhid.{Swhid}
use Rattle.swh_swhid.specs.Front.{BreaksAt}
use Rattle.swh_swhid.specs.Core.{lead, kind_word, core_text, IsCore, HasCore}
use Rattle.swh_swhid.specs.Qualifier.{is_free, IsValueText, Says, AddsQualifier, MayComeNext, AddAll, pieces_text, unqualified, IsSwhid, HasSwhid}
use Rattle.swh_swhid.specs.Reading.{is_whole, IsPieceEnd, Tail, IsPlace}
use Rattle.swh_swhid.proofs.Fronts.{breaks_after}
use Rattle.swh_swhid.proofs.KindWords.{length-kind_word}
use Rattle.swh_swhid.proofs.Cores.{core-injective}
use Rattle.swh_swhid.proofs.KeyWords.{one_key}
use Rattle.swh_swhid.proofs.Ranges.{one_range}
use Rattle.swh_swhid.proofs.Wholes.{whole-next, whole-core, same_piece, Begins, piece_breaks}

length-core_text : (n : Name) → IsName n → length (core_text n) ≡ 50
length-core_text n h =
    let id = h.0 in
    length-append lead (kind_word n.kind ++ encode_lower n.id) ∙ omega (arith, length-append (kind_word n.kind) (encode_lower n.id), length-kind_word n.kind, length-encode_with lower_digits n.id, id)

pub closed-pieces : (pieces : List (List ℕ)) → IsPieceEnd (pieces_text pieces)
closed-pieces [] = tt
closed-pieces (p ∷ pieces) = refl

-- a core identifier and what follows it
pub one_core : (n m : Name) (x y : List ℕ) → IsName n → IsName m → core_text n ++ x ≡ core_text m ++ y → (n ≡ m) × (x ≡ y)
one_core n m x y hn hm e =
    let both = sized_split (core_text n) (core_text m) x y (length-core_text n hn ∙ sym (length-core_text m hm)) e in
    (core-injective n m hn hm both.0, both.1)

-- the place after the core identifier
pub first_place : (text : List ℕ) (n : ℕ) (name : Name) → n ≤ length text → IsPieceEnd (drop n text) → IsCore Text (take n text) name → IsPlace text n (unqualified name)
first_place text n name within closed core = record {
  within = within;
  closed = closed;
  to = λ y t hy tail. record { name = name; pieces = tail.pieces; named = core.named; spelled = ap (λ (x : List ℕ). x ++ y) core.spelled ∙ ap (λ (x : List ℕ). core_text name ++ x) tail.spelled; adds = tail.adds };
  from = λ y t hy h.
      let both = one_core name h.name y (pieces_text h.pieces) core.named h.named (ap (λ (x : List ℕ). x ++ y) (sym core.spelled) ∙ h.spelled) in
      record { pieces = h.pieces; spelled = both.1; adds = subst (λ (m : Name). AddAll h.pieces (unqualified m) t) (sym both.0) h.adds };
}

-- where a text's core identifier breaks, so does the text
core_begins : (text : List ℕ) → HasSwhid text → Begins (HasCore Text) text
core_begins text h = record {
  piece = core_text h.is.name;
  rest = pieces_text h.is.pieces;
  cut = h.is.spelled;
  good = record { name = h.is.name; core = record { accepted = refl; named = h.is.named; spelled = refl } };
  closed = closed-pieces h.is.pieces;
}

core_whole : (text : List ℕ) → HasCore Text text → HasSwhid text
core_whole text h = record { swhid = unqualified h.name; is = record { name = h.name; pieces = []; named = h.core.named; spelled = h.core.spelled ∙ sym (append-nil (core_text h.name)); adds = refl } }

pub core_breaks : (text : List ℕ) (e n : ℕ) → is_whole (take e text) ≡ true → IsPieceEnd (drop e text) → BreaksAt (HasCore Text) (take e text) n → BreaksAt HasSwhid text n
core_breaks text e n whole closed b =
    subst (λ (t : List ℕ). BreaksAt HasSwhid t n) (take-append-drop e text)
    (piece_breaks (HasCore Text) HasSwhid (take e text) (drop e text) n (λ q h. whole-core Text q h) core_begins core_whole whole closed b)

-- What goes on from a value after a `;`.
record HasTail (s : Swhid) (y : List ℕ) : Type 0 where
  swhid : Swhid
  tail : Tail s (59 ∷ y) swhid

-- a tail after a `;` begins with a qualifier
record First (s : Swhid) (y : List ℕ) (t : Swhid) : Type 0 where
  piece : List ℕ
  pieces : List (List ℕ)
  middle : Swhid
  cut : y ≡ piece ++ pieces_text pieces
  adds : AddsQualifier s piece middle
  rest : AddAll pieces middle t

first_of : (s : Swhid) (y : List ℕ) (t : Swhid) (pieces : List (List ℕ)) → 59 ∷ y ≡ pieces_text pieces → AddAll pieces s t → First s y t
first_of s y t [] e h = absurd cc
first_of s y t (p ∷ pieces) e h = record { piece = p; pieces = pieces; middle = h.0; cut = cc; adds = h.1; rest = h.2 }

first_of_tail : (s : Swhid) (y : List ℕ) (t : Swhid) → Tail s (59 ∷ y) t → First s y t
first_of_tail s y t h = first_of s y t h.pieces h.spelled h.adds

value_text : (key : Key) (text : List ℕ) (s t : Swhid) → Says key text s t → IsValueText key text
value_text Origin text s t h = h.0
value_text Visit text s t h = record { name = h.name; core = h.core }
value_text Anchor text s t h = record { name = h.name; core = h.core }
value_text Path text s t h = h.0
value_text Lines text s t h = record { first = h.first; more = h.more; range = h.range; spelled = h.spelled }
value_text Bytes text s t h = record { first = h.first; more = h.more; range = h.range; spelled = h.spelled }

-- Some value is what this becomes.
record Becomes (key : Key) (text : List ℕ) (s : Swhid) : Type 0 where
  after : Swhid
  says : Says key text s after

becomes : (key : Key) (text : List ℕ) (s : Swhid) → IsValueText key text → Becomes key text s
becomes Origin text s h = record { after = record s { origin = Some (percent_decode text) }; says = (h, refl) }
becomes Visit text s h = record { after = record s { visit = Some h.name }; says = record { name = h.name; core = h.core; becomes = refl } }
becomes Anchor text s h = record { after = record s { anchor = Some h.name }; says = record { name = h.name; core = h.core; becomes = refl } }
becomes Path text s h = record { after = record s { path = Some (percent_decode text) }; says = (h, refl) }
becomes Lines text s h = record { after = record s { lines = Some (h.first, h.more) }; says = record { first = h.first; more = h.more; range = h.range; spelled = h.spelled; becomes = refl } }
becomes Bytes text s h = record { after = record s { bytes = Some (h.first, h.more) }; says = record { first = h.first; more = h.more; range = h.range; spelled = h.spelled; becomes = refl } }

next_begins : (s : Swhid) (y : List ℕ) → HasTail s y → Begins (MayComeNext s) y
next_begins s y h =
    let f = first_of_tail s y h.swhid h.tail in
    record {
      piece = f.piece;
      rest = pieces_text f.pieces;
      cut = f.cut;
      good = record { key = f.adds.key; may_stand = f.adds.free; rest = f.adds.value; spelled = f.adds.spelled; follows = value_text f.adds.key f.adds.value s f.middle f.adds.says };
      closed = closed-pieces f.pieces;
    }

next_whole : (s : Swhid) (y : List ℕ) → MayComeNext s y → HasTail s y
next_whole s y h =
    let b = becomes h.key h.rest s h.follows in
    record { swhid = b.after; tail = record { pieces = y ∷ []; spelled = ap (λ (t : List ℕ). 59 ∷ t) (sym (append-nil y)); adds = (b.after, record { key = h.key; free = h.may_stand; value = h.rest; spelled = h.spelled; says = b.says }, refl) } }

-- the text up to a place and the `;` there
semicolon_at : (text : List ℕ) (at : ℕ) → at < length text → IsPieceEnd (drop at text) → drop at text ≡ 59 ∷ drop (at + 1) text
semicolon_at text at within closed =
    let cut = drop-cons text at 0 within in
    let is : get_or text at 0 ≡ 59 = subst IsPieceEnd cut closed in
    let next : suc at ≡ at + 1 = omega arith in
    cut ∙ ap (λ (c : ℕ). c ∷ drop (suc at) text) is ∙ ap (λ (i : ℕ). 59 ∷ drop i text) next

pub next_breaks : (text : List ℕ) (at e n : ℕ) (s : Swhid) → IsPlace text at s → at < length text → is_whole (take e (drop (at + 1) text)) ≡ true → IsPieceEnd (drop e (drop (at + 1) text)) → BreaksAt (MayComeNext s) (take e (drop (at + 1) text)) n → BreaksAt HasSwhid text (at + 1 + n)
next_breaks text at e n s place within whole closed b =
    let rest : List ℕ = drop (at + 1) text in
    let f : List ℕ = take at text ++ 59 ∷ [] in
    let inner : BreaksAt (HasTail s) rest n = subst (λ (t : List ℕ). BreaksAt (HasTail s) t n) (take-append-drop e rest) (piece_breaks (MayComeNext s) (HasTail s) (take e rest) (drop e rest) n (whole-next s) (next_begins s) (next_whole s) whole closed b) in
    let joined : (y : List ℕ) → f ++ y ≡ take at text ++ 59 ∷ y = λ y. append_assoc (take at text) (59 ∷ []) y in
    let outer = breaks_after HasSwhid (HasTail s) f rest n
    (λ y h. record { swhid = h.swhid; is = subst (λ (t : List ℕ). IsSwhid t h.swhid) (sym (joined y)) (place.to (59 ∷ y) h.swhid refl h.tail) })
    (λ y h. record { swhid = h.swhid; tail = place.from (59 ∷ y) h.swhid refl (subst (λ (t : List ℕ). IsSwhid t h.swhid) (joined y) h.is) })
    inner in
    let cut : f ++ rest ≡ text = joined rest ∙ ap (λ (t : List ℕ). take at text ++ t) (sym (semicolon_at text at within place.closed)) ∙ take-append-drop at text in
    let size : length f ≡ at + 1 = length-append (take at text) (59 ∷ []) ∙ ap (λ (k : ℕ). k + 1) (length-take-le at text place.within) in
    subst (λ (t : List ℕ). BreaksAt HasSwhid t (at + 1 + n)) cut (subst (λ (k : ℕ). BreaksAt HasSwhid (f ++ rest) (k + n)) size outer)

-- what a text says of a value is one thing
one_saying : (key : Key) (text : List ℕ) (s t u : Swhid) → Says key text s t → Says key text s u → t ≡ u
one_saying Origin text s t u h k = h.1 ∙ sym k.1
one_saying Visit text s t u h k = h.becomes ∙ ap (λ (n : Name). record s { visit = Some n }) (core-injective h.name k.name h.core.named k.core.named (sym h.core.spelled ∙ k.core.spelled)) ∙ sym k.becomes
one_saying Anchor text s t u h k = h.becomes ∙ ap (λ (n : Name). record s { anchor = Some n }) (core-injective h.name k.name h.core.named k.core.named (sym h.core.spelled ∙ k.core.spelled)) ∙ sym k.becomes
one_saying Path text s t u h k = h.1 ∙ sym k.1
one_saying Lines text s t u h k =
    let both = one_range 1 h.first k.first h.more k.more h.range k.range (sym h.spelled ∙ k.spelled) in
    h.becomes ∙ ap (λ (n : ℕ). record s { lines = Some (n, h.more) }) both.0 ∙ ap (λ (m : Option ℕ). record s { lines = Some (k.first, m) }) both.1 ∙ sym k.becomes
one_saying Bytes text s t u h k =
    let both = one_range 0 h.first k.first h.more k.more h.range k.range (sym h.spelled ∙ k.spelled) in
    h.becomes ∙ ap (λ (n : ℕ). record s { bytes = Some (n, h.more) }) both.0 ∙ ap (λ (m : Option ℕ). record s { bytes = Some (k.first, m) }) both.1 ∙ sym k.becomes

pub one_adding : (s t u : Swhid) (piece : List ℕ) → AddsQualifier s piece t → AddsQualifier s piece u → t ≡ u
one_adding s t u piece h k =
    let both = one_key h.key k.key h.value k.value (sym h.spelled ∙ k.spelled) in
    let says : Says h.key h.value s u = subst (λ (v : List ℕ). Says h.key v s u) (sym both.1) (subst (λ (j : Key). Says j k.value s u) (sym both.0) k.says) in
    one_saying h.key h.value s t u h.says says

pub whole_of_adds : (s t : Swhid) (piece : List ℕ) → AddsQualifier s piece t → is_whole piece ≡ true
whole_of_adds s t piece h = whole-next s piece (record { key = h.key; may_stand = h.free; rest = h.value; spelled = h.spelled; follows = value_text h.key h.value s t h.says })

-- the place after one more qualifier
pub next_place : (text : List ℕ) (at e : ℕ) (s m : Swhid) → IsPlace text at s → at < length text → e ≤ length (drop (at + 1) text) → is_whole (take e (drop (at + 1) text)) ≡ true → IsPieceEnd (drop e (drop (at + 1) text)) → AddsQualifier s (take e (drop (at + 1) text)) m → IsPlace text (at + 1 + e) m
next_place text at e s m place within fits whole closed adds =
    let rest : List ℕ = drop (at + 1) text in
    let p : List ℕ = take e rest in
    let behind : drop e rest ≡ drop (at + 1 + e) text = drop-drop e (at + 1) text in
    let long : at + 1 + e ≤ length text = omega (arith, fits, length-drop (at + 1) text) in
    let whole_text : text ≡ (take at text ++ 59 ∷ p) ++ drop e rest =
    sym (take-append-drop at text) ∙ ap (λ (t : List ℕ). take at text ++ t) (semicolon_at text at within place.closed ∙ ap (λ (t : List ℕ). 59 ∷ t) (sym (take-append-drop e rest))) ∙ sym (append_assoc (take at text) (59 ∷ p) (drop e rest)) in
    let sizes : length (take (at + 1 + e) text) ≡ length (take at text ++ 59 ∷ p) = length-take-le (at + 1 + e) text long ∙ sym (length-append (take at text) (59 ∷ p) ∙ omega (arith, length-take-le at text place.within, length-take-le e rest fits)) in
    let fronts = sized_split (take (at + 1 + e) text) (take at text ++ 59 ∷ p) (drop (at + 1 + e) text) (drop e rest) sizes (take-append-drop (at + 1 + e) text ∙ whole_text) in
    let joined : (y : List ℕ) → take (at + 1 + e) text ++ y ≡ take at text ++ 59 ∷ (p ++ y) = λ y. ap (λ (t : List ℕ). t ++ y) fronts.0 ∙ append_assoc (take at text) (59 ∷ p) y in
    record {
      within = long;
      closed = subst IsPieceEnd behind closed;
      to = λ y t hy tail. subst (λ (x : List ℕ). IsSwhid x t) (sym (joined y)) (place.to (59 ∷ (p ++ y)) t refl (record { pieces = p ∷ tail.pieces; spelled = ap (λ (x : List ℕ). 59 ∷ (p ++ x)) tail.spelled; adds = (m, adds, tail.adds) }));
      from = λ y t hy h.
          let f = first_of_tail s (p ++ y) t (place.from (59 ∷ (p ++ y)) t refl (subst (λ (x : List ℕ). IsSwhid x t) (joined y) h)) in
          let both = same_piece p f.piece y (pieces_text f.pieces) whole (whole_of_adds s f.middle f.piece f.adds) hy (closed-pieces f.pieces) f.cut in
          let same : f.middle ≡ m = one_adding s f.middle m f.piece f.adds (subst (λ (x : List ℕ). AddsQualifier s x m) both.0 adds) in
          record { pieces = f.pieces; spelled = both.1; adds = subst (λ (x : Swhid). AddAll f.pieces x t) same f.rest };
    }

-- no qualifier may come after all six
pub full_breaks : (text : List ℕ) (at : ℕ) (s : Swhid) → IsPlace text at s → at < length text → ((key : Key) → is_free s key ≡ false) → BreaksAt HasSwhid text at
full_breaks text at s place within none =
    let never : (x : List ℕ) → HasSwhid (take at text ++ 59 ∷ x) → ⊥ = λ x h.
    let f = first_of_tail s x h.swhid (place.from (59 ∷ x) h.swhid refl h.is) in
    let free = f.adds.free in
    let taken = none f.adds.key in
    cc in
    let semi = semicolon_at text at within place.closed in
    record {
      front = take at text;
      rest = drop at text;
      cut = sym (take-append-drop at text);
      here = sym (length-take-le at text place.within);
      more = [];
      goes_on = record { swhid = s; is = place.to [] s tt (record { pieces = []; spelled = refl; adds = refl }) };
      stops = λ b tail x e h. let is : b ≡ 59 = subst IsPieceEnd e place.closed in never x (subst (λ (c : ℕ). HasSwhid (take at text ++ c ∷ x)) is h);
      refused = λ h. never (drop (at + 1) text) (subst HasSwhid (sym (take-append-drop at text) ∙ ap (λ (t : List ℕ). take at text ++ t) semi) h);
    }

-- the place at the end of a text is its value
pub last_reads : (text : List ℕ) (s : Swhid) → IsPlace text (length text) s → IsSwhid text s
last_reads text s place = subst (λ (t : List ℕ). IsSwhid t s) (append-nil (take (length text) text) ∙ take_all (length text) text (omega arith)) (place.to [] s tt (record { pieces = []; spelled = refl; adds = refl }))

no_pieces : (pieces : List (List ℕ)) (s t : Swhid) → [] ≡ pieces_text pieces → AddAll pieces s t → s ≡ t
no_pieces [] s t e h = h
no_pieces (p ∷ pieces) s t e h = absurd cc

pub last_is_one : (text : List ℕ) (s t : Swhid) → IsPlace text (length text) s → IsSwhid text t → s ≡ t
last_is_one text s t place h =
    let tail = place.from [] t tt (subst (λ (x : List ℕ). IsSwhid x t) (sym (append-nil (take (length text) text) ∙ take_all (length text) text (omega arith))) h) in
    no_pieces tail.pieces s t tail.spelled tail.adds
