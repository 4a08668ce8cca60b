-- What a window gives out, and how a line goes on.
use Rattle.std.proofs.Common.{Result, Ok, Err, IfErr}
use Rattle.std.specs.Prelude.{min}
use Rattle.std.proofs.Common.{◌≡◌, ◌≢◌, ℕ, zero, suc, ◌+◌, ◌-◌, ◌<◌, ◌≤◌, ◌⊎◌, Bool, true, false, MatchBool, inl, inr, List, [], ◌∷◌, ◌++◌, length, get_or, take, drop, Contains, refl, sym, ap, ◌∙◌, arith, append_assoc, length-append}
use Rattle.std.proofs.lemmas.List.{length-take, drop-take, drop-drop, length-drop, take_more, take-append-drop, take-take}
use Rattle.swh_outside.specs.Source.{LosesSome}
use Rattle.swh_fastlex.specs.Line.{Held, unread, IsLine, MovesFront, MovesBytes, StaysUnread}
use Rattle.swh_fastlex.proofs.Pieces.{dropped}

pub skip_is : (b : List ℕ) (s e n : ℕ) → s ≤ e → n ≤ length (take (e - s) (drop s b)) → take (e - (s + n)) (drop (s + n) b) ≡ drop n (take (e - s) (drop s b))
skip_is b s e n le h =
    let len = length-take (e - s) (drop s b) in
    let k : n + (e - (s + n)) ≡ e - s = omega (arith, len) in
    sym (drop-take n (e - (s + n)) (drop s b) ∙ ap (take (e - (s + n))) (drop-drop n s b)) ∙ ap (λ (m : ℕ). drop n (take m (drop s b))) k

in_either : (a b : List ℕ) (x : ℕ) → Contains (a ++ b) x → (Contains a x) ⊎ (Contains b x)
in_either [] b x h = inr h
in_either (c ∷ a) b x (zero, l, e) = inl (0, omega arith, e)
in_either (c ∷ a) b x (suc k, l, e) =
    elim (in_either a b x (k, omega arith, e)) [
      | inl h ↦ let m = h.1 in inl (suc h.0, omega (arith, m), h.2)
      | inr h ↦ inr h
    ]

pub none_joined : (a b : List ℕ) (x : ℕ) → (Contains a x → ⊥) → (Contains b x → ⊥) → Contains (a ++ b) x → ⊥
none_joined a b x na nb h = elim (in_either a b x h) [ inl i ↦ na i | inr i ↦ nb i ]

-- bytes without LF before a line make a line
pub line_joined : (a b : List ℕ) → (Contains a 10 → ⊥) → IsLine b → IsLine (a ++ b)
line_joined a b none l = record { front = a ++ l.front; no_feed = none_joined a l.front 10 none l.no_feed; text = ap (λ (t : List ℕ). a ++ t) l.text ∙ sym (append_assoc a l.front (10 ∷ [])) }

-- the bytes up to and with the first LF
pub line_cut : (w : List ℕ) (i : ℕ) → i < length w → get_or w i 0 ≡ 10 → (Contains (take i w) 10 → ⊥) → IsLine (take (i + 1) w)
line_cut w i l e none = record { front = take i w; no_feed = none; text = take_more w i 0 l ∙ ap (λ (c : ℕ). take i w ++ c ∷ []) e }

-- what was left goes on after the part that moved
pub moved_on : (all line front window later left longer : List ℕ) → all ≡ line ++ (window ++ left) → window ≡ front ++ later → longer ≡ line ++ front → all ≡ longer ++ (later ++ left)
moved_on all line front window later left longer t c j =
    t ∙ ap (λ (w : List ℕ). line ++ (w ++ left)) c ∙ ap (λ (w : List ℕ). line ++ w) (append_assoc front later left)
    ∙ sym (append_assoc line front (later ++ left)) ∙ ap (λ (w : List ℕ). w ++ (later ++ left)) (sym j)

pub moved_text : (all line longer u left : List ℕ) (w v : Held) (room : ℕ) (ended : Bool) → all ≡ line ++ u → unread w left ≡ u → MovesFront w v line longer room ended → all ≡ longer ++ unread v left
moved_text all line longer u left w v room ended text kept m = moved_on all line m.front w.bytes v.bytes left longer (text ∙ ap (λ (t : List ℕ). line ++ t) (sym kept)) m.cut m.joined

pub moved_length : (line longer : List ℕ) (w v : Held) (room : ℕ) (ended : Bool) → (m : MovesFront w v line longer room ended) → length longer ≡ length line + length m.front
moved_length line longer w v room ended m = ap length m.joined ∙ length-append line m.front

past_line : (line now : List ℕ) (k : ℕ) → drop (length line + k) (line ++ now) ≡ drop k now
past_line line now k = ap (λ (m : ℕ). drop m (line ++ now)) (omega arith) ∙ sym (drop-drop k (length line) (line ++ now)) ∙ ap (drop k) (dropped line now (length line) refl)

-- some bytes were lost after those that were read
pub lost_more : (all line now later : List ℕ) → all ≡ line ++ now → LosesSome now later → LosesSome all later
lost_more all line now later e h = record { count = length line + h.count; is = h.is ∙ sym (past_line line now h.count) ∙ sym (ap (drop (length line + h.count)) e) }

pub lost_line : (all line now : List ℕ) → all ≡ line ++ now → LosesSome all now
lost_line all line now e = record { count = length line; is = sym (ap (drop (length line)) e ∙ dropped line now (length line) refl) }

pub nil_length : (xs : List ℕ) → length xs ≡ 0 → xs ≡ []
nil_length [] h = refl
nil_length (x ∷ xs) h = absurd (omega arith)

-- a window holds something exactly where it ends past its start
pub held_some : (b : List ℕ) (s e : ℕ) (t : Bool) → (t ≡ true → s < e) → (t ≡ false → e ≤ s) → s ≤ e → e ≤ length b → MatchBool t (take (e - s) (drop s b) ≢ []) (take (e - s) (drop s b) ≡ [])
held_some b s e true up down le lb = λ h. let l = up refl in let n = ap length h in absurd (omega (arith, l, n, length-take (e - s) (drop s b), length-drop s b))
held_some b s e false up down le lb = let l = down refl in nil_length (take (e - s) (drop s b)) (omega (arith, l, length-take (e - s) (drop s b)))

-- some bytes up to an LF that the window holds
pub moves_line : (before now : Held) (line longer : List ℕ) (room m i : ℕ) → m ≤ room → i < length (take m before.bytes) → get_or (take m before.bytes) i 0 ≡ 10 → (Contains (take i (take m before.bytes)) 10 → ⊥) → now.bytes ≡ drop (i + 1) before.bytes → now.place ≡ before.place + (i + 1) → longer ≡ line ++ take (i + 1) (take m before.bytes) → MovesFront before now line longer room true
moves_line before now line longer room m i le within here none rest place joined =
    let long = length-take m before.bytes in
    let short = length-take (i + 1) (take m before.bytes) in
    let count : length (take (i + 1) (take m before.bytes)) ≡ i + 1 = omega (arith, long, short, within) in
    let same : take (i + 1) (take m before.bytes) ≡ take (i + 1) before.bytes = take-take (i + 1) m before.bytes (omega (arith, long, within)) in
    record {
      front = take (i + 1) (take m before.bytes);
      cut = sym (take-append-drop (i + 1) before.bytes) ∙ ap (λ (t : List ℕ). t ++ drop (i + 1) before.bytes) (sym same) ∙ ap (λ (t : List ℕ). take (i + 1) (take m before.bytes) ++ t) (sym rest);
      counted = place ∙ ap (λ (n : ℕ). before.place + n) (sym count);
      joined = joined;
      within = omega (arith, long, count, within);
      some = λ h. omega (arith, count);
      stops = line_cut (take m before.bytes) i within here none;
    }

pub lost_err : {T E : Type 0} (r : Result T E) (all now : List ℕ) → LosesSome all now → IfErr r (λ _. LosesSome all now)
lost_err (Ok v) all now h = tt
lost_err (Err e) all now h = h

-- a front of what the window holds
pub moves_bytes : (before now : Held) (bytes longer : List ℕ) (room n : ℕ) → 0 < room → n ≡ min room (length before.bytes) → now.bytes ≡ drop n before.bytes → now.place ≡ before.place + n → longer ≡ bytes ++ take n before.bytes → MovesBytes before now bytes longer room
moves_bytes before now bytes longer room n some least rest place joined =
    let long = length-take n before.bytes in
    let count : length (take n before.bytes) ≡ n = omega (arith, long, least) in
    record {
      front = take n before.bytes;
      cut = sym (take-append-drop n before.bytes) ∙ ap (λ (t : List ℕ). take n before.bytes ++ t) (sym rest);
      counted = place ∙ ap (λ (m : ℕ). before.place + m) (sym count);
      joined = joined;
      within = omega (arith, count, least);
      some = λ h. omega (arith, count, least, h, some);
    }

pub moved_bytes : (all bytes longer u left : List ℕ) (w v : Held) (room : ℕ) → all ≡ bytes ++ u → unread w left ≡ u → MovesBytes w v bytes longer room → all ≡ longer ++ unread v left
moved_bytes all bytes longer u left w v room text kept m = moved_on all bytes m.front w.bytes v.bytes left longer (text ∙ ap (λ (t : List ℕ). bytes ++ t) (sym kept)) m.cut m.joined

pub moved_count : (bytes longer : List ℕ) (w v : Held) (room : ℕ) → (m : MovesBytes w v bytes longer room) → length longer ≡ length bytes + length m.front
moved_count bytes longer w v room m = ap length m.joined ∙ length-append bytes m.front

held_no_feed : (w left rest : List ℕ) → w ≢ [] → ((more : List ℕ) → w ≡ 10 ∷ more → ⊥) → w ++ left ≡ 10 ∷ rest → ⊥
held_no_feed [] left rest some never e = some refl
held_no_feed (c ∷ w) left rest some never e = let first : c ≡ 10 = cc in never w (ap (λ (x : ℕ). x ∷ w) first)

-- what is to be read begins with no LF where what the window holds begins with none
pub stays_unread : (before now : Held) (left left_now : List ℕ) → unread now left_now ≡ unread before left → now.place ≡ before.place → now.bytes ≢ [] → ((more : List ℕ) → now.bytes ≡ 10 ∷ more → ⊥) → StaysUnread before now left left_now
stays_unread before now left left_now same place some never = record { no_feed = λ rest e. held_no_feed now.bytes left_now rest some never (same ∙ e); same = same; same_place = place }
