-- The bytes of a ref that a text begins with, and what they are: a ref, one that is too long, or none.
use Rattle.std.proofs.Common.{◌≡◌, ◌≢◌, ◌⊎◌, ◌↔◌, ℕ, zero, suc, ◌<◌, ◌≤◌, inl, inr, true, false, List, [], ◌∷◌, ◌++◌, length, get_or, take, drop, refl, sym, ap, ◌∙◌, subst, arith, codes}
use Rattle.std.proofs.lemmas.List.{length-take, take-append-drop}
use Rattle.std.specs.List.{AllPass}
use Rattle.swh_base.specs.Limits.{ref_limit}
use Rattle.swh_base.specs.Text.{IsRef, is_ref_byte}
use Rattle.swh_base.proofs.Elementary.{append_nil}
use Rattle.swh_fastgrammar.specs.declared.command.Commitish.{Commitish}
use Rattle.swh_fastgrammar.specs.declared.command.Commitish.TheVariants.{Mark, Branch}
use Rattle.swh_fastlines.specs.Limit.{PassesRef}
use Rattle.swh_fastgrammar.specs.Word.{NamesCommit, IsRefUpTo, IsRefRun, EndsCommit}
use Rattle.swh_fastgrammar.proofs.Words.{not_among}

abbrev first : List ℕ → ℕ
first [] = 0
first (c ∷ cs) = c

-- what follows begins with no byte of a ref
abbrev pub Stops : List ℕ → Type 0
Stops rest = (c : ℕ) (more : List ℕ) → rest ≡ c ∷ more → is_ref_byte c ≡ false

passes_and_stops : (c : ℕ) (b x : List ℕ) → AllPass is_ref_byte (c ∷ b) → Stops x → (y : List ℕ) → x ≡ (c ∷ b) ++ y → ⊥
passes_and_stops c b x all stops y e =
    let no : is_ref_byte c ≡ false = stops c (b ++ y) e in
    let yes : is_ref_byte c ≡ true = all 0 c (omega arith) in
    absurd cc

behind_first : (c : ℕ) (b : List ℕ) → AllPass is_ref_byte (c ∷ b) → AllPass is_ref_byte b
behind_first c b h j d l = h (suc j) d (omega (arith, l))

abbrev tail : List ℕ → List ℕ
tail [] = []
tail (c ∷ cs) = cs

-- the bytes of a ref that a text begins with, up to a byte that none has
pub one_run : (a b x y : List ℕ) → AllPass is_ref_byte a → AllPass is_ref_byte b → Stops x → Stops y → a ++ x ≡ b ++ y → (length a ≡ length b) × (x ≡ y)
one_run [] [] x y ha hb hx hy e = (refl, e)
one_run [] (c ∷ b) x y ha hb hx hy e = absurd (passes_and_stops c b x hb hx y e)
one_run (c ∷ a) [] x y ha hb hx hy e = absurd (passes_and_stops c a y ha hy x (sym e))
one_run (c ∷ a) (d ∷ b) x y ha hb hx hy e =
    let both = one_run a b x y (behind_first c a ha) (behind_first d b hb) hx hy (ap tail e) in
    let same = both.0 in (omega (arith, same), both.1)

-- the count of a run, as a text's first bytes
pub run_of : (text run rest : List ℕ) (n : ℕ) → IsRefRun text n → text ≡ run ++ rest → AllPass is_ref_byte run → Stops rest → (n ≡ length run) × (drop n text ≡ rest)
run_of text run rest n h cut all stops =
    let same = one_run (take n text) run (drop n text) rest h.bytes all h.ends stops (take-append-drop n text ∙ cut) in
    let long = length-take n text in
    let within = h.within in
    let lengths = same.0 in
    (omega (arith, long, within, lengths), same.1)

pub passes : (text : List ℕ) (n limit : ℕ) → IsRefRun text n → limit < n → PassesRef limit text n
passes text n limit h above =
    let within = h.within in
    record {
      run = take n text;
      rest = drop n text;
      cut = sym (take-append-drop n text);
      bytes = h.bytes;
      ends = h.ends;
      count = omega (arith, within, length-take n text);
      above = above;
    }

pub passes_not : (text : List ℕ) (n limit : ℕ) → IsRefRun text n → n ≤ limit → (number : ℕ) → PassesRef limit text number → ⊥
passes_not text n limit h le number p =
    let same = (run_of text p.run p.rest n h p.cut p.bytes p.ends).0 in
    let count = p.count in
    let above = p.above in
    omega (arith, same, count, above, le)

nothing_stops : Stops []
nothing_stops c more e = absurd cc

-- a text that is a ref is its run
ref_is_run : (text : List ℕ) (n : ℕ) → IsRefRun text n → IsRef text → n ≡ length text
ref_is_run text n h r = (run_of text text [] n h (sym (append_nil text)) r.bytes nothing_stops).0

take_whole : (text : List ℕ) (n : ℕ) → length text ≤ n → take n text ≡ text
take_whole [] zero l = refl
take_whole [] (suc n) l = refl
take_whole (c ∷ text) zero l = absurd (omega arith)
take_whole (c ∷ text) (suc n) l = ap (λ (t : List ℕ). c ∷ t) (take_whole text n (omega arith))

pub is_ref_up_to : (text : List ℕ) (n limit : ℕ) → limit ≤ ref_limit → IsRefRun text n → n ≤ limit → n ≢ 0 → length text ≤ n → IsRefUpTo limit text text
is_ref_up_to text n limit most h le some whole =
    let within = h.within in
    let all : AllPass is_ref_byte text = subst (AllPass is_ref_byte) (take_whole text n whole) h.bytes in
    (refl, record { some = omega (arith, some, whole, within); short = omega (arith, le, whole, most, within); bytes = all }, omega (arith, le, whole, within))

pub no_ref_up_to : (text : List ℕ) (n limit : ℕ) → IsRefRun text n → (n ≡ 0) ⊎ (n < length text) → (ref : List ℕ) → IsRefUpTo limit text ref → ⊥
no_ref_up_to text n limit h (inl e) ref r =
    let is : IsRef text = subst IsRef (sym r.0) r.1 in
    let same = ref_is_run text n h is in let some = is.some in omega (arith, same, some, e)
no_ref_up_to text n limit h (inr l) ref r =
    let same = ref_is_run text n h (subst IsRef (sym r.0) r.1) in omega (arith, same, l)

-- What begins with a colon has no ref in front.
pub colon_passes_not : (text number : List ℕ) (limit : ℕ) → text ≡ 58 ∷ number → (n : ℕ) → PassesRef limit text n → ⊥
colon_passes_not text number limit e n p = none p.run (p.bytes) (omega (arith, p.count, p.above)) (sym p.cut ∙ e)
  where
    none : (run : List ℕ) → AllPass is_ref_byte run → 0 < length run → run ++ p.rest ≡ 58 ∷ number → ⊥
    none [] all some f = omega (arith, some)
    none (c ∷ run) all some f = not_among is_ref_byte 58 (c ∷ run) refl all (0, omega arith, ap first f)

caret_stops : Stops (codes "^0")
caret_stops c more e = let same : c ≡ 94 = ap first (sym e) in subst (λ (x : ℕ). is_ref_byte x ≡ false) (sym same) refl

-- a ref that names a commit is the run, and what follows it ends the name
commit_run : (text ref : List ℕ) (n : ℕ) → IsRefRun text n → NamesCommit text (Branch ref) → (n ≡ length ref) × EndsCommit (drop n text)
commit_run text ref n h (r, inl e) =
    let same = run_of text ref [] n h (e ∙ sym (append_nil ref)) r.bytes nothing_stops in (same.0, inl same.1)
commit_run text ref n h (r, inr e) =
    let same = run_of text ref (codes "^0") n h e r.bytes caret_stops in (same.0, inr same.1)

pub no_commit : (text : List ℕ) (n : ℕ) → ((rest : List ℕ) → text ≡ codes ":" ++ rest → ⊥) → IsRefRun text n → (n ≡ 0) ⊎ (EndsCommit (drop n text) → ⊥) → (c : Commitish) → NamesCommit text c → ⊥
no_commit text n colon h why (Mark m) k = colon k.0 k.1
no_commit text n colon h (inl e) (Branch ref) k =
    let same = (commit_run text ref n h k).0 in let some = k.0.some in omega (arith, same, some, e)
no_commit text n colon h (inr e) (Branch ref) k = e (commit_run text ref n h k).1

pub branch_commit : (text name : List ℕ) (n : ℕ) → IsRefRun text n → n ≤ ref_limit → n ≢ 0 → EndsCommit (drop n text) → name ≡ take n text → NamesCommit text (Branch name)
branch_commit text name n h le some ends e =
    let within = h.within in
    let long : length name ≡ n = ap length e ∙ omega (arith, within, length-take n text) in
    let is : IsRef name = record { some = omega (arith, long, some); short = omega (arith, long, le); bytes = subst (AllPass is_ref_byte) (sym e) h.bytes } in
    let whole : name ++ drop n text ≡ text = ap (λ (t : List ℕ). t ++ drop n text) e ∙ take-append-drop n text in (
      is,
      elim ends [
        | inl none ↦ inl (sym whole ∙ ap (λ (t : List ℕ). name ++ t) none ∙ append_nil name)
        | inr caret ↦ inr (sym whole ∙ ap (λ (t : List ℕ). name ++ t) caret)
      ],
    )

pub weaker : {A B C : Type 0} → A ⊎ (B × C) → A ⊎ C
weaker (inl a) = inl a
weaker (inr b) = inr b.1

-- the first byte that no ref has
pub run_up_to : (text : List ℕ) (n : ℕ) → n < length text → ((k : ℕ) → k < n → is_ref_byte (get_or text k 0) ≡ true) → is_ref_byte (get_or text n 0) ≡ false → IsRefRun text n
run_up_to text n within all here = record { within = omega arith; bytes = front text n all (omega arith); ends = stops text n within here }
  where
    front : (text : List ℕ) (n : ℕ) → ((k : ℕ) → k < n → is_ref_byte (get_or text k 0) ≡ true) → n ≤ length text → AllPass is_ref_byte (take n text)
    front text zero all l j d m = absurd (omega (arith, m))
    front [] (suc n) all l j d m = absurd (omega (arith, l))
    front (c ∷ text) (suc n) all l zero d m = all 0 (omega arith)
    front (c ∷ text) (suc n) all l (suc j) d m = front text n (λ k h. all (suc k) (omega (arith, h))) (omega arith) j d (omega (arith, m))

    stops : (text : List ℕ) (n : ℕ) → n < length text → is_ref_byte (get_or text n 0) ≡ false → Stops (drop n text)
    stops [] n within here c more e = absurd (omega (arith, within))
    stops (d ∷ text) zero within here c more e = let same : d ≡ c = ap first e in subst (λ (x : ℕ). is_ref_byte x ≡ false) same here
    stops (d ∷ text) (suc n) within here c more e = stops text n (omega (arith, within)) here c more e

pub run_whole : (text : List ℕ) → ((k : ℕ) → k < length text → is_ref_byte (get_or text k 0) ≡ true) → IsRefRun text (length text)
run_whole text all = record { within = omega arith; bytes = subst (AllPass is_ref_byte) (sym (take_whole text (length text) (omega arith))) (each text all); ends = subst Stops (sym (dropped text)) nothing_stops }
  where
    each : (text : List ℕ) → ((k : ℕ) → k < length text → is_ref_byte (get_or text k 0) ≡ true) → AllPass is_ref_byte text
    each [] all j d m = absurd (omega (arith, m))
    each (c ∷ text) all zero d m = all 0 (omega arith)
    each (c ∷ text) all (suc j) d m = each text (λ k h. all (suc k) (omega (arith, h))) j d (omega (arith, m))

    dropped : (text : List ℕ) → drop (length text) text ≡ []
    dropped [] = refl
    dropped (c ∷ text) = dropped text
