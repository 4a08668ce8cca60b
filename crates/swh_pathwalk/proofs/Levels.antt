-- Levels of a walk, the innermost first.
use Rattle.std.proofs.Common.{◌≡◌, ℕ, ◌+◌, ◌<◌, ◌≤◌, List, [], ◌∷◌, ◌++◌, length, map, take, drop, get_or, refl, sym, ap, ◌∙◌, subst, arith, append_assoc}
use Rattle.std.specs.Prelude.{reverse}
use Rattle.std.specs.List.{AllByRecursion}
use Rattle.std.proofs.lemmas.List.{reverse-append, append-nil, take-append-drop, take-append-le, length-take-le}
use Rattle.std.proofs.Common.{add-one, drop-cons, length-append}
use Rattle.std.proofs.Math.ListN.{drop_of_length-le}
use Rattle.swh_base.specs.Directory.{DirectoryEntry}
use Rattle.swh_dirfmt.specs.declared.entry.SpelledEntry.{SpelledEntry}
use Rattle.swh_dirfmt.specs.Entries.{entry_of, entries_in_body}
use Rattle.swh_pathwalk.specs.declared.walk.Level.{Level}
use Rattle.swh_pathwalk.specs.Walk.{Coming, slash, coming_at, standing, AreNested, with_entries, IsEnded, GoesTo, ComesNext}

-- those inside were taken, since nothing is to come of them
pub record HavePopped (old now : List Level) : Type 0 where
  pub ended : List Level
  pub cut : reverse old ≡ ended ++ reverse now
  pub each : AllByRecursion IsEnded ended

pub reverse_push : (ls : List Level) (l : Level) → reverse (ls ++ l ∷ []) ≡ l ∷ reverse ls
reverse_push ls l = reverse-append ls (l ∷ [])

all_push : (ls : List Level) (l : Level) → AllByRecursion IsEnded ls → IsEnded l → AllByRecursion IsEnded (ls ++ l ∷ [])
all_push [] l all is = (is, tt)
all_push (x ∷ ls) l (first, all) is = (first, all_push ls l all is)

-- one more was taken
pub popped_more : (old now rest : List Level) (l : Level) → now ≡ rest ++ l ∷ [] → IsEnded l → HavePopped old now → HavePopped old rest
popped_more old now rest l is end h = record {
  ended = h.ended ++ l ∷ [];
  cut = h.cut ∙ ap (λ (x : List Level). h.ended ++ x) (ap (λ (x : List Level). reverse x) is ∙ reverse_push rest l) ∙ sym (append_assoc h.ended (l ∷ []) (reverse rest));
  each = all_push h.ended l h.each end;
}

-- ---- what is seen of levels

-- a level of which nothing is to come is left out
skipped : (front : List ℕ) (entries : List DirectoryEntry) (ls : List Coming) → entries ≡ [] → with_entries (record { front = front; entries = entries } ∷ ls) ≡ with_entries ls
skipped front [] ls none = refl
skipped front (e ∷ es) ls none = let x : e ∷ es ≡ [] = none in cc

kept : (front : List ℕ) (entries : List DirectoryEntry) (e : DirectoryEntry) (es : List DirectoryEntry) (ls : List Coming) → entries ≡ e ∷ es
    → with_entries (record { front = front; entries = entries } ∷ ls) ≡ record { front = front; entries = entries } ∷ ls
kept front [] e es ls some = let x : [] ≡ e ∷ es = some in cc
kept front (d ∷ ds) e es ls some = refl

nothing : (l : Level) → IsEnded l → entries_in_body (drop l.next l.entries.items) ≡ []
nothing l end = ap (λ (es : List SpelledEntry). entries_in_body es) (drop_of_length-le l.entries.items end)

pub ended_with : (path : List ℕ) (ended : List Level) (ls : List Level) → AllByRecursion IsEnded ended → with_entries (map (coming_at path) (ended ++ ls)) ≡ with_entries (map (coming_at path) ls)
ended_with path [] ls all = refl
ended_with path (l ∷ ended) ls (end, all) =
    skipped (take l.front path ++ slash l.nested) (entries_in_body (drop l.next l.entries.items)) (map (coming_at path) (ended ++ ls)) (nothing l end) ∙ ended_with path ended ls all

pub all_ended : (path : List ℕ) (ls : List Level) → AllByRecursion IsEnded ls → with_entries (map (coming_at path) ls) ≡ []
all_ended path ls all = sym (ap (λ (x : List Level). with_entries (map (coming_at path) x)) (append-nil ls)) ∙ ended_with path ls [] all

-- ---- levels at fronts of a path

nested_more : (a b : ℕ) (ls : List Level) → a ≤ b → AreNested a ls → AreNested b ls
nested_more a b [] less nested = tt
nested_more a b (l ∷ ls) less (within, rest) = (omega (arith, less, within), rest)

pub nested_at : (bound : ℕ) (ended : List Level) (l : Level) (ls : List Level) → AreNested bound (ended ++ l ∷ ls) → (l.front ≤ bound) × AreNested l.front ls
nested_at bound [] l ls nested = nested
nested_at bound (x ∷ ended) l ls (within, rest) =
    let at = nested_at x.front ended l ls rest in
    let low = at.0 in
    (omega (arith, within, low), at.1)

module _ (front : ℕ) (old new : List ℕ) (goes : GoesTo front old new) (within : front ≤ length old) where
  long : front ≤ length new
  long =
      let is = ap (λ (l : List ℕ). length l) goes.is in
      let taken = length-take-le front old within in
      omega (arith, is, taken, length-append (take front old) goes.tail)

  -- fronts that are no longer are the same
  same_take : (n : ℕ) → n ≤ front → take n new ≡ take n old
  same_take n less =
      let taken = length-take-le front old within in
      let short : n ≤ length (take front old) = omega (arith, taken, less) in
      ap (λ (l : List ℕ). take n l) goes.is ∙ take-append-le n (take front old) goes.tail short
      ∙ sym (ap (λ (l : List ℕ). take n l) (sym (take-append-drop front old)) ∙ take-append-le n (take front old) (drop front old) short)

  same_below : (ls : List Level) (bound : ℕ) → bound ≤ front → AreNested bound ls → map (coming_at new) ls ≡ map (coming_at old) ls
  same_below [] bound less nested = refl
  same_below (l ∷ ls) bound less (at, rest) =
      let short : l.front ≤ front = omega (arith, less, at) in
      let first : coming_at new l ≡ coming_at old l = ap (λ (x : List ℕ). let c : Coming = record { front = x ++ slash l.nested; entries = entries_in_body (drop l.next l.entries.items) } in c) (same_take l.front short) in
      let others = same_below ls l.front short rest in
      cc

  pub nested_below : (ls : List Level) → AreNested front ls → AreNested (length new) ls
  nested_below ls nested = nested_more front (length new) ls long nested

  module _ (level : Level) (next : Level) (e : SpelledEntry) (ended below : List Level) (front_is : level.front ≡ front) (same_front : next.front ≡ front) (same_nested : next.nested ≡ level.nested) (same_entries : next.entries.items ≡ level.entries.items)
      (one_more : next.next ≡ level.next + 1) (some : level.next < length level.entries.items) (is : e ≡ get_or level.entries.items level.next e) (each : AllByRecursion IsEnded ended) (nested : AreNested front below) where
    to_come : entries_in_body (drop level.next level.entries.items) ≡ entry_of e ∷ entries_in_body (drop next.next next.entries.items)
    to_come =
        let one : drop level.next level.entries.items ≡ get_or level.entries.items level.next e ∷ drop (level.next + 1) level.entries.items = rw (add-one, drop-cons level.entries.items level.next e) in
        let rest : drop (level.next + 1) level.entries.items ≡ drop next.next next.entries.items = ap (λ (n : ℕ). drop n level.entries.items) (sym one_more) ∙ ap (λ (es : List SpelledEntry). drop next.next es) (sym same_entries) in
        ap (λ (es : List SpelledEntry). entries_in_body es) (one ∙ ap (λ (x : SpelledEntry). x ∷ drop (level.next + 1) level.entries.items) (sym is) ∙ ap (λ (es : List SpelledEntry). e ∷ es) rest)

    pub nested_next : AreNested (length new) (next ∷ below)
    nested_next = (let l = long in omega (arith, l, same_front), subst (λ (n : ℕ). AreNested n below) (sym same_front) nested)

    -- the next entry is taken, and its path is this
    pub taken : (levels now : List Level) → reverse levels ≡ ended ++ level ∷ below → reverse now ≡ next ∷ below → new ≡ (take level.front old ++ slash level.nested) ++ e.name.now → ComesNext (standing old levels) (entry_of e) (standing new now)
    taken levels now cut now_is path = record {
      front = take level.front old ++ slash level.nested;
      rest = entries_in_body (drop next.next next.entries.items);
      below = map (coming_at old) below;
      next =
          ap (λ (ls : List Level). with_entries (map (coming_at old) ls)) cut ∙ ended_with old ended (level ∷ below) each
          ∙ kept (take level.front old ++ slash level.nested) (entries_in_body (drop level.next level.entries.items)) (entry_of e) (entries_in_body (drop next.next next.entries.items)) (map (coming_at old) below) to_come
          ∙ ap (λ (es : List DirectoryEntry). let c : Coming = record { front = take level.front old ++ slash level.nested; entries = es } in c ∷ map (coming_at old) below) to_come;
      path = path;
      levels =
          let others = same_below below front (omega arith) nested in
          let at_front : take next.front new ≡ take level.front old =
          ap (λ (n : ℕ). take n new) same_front ∙ same_take front (omega arith) ∙ ap (λ (n : ℕ). take n old) (sym front_is) in
          let fronts : take next.front new ++ slash next.nested ≡ take level.front old ++ slash level.nested = cc (at_front, same_nested) in
          ap (λ (ls : List Level). map (coming_at new) ls) now_is
          ∙ ap (λ (x : List ℕ). let c : Coming = record { front = x; entries = entries_in_body (drop next.next next.entries.items) } in c ∷ map (coming_at new) below) fronts
          ∙ ap (λ (ls : List Coming). let c : Coming = record { front = take level.front old ++ slash level.nested; entries = entries_in_body (drop next.next next.entries.items) } in c ∷ ls) others;
    }
