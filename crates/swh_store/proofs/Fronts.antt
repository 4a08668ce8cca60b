-- How many entries are new, and what of them is shown.
use Rattle.std.proofs.Common.{◌≡◌, ℕ, zero, suc, ◌+◌, ◌<◌, ◌≤◌, None, List, [], ◌∷◌, ◌++◌, length, take, drop, sym, ap, ◌∙◌, subst, arith}
use Rattle.std.specs.List.{AllByRecursion}
use Rattle.std.specs.FinMap as finite
use Rattle.std.proofs.lemmas.List.{take-take, take-append-drop, drop-take, take_all, get_or-take, length-drop, length-take-le}
use Rattle.swh_base.specs.declared.name.Name.{Name}
use Rattle.swh_base.specs.declared.entry.Entry.{Entry}
use Rattle.swh_model.specs.Archive.{Bodies, body_of}
use Rattle.swh_model.specs.Step.{HasItsChildren, AreNew, added}
use Rattle.swh_model.proofs.Entries.{added-append}
use Rattle.swh_store.specs.declared.entries.Held.{Held}
use Rattle.swh_store.specs.Entries.{bodies_in, stored_in, IsNamed}
use Rattle.swh_store.specs.Stored.{children_in}
use Rattle.swh_store.specs.Front.{AreFresh, IsPreloaded}
use Rattle.swh_store.proofs.IndexLemmas.{new_front, childless, unnamed, no_twin, named_held}

all-front : {X : Type 0} (P : X → Type 0) (count : ℕ) (xs : List X) → AllByRecursion P xs → AllByRecursion P (take count xs)
all-front P zero xs h = tt
all-front P (suc count) [] h = tt
all-front P (suc count) (x ∷ xs) h = (h.0, all-front P count xs h.1)

-- ---- how many are new

-- of a longer front that is new the shorter one is new
pub new-shorter : (es : List Entry) (count more : ℕ) → count ≤ more → AreNew finite.empty (take more es) → AreNew finite.empty (take count es)
new-shorter es count more within new =
    new_front finite.empty (take count es) (drop count (take more es))
    (subst (AreNew finite.empty) (sym (take-append-drop count (take more es)) ∙ ap (λ (l : List Entry). l ++ drop count (take more es)) (take-take count more es within)) new)

pub fresh_before : (es : List Entry) (place : ℕ) → place ≤ length es → AreNew finite.empty (take place es) → (AreNew finite.empty (take (place + 1) es) → ⊥) → AreFresh es place
fresh_before es place inside new not_new =
    record {
      inside = inside;
      new = new;
      most = λ more past within newer. not_new (new-shorter es (place + 1) more (omega (arith, past)) newer);
    }

-- of entries that are new all are fresh
pub fresh_all : (es : List Entry) (fresh : ℕ) → AreNew finite.empty es → AreFresh es fresh → take fresh es ≡ es
fresh_all es fresh new is = take_all fresh es (not_less (λ less. is.most (length es) less (omega arith) (subst (AreNew finite.empty) (sym (take_all (length es) es (omega arith))) new)))
  where
    not_less : (fresh < length es → ⊥) → length es ≤ fresh
    not_less never = omega (arith, never)

-- ---- what is shown

pub front-split : (es : List Entry) (shown count : ℕ) → take (shown + count) es ≡ take shown es ++ take count (drop shown es)
front-split es shown count =
    sym (take-append-drop shown (take (shown + count) es))
    ∙ ap (λ (l : List Entry). l ++ drop shown (take (shown + count) es)) (take-take shown (shown + count) es (omega arith))
    ∙ ap (λ (l : List Entry). take shown es ++ l) (drop-take shown count es)

new-joined : (bodies : Bodies) (es fs : List Entry) → AreNew bodies es → AreNew (added bodies es) fs → AreNew bodies (es ++ fs)
new-joined bodies [] fs h k = k
new-joined bodies (e ∷ es) fs h k = (h.0, new-joined (finite.insert bodies e.name e.body) es fs h.1 k)

new-behind : (bodies : Bodies) (es fs : List Entry) → AreNew bodies (es ++ fs) → AreNew (added bodies es) fs
new-behind bodies [] fs h = h
new-behind bodies (e ∷ es) fs h = new-behind (finite.insert bodies e.name e.body) es fs h.1

module _ (held : Held) (fresh shown : ℕ) (is : IsPreloaded held fresh shown) where
  abbrev pub es : List Entry
  es = held.entries.items

  pub shown-new : AreNew finite.empty (take shown es)
  shown-new = new-shorter es shown fresh is.within is.are_fresh.new

  abbrev pub front : List Entry
  front = take fresh es

  pub shown-good : AllByRecursion HasItsChildren (take shown es)
  shown-good = subst (AllByRecursion HasItsChildren) (take-take shown fresh es is.within) (all-front HasItsChildren shown front is.placed.good)

  shown-in_front : (n : Name) (place : ℕ) → IsNamed (take shown es) n place → IsNamed front n place
  shown-in_front n place named =
      let within = is.within in
      let inside = is.are_fresh.inside in
      let long : length (take shown es) ≡ shown = length-take-le shown es (omega (arith, within, inside)) in
      let longer : length front ≡ fresh = length-take-le fresh es inside in
      let less = named.0 in (
        omega (arith, less, long, longer, within),
        λ d. ap (λ (x : Entry). x.name) (get_or-take fresh es place d (omega (arith, less, long, within)) ∙ sym (get_or-take shown es place d (omega (arith, less, long)))) ∙ named.1 d,
      )

  pub front-shown : (n : Name) (place : ℕ) → place < shown → IsNamed front n place → IsNamed (take shown es) n place
  front-shown n place less named =
      let within = is.within in
      let inside = is.are_fresh.inside in
      let long : length (take shown es) ≡ shown = length-take-le shown es (omega (arith, within, inside)) in (
        omega (arith, less, long),
        λ d. ap (λ (x : Entry). x.name) (get_or-take shown es place d less ∙ sym (get_or-take fresh es place d (omega (arith, less, within)))) ∙ named.1 d,
      )

  -- a name of which no entry is shown
  missing : (n : Name) → ((place : ℕ) → IsNamed (take shown es) n place → ⊥) → (body_of (bodies_in (take shown es)) n ≡ None) × (children_in (stored_in (take shown es)) n ≡ None)
  missing n none =
      let absent = unnamed (take shown es) n shown-good shown-new none in
      (absent, childless (take shown es) n absent)

  -- nothing is shown of a name that has no entry in front
  pub missing-in_front : (n : Name) → body_of (bodies_in front) n ≡ None → (body_of (bodies_in (take shown es)) n ≡ None) × (children_in (stored_in (take shown es)) n ≡ None)
  missing-in_front n none = missing n (λ place named. named_held front n place is.placed.new (shown-in_front n place named) none)

  -- nor of one whose entry is not shown yet
  pub missing-behind : (n : Name) (place : ℕ) → shown ≤ place → IsNamed front n place → (body_of (bodies_in (take shown es)) n ≡ None) × (children_in (stored_in (take shown es)) n ≡ None)
  missing-behind n place past named =
      let within = is.within in
      let inside = is.are_fresh.inside in
      let long : length (take shown es) ≡ shown = length-take-le shown es (omega (arith, within, inside)) in
      missing n (λ other shown_other. let less = shown_other.0 in no_twin front n other place is.placed.new (omega (arith, less, long, past)) (shown-in_front n other shown_other) named)

  pub shows : (count : ℕ) → shown + count ≤ fresh → AreNew (bodies_in (take shown es)) (take count (drop shown es))
  shows count within =
      new-behind finite.empty (take shown es) (take count (drop shown es))
      (subst (AreNew finite.empty) (front-split es shown count) (new-shorter es (shown + count) fresh within is.are_fresh.new))

  pub shows_no_more : (count : ℕ) → fresh < shown + count → count ≤ length (drop shown es) → AreNew (bodies_in (take shown es)) (take count (drop shown es)) → ⊥
  shows_no_more count past within new =
      let len = length-drop shown es in
      let low = is.within in
      let high = is.are_fresh.inside in
      is.are_fresh.most (shown + count) past (omega (arith, len, within, low, high))
      (subst (AreNew finite.empty) (sym (front-split es shown count)) (new-joined finite.empty (take shown es) (take count (drop shown es)) shown-new new))

  pub shown-more : (count : ℕ) → bodies_in (take (shown + count) es) ≡ added (bodies_in (take shown es)) (take count (drop shown es))
  shown-more count = ap bodies_in (front-split es shown count) ∙ added-append finite.empty (take shown es) (take count (drop shown es))

  -- where nothing is to come, all is shown
  pub shown-all : drop shown es ≡ [] → take shown es ≡ es
  shown-all none =
      let len = length-drop shown es in
      let zero = ap length none in
      take_all shown es (omega (arith, len, zero))

  pub all_in_front : drop shown es ≡ [] → front ≡ es
  all_in_front none =
      let len = length-drop shown es in
      let count = ap length none in
      let within = is.within in
      take_all fresh es (omega (arith, len, count, within))
