-- Lists one behind another, and where each of them begins.
use Rattle.std.proofs.Common.{◌≡◌, ℕ, zero, suc, ◌+◌, ◌-◌, ◌<◌, ◌≤◌, List, [], ◌∷◌, ◌++◌, Option, Some, None, length, take, get_or, refl, sym, ap, ◌∙◌, subst, arith}
use Rattle.std.specs.Prelude.{IfSome, slice_get}
use Rattle.std.specs.Option.{option_to_list}
use Rattle.std.proofs.lemmas.List.{append_assoc, append-nil, length-append, take_all, take_more}
use Rattle.std.specs.List.Sorted.{IsNonDecreasingBy}
use Rattle.swh_rows.specs.Pieces.{joined, ends_from, start_in}
use Rattle.swh_rows.proofs.StandLemmas.{get-left, get-right}

pub joined-push : {T : Type 0} (lists : List (List T)) (l : List T) → joined (lists ++ l ∷ []) ≡ joined lists ++ l
joined-push {T} [] l = append-nil l
joined-push {T} (x ∷ lists) l = ap (λ (rest : List T). x ++ rest) (joined-push lists l) ∙ sym (append_assoc x (joined lists) l)

pub joined-next : {T : Type 0} (lists : List (List T)) (i : ℕ) (l : List T) → i < length lists → l ≡ get_or lists i l → joined (take (i + 1) lists) ≡ joined (take i lists) ++ l
joined-next {T} lists i l less is = ap joined (take_more lists i l less ∙ ap (λ (x : List T). take i lists ++ x ∷ []) (sym is)) ∙ joined-push (take i lists) l

pub ends-push : {T : Type 0} (start : ℕ) (lists : List (List T)) (l : List T) → ends_from start (lists ++ l ∷ []) ≡ ends_from start lists ++ (start + length (joined lists) + length l) ∷ []
ends-push start [] l = ap (λ (end : ℕ). end ∷ []) (omega arith)
ends-push start (x ∷ lists) l =
    ap (λ (ends : List ℕ). (start + length x) ∷ ends)
    (ends-push (start + length x) lists l
    ∙ ap (λ (end : ℕ). ends_from (start + length x) lists ++ end ∷ []) (let len = length-append x (joined lists) in omega (arith, len)))

pub length-ends : {T : Type 0} (start : ℕ) (lists : List (List T)) → length (ends_from start lists) ≡ length lists
length-ends start [] = refl
length-ends start (l ∷ lists) = ap suc (length-ends (start + length l) lists)

-- behind all lists as many rows stand as there are
pub end-all : {T : Type 0} (start : ℕ) (lists : List (List T)) → get_or (start ∷ ends_from start lists) (length (ends_from start lists)) 0 ≡ start + length (joined lists)
end-all start [] = omega arith
end-all start (l ∷ lists) = end-all (start + length l) lists ∙ (let len = length-append l (joined lists) in omega (arith, len))

-- ends are no lower than where the first list begins
ends-above : {T : Type 0} (start : ℕ) (lists : List (List T)) (k d : ℕ) → k < length (ends_from start lists) → start ≤ get_or (ends_from start lists) k d
ends-above start [] k d less = absurd (omega (arith, less))
ends-above start (l ∷ lists) zero d less = omega arith
ends-above start (l ∷ lists) (suc k) d less = let above = ends-above (start + length l) lists k d (omega (arith, less)) in omega (arith, above)

pub ends-ascend : {T : Type 0} (start : ℕ) (lists : List (List T)) → IsNonDecreasingBy (λ (end : ℕ). end) (ends_from start lists)
ends-ascend start [] i j d order inside = absurd (omega (arith, inside))
ends-ascend start (l ∷ lists) zero zero d order inside = omega arith
ends-ascend start (l ∷ lists) zero (suc j) d order inside = ends-above (start + length l) lists j d (omega (arith, inside))
ends-ascend start (l ∷ lists) (suc i) zero d order inside = absurd (omega (arith, order))
ends-ascend start (l ∷ lists) (suc i) (suc j) d order inside = ends-ascend (start + length l) lists i j d (omega (arith, order)) (omega (arith, inside))

-- where a list begins is the end before it, and before the first one nothing stands
start-is : (ends : List ℕ) (number : ℕ) → start_in ends number ≡ get_or (0 ∷ ends) number 0
start-is ends zero = refl
start-is ends (suc number) = refl

pub start-low : (ends : List ℕ) (number place : ℕ) → ((k : ℕ) → k < number → get_or ends k 0 ≤ place) → start_in ends number ≤ place
start-low ends zero place before = omega arith
start-low ends (suc number) place before = before number (omega arith)

-- behind all lists as many rows stand as there are
pub start-all : {T : Type 0} (lists : List (List T)) (ends : List ℕ) (count : ℕ) → ends ≡ ends_from 0 lists → count ≡ length ends → start_in ends count ≡ length (joined lists)
start-all lists ends count is all =
    ap (start_in ends) all
    ∙ ap (λ (es : List ℕ). start_in es (length es)) is
    ∙ start-is (ends_from 0 lists) (length (ends_from 0 lists))
    ∙ end-all 0 lists
    ∙ (omega arith)

-- The row at a place is that of the first list that ends behind it, so many behind where that list begins.
pub row-at : {T : Type 0} (start : ℕ) (lists : List (List T)) (number place : ℕ) → start ≤ place
    → ((k : ℕ) → k < number → get_or (ends_from start lists) k 0 ≤ place)
    → ((k : ℕ) → number ≤ k → k < length (ends_from start lists) → place < get_or (ends_from start lists) k 0)
    → slice_get (get_or lists number []) (place - get_or (start ∷ ends_from start lists) number 0) ≡ slice_get (joined lists) (place - start)
row-at start [] number place from before behind = refl
row-at start (l ∷ lists) zero place from before behind =
    let less : place < start + length l = behind 0 (omega arith) (omega arith) in
    sym (get-left l (joined lists) (place - start) (omega (arith, from, less)))
row-at start (l ∷ lists) (suc number) place from before behind =
    let past : start + length l ≤ place = before 0 (omega arith) in
    row-at (start + length l) lists number place past
    (λ k less. before (suc k) (omega (arith, less)))
    (λ k order inside. behind (suc k) (omega (arith, order)) (omega (arith, inside)))
    ∙ sym (get-right l (joined lists) (place - start) (place - (start + length l)) (omega (arith, past)))

-- the same where the first list begins with the first row
pub row-there : {T : Type 0} (lists : List (List T)) (ends : List ℕ) (number place : ℕ) → ends ≡ ends_from 0 lists
    → ((k : ℕ) → k < number → get_or ends k 0 ≤ place)
    → ((k : ℕ) → number ≤ k → k < length ends → place < get_or ends k 0)
    → slice_get (get_or lists number []) (place - start_in ends number) ≡ slice_get (joined lists) place
row-there lists ends number place is before behind =
    ap (λ (from : ℕ). slice_get (get_or lists number []) (place - from)) (start-is ends number ∙ ap (λ (es : List ℕ). get_or (0 ∷ es) number 0) is)
    ∙ row-at 0 lists number place (omega arith)
    (λ k less. subst (λ (es : List ℕ). get_or es k 0 ≤ place) is (before k less))
    (λ k order inside. subst (λ (es : List ℕ). place < get_or es k 0) is (behind k order (subst (λ (es : List ℕ). k < length es) (sym is) inside)))
    ∙ (let same : place - 0 ≡ place = omega arith in ap (slice_get (joined lists)) same)

-- one list more
pub ends-more : {T : Type 0} (lists : List (List T)) (ends : List ℕ) (l : List T) (end : ℕ) → ends ≡ ends_from 0 lists → end ≡ start_in ends (length ends) + length l → ends ++ end ∷ [] ≡ ends_from 0 (lists ++ l ∷ [])
ends-more lists ends l end is sum =
    ap (λ (es : List ℕ). es ++ end ∷ []) is
    ∙ ap (λ (e : ℕ). ends_from 0 lists ++ e ∷ []) (let all = start-all lists ends (length ends) is refl in omega (arith, sum, all))
    ∙ sym (ends-push 0 lists l)

-- the ends of the first lists
ends-front : {T : Type 0} (start : ℕ) (lists rest : List (List T)) → take (length lists) (ends_from start (lists ++ rest)) ≡ ends_from start lists
ends-front start [] rest = refl
ends-front start (l ∷ lists) rest = ap (λ (ends : List ℕ). (start + length l) ∷ ends) (ends-front (start + length l) lists rest)

pub ends-cut : {T : Type 0} (old new rest : List (List T)) (before after : List ℕ) (count : ℕ) → before ≡ ends_from 0 old → old ≡ new ++ rest → count ≡ length new → after ≡ take count before → after ≡ ends_from 0 new
ends-cut old new rest before after count is cut many taken =
    taken
    ∙ ap (λ (n : ℕ). take n before) many
    ∙ ap (take (length new)) (is ∙ ap (ends_from 0) cut)
    ∙ ends-front 0 new rest

-- what the last list had, where one was taken out
pub rows-cut : {T : Type 0} (old new : List (List T)) (o : Option (List T)) (rows : List T) → joined old ≡ rows → old ≡ new ++ option_to_list o → IfSome o (λ list. rows ≡ joined new ++ list)
rows-cut old new None rows is cut = tt
rows-cut old new (Some l) rows is cut = sym is ∙ ap joined cut ∙ joined-push new l

-- the row that is read of the list where the place is
pub row-found : {T : Type 0} (lists : List (List T)) (ends : List ℕ) (number place start : ℕ) (list : List T) (row : Option T) → row ≡ slice_get list (place - start) → list ≡ get_or lists number [] → start ≡ start_in ends number
    → ends ≡ ends_from 0 lists
    → ((k : ℕ) → k < number → get_or ends k 0 ≤ place)
    → ((k : ℕ) → number ≤ k → k < length ends → place < get_or ends k 0)
    → row ≡ slice_get (joined lists) place
row-found {T} lists ends number place start list row read list_is start_is is before behind =
    read
    ∙ ap (λ (l : List T). slice_get l (place - start)) list_is
    ∙ ap (λ (from : ℕ). slice_get (get_or lists number []) (place - from)) start_is
    ∙ row-there lists ends number place is before behind

-- a list behind the others, and its end behind theirs
pub ends-grown : {T : Type 0} (old mid new : List (List T)) (l : List T) (before middle after : List ℕ) (end : ℕ) → before ≡ ends_from 0 old → mid ≡ old → new ≡ mid ++ l ∷ [] → middle ≡ before → after ≡ middle ++ end ∷ []
    → end ≡ start_in before (length before) + length l → after ≡ ends_from 0 new
ends-grown {T} old mid new l before middle after end is same_lists more same_ends push sum =
    push
    ∙ ap (λ (es : List ℕ). es ++ end ∷ []) same_ends
    ∙ ends-more old before l end is sum
    ∙ ap (ends_from 0) (sym (more ∙ ap (λ (ls : List (List T)). ls ++ l ∷ []) same_lists))

pub rows-grown : {T : Type 0} (old new : List (List T)) (l rows : List T) → joined old ≡ rows → new ≡ old ++ l ∷ [] → joined new ≡ rows ++ l
rows-grown {T} old new l rows is more = ap joined more ∙ joined-push old l ∙ ap (λ (before : List T). before ++ l) is

-- some lists more were added, and then one
pub rows-next : {T : Type 0} (before now new : List T) (lists : List (List T)) (i : ℕ) (l m : List T) → i < length lists → l ≡ get_or lists i l → m ≡ l → now ≡ before ++ joined (take i lists) → new ≡ now ++ m
    → new ≡ before ++ joined (take (i + 1) lists)
rows-next {T} before now new lists i l m less is same now_is push =
    push
    ∙ ap (λ (x : List T). now ++ x) same
    ∙ ap (λ (x : List T). x ++ l) now_is
    ∙ append_assoc before (joined (take i lists)) l
    ∙ ap (λ (x : List T). before ++ x) (sym (joined-next lists i l less is))

-- all lists were added
pub rows-all : {T : Type 0} (before now : List T) (lists : List (List T)) (i : ℕ) → length lists ≤ i → now ≡ before ++ joined (take i lists) → now ≡ before ++ joined lists
rows-all {T} before now lists i past now_is = now_is ∙ ap (λ (ls : List (List T)). before ++ joined ls) (take_all i lists past)
