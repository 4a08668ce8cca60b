-- One component more of a path.
use Rattle.std.proofs.Common.{◌≡◌, ℕ, zero, suc, ◌+◌, ◌<◌, List, [], ◌∷◌, length, take, drop, get_or, refl, sym, ap, ◌∙◌, arith, add-one}
use Rattle.std.proofs.Math.Seq.{drop-cons}
use Rattle.std.proofs.lemmas.List.{get_or-map, length-map, take-take, take_all}
use Rattle.std.specs.Borrow.{Bor}
use Rattle.std.specs.Global.{Vec}
use Rattle.swh_entries.specs.Listed.{Listed}
use Rattle.swh_forest.specs.Forest.{Stands, put, folder, forest, step, found, graft}
use Rattle.swh_forest.specs.Arena.{parts_of, Grows}
use Rattle.swh_entries.specs.Named.{Extends}

pub found-more : (p : List (List ℕ)) (k : ℕ) (y : Stands) → k < length p → found (take (k + 1) p) y ≡ step (get_or p k []) (found (take k p) y)
found-more [] k y lt = absurd (omega arith)
found-more (c ∷ p) zero y lt = refl
found-more (c ∷ p) (suc k) y lt = let e : suc k + 1 ≡ suc (k + 1) = omega arith in rw e (found-more p k (step c y) (omega arith))

pub found-rest : (p : List (List ℕ)) (k : ℕ) (y : Stands) → k < length p → found (drop k p) y ≡ found (drop (k + 1) p) (step (get_or p k []) y)
found-rest p k y lt = rw (add-one, drop-cons p k [] lt) refl

pub graft-more : (p : List (List ℕ)) (k : ℕ) (x y : Stands) → k < length p → graft (drop k p) x (found (take k p) y) ≡ folder (put (get_or p k []) (graft (drop (k + 1) p) x (found (take (k + 1) p) y)) (forest (found (take k p) y)))
graft-more p k x y lt =
    let more = found-more p k y lt in
    rw (more, add-one, drop-cons p k [] lt) refl

pub component-at : (path : List (Bor (List ℕ))) (i : ℕ) (d : Bor (List ℕ)) → i < length path → get_or (parts_of path) i [] ≡ (get_or path i d).now
component-at path i d lt = get_or-map (λ (b : Bor (List ℕ)). b.now) path i d [] lt

pub extends-none : (names : List (Vec ℕ)) → Extends names names
extends-none names = record { longer = omega arith; same_names = λ i lt. refl }

pub extends-on : (a b c : List (Vec ℕ)) → Extends a b → Extends b c → Extends a c
extends-on a b c g h = record {
  longer = let k = g.longer in let l = h.longer in omega arith;
  same_names = λ i lt. let k = g.longer in h.same_names i (omega arith) ∙ g.same_names i lt;
}

pub grows-more : (n n' n'' : List (Vec ℕ)) (o o' o'' : List Listed) → Grows n o n' o' → Grows n' o' n'' o'' → Grows n o n'' o''
grows-more n n' n'' o o' o'' g h = record {
  names_more = extends-on n n' n'' g.names_more h.names_more;
  longer = let a = g.longer in let b = h.longer in omega arith;
  trees = λ i lt. let a = g.longer in h.trees i (omega arith) ∙ g.trees i lt;
  lists = sym (take-take (length o) (length o') o'' g.longer) ∙ ap (take (length o)) h.lists ∙ g.lists;
}

pub grows-none : (n : List (Vec ℕ)) (o : List Listed) → Grows n o n o
grows-none n o = record { names_more = extends-none n; longer = omega arith; trees = λ i lt. refl; lists = take_all (length o) o (omega arith) }

pub length-parts_of : (path : List (Bor (List ℕ))) → length (parts_of path) ≡ length path
length-parts_of path = length-map path (λ (b : Bor (List ℕ)). b.now)

pub put-along : (n n' : List ℕ) (x x' y y' : Stands) → n ≡ n' → x ≡ x' → y ≡ y' → folder (put n x (forest y)) ≡ folder (put n' x' (forest y'))
put-along n n' x x' y y' en ex ey = cc
