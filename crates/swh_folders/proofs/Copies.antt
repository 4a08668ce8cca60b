-- One folder more after the fresh ones.
use Rattle.std.proofs.Common.{◌≡◌, ℕ, ◌+◌, ◌<◌, ◌≤◌, Bool, false, List, [], ◌∷◌, ◌++◌, length, take, drop, map, reverse, get_or, refl, sym, ap, subst, ◌∙◌, inl, inr, arith, append_assoc}
use Rattle.std.proofs.Math.Seq.{get_or-append_seam}
use Rattle.std.proofs.lemmas.Bool.{cases_lt}
use Rattle.std.proofs.lemmas.List.{length-append, length-take, get_or_append_left, get_or_default, map-append, reverse-append, take-append-drop, append-nil}
use Rattle.std.specs.Global.{Vec}
use Rattle.swh_entries.specs.declared.entry.Entry.{Entry}
use Rattle.swh_entries.specs.Listed.{Listed}
use Rattle.swh_forest.specs.Arena.{layers, among, AllGood, tree_at, forest_of, AreGood, IsArena}
use Rattle.swh_entries.specs.Keys.{texts}
use Rattle.swh_forest.specs.Forest.{Forest, Stands, forest}
use Rattle.swh_forest.specs.Sound.{IsSound}
use Rattle.swh_forest.specs.Roots.{IsGood}
use Rattle.swh_folders.specs.Live.{IsPart}
use Rattle.swh_folders.specs.Moved.{IsCopied}
use Rattle.swh_forest.proofs.Arenas.{tree-push_old, tree-push_new, arena-push, among-older, length-layers, tree-node, entries-low, same-forest}
use Rattle.swh_folders.proofs.Lives.{part-sound}

long-copy : (nodes fresh : List Listed) (base : ℕ) → base ≤ length nodes → length (take base nodes ++ fresh) ≡ base + length fresh
long-copy nodes fresh base le = simp (length-append, length-take) (omega arith)

pub copied-more : (names : List (Vec ℕ)) (nodes : List Listed) (base : ℕ) (live : List Bool) (x : Stands) (fresh : List Listed) (moved : List ℕ) (v : Listed) → IsCopied names nodes base live x fresh moved → base ≤ length nodes → AreGood (length names) (base + length fresh) v.items → forest_of (texts names) (tree_at names (take base nodes ++ fresh)) v.items ≡ tree_at names nodes (base + length moved) → IsPart x (tree_at names nodes (base + length moved)) → IsCopied names nodes base live x (fresh ++ v ∷ []) (moved ++ (base + length fresh) ∷ [])
copied-more names nodes base live x fresh moved v c within good same part =
    let long = long-copy nodes fresh base within in
    let behind : take base nodes ++ (fresh ++ v ∷ []) ≡ (take base nodes ++ fresh) ++ v ∷ [] = sym (append_assoc (take base nodes) fresh (v ∷ [])) in
    let more : base + length (fresh ++ v ∷ []) ≡ base + length fresh + 1 = simp length-append (omega arith) in
    let P : ℕ → Type 0 = λ k. AreGood (length names) k v.items in
    let old = λ (j : ℕ) (lt : j < base + length fresh). ap (λ (o : List Listed). tree_at names o j) behind ∙ tree-push_old names (take base nodes ++ fresh) v j (omega (arith, long, lt)) in
    let bound = c.moves.base_in in
    let new : tree_at names (take base nodes ++ (fresh ++ v ∷ [])) (base + length fresh) ≡ tree_at names nodes (base + length moved) =
    ap (λ (o : List Listed). tree_at names o (base + length fresh)) behind
    ∙ ap (tree_at names ((take base nodes ++ fresh) ++ v ∷ [])) (sym long)
    ∙ tree-push_new names (take base nodes ++ fresh) v ∙ same in
    record {
      arena = rw behind (arena-push names (take base nodes ++ fresh) v c.arena (subst P (sym long) good));
      moves = record {
        base_in = omega arith;
        low = λ j lt. old j (omega arith) ∙ c.moves.low j lt;
        high = λ k lt is. elim (cases_lt k (length moved)) [
          | inl below ↦
              let place = get_or_append_left moved ((base + length fresh) ∷ []) 0 k below in
              let low = c.moves.inside k below is in
              ap (tree_at names (take base nodes ++ (fresh ++ v ∷ []))) place ∙ old (get_or moved k 0) low ∙ c.moves.high k below is
          | inr top ↦
              let size : k < length moved + 1 = simp length-append at lt in
              let k-is : k ≡ length moved = omega arith in
              rw k-is (ap (tree_at names (take base nodes ++ (fresh ++ v ∷ []))) (get_or-append_seam moved (base + length fresh) [] 0) ∙ new)
        ];
        inside = λ k lt is. elim (cases_lt k (length moved)) [
          | inl below ↦
              let place = get_or_append_left moved ((base + length fresh) ∷ []) 0 k below in
              let low = c.moves.inside k below is in omega arith
          | inr top ↦
              let size : k < length moved + 1 = simp length-append at lt in
              let k-is : k ≡ length moved = omega arith in
              let place = get_or-append_seam moved (base + length fresh) [] 0 in rw k-is (omega arith)
        ];
      };
      parts = λ m le lt. elim (cases_lt m (base + length fresh)) [
        | inl below ↦ subst (IsPart x) (sym (old m below)) (c.parts m le below)
        | inr top ↦ let m-is : m ≡ base + length fresh = omega arith in rw m-is (subst (IsPart x) (sym new) part)
      ];
    }

-- what stands below the base with these entries
pub known-tree : (names : List (Vec ℕ)) (nodes fresh : List Listed) (base place : ℕ) (es : List Entry) (g : Forest) → IsArena names nodes → base ≤ length nodes → place < base → ((j : ℕ) → j < base → tree_at names (take base nodes ++ fresh) j ≡ tree_at names nodes j) → ((w : Listed) → (get_or nodes place w).items ≡ es)
    → forest_of (texts names) (tree_at names (take base nodes ++ fresh)) es ≡ g → tree_at names nodes place ≡ g
known-tree names nodes fresh base place es g arena le below low is e =
    let at = tree_at names nodes in
    let at' = tree_at names (take base nodes ++ fresh) in
    let none : Listed = record { items = []; cost = 0; shares = false } in
    let v = get_or nodes place none in
    let lt : place < length nodes = omega arith in
    let own : get_or nodes place none ≡ get_or nodes place (get_or nodes place none) = get_or_default nodes place none (get_or nodes place none) lt in
    let good = entries-low names nodes place v arena lt own in
    tree-node names nodes place v arena lt own
    ∙ same-forest (texts names) (texts names) at at' (length names) place v.items good (λ i l. refl) (λ j l. sym (low j (omega arith)))
    ∙ ap (forest_of (texts names) at') (is none) ∙ e

-- a folder that stands below the base already
pub copied-known : (names : List (Vec ℕ)) (nodes : List Listed) (base : ℕ) (live : List Bool) (x : Stands) (fresh : List Listed) (moved : List ℕ) (place : ℕ) → place < base → tree_at names nodes place ≡ tree_at names nodes (base + length moved) → IsCopied names nodes base live x fresh moved → IsCopied names nodes base live x fresh (moved ++ place ∷ [])
copied-known names nodes base live x fresh moved place below same c = record {
  arena = c.arena;
  moves = record {
    base_in = c.moves.base_in;
    low = c.moves.low;
    high = λ k lt is. elim (cases_lt k (length moved)) [
      | inl under ↦
          let there = get_or_append_left moved (place ∷ []) 0 k under in
          ap (tree_at names (take base nodes ++ fresh)) there ∙ c.moves.high k under is
      | inr top ↦
          let size : k < length moved + 1 = simp length-append at lt in
          let k-is : k ≡ length moved = omega arith in
          rw k-is (ap (tree_at names (take base nodes ++ fresh)) (get_or-append_seam moved place [] 0) ∙ c.moves.low place below ∙ same)
    ];
    inside = λ k lt is. elim (cases_lt k (length moved)) [
      | inl under ↦
          let there = get_or_append_left moved (place ∷ []) 0 k under in
          let low = c.moves.inside k under is in omega arith
      | inr top ↦
          let size : k < length moved + 1 = simp length-append at lt in
          let k-is : k ≡ length moved = omega arith in
          let bound = c.moves.base_in in
          let there = get_or-append_seam moved place [] 0 in rw k-is (omega arith)
    ];
  };
  parts = c.parts;
}

good-rest : (n : ℕ) (r s : List (List Entry)) → AllGood n (r ++ s) → AllGood n s
good-rest n [] s h = h
good-rest n (e ∷ r) s h = good-rest n r s h.1

among-rest : (names : List (List ℕ)) (r s : List (List Entry)) (j : ℕ) → j < length s → among names (r ++ s) j ≡ among names s j
among-rest names [] s j lt = refl
among-rest names (e ∷ r) s j lt = among-older names e (r ++ s) j (simp length-append (omega arith)) ∙ among-rest names r s j lt

layers-split : (xs ys : List Listed) → layers (xs ++ ys) ≡ layers ys ++ layers xs
layers-split xs ys = ap reverse (map-append (λ (w : Listed). w.items) xs ys) ∙ reverse-append (map (λ (w : Listed). w.items) xs) (map (λ (w : Listed). w.items) ys)

layers-take : (base : ℕ) (nodes : List Listed) → layers nodes ≡ layers (drop base nodes) ++ layers (take base nodes)
layers-take base nodes = ap layers (sym (take-append-drop base nodes)) ∙ layers-split (take base nodes) (drop base nodes)

pub arena-take : (names : List (Vec ℕ)) (nodes : List Listed) (base : ℕ) → IsArena names nodes → IsArena names (take base nodes)
unfolding IsArena
arena-take names nodes base h =
    let P : List (List Entry) → Type 0 = λ r. AllGood (length names) r in
    good-rest (length names) (layers (drop base nodes)) (layers (take base nodes)) (subst P (layers-take base nodes) h)

pub tree-take : (names : List (Vec ℕ)) (nodes : List Listed) (base j : ℕ) → base ≤ length nodes → j < base → tree_at names (take base nodes) j ≡ tree_at names nodes j
unfolding tree_at
tree-take names nodes base j le lt =
    let size = length-layers (take base nodes) in
    let long : length (take base nodes) ≡ base = simp length-take (omega arith) in
    sym (ap (λ (r : List (List Entry)). among (texts names) r j) (layers-take base nodes) ∙ among-rest (texts names) (layers (drop base nodes)) (layers (take base nodes)) j (omega arith))

pub good-take : (names : List (Vec ℕ)) (nodes : List Listed) (base : ℕ) → base ≤ length nodes → IsGood names nodes → IsGood names (take base nodes)
good-take names nodes base le g = record {
  arena = arena-take names nodes base g.arena;
  sound = λ i lt. let long : length (take base nodes) ≡ base = simp length-take (omega arith) in
      let within : i < base = omega arith in
      subst IsSound (sym (tree-take names nodes base i le within)) (g.sound i (omega arith));
}

pub copied-none : (names : List (Vec ℕ)) (nodes : List Listed) (base : ℕ) (live : List Bool) (x : Stands) → IsArena names nodes → base ≤ length nodes → IsCopied names nodes base live x [] []
copied-none names nodes base live x h le = record {
  arena = rw append-nil (arena-take names nodes base h);
  moves = record {
    base_in = omega arith;
    low = λ j lt. ap (λ (o : List Listed). tree_at names o j) (append-nil (take base nodes)) ∙ tree-take names nodes base j le lt;
    high = λ k lt is. absurd (omega arith);
    inside = λ k lt is. absurd (omega arith);
  };
  parts = λ m le' lt. absurd (omega arith);
}

-- the folders that were copied are sound
pub copied-good : (names : List (Vec ℕ)) (nodes : List Listed) (base : ℕ) (live : List Bool) (x : Stands) (fresh : List Listed) (moved : List ℕ) → base ≤ length nodes → IsGood names nodes → IsSound (forest x) → IsCopied names nodes base live x fresh moved → IsGood names (take base nodes ++ fresh)
copied-good names nodes base live x fresh moved le g s c = record {
  arena = c.arena;
  sound = λ i lt.
      let long = long-copy nodes fresh base le in
      elim (cases_lt i base) [
        | inl below ↦ subst IsSound (sym (c.moves.low i below)) (g.sound i (omega arith))
        | inr top ↦ part-sound x (tree_at names (take base nodes ++ fresh) i) s (c.parts i (omega arith) (omega arith))
      ];
}

-- the folders below others stay what they are
pub tree-take-append : (names : List (Vec ℕ)) (low high : List Listed) (j : ℕ) → j < length low → tree_at names (low ++ high) j ≡ tree_at names low j
unfolding tree_at
tree-take-append names low high j lt =
    let size = length-layers low in
    ap (λ (r : List (List Entry)). among (texts names) r j) (layers-split low high) ∙ among-rest (texts names) (layers high) (layers low) j (omega arith)
