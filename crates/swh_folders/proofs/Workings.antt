-- What stays of folders at work.
use Rattle.std.proofs.Common.{◌≡◌, ℕ, ◌≤◌, List, [], ◌∷◌, ◌++◌, length, take, Option, Some, None, refl, ap, ◌∙◌, arith}
use Rattle.std.specs.Global.{Vec}
use Rattle.swh_entries.specs.Listed.{Listed}
use Rattle.swh_folders.specs.declared.folders.Folders.{Folders}
use Rattle.swh_forest.specs.Arena.{tree_at, forest_of, Grows}
use Rattle.swh_entries.specs.Keys.{texts}
use Rattle.swh_forest.specs.Roots.{IsGood, map_at, IsBelow, map_of_number}
use Rattle.swh_folders.specs.Working.{AreFolders, count_of, IsTallied, StaysBelow}
use Rattle.swh_forest.proofs.Arenas.{arena-none, arena-push, sound-push, tree-push_old, tree-push_new}
use Rattle.std.proofs.lemmas.List.{length-append, length-take, take_at}
use Rattle.swh_folders.proofs.Copies.{good-take, tree-take}
use Rattle.swh_folders.proofs.Tallies.{tallied-on}
use Rattle.swh_forest.specs.Forest.{Bare, flat}

pub good-none : IsGood [] []
good-none = record { arena = arena-none; sound = λ i lt. absurd (omega arith) }

pub stays-grown : (base : ℕ) (old new : Folders) → IsTallied base old → AreFolders new → Grows old.names.items old.nodes.items new.names.items new.nodes.items → StaysBelow base old new
stays-grown base old new t good grows =
    let from = t.from in
    let up = t.up_to in
    record {
      good = good;
      long = let more = grows.longer in omega arith;
      stay = λ j lt. grows.trees j (omega arith);
    }

pub stays-same : (base : ℕ) (f : Folders) → IsTallied base f → AreFolders f → StaysBelow base f f
stays-same base f t good = let from = t.from in let up = t.up_to in record { good = good; long = omega arith; stay = λ j lt. refl }

pub stays-on : (base : ℕ) (a b c : Folders) → StaysBelow base a b → StaysBelow base b c → StaysBelow base a c
stays-on base a b c s t = record { good = t.good; long = t.long; stay = λ j lt. t.stay j lt ∙ s.stay j lt }

-- a folder more, with no entries
pub stays-pushed : (base : ℕ) (old new : Folders) (v : Listed) → IsTallied base old → AreFolders old → v.items ≡ [] → new.names.items ≡ old.names.items → new.nodes.items ≡ old.nodes.items ++ v ∷ [] → StaysBelow base old new
stays-pushed base old new v t good none names nodes =
    let from = t.from in
    let up = t.up_to in
    record {
      good = rw (names, nodes) (record {
        arena = arena-push old.names.items old.nodes.items v good.arena (rw none tt);
        sound = sound-push old.names.items old.nodes.items v good.sound (rw none tt);
      });
      long = rw nodes (simp length-append (omega arith));
      stay = λ j lt. rw (names, nodes) (tree-push_old old.names.items old.nodes.items v j (omega arith));
    }

-- the folders below the base alone
pub stays-cut : (base : ℕ) (old new : Folders) → base ≤ count_of old → AreFolders old → new.names.items ≡ old.names.items → new.nodes.items ≡ take base old.nodes.items → StaysBelow base old new
stays-cut base old new le good names nodes = record {
  good = rw (names, nodes) (good-take old.names.items old.nodes.items base le good);
  long = rw nodes (simp length-take (omega arith));
  stay = λ j lt. rw (names, nodes) (tree-take old.names.items old.nodes.items base j le lt);
}

pub tree-pushed : (names : List (Vec ℕ)) (nodes : List Listed) (v : Listed) → v.items ≡ [] → tree_at names (nodes ++ v ∷ []) (length nodes) ≡ Bare
tree-pushed names nodes v none = tree-push_new names nodes v ∙ ap (forest_of (texts names) (tree_at names nodes)) none

pub below-grown : (names names' : List (Vec ℕ)) (nodes nodes' : List Listed) (root : Option ℕ) → IsBelow (length nodes) root → Grows names nodes names' nodes' → IsBelow (length nodes') root
below-grown names names' nodes nodes' None low grows = tt
below-grown names names' nodes nodes' (Some n) low grows = let more = grows.longer in omega arith

pub map-grown : (names names' : List (Vec ℕ)) (nodes nodes' : List Listed) (root : Option ℕ) → IsBelow (length nodes) root → Grows names nodes names' nodes' → map_of_number (map_at names' nodes') root ≡ map_of_number (map_at names nodes) root
map-grown names names' nodes nodes' None low grows = refl
map-grown names names' nodes nodes' (Some n) low grows = ap flat (grows.trees n low)

-- what is counted of them, with a folder more
pub tallied-pushed : (base : ℕ) (old new : Folders) (v : Listed) → IsTallied base old → new.nodes.items ≡ old.nodes.items ++ v ∷ [] → new.counted ≡ old.counted → new.entries ≡ old.entries → IsTallied base new
tallied-pushed base old new v t nodes counted entries =
    tallied-on base old new t (rw nodes (simp length-append (omega arith))) (rw nodes (take_at old.nodes.items (v ∷ []) (count_of old) refl)) counted entries

-- what is counted of them, where folders came
pub tallied-grown : (base : ℕ) (old new : Folders) → IsTallied base old → Grows old.names.items old.nodes.items new.names.items new.nodes.items → new.counted ≡ old.counted → new.entries ≡ old.entries → IsTallied base new
tallied-grown base old new t grows counted entries = tallied-on base old new t grows.longer grows.lists counted entries
