-- What is left when a folder is opened, edited and closed.
use Rattle.std.proofs.Common.{◌≡◌, inl, inr, ℕ, ◌<◌, List, length, Option, Some, None, refl, sym, ap, subst, ◌∙◌, arith}
use Rattle.std.specs.Global.{Vec}
use Rattle.swh_entries.specs.declared.entry.Child.{Child}
use Rattle.swh_entries.specs.declared.entry.Entry.{Entry}
use Rattle.swh_folders.specs.declared.folders.Folders.{Folders}
use Rattle.swh_entries.specs.Listed.{Listed}
use Rattle.swh_forest.specs.Arena.{stands_of, forest_of, tree_at, entries_without, AreGood, IsIn, Grows}
use Rattle.swh_entries.specs.Keys.{texts}
use Rattle.swh_entries.specs.Named.{Extends}
use Rattle.swh_forest.specs.Forest.{Forest, Stands, IsFolder, put, inserted, forest, found, graft, flat}
use Rattle.swh_folders.specs.Live.{IsPart}
use Rattle.swh_folders.specs.Opened.{StaysBounded}
use Rattle.swh_forest.specs.PathMap.{PathMap}
use Rattle.swh_forest.specs.Roots.{IsBelow, IsGood, root_forest}
use Rattle.swh_folders.specs.Working.{AreFolders, folder_at, root_map, IsTallied, KeepsCounts, StaysBelow, AreNeeded, IsWithin, IsSetAnew, IsBounded}
use Rattle.swh_forest.proofs.Arenas.{arena-names, sound-names, tree-names, put-added}
use Rattle.swh_folders.proofs.Openings.{root-names}
use Rattle.swh_folders.proofs.Overwrites.{found-same, graft-same}
use Rattle.swh_forest.proofs.Steps.{forest-without, without-good}

pub found-here : (p : List (List ℕ)) (y : Stands) (g : Forest) → forest y ≡ g → forest (found p y) ≡ forest (found p (IsFolder g))
found-here p y g is = sym (found-same p y) ∙ ap (λ (f : Forest). forest (found p (IsFolder f))) is

pub graft-here : (p : List (List ℕ)) (x y : Stands) (g : Forest) → forest y ≡ g → graft p x y ≡ graft p x (IsFolder g)
graft-here p x y g is = sym (graft-same p x y) ∙ ap (λ (f : Forest). graft p x (IsFolder f)) is

pub root-grown : (names names' : List (Vec ℕ)) (nodes nodes' : List Listed) (r : Option ℕ) → IsBelow (length nodes) r → Grows names nodes names' nodes' → root_forest (tree_at names' nodes') r ≡ root_forest (tree_at names nodes) r
root-grown names names' nodes nodes' None low grows = refl
root-grown names names' nodes nodes' (Some n) low grows = grows.trees n low

pub edited-own : (names names' : List (Vec ℕ)) (nodes : List Listed) (es : List Entry) (name : List ℕ) (child : Option Child) (rest out : List Entry) → IsGood names nodes → Extends names names' → AreGood (length names) (length nodes) es → IsIn (length nodes) child → rest ≡ entries_without (texts names) name es → forest_of (texts names') (tree_at names' nodes) out ≡ inserted name (stands_of (tree_at names' nodes) child) (forest_of (texts names) (tree_at names' nodes) rest) → forest_of (texts names') (tree_at names' nodes) out ≡ put name (stands_of (tree_at names nodes) child) (forest_of (texts names) (tree_at names nodes) es)
edited-own names names' nodes es name child rest out good more entries low is added =
    put-added names names' nodes child (forest_of (texts names) (tree_at names nodes) es) name rest out good.arena more low
    (subst (λ (r : List Entry). AreGood (length names) (length nodes) r) (sym is) (without-good (texts names) name (length names) (length nodes) es entries)) added
    (ap (forest_of (texts names) (tree_at names nodes)) is ∙ forest-without (texts names) name (tree_at names nodes) es)

pub good-names : (names names' : List (Vec ℕ)) (nodes : List Listed) → IsGood names nodes → Extends names names' → IsGood names' nodes
good-names names names' nodes good more = record {
  arena = arena-names names names' nodes good.arena more;
  sound = sound-names names names' nodes good.arena more good.sound;
}

pub stays-self : (base : ℕ) (f : Folders) → IsTallied base f → AreFolders f → StaysBelow base f f
stays-self base f t good = record { good = good; long = let from = t.from in let up = t.up_to in omega arith; stay = λ j lt. refl }

pub stays-names : (base : ℕ) (old mid new : Folders) → StaysBelow base old mid → Extends mid.names.items new.names.items → new.nodes.items ≡ mid.nodes.items → StaysBelow base old new
stays-names base old mid new s more same = record {
  good = rw same (good-names mid.names.items new.names.items mid.nodes.items s.good more);
  long = rw same s.long;
  stay = λ j lt. ap (λ (k : List Listed). tree_at new.names.items k j) same ∙ tree-names mid.names.items new.names.items mid.nodes.items s.good.arena more j ∙ s.stay j lt;
}

needed_names : (base : ℕ) (mid new : Folders) (root : Option ℕ) → AreFolders mid → Extends mid.names.items new.names.items → new.nodes.items ≡ mid.nodes.items → AreNeeded base mid root → AreNeeded base new root
needed_names base mid new root good more same h = λ n le lt.
    let there : folder_at new n ≡ folder_at mid n = ap (λ (k : List Listed). tree_at new.names.items k n) same ∙ tree-names mid.names.items new.names.items mid.nodes.items good.arena more n in
    let is : root_forest (folder_at new) root ≡ root_forest (folder_at mid) root = ap (λ (k : List Listed). root_forest (tree_at new.names.items k) root) same ∙ root-names mid.names.items new.names.items mid.nodes.items root good.arena more in
    subst (λ (g : Forest). IsPart (IsFolder g) (folder_at new n)) (sym is) (subst (λ (g : Forest). IsPart (IsFolder (root_forest (folder_at mid) root)) g) (sym there) (h n le (subst (λ (k : List Listed). n < length k) same lt)))

map-names : (mid new : Folders) (root : Option ℕ) → AreFolders mid → Extends mid.names.items new.names.items → new.nodes.items ≡ mid.nodes.items → root_map new root ≡ root_map mid root
map-names mid new None good more same = refl
map-names mid new (Some n) good more same = ap (λ (k : List Listed). flat (tree_at new.names.items k n)) same ∙ ap flat (tree-names mid.names.items new.names.items mid.nodes.items good.arena more n)

counts-on : (a b c : Folders) → KeepsCounts a b → KeepsCounts b c → KeepsCounts a c
counts-on a b c h k = record {
  counted = k.counted ∙ h.counted;
  entries = k.entries ∙ h.entries;
  room = k.room ∙ h.room;
  most = k.most ∙ h.most;
}

within_names : (base : ℕ) (mid new : Folders) → new.nodes.items ≡ mid.nodes.items → KeepsCounts mid new → IsWithin base mid → IsWithin base new
within_names base mid new same k h = record { folders = rw (same, k.most) h.folders; entries = rw (same, k.room) h.entries }

anew_names : (base : ℕ) (mid new : Folders) → new.nodes.items ≡ mid.nodes.items → KeepsCounts mid new → IsSetAnew base mid → IsSetAnew base new
anew_names base mid new same k h = record { folders = rw (same, k.most) h.folders; entries = rw (same, k.room) h.entries; whole = rw same h.whole }

is_bounded_names : (base : ℕ) (old mid new : Folders) (root : Option ℕ) → AreFolders mid → Extends mid.names.items new.names.items → new.nodes.items ≡ mid.nodes.items → KeepsCounts mid new → IsBounded base old mid root → IsBounded base old new root
is_bounded_names base old mid new root good more same k (inl h) = inl (within_names base mid new same k h.0, k.room ∙ h.1, k.most ∙ h.2)
is_bounded_names base old mid new root good more same k (inr h) = inr (needed_names base mid new root good more same h.0, anew_names base mid new same k h.1)

pub bounded-names : (base : ℕ) (old mid new : Folders) (root : Option ℕ) (m : PathMap) → AreFolders mid → Extends mid.names.items new.names.items → new.nodes.items ≡ mid.nodes.items → KeepsCounts mid new → StaysBounded base old mid root m → StaysBounded base old new root m
bounded-names base old mid new root m good more same k (inl h) = inl (same ∙ h.0, counts-on old mid new h.1 k)
bounded-names base old mid new root m good more same k (inr h) = inr (is_bounded_names base old mid new root good more same k h.0, map-names mid new root good more same ∙ h.1)
