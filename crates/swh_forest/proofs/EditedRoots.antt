-- What an edit of a root's folder makes of the root's map.
use Rattle.std.proofs.Common.{◌≡◌, ◌≢◌, ℕ, List, [], ◌∷◌, length, Option, Some, None, refl, sym, ap, subst, ◌∙◌}
use Rattle.std.specs.Global.{Vec}
use Rattle.swh_entries.specs.Listed.{Listed}
use Rattle.swh_entries.specs.declared.entry.Child.{Child}
use Rattle.swh_entries.specs.declared.entry.Child.TheVariants.{File as FileChild, Folder as FolderChild}
use Rattle.swh_forest.specs.Arena.{stands, stands_of, tree_at}
use Rattle.swh_forest.specs.Forest.{Forest, Stands, Nothing, IsFile, IsFolder, child_at, forest, found, graft, deleted, flat, shown}
use Rattle.swh_forest.specs.PathMap.{PathMap, delete, copy, rename, held}
use Rattle.swh_forest.specs.declared.edits.Transfer.{Transfer}
use Rattle.swh_forest.specs.declared.edits.Transfer.TheVariants.{Copy, Rename}
use Rattle.swh_forest.specs.Transfer.{transferred, left_by}
use Rattle.swh_forest.specs.Sound.{IsSound, IsSoundHere}
use Rattle.swh_forest.specs.Roots.{IsBelow, map_of_number, AreSound, IsGood, map_at, root_forest}
use Rattle.swh_fastlex.specs.Path.{components, IsPath}
use Rattle.swh_forest.proofs.Canonical.{delete-here}
use Rattle.swh_forest.proofs.Components.{path-names, components-some}
use Rattle.swh_forest.proofs.Puts.{copy-here, rename-here, held-root, shown-some}
use Rattle.swh_forest.proofs.Sounds.{child-sound, found-sound}

-- the map of a root's number is that of its folder
pub root_flat : (names : List (Vec ℕ)) (nodes : List Listed) (r : Option ℕ) → map_of_number (map_at names nodes) r ≡ flat (root_forest (tree_at names nodes) r)
root_flat names nodes None = refl
root_flat names nodes (Some n) = refl

pub root_sound : (names : List (Vec ℕ)) (nodes : List Listed) (r : Option ℕ) → AreSound names nodes → IsBelow (length nodes) r → IsSound (root_forest (tree_at names nodes) r)
root_sound names nodes None sound low = tt
root_sound names nodes (Some n) sound low = sound n low

pub from-root : (names : List (Vec ℕ)) (nodes : List Listed) (r : Option ℕ) (here : Option Child) → ((at : ℕ → Forest) → forest (stands_of at here) ≡ root_forest at r) → flat (forest (stands_of (tree_at names nodes) here)) ≡ map_of_number (map_at names nodes) r
from-root names nodes r here same = ap flat (same (tree_at names nodes)) ∙ sym (root_flat names nodes r)

pub to-root : (names : List (Vec ℕ)) (nodes : List Listed) (r : Option ℕ) (there : Option Child) → ((at : ℕ → Forest) → root_forest at r ≡ forest (stands_of at there)) → map_of_number (map_at names nodes) r ≡ flat (forest (stands_of (tree_at names nodes) there))
to-root names nodes r there same = root_flat names nodes r ∙ ap flat (same (tree_at names nodes))

pub here-sound : (names : List (Vec ℕ)) (nodes : List Listed) (r : Option ℕ) (here : Option Child) → IsGood names nodes → IsBelow (length nodes) r → ((at : ℕ → Forest) → forest (stands_of at here) ≡ root_forest at r) → IsSound (forest (stands_of (tree_at names nodes) here))
here-sound names nodes r here good low same = subst IsSound (sym (same (tree_at names nodes))) (root_sound names nodes r good.sound low)

pub deleted-none : (path : List ℕ) (y : Stands) (m : PathMap) → IsPath path → IsSound (forest y) → flat (forest y) ≡ m → found (components path) y ≡ Nothing → m ≡ delete (components path) m
deleted-none path y m is_path sound from none =
    let gone = delete-here (components path) y (components-some path) (path-names path is_path) sound in
    let stays : deleted (components path) y ≡ y = rw none refl in
    sym from ∙ ap (λ (x : Stands). flat (forest x)) (sym stays) ∙ gone ∙ ap (delete (components path)) from

pub deleted_one : (p : List (List ℕ)) (y x : Stands) → found p y ≡ x → x ≢ Nothing → deleted p y ≡ graft p Nothing y
deleted_one p y Nothing is ne = absurd (ne refl)
deleted_one p y (IsFile l) is ne = rw is refl
deleted_one p y (IsFolder g) is ne = rw is refl

pub some-stands : (at : ℕ → Forest) (child : Child) → stands at child ≢ Nothing
some-stands at (FileChild l) e = cc
some-stands at (FolderChild j) e = cc

-- what is found at a path
found_path : (p : List (List ℕ)) (y : Stands) → p ≢ [] → IsSound (forest y) → IsSoundHere (found p y)
found_path [] y ne s = absurd (ne refl)
found_path (c ∷ p) y ne s = found-sound p (child_at c (forest y)) (child-sound c (forest y) s)

pub found-path : (path : List ℕ) (y : Stands) → IsSound (forest y) → IsSoundHere (found (components path) y)
found-path path y s = found_path (components path) y (components-some path) s

pub held-none : (path : List ℕ) (y : Stands) (m : PathMap) → IsSound (forest y) → flat (forest y) ≡ m → found (components path) y ≡ Nothing → held (components path) m ≡ []
held-none path y m s from none = ap (held (components path)) (sym from) ∙ held-root (components path) y (components-some path) s ∙ ap shown none

pub held-some : (path : List ℕ) (y : Stands) (m : PathMap) → IsSound (forest y) → flat (forest y) ≡ m → found (components path) y ≢ Nothing → held (components path) m ≢ []
held-some path y m s from some e = shown-some (found (components path) y) (found-path path y s) some (sym (held-root (components path) y (components-some path) s) ∙ ap (held (components path)) from ∙ e)

copy-done : (source target : List ℕ) (y z : Stands) (m m' : PathMap) → IsPath target → IsSound (forest y) → flat (forest y) ≡ m → m' ≡ flat (forest z) → z ≡ graft (components target) (found (components source) y) y → m' ≡ copy (components source) (components target) m
copy-done source target y z m m' is_path sound from to is =
    to ∙ ap (λ (x : Stands). flat (forest x)) is
    ∙ copy-here (components source) (components target) y (components-some source) (components-some target) (path-names target is_path) (found-path source y sound) sound
    ∙ ap (copy (components source) (components target)) from

rename-done : (source target : List ℕ) (y z : Stands) (m m' : PathMap) → IsPath source → IsPath target → IsSound (forest y) → flat (forest y) ≡ m → m' ≡ flat (forest z) → found (components source) y ≢ Nothing → z ≡ graft (components target) (found (components source) y) (graft (components source) Nothing y) → m' ≡ rename (components source) (components target) m
rename-done source target y z m m' s_path t_path sound from to some is =
    to ∙ ap (λ (x : Stands). flat (forest x)) is
    ∙ rename-here (components source) (components target) y (components-some source) (components-some target) (path-names source s_path) (path-names target t_path) (found-path source y sound) some sound
    ∙ ap (rename (components source) (components target)) from

pub transfer-done : (way : Transfer) (source target : List ℕ) (y z : Stands) (m m' : PathMap) → IsPath source → IsPath target → IsSound (forest y) → flat (forest y) ≡ m → m' ≡ flat (forest z) → found (components source) y ≢ Nothing → z ≡ graft (components target) (found (components source) y) (left_by way (components source) y) → m' ≡ transferred way (components source) (components target) m
transfer-done Copy source target y z m m' s_path t_path sound from to some is = copy-done source target y z m m' t_path sound from to is
transfer-done Rename source target y z m m' s_path t_path sound from to some is = rename-done source target y z m m' s_path t_path sound from to some is
