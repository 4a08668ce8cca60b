-- The entries of a folder's directory, and their ids and objects.
use Rattle.std.proofs.Common.{◌≡◌, ◌≢◌, ℕ, suc, ◌+◌, ◌<◌, ◌≤◌, true, List, [], ◌∷◌, ◌++◌, length, drop, get_or, refl, sym, ap, subst, ◌∙◌, inl, inr, arith, add-one, append_assoc}
use Rattle.std.proofs.lemmas.Bool.{cases_lt}
use Rattle.std.proofs.lemmas.List.{get_or_append_left, length-append}
use Rattle.std.proofs.Math.Seq.{get_or-append_seam}
use Rattle.std.specs.Ordering.{nat_cmp}
use Rattle.std.specs.declared.cmp.Ordering.TheVariants.{Less}
use Rattle.std.specs.Cmp.Lexicographic.{slice_cmp}
use Rattle.std.specs.List.{AllByRecursion}
use Rattle.swh_base.specs.declared.entry.Entry.{Entry as Object}
use Rattle.swh_base.specs.declared.kind.Kind.{Kind}
use Rattle.swh_base.specs.Directory.{IsMode, AreEntries, sort_key}
use Rattle.swh_dirfmt.specs.declared.entry.DirEntry.{DirEntry}
use Rattle.swh_dirfmt.specs.Entries.{entry_views}
use Rattle.swh_trees.specs.Held.{AreIds}
use Rattle.swh_forest.specs.Leaf.{IsLeafMode}
use Rattle.swh_trees.specs.declared.fault.TreeFault.{TreeFault}
use Rattle.swh_trees.specs.declared.fault.TreeFault.TheVariants.{Memory, TooLong}
use Rattle.swh_trees.specs.Objects.{IsDirectoryObject, AreDirectoryObjects, ExplainsEntries, ExplainsAmong, GoesOn}
use Rattle.swh_forest.specs.Sound.{IsSound, Follows}
use Rattle.swh_trees.proofs.Directories.{less_is, file-key}
use Rattle.swh_forest.proofs.Sounds.{follows-back, other_file, other_folder}
use Rattle.swh_forest.specs.PathMap.{same}
use Rattle.std.proofs.Math.Seq.{drop-cons}
use Rattle.swh_entries.specs.declared.entry.Entry.{Entry}
use Rattle.swh_entries.specs.declared.entry.Child.{Child}
use Rattle.swh_entries.specs.declared.entry.Child.TheVariants.{File as FileChild, Folder as FolderChild}
use Rattle.swh_forest.specs.Forest.{Forest, Bare, File, Folder, Nothing, child_at, beside}
use Rattle.swh_entries.specs.Keys.{is_before, name_at}
use Rattle.swh_trees.specs.Listing.{directory, entry_here}
use Rattle.swh_base.specs.Directory.{DirectoryEntry}
use Rattle.swh_forest.specs.Arena.{stands, forest_of}

directory-beside : (id : List DirectoryEntry → List ℕ) (n : List ℕ) (k : Child) (at : ℕ → Forest) (f : Forest) → directory id (beside n (stands at k) f) ≡ entry_here id n (stands at k) ∷ directory id f
directory-beside id n (FileChild l) at f = refl
directory-beside id n (FolderChild j) at f = refl

pub directory-more : (id : List DirectoryEntry → List ℕ) (names : List (List ℕ)) (at : ℕ → Forest) (es : List Entry) (i : ℕ) (d : Entry) → i < length es → directory id (forest_of names at (drop i es)) ≡ entry_here id (name_at names (get_or es i d).name) (stands at (get_or es i d).child) ∷ directory id (forest_of names at (drop (i + 1) es))
directory-more id names at es i d lt = rw (add-one, drop-cons es i d lt) (directory-beside id (name_at names (get_or es i d).name) (get_or es i d).child at (forest_of names at (drop (suc i) es)))

-- ## A sound folder's entries are a directory's

abbrev pub AreLong : List DirectoryEntry → Type 0
AreLong es = AllByRecursion (λ (e : DirectoryEntry). length e.id ≡ 20) es

leaf-mode : (mode : ℕ) → IsLeafMode mode → IsMode mode
leaf-mode mode (inl e) = inl e
leaf-mode mode (inr (inl e)) = inr (inl e)
leaf-mode mode (inr (inr (inl e))) = inr (inr (inl e))
leaf-mode mode (inr (inr (inr e))) = inr (inr (inr (inr e)))

fresh-names : (id : List DirectoryEntry → List ℕ) (c : List ℕ) (f : Forest) → child_at c f ≡ Nothing → AllByRecursion (λ (e : DirectoryEntry). c ≢ e.name) (directory id f)
fresh-names id c Bare none = tt
fresh-names id c (File n l f) none = let o = other_file n c l f (same n c) refl none in (o.0, fresh-names id c f o.1)
fresh-names id c (Folder n g f) none = let o = other_folder n c g f (same n c) refl none in (o.0, fresh-names id c f o.1)

key-before : (k j : List ℕ) → is_before k j ≡ true → slice_cmp nat_cmp k j ≡ Less
key-before k j b = less_is (slice_cmp nat_cmp k j) b

all-after : (id : List DirectoryEntry → List ℕ) (k : List ℕ) (f : Forest) → Follows k f → IsSound f → AllByRecursion (λ (e : DirectoryEntry). slice_cmp nat_cmp k (sort_key e) ≡ Less) (directory id f)
all-after id k Bare h s = tt
all-after id k (File n l f) h s = (subst (λ (j : List ℕ). slice_cmp nat_cmp k j ≡ Less) (sym (file-key n l l.id s.1)) (key-before k (n ++ []) h), all-after id k f (follows-back k (n ++ []) f h s.3) s.4)
all-after id k (Folder n g f) h s = (key-before k (n ++ 47 ∷ []) h, all-after id k f (follows-back k (n ++ 47 ∷ []) f h s.4) s.5)

are-entries : (id : List DirectoryEntry → List ℕ) (f : Forest) → IsSound f → AreLong (directory id f) → AreEntries (directory id f)
are-entries id Bare s long = tt
are-entries id (File n l f) s long = (
  record { mode = leaf-mode l.mode s.1.mode; name = s.0; id = long.0 },
  fresh-names id n f s.2,
  subst (λ (k : List ℕ). AllByRecursion (λ (e : DirectoryEntry). slice_cmp nat_cmp k (sort_key e) ≡ Less) (directory id f)) (sym (file-key n l l.id s.1)) (all-after id (n ++ []) f s.3 s.4),
  are-entries id f s.4 long.1,
)
are-entries id (Folder n g f) s long = (
  record { mode = inr (inr (inr (inl refl))); name = s.0; id = long.0 },
  fresh-names id n f s.3,
  all-after id (n ++ 47 ∷ []) f s.4 s.5,
  are-entries id f s.5 long.1,
)

long-views : (es : List DirEntry) → AllByRecursion (λ (e : DirEntry). length e.id ≡ 20) es → AreLong (entry_views es)
long-views [] h = tt
long-views (e ∷ es) h = (h.0, long-views es h.1)

pub listed-entries : (id : List DirectoryEntry → List ℕ) (f : Forest) (es : List DirEntry) → IsSound f → AllByRecursion (λ (e : DirEntry). length e.id ≡ 20) es → entry_views es ≡ directory id f → AreEntries (entry_views es)
listed-entries id f es s long is = subst AreEntries (sym is) (are-entries id f s (subst AreLong is (long-views es long)))

-- ## One more

pub ids-push : (id : List DirectoryEntry → List ℕ) (at : ℕ → Forest) (ids : List (List ℕ)) (x : List ℕ) → AreIds id at ids → x ≡ id (directory id (at (length ids))) → AreIds id at (ids ++ x ∷ [])
ids-push id at ids x known is j lt = elim (cases_lt j (length ids)) [
  | inl below ↦ get_or_append_left ids (x ∷ []) [] j below ∙ known j below
  | inr top ↦
      let size : j < length ids + 1 = simp length-append at lt in
      let j-is : j ≡ length ids = omega arith in
      rw j-is (get_or-append_seam ids x [] [] ∙ is)
]

pub objects-push : (id_of : Kind → List ℕ → List ℕ) (entries_at : ℕ → List DirectoryEntry) (from : ℕ) (os : List Object) (o : Object) → AreDirectoryObjects id_of entries_at from os → IsDirectoryObject id_of (entries_at (from + length os)) o → AreDirectoryObjects id_of entries_at from (os ++ o ∷ [])
objects-push id_of entries_at from [] o h own = let e : from + 0 ≡ from = omega arith in (subst (λ (n : ℕ). IsDirectoryObject id_of (entries_at n) o) e own, tt)
objects-push id_of entries_at from (p ∷ os) o h own =
    let e : from + suc (length os) ≡ suc from + length os = omega arith in
    (h.0, objects-push id_of entries_at (suc from) os o h.1 (subst (λ (n : ℕ). IsDirectoryObject id_of (entries_at n) o) e own))

pub goes-on : (xs ys zs : List (List ℕ)) → GoesOn xs ys → GoesOn ys zs → GoesOn xs zs
goes-on xs ys zs a b = record { more = a.more ++ b.more; is = b.is ∙ ap (λ (l : List (List ℕ)). l ++ b.more) a.is ∙ append_assoc xs a.more b.more }

pub explains-one : (entries_at : ℕ → List DirectoryEntry) (from end n : ℕ) (fault : TreeFault) → from ≤ n → n < end → ExplainsEntries (entries_at n) fault → ExplainsAmong entries_at from end fault
explains-one entries_at from end n Memory le lt h = tt
explains-one entries_at from end n (TooLong len) le lt h = (n, le, lt, h.0, h.1)
