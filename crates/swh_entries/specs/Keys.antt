-- The names of entries, and the order of git's directories (git objects, tree).
use Rattle.std.specs.Prelude.{ℕ, Bool, List, [], ◌∷◌, ◌++◌, map, slice_index_or}
use Rattle.std.specs.Global.{Vec}
use Rattle.std.specs.Ordering.{nat_cmp, is_lt}
use Rattle.std.specs.Cmp.Lexicographic.{slice_cmp}
use Rattle.swh_entries.specs.declared.entry.Child.{Child}
use Rattle.swh_entries.specs.declared.entry.Child.TheVariants.{File as FileChild, Folder as FolderChild}
use Rattle.swh_entries.specs.declared.entry.Entry.{Entry}

-- the name of this number
abbrev pub name_at : List (List ℕ) → ℕ → List ℕ
name_at names i = slice_index_or names i []

-- the names themselves
abbrev pub texts : List (Vec ℕ) → List (List ℕ)
texts names = map (λ v. v.items) names

-- whether the first bytes come before the second
abbrev pub is_before : List ℕ → List ℕ → Bool
is_before a b = is_lt (slice_cmp nat_cmp a b)

-- what a name is compared with after its own bytes
abbrev pub suffix : Child → List ℕ
suffix (FileChild l) = []
suffix (FolderChild j) = 47 ∷ []

-- the bytes by which entries are in order
abbrev pub entry_key : List (List ℕ) → Entry → List ℕ
entry_key names e = name_at names e.name ++ suffix e.child
