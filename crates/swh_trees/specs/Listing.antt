-- The directory of a folder, entry by entry (git objects, tree).
use Rattle.std.specs.Prelude.{ℕ, List, [], ◌∷◌}
use Rattle.swh_base.specs.Directory.{DirectoryEntry}
use Rattle.swh_forest.specs.Forest.{Forest, Bare, File, Folder, Stands, Nothing, IsFile, IsFolder}

-- The entries of a folder, where `id` gives the ids of folders by their entries.
abbrev pub directory : (List DirectoryEntry → List ℕ) → Forest → List DirectoryEntry
directory id Bare = []
directory id (File n l f) = record { mode = l.mode; name = n; id = l.id } ∷ directory id f
directory id (Folder n g f) = record { mode = 40000; name = n; id = id (directory id g) } ∷ directory id f

-- the entry of a name at which this stands
abbrev pub entry_here : (List DirectoryEntry → List ℕ) → List ℕ → Stands → DirectoryEntry
entry_here id n (IsFile l) = record { mode = l.mode; name = n; id = l.id }
entry_here id n (IsFolder g) = record { mode = 40000; name = n; id = id (directory id g) }
entry_here id n Nothing = record { mode = 0; name = n; id = [] }
