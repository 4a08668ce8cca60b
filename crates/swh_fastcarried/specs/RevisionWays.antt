-- Ways over folders to a directory, from the directory of a revision.
use Rattle.std.specs.Prelude.{◌≡◌, ℕ, List}
use Rattle.swh_base.specs.declared.name.Name.{Name}
use Rattle.swh_base.specs.Directory.{DirectoryEntry}
use Rattle.swh_model.specs.Archive.{Bodies}
use Rattle.swh_carried.specs.Rules.{LeadsOver, way_length}
use Rattle.swh_fastcarried.specs.Rules.{IsRevisionRoot}

-- A way of so many bytes leads to the directory from that of a revision which is one of these names, a slash behind each entry.
pub record IsWay (bodies : Bodies) (order : List Name) (to : Name) (count : ℕ) : Type 0 where
  pub start : Name
  pub begins : IsRevisionRoot bodies order start
  pub way : List DirectoryEntry
  pub leads : LeadsOver bodies start way to
  pub is : count ≡ way_length way
