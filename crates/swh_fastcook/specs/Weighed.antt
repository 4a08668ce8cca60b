-- How long the lines of the files of a tree are.
use Rattle.std.specs.Prelude.{◌==◌, not, List, [], length}
use Rattle.swh_base.specs.declared.name.Name.{Name}
use Rattle.swh_base.specs.Directory.{DirectoryEntry}
use Rattle.swh_pathsums.specs.declared.weight.Weight.{Weight}
use Rattle.swh_fastcook.specs.Stream.{file_text}

-- the bytes that stand for an entry, but for its path; a folder has none, and no path
abbrev pub file_weight : List Name → DirectoryEntry → Weight
file_weight order e = record { bytes = length (file_text order (record { path = []; entry = e })); with_path = not (e.mode == 40000) }
