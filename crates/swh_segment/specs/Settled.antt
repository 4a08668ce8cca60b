-- Files with nothing written since a barrier, and what they stand for.
use Rattle.std.specs.Prelude.{◌≡◌, ◌⊎◌, ℕ, List, [], ◌∷◌, ◌++◌, length}
use Rattle.swh_outside.specs.Disk.{File, IsAtRest}
use Rattle.swh_outside.specs.Files.{Files, Images}
use Rattle.swh_format.specs.Record.{Record, Stands, front}
use Rattle.swh_format.specs.Events.{Append, FilesStand, records, runs}

-- what a read gives of each file
abbrev pub seen_of : Files → Images
seen_of files = λ k. (files k).seen

-- nothing was written on either since a barrier
pub record AreAtRest (files : Files) : Type 0 where
  pub ledger : IsAtRest (files 0)
  pub store : IsAtRest (files 1)

-- the file stands for the records, with nothing written since a barrier, and their end is there
pub record IsSettled (file : File) (rs : List Record) (end : ℕ) : Type 0 where
  pub rests : IsAtRest file
  pub stands : Stands file.seen rs
  pub end_is : length (front rs) ≡ end

-- a file begins with some bytes
pub record BeginsWith (front file : List ℕ) : Type 0 where
  pub rest : List ℕ
  pub is : file ≡ front ++ rest

-- the store begins with these runs, with nothing written since a barrier, and their end is there
pub record AreRunsSettled (file : File) (runs : List ℕ) (end : ℕ) : Type 0 where
  pub rests : IsAtRest file
  pub begins : BeginsWith runs file.seen
  pub end_is : length runs ≡ end

-- The two files stand for the history, with nothing written since a barrier, and their ends are there.
pub record AreSettled (files : Files) (h : List Append) (store_end end : ℕ) : Type 0 where
  pub ledger : IsSettled (files 0) (records h) end
  pub store : IsAtRest (files 1)
  pub rest : List ℕ
  pub begins : (files 1).seen ≡ runs h ++ rest
  pub store_end_is : length (runs h) ≡ store_end

-- What a crash leaves stands for the events, with one more or without.
abbrev pub with_or_without_event : List Append → Append → Images → Type 0
with_or_without_event h e images = FilesStand (images 0) (images 1) h ⊎ FilesStand (images 0) (images 1) (h ++ e ∷ [])
