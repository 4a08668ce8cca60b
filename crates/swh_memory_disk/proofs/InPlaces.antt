-- The files at places.
use Rattle.std.proofs.Common.{rules, ◌≡◌, ◌≢◌, ◌⊎◌, ⊎_elim, ℕ, ◌&&◌, nat_eq, Bool, true, false, List, [], ◌∷◌, length, get_or, set, string_bytes, refl, sym, ◌∙◌, ap, arith}
use Rattle.std.specs.Str.{bytes_eq}
use Rattle.std.specs.List.{position_or_len}
use Rattle.std.proofs.lemmas.List.Sums.{fails_before_first}
use Rattle.std.proofs.lemmas.Slice.Eq.{bytes_eq-Decides}
use Rattle.std.proofs.lemmas.Bool.{false_from_ne_true as not_true}
use Rattle.swh_outside.specs.Depot.{SameButAt}
use Rattle.swh_outside.specs.Files.{absent}
use Rattle.swh_outside.proofs.FirstsLaws.{IsFirst, first_or-set_miss, first_or-none}
use Rattle.swh_memory_disk.specs.InPlace.{is_at, file_at, files_in, notes_at, notes_in, SameNotesButAt}
use Rattle.swh_memory_disk.specs.Memory.{new_notes}
use Rattle.swh_memory_disk.specs.declared.record.Room.{Room}
use Rattle.swh_memory_disk.specs.declared.disk.MemoryDisk.{MemoryDisk}
use Rattle.swh_memory_disk.specs.declared.depot_file.DepotFile.{DepotFile}

both : (a b : Bool) → (a && b) ≡ true → (a ≡ true) × (b ≡ true)
both true b e = (refl, e)
both false b e = absurd cc

-- whose place it is
its_file : (dir : List ℕ) (file : ℕ) (p : DepotFile) → is_at dir file p ≡ true → (p.file ≡ file) × (string_bytes p.dir ≡ dir)
its_file dir file p e =
    let parts = both (nat_eq p.file file) (bytes_eq (string_bytes p.dir) dir) e in
    let same : p.file ≡ file = let h = parts.0 in search rules in
    (same, (bytes_eq-Decides (string_bytes p.dir) dir).0 parts.1)

apart : (dir d : List ℕ) (file n : ℕ) (p : DepotFile) → is_at dir file p ≡ true → (d ≢ dir) ⊎ (n ≢ file) → is_at d n p ≡ false
apart dir d file n p here other = not_true (is_at d n p) (λ e.
    let mine = its_file dir file p here in
    let yours = its_file d n p e in
    ⊎_elim (λ ne. ne (sym yours.1 ∙ mine.1)) (λ ne. ne (sym yours.0 ∙ mine.0)) other)

abbrev pub with_disk : DepotFile → MemoryDisk → DepotFile
with_disk p disk = record { dir = p.dir; file = p.file; disk = disk }

-- another disk in a file's place leaves all other files
pub others : (ps : List DepotFile) (i : ℕ) (z : DepotFile) (dir : List ℕ) (file : ℕ) (disk : MemoryDisk) → IsFirst (is_at dir file) ps i z → SameButAt dir file (files_in ps) (files_in (set ps i (with_disk (get_or ps i z) disk)))
others ps i z dir file disk first = record {
  at_other = λ d n other.
      let miss = apart dir d file n (get_or ps i z) first.here other in
      first_or-set_miss (is_at d n) file_at absent ps i z (with_disk (get_or ps i z) disk) first.inside miss miss;
}

-- and what is kept of all others
pub other_notes : (room : Room) (ps : List DepotFile) (i : ℕ) (z : DepotFile) (dir : List ℕ) (file : ℕ) (disk : MemoryDisk) → IsFirst (is_at dir file) ps i z → SameNotesButAt dir file (notes_in room ps) (notes_in room (set ps i (with_disk (get_or ps i z) disk)))
other_notes room ps i z dir file disk first = record {
  at_other = λ d n other.
      let miss = apart dir d file n (get_or ps i z) first.here other in
      first_or-set_miss (is_at d n) notes_at (new_notes room) ps i z (with_disk (get_or ps i z) disk) first.inside miss miss;
}

pub its_place : (dir : List ℕ) (file : ℕ) (p : DepotFile) → p.file ≡ file → string_bytes p.dir ≡ dir → is_at dir file p ≡ true
its_place dir file p file_is dir_is =
    let left : nat_eq p.file file ≡ true = search rules in
    let right : bytes_eq (string_bytes p.dir) dir ≡ true = (bytes_eq-Decides (string_bytes p.dir) dir).1 dir_is in
    ap (λ (b : Bool). b && bytes_eq (string_bytes p.dir) dir) left ∙ right

-- a file with no place is absent
pub files_in-absent : (ps : List DepotFile) (dir : List ℕ) (file : ℕ) → position_or_len (is_at dir file) ps ≡ length ps → files_in ps dir file ≡ absent
files_in-absent [] dir file none = refl
files_in-absent (p ∷ ps) dir file none = first_or-none (is_at dir file) file_at absent (p ∷ ps) p (λ k h. fails_before_first (is_at dir file) (p ∷ ps) k p (omega (arith, none, h)))
