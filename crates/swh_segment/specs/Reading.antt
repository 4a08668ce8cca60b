-- Reads that go on until a buffer is full or the file ends.
use Rattle.std.specs.Prelude.{◌≡◌, ◌-◌, ◌≤◌, ◌<◌, ℕ, List, length, take, drop}
use Rattle.swh_segment.specs.declared.reading.ReadFileFault.{ReadFileFault}
use Rattle.swh_segment.specs.declared.reading.ReadFileFault.TheVariants.{Disk, Memory}

-- the first n bytes of the buffer are what stands from a place on, and there are more in it only where the file ends
pub record IsFilled (seen : List ℕ) (at : ℕ) (out : List ℕ) (n : ℕ) : Type 0 where
  pub bytes : take n out ≡ take n (drop at seen)
  pub in_file : n ≤ length seen - at
  pub full : n < length out → n ≡ length seen - at

-- P, unless the disk failed.
abbrev pub UnlessUnread : ReadFileFault → Type 0 → Type 0
UnlessUnread Disk P = Unit {0}
UnlessUnread Memory P = P
