-- What may stand at a path.
use Rattle.std.specs.Prelude.{◌≡◌, ◌⊎◌, ℕ}

-- a file, an executable file, a link, or a revision of another project: the digits of the mode, read as a decimal number
abbrev pub IsLeafMode : ℕ → Type 0
IsLeafMode mode = (mode ≡ 100644) ⊎ ((mode ≡ 100755) ⊎ ((mode ≡ 120000) ⊎ (mode ≡ 160000)))
