-- What contracts see of a ledger and of runs that own their disk.
use Rattle.std.specs.Prelude.{ℕ, refl}
use Rattle.std.specs.Coded.{Coded, code_by, coded×, coded_ℕ}

-- the disk, and its end: where the ledger's last gate stands, closed, or where the last run ends
pub record OnDisk (D : Type 0) : Type 0 where
  pub disk : D
  pub end : ℕ

-- how one is told apart from another
abbrev pub on_disk_code : {D : Type 0} → Coded D → Coded (OnDisk D)
on_disk_code {D} d = code_by (D × ℕ) (coded× d coded_ℕ) (λ o. (o.disk, o.end)) (λ p. record { disk = p.0; end = p.1 }) (λ _. refl)
