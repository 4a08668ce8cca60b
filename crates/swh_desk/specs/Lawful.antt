-- What the protocol of a keeper obeys.
use Rattle.std.specs.Prelude.{ℕ, List}
use Rattle.swh_base.specs.declared.kind.Kind.{Kind}
use Rattle.swh_outside.specs.Views.{Disks}
use Rattle.swh_serve.specs.Desk.{IsLawful}
use Rattle.swh_desk.specs.Keeper.{keeper_protocol}

-- A keeper may always be asked.
pub keeper_lawful : {D : Type 0} (id : Kind → List ℕ → List ℕ) (disks : Disks D) (date : ℕ) → IsLawful (keeper_protocol id disks date)
keeper_lawful id disks date = record {
  again = λ request reply s s' ready answered. tt;
  lacking = λ request s s' ready lacks. tt;
}
