-- How the making of an archive ends.
use Rattle.std.proofs.Common.{◌≡◌, ◌⊎◌, ◌≤◌, ℕ, false, List, [], ◌∷◌, ◌++◌, length, sym, ◌∙◌, ap, subst, arith, Result, Ok, Err}
use Rattle.swh_outside.specs.Disk.{File, Call, all_done}
use Rattle.swh_outside.specs.Files.{Files, FilesBreaks, files_done, files_of, on}
use Rattle.swh_outside.proofs.Numbered.{files_done-append, ledger_done}
use Rattle.swh_segment.specs.Making.{making_calls, barriers, needs_clearing}
use Rattle.swh_segment.specs.Makes.{Makes}
use Rattle.swh_segment.specs.declared.fault.MakeFault.{MakeFault}
use Rattle.swh_segment.specs.declared.fault.MakeFault.TheVariants.{Disk}

pub makes_failed : (old new : Files) (result : Result (Unit {0}) MakeFault) → result ≡ Err Disk → (new ≡ old) ⊎ FilesBreaks (making_calls (old 0).seen) old new → Makes old new result
makes_failed old new result is ends = subst (λ (r : Result (Unit {0}) MakeFault). Makes old new r) (sym is) (record { ok = tt; made = λ e. absurd cc; failed = λ _. ends })

pub makes_done : (old new : Files) → new ≡ files_done (making_calls (old 0).seen) old → Makes old new (Ok tt)
makes_done old new is = record { ok = is; made = λ e. absurd cc; failed = λ e. absurd cc }

-- the barriers, and then calls on the ledger alone
pub both_done : (plan : List Call) (old : Files) (ledger store new : File) → files_of ledger store ≡ files_done barriers old → new ≡ all_done plan ledger → files_of new store ≡ files_done (barriers ++ on 0 plan) old
both_done plan old ledger store new settled laid =
    ap (λ (f : File). files_of f store) laid ∙ sym (ledger_done plan ledger store) ∙ ap (files_done (on 0 plan)) settled ∙ sym (files_done-append barriers (on 0 plan) old)

-- what needs no clearing has a first byte
pub some_there : (bytes : List ℕ) → needs_clearing bytes ≡ false → 1 ≤ length bytes
some_there [] e = absurd cc
some_there (b ∷ bytes) e = omega arith
