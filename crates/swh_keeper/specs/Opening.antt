-- How making and opening end.
use Rattle.std.specs.Prelude.{◌≡◌, ◌⊎◌, ℕ, List}
use Rattle.swh_outside.specs.Files.{Files, FilesBreaks, files_done}
use Rattle.swh_segment.specs.Making.{IsMade, barriers, making_calls}
use Rattle.swh_segment.specs.declared.fault.MakeFault.{MakeFault}
use Rattle.swh_segment.specs.declared.fault.MakeFault.TheVariants as make
use Rattle.swh_base.specs.declared.kind.Kind.{Kind}
use Rattle.swh_model.specs.declared.event.Event.{Event}
use Rattle.swh_format.specs.Stands.{StandsFor}
use Rattle.swh_model.specs.Step.{IsHistory}
use Rattle.swh_replay.specs.Replay.{IsReplayOf, IsInFiles}
use Rattle.swh_keeper.specs.declared.opening.Opened.{Opened}
use Rattle.swh_keeper.specs.declared.opening.OpenWhy.{OpenWhy}
use Rattle.swh_keeper.specs.declared.opening.OpenWhy.TheVariants.{Made, NotMade, DiskFault}

-- why an archive is not made, for why its two files are not
abbrev pub make_why : MakeFault → OpenWhy
make_why make.Made = Made
make_why make.Disk = DiskFault

-- a making ends for one of these
abbrev pub IsMakeFault : OpenWhy → Type 0
IsMakeFault Made = Unit {0}
IsMakeFault DiskFault = Unit {0}
IsMakeFault _ = ⊥

-- none of the calls of a making was made, or those up to one that failed
abbrev pub IsCutShort : Files → Files → Type 0
IsCutShort old new = (new ≡ old) ⊎ FilesBreaks (making_calls (old 0).seen) old new

-- what a making that ends for this leaves of the files
abbrev pub IsLeftOfMaking : OpenWhy → Files → Files → Type 0
IsLeftOfMaking Made old new = new ≡ old
IsLeftOfMaking DiskFault old new = IsCutShort old new
IsLeftOfMaking _ old new = ⊥

-- P, unless a disk failed
abbrev pub UnlessDiskFault : OpenWhy → Type 0 → Type 0
UnlessDiskFault DiskFault P = Unit {0}
UnlessDiskFault _ P = P

-- an opening ends for one of these
abbrev pub IsOpeningFault : OpenWhy → Type 0
IsOpeningFault Made = ⊥
IsOpeningFault _ = Unit {0}

-- the two files are not read for one of these
abbrev pub IsReadingFault : OpenWhy → Type 0
IsReadingFault Made = ⊥
IsReadingFault NotMade = ⊥
IsReadingFault _ = Unit {0}

-- a made ledger is told from another, or a disk failed
abbrev pub IsMadeFault : OpenWhy → Type 0
IsMadeFault NotMade = Unit {0}
IsMadeFault DiskFault = Unit {0}
IsMadeFault _ = ⊥

-- A barrier was made on each file; where a disk failed, it may be that one of the two failed.
abbrev pub IsLeftFor : OpenWhy → Files → Files → Type 0
IsLeftFor DiskFault old new = FilesBreaks barriers old new ⊎ (new ≡ files_done barriers old)
IsLeftFor _ old new = new ≡ files_done barriers old

module _ (id_of : Kind → List ℕ → List ℕ) where
  -- The history is the one for which the files stand.
  abbrev pub IsTheHistory : List ℕ → List ℕ → List Event → Type 0
  IsTheHistory ledger store history = (h : List Event) → StandsFor ledger store h → IsHistory id_of h → history ≡ h

  -- The ledger is made, and the files stand for no history.
  pub record IsDamaged (ledger store : List ℕ) : Type 0 where
    pub made : IsMade ledger
    pub none : (h : List Event) → StandsFor ledger store h → IsHistory id_of h → ⊥

  -- The history may happen, and the rest is its replay, with both ends within the files' limits.
  pub record IsReadWhole (opened : Opened) : Type 0 where
    pub history : IsHistory id_of opened.history.items
    pub replay : IsReplayOf opened.replayed opened.history.items
    pub in_files : IsInFiles opened.replayed
