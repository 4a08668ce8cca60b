-- How loads end once a disk has failed.
use Rattle.std.specs.Prelude.{◌≡◌, ◌≢◌, ◌⊎◌, Bool, true, false, Result, Ok, Err, List, [], ◌∷◌}
use Rattle.std.specs.List.{AllByRecursion}
use Rattle.swh_loader.specs.declared.end.Loaded.{Loaded}
use Rattle.swh_ingest.specs.declared.stop.Stop.{Stop}
use Rattle.swh_ingest.specs.declared.stop.Stop.TheVariants.{Ended, DiskFault, Wounded, Limit, Memory}
use Rattle.swh_ingest.specs.declared.end.LoadFault.{LoadFault}

-- It stopped before its visit was opened, since a disk had failed before, or for want of memory.
abbrev pub IsStoppedAtOnce : Result Loaded LoadFault → Type 0
IsStoppedAtOnce (Ok loaded) = ⊥
IsStoppedAtOnce (Err fault) = (fault.visit ≡ 0) × ((fault.why ≡ Wounded) ⊎ (fault.why ≡ Memory))

-- No disk had failed before it.
abbrev pub IsUnwounded : Result Loaded LoadFault → Type 0
IsUnwounded (Ok loaded) = Unit {0}
IsUnwounded (Err fault) = fault.why ≢ Wounded

-- whether a load stopped for this since a disk failed
abbrev pub is_fault : Stop → Bool
is_fault (Ended status) = false
is_fault DiskFault = true
is_fault Wounded = false
is_fault (Limit which number) = false
is_fault Memory = false

-- whether its load stopped since a disk failed
abbrev pub is_disk_fault : Result Loaded LoadFault → Bool
is_disk_fault (Ok loaded) = false
is_disk_fault (Err fault) = is_fault fault.why

-- Once a disk has failed, each later load stops before its visit is opened; before that, no load stops for a disk that
-- had failed.
abbrev pub AreStops : Bool → List (Result Loaded LoadFault) → Type 0
AreStops failed [] = Unit {0}
AreStops true (o ∷ outcomes) = IsStoppedAtOnce o × AreStops true outcomes
AreStops false (o ∷ outcomes) = IsUnwounded o × AreStops (is_disk_fault o) outcomes

-- No disk failed in any of these loads.
abbrev pub HaveNoDiskFault : List (Result Loaded LoadFault) → Type 0
HaveNoDiskFault outcomes = AllByRecursion (λ o. is_disk_fault o ≡ false) outcomes

-- whether a load stopped for this for want of memory
abbrev pub is_want : Stop → Bool
is_want (Ended status) = false
is_want DiskFault = false
is_want Wounded = false
is_want (Limit which number) = false
is_want Memory = true

-- whether its load stopped for want of memory
abbrev pub is_memory_stop : Result Loaded LoadFault → Bool
is_memory_stop (Ok loaded) = false
is_memory_stop (Err fault) = is_want fault.why

-- None of these loads stopped for want of memory.
abbrev pub HaveNoMemoryStop : List (Result Loaded LoadFault) → Type 0
HaveNoMemoryStop outcomes = AllByRecursion (λ o. is_memory_stop o ≡ false) outcomes

-- It did not stop because its visit had an end already.
abbrev pub IsNotCutShort : Stop → Type 0
IsNotCutShort (Ended status) = ⊥
IsNotCutShort _ = Unit {0}

-- Its load did not stop because its visit had an end already.
abbrev pub HasOwnEnd : Result Loaded LoadFault → Type 0
HasOwnEnd (Ok loaded) = Unit {0}
HasOwnEnd (Err fault) = IsNotCutShort fault.why

-- However many workers load: a load stops for a disk that had failed only beside a load that says so, and because its visit
-- had an end already only beside one that memory stopped.
pub record AreStopsOfMany (outcomes : List (Result Loaded LoadFault)) : Type 0 where
  pub wounded : HaveNoDiskFault outcomes → AllByRecursion IsUnwounded outcomes
  pub cut_short : HaveNoMemoryStop outcomes → AllByRecursion HasOwnEnd outcomes
