use Rattle.std.proofs.Common.{◌≡◌, List, take}
use Rattle.std.specs.Prelude.{Contains}
use Rattle.swh_base.specs.Directory.{DirectoryEntry}
use Rattle.swh_dirfmt.specs.Entries.{entries_in_body}
use Rattle.swh_model.specs.Archive.{Bodies}
use Rattle.swh_pathwalk.specs.Tree.{Row}
use Rattle.swh_pathsums.specs.Tallies.{Tallies, AreRowsOver, HasTally}
use Rattle.swh_pathsums.proofs.sums.entries_tally.Given as goal

abbrev pub invariant-loop-entry : goal.invariant-loop-entry
invariant-loop-entry g l =
    (bodies : Bodies) (rows : List Row)
    → ((e : DirectoryEntry) → Contains (entries_in_body l.entries) e → e.mode ≡ 40000 → HasTally bodies (g.W.Weigh.weight_of l.weigher) l.sums e.id)
    → AreRowsOver bodies (entries_in_body (take l.entry-index l.entries)) rows → Tallies (g.W.Weigh.weight_of l.weigher) rows l.tally
