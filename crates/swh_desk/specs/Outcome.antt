-- What is replied to a posted load, by what it came to.
use Rattle.std.specs.Prelude.{◌≡◌, ℕ, Bool, true, false, Result, Ok, Err, List, codes}
use Rattle.swh_base.specs.declared.request.Reply.{Reply}
use Rattle.swh_ingest.specs.declared.end.LoadFault.{LoadFault}
use Rattle.swh_ingest.specs.declared.stop.Stop.{Stop}
use Rattle.swh_ingest.specs.declared.stop.Stop.TheVariants.{Ended, DiskFault, Wounded, Limit, Memory}
use Rattle.swh_loader.specs.declared.end.Loaded.{Loaded}
use Rattle.swh_loader.specs.Report.{end_word, end_detail}
use Rattle.swh_replies.specs.Json.{error_reply}
use Rattle.swh_api.specs.Load.{load_reply}

-- the reply to a load whose visit has ended: what its line says
abbrev pub loaded_reply : List ℕ → Loaded → Reply
loaded_reply origin loaded = load_reply origin loaded.visit (end_word loaded.end) (end_detail loaded.end)

-- The load stopped, and this is replied. The connection closes exactly where a disk has failed, in this load or before it. Want
-- of memory has no reply here: it is told with 503.
abbrev pub IsStopReply : Stop → Reply → Bool → Type 0
IsStopReply (Ended status) reply closes = (reply ≡ error_reply 500 (codes "ended")) × (closes ≡ false)
IsStopReply DiskFault reply closes = (reply ≡ error_reply 500 (codes "disk")) × (closes ≡ true)
IsStopReply Wounded reply closes = (reply ≡ error_reply 500 (codes "disk")) × (closes ≡ true)
IsStopReply (Limit which number) reply closes = (reply ≡ error_reply 500 (codes "limit")) × (closes ≡ false)
IsStopReply Memory reply closes = ⊥

-- what is replied to the load of an origin that came to this, and whether the connection closes
abbrev pub IsOutcomeReply : List ℕ → Result Loaded LoadFault → Reply → Bool → Type 0
IsOutcomeReply origin (Ok loaded) reply closes = (reply ≡ loaded_reply origin loaded) × (closes ≡ false)
IsOutcomeReply origin (Err fault) reply closes = IsStopReply fault.why reply closes
