-- The line that reports a job: its origin, its visit, and how the visit ended.
use Rattle.std.specs.Prelude.{ℕ, ◌+◌, ◌*◌, Result, Ok, Err, List, ◌∷◌, ◌++◌, length, decimal, codes}
use Rattle.hex.specs.Hex.{encode_lower}
use Rattle.swh_swhid.specs.Core.{core_text}
use Rattle.swh_base.specs.Escape.{escaped}
use Rattle.swh_base.specs.Limits.{path_limit}
use Rattle.swh_base.specs.Snapshot.{snapshot_name}
use Rattle.swh_base.specs.declared.visit.VisitKind.{VisitKind}
use Rattle.swh_base.specs.declared.visit.VisitKind.TheVariants as kind
use Rattle.swh_base.specs.declared.visit.Which.{Which}
use Rattle.swh_base.specs.declared.visit.Which.TheVariants as which
use Rattle.swh_model.specs.Answer.{line_of}
use Rattle.swh_fastgrammar.specs.declared.fault.StreamWhy.{StreamWhy}
use Rattle.swh_fastgrammar.specs.declared.fault.StreamWhy.TheVariants.{Grammar, End as EndOfInput, LeftOut, Mark, Branch, Place}
use Rattle.swh_inputs.specs.declared.bad.BadText.{BadText}
use Rattle.swh_inputs.specs.declared.bad.BadText.TheVariants.{Stream, Batch, Name, Refs, NoObject, Other, Modes, Limit as PastLimit}
use Rattle.swh_loader.specs.declared.end.BadInput.{BadInput}
use Rattle.swh_loader.specs.declared.end.BadInput.TheVariants.{Broken, Collision, Read}
use Rattle.swh_loader.specs.declared.end.End.{End}
use Rattle.swh_loader.specs.declared.end.End.TheVariants.{Full, NotFound, Failed}
use Rattle.swh_loader.specs.declared.end.Loaded.{Loaded}
use Rattle.swh_ingest.specs.declared.stop.Stop.{Stop}
use Rattle.swh_ingest.specs.declared.stop.Stop.TheVariants.{Ended, DiskFault, Wounded, Limit, Memory}
use Rattle.swh_ingest.specs.declared.end.LoadFault.{LoadFault}

-- what is wrong with a stream, as a line says it
abbrev pub stream_why_word : StreamWhy → List ℕ
stream_why_word Grammar = codes "grammar"
stream_why_word EndOfInput = codes "end"
stream_why_word LeftOut = codes "left-out"
stream_why_word Mark = codes "mark"
stream_why_word Branch = codes "branch"
stream_why_word Place = codes "place"

-- what a limit is on, as a line says it
abbrev pub which_word : Which → List ℕ
which_word which.Body = codes "body"
which_word which.Objects = codes "objects"
which_word which.Bytes = codes "bytes"
which_word which.Store = codes "store"
which_word which.Ledger = codes "ledger"
which_word which.Stream = codes "stream"
which_word which.Line = codes "line"
which_word which.Path = codes "path"
which_word which.Ref = codes "ref"
which_word which.Refs = codes "refs"

-- how an input breaks: where, by the ids that it names, at which path, or which limit it passes
abbrev pub text_detail : BadText → List ℕ
text_detail (Stream at why) = codes "stream " ++ (decimal at ++ 32 ∷ stream_why_word why)
text_detail (Batch at) = codes "batch " ++ decimal at
text_detail (Name given got) = codes "name " ++ (encode_lower given ++ 32 ∷ encode_lower got)
text_detail (Refs line) = codes "refs " ++ decimal line
text_detail (NoObject id) = codes "no-object " ++ encode_lower id
text_detail (Other path) = codes "other " ++ escaped path
text_detail (Modes line) = codes "modes " ++ decimal line
text_detail (PastLimit limit number) = codes "limit " ++ which_word limit

-- why an input makes no snapshot
abbrev pub bad_detail : BadInput → List ℕ
bad_detail (Broken bad) = text_detail bad
bad_detail (Collision name) = codes "collision " ++ core_text name
bad_detail Read = codes "read"

-- how a visit ended
abbrev pub end_word : End → List ℕ
end_word (Full snapshot) = codes "full"
end_word NotFound = codes "not_found"
end_word (Failed bad) = codes "failed"

-- its snapshot, or why it has none
abbrev pub end_detail : End → List ℕ
end_detail (Full snapshot) = core_text (snapshot_name snapshot)
end_detail NotFound = codes "-"
end_detail (Failed bad) = bad_detail bad

-- why a load stopped
abbrev pub fault_detail : Stop → List ℕ
fault_detail (Ended status) = codes "ended"
fault_detail DiskFault = codes "disk"
fault_detail Wounded = codes "wounded"
fault_detail (Limit which number) = codes "limit"
fault_detail Memory = codes "memory"

-- the line, with its LF
abbrev pub report_of : List ℕ → Result Loaded LoadFault → List ℕ
report_of url (Ok loaded) = line_of url loaded.visit (end_word loaded.end) (end_detail loaded.end)
report_of url (Err fault) = line_of url fault.visit (codes "stopped") (fault_detail fault.why)

-- the most bytes of a detail that names no path
abbrev pub detail_room : ℕ
detail_room = 86

-- the room that is wanted for how an input breaks: each byte of a path takes three where it is escaped
abbrev pub text_room : BadText → ℕ
text_room (Other path) = 6 + 3 * length path
text_room bad = detail_room

abbrev pub bad_room : BadInput → ℕ
bad_room (Broken bad) = text_room bad
bad_room bad = detail_room

-- the room that is wanted for the detail of an end
abbrev pub end_room : End → ℕ
end_room (Failed bad) = bad_room bad
end_room end = detail_room

-- the most bytes of what a load came to
abbrev pub outcome_room : Result Loaded LoadFault → ℕ
outcome_room (Ok loaded) = end_room loaded.end
outcome_room (Err fault) = detail_room

-- the most bytes of the detail of an input of this kind: a folder's may name a path
abbrev pub detail_limit : VisitKind → ℕ
detail_limit kind.Fast = detail_room
detail_limit kind.Dir = 6 + 3 * path_limit
detail_limit kind.Batch = detail_room

-- the most bytes of the line of an input of this kind
abbrev pub report_line_limit : VisitKind → ℕ
report_line_limit of_kind = 2081 + detail_limit of_kind
