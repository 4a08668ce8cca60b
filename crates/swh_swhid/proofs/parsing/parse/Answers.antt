use Rattle.std.proofs.Common.{ℕ, List, Result, Ok, Err, length}
use Rattle.std.specs.Prelude.{IfOk, IfErr}
use Rattle.swh_swhid.specs.declared.swhid.Swhid.{Swhid}
use Rattle.swh_swhid.specs.declared.fault.SwhidFault.{SwhidFault}
use Rattle.swh_swhid.specs.declared.fault.SwhidFault.TheVariants.{Memory, BadText}
use Rattle.swh_swhid.specs.Qualifier.{IsSwhid, HasSwhid}
use Rattle.swh_swhid.specs.Reading.{IsPlace, ExplainsSwhid, GivesSwhid}
use Rattle.swh_swhid.proofs.Places.{last_reads, last_is_one}
use Rattle.swh_swhid.proofs.parsing.parse.Goals as goal

reads : (text : List ℕ) (r : Result Swhid SwhidFault) → IfOk r (IsPlace text (length text)) → IfOk r (IsSwhid text)
reads text (Ok s) h = last_reads text s h
reads text (Err e) h = tt

gives : (text : List ℕ) (r : Result Swhid SwhidFault) → IfOk r (IsPlace text (length text)) → IfErr r (ExplainsSwhid HasSwhid text) → (t : Swhid) → IsSwhid text t → GivesSwhid r t
gives text (Ok s) ok err t h = last_is_one text s t ok h
gives text (Err Memory) ok err t h = tt
gives text (Err (BadText at)) ok err t h = err.refused (record { swhid = t; is = h })

pub returns-clause-ok : goal.returns-clause-ok
returns-clause-ok c = reads c.args.text.now c.read.result c.read.ensures.ok

pub returns-clause-only : goal.returns-clause-only
returns-clause-only c = gives c.args.text.now c.read.result c.read.ensures.ok c.read.ensures.err
