-- What a reader refuses is none of its kind.
use Rattle.std.proofs.Common.{ℕ, List, Err}
use Rattle.swh_base.specs.declared.kind.Kind.{Kind}
use Rattle.swh_base.specs.declared.kind.Kind.TheVariants.{Content, Directory, Revision, Release, Snapshot}
use Rattle.swh_base.specs.Manifest.{IsWellFormed}
use Rattle.swh_dirfmt.proofs.Exact as directory
use Rattle.swh_snpfmt.proofs.Exact as snapshot
use Rattle.swh_object.specs.declared.fault.ObjectFault.{ObjectFault}
use Rattle.swh_object.specs.declared.fault.ObjectFault.TheVariants.{Memory, TooLong, BadBody}
use Rattle.swh_object.specs.Object.{IsBadBody, ExplainsBad, MakesObject}

not_bad : (kind : Kind) (body : List ℕ) (at : ℕ) → IsBadBody kind body at → IsWellFormed kind body → ⊥
not_bad Content body at h well = h
not_bad Directory body at (why, fault) (names, kids) = directory.no_fault body kids.entries at why kids.directory fault
not_bad Revision body at fault well = fault.broken well
not_bad Release body at fault well = fault.broken well
not_bad Snapshot body at fault (names, kids) = snapshot.no_fault body kids.branches at kids.is fault

pub made_unless : (kind : Kind) (body : List ℕ) (fault : ObjectFault) → ExplainsBad kind body fault → IsWellFormed kind body → MakesObject (Err fault)
made_unless kind body Memory h well = tt
made_unless kind body (TooLong len) h well = h
made_unless kind body (BadBody at) h well = not_bad kind body at h well
