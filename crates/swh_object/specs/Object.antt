-- What an object is, and why there is none.
use Rattle.std.specs.Prelude.{◌≡◌, ℕ, ◌<◌, ◌≤◌, Option, List, length, Result, Ok, Err}
use Rattle.swh_base.specs.declared.kind.Kind.{Kind}
use Rattle.swh_base.specs.declared.kind.Kind.TheVariants.{Content, Directory, Revision, Release, Snapshot}
use Rattle.swh_base.specs.declared.name.Name.{Name}
use Rattle.swh_base.specs.declared.entry.Entry.{Entry}
use Rattle.swh_base.specs.Limits.{body_limit}
use Rattle.swh_base.specs.Directory.{child_of}
use Rattle.swh_base.specs.Snapshot.{branch_child}
use Rattle.swh_base.specs.Manifest.{AreChildren}
use Rattle.swh_dirfmt.specs.declared.entry.SpelledEntry.{SpelledEntry}
use Rattle.swh_dirfmt.specs.declared.fault.DirWhy.{DirWhy}
use Rattle.swh_dirfmt.specs.Entries as entries
use Rattle.swh_dirfmt.specs.Fault as directory
use Rattle.swh_revfmt.specs.Fault as revision
use Rattle.swh_snpfmt.specs.declared.branch.SpelledBranch.{SpelledBranch}
use Rattle.swh_snpfmt.specs.Branches as branches
use Rattle.swh_snpfmt.specs.Fault as snapshot
use Rattle.swh_object.specs.declared.fault.ObjectFault.{ObjectFault}
use Rattle.swh_object.specs.declared.fault.ObjectFault.TheVariants.{Memory, TooLong, BadBody}

-- The body is one of its kind and within the limit, the children are those of the body, and the id is the namer's.
pub record IsObject (id_of : Kind → List ℕ → List ℕ) (e : Entry) : Type 0 where
  pub kids : AreChildren e.name.kind e.body e.kids
  pub named : e.name.id ≡ id_of e.name.kind e.body
  pub short : length e.body ≤ body_limit

-- the child of an entry that stands in a directory's body
abbrev pub directory_child : SpelledEntry → Option Name
directory_child e = child_of (entries.entry_of e)

-- the child of a branch that stands in a snapshot's body
abbrev pub snapshot_child : SpelledBranch → Option Name
snapshot_child b = branch_child (branches.branch_of b)

-- The reader of this kind refuses the body at this place.
abbrev pub IsBadBody : Kind → List ℕ → ℕ → Type 0
IsBadBody Content body at = ⊥
IsBadBody Directory body at = (why : DirWhy) × directory.IsDirFault body at why
IsBadBody Revision body at = revision.IsRevFault Revision body at
IsBadBody Release body at = revision.IsRevFault Release body at
IsBadBody Snapshot body at = snapshot.IsSnpFault body at

-- The fault is a place at which the reader of this kind refuses the body. Of want of memory nothing is said.
abbrev pub ExplainsBad : Kind → List ℕ → ObjectFault → Type 0
ExplainsBad kind body Memory = Unit {0}
ExplainsBad kind body (TooLong len) = ⊥
ExplainsBad kind body (BadBody at) = IsBadBody kind body at

-- The fault is the length of the body, where it is above the limit, or else a place at which the reader of this kind
-- refuses it. Of want of memory nothing is said.
abbrev pub ExplainsObject : Kind → List ℕ → ObjectFault → Type 0
ExplainsObject kind body Memory = Unit {0}
ExplainsObject kind body (TooLong len) = (len ≡ length body) × (body_limit < len)
ExplainsObject kind body (BadBody at) = (length body ≤ body_limit) × IsBadBody kind body at

-- There is an object, or memory ran out.
abbrev pub MakesObject : Result Entry ObjectFault → Type 0
MakesObject (Ok e) = Unit {0}
MakesObject (Err Memory) = Unit {0}
MakesObject (Err (TooLong len)) = ⊥
MakesObject (Err (BadBody at)) = ⊥
