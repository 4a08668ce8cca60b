-- What a load leaves, whatever its input.
use Rattle.std.proofs.Common.{◌≡◌, ℕ, ◌≤◌, Option, Some, None, List, [], ◌∷◌, length, refl, sym, subst, le_refl, arith}
use Rattle.std.specs.List.{AllByRecursion}
use Rattle.swh_base.specs.declared.kind.Kind.{Kind}
use Rattle.swh_base.specs.declared.entry.Entry.{Entry}
use Rattle.swh_base.specs.declared.visit.VisitKind.{VisitKind}
use Rattle.swh_base.specs.declared.visit.VisitKind.TheVariants as kind
use Rattle.swh_base.specs.Limits.{path_limit}
use Rattle.swh_outside.specs.declared.fault.Opened.{Opened}
use Rattle.swh_outside.specs.declared.fault.Opened.TheVariants as opened
use Rattle.swh_model.specs.Archive.{Bodies}
use Rattle.swh_ingest.specs.declared.end.End as walk
use Rattle.swh_ingest.specs.declared.end.End.TheVariants.{Full, NotFound, Unread, Bad, Met}
use Rattle.swh_ingest.specs.declared.input.Opening.{Opening}
use Rattle.swh_ingest.specs.declared.input.Opening.TheVariants as opening
use Rattle.swh_ingest.specs.Loading as walking
use Rattle.swh_ingest.specs.Owning.{AreAmong}
use Rattle.swh_inputs.specs.Input.{InputText, MayBreakInput}
use Rattle.swh_inputs.specs.Opening.{kind_of, opening_of}
use Rattle.swh_inputs.specs.Parts.{Parts, IsQuiet, IsQuietOf, IsSameInput, IsSamePart, IsSameListing, IsSameSource, IsSameFolder}
use Rattle.swh_inputs.specs.declared.bad.BadText.{BadText}
use Rattle.swh_inputs.specs.declared.bad.BadText.TheVariants as broken
use Rattle.swh_inputs.specs.declared.bad.InputFault.{InputFault}
use Rattle.swh_inputs.specs.declared.bad.InputFault.TheVariants as fault
use Rattle.swh_inputs.specs.declared.input.Input.{Input}
use Rattle.swh_inputs.specs.declared.input.Input.TheVariants.{Fast, Dir, Batch}
use Rattle.swh_loader.specs.declared.end.BadInput.TheVariants.{Broken, Collision, Read}
use Rattle.swh_loader.specs.declared.end.End.{End}
use Rattle.swh_loader.specs.declared.end.End.TheVariants as reported
use Rattle.swh_loader.specs.Ending.{MayGiveObjects, IsGivenBy, IsEndOf, IsEndAt, IsJobEnd, IsQuietEnd, end_for, statuses_of}
use Rattle.swh_loader.specs.Report.{detail_limit, end_room, text_room}

-- the statuses of an end are those of its report
pub same_statuses : (end : walk.End InputFault) → walking.statuses_of end ≡ statuses_of (end_for end)
same_statuses (Full snapshot) = refl
same_statuses NotFound = refl
same_statuses Unread = refl
same_statuses (Bad (fault.Bad bad)) = refl
same_statuses (Bad fault.ReadFault) = refl
same_statuses (Met name) = refl

-- some of what may be given
pub given_by : (id : Kind → List ℕ → List ℕ) (text : InputText) (objects : List Entry) → MayGiveObjects id text objects → (entries : List Entry) → AreAmong objects entries → AllByRecursion (IsGivenBy id text) entries
given_by id text objects may [] h = tt
given_by id text objects may (e ∷ entries) h = (record { objects = objects; may = may; among = h.0 }, given_by id text objects may entries h.1)

-- How long the detail of an input that breaks so may be.
text_short : (of_kind : VisitKind) (bad : BadText) → MayBreakInput of_kind bad → text_room bad ≤ detail_limit of_kind
unfolding MayBreakInput
text_short kind.Fast (broken.Other path) may = absurd may
text_short kind.Batch (broken.Other path) may = absurd may
text_short kind.Dir (broken.Other path) may = let short : length path ≤ path_limit = may in omega (arith, short)
text_short kind.Fast (broken.Stream at why) may = omega arith
text_short kind.Fast (broken.Batch at) may = omega arith
text_short kind.Fast (broken.Name given got) may = omega arith
text_short kind.Fast (broken.Refs line) may = omega arith
text_short kind.Fast (broken.NoObject id) may = omega arith
text_short kind.Fast (broken.Modes line) may = omega arith
text_short kind.Fast (broken.Limit which number) may = omega arith
text_short kind.Dir (broken.Stream at why) may = omega arith
text_short kind.Dir (broken.Batch at) may = omega arith
text_short kind.Dir (broken.Name given got) may = omega arith
text_short kind.Dir (broken.Refs line) may = omega arith
text_short kind.Dir (broken.NoObject id) may = omega arith
text_short kind.Dir (broken.Modes line) may = omega arith
text_short kind.Dir (broken.Limit which number) may = omega arith
text_short kind.Batch (broken.Stream at why) may = omega arith
text_short kind.Batch (broken.Batch at) may = omega arith
text_short kind.Batch (broken.Name given got) may = omega arith
text_short kind.Batch (broken.Refs line) may = omega arith
text_short kind.Batch (broken.NoObject id) may = omega arith
text_short kind.Batch (broken.Modes line) may = omega arith
text_short kind.Batch (broken.Limit which number) may = omega arith

-- no detail that names no path is above the limit
pub small_short : (of_kind : VisitKind) → 86 ≤ detail_limit of_kind
small_short kind.Fast = omega arith
small_short kind.Dir = omega arith
small_short kind.Batch = omega arith

part_as_it_was : {X : Type 0} (IsSame : X → X → Type 0) → ((x : X) → IsSame x x) → (part : Opened X) → IsSamePart IsSame part part
part_as_it_was IsSame same (opened.Found x) = same x
part_as_it_was IsSame same opened.NotFound = tt
part_as_it_was IsSame same opened.Failed = tt
part_as_it_was IsSame same opened.Memory = tt

module _ {S F : Type 0} (p : Parts S F) where
  same_source : (s : S) → IsSameSource p.sources s s
  same_source s = (refl, le_refl (p.sources.faults s))

  same_folder : (f : F) → IsSameFolder p.folders f f
  same_folder f = record { path = refl; later = le_refl (p.folders.faults f); holds = λ told. refl }

  listing_as_it_was : (IsSame : S → S → Type 0) → ((s : S) → IsSame s s) → (modes : Option (Opened S)) → IsSameListing IsSame modes modes
  listing_as_it_was IsSame same (Some part) = part_as_it_was IsSame same part
  listing_as_it_was IsSame same None = tt

  pub as_it_was : (i : Input S F) → IsSameInput p i i
  as_it_was (Fast stream head) = (part_as_it_was (IsSameSource p.sources) same_source stream, refl)
  as_it_was (Dir folder modes) = (part_as_it_was (IsSameFolder p.folders) same_folder folder, listing_as_it_was (IsSameSource p.sources) same_source modes)
  as_it_was (Batch objects refs) = (part_as_it_was (IsSameSource p.sources) same_source objects, part_as_it_was (IsSameSource p.sources) same_source refs)

  -- what is as it was did not fail
  pub quiet_as_it_was : (i : Input S F) → IsQuiet p i i
  quiet_as_it_was (Fast stream head) = part_as_it_was (IsQuietOf p.sources.faults) (λ s. refl) stream
  quiet_as_it_was (Dir folder modes) = (part_as_it_was (IsQuietOf p.folders.faults) (λ f. refl) folder, listing_as_it_was (IsQuietOf p.sources.faults) (λ s. refl) modes)
  quiet_as_it_was (Batch objects refs) = (part_as_it_was (IsQuietOf p.sources.faults) (λ s. refl) objects, part_as_it_was (IsQuietOf p.sources.faults) (λ s. refl) refs)

  -- where an input broke so, and nothing failed
  pub broken_quiet : (i now : Input S F) (bad : InputFault) → ((bad ≡ fault.ReadFault → ⊥) → IsQuiet p i now) → IsQuietEnd p i now (end_for (Bad bad))
  broken_quiet i now (fault.Bad bad) quiet = quiet (λ e. absurd cc)
  broken_quiet i now fault.ReadFault quiet = tt

module _ {S F : Type 0} (id : Kind → List ℕ → List ℕ) (p : Parts S F) where
  -- the report of an end has a bound
  found_short : (bodies : Bodies) (i now : Input S F) (end : End) → IsEndOf id p bodies i now end → end_room end ≤ detail_limit (kind_of i)
  found_short bodies i now (reported.Full snapshot) h = small_short (kind_of i)
  found_short bodies i now reported.NotFound h = absurd h
  found_short bodies i now (reported.Failed (Broken bad)) h = text_short (kind_of i) bad h.may
  found_short bodies i now (reported.Failed (Collision name)) h = small_short (kind_of i)
  found_short bodies i now (reported.Failed Read) h = small_short (kind_of i)

  short_at : (o : Opening) (bodies : Bodies) (i now : Input S F) (end : End) → IsEndAt id p bodies o i now end → end_room end ≤ detail_limit (kind_of i)
  short_at opening.Found bodies i now end h = found_short bodies i now end h
  short_at opening.NotFound bodies i now end h = subst (λ (e : End). end_room e ≤ detail_limit (kind_of i)) (sym h) (small_short (kind_of i))
  short_at opening.Failed bodies i now end h = subst (λ (e : End). end_room e ≤ detail_limit (kind_of i)) (sym h) (small_short (kind_of i))
  short_at opening.Memory bodies i now end h = absurd h

  pub job_short : (bodies : Bodies) (i now : Input S F) (end : End) → IsJobEnd id p bodies i now end → end_room end ≤ detail_limit (kind_of i)
  job_short bodies i now end h = short_at (opening_of i) bodies i now end h
