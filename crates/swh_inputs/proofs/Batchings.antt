-- What a batch with its refs gave that is read part by part.
use Rattle.std.proofs.Common.{◌≡◌, ◌⊎◌, ℕ, inl, inr, Some, List, [], ◌++◌, Option, Result, Ok, arith, refl, sym, ap, ◌∙◌, subst}
use Rattle.std.specs.Prelude.{IfOk, IfSome}
use Rattle.std.specs.Global.{Vec}
use Rattle.std.specs.List.{AllByRecursion}
use Rattle.swh_base.specs.declared.kind.Kind.{Kind}
use Rattle.swh_base.specs.declared.entry.Entry.{Entry}
use Rattle.swh_base.specs.declared.memory.Memory.{Memory}
use Rattle.swh_base.specs.declared.visit.VisitKind.TheVariants.{Batch}
use Rattle.swh_outside.specs.Faults.{Rose}
use Rattle.swh_outside.specs.Views.{Sources}
use Rattle.swh_model.specs.Meaning.{StreamMeaning}
use Rattle.swh_object.specs.Object.{IsObject}
use Rattle.swh_dedup.specs.Making.{made}
use Rattle.swh_fastload.specs.Giving.{meaning_of}
use Rattle.swh_batchread.specs.BatchFault.{BreaksBatch, MayBreakBatch}
use Rattle.swh_batchread.specs.Giving.{BatchState, BreaksOff, EndsBatch, GoesOn}
use Rattle.swh_batchread.specs.RefsFault.{BreaksRefs, MayBreakRefs}
use Rattle.swh_batchread.specs.declared.fault.BatchFault.{BatchFault}
use Rattle.swh_ingest.specs.declared.parts.Next.{Next}
use Rattle.swh_ingest.specs.declared.parts.Next.TheVariants as next
use Rattle.swh_ingest.specs.Parts.{GaveSoFar, GaveSome, GaveAll, Broke, MayHaveGiven, IsReadOn, ReachesAll}
use Rattle.swh_ingest.proofs.SoFar.{so_far_keeps, some_keeps}
use Rattle.swh_inputs.specs.Input.{MeansInput}
use Rattle.swh_inputs.specs.Input.InputText.{BatchText}
use Rattle.swh_inputs.specs.Batching.{AreQuiet, IsNextOfBatch}
use Rattle.swh_inputs.specs.Parts.{IsSameSource}
use Rattle.swh_inputs.specs.Streaming.{MayGiveInput}
use Rattle.swh_inputs.specs.Reading.{GivesSo, IsReadFault, told_of_batch}
use Rattle.swh_inputs.specs.declared.bad.InputFault.{InputFault}
use Rattle.swh_inputs.specs.declared.bad.InputFault.TheVariants.{ReadFault}
use Rattle.swh_inputs.proofs.Gives.{pair_gives}

some_told : (told : Option InputFault) (t : InputFault) (P : InputFault → Type 0) → told ≡ Some t → IfSome told P → P t
some_told told t P is h = subst (λ (o : Option InputFault). IfSome o P) is h

-- why nothing comes any more
module _ {S : Type 0} (N : Type 0) (id : Kind → List ℕ → List ℕ) (sources : Sources S) (source refs : S) where
  pub told_next : (before : List Entry) (s : BatchState) (now others : S) (fault : BatchFault) (told : InputFault) → told_of_batch fault ≡ Some told → BreaksOff id sources source refs before now others fault → IsNextOfBatch id sources source refs {N = N} before s now others (next.Bad told)
  told_next before s now others fault told is (inl h) =
      let text = sources.left source in
      let of_refs = sources.left refs in
      let first = Rose (sources.faults source) (sources.faults now) in
      let second = Rose (sources.faults refs) (sources.faults others) in
      some_told (told_of_batch fault) told (λ t. GivesSo id Batch sources.tells (Some (BatchText text of_refs)) {N = N} (first ⊎ second) (next.Bad t)) is
      (pair_gives N id sources.tells text of_refs MayBreakBatch (BreaksBatch id text) (sources.faults source) (sources.faults now) (first ⊎ second) fault inl (λ t. inl) inl h.explains)
  told_next before s now others fault told is (inr h) =
      let text = sources.left source in
      let of_refs = sources.left refs in
      let first = Rose (sources.faults source) (sources.faults now) in
      let second = Rose (sources.faults refs) (sources.faults others) in
      some_told (told_of_batch fault) told (λ t. GivesSo id Batch sources.tells (Some (BatchText text of_refs)) {N = N} (first ⊎ second) (next.Bad t)) is
      (pair_gives N id sources.tells text of_refs (MayBreakRefs before) (BreaksRefs of_refs before) (sources.faults refs) (sources.faults others) (first ⊎ second) fault (λ may. inr (before, may))
      (λ t breaks. inr (before, record { means = h.all.means t; each = h.all.each }, breaks)) inr h.explains)

-- Why nothing comes any more tells each failure.
pub off_quiet : {S : Type 0} (id : Kind → List ℕ → List ℕ) (sources : Sources S) (source refs : S) (before : List Entry) (now others : S) (fault : BatchFault) → BreaksOff id sources source refs before now others fault
    → (told_of_batch fault ≡ Some ReadFault → ⊥) → AreQuiet sources source refs now others
off_quiet id sources source refs before now others fault (inl h) untold = record { quiet = h.quiet (λ e. untold (ap told_of_batch e)); quiet_refs = ap sources.faults h.same_refs }
off_quiet id sources source refs before now others fault (inr h) untold = record { quiet = h.quiet; quiet_refs = h.quiet_refs (λ e. untold (ap told_of_batch e)) }

-- `Gives` is a way to read a batch on, of which an input of type `I` holds the reader and the two sources.
module _ {S I N : Type 0} (id : Kind → List ℕ → List ℕ) (sources : Sources S) (source refs : S) (state : I → BatchState) (objects_of refs_of : I → S) (Gives : I → Result (Next N InputFault) Memory → I → Type 0)
    (on : (i : I) (found : Result (Next N InputFault) Memory) (now : I) (before : List Entry) → Gives i found now → GoesOn id sources source refs before (state i) (objects_of i) (refs_of i)
    → IfOk found (IsNextOfBatch id sources source refs before (state now) (objects_of now) (refs_of now))) where
  -- The input stands behind these objects.
  abbrev pub Stands : List Entry → I → Type 0
  Stands before i = GoesOn id sources source refs before (state i) (objects_of i) (refs_of i)

  step : (before : List Entry) (objects : Vec Entry) (mid now : I) → Stands before mid → Gives mid (Ok (next.Part objects)) now → Stands (before ++ objects.items) now
  step before objects mid now h g = on mid (Ok (next.Part objects)) now before g h

  pub so_far : (i : I) (objects : List Entry) (now : I) → Stands [] i → GaveSoFar Gives i objects now → Stands objects now
  so_far i objects now h g = so_far_keeps Gives Stands step i now objects h g

  ended : (i : I) (objects : List Entry) (snapshot : List ℕ) (now : I) → Stands [] i → (g : GaveAll Gives i objects snapshot now) → EndsBatch id sources source refs g.front (objects_of now) (refs_of now) g.last
  ended i objects snapshot now h g = on g.mid (Ok (next.Last g.last)) now g.front g.gives (so_far i g.front g.mid h g.so_far)

  same_all : (i : I) (objects : List Entry) (snapshot : List ℕ) (now : I) → (g : GaveAll Gives i objects snapshot now) → meaning_of objects snapshot ≡ meaning_of (g.front ++ g.last.objects.items) g.last.snapshot
  same_all i objects snapshot now g = ap (λ (es : List Entry). meaning_of es snapshot) g.are ∙ ap (λ (s : List ℕ). meaning_of (g.front ++ g.last.objects.items) s) g.root

  -- With all that it gave it means something.
  pub means_all : (i : I) (objects : List Entry) (snapshot : List ℕ) (now : I) → Stands [] i → GaveAll Gives i objects snapshot now → sources.tells → MeansInput id (BatchText (sources.left source) (sources.left refs)) (meaning_of objects snapshot)
  unfolding MeansInput
  means_all i objects snapshot now h g told =
      let e = ended i objects snapshot now h g in
      subst (λ (m : StreamMeaning). MeansInput id (BatchText (sources.left source) (sources.left refs)) m) (sym (same_all i objects snapshot now g))
      (record {
        objects = g.front;
        of_batch = record { means = e.all.means told; each = e.all.each };
        all = g.front ++ g.last.objects.items;
        means = e.means told;
        each = e.whole.whole.each;
        are = refl;
      })

  -- What it gave in all has all that is reached from its snapshot.
  pub reaches_all : (i : I) (objects : List Entry) (snapshot : List ℕ) (now : I) → Stands [] i → GaveAll Gives i objects snapshot now → ReachesAll id objects snapshot
  reaches_all i objects snapshot now h g =
      let e = ended i objects snapshot now h g in
      subst (λ (s : List ℕ). ReachesAll id objects s) (sym g.root) (subst (λ (es : List Entry). ReachesAll id es g.last.snapshot) (sym g.are) (record { whole = e.whole.whole; root = e.whole.root }))

  -- How it broke.
  pub broke_so : (i : I) (bad : InputFault) (now : I) → Stands [] i → Broke Gives i bad now → IsNextOfBatch id sources source refs {N = N} [] (state now) (objects_of now) (refs_of now) (next.Bad bad)
  broke_so i bad now h g = on g.mid (Ok (next.Bad bad)) now g.front g.gives (so_far i g.front g.mid h g.so_far)

  gave_some : (i : I) (objects : List Entry) (now : I) → Stands [] i → GaveSome Gives i objects now → Stands objects now
  gave_some i objects now h g = some_keeps Gives Stands step i now objects h g

  -- What it gave it may give.
  pub may_give : (i : I) (objects : List Entry) (now : I) → Stands [] i → MayHaveGiven Gives i objects now → sources.tells → MayGiveInput id (BatchText (sources.left source) (sources.left refs)) (made objects)
  unfolding MayGiveInput
  may_give i objects now h (inl g) told =
      let read = (gave_some i objects now h g).read told in
      inl (record { given = read.given; at = (state now).held.place; rest = _; reaches = read.reaches; kept = read.keeps })
  may_give i objects now h (inr (snapshot, g)) told = inr (record { meaning = meaning_of objects snapshot; means = means_all i objects snapshot now h g told; among = λ m c. c })

  -- Nothing failed of what gave all, or what it gave so far.
  pub all_quiet : (i : I) (objects : List Entry) (snapshot : List ℕ) (now : I) → Stands [] i → GaveAll Gives i objects snapshot now → AreQuiet sources source refs (objects_of now) (refs_of now)
  all_quiet i objects snapshot now h g = let e = ended i objects snapshot now h g in record { quiet = e.quiet; quiet_refs = e.quiet_refs }

  pub given_quiet : (i : I) (objects : List Entry) (now : I) → Stands [] i → MayHaveGiven Gives i objects now → AreQuiet sources source refs (objects_of now) (refs_of now)
  given_quiet i objects now h (inl g) = let still = gave_some i objects now h g in record { quiet = still.quiet; quiet_refs = ap sources.faults still.same_refs }
  given_quiet i objects now h (inr (snapshot, g)) = all_quiet i objects snapshot now h g

  -- Where it broke, a failure is told.
  pub broke_quiet : ((i : I) (found : Result (Next N InputFault) Memory) (now : I) (before : List Entry) → Gives i found now → Stands before i → (IsReadFault found → ⊥) → AreQuiet sources source refs (objects_of now) (refs_of now))
      → (i : I) (bad : InputFault) (now : I) → Stands [] i → Broke Gives i bad now → (bad ≡ ReadFault → ⊥) → AreQuiet sources source refs (objects_of now) (refs_of now)
  broke_quiet hears i bad now h g untold = hears g.mid (Ok (next.Bad bad)) now g.front g.gives (so_far i g.front g.mid h g.so_far) (λ e. untold (let same : bad ≡ ReadFault = cc in same))

  -- Each object that it gave is one.
  pub objects_given : (i : I) (objects : List Entry) (now : I) → Stands [] i → MayHaveGiven Gives i objects now → AllByRecursion (IsObject id) objects
  objects_given i objects now h (inl g) = (gave_some i objects now h g).are.each
  objects_given i objects now h (inr (snapshot, g)) = subst (λ (es : List Entry). AllByRecursion (IsObject id) es) (sym g.are) (ended i objects snapshot now h g).whole.whole.each

-- Where reading on keeps the two references and paths, and lets no count of faults fall, so does all that was read.
module _ {S I : Type 0} (sources : Sources S) (objects_of refs_of : I → S) (name_of refs_name_of : I → ℕ) where
  -- The two references and paths are the same, and no count of faults fell.
  pub record KeepsBoth (i now : I) : Type 0 where
    pub same_reference : name_of now ≡ name_of i
    pub same_refs_reference : refs_name_of now ≡ refs_name_of i
    pub same : IsSameSource sources (objects_of i) (objects_of now)
    pub same_refs : IsSameSource sources (refs_of i) (refs_of now)

  pub keeps_itself : (i : I) → KeepsBoth i i
  keeps_itself i = record { same_reference = refl; same_refs_reference = refl; same = (refl, omega arith); same_refs = (refl, omega arith) }

  both_keep : (i a b : I) → KeepsBoth i a → KeepsBoth a b → KeepsBoth i b
  both_keep i a b h k =
      let first = h.same.1 in
      let second = h.same_refs.1 in
      let third = k.same.1 in
      let fourth = k.same_refs.1 in
      record {
        same_reference = k.same_reference ∙ h.same_reference;
        same_refs_reference = k.same_refs_reference ∙ h.same_refs_reference;
        same = (k.same.0 ∙ h.same.0, omega (arith, first, third));
        same_refs = (k.same_refs.0 ∙ h.same_refs.0, omega (arith, second, fourth));
      }

  module _ {N : Type 0} (Gives : I → Result (Next N InputFault) Memory → I → Type 0) (keeps : (i : I) (found : Result (Next N InputFault) Memory) (now : I) → Gives i found now → KeepsBoth i now) where
    kept_so_far : (i : I) (objects : List Entry) (now : I) → GaveSoFar Gives i objects now → KeepsBoth i now
    kept_so_far i objects now g = so_far_keeps Gives (λ (before : List Entry) (s : I). KeepsBoth i s) (λ before objects mid now h g. both_keep i mid now h (keeps mid (Ok (next.Part objects)) now g)) i now objects (keeps_itself i) g

    kept_behind : (i mid now : I) → (now ≡ mid) ⊎ ((found : Result (Next N InputFault) Memory) × Gives mid found now) → KeepsBoth i mid → KeepsBoth i now
    kept_behind i mid now (inl still) k = subst (λ (x : I). KeepsBoth i x) (sym still) k
    kept_behind i mid now (inr (found, gives)) k = both_keep i mid now k (keeps mid found now gives)

    pub read_kept : (i now : I) → IsReadOn Gives i now → KeepsBoth i now
    read_kept i now r = kept_behind i r.mid now r.rest (kept_so_far i r.front r.mid r.so_far)
