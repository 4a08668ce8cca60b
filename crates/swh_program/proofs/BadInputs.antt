-- A job whose input is bad is not full.
use Rattle.std.proofs.Common.{◌≡◌, inl, inr, ⊎_elim, ℕ, Some, Result, Ok, Err, List, [], ◌∷◌, map, Contains, sym, ap, ◌∙◌, subst}
use Rattle.std.specs.List.{AllByRecursion}
use Rattle.swh_base.specs.declared.kind.Kind.{Kind}
use Rattle.swh_base.specs.declared.name.Name.{Name}
use Rattle.swh_base.specs.declared.entry.Entry.{Entry}
use Rattle.swh_jobs.specs.Job.{Job}
use Rattle.swh_model.specs.declared.event.Event.{Event}
use Rattle.swh_model.specs.Archive.{Bodies, body_of}
use Rattle.swh_model.specs.Grows.{IsWithin}
use Rattle.swh_model.specs.Meaning.{Made as MadeObject, StreamMeaning}
use Rattle.swh_model.specs.Step.{HasItsChildrenAndName, replay}
use Rattle.swh_inputs.specs.Input.{InputText, MeansInput}
use Rattle.swh_dedup.specs.Making.{made_from, made}
use Rattle.swh_dedup.proofs.Elements.{from_map}
use Rattle.swh_inputs.proofs.OneInput.{one_making, unbroken}
use Rattle.swh_ingest.specs.Owning.{Attempt}
use Rattle.swh_loader.specs.Ending.{IsFull}
use Rattle.swh_ingest.proofs.Batches.{at_element}
use Rattle.swh_loader.specs.declared.end.End.{End}
use Rattle.swh_loader.specs.declared.end.End.TheVariants.{Full, NotFound, Failed}
use Rattle.swh_loader.specs.declared.end.Loaded.{Loaded}
use Rattle.swh_ingest.specs.declared.end.LoadFault.{LoadFault}
use Rattle.swh_program.specs.Causes.{HasTwoBodies, IsBroken, IsBadInput}
use Rattle.swh_program.specs.Complete.{HasBodyOrMakes}
use Rattle.swh_program.specs.Inputs.{Inputs, input_of, IsInputEnd}
use Rattle.swh_program.specs.JobLoad.{attempt_for, IsJobOutcome, IsJobLoad}
use Rattle.swh_program.specs.Lines.{LoadedJob, outcomes, ending_of_end, ending_for, ending_of_all}
use Rattle.swh_exit.specs.declared.answer.Ending.TheVariants as ending
use Rattle.swh_program.proofs.LoadEndings.{both_done, why_undone}

-- Nothing is wrong with the input of a full job.
module _ (id_of : Kind → List ℕ → List ℕ) (bodies held : Bodies) (within : IsWithin bodies held) (text : InputText) (snapshot : List ℕ) (full : IsFull id_of text held snapshot) where
  -- what it means, in the order in which it was made
  abbrev full_making : StreamMeaning
  full_making = record { objects = made full.objects; snapshot = snapshot }

  has_then : (making : StreamMeaning) → MeansInput id_of text making → (name : Name) (body : List ℕ) → HasBodyOrMakes id_of bodies making.objects name body → body_of held name ≡ Some body
  has_then making means name body (inl there) = within name body there
  has_then making means name body (inr makes) =
      let same = one_making id_of text making full_making means full.means.meaning in
      let object : MadeObject = record { kind = name.kind; body = body } in
      let from = from_map made_from full.objects object ((same.objects object).0 makes.0) in
      let entry = from.0 in
      let kinds : entry.name.kind ≡ name.kind = ap (λ (m : MadeObject). m.kind) from.2 in
      let texts : entry.body ≡ body = ap (λ (m : MadeObject). m.body) from.2 in
      let named = (at_element (HasItsChildrenAndName id_of) full.objects entry full.means.good from.1).named in
      let ids : entry.name.id ≡ name.id = named ∙ (λ i. id_of (kinds i) (texts i)) ∙ sym makes.1 in
      let names : entry.name ≡ name = λ i. record { kind = kinds i; id = ids i } in
      subst (λ (n : Name). body_of held n ≡ Some body) names (at_element (λ (e : Entry). body_of held e.name ≡ Some e.body) full.objects entry full.held from.1 ∙ ap (λ (b : List ℕ). Some b) texts)

  not_bad : IsBadInput id_of bodies (Some text) → ⊥
  not_bad bad =
      ⊎_elim
      (λ (broken : IsBroken id_of text). unbroken id_of text full_making broken.0 full.means.meaning broken.1)
      (λ (two : HasTwoBodies id_of bodies text).
      let t = two.1 in
      t.apart (let both : Some t.a ≡ Some t.b = sym (has_then t.making t.means two.0 t.a t.has_a) ∙ has_then t.making t.means two.0 t.b t.has_b in cc))
      bad

module _ (id_of : Kind → List ℕ → List ℕ) (of_jobs : Inputs) (told : of_jobs.tell) (bodies : Bodies) where
  -- so a job that is done has no bad input
  end_not_bad : (job : Job) (held : Bodies) → IsWithin bodies held → (end : End) → IsInputEnd id_of (input_of of_jobs job) held end
      → ending_of_end end ≡ ending.Done → IsBadInput id_of bodies (input_of of_jobs job).found → ⊥
  end_not_bad job held within (Full snapshot) is e bad = let t = is told in not_bad id_of bodies held within t.0 snapshot t.2 (subst (IsBadInput id_of bodies) t.1 bad)
  end_not_bad job held within NotFound is e bad = let f : ending.Wanting ≡ ending.Done = e in cc
  end_not_bad job held within (Failed reason) is e bad = let f : ending.Wanting ≡ ending.Done = e in cc

  module _ (before after : List Event) (within : IsWithin bodies (replay after).bodies) where
    load_not_bad : (job : Job) (a : Attempt) (own : List Event) (outcome : Result Loaded LoadFault) → IsJobOutcome id_of (input_of of_jobs job) a before after own outcome → ending_for outcome ≡ ending.Done
        → IsBadInput id_of bodies (input_of of_jobs job).found → ⊥
    load_not_bad job a own (Ok l) line e bad = end_not_bad job (replay after).bodies within l.end line.end e bad
    load_not_bad job a own (Err f) line e bad = why_undone f.why e

    none_bad : (loads : List LoadedJob) → AllByRecursion (IsJobLoad id_of of_jobs before after) loads → ending_of_all (outcomes loads) ≡ ending.Done → AllByRecursion (λ l. IsBadInput id_of bodies (input_of of_jobs l.job).found → ⊥) loads
    none_bad [] each e = tt
    none_bad (l ∷ loads) each e =
        let done = both_done (ending_for l.outcome) (ending_of_all (outcomes loads)) e in
        (load_not_bad l.job (attempt_for l) l.own l.outcome each.0.line done.0, none_bad loads each.1 done.1)

    -- of jobs that are all done none has a bad input
    pub bad_undone : (loads : List LoadedJob) → AllByRecursion (IsJobLoad id_of of_jobs before after) loads → (job : Job) → Contains (map (λ l. l.job) loads) job → IsBadInput id_of bodies (input_of of_jobs job).found
        → ending_of_all (outcomes loads) ≡ ending.Done → ⊥
    bad_undone loads each job among bad e =
        let from = from_map (λ (l : LoadedJob). l.job) loads job among in
        at_element (λ (l : LoadedJob). IsBadInput id_of bodies (input_of of_jobs l.job).found → ⊥) loads from.0 (none_bad loads each e) from.1
        (subst (λ (j : Job). IsBadInput id_of bodies (input_of of_jobs j).found) (sym from.2) bad)
