-- A batch of which some objects were given.
use Rattle.std.proofs.Common.{◌≡◌, ℕ, ◌≤◌, inl, inr, List, [], ◌∷◌, ◌++◌, map, Contains, refl, sym, ap, ◌∙◌, subst, arith}
use Rattle.std.specs.Prelude.{Result, Err}
use Rattle.std.proofs.lemmas.List.{append-nil, map-append}
use Rattle.std.proofs.lemmas.List.Elements.{Contains-append_left}
use Rattle.swh_base.specs.declared.entry.Entry.{Entry}
use Rattle.swh_base.specs.declared.kind.Kind.{Kind}
use Rattle.swh_base.proofs.ItemTexts.{items_on}
use Rattle.swh_outside.specs.Views.{Sources}
use Rattle.swh_object.specs.Object.{IsObject}
use Rattle.swh_model.specs.Meaning.{Made}
use Rattle.swh_fastlex.specs.Line.{Held, unread, IsAtEnd}
use Rattle.swh_dedup.specs.Making.{made, made_from}
use Rattle.swh_dedup.proofs.Elements.{all_push}
use Rattle.swh_batchread.specs.declared.fault.BatchFault.{BatchFault}
use Rattle.swh_batchread.specs.declared.fault.BatchFault.TheVariants.{ReadFault}
use Rattle.swh_fastlex.specs.ReadOn.{IsQuietBut}
use Rattle.swh_batchread.specs.Batch.{Given, IsGiven, KeepsFirst, MeansObjects, given_text, batch_text, input_limit}
use Rattle.swh_batchread.specs.BatchFault.{BreaksBatch, BreaksHere, ExplainsBatch, MayBreakBatch}
use Rattle.swh_batchread.specs.Failing.{Fails}
use Rattle.swh_batchread.specs.Giving.{AreAllOf, BatchState, GivesFirst, GoesOn, HasGiven, IsAtStart, IsPart}
use Rattle.swh_batchread.specs.Parts.{TakesObject}
use Rattle.swh_batchread.specs.RefSteps.{Knowing, KnowsObjects}
use Rattle.swh_batchread.proofs.Breaking.{fails_as}
use Rattle.swh_batchread.proofs.Reaching.{read_more}
use Rattle.swh_batchread.proofs.Unique.{one_given, given_not_nil}

-- ## Which objects are kept

-- what was kept stays
keeps_before : (before ms all : List Made) → KeepsFirst before ms all → (m : Made) → Contains before m → Contains all m
keeps_before before [] all k m c = subst (λ (xs : List Made). Contains xs m) (sym k) c
keeps_before before (n ∷ ms) all (inl k) m c = keeps_before before ms all k.1 m c
keeps_before before (n ∷ ms) all (inr k) m c = keeps_before (before ++ n ∷ []) ms all k.1 m (Contains-append_left before (n ∷ []) m c)

-- what is kept of a front is kept of the whole
front_kept : (before ms more a b : List Made) → KeepsFirst before ms a → KeepsFirst before (ms ++ more) b → (m : Made) → Contains a m → Contains b m
front_kept before [] more a b k j m c = keeps_before before more b j m (subst (λ (xs : List Made). Contains xs m) k c)
front_kept before (n ∷ ms) more a b (inl k) (inl j) m c = front_kept before ms more a b k.1 j.1 m c
front_kept before (n ∷ ms) more a b (inr k) (inr j) m c = front_kept (before ++ n ∷ []) ms more a b k.1 j.1 m c
front_kept before (n ∷ ms) more a b (inl k) (inr j) m c = absurd (j.0 k.0)
front_kept before (n ∷ ms) more a b (inr k) (inl j) m c = absurd (k.0 j.0)

module _ (id : Kind → List ℕ → List ℕ) where
  -- What is given first of a batch is of what it means.
  pub first_among : (text : List ℕ) (objects all : List Made) → GivesFirst id text objects → MeansObjects id text all → (m : Made) → Contains objects m → Contains all m
  first_among text objects all f h m c =
      let on = items_on given_text (IsGiven id) (one_given id) given_not_nil h.given f.given f.rest h.are.each f.reaches.are.each (sym h.spelled ∙ f.reaches.cut) in
      let whole : map (λ (g : Given). g.made) h.given ≡ map (λ (g : Given). g.made) f.given ++ map (λ (g : Given). g.made) on.0 = ap (map (λ (g : Given). g.made)) on.1 ∙ map-append (λ (g : Given). g.made) f.given on.0 in
      front_kept [] (map (λ (g : Given). g.made) f.given) (map (λ (g : Given). g.made) on.0) objects all f.kept (subst (λ (ms : List Made). KeepsFirst [] ms all) whole h.kept) m c

  -- ## Parts

  -- a new object is a part
  pub part_new : (given : List Entry) (o : Entry) (part : List Entry) (old new : List Made) (known known_new : Knowing) → HasGiven id given old known → IsObject id o → part ≡ o ∷ [] → (Contains old (made_from o) → ⊥) → new ≡ old ++ made_from o ∷ [] → KnowsObjects (given ++ o ∷ []) known_new → IsPart id given (made_from o) part new known_new
  part_new given o part old new known known_new has object is none more knows =
      let whole : made (given ++ o ∷ []) ≡ made given ++ made_from o ∷ [] = map-append made_from given (o ∷ []) in
      subst (λ (p : List Entry). IsPart id given (made_from o) p new known_new) (sym is)
      (record {
        keeps = inr ((λ c. none (subst (λ (ms : List Made). Contains ms (made_from o)) has.kept_are c)), whole);
        has = record {
          kept_are = whole ∙ ap (λ (ms : List Made). ms ++ made_from o ∷ []) has.kept_are ∙ sym more;
          each = all_push (IsObject id) given o has.each object;
          known_are = knows;
        };
      })

  -- an object that was given is none
  pub part_known : (given : List Entry) (m : Made) (part : List Entry) (old new : List Made) (known : Knowing) → HasGiven id given old known → part ≡ [] → Contains old m → new ≡ old → IsPart id given m part new known
  part_known given m part old new known has is met same =
      let none : given ++ part ≡ given = ap (λ (p : List Entry). given ++ p) is ∙ append-nil given in
      record {
        keeps = inl (subst (λ (ms : List Made). Contains ms m) (sym has.kept_are) met, ap made none);
        has = subst (λ (es : List Entry). HasGiven id es new known) (sym none) (subst (λ (ms : List Made). HasGiven id given ms known) (sym same) has);
      }

module _ {S : Type 0} (id : Kind → List ℕ → List ℕ) (sources : Sources S) (source refs : S) where
  -- Nothing was read.
  pub stands_first : (s : BatchState) → IsAtStart id s → GoesOn id sources source refs [] s source refs
  stands_first s h = record {
    are = h.are;
    place = omega (arith, h.first);
    read = λ told. record {
      given = [];
      reaches = record {
        are = record { each = tt; within = omega arith };
        cut = sym (ap (λ (t : List ℕ). t ++ sources.left source) h.empty);
        here = h.first;
      };
      keeps = refl;
    };
    same_path = refl;
    quiet = refl;
    same_refs = refl;
  }

  -- The batch goes on behind a part.
  pub goes_more : (given part : List Entry) (s new : BatchState) (now after others : S) (m : Made) → GoesOn id sources source refs given s now others → IsPart id given m part new.kept new.known → new.held.place ≤ input_limit
      → (sources.tells → TakesObject id s.held new.held (sources.left now) (sources.left after) m) → sources.path after ≡ sources.path now → sources.faults after ≡ sources.faults now → GoesOn id sources source refs (given ++ part) new after others
  goes_more given part s new now after others m h is low taken same quiet = record {
    are = is.has;
    place = low;
    read = λ told. read_more id (sources.left source) s.held new.held (sources.left now) (sources.left after) (made given) (made (given ++ part)) m (h.read told) (taken told) low is.keeps;
    same_path = same ∙ h.same_path;
    quiet = quiet ∙ h.quiet;
    same_refs = h.same_refs;
  }

  -- All objects were given.
  pub all_given : (given : List Entry) (s : BatchState) (now others : S) (held : Held) (after : S) → GoesOn id sources source refs given s now others → (sources.tells → IsAtEnd s.held held (sources.left now) (sources.left after)) → AreAllOf id sources source refs given
  all_given given s now others held after h ends = record {
    means = λ told.
        let read = h.read told in
        let reaches = read.reaches in
        record {
          given = read.given;
          are = reaches.are;
          spelled = reaches.cut ∙ ap (λ (t : List ℕ). batch_text read.given ++ t) (ends told).nothing ∙ append-nil (batch_text read.given);
          kept = read.keeps;
        };
    each = h.are.each;
  }

  -- What breaks behind the objects that were given breaks the batch.
  pub breaks_behind : (given : List Entry) (s : BatchState) (now others after : S) (fault : BatchFault) → GoesOn id sources source refs given s now others
      → Fails sources.tells MayBreakBatch (BreaksHere id s.held.place (unread s.held (sources.left now))) (sources.faults now) (sources.faults after) fault → ExplainsBatch id sources source after fault
  breaks_behind given s now others after fault h f =
      fails_as sources.tells MayBreakBatch MayBreakBatch (BreaksHere id s.held.place (unread s.held (sources.left now))) (BreaksBatch id (sources.left source)) (sources.faults source) (sources.faults now) (sources.faults after) fault (λ g may. may)
      (λ told g breaks. let read = h.read told in record { given = read.given; at = s.held.place; rest = unread s.held (sources.left now); reaches = read.reaches; breaks = breaks }) h.quiet f

-- Where another fault is told, no failure was heard.
pub quiet_but : {T : Type 0} (r : Result T BatchFault) (fault : BatchFault) (old new : ℕ) → r ≡ Err fault → IsQuietBut old new ReadFault r → (fault ≡ ReadFault → ⊥) → new ≡ old
quiet_but r fault old new is quiet other = quiet (λ e. other (let same : fault ≡ ReadFault = cc in same))
