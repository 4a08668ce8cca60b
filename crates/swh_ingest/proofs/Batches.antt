-- What comes of a batch that was asked for.
use Rattle.std.proofs.Common.{◌≡◌, ◌≢◌, ◌==◌, inl, inr, ℕ, true, false, cond, Option, Some, None, List, [], ◌∷◌, ◌++◌, length, Contains, refl, sym, ap, ◌∙◌, subst, arith}
use Rattle.std.specs.Prelude.{is_some, bytes_eq, vec_len}
use Rattle.std.specs.Global.{Vec}
use Rattle.std.specs.List.{AllByRecursion}
use Rattle.std.specs.FinMap as finite
use Rattle.std.proofs.lemmas.Slice.Eq.{bytes_eq-Decides}
use Rattle.std.proofs.lemmas.List.Elements.{All-from_recursion, Contains-append_right}
use Rattle.swh_base.specs.declared.kind.Kind.{Kind}
use Rattle.swh_base.specs.declared.name.Name.{Name}
use Rattle.swh_base.specs.declared.entry.Entry.{Entry}
use Rattle.swh_model.specs.declared.event.Event.{Event}
use Rattle.swh_model.specs.declared.event.EventKind.TheVariants.{Batch}
use Rattle.swh_model.specs.declared.event.Wish.TheVariants as wished
use Rattle.swh_model.specs.declared.event.No.{No as Cause}
use Rattle.swh_model.specs.declared.event.No.TheVariants as cause
use Rattle.swh_model.specs.declared.event.Outcome.{Outcome}
use Rattle.swh_model.specs.Archive.{Archive, Bodies, body_of}
use Rattle.swh_model.specs.Step.{AreNew, after, added, replay}
use Rattle.swh_model.specs.Judge.{not_held, HasBodyOrAdds, Collides}
use Rattle.swh_model.proofs.Maps.{body-put, within-added}
use Rattle.swh_model.proofs.Batches.{fresh-inside, covered, collides}
use Rattle.swh_ingest.specs.Knowing.{Protocol, CarriesOut, RefusesPlan, held_in}
use Rattle.swh_ingest.specs.declared.refusal.Refusal.{Refusal}
use Rattle.swh_ingest.specs.declared.refusal.Refusal.TheVariants as refusal
use Rattle.swh_ingest.proofs.Growing.{replay-append, follows_alone}
use Rattle.swh_ingest.specs.declared.stop.Stop.{Stop}
use Rattle.swh_ingest.specs.declared.pending.Pending.{Pending}
use Rattle.swh_model.specs.declared.event.EventKind.{EventKind}
use Rattle.swh_ingest.specs.Owning.{AreAmong, IsBatchAmong, IsBatchAsked, marks_in}
use Rattle.swh_ingest.specs.Sending.{AllHeld, IsHeldWhole, IsMet, IsPendingBatch}
use Rattle.swh_ingest.specs.Stopping.{MayStopBatch, IsWhyOf}
use Rattle.swh_ingest.specs.Walking.{Adds, StopsNow}

-- what holds of each holds of one of them
pub at_element : {X : Type 0} (P : X → Type 0) (xs : List X) (x : X) → AllByRecursion P xs → Contains xs x → P x
at_element P xs x all (k, less, is) = subst P is (All-from_recursion P xs all k x less)

pub all_of : {X : Type 0} (P : X → Type 0) (xs : List X) → ((x : X) → Contains xs x → P x) → AllByRecursion P xs
all_of P [] f = tt
all_of P (x ∷ xs) f = (f x (0, omega arith, refl), all_of P xs (λ y there. f y (Contains-append_right (x ∷ []) xs y there)))

-- a vector that is not empty has elements
pub not_empty : (v : Vec Entry) → (vec_len v == 0) ≡ false → v.items ≢ []
not_empty v some none = let both : true ≡ false = ap (λ (n : ℕ). n == 0) (sym (v.ok.0 ∙ ap length none)) ∙ some in cc

pub among_all : (xs : List Entry) → AreAmong xs xs
among_all xs = all_of (Contains xs) xs (λ x there. there)

-- new entries are all added
pub fresh-same : (bodies : Bodies) (es : List Entry) → AreNew bodies es → not_held bodies es ≡ es
fresh-same bodies [] n = refl
fresh-same bodies (e ∷ es) n =
    ap (λ (o : Option (List ℕ)). cond (is_some o) (not_held bodies es) (e ∷ not_held (finite.insert bodies e.name e.body) es)) n.0 ∙ ap (λ (t : List Entry). e ∷ t) (fresh-same (finite.insert bodies e.name e.body) es n.1)

-- entries of which no two have one name are held once they were added
put_all : (bodies : Bodies) (es : List Entry) → AreNew bodies es → AllByRecursion (IsHeldWhole (added bodies es)) es
put_all bodies [] new = tt
put_all bodies (e ∷ es) new = (within-added (finite.insert bodies e.name e.body) es new.1 e.name e.body (body-put bodies e.name e.body), put_all (finite.insert bodies e.name e.body) es new.1)

-- where no name has two bodies, each of a batch is held afterwards
held_if_same : (b : Bodies) (es : List Entry) (e : Entry) (x : List ℕ) → Contains es e → ((n : Name) → Collides b es n → ⊥) → body_of (added b (not_held b es)) e.name ≡ Some x → IsHeldWhole (added b (not_held b es)) e
held_if_same b es e x there none some =
    elim (bytes_eq x e.body) as (λ t. bytes_eq x e.body ≡ t → IsHeldWhole (added b (not_held b es)) e) [
      | true ↦ λ is. some ∙ ap (λ (y : List ℕ). Some y) ((bytes_eq-Decides x e.body).0 is)
      | false ↦ λ is. absurd (none e.name (collides b es e there (λ held.
          let both : Some x ≡ Some e.body = sym some ∙ held in
          let same : x ≡ e.body = cc in
          let yes : bytes_eq x e.body ≡ true = (bytes_eq-Decides x e.body).1 same in
          let no : true ≡ false = sym yes ∙ is in cc)))
    ] refl

held_after : (b : Bodies) (es : List Entry) (e : Entry) → Contains es e → ((n : Name) → Collides b es n → ⊥) → IsHeldWhole (added b (not_held b es)) e
held_after b es e there none =
    elim (body_of (added b (not_held b es)) e.name) as (λ o. body_of (added b (not_held b es)) e.name ≡ o → IsHeldWhole (added b (not_held b es)) e) [
      | None ↦ λ nothing. absurd (covered b es e there nothing)
      | Some x ↦ λ some. held_if_same b es e x there none some
    ] refl

-- a name that would have two bodies is that of an entry, under which another body is held
apart_met : (b : Bodies) (es : List Entry) (n : Name) (x y : List ℕ) → AreNew finite.empty es → HasBodyOrAdds b es n x → HasBodyOrAdds b es n y → x ≢ y → IsMet b es n
apart_met b es n x y apart (inl held) (inl other) differ = absurd (differ (let both : Some x ≡ Some y = sym held ∙ other in cc))
apart_met b es n x y apart (inl held) (inr (e, there, named, is)) differ = record {
  entry = e;
  among = there;
  named = sym named;
  other = (x, ap (body_of b) named ∙ held, λ same. differ (same ∙ is));
}
apart_met b es n x y apart (inr (e, there, named, is)) (inl held) differ = record {
  entry = e;
  among = there;
  named = sym named;
  other = (y, ap (body_of b) named ∙ held, λ same. differ (sym is ∙ sym same));
}
apart_met b es n x y apart (inr (e, there, named, is)) (inr (f, among, called, has)) differ =
    let all = put_all finite.empty es apart in
    let one = at_element (IsHeldWhole (added finite.empty es)) es e all there in
    let two = at_element (IsHeldWhole (added finite.empty es)) es f all among in
    let both : Some e.body ≡ Some f.body = sym one ∙ ap (body_of (added finite.empty es)) (named ∙ sym called) ∙ two in
    let same : e.body ≡ f.body = cc in
    absurd (differ (sym is ∙ same ∙ has))

pub met_of : (b : Bodies) (es : List Entry) (n : Name) → AreNew finite.empty es → Collides b es n → IsMet b es n
met_of b es n apart (x, y, one, two, differ) = apart_met b es n x y apart one two differ

module _ {S N : Type 0} (id : Kind → List ℕ → List ℕ) (w : Protocol S) (a b : S) (p : Pending N) (waiting : IsPendingBatch id w.alone (held_in (w.known a)) p) where
  abbrev Objects : List Entry
  Objects = p.objects.items

  added_batch : (outcome : Outcome) (c : CarriesOut id w (wished.Batch Objects) a b outcome) → held_in (w.known b) ≡ added (replay c.base).bodies (not_held (replay c.base).bodies Objects)
  added_batch outcome c =
      ap (λ (h : List Event). (replay h).bodies) c.front ∙ ap (λ (x : Archive). x.bodies) (replay-append c.base (c.event ∷ [])) ∙ ap (λ (e : Event). (after (replay c.base) e).bodies) c.verdict.1

  pub carried_held : (outcome : Outcome) → CarriesOut id w (wished.Batch Objects) a b outcome → AllHeld (held_in (w.known b)) Objects
  carried_held outcome c =
      let bodies = (replay c.base).bodies in
      subst (λ (t : Bodies). AllHeld t Objects) (sym (added_batch outcome c))
      (all_of (IsHeldWhole (added bodies (not_held bodies Objects))) Objects (λ e there. held_after bodies Objects e there (λ n two. c.verdict.0 (cause.Collision n) two)))

  pub carried_adds : (outcome : Outcome) → Objects ≢ [] → CarriesOut id w (wished.Batch Objects) a b outcome → Adds w (IsBatchAmong w.alone Objects) [] a b
  carried_adds outcome some c =
      let bodies = (replay c.base).bodies in
      let what : c.event.what ≡ Batch (not_held bodies Objects) = ap (λ (e : Event). e.what) c.verdict.1 in
      record {
        own = c.event ∷ [];
        each = (
          record {
            by_one = ap (λ (e : Event). e.by) c.verdict.1;
            added = record {
              entries = not_held bodies Objects;
              is = what;
              some = λ one none. some (sym (fresh-same bodies Objects (subst (λ (h : List Event). AreNew (replay h).bodies Objects) (sym (follows_alone id w.alone (w.known a).front c.base c.follows one)) (waiting.new one))) ∙ none);
              among = all_of (Contains Objects) (not_held bodies Objects) (λ e there. fresh-inside bodies Objects e there);
            };
          },
          tt,
        );
        marked = ap (λ (k : EventKind). marks_in k ++ []) what;
        adds = c.adds;
      }

  refused_met : (name : Name) → RefusesPlan id w (wished.Batch Objects) a b (refusal.No (cause.Collision name)) → IsMet (held_in (w.known b)) Objects name
  refused_met name r = met_of (held_in (w.known b)) Objects name waiting.apart r.against.0.0

  pub refused_met_at : (r : Refusal) (name : Name) → r ≡ refusal.No (cause.Collision name) → RefusesPlan id w (wished.Batch Objects) a b r → IsMet (held_in (w.known b)) Objects name
  refused_met_at r name is refuses = refused_met name (subst (RefusesPlan id w (wished.Batch Objects) a b) is refuses)

  -- and nothing was added
  pub refused_looks : (r : Refusal) (name : Name) → r ≡ refusal.No (cause.Collision name) → RefusesPlan id w (wished.Batch Objects) a b r → w.adds [] a b
  refused_looks r name is refuses = (subst (RefusesPlan id w (wished.Batch Objects) a b) is refuses).against.1

  pub refused_stops : (r : Refusal) (why : Stop) → Objects ≢ [] → RefusesPlan id w (wished.Batch Objects) a b r → IsWhyOf r why → StopsNow id w (IsBatchAsked Objects) a b why
  refused_stops r why some refuses is = inr (record {
    wish = wished.Batch Objects;
    tried = record { entries = Objects; is = refl; some = some; among = among_all Objects };
    ready = record { good = waiting.good; limits = waiting.limits; new = waiting.new };
    refusal = r;
    is_why = is;
    refuses = refuses;
  })

  against_batch : (c : Cause) → RefusesPlan id w (wished.Batch Objects) a b (refusal.No c) → MayStopBatch (refusal.No c)
  against_batch (cause.Limit which number) r = tt
  against_batch (cause.Collision name) r = tt
  against_batch (cause.NoVisit have) r = r.against.0.0
  against_batch (cause.NotYours by) r = r.against.0.0
  against_batch (cause.Ended status) r = r.against.0.0
  against_batch (cause.NoSnapshot name) r = r.against.0.0
  against_batch (cause.NotClosed parent child) r = r.against.0.0

  pub refused_may : (r : Refusal) → RefusesPlan id w (wished.Batch Objects) a b r → MayStopBatch r
  refused_may (refusal.No c) r = against_batch c r
  refused_may refusal.DiskFault r = tt
  refused_may refusal.Wounded r = tt
  refused_may (refusal.Memory stands) r = tt
