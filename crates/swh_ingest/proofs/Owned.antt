-- The batches of what an input gave, as a load's own, and what is said of an input that was found so.
use Rattle.std.proofs.Common.{◌≡◌, ℕ, Result, List, [], refl, sym, subst}
use Rattle.std.specs.Prelude.{IfOk}
use Rattle.swh_base.specs.declared.kind.Kind.{Kind}
use Rattle.swh_base.specs.declared.entry.Entry.{Entry}
use Rattle.swh_base.specs.Visit.{Statuses}
use Rattle.swh_model.specs.declared.event.EventKind.{EventKind}
use Rattle.swh_model.specs.declared.event.Wish.{Wish}
use Rattle.swh_model.specs.Archive.{Bodies}
use Rattle.swh_ingest.specs.Knowing.{Protocol, IsLawful}
use Rattle.swh_ingest.specs.declared.end.End.{End}
use Rattle.swh_ingest.specs.declared.end.End.TheVariants.{NotFound, Unread}
use Rattle.swh_ingest.specs.declared.input.Opening.{Opening}
use Rattle.swh_ingest.specs.declared.input.Opening.TheVariants as opening
use Rattle.swh_ingest.specs.declared.parts.Next.{Next}
use Rattle.swh_ingest.specs.declared.stop.Stop.{Stop}
use Rattle.swh_ingest.specs.Ending.{IsMarkOf, IsMarkAsked}
use Rattle.swh_ingest.specs.Loading.{IsOwn, IsOwnAsked}
use Rattle.swh_ingest.specs.Owning.{Attempt}
use Rattle.swh_ingest.specs.Parts.{AreGiven, AreAllowed, IsGivenEndAt, IsSameOrReadOn, IsGivenEnd, IsBatchFor, IsBatchAskedFor}
use Rattle.swh_ingest.specs.Walking.{Adds, StopsAfter}
use Rattle.swh_ingest.proofs.Loads.{ok_as, own_mark, own_mark_asked}
use Rattle.swh_ingest.proofs.Steps.{adds_as, adds_then, after_as, after_then}

-- a batch is a load's own
module _ {S : Type 0} (id : Kind → List ℕ → List ℕ) (w : Protocol S) (law : IsLawful id w) (A : List Entry → Type 0) (t : Attempt) (number : ℕ) where
  own_batch : (what : EventKind) → IsBatchFor w.alone A what → IsOwn w.alone A t number what
  own_batch what b = subst (IsOwn w.alone A t number) (sym b.is) (b.some, b.allowed)

  own_batch_asked : (wish : Wish) → IsBatchAskedFor A wish → IsOwnAsked A t number wish
  own_batch_asked wish b = subst (IsOwnAsked A t number) (sym b.is) (b.some, b.allowed)

  pub batches_own : (marks : Statuses) (a b : S) → Adds w (IsBatchFor w.alone A) marks a b → Adds w (IsOwn w.alone A t number) marks a b
  batches_own marks a b h = adds_as id w law (IsBatchFor w.alone A) (IsOwn w.alone A t number) marks a b own_batch h

  pub batches_stop : (a b : S) (why : Stop) → StopsAfter id w (IsBatchFor w.alone A) (IsBatchAskedFor A) [] a b why → StopsAfter id w (IsOwn w.alone A t number) (IsOwnAsked A t number) [] a b why
  batches_stop a b why h = after_as id w law (IsBatchFor w.alone A) (IsOwn w.alone A t number) (IsBatchAskedFor A) (IsOwnAsked A t number) [] a b why own_batch own_batch_asked h

  -- batches, and then a mark
  pub batches_then_mark : (marks : Statuses) (a m b : S) → Adds w (IsBatchFor w.alone A) [] a m → Adds w (IsMarkOf t number) marks m b → Adds w (IsOwn w.alone A t number) marks a b
  batches_then_mark marks a m b h k =
      adds_then id w law (IsOwn w.alone A t number) [] marks a m b (batches_own [] a m h)
      (adds_as id w law (IsMarkOf t number) (IsOwn w.alone A t number) marks m b (own_mark w A t number) k)

  pub batches_then_stop : (a m b : S) (why : Stop) → Adds w (IsBatchFor w.alone A) [] a m → StopsAfter id w (IsMarkOf t number) (IsMarkAsked t number) [] m b why → StopsAfter id w (IsOwn w.alone A t number) (IsOwnAsked A t number) [] a b why
  batches_then_stop a m b why h k =
      after_then id w law (IsOwn w.alone A t number) (IsOwnAsked A t number) [] [] a m b why (batches_own [] a m h)
      (after_as id w law (IsMarkOf t number) (IsOwn w.alone A t number) (IsMarkAsked t number) (IsOwnAsked A t number) [] m b why (own_mark w A t number) (own_mark_asked A t number) k)

-- what is said of an input that was found so
module _ {I N B E : Type 0} (Gives : I → Result (Next N B) E → I → Type 0) (is : Opening) where
  pub allowed_found : (i : I) → is ≡ opening.Found → (entries : List Entry) → AreGiven Gives i entries → AreAllowed Gives is i entries
  allowed_found i found entries h = subst (λ (o : Opening). AreAllowed Gives o i entries) (sym found) h

  pub end_found : {F : Type 0} (r : Result (End B) F) (bodies : Bodies) (i now : I) → is ≡ opening.Found → IfOk r (IsGivenEnd Gives bodies i now) → IfOk r (IsGivenEndAt Gives is bodies i now)
  end_found r bodies i now found h = subst (λ (o : Opening). IfOk r (IsGivenEndAt Gives o bodies i now)) (sym found) h

  pub same_found : (i now : I) → is ≡ opening.Found → IsSameOrReadOn Gives opening.Found i now → IsSameOrReadOn Gives is i now
  same_found i now found h = subst (λ (o : Opening). IsSameOrReadOn Gives o i now) (sym found) h

  pub end_absent : {F : Type 0} (r : Result (End B) F) (bodies : Bodies) (i : I) → is ≡ opening.NotFound → IfOk r (λ end. end ≡ NotFound) → IfOk r (IsGivenEndAt Gives is bodies i i)
  end_absent r bodies i found h = subst (λ (o : Opening). IfOk r (IsGivenEndAt Gives o bodies i i)) (sym found) (ok_as r (λ end. end ≡ NotFound) (IsGivenEndAt Gives opening.NotFound bodies i i) (λ end e. (e, refl)) h)

  pub end_unread : {F : Type 0} (r : Result (End B) F) (bodies : Bodies) (i : I) → is ≡ opening.Failed → IfOk r (λ end. end ≡ Unread) → IfOk r (IsGivenEndAt Gives is bodies i i)
  end_unread r bodies i found h = subst (λ (o : Opening). IfOk r (IsGivenEndAt Gives o bodies i i)) (sym found) (ok_as r (λ end. end ≡ Unread) (IsGivenEndAt Gives opening.Failed bodies i i) (λ end e. (e, refl)) h)
