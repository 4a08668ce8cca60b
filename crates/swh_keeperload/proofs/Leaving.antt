-- What a walk leaves of a keeper.
use Rattle.std.proofs.Common.{◌≡◌, inl, inr, ℕ, ◌+◌, ◌≤◌, true, Some, None, List, [], ◌++◌, length, refl, sym, ap, ◌∙◌, subst, arith}
use Rattle.std.proofs.lemmas.Option.{none-some}
use Rattle.swh_base.specs.declared.kind.Kind.{Kind}
use Rattle.swh_base.specs.declared.visit.Status.{Status}
use Rattle.swh_base.specs.declared.visit.Which.{Which}
use Rattle.swh_outside.specs.Faults.{Rose}
use Rattle.swh_outside.specs.Views.{Disks}
use Rattle.swh_segment.specs.Makes.{ADiskFailed}
use Rattle.swh_segment.specs.Moments.{BreaksAtEvent}
use Rattle.swh_model.specs.declared.event.Event.{Event}
use Rattle.swh_model.specs.declared.event.Wish.{Wish}
use Rattle.swh_model.specs.declared.event.No.TheVariants as cause
use Rattle.swh_model.specs.Judge.{FilePasses, IsCause, event_of}
use Rattle.swh_model.specs.Step.{May, replay}
use Rattle.swh_keeper.specs.Calls.{kept_files, MakesCallsOf}
use Rattle.swh_keeper.specs.Kept.{Kept, RefusesPlan}
use Rattle.swh_keeper.specs.declared.fault.Refusal as kept
use Rattle.swh_keeper.specs.declared.fault.Refusal.TheVariants as refusal
use Rattle.swh_ingest.specs.declared.refusal.Refusal.{Refusal}
use Rattle.swh_ingest.specs.declared.stop.Stop.{Stop}
use Rattle.swh_ingest.specs.declared.stop.Stop.TheVariants as why
use Rattle.swh_ingest.specs.Stopping.{IsWhyOf}
use Rattle.swh_ingest.specs.Walking.{IsReadyFor, StopsNow}
use Rattle.swh_keeperload.specs.Alone.{event_for, IsEventFor, AddsOn, FailsOn, alone_protocol}
use Rattle.swh_keeperload.specs.Leaving.{StopsFor}
use Rattle.swh_keeperload.specs.Refusing.{destination_refusal}
use Rattle.swh_keeperload.proofs.Applying.{refused_same}
use Rattle.swh_keeperload.proofs.Calls.{same_calls, breaks_as, of_further}

rose_further : (a b c : ℕ) → a ≤ b → Rose b c → Rose a c
rose_further a b c h r = omega (arith, h, r)

either_further : (a b c x y z : ℕ) → a ≤ b → x ≤ y → ADiskFailed b c y z → ADiskFailed a c x z
either_further a b c x y z h k (inl r) = inl (rose_further a b c h r)
either_further a b c x y z h k (inr r) = inr (rose_further x y z k r)

module _ (id : Kind → List ℕ → List ℕ) (by : ℕ) where
  -- What is known of a wish that was asked for: its event is one that was tried, and may happen; it is refused at a limit for
  -- a full file alone, and never because its visit ended.
  pub record IsSure (Q : Event → Type 0) (h : List Event) (wish : Wish) : Type 0 where
    pub tried : Q (event_for h by wish)
    pub may : May id (replay h) (event_for h by wish)
    pub full : (which : Which) (number : ℕ) → IsCause h by wish (cause.Limit which number) → FilePasses h (event_of (replay h) wish) which number
    pub unended : (status : Status) → IsCause h by wish (cause.Ended status) → ⊥

-- It was stopped at an event that was tried, and added nothing.
pub record StopsAt {D : Type 0} (id : Kind → List ℕ → List ℕ) (disks : Disks D) (IsTried : Event → Type 0) (old new : Kept D) (stop : Stop) : Type 0 where
  pub same : new.history ≡ old.history
  pub store_later : disks.faults old.store ≤ disks.faults new.store
  pub ledger_later : disks.faults old.ledger ≤ disks.faults new.ledger
  pub calls : disks.tells → MakesCallsOf id disks.file IsTried [] old new
  pub stops : StopsFor id disks.faults IsTried old new stop

module _ {D : Type 0} (id : Kind → List ℕ → List ℕ) (disks : Disks D) (by : ℕ) where
  -- the calls of events that were added
  pub added_calls : (own : List Event) (Q : Event → Type 0) (a b : Kept D) → AddsOn id disks own a b → disks.tells → MakesCallsOf id disks.file Q own a b
  added_calls own Q a b h told = record {
    made = λ same. h.calls told;
    broken = λ none n some. absurd (none-some n (sym h.unwounded ∙ some));
  }

  -- why it stops at a refusal
  stops_at : (Q : Event → Type 0) (wish : Wish) (a b : Kept D) (r : kept.Refusal) (stop : Stop) → (a.wounded ≡ None → IsSure id by Q a.history wish) → RefusesPlan a by wish b r → IsWhyOf (destination_refusal r) stop
      → (r ≡ refusal.DiskFault → ADiskFailed (disks.faults a.store) (disks.faults b.store) (disks.faults a.ledger) (disks.faults b.ledger)) → StopsFor id disks.faults Q a b stop
  stops_at Q wish a b (refusal.Wounded first) stop sure h is rose = subst (StopsFor id disks.faults Q a b) (sym is) (record { first = first; wounded = h.0; same = h.1 })
  stops_at Q wish a b (refusal.Limit which number) stop sure h is rose =
      let s = sure h.unwounded in
      subst (StopsFor id disks.faults Q a b) (sym is) (record {
        before_it = h.unwounded;
        unwounded = ap (λ (k : Kept D). k.wounded) h.same ∙ h.unwounded;
        event = event_for a.history by wish;
        tried = s.tried;
        may = subst (λ (k : Kept D). May id (replay k.history) (event_for a.history by wish)) (sym h.same) s.may;
        passes = subst (λ (k : Kept D). FilePasses k.history (event_of (replay a.history) wish) which number) (sym h.same) (s.full which number h.verdict.0);
      })
  stops_at Q wish a b refusal.DiskFault stop sure h is rose =
      subst (StopsFor id disks.faults Q a b) (sym is) (record {
        before_it = h.before_it;
        wounded = h.wounded ∙ ap (λ (t : List Event). Some (length t + 1)) (sym h.history);
        rose = rose refl;
      })
  stops_at Q wish a b (refusal.Memory stands) stop sure h is rose = subst (StopsFor id disks.faults Q a b) (sym is) (ap (λ (k : Kept D). k.wounded) h.1)
  stops_at Q wish a b (refusal.Ended status) stop sure h is rose = absurd ((sure h.unwounded).unended status h.verdict.0)
  stops_at Q wish a b (refusal.NoVisit have) stop sure h is rose = absurd is
  stops_at Q wish a b (refusal.NotYours other) stop sure h is rose = absurd is
  stops_at Q wish a b (refusal.NoSnapshot name) stop sure h is rose = absurd is
  stops_at Q wish a b (refusal.NotClosed parent child) stop sure h is rose = absurd is
  stops_at Q wish a b (refusal.Collision name) stop sure h is rose = absurd is

  -- the calls of an event that was refused
  refused_calls : (Q : Event → Type 0) (wish : Wish) (a b : Kept D) (r : kept.Refusal) → (a.wounded ≡ None → IsSure id by Q a.history wish) → RefusesPlan a by wish b r
      → (r ≡ refusal.DiskFault → BreaksAtEvent id (IsEventFor a.history by wish) a.history (kept_files disks.file a) (kept_files disks.file b)) → MakesCallsOf id disks.file Q [] a b
  refused_calls Q wish a b (refusal.Wounded first) sure h broken = same_calls id disks.file Q a b h.1
  refused_calls Q wish a b (refusal.Limit which number) sure h broken = same_calls id disks.file Q a b h.same
  refused_calls Q wish a b refusal.DiskFault sure h broken = record {
    made = λ same. absurd (none-some (length a.history + 1) (sym (same ∙ h.before_it) ∙ h.wounded));
    broken = λ none n some. breaks_as id disks.file (IsEventFor a.history by wish) Q a.history b.history (kept_files disks.file a) (kept_files disks.file a) (kept_files disks.file b)
        (λ e is. subst Q (sym is) (sure h.before_it).tried) h.history refl (broken refl);
  }
  refused_calls Q wish a b (refusal.Memory stands) sure h broken = same_calls id disks.file Q a b h.1
  refused_calls Q wish a b (refusal.NoVisit have) sure h broken = same_calls id disks.file Q a b h.same
  refused_calls Q wish a b (refusal.NotYours other) sure h broken = same_calls id disks.file Q a b h.same
  refused_calls Q wish a b (refusal.Ended status) sure h broken = same_calls id disks.file Q a b h.same
  refused_calls Q wish a b (refusal.NoSnapshot name) sure h broken = same_calls id disks.file Q a b h.same
  refused_calls Q wish a b (refusal.NotClosed parent child) sure h broken = same_calls id disks.file Q a b h.same
  refused_calls Q wish a b (refusal.Collision name) sure h broken = same_calls id disks.file Q a b h.same

  -- a wish that was refused
  stops_refused : (Q : Event → Type 0) (wish : Wish) (a b : Kept D) (r : Refusal) (stop : Stop) → (a.wounded ≡ None → IsSure id by Q a.history wish) → IsWhyOf r stop → FailsOn id disks by wish r a b → StopsAt id disks Q a b stop
  stops_refused Q wish a b r stop sure is h = record {
    same = refused_same id disks by wish a b h.refused h.refuses;
    store_later = h.store_later;
    ledger_later = h.ledger_later;
    calls = λ told. refused_calls Q wish a b h.refused sure h.refuses (h.broken told);
    stops = stops_at Q wish a b h.refused stop sure h.refuses (subst (λ (x : Refusal). IsWhyOf x stop) h.is is) h.cause;
  }

  -- nothing, for want of memory
  stops_memory : (Q : Event → Type 0) (a b : Kept D) → b ≡ a → StopsAt id disks Q a b why.Memory
  stops_memory Q a b same = record {
    same = ap (λ (k : Kept D). k.history) same;
    store_later = let e = ap (λ (k : Kept D). disks.faults k.store) same in omega (arith, e);
    ledger_later = let e = ap (λ (k : Kept D). disks.faults k.ledger) same in omega (arith, e);
    calls = λ told. same_calls id disks.file Q a b same;
    stops = ap (λ (k : Kept D). k.wounded) same;
  }

  -- what stops at once
  pub stops_now : (Q : Event → Type 0) (IsTried : Wish → Type 0) (a b : Kept D) (stop : Stop) → ((wish : Wish) → IsTried wish → IsReadyFor id true (replay a.history).bodies wish → IsSure id by Q a.history wish) → StopsNow id (alone_protocol id disks by) IsTried a b stop → StopsAt id disks Q a b stop
  stops_now Q IsTried a b stop sure (inl (is, same)) = subst (StopsAt id disks Q a b) (sym is) (stops_memory Q a b same)
  stops_now Q IsTried a b stop sure (inr h) = stops_refused Q h.wish a b h.refusal stop (λ _. sure h.wish h.tried h.ready) h.is_why h.refuses.fails

  -- why it stops, after other events
  pub stops_then : (Q : Event → Type 0) (a m b : Kept D) (stop : Stop) → a.wounded ≡ None → m.wounded ≡ None → disks.faults a.store ≤ disks.faults m.store → disks.faults a.ledger ≤ disks.faults m.ledger → StopsFor id disks.faults Q m b stop → StopsFor id disks.faults Q a b stop
  stops_then Q a m b (why.Ended status) old mid store ledger s = s
  stops_then Q a m b why.DiskFault old mid store ledger s =
      record { before_it = old; wounded = s.wounded; rose = either_further (disks.faults a.store) (disks.faults m.store) (disks.faults b.store) (disks.faults a.ledger) (disks.faults m.ledger) (disks.faults b.ledger) store ledger s.rose }
  stops_then Q a m b why.Wounded old mid store ledger s = absurd (none-some s.first (sym mid ∙ s.wounded))
  stops_then Q a m b (why.Limit which number) old mid store ledger s = record { before_it = old; unwounded = s.unwounded; event = s.event; tried = s.tried; may = s.may; passes = s.passes }
  stops_then Q a m b why.Memory old mid store ledger s = s ∙ mid ∙ sym old

  -- the calls of events, and then of others
  pub calls_then : (Q : Event → Type 0) (xs ys : List Event) (a m b : Kept D) → AddsOn id disks xs a m → disks.tells → MakesCallsOf id disks.file Q ys m b → MakesCallsOf id disks.file Q (xs ++ ys) a b
  calls_then Q xs ys a m b h told k = of_further id disks.file Q Q Q xs ys a m b (λ e is. is) h.before_it h.unwounded h.behind (added_calls xs Q a m h told) k
