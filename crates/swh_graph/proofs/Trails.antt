-- A trail of steps, of which one at most leads on from each place: where it comes to a place again, or can go no further,
-- what is reached from its start is known.
use Rattle.std.proofs.Common.{◌≡◌, ◌⊎◌, inl, inr, [], refl, sym, subst}
use Rattle.swh_base.specs.Reach.{Reaches}
use Rattle.swh_graph.proofs.Lists.{trapped, walks_on}

module _ {X : Type 0} (Step : X → X → Type 0) where
  -- From the first place a walk leads here, and each place that was seen leads to this or to one that was seen.
  pub record IsTrail (Seen : X → Type 0) (start here : X) : Type 0 where
    pub leads : Reaches Step start here
    pub begins : (start ≡ here) ⊎ Seen start
    pub next : (n : X) → Seen n → (other : X) × (Step n other × ((other ≡ here) ⊎ Seen other))

  pub trail_starts : (Seen : X → Type 0) (start : X) → ((n : X) → Seen n → ⊥) → IsTrail Seen start start
  trail_starts Seen start none = record { leads = ([], refl); begins = inl refl; next = λ n seen. absurd (none n seen) }

  module _ (Seen SeenNow : X → Type 0) (start here next : X) (t : IsTrail Seen start here) (step : Step here next)
      (stays : (n : X) → Seen n → SeenNow n) (this : SeenNow here) (only : (n : X) → SeenNow n → Seen n ⊎ (here ≡ n)) where
    now : (n : X) → (n ≡ here) ⊎ Seen n → SeenNow n
    now n (inl is) = subst SeenNow (sym is) this
    now n (inr seen) = stays n seen

    leads_now : (n : X) → Seen n ⊎ (here ≡ n) → (other : X) × (Step n other × ((other ≡ next) ⊎ SeenNow other))
    leads_now n (inl seen) = let on = t.next n seen in (on.0, (on.1.0, inr (now on.0 on.1.1)))
    leads_now n (inr is) = (next, (subst (λ (x : X). Step x next) is step, inl refl))

    pub trail_goes_on : IsTrail SeenNow start next
    trail_goes_on = record {
      leads = walks_on Step t.leads.0 start here next t.leads.1 step;
      begins = inr (now start t.begins);
      next = λ n seen. leads_now n (only n seen);
    }

  module _ (one : (a b c : X) → Step a b → Step a c → b ≡ c) (Seen : X → Type 0) (start here : X) (t : IsTrail Seen start here) where
    seen_again : Seen here → (n : X) → (n ≡ here) ⊎ Seen n → Seen n
    seen_again seen n (inl is) = subst Seen (sym is) seen
    seen_again seen n (inr there) = there

    -- where this place was seen, each that is reached from the start was seen
    pub trail_closes : Seen here → (x : X) → Reaches Step start x → Seen x
    trail_closes seen x r =
        trapped Step Seen (λ a b at step. let on = t.next a at in subst Seen (one a on.0 b on.1.0 step) (seen_again seen on.0 on.1.1)) r.0 start x (seen_again seen start t.begins) r.1

    on_from : ((x : X) → Step here x → ⊥) → (a b : X) → (a ≡ here) ⊎ Seen a → Step a b → (b ≡ here) ⊎ Seen b
    on_from stops a b (inl is) step = absurd (stops b (subst (λ (n : X). Step n b) is step))
    on_from stops a b (inr seen) step = let on = t.next a seen in subst (λ (n : X). (n ≡ here) ⊎ Seen n) (one a on.0 b on.1.0 step) on.1.1

    -- where nothing leads on from this place, each that is reached from the start is this, or was seen
    pub trail_stops : ((x : X) → Step here x → ⊥) → (x : X) → Reaches Step start x → (x ≡ here) ⊎ Seen x
    trail_stops stops x r = trapped Step (λ (n : X). (n ≡ here) ⊎ Seen n) (on_from stops) r.0 start x t.begins r.1
