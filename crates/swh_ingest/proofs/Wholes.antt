-- An input whose first part is all of it.
use Rattle.std.proofs.Common.{◌≡◌, ◌⊎◌, inl, inr, ℕ, Result, Ok, Err, List, [], ◌∷◌, ◌++◌, refl, sym, ap, ◌∙◌, subst}
use Rattle.swh_base.specs.declared.kind.Kind.{Kind}
use Rattle.swh_base.specs.declared.entry.Entry.{Entry}
use Rattle.swh_dedup.specs.declared.objects.Objects.{Objects}
use Rattle.swh_ingest.specs.declared.parts.Next.{Next}
use Rattle.swh_ingest.specs.declared.parts.Next.TheVariants as next
use Rattle.swh_ingest.specs.Parts.{objects_in, Gave, GaveSoFar, GaveAll, Broke, HadNoMemory, IsReadOn, IsWhole, MayHaveGiven, ReachesAll}

module _ {I N B E : Type 0} (id : Kind → List ℕ → List ℕ) (Gives : I → Result (Next N B) E → I → Type 0)
    (whole : (i now : I) (x : Next N B) → Gives i (Ok x) now → IsWhole id x) (i : I) where
  -- nothing comes before it
  nothing_before : (parts : List (List Entry)) (mid : I) → Gave Gives parts i mid → (parts ≡ []) × (mid ≡ i)
  nothing_before [] mid g = (refl, g)
  nothing_before (part ∷ parts) mid g = absurd (whole i g.0 (next.Part g.1.objects) g.1.gives)

  first_none : (front : List Entry) (mid : I) → GaveSoFar Gives i front mid → front ≡ []
  first_none front mid h = h.are ∙ ap objects_in (nothing_before h.parts mid h.gave).0

  first_same : (front : List Entry) (mid : I) → GaveSoFar Gives i front mid → mid ≡ i
  first_same front mid h = (nothing_before h.parts mid h.gave).1

  -- These objects were given at once, with this snapshot.
  pub record GaveAtOnce (objects : List Entry) (snapshot : List ℕ) (now : I) : Type 0 where
    pub made : Objects N
    pub gives : Gives i (Ok (next.Last made)) now
    pub are : objects ≡ made.objects.items
    pub root : snapshot ≡ made.snapshot

  pub all_at_once : (objects : List Entry) (snapshot : List ℕ) (now : I) → GaveAll Gives i objects snapshot now → GaveAtOnce objects snapshot now
  all_at_once objects snapshot now h = record {
    made = h.last;
    gives = subst (λ (j : I). Gives j (Ok (next.Last h.last)) now) (first_same h.front h.mid h.so_far) h.gives;
    are = h.are ∙ ap (λ (t : List Entry). t ++ h.last.objects.items) (first_none h.front h.mid h.so_far);
    root = h.root;
  }

  pub given_at_once : (objects : List Entry) (now : I) → MayHaveGiven Gives i objects now → (snapshot : List ℕ) × GaveAtOnce objects snapshot now
  given_at_once objects now (inl some) = absurd (whole some.mid now (next.Part some.part) some.gives)
  given_at_once objects now (inr all) = (all.0, all_at_once objects all.0 now all.1)

  pub broke_at_once : (b : B) (now : I) → Broke Gives i b now → Gives i (Ok (next.Bad b)) now
  broke_at_once b now h = subst (λ (j : I). Gives j (Ok (next.Bad b)) now) (first_same h.front h.mid h.so_far) h.gives

  -- there was no memory to read it
  pub none_at_once : (now : I) → (h : HadNoMemory Gives i now) → Gives i (Err h.fault) now
  none_at_once now h = subst (λ (j : I). Gives j (Err h.fault) now) (first_same h.front h.mid h.so_far) h.gives

  -- It is read once at most.
  read_behind : (mid now : I) → mid ≡ i → (now ≡ mid) ⊎ ((found : Result (Next N B) E) × Gives mid found now) → (now ≡ i) ⊎ ((found : Result (Next N B) E) × Gives i found now)
  read_behind mid now same (inl still) = inl (still ∙ same)
  read_behind mid now same (inr read) = inr (read.0, subst (λ (j : I). Gives j read.0 now) same read.1)

  pub read_at_once : (now : I) → IsReadOn Gives i now → (now ≡ i) ⊎ ((found : Result (Next N B) E) × Gives i found now)
  read_at_once now r = read_behind r.mid now (first_same r.front r.mid r.so_far) r.rest

  -- All of it has all that is reached from its snapshot.
  pub reaches_at_once : (objects : List Entry) (snapshot : List ℕ) (now : I) → GaveAll Gives i objects snapshot now → ReachesAll id objects snapshot
  reaches_at_once objects snapshot now h =
      let o = all_at_once objects snapshot now h in
      let w = whole i now (next.Last o.made) o.gives in
      subst (λ (s : List ℕ). ReachesAll id objects s) (sym o.root) (subst (λ (es : List Entry). ReachesAll id es o.made.snapshot) (sym o.are) (record { whole = w.objects; root = w.snapshot }))
