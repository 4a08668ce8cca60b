-- The end of a stream: it is one text.
use Rattle.std.proofs.Common.{◌≡◌, inl, inr, ℕ, Bool, true, false, Some, List, ◌++◌, refl, sym, ap, ◌∙◌, subst, codes}
use Rattle.std.specs.Prelude.{◌↔◌, IsTrue, Contains}
use Rattle.swh_base.specs.declared.kind.Kind.{Kind}
use Rattle.swh_base.specs.declared.kind.Kind.TheVariants.{Content, Directory, Revision as RevisionKind, Release as ReleaseKind, Snapshot}
use Rattle.swh_base.specs.declared.name.Name.{Name}
use Rattle.swh_base.specs.Snapshot.{SnapshotBranch, IsSnapshot}
use Rattle.swh_base.proofs.SnapshotLemmas.{one_snapshot}
use Rattle.swh_model.specs.Archive.{Bodies}
use Rattle.swh_graph.specs.Holding.{HoldsSnapshot}
use Rattle.swh_fastwrite.specs.Held.{AddsUp, Kept, kept, Goes}
use Rattle.swh_fastwrite.proofs.Pieces.{goes_both, front_behind, front_more, front_none}
use Rattle.swh_fastcook.specs.Ends.{HasRevision, LackCookBranch, end_or_none, main_tip, IsEnd}
use Rattle.swh_fastcook.specs.Stream.{tips_text, AreTipsOf, IsLast}
use Rattle.swh_fastcook.proofs.Texts.{pushed}

same_body : (a b : List ℕ) → Some a ≡ Some b → a ≡ b
same_body a b e = cc

-- a test that fails
pub not_so : (b : Bool) (P : Type 0) → IsTrue b ↔ P → b ≡ false → P → ⊥
not_so b P both fails p = let e : true ≡ false = sym (both.1 p) ∙ fails in cc

module _ (bodies : Bodies) (order : List Name) (root : Name) where
  same_branches : (bs cs : List SnapshotBranch) → HoldsSnapshot bodies root bs → HoldsSnapshot bodies root cs → bs ≡ cs
  same_branches bs cs a b = one_snapshot a.body bs cs a.is (subst (λ (t : List ℕ). IsSnapshot t cs) (same_body b.body a.body (sym b.held ∙ a.held)) b.is)

  one_tips_by : (kind : Kind) (a b : List ℕ) → AreTipsOf bodies order root kind a → AreTipsOf bodies order root kind b → a ≡ b
  one_tips_by Content a b h k = h ∙ sym k
  one_tips_by Directory a b h k = h ∙ sym k
  one_tips_by RevisionKind a b h k = h ∙ sym k
  one_tips_by ReleaseKind a b h k = h ∙ sym k
  one_tips_by Snapshot a b (bs, holds, is) (cs, also, it) = is ∙ ap (tips_text order) (same_branches bs cs holds also) ∙ sym it

  one_last : (a b : List ℕ) → IsLast bodies order root a → IsLast bodies order root b → a ≡ b
  one_last a b (inl (leaves, is)) (inl (also, it)) = is ∙ sym it
  one_last a b (inl (leaves, is)) (inr (none, it)) = absurd (none leaves)
  one_last a b (inr (none, is)) (inl (leaves, it)) = absurd (none leaves)
  one_last a b (inr (none, is)) (inr (also, it)) = is ∙ sym it

  pub one_end : (a b : List ℕ) → IsEnd bodies order root a → IsEnd bodies order root b → a ≡ b
  one_end a b h k =
      h.is ∙ ap (λ (t : List ℕ). t ++ (h.last ++ codes "done\n")) (one_tips_by root.kind h.tips k.tips h.are_tips k.are_tips)
      ∙ ap (λ (l : List ℕ). k.tips ++ (l ++ codes "done\n")) (one_last h.last k.last h.is_last k.is_last) ∙ sym k.is

  -- ---- a root that is no snapshot

  main_by : (kind : Kind) → (kind ≡ Snapshot → ⊥) → AreTipsOf bodies order root kind (main_tip order root kind)
  main_by Content other = refl
  main_by Directory other = refl
  main_by RevisionKind other = refl
  main_by ReleaseKind other = refl
  main_by Snapshot other = absurd (other refl)

  last_by : (leaves : Bool) → IsTrue leaves ↔ HasRevision order → (root.kind ≡ Snapshot → ⊥) → IsLast bodies order root (end_or_none leaves)
  last_by true (has, back) other =
      let h = has refl in
      inl (record { commit = h.commit; there = h.there; kind = h.kind; free = λ kind. absurd (other kind) }, refl)
  last_by false (has, back) other =
      inr (λ l. let e : false ≡ true = back (record { commit = l.commit; there = l.there; kind = l.kind }) in cc, refl)

  pub object_end : (leaves : Bool) → IsTrue leaves ↔ HasRevision order → (root.kind ≡ Snapshot → ⊥) → IsEnd bodies order root (main_tip order root root.kind ++ (end_or_none leaves ++ codes "done\n"))
  object_end leaves both other = record {
    tips = main_tip order root root.kind;
    are_tips = main_by root.kind other;
    last = end_or_none leaves;
    is_last = last_by leaves both other;
    is = refl;
  }

  -- ---- a snapshot

  module _ (kind : root.kind ≡ Snapshot) (branches : List SnapshotBranch) (holds : HoldsSnapshot bodies root branches) where
    last_of : (leaves : Bool) → IsTrue leaves ↔ (HasRevision order × LackCookBranch branches) → IsLast bodies order root (end_or_none leaves)
    last_of true (has, back) =
        let both = has refl in
        inl (
          record {
            commit = both.0.commit;
            there = both.0.there;
            kind = both.0.kind;
            free = λ _ others its b one. both.1 b (subst (λ (bs : List SnapshotBranch). Contains bs b) (same_branches others branches its holds) one);
          },
          refl,
        )
    last_of false (has, back) =
        inr (λ l. let e : false ≡ true = back (record { commit = l.commit; there = l.there; kind = l.kind }, l.free kind branches holds) in cc, refl)

    tips_of : AreTipsOf bodies order root root.kind (tips_text order branches)
    tips_of = subst (λ (k : Kind). AreTipsOf bodies order root k (tips_text order branches)) (sym kind) (branches, holds, refl)

    pub snapshot_end : (leaves : Bool) → IsTrue leaves ↔ (HasRevision order × LackCookBranch branches) → IsEnd bodies order root (tips_text order branches ++ (end_or_none leaves ++ codes "done\n"))
    snapshot_end leaves both = record {
      tips = tips_text order branches;
      are_tips = tips_of;
      last = end_or_none leaves;
      is_last = last_of leaves both;
      is = refl;
    }

    tips_are : (text : List ℕ) (end : IsEnd bodies order root text) → text ≡ tips_text order branches ++ (end.last ++ codes "done\n")
    tips_are text end = end.is ∙ ap (λ (t : List ℕ). t ++ (end.last ++ codes "done\n")) (one_tips_by root.kind end.tips (tips_text order branches) end.are_tips tips_of)

    module _ {T : Type 0} (takes front : T → List ℕ → T → Type 0) (sums : AddsUp takes front) (old : Kept T) where
      -- the tips were broken off
      pub tips_broke : (new : T) → front old.taker (old.held ++ tips_text order branches) new → (text : List ℕ) → IsEnd bodies order root text → front old.taker (old.held ++ text) new
      tips_broke new f text end =
          subst (λ (l : List ℕ). front old.taker (old.held ++ l) new) (sym (tips_are text end))
          (front_more takes front sums old new (tips_text order branches) (end.last ++ codes "done\n") f)

      -- the tips were written, and what is last was not
      pub last_broke : (mid : Kept T) → Goes takes front old (tips_text order branches) mid → (text : List ℕ) → IsEnd bodies order root text → front old.taker (old.held ++ text) mid.taker
      last_broke mid goes text end =
          subst (λ (l : List ℕ). front old.taker (old.held ++ l) mid.taker) (sym (tips_are text end))
          (front_behind takes front sums old mid mid.taker (tips_text order branches) (end.last ++ codes "done\n") goes (front_none takes front sums mid (end.last ++ codes "done\n")))

      pub end_done : (mid : Kept T) (more : List ℕ) (leaves : Bool) → Goes takes front old (tips_text order branches) mid → IsTrue leaves ↔ (HasRevision order × LackCookBranch branches) → more ≡ mid.held ++ (end_or_none leaves ++ codes "done\n")
          → (text : List ℕ) × IsEnd bodies order root text × Goes takes front old text (kept mid.taker more)
      end_done mid more leaves goes both is = (
        tips_text order branches ++ (end_or_none leaves ++ codes "done\n"),
        snapshot_end leaves both,
        goes_both takes front sums old mid (kept mid.taker more) (tips_text order branches) (end_or_none leaves ++ codes "done\n") goes
            (pushed takes front sums mid.taker mid.held (end_or_none leaves ++ codes "done\n") more is),
      )
