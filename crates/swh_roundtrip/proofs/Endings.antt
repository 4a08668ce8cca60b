-- What the commands behind the objects make of the tips: branches that are set, and the branch of all commits taken away.
use Rattle.std.proofs.Common.{◌≡◌, ◌⊎◌, inl, inr, ℕ, List, [], ◌∷◌, ◌++◌, Result, Ok, Contains, refl, ap, ◌∙◌, subst}
use Rattle.std.specs.Ordering.{nat_cmp}
use Rattle.std.specs.Cmp.Lexicographic.{slice_cmp}
use Rattle.std.specs.BTreeMap.{insert_entry, is_at}
use Rattle.std.specs.Map.{remove_entry}
use Rattle.std.specs.FinMap.{nat_cmp-IsAntisymmetric, slice_cmp-IsAntisymmetric}
use Rattle.std.proofs.lemmas.Cmp.{nat_list_cmp_total}
use Rattle.std.proofs.lemmas.List.{append-nil}
use Rattle.swh_base.specs.declared.kind.Kind.{Kind}
use Rattle.swh_base.specs.declared.kind.Kind.TheVariants.{Revision as RevisionKind}
use Rattle.swh_base.specs.declared.name.Name.{Name}
use Rattle.swh_model.specs.Archive.{Bodies}
use Rattle.swh_model.specs.Meaning.{Made}
use Rattle.swh_graph.proofs.Lists.{in_first, in_rest}
use Rattle.swh_forest.specs.PathMap.{PathMap}
use Rattle.swh_fastwrite.specs.Text.{cook_branch}
use Rattle.swh_fastcook.specs.Stream.{LeavesBranch}
use Rattle.swh_fastgrammar.specs.declared.command.Command.{Command}
use Rattle.swh_fastgrammar.specs.declared.command.Command.TheVariants.{Reset}
use Rattle.swh_fastgrammar.specs.declared.command.Start.TheVariants.{Of}
use Rattle.swh_fastmeaning.specs.Aims.{Missing, with_tip, without_tip}
use Rattle.swh_fastmeaning.specs.Commands.{Target, Making, Makes, no_making, step, steps, then, only, ◌>>=◌}
use Rattle.swh_roundtrip.specs.Commands.{AreTips, AreLastCommands}
use Rattle.swh_roundtrip.specs.Made.{LeadsTo as Knows, IsHeldMade}
use Rattle.swh_roundtrip.proofs.AimMaps.{insert-sorted, remove-sorted}
use Rattle.swh_roundtrip.proofs.Tipping.{Tips, TipsAre}
use Rattle.swh_roundtrip.proofs.CommitSteps.{commit_by}
use Rattle.swh_roundtrip.proofs.Steps.{AreSorted, Carries, knows_with, steps_append}

-- These branches were set, one after another, each to its object.
abbrev pub SetsAll : Tips → List (List ℕ × Name) → Tips → Type 0
SetsAll old [] new = new ≡ old
SetsAll old (tip ∷ tips) new = (aim : Target) × (aim.name ≡ tip.1) × SetsAll (insert_entry (slice_cmp nat_cmp) old tip.0 aim) tips new

-- The same objects and directories were made.
pub record MakesNoMore (old new : Making) : Type 0 where
  pub objects : (o : Made) → Contains new.objects o → Contains old.objects o
  pub trees : (t : PathMap) → Contains new.trees t → Contains old.trees t

pub makes_same : (id : Kind → List ℕ → List ℕ) (old new : Making) → MakesNoMore old new → (o : Made) → Makes id new o → Makes id old o
makes_same id old new h o (inl there) = inl (h.objects o there)
makes_same id old new h o (inr (t, there, is)) = inr (t, h.trees t there, is)

no_more : (id : Kind → List ℕ → List ℕ) (m : Making) (n : Making) → n.objects ≡ m.objects ++ [] → n.trees ≡ m.trees ++ [] → MakesNoMore m n
no_more id m n p q = record {
  objects = λ o there. subst (λ (l : List Made). Contains l o) (p ∙ append-nil m.objects) there;
  trees = λ t there. subst (λ (l : List PathMap). Contains l t) (q ∙ append-nil m.trees) there;
}

then_no_more : (a b c : Making) → MakesNoMore a b → MakesNoMore b c → MakesNoMore a c
then_no_more a b c h k = record { objects = λ o there. h.objects o (k.objects o there); trees = λ t there. h.trees t (k.trees t there) }

module _ (id : Kind → List ℕ → List ℕ) (order : List Name) where
  pub record Resets (m : Making) (tips : List (List ℕ × Name)) (commands : List Command) : Type 0 where
    pub making : Making
    pub makes : steps id m commands ≡ Ok making
    pub no_more : MakesNoMore m making
    pub sets : SetsAll m.aims.tips tips making.aims.tips
    pub sorted : AreSorted making.aims.tips

  pub resets_made : (tips : List (List ℕ × Name)) (m : Making) (commands : List Command) → AreSorted m.aims.tips → AreTips order tips commands → ((tip : List ℕ × Name) → Contains tips tip → Knows order m.aims tip.1) → ((tip : List ℕ × Name) → Contains tips tip → tip.1.kind ≡ RevisionKind) → Resets m tips commands
  resets_made [] m commands s is known kinds = record { making = m; makes = ap (steps id m) is; no_more = record { objects = λ o there. there; trees = λ t there. there }; sets = refl; sorted = s }
  resets_made (tip ∷ tips) m commands s (a, more, is, named, rest) known kinds =
      let k = known tip (in_first tip tips) in
      let next : Making = then id m (only id (with_tip tip.0 k.aim m.aims)) in
      let found = commit_by order m.aims a tip.1 named (kinds tip (in_first tip tips)) k in
      let later : Result Target Missing → Result Making Missing = λ x. x >>= λ aim. Ok (only id (with_tip tip.0 aim m.aims)) in
      let step_is : step id m.aims (Reset tip.0 (Of a)) ≡ Ok (only id (with_tip tip.0 k.aim m.aims)) = ap later found in
      let r = resets_made tips next more (insert-sorted (slice_cmp nat_cmp) nat_list_cmp_total (slice_cmp-IsAntisymmetric nat_cmp-IsAntisymmetric) m.aims.tips tip.0 k.aim s) rest
      (λ t there. knows_with order m.aims (insert_entry (slice_cmp nat_cmp) m.aims.tips tip.0 k.aim) t.1 (known t (in_rest tip tips t there))) (λ t there. kinds t (in_rest tip tips t there)) in
      record {
        making = r.making;
        makes = ap (steps id m) is ∙ ap (λ (x : Result Making Missing). x >>= λ y. steps id (then id m y) more) step_is ∙ r.makes;
        no_more = then_no_more m next r.making (no_more id m next refl refl) r.no_more;
        sets = (k.aim, k.named, r.sets);
        sorted = r.sorted;
      }

-- The branch of all commits was taken away, or left as it was.
abbrev pub Leaves : Type 0 → Tips → Tips → Type 0
Leaves leaves old new = (leaves × (new ≡ remove_entry (is_at (slice_cmp nat_cmp cook_branch)) old)) ⊎ ((leaves → ⊥) × (new ≡ old))

module _ (id : Kind → List ℕ → List ℕ) (bodies : Bodies) (order : List Name) (root : Name) where
  record Lasts (m : Making) (commands : List Command) : Type 0 where
    making : Making
    makes : steps id m commands ≡ Ok making
    no_more : MakesNoMore m making
    leaves : Leaves (LeavesBranch bodies order root) m.aims.tips making.aims.tips
    sorted : AreSorted making.aims.tips

  last_made : (m : Making) (commands : List Command) → AreSorted m.aims.tips → AreLastCommands bodies order root commands → Lasts m commands
  last_made m commands s (inl (leaves, is)) = record {
    making = then id m (only id (without_tip cook_branch m.aims));
    makes = ap (steps id m) is;
    no_more = no_more id m (then id m (only id (without_tip cook_branch m.aims))) refl refl;
    leaves = inl (leaves, refl);
    sorted = remove-sorted (slice_cmp nat_cmp) nat_list_cmp_total (slice_cmp-IsAntisymmetric nat_cmp-IsAntisymmetric) m.aims.tips cook_branch s;
  }
  last_made m commands s (inr (stays, is)) = record { making = m; makes = ap (steps id m) is; no_more = record { objects = λ o there. there; trees = λ t there. there }; leaves = inr (stays, refl); sorted = s }

  -- What all commands make.
  pub record Finishes (tips : List (List ℕ × Name)) (commands : List Command) : Type 0 where
    pub making : Making
    pub makes : steps id no_making commands ≡ Ok making
    pub held : (o : Made) → Makes id making o → IsHeldMade bodies o
    pub base : Tips
    pub is_base : TipsAre bodies order base
    pub set : Tips
    pub sets : SetsAll base tips set
    pub sorted_set : AreSorted set
    pub leaves : Leaves (LeavesBranch bodies order root) set making.aims.tips
    pub sorted : AreSorted making.aims.tips

  pub finishes : (objects resets last : List Command) (tips : List (List ℕ × Name)) (m : Making) → steps id no_making objects ≡ Ok m → Carries id bodies order order m → ((o : Made) → Makes id m o → IsHeldMade bodies o)
      → AreTips order tips resets → ((tip : List ℕ × Name) → Contains tips tip → Knows order m.aims tip.1) → ((tip : List ℕ × Name) → Contains tips tip → tip.1.kind ≡ RevisionKind) → AreLastCommands bodies order root last → Finishes tips (objects ++ (resets ++ last))
  finishes objects resets last tips m makes c held are known kinds are_last =
      let r = resets_made id order tips m resets c.sorted are known kinds in
      let l = last_made r.making last r.sorted are_last in
      record {
        making = l.making;
        makes = steps_append id bodies order no_making objects (resets ++ last) m makes ∙ steps_append id bodies order m resets last r.making r.makes ∙ l.makes;
        held = λ o h. held o (makes_same id m r.making r.no_more o (makes_same id r.making l.making l.no_more o h));
        base = m.aims.tips;
        is_base = c.tips;
        set = r.making.aims.tips;
        sets = r.sets;
        sorted_set = r.sorted;
        leaves = l.leaves;
        sorted = l.sorted;
      }
