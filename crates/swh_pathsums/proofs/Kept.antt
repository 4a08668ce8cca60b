-- The sums of directories, as more come.
use Rattle.std.proofs.Common.{◌≡◌, ◌⊎◌, inl, inr, ℕ, ◌<◌, ◌+◌, Bool, true, false, cond, Option, Some, None, List, [], ◌∷◌, ◌++◌, length, take, drop, get_or, map, refl, sym, add-one, drop-cons, ap, ◌∙◌, subst}
use Rattle.std.specs.Prelude.{Contains}
use Rattle.std.specs.declared.cmp.Ordering.{Ordering}
use Rattle.std.specs.BTreeMap.{BTreeMap, get, is_at}
use Rattle.std.proofs.lemmas.List.{take_more, take-append-drop}
use Rattle.std.proofs.lemmas.List.Elements.{Contains-push_cases}
use Rattle.std.specs.Option.{option_map}
use Rattle.swh_base.specs.declared.kind.Kind.{Kind}
use Rattle.swh_base.specs.declared.kind.Kind.TheVariants.{Directory}
use Rattle.swh_base.specs.Reach.{IsChildIn}
use Rattle.swh_postorder.specs.Cycle.{ArePreceded}
use Rattle.swh_base.specs.declared.name.Name.{Name}
use Rattle.std.specs.Ordering.{is_eq}
use Rattle.std.specs.Cmp.{Equal-is, tied_itself}
use Rattle.swh_base.specs.Name.{name_cmp, name_cmp_total, name_cmp-IsAntisymmetric}
use Rattle.swh_base.specs.contracts.name.NameOrd.TheImpl.{cmp-value}
use Rattle.swh_model.specs.Archive.{Bodies}
use Rattle.swh_closure.proofs.Order.{order_is}
use Rattle.swh_graph.specs.Path.{directory_name}
use Rattle.swh_base.specs.Directory.{DirectoryEntry}
use Rattle.swh_base.proofs.Elementary.{none_in}
use Rattle.swh_pathwalk.specs.Tree.{Row, row_at, IsPathWalk}
use Rattle.swh_pathsums.specs.declared.weight.Weight.{Weight}
use Rattle.swh_pathsums.specs.declared.tally.Tally.{Tally}
use Rattle.swh_pathsums.specs.Sums.{AreLengths}
use Rattle.swh_pathsums.specs.Tallies.{Tallies, IsTallyAt, HasTally, HaveTallies, HaveKids, GetsTally, GetsTallyOf, total_of, row_behind, AreEntryRows}
use Rattle.swh_pathsums.proofs.RowSums.{length_is}

-- what a map has, by the names' own order
pub at_name : (sums : BTreeMap Name Tally) (id : List ℕ) (o : Option Tally) → o ≡ get cmp-value.it sums (directory_name id) → o ≡ get name_cmp sums (directory_name id)
at_name sums id o is = is ∙ ap (λ (R : Name → Name → Ordering). get R sums (directory_name id)) order_is

is_itself : (n : Name) → is_at (cmp-value.it n) n ≡ true
is_itself n = ap (λ (R : Name → Name → Ordering). is_eq (R n n)) order_is ∙ ap is_eq (tied_itself name_cmp_total n)

is_other : (n m : Name) → is_at (cmp-value.it n) m ≡ true → n ≡ m
is_other n m t = name_cmp-IsAntisymmetric n m ((Equal-is (name_cmp n m)).0 (sym (ap (λ (R : Name → Name → Ordering). is_eq (R n m)) order_is) ∙ t))

module _ (bodies : Bodies) (weigh : DirectoryEntry → Weight) where
  -- one directory more has its sums
  pub gets : (old new : BTreeMap Name Tally) (id : List ℕ) (t : Tally) → ((rows : List Row) → IsPathWalk bodies (directory_name id) rows → Tallies weigh rows t)
      → ((m : Name) → get cmp-value.it new m ≡ cond (is_at (cmp-value.it (directory_name id)) m) (Some t) (get cmp-value.it old m)) → GetsTally bodies weigh old id new
  gets old new id t are updates =
      record {
        has = record { tally = t; there = here; is = are };
        stay = λ other was. by_case other was (is_at (cmp-value.it (directory_name id)) (directory_name other)) refl;
      }
    where
      by_name : (m : Name) (b : Bool) → is_at (cmp-value.it (directory_name id)) m ≡ b → get name_cmp new m ≡ cond b (Some t) (get name_cmp old m)
      by_name m b e =
          ap (λ (R : Name → Name → Ordering). get R new m) (sym order_is) ∙ updates m ∙ ap (λ (x : Bool). cond x (Some t) (get cmp-value.it old m)) e
          ∙ ap (λ (R : Name → Name → Ordering). cond b (Some t) (get R old m)) order_is

      here : IsTallyAt new id t
      here = by_name (directory_name id) true (is_itself (directory_name id))

      by_case : (other : List ℕ) → HasTally bodies weigh old other → (b : Bool) → is_at (cmp-value.it (directory_name id)) (directory_name other) ≡ b → HasTally bodies weigh new other
      by_case other was true e =
          let same : directory_name id ≡ directory_name other = is_other (directory_name id) (directory_name other) e in
          subst (λ (n : Name). HasTally bodies weigh new n.id) same (record { tally = t; there = here; is = are })
      by_case other was false e = record { tally = was.tally; there = by_name (directory_name other) false e ∙ was.there; is = was.is }

  -- all directories up to one name more
  pub more_have : (order : List Name) (i : ℕ) (none : Name) (old new : BTreeMap Name Tally) → i < length order → HaveTallies bodies weigh old (take i order) → GetsTallyOf bodies weigh old (get_or order i none) new → HaveTallies bodies weigh new (take (i + 1) order)
  more_have order i none old new less have gets id there =
      elim (Contains-push_cases (take i order) (get_or order i none) (directory_name id) (subst (λ (l : List Name). Contains l (directory_name id)) (take_more order i none less) there)) [
        | inl before ↦ gets.stay id (have id before)
        | inr same ↦ subst (HasTally bodies weigh new) (ap (λ (n : Name). n.id) same) (gets.has (ap (λ (n : Name). n.kind) same))
      ]

  pub none_have : (sums : BTreeMap Name Tally) → HaveTallies bodies weigh sums []
  none_have sums id there = absurd (none_in (directory_name id) there)

  cut_here : (order : List Name) (i : ℕ) (none : Name) → i < length order → order ≡ take i order ++ get_or order i none ∷ drop (i + 1) order
  cut_here order i none less = sym (take-append-drop i order) ∙ ap (λ (l : List Name). take i order ++ l) (rw (add-one, drop-cons order i none))

  -- the directories that are children of one in the order stand before it
  pub kids_have : (children_of : Name → Option (List Name)) (order : List Name) → ArePreceded children_of order → (i : ℕ) (none : Name) (sums : BTreeMap Name Tally) → i < length order → HaveTallies bodies weigh sums (take i order)
      → (get_or order i none).kind ≡ Directory → HaveKids bodies weigh children_of sums (get_or order i none).id
  kids_have children_of order preceded i none sums less have kind kid is_kid =
      let name = get_or order i none in
      let is : directory_name name.id ≡ name = ap (λ (k : Kind). record { kind = k; id = name.id }) (sym kind) in
      have kid
      (preceded (take i order) name (drop (i + 1) order) (cut_here order i none less) (directory_name kid) (subst (λ (n : Name). IsChildIn children_of n (directory_name kid)) is is_kid))

  -- the sums give the lengths
  pub lengths_are : (order : List Name) (sums : BTreeMap Name Tally) → HaveTallies bodies weigh sums order → AreLengths bodies weigh order (record { sums = sums })
  lengths_are order sums have id there =
      let has = have id there in
      record {
        found = total_of has.tally;
        there = ap (λ (o : Option Tally). option_map total_of o) has.there;
        is = λ rows walk. length_is weigh rows has.tally (has.is rows walk);
      }

  -- an entry that is no folder
  pub of_file : (e : DirectoryEntry) (own : Tally) → (e.mode ≡ 40000 → ⊥) → Tallies weigh (row_at [] e ∷ []) own → (rows : List Row) → AreEntryRows bodies e rows → Tallies weigh rows own
  of_file e own other is rows (inl (leaf, are)) = subst (λ (l : List Row). Tallies weigh l own) (sym are) is
  of_file e own other is rows (inr (inner, folder, walk, are)) = absurd (other folder)

  same_tally : (s t : Tally) → Some s ≡ Some t → s ≡ t
  same_tally s t e = cc

  -- a folder, whose directory has sums
  pub of_folder : (sums : BTreeMap Name Tally) (e : DirectoryEntry) (t all : Tally) → e.mode ≡ 40000 → IsTallyAt sums e.id t → HasTally bodies weigh sums e.id
      → ((inner : List Row) → Tallies weigh inner t → Tallies weigh (row_at [] e ∷ map (row_behind (e.name ++ 47 ∷ [])) inner) all) → (rows : List Row) → AreEntryRows bodies e rows → Tallies weigh rows all
  of_folder sums e t all folder at has on rows (inl (leaf, are)) = absurd (leaf folder)
  of_folder sums e t all folder at has on rows (inr (inner, also, walk, are)) =
      subst (λ (l : List Row). Tallies weigh l all) (sym are) (on inner (subst (Tallies weigh inner) (same_tally has.tally t (sym has.there ∙ at)) (has.is inner walk)))

-- the sums of a directory are those of its name
pub of_name : (bodies : Bodies) (weigh : DirectoryEntry → Weight) (old new : BTreeMap Name Tally) (name : Name) → GetsTally bodies weigh old name.id new → GetsTallyOf bodies weigh old name new
of_name bodies weigh old new name g = record { has = λ _. g.has; stay = g.stay }

pub there_as : (order : List Name) (name : Name) → name.kind ≡ Directory → Contains order name → Contains order (directory_name name.id)
there_as order name kind there = subst (λ (k : Kind). Contains order (record { kind = k; id = name.id })) kind there
