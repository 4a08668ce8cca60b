-- The snapshot of refs: its branches, and that all that is named is there.
use Rattle.std.specs.Prelude.{not, filter, Result, Ok, Err, IfOk, IfErr, decimal}
use Rattle.std.proofs.Common.{◌≡◌, ◌⊎◌, inl, inr, ℕ, ◌+◌, ◌≤◌, Bool, true, false, cond, Option, Some, None, List, [], ◌∷◌, ◌++◌, length, map, Contains, refl, sym, ap, ◌∙◌, subst, arith, append_assoc, length-append}
use Rattle.std.specs.Fmt.{digits}
use Rattle.std.specs.Global.{Vec}
use Rattle.std.specs.declared.cmp.Ordering.TheVariants.{Less}
use Rattle.std.specs.Ordering.{nat_cmp}
use Rattle.std.specs.Cmp.Lexicographic.{slice_cmp}
use Rattle.std.specs.List.{AllByRecursion, filter_map, cons_option}
use Rattle.std.specs.List.Sorted.{IsStrictlySortedBy}
use Rattle.std.specs.Option.{option_map}
use Rattle.swh_base.specs.declared.entry.Entry.{Entry}
use Rattle.swh_base.specs.declared.kind.Kind.{Kind}
use Rattle.swh_base.specs.declared.kind.Kind.TheVariants.{Snapshot}
use Rattle.swh_base.specs.declared.name.Name.{Name}
use Rattle.swh_base.specs.Limits.{body_limit}
use Rattle.swh_base.specs.Manifest.{AreChildren, IsWellFormed}
use Rattle.swh_base.specs.Name.{IsId}
use Rattle.swh_base.specs.Snapshot.{SnapshotBranch, target_kind_word, BranchIsBefore, AreBranches, branch_text, snapshot_text, branch_child, snapshot_name}
use Rattle.swh_base.proofs.Children.{one_list}
use Rattle.swh_base.proofs.Elementary.{all_as}
use Rattle.swh_object.specs.Object.{IsObject}
use Rattle.swh_model.specs.Meaning.{Made}
use Rattle.swh_dedup.specs.Making.{made_from, object_of}
use Rattle.swh_dedup.specs.Whole.{names_of, HasChildrenAmong, HasAllThatIsReached}
use Rattle.swh_dedup.specs.declared.objects.Objects.{Objects}
use Rattle.swh_dedup.proofs.Elements.{first_or_later, first_is, later_is, none_is, all_from, all_push}
use Rattle.std.proofs.lemmas.List.{map-append}
use Rattle.std.proofs.lemmas.List.Concat.{flat_map-append}
use Rattle.std.proofs.lemmas.List.Elements.{Contains-append_left, Contains-push, filter_map-append}
use Rattle.swh_batchread.specs.declared.fault.BatchFault.{BatchFault}
use Rattle.swh_batchread.specs.declared.fault.BatchFault.TheVariants.{BadBatch, WrongName, BadRefs, NoObject, Limit, ReadFault, Memory}
use Rattle.swh_batchread.specs.declared.names.Names.{Names}
use Rattle.swh_batchread.specs.declared.refs.Refs.{Refs}
use Rattle.swh_batchread.specs.Refs.{RefLine, IsRefLine, AreRefLines, is_peeled, kept_refs, ref_ids, kind_at, HasId, branch_to, branch_with, branch_of, AreBranchesOf, AreAllThere, AreRefs, GivesSnapshot, MeansRefs}
use Rattle.swh_batchread.specs.RefsFault.{SnapshotBreaks, MayBreakSnapshot, Lacks}
use Rattle.swh_batchread.specs.RefSteps.{line_at, kind_in, HasIdIn, Ascend, AreHeld, Holds, IsWholeWith, KnowsNames, LacksSome, PassesBody}
use Rattle.swh_batchread.specs.Failing.{Fails}
use Rattle.swh_batchread.proofs.Breaking.{fails_as}
use Rattle.swh_batchread.proofs.NamesKnown.{name_with, kind_found, ids_there, children_there}

-- ## Lines that are good

in_front : {X : Type 0} (xs : List X) (x : X) → Contains xs x → (before : List X) × (more : List X) × (xs ≡ before ++ x ∷ more)
in_front [] x c = absurd (none_is x c)
in_front {X} (y ∷ xs) x c = by_place (in_front xs x) (first_or_later y xs x c)
  where
    by_place : (Contains xs x → (before : List X) × (more : List X) × (xs ≡ before ++ x ∷ more)) → (y ≡ x) ⊎ Contains xs x → (before : List X) × (more : List X) × (y ∷ xs ≡ before ++ x ∷ more)
    by_place further (inl e) = ([], xs, ap (λ (z : X). z ∷ xs) e)
    by_place further (inr d) = let h = further d in (y ∷ h.0, h.1, ap (λ (t : List X). y ∷ t) h.2)

from_filter : {X : Type 0} (p : X → Bool) (xs : List X) (x : X) → Contains (filter p xs) x → Contains xs x
from_filter p [] x c = c
from_filter {X} p (y ∷ xs) x c = by_test (from_filter p xs x) (p y) c
  where
    by_place : (Contains (filter p xs) x → Contains xs x) → (y ≡ x) ⊎ Contains (filter p xs) x → Contains (y ∷ xs) x
    by_place more (inl e) = subst (λ (z : X). Contains (y ∷ xs) z) e (first_is y xs)
    by_place more (inr d) = later_is y xs x (more d)

    by_test : (Contains (filter p xs) x → Contains xs x) → (b : Bool) → Contains (cond b (y ∷ filter p xs) (filter p xs)) x → Contains (y ∷ xs) x
    by_test more true d = by_place more (first_or_later y (filter p xs) x d)
    by_test more false d = later_is y xs x (more d)

kept_good : (rs : List RefLine) (r : RefLine) → AreRefLines rs → Contains (kept_refs rs) r → IsRefLine r
kept_good rs r are c = let h = in_front rs r (from_filter (λ (r : RefLine). not (is_peeled r.name)) rs r c) in (are h.0 r h.1 h.2).line

-- the refs that are held are lines
held_good : (rs : List RefLine) (refs : Refs) → AreRefLines rs → Holds rs refs → AllByRecursion IsRefLine (map line_at refs.by_name.entries)
held_good rs refs are h = all_from IsRefLine (map line_at refs.by_name.entries) (λ r c. kept_good rs r are ((h.names r).0 c))

-- ## Branches

-- the keys of a map ascend
pub ascend_from : (es : List (Vec ℕ × List ℕ)) → IsStrictlySortedBy (λ a b. slice_cmp nat_cmp a.items b.items) (map (λ e. e.0) es) → Ascend (map line_at es)
unfolding IsStrictlySortedBy
ascend_from [] s = tt
ascend_from (e ∷ es) s = (of_keys es s.0, ascend_from es s.1)
  where
    of_keys : (es : List (Vec ℕ × List ℕ)) → AllByRecursion (λ k. slice_cmp nat_cmp e.0.items k.items ≡ Less) (map (λ f. f.0) es) → AllByRecursion (λ q. slice_cmp nat_cmp (line_at e).name q.name ≡ Less) (map line_at es)
    of_keys [] a = tt
    of_keys (f ∷ es) a = (a.0, of_keys es a.1)

module _ (f : List ℕ → Option Kind) where
  branch_before : (name : List ℕ) (b : SnapshotBranch) (rs : List RefLine) → b.name ≡ name → AllByRecursion (λ q. slice_cmp nat_cmp name q.name ≡ Less) rs → AllByRecursion (BranchIsBefore b) (filter_map (branch_with f) rs)
  branch_before name b [] e a = tt
  branch_before name b (r ∷ rs) e a = by_kind (branch_before name b rs e a.1) (f r.id)
    where
      by_kind : AllByRecursion (BranchIsBefore b) (filter_map (branch_with f) rs) → (o : Option Kind) → AllByRecursion (BranchIsBefore b) (cons_option (option_map (branch_to r) o) (filter_map (branch_with f) rs))
      by_kind more None = more
      by_kind more (Some k) = (subst (λ (n : List ℕ). slice_cmp nat_cmp n r.name ≡ Less) (sym e) a.0, more)

  -- the branches of refs that ascend
  pub branches_good : (rs : List RefLine) → Ascend rs → AllByRecursion IsRefLine rs → AreBranches (filter_map (branch_with f) rs)
  branches_good [] s g = tt
  branches_good (r ∷ rs) s g = by_kind (branches_good rs s.1 g.1) (f r.id)
    where
      by_kind : AreBranches (filter_map (branch_with f) rs) → (o : Option Kind) → AreBranches (cons_option (option_map (branch_to r) o) (filter_map (branch_with f) rs))
      by_kind more None = more
      by_kind more (Some k) = let is = g.0 in (record { not_empty = is.some; no_nul = is.no_nul; target = is.id.0 }, branch_before r.name (branch_to r k) rs refl s.0, more)

  -- a branch is that of a ref
  from_refs : (rs : List RefLine) (b : SnapshotBranch) → Contains (filter_map (branch_with f) rs) b → (r : RefLine) × Contains rs r × (branch_with f r ≡ Some b)
  from_refs [] b c = absurd (none_is b c)
  from_refs (r ∷ rs) b c = by_kind (from_refs rs b) (f r.id) refl c
    where
      later : (q : RefLine) × Contains rs q × (branch_with f q ≡ Some b) → (q : RefLine) × Contains (r ∷ rs) q × (branch_with f q ≡ Some b)
      later h = (h.0, later_is r rs h.0 h.1, h.2)

      by_place : (Contains (filter_map (branch_with f) rs) b → (q : RefLine) × Contains rs q × (branch_with f q ≡ Some b)) → (k : Kind) → f r.id ≡ Some k → (branch_to r k ≡ b) ⊎ Contains (filter_map (branch_with f) rs) b → (q : RefLine) × Contains (r ∷ rs) q × (branch_with f q ≡ Some b)
      by_place more k e (inl s) = (r, first_is r rs, ap (option_map (branch_to r)) e ∙ ap Some s)
      by_place more k e (inr d) = later (more d)

      by_kind : (Contains (filter_map (branch_with f) rs) b → (q : RefLine) × Contains rs q × (branch_with f q ≡ Some b)) → (o : Option Kind) → f r.id ≡ o → Contains (cons_option (option_map (branch_to r) o) (filter_map (branch_with f) rs)) b → (q : RefLine) × Contains (r ∷ rs) q × (branch_with f q ≡ Some b)
      by_kind more None e d = later (more d)
      by_kind more (Some k) e d = by_place more k e (first_or_later (branch_to r k) (filter_map (branch_with f) rs) b d)

  -- the branch of a ref is among them
  to_refs : (rs : List RefLine) (b : SnapshotBranch) (r : RefLine) → Contains rs r → branch_with f r ≡ Some b → Contains (filter_map (branch_with f) rs) b
  to_refs [] b r c e = absurd (none_is r c)
  to_refs (q ∷ rs) b r c e = by_place (λ d. to_refs rs b r d e) (first_or_later q rs r c)
    where
      behind : (o : Option SnapshotBranch) → Contains (filter_map (branch_with f) rs) b → Contains (cons_option o (filter_map (branch_with f) rs)) b
      behind None d = d
      behind (Some x) d = later_is x (filter_map (branch_with f) rs) b d

      by_place : (Contains rs r → Contains (filter_map (branch_with f) rs) b) → (q ≡ r) ⊎ Contains rs r → Contains (cons_option (branch_with f q) (filter_map (branch_with f) rs)) b
      by_place more (inl s) = subst (λ (o : Option SnapshotBranch). Contains (cons_option o (filter_map (branch_with f) rs)) b) (sym (ap (branch_with f) s ∙ e)) (first_is b (filter_map (branch_with f) rs))
      by_place more (inr d) = behind (branch_with f q) (more d)

  -- what the branches lead to is there, where each kind is that of a name
  kids_found : (names : List Name) (rs : List RefLine) → ((id : List ℕ) (kind : Kind) → f id ≡ Some kind → Contains names (record { kind = kind; id = id })) → AllByRecursion (Contains names) (filter_map branch_child (filter_map (branch_with f) rs))
  kids_found names [] found = tt
  kids_found names (r ∷ rs) found = by_kind (kids_found names rs found) (f r.id) refl
    where
      by_kind : AllByRecursion (Contains names) (filter_map branch_child (filter_map (branch_with f) rs)) → (o : Option Kind) → f r.id ≡ o → AllByRecursion (Contains names) (filter_map branch_child (cons_option (option_map (branch_to r) o) (filter_map (branch_with f) rs)))
      by_kind more None e = more
      by_kind more (Some k) e = (found r.id k e, more)

-- one ref more
pub branch_turn : (f : List ℕ → Option Kind) (whole done new : List SnapshotBranch) (e : Vec ℕ × List ℕ) (it rest : List (Vec ℕ × List ℕ)) → whole ≡ done ++ filter_map (branch_with f) (map line_at it) → it ≡ e ∷ rest → new ≡ done ++ filter_map (branch_with f) (line_at e ∷ []) → whole ≡ new ++ filter_map (branch_with f) (map line_at rest)
branch_turn f whole done new e it rest h i n =
    h ∙ ap (λ (es : List (Vec ℕ × List ℕ)). done ++ filter_map (branch_with f) (map line_at es)) i
    ∙ ap (λ (t : List SnapshotBranch). done ++ t) (filter_map-append (branch_with f) (line_at e ∷ []) (map line_at rest))
    ∙ sym (append_assoc done (filter_map (branch_with f) (line_at e ∷ [])) (filter_map (branch_with f) (map line_at rest)))
    ∙ ap (λ (t : List SnapshotBranch). t ++ filter_map (branch_with f) (map line_at rest)) (sym n)

module _ (names : List Name) (known : Names) (knows : KnowsNames names known) (rs : List RefLine) (refs : Refs) (are : AreRefLines rs) (held : Holds rs refs) where
  abbrev in_map : List RefLine
  in_map = map line_at refs.by_name.entries

  abbrev branches : List SnapshotBranch
  branches = filter_map (branch_with (kind_in known.first.entries)) in_map

  same_with : (r : RefLine) → branch_with (kind_in known.first.entries) r ≡ branch_of names r
  same_with r = ap (option_map (branch_to r)) (knows.first r.id)

  -- the branches that are made are those of the refs
  pub are_branches_of : Ascend in_map → AreBranchesOf names rs branches
  are_branches_of ascend =
      record {
        good = branches_good (kind_in known.first.entries) in_map ascend (held_good rs refs are held);
        same = λ b. (
          λ c. let h = from_refs (kind_in known.first.entries) in_map b c in to_refs (kind_at names) (kept_refs rs) b h.0 ((held.names h.0).0 h.1) (sym (same_with h.0) ∙ h.2),
          λ c. let h = from_refs (kind_at names) (kept_refs rs) b c in to_refs (kind_in known.first.entries) in_map b h.0 ((held.names h.0).1 h.1) (same_with h.0 ∙ h.2),
        );
      }

pub held_branches : (known : Names) (refs : Refs) → AreHeld refs → Ascend (map line_at refs.by_name.entries) → AreBranches (filter_map (branch_with (kind_in known.first.entries)) (map line_at refs.by_name.entries))
held_branches known refs h ascend = branches_good (kind_in known.first.entries) (map line_at refs.by_name.entries) ascend (held_good h.lines refs h.are h.held)

-- ## The whole

pub all_there : (objects : List Entry) (known : Names) (rs : List RefLine) (refs : Refs) → KnowsNames (names_of objects) known → Holds rs refs → AllByRecursion (HasIdIn known.first.entries) refs.ids.items → AllByRecursion (HasChildrenAmong known.all) objects → AreAllThere objects rs
all_there objects known rs refs knows held ids kids =
    record {
      refs = subst (AllByRecursion (HasId (names_of objects))) held.ids (ids_there (names_of objects) known refs.ids.items knows ids);
      kids = children_there (names_of objects) known objects knows kids;
    }

-- the snapshot is given behind the objects
pub gives_snapshot : (id : Kind → List ℕ → List ℕ) (objects : List Entry) (known : Names) (rs : List RefLine) (refs : Refs) (snapshot : Entry)
    → KnowsNames (names_of objects) known → AreRefLines rs → Holds rs refs → AllByRecursion (HasIdIn known.first.entries) refs.ids.items → AllByRecursion (HasChildrenAmong known.all) objects → Ascend (map line_at refs.by_name.entries)
    → made_from snapshot ≡ object_of Snapshot (snapshot_text (filter_map (branch_with (kind_in known.first.entries)) (map line_at refs.by_name.entries))) → IsObject id snapshot
    → GivesSnapshot rs objects (objects ++ snapshot ∷ []) snapshot.name.id
gives_snapshot id objects known rs refs snapshot knows are held ids kids ascend made object =
    let body = ap (λ m. m.body) made in
    let short = object.short in
    record {
      there = all_there objects known rs refs knows held ids kids;
      branches = filter_map (branch_with (kind_in known.first.entries)) (map line_at refs.by_name.entries);
      branches_are = are_branches_of (names_of objects) known knows rs refs are held ascend;
      short = subst (λ (t : List ℕ). length t ≤ body_limit) body short;
      snapshot = snapshot;
      made = made;
      objects_are = refl;
      id_is = refl;
    }

-- the snapshot's children are among the names
snapshot_kids : (id : Kind → List ℕ → List ℕ) (names : List Name) (branches : List SnapshotBranch) (e : Entry) → AreBranches branches → made_from e ≡ object_of Snapshot (snapshot_text branches) → IsObject id e → AllByRecursion (Contains names) (filter_map branch_child branches) → AllByRecursion (Contains names) e.kids
snapshot_kids id names branches e good is o there =
    let body : e.body ≡ snapshot_text branches = ap (λ m. m.body) is in
    let kids : AreChildren Snapshot e.body e.kids = subst (λ (k : Kind). AreChildren k e.body e.kids) (ap (λ m. m.kind) is) o.kids in
    let same : filter_map branch_child branches ≡ e.kids = one_list Snapshot e.body (filter_map branch_child branches) e.kids (record { branches = branches; is = record { text = body; good = good }; kids = refl }) kids in
    subst (AllByRecursion (Contains names)) same there

pub snapshot_good : (branches : List SnapshotBranch) (body : List ℕ) → AreBranches branches → body ≡ snapshot_text branches → IsWellFormed Snapshot body
snapshot_good branches body good e = (filter_map branch_child branches, record { branches = branches; is = record { text = e; good = good }; kids = refl })

-- the name of a snapshot
pub snapshot_named : (snapshot : Entry) (body id : List ℕ) → made_from snapshot ≡ object_of Snapshot body → id ≡ snapshot.name.id → snapshot.name ≡ snapshot_name id
snapshot_named snapshot body id made same = ap (λ (k : Kind). name_with k snapshot.name.id) (ap (λ m. m.kind) made) ∙ ap snapshot_name (sym same)

-- all that is reached is there
pub has_all : (id : Kind → List ℕ → List ℕ) (objects : List Entry) (known : Names) (refs : Refs) (snapshot : Entry)
    → KnowsNames (names_of objects) known → AreHeld refs → AllByRecursion (IsObject id) objects → AllByRecursion (HasChildrenAmong known.all) objects → Ascend (map line_at refs.by_name.entries)
    → made_from snapshot ≡ object_of Snapshot (snapshot_text (filter_map (branch_with (kind_in known.first.entries)) (map line_at refs.by_name.entries))) → IsObject id snapshot
    → IsWholeWith id (objects ++ snapshot ∷ []) snapshot.name.id
has_all id objects known refs snapshot knows held each kids ascend made object =
    let names = names_of objects in
    let all : List Name = names_of (objects ++ snapshot ∷ []) in
    let more : all ≡ names ++ snapshot.name ∷ [] = map-append (λ (e : Entry). e.name) objects (snapshot ∷ []) in
    let wider : (n : Name) → Contains names n → Contains all n = λ n c. subst (λ (ns : List Name). Contains ns n) (sym more) (Contains-append_left names (snapshot.name ∷ []) n c) in
    let branches = filter_map (branch_with (kind_in known.first.entries)) (map line_at refs.by_name.entries) in
    let good = held_branches known refs held ascend in
    let there = kids_found (kind_in known.first.entries) names (map line_at refs.by_name.entries) (λ i k e. kind_found names i k (sym (knows.first i) ∙ e)) in
    let own = all_as (Contains names) (Contains all) wider snapshot.kids (snapshot_kids id names branches snapshot good made object there) in
    let theirs = all_as (HasChildrenAmong names) (HasChildrenAmong all) (λ e c. all_as (Contains names) (Contains all) wider e.kids c) objects (children_there names known objects knows kids) in
    let named = snapshot_named snapshot (snapshot_text branches) snapshot.name.id made refl in
    record {
      whole = record { each = all_push (IsObject id) objects snapshot each object; kids = all_push (HasChildrenAmong all) objects snapshot theirs own };
      root = subst (λ (n : Name). Contains all n) named (subst (λ (ns : List Name). Contains ns snapshot.name) (sym more) (Contains-push names snapshot.name));
    }

-- ## What breaks

-- what is not there breaks the refs
pub lacks_breaks : (objects : List Entry) (rs : List RefLine) (ids : List (List ℕ)) (fault : BatchFault) → ids ≡ ref_ids rs → LacksSome (names_of objects) ids objects fault → SnapshotBreaks rs objects fault
lacks_breaks objects rs ids (NoObject id) e h = subst (λ (is : List (List ℕ)). Lacks (names_of objects) is objects id) e h
lacks_breaks objects rs ids (Limit which number) e h = absurd h
lacks_breaks objects rs ids (BadBatch at) e h = absurd h
lacks_breaks objects rs ids (WrongName given got) e h = absurd h
lacks_breaks objects rs ids (BadRefs line) e h = absurd h
lacks_breaks objects rs ids ReadFault e h = absurd h
lacks_breaks objects rs ids Memory e h = absurd h

-- a snapshot that is too long is one that some objects have
pub may_pass : (objects : List Entry) (body : List ℕ) (fault : BatchFault) → PassesBody body fault → MayBreakSnapshot objects fault
may_pass objects body (Limit which number) p = (p.0, p.2)
may_pass objects body (BadBatch at) p = absurd p
may_pass objects body (WrongName given got) p = absurd p
may_pass objects body (BadRefs line) p = absurd p
may_pass objects body (NoObject id) p = absurd p
may_pass objects body ReadFault p = absurd p
may_pass objects body Memory p = absurd p

-- what holds of a snapshot that is made of a body
pub snapshot_ended : {E : Type 0} (r : Result Entry E) (id : Kind → List ℕ → List ℕ) (body : Made) (P : Entry → Type 0) → IfOk r (λ o. made_from o ≡ body) → IfOk r (IsObject id) → ((o : Entry) → made_from o ≡ body → IsObject id o → P o) → IfOk r P
snapshot_ended (Ok o) id body P made object f = f o made object
snapshot_ended (Err e) id body P made object f = tt

-- the text is one of refs that give this
pub means_refs : {E : Type 0} (r : Result Entry E) (text : List ℕ) (objects : List Entry) (rs : List RefLine) → AreRefs text rs → IfOk r (λ o. GivesSnapshot rs objects (objects ++ o ∷ []) o.name.id) → IfOk r (λ o. MeansRefs text objects (objects ++ o ∷ []) o.name.id)
means_refs (Ok o) text objects rs are gives = record { refs = rs; are = are; gives = gives }
means_refs (Err e) text objects rs are gives = tt

-- the same of all objects, where the snapshot stands behind them
pub means_as : (text : List ℕ) (objects others all : List Entry) (o : Entry) (id : List ℕ) → others ≡ objects → all ≡ objects ++ o ∷ [] → id ≡ o.name.id → MeansRefs text others (others ++ o ∷ []) o.name.id → MeansRefs text objects all id
means_as text objects others all o id same items name h =
    subst (λ (i : List ℕ). MeansRefs text objects all i) (sym name) (subst (λ (es : List Entry). MeansRefs text objects es o.name.id) (sym items) (subst (λ (es : List Entry). MeansRefs text es (es ++ o ∷ []) o.name.id) same h))

pub whole_as : {N : Type 0} (id : Kind → List ℕ → List ℕ) (objects others : List Entry) (o : Entry) (given : Objects N) → others ≡ objects → given.objects.items ≡ objects ++ o ∷ [] → given.snapshot ≡ o.name.id → IsWholeWith id (others ++ o ∷ []) o.name.id → HasAllThatIsReached id given
whole_as id objects others o given same items name h =
    let whole : IsWholeWith id given.objects.items given.snapshot = subst (λ (i : List ℕ). IsWholeWith id given.objects.items i) (sym name) (subst (λ (es : List Entry). IsWholeWith id es o.name.id) (ap (λ (es : List Entry). es ++ o ∷ []) same ∙ sym items) h) in
    record { objects = whole.whole; snapshot = whole.root }

-- one way to break is another, of what a call answers that reads nothing
pub err_as : {T : Type 0} (r : Result T BatchFault) (May B More C : BatchFault → Type 0) (n : ℕ) → ((f : BatchFault) → May f → More f) → ((f : BatchFault) → B f → C f) → IfErr r (Fails (Unit {0}) May B n n) → IfErr r (Fails (Unit {0}) More C n n)
err_as (Ok x) May B More C n may so h = tt
err_as (Err e) May B More C n may so h = fails_as (Unit {0}) May More B C n n n e may (λ t. so) refl h

-- an error of each count of faults
pub err_each : {T E : Type 0} (P : ℕ → E → Type 0) (Q : E → Type 0) (r : Result T E) → ((n : ℕ) → IfErr r (P n)) → ((e : E) → ((n : ℕ) → P n e) → Q e) → IfErr r Q
err_each P Q (Ok x) h f = tt
err_each P Q (Err e) h f = f e h

pub long_breaks : (objects : List Entry) (known : Names) (rs : List RefLine) (refs : Refs) (fault : BatchFault) → KnowsNames (names_of objects) known → AreRefLines rs → Holds rs refs → AllByRecursion (HasIdIn known.first.entries) refs.ids.items → AllByRecursion (HasChildrenAmong known.all) objects → Ascend (map line_at refs.by_name.entries)
    → PassesBody (snapshot_text (filter_map (branch_with (kind_in known.first.entries)) (map line_at refs.by_name.entries))) fault → SnapshotBreaks rs objects fault
long_breaks objects known rs refs (Limit which number) knows are held ids kids ascend p = (
  p.0,
  record {
    there = all_there objects known rs refs knows held ids kids;
    branches = filter_map (branch_with (kind_in known.first.entries)) (map line_at refs.by_name.entries);
    branches_are = are_branches_of (names_of objects) known knows rs refs are held ascend;
    long = p.1;
    above = p.2;
  },
)
long_breaks objects known rs refs (BadBatch at) knows are held ids kids ascend p = absurd p
long_breaks objects known rs refs (WrongName given got) knows are held ids kids ascend p = absurd p
long_breaks objects known rs refs (BadRefs line) knows are held ids kids ascend p = absurd p
long_breaks objects known rs refs (NoObject id) knows are held ids kids ascend p = absurd p
long_breaks objects known rs refs ReadFault knows are held ids kids ascend p = absurd p
long_breaks objects known rs refs Memory knows are held ids kids ascend p = absurd p

-- the bytes of some branches, and of more behind them
pub bytes_push : (bs added new : List SnapshotBranch) (n m : ℕ) → n ≡ length (snapshot_text bs) → m ≡ length (snapshot_text added) → new ≡ bs ++ added → n + m ≡ length (snapshot_text new)
bytes_push bs added new n m e f s = omega (arith, e, f, ap (λ (xs : List SnapshotBranch). length (snapshot_text xs)) s, ap length (flat_map-append branch_text bs added), length-append (snapshot_text bs) (snapshot_text added))

-- how many bytes a branch to an object has: its kind's word, a space, its name, a NUL, `20:` and the id
pub frame_bytes : (r : RefLine) (kind : Kind) (n : ℕ) → IsId r.id → length (target_kind_word kind) + 25 ≡ n → length (branch_text (branch_to r kind)) ≡ length r.name + n
unfolding digits
frame_bytes r kind n is e =
    let l : length r.id ≡ 20 = is.0 in
    let d : length (decimal (length r.id)) ≡ 2 = ap (λ (m : ℕ). length (decimal m)) l in
    omega (
      arith,
      l,
      d,
      e,
      length-append (target_kind_word kind) (32 ∷ (r.name ++ 0 ∷ (decimal (length r.id) ++ 58 ∷ r.id))),
      length-append r.name (0 ∷ (decimal (length r.id) ++ 58 ∷ r.id)),
      length-append (decimal (length r.id)) (58 ∷ r.id),
    )

-- the bytes of one branch
pub bytes_of_one : (f : List ℕ → Option Kind) (r : RefLine) (kind : Kind) (a b : ℕ) → f r.id ≡ Some kind → a ≡ length r.name → length (branch_text (branch_to r kind)) ≡ length r.name + b → a + b ≡ length (snapshot_text (filter_map (branch_with f) (r ∷ [])))
bytes_of_one f r kind a b e n l = subst (λ (o : Option Kind). a + b ≡ length (snapshot_text (cons_option (option_map (branch_to r) o) []))) (sym e) (omega (arith, n, l, length-append (branch_text (branch_to r kind)) []))
