-- The tips at the end of the stream of a revision and of a release.
use Rattle.std.proofs.Common.{◌≡◌, ◌≢◌, ◌⊎◌, inl, inr, ℕ, ◌==◌, Bool, true, false, cond, List, [], ◌∷◌, ◌++◌, map, Option, Some, None, Contains, refl, sym, ap, ◌∙◌, subst, codes}
use Rattle.std.specs.List.{cons_option}
use Rattle.std.specs.Ordering.{nat_cmp}
use Rattle.std.specs.Cmp.Lexicographic.{slice_cmp}
use Rattle.std.specs.BTreeMap.{insert_entry, is_at}
use Rattle.std.specs.Map.{remove_entry}
use Rattle.swh_base.specs.declared.kind.Kind.{Kind}
use Rattle.swh_base.specs.declared.kind.Kind.TheVariants.{Content, Directory as DirectoryKind, Revision as RevisionKind, Release as ReleaseKind, Snapshot as SnapshotKind}
use Rattle.swh_base.specs.declared.name.Name.{Name}
use Rattle.swh_base.specs.Directory.{DirectoryEntry, child_of, children_of as directory_children}
use Rattle.swh_base.specs.Manifest.{AreChildren}
use Rattle.swh_base.specs.Reach.{IsChildIn}
use Rattle.swh_base.specs.Revision.{Revision, revision_name}
use Rattle.swh_base.proofs.Elementary.{none_in}
use Rattle.swh_model.specs.Archive.{Bodies, IsGraphOf}
use Rattle.swh_graph.proofs.Lists.{in_first, in_rest, in_cases, trapped}
use Rattle.swh_postorder.specs.Postorder.{IsPostorder, Trip, Over, Passes, Enters, IsTrip, left_in}
use Rattle.swh_postorder.proofs.Orders.{order_are}
use Rattle.swh_fastwrite.specs.Text.{cook_branch}
use Rattle.swh_fastcook.specs.Stream.{LeavesBranch}
use Rattle.swh_fastmeaning.specs.Commands.{Target}
use Rattle.swh_fastmeaning.specs.Snapshots.{tip_branch}
use Rattle.swh_fastcook.specs.Loaded.{Tags, SetsTag, SetTags, branch_of_tag}
use Rattle.swh_roundtrip.proofs.Tipping.{Tips, TipsAre, IsCook, remove_cook}
use Rattle.swh_roundtrip.proofs.Endings.{SetsAll, Leaves}

-- ## Kinds that are reached from a revision

abbrev named_as : Kind → List ℕ → Name
named_as kind i = record { kind = kind; id = i }

abbrev IsInTree : Name → Type 0
IsInTree n = (n.kind ≡ Content) ⊎ ((n.kind ≡ DirectoryKind) ⊎ (n.kind ≡ RevisionKind))

same_some : (a b : Name) → Some a ≡ Some b → a ≡ b
same_some a b z = cc

named_kind : (kind : Kind) (i : List ℕ) (n : Name) → Some (named_as kind i) ≡ Some n → n.kind ≡ kind
named_kind kind i n e = sym (ap (λ (m : Name). m.kind) (same_some (named_as kind i) n e))

file_kind : (e : DirectoryEntry) (b d : Bool) (n : Name) → cond b None (cond d (Some (named_as DirectoryKind e.id)) (Some (named_as Content e.id))) ≡ Some n → IsInTree n
file_kind e true d n some = absurd cc
file_kind e false true n some = inr (inl (named_kind DirectoryKind e.id n some))
file_kind e false false n some = inl (named_kind Content e.id n some)

by_child : (e : DirectoryEntry) (o : Option Name) (kids : List Name) (n : Name) → child_of e ≡ o → Contains (cons_option o kids) n → (Contains kids n → IsInTree n) → IsInTree n
by_child e None kids n is there rest = rest there
by_child e (Some k) kids n is there rest = elim (in_cases k kids n there) [
  | inl same ↦ file_kind e (e.mode == 160000) (e.mode == 40000) n (is ∙ (let some : Name → Option Name = λ m. Some m in ap some same))
  | inr later ↦ rest later
]

entry_kind : (es : List DirectoryEntry) (n : Name) → Contains (directory_children es) n → IsInTree n
entry_kind [] n there = absurd (none_in n there)
entry_kind (e ∷ es) n there = by_child e (child_of e) (directory_children es) n refl there (entry_kind es n)

parent_kind : (ids : List (List ℕ)) (n : Name) → Contains (map revision_name ids) n → IsInTree n
parent_kind [] n there = absurd (none_in n there)
parent_kind (i ∷ ids) n there = elim (in_cases (revision_name i) (map revision_name ids) n there) [
  | inl same ↦ inr (inr (sym (ap (λ (m : Name). m.kind) same)))
  | inr later ↦ parent_kind ids n later
]

revision_kind : (r : Revision) (n : Name) → Contains (named_as DirectoryKind r.directory ∷ map revision_name r.parents) n → IsInTree n
revision_kind r n there = elim (in_cases (named_as DirectoryKind r.directory) (map revision_name r.parents) n there) [
  | inl same ↦ inr (inl (sym (ap (λ (m : Name). m.kind) same)))
  | inr later ↦ parent_kind r.parents n later
]

in_kids : (kids all : List Name) (n : Name) → kids ≡ all → Contains kids n → Contains all n
in_kids kids all n is there = subst (λ (l : List Name). Contains l n) is there

module _ (bodies : Bodies) (children_of : Name → Option (List Name)) (graph : IsGraphOf bodies children_of) where
  step_in : (a b : Name) → IsInTree a → IsChildIn children_of a b → IsInTree b
  step_in a b (inl kind) kid =
      let has = graph.held a kid.kids kid.held in
      let are = subst (λ (k : Kind). AreChildren k has.0 kid.kids) kind has.2 in
      absurd (none_in b (in_kids kid.kids [] b are kid.one_of))
  step_in a b (inr (inl kind)) kid =
      let has = graph.held a kid.kids kid.held in
      let are = subst (λ (k : Kind). AreChildren k has.0 kid.kids) kind has.2 in
      entry_kind are.entries b (in_kids kid.kids (directory_children are.entries) b are.kids kid.one_of)
  step_in a b (inr (inr kind)) kid =
      let has = graph.held a kid.kids kid.held in
      let are = subst (λ (k : Kind). AreChildren k has.0 kid.kids) kind has.2 in
      revision_kind are.revision b (in_kids kid.kids (named_as DirectoryKind are.revision.directory ∷ map revision_name are.revision.parents) b are.kids kid.one_of)

  no_release : (root : Name) (order : List Name) → IsPostorder children_of root order → root.kind ≡ RevisionKind → (n : Name) → Contains order n → n.kind ≢ ReleaseKind
  no_release root order is kind n there is_release =
      let w = (order_are children_of root order is n).0 there in
      elim (trapped (IsChildIn children_of) IsInTree step_in w.0 root n (inr (inr kind)) w.1) [
        | inl c ↦ (let bad : Content ≡ ReleaseKind = sym c ∙ is_release in cc)
        | inr (inl d) ↦ (let bad : DirectoryKind ≡ ReleaseKind = sym d ∙ is_release in cc)
        | inr (inr r) ↦ (let bad : RevisionKind ≡ ReleaseKind = sym r ∙ is_release in cc)
      ]

-- ## No tag

no_tag : (bodies : Bodies) (n : Name) (kind : Kind) (old new : Tags) → kind ≢ ReleaseKind → SetsTag bodies n kind old new → new ≡ old
no_tag bodies n Content old new other s = s
no_tag bodies n DirectoryKind old new other s = s
no_tag bodies n RevisionKind old new other s = s
no_tag bodies n ReleaseKind old new other s = absurd (other refl)
no_tag bodies n SnapshotKind old new other s = s

no_tags : (bodies : Bodies) (names : List Name) (old new : Tags) → ((n : Name) → Contains names n → n.kind ≢ ReleaseKind) → SetTags bodies names old new → new ≡ old
no_tags bodies [] old new none s = s
no_tags bodies (n ∷ names) old new none (middle, one, more) = no_tags bodies names middle new (λ k there. none k (in_rest n names k there)) more ∙ no_tag bodies n n.kind old middle (none n (in_first n names)) one

no_rest : (rest : Tips) → map tip_branch rest ≡ [] → rest ≡ []
no_rest [] e = refl
no_rest (t ∷ rest) e = absurd cc

-- ## A revision

abbrev main : List ℕ
main = codes "refs/heads/main"

main_set : (front : List Name) (cook rest base : Tips) (aim : Target) → IsCook front cook → rest ≡ [] → base ≡ cook ++ rest → remove_entry (is_at (slice_cmp nat_cmp cook_branch)) (insert_entry (slice_cmp nat_cmp) base main aim) ≡ (main, aim) ∷ []
main_set front cook rest base aim (inl none) e cut =
    let ended : Tips → Tips = λ x. remove_entry (is_at (slice_cmp nat_cmp cook_branch)) (insert_entry (slice_cmp nat_cmp) x main aim) in
    ap ended (cut ∙ ap (λ (c : Tips). c ++ rest) none ∙ e)
main_set front cook rest base aim (inr (t, one, has)) e cut =
    let ended : Tips → Tips = λ x. remove_entry (is_at (slice_cmp nat_cmp cook_branch)) (insert_entry (slice_cmp nat_cmp) x main aim) in
    ap ended (cut ∙ ap (λ (c : Tips). c ++ rest) one ∙ ap (λ (r : Tips). (cook_branch, t) ∷ r) e)

module _ (bodies : Bodies) (children_of : Name → Option (List Name)) (graph : IsGraphOf bodies children_of) (root : Name) (order : List Name) (is_order : IsPostorder children_of root order) (base set final : Tips) (is_base : TipsAre bodies order base) where
  root_there : Contains order root
  root_there = (order_are children_of root order is_order root).1 ([], refl)

  -- one tip, that of the branch `main`
  pub revision_tips : root.kind ≡ RevisionKind → SetsAll base ((main, root) ∷ []) set → Leaves (LeavesBranch bodies order root) set final → (aim : Target) × (aim.name ≡ root) × (final ≡ (main, aim) ∷ [])
  revision_tips kind (aim, named, is) leaves =
      let tags_none : is_base.tags ≡ [] = no_tags bodies order [] is_base.tags (no_release bodies children_of graph root order is_order kind) is_base.set in
      let rest_none : is_base.rest ≡ [] = no_rest is_base.rest (is_base.named ∙ ap (map branch_of_tag) tags_none) in
      let leave : LeavesBranch bodies order root = record { commit = root; there = root_there; kind = kind; free = λ e. absurd (let bad : RevisionKind ≡ SnapshotKind = sym kind ∙ e in cc) } in
      elim leaves [
        | inl (l, gone) ↦ (aim, named, gone ∙ ap (remove_entry (is_at (slice_cmp nat_cmp cook_branch))) is ∙ main_set order is_base.cook is_base.rest base aim is_base.is_cook rest_none is_base.cut)
        | inr (stays, same) ↦ absurd (stays leave)
      ]

  -- those of the tags
  pub release_tips : root.kind ≡ ReleaseKind → SetsAll base [] set → Leaves (LeavesBranch bodies order root) set final → final ≡ is_base.rest
  release_tips kind is leaves =
      elim leaves [
        | inl (l, gone) ↦ gone ∙ ap (remove_entry (is_at (slice_cmp nat_cmp cook_branch))) (is ∙ is_base.cut) ∙ remove_cook order is_base.cook is_base.rest is_base.tags is_base.is_cook is_base.named
        | inr (stays, same) ↦ same ∙ is ∙ is_base.cut ∙ ap (λ (c : Tips). c ++ is_base.rest) (no_cook is_base.is_cook stays)
      ]
    where
      no_cook : IsCook order is_base.cook → (LeavesBranch bodies order root → ⊥) → is_base.cook ≡ []
      no_cook (inl none) stays = none
      no_cook (inr (t, one, has)) stays =
          absurd (stays (record { commit = has.commit; there = has.there; kind = has.kind; free = λ e. absurd (let bad : ReleaseKind ≡ SnapshotKind = sym kind ∙ e in cc) }))

-- ## The root is the last in the order

module _ (children_of : Name → Option (List Name)) where
  nothing_left : (trip : Trip) (around left : List Name) → IsTrip children_of around left [] trip → left_in trip ≡ []
  nothing_left Over around left t = refl
  nothing_left (Passes n rest) around left (more, e, entered, later) = absurd cc
  nothing_left (Enters n inner rest) around left (more, kids, e, fresh, held, inside, later) = absurd cc

  none_entered : (n : Name) → Contains [] n ⊎ Contains [] n → ⊥
  none_entered n (inl there) = none_in n there
  none_entered n (inr there) = none_in n there

  last_by : (root : Name) (trip : Trip) → IsTrip children_of [] [] (root ∷ []) trip → (front : List Name) × (left_in trip ≡ front ++ root ∷ [])
  last_by root Over t = absurd cc
  last_by root (Passes n rest) (more, e, entered, later) = absurd (none_entered n entered)
  last_by root (Enters n inner rest) (more, kids, e, fresh, held, inside, later) =
      let same : n ≡ root = cc in
      let over : more ≡ [] = cc in
      let ended : left_in rest ≡ [] = nothing_left rest [] ([] ++ (left_in inner ++ n ∷ [])) (subst (λ (l : List Name). IsTrip children_of [] ([] ++ (left_in inner ++ n ∷ [])) l rest) over later) in
      (left_in inner, ap (λ (l : List Name). left_in inner ++ n ∷ l) ended ∙ ap (λ (x : Name). left_in inner ++ x ∷ []) same)

  pub root_last : (root : Name) (order : List Name) → IsPostorder children_of root order → (front : List Name) × (order ≡ front ++ root ∷ [])
  root_last root order is = let l = last_by root is.trip is.walk in (l.0, is.is ∙ l.1)
