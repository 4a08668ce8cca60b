-- What is carried is what a stream takes: objects and branches.
use Rattle.std.proofs.Common.{◌≡◌, ◌⊎◌, inl, inr, ℕ, ◌<◌, ◌≤◌, Bool, true, false, List, [], ◌∷◌, ◌++◌, length, length-append, Option, Some, Contains, refl, sym, ap, subst, arith, codes}
use Rattle.std.specs.Prelude.{get_or}
use Rattle.std.specs.List.{AllByRecursion, flat_map}
use Rattle.std.proofs.lemmas.List.Sums.{AllPass-from_list_all}
use Rattle.swh_dedup.proofs.Elements.{all_from}
use Rattle.swh_base.specs.Limits.{ref_limit}
use Rattle.swh_base.specs.declared.kind.Kind.{Kind}
use Rattle.swh_base.specs.declared.kind.Kind.TheVariants.{Content, Directory as DirectoryKind, Revision as RevisionKind, Release as ReleaseKind, Snapshot as SnapshotKind}
use Rattle.swh_base.specs.declared.name.Name.{Name}
use Rattle.swh_base.specs.Directory.{DirectoryEntry}
use Rattle.swh_base.specs.Kind.{word_of}
use Rattle.swh_base.specs.Revision.{Revision, id_line, parent_line as parent_text, revision_name}
use Rattle.swh_base.specs.Snapshot.{SnapshotBranch, BranchTarget, ToObject, ToBranch, ToNothing}
use Rattle.swh_base.specs.Text.{IsRef, is_ref_byte}
use Rattle.swh_model.specs.Archive.{Bodies, body_of, IsGraphOf}
use Rattle.swh_graph.specs.Holding.{HoldsDirectory, HoldsSnapshot}
use Rattle.swh_graph.specs.Path.{directory_name}
use Rattle.swh_graph.proofs.Lists.{in_first, in_rest}
use Rattle.swh_postorder.specs.Cycle.{ArePreceded}
use Rattle.swh_postorder.specs.Postorder.{IsPostorder}
use Rattle.swh_postorder.proofs.Orders.{order_are}
use Rattle.swh_revfmt.specs.Plain.{text_line, optional_line, PlainRevision, IsPlainRevision, PlainRelease, IsPlainRelease}
use Rattle.swh_carried.specs.declared.fault.Why.TheVariants.{Empty, Dots, Path, Branch}
use Rattle.swh_carried.specs.Rules.{HasDirectoryEntry, HasDots, HasLongPath}
use Rattle.swh_carried.specs.Uncarried.{BreaksNone}
use Rattle.swh_fastcarried.specs.Rules.{IsRevisionRoot, IsCarriedObject, IsCarriedTarget, HasOddBranch, BreaksIn}
use Rattle.swh_marks.specs.Marks.{mark_of}
use Rattle.swh_fastcook.specs.Stream.{IsCommit, IsTag}
use Rattle.swh_fastcook.proofs.Kids.{directory_in, parents_in, object_in, tips_in}
use Rattle.swh_pathwalk.specs.Tree.{Row, IsPathWalk}
use Rattle.swh_roundtrip.specs.Sound.{AreInLimit, AreOfBytes}
use Rattle.swh_roundtrip.specs.Commands.{object_tips, branch_tips, AreRootTips}
use Rattle.swh_roundtrip.proofs.LineKinds.{IsMarkNumber}
use Rattle.swh_roundtrip.proofs.CommitItems.{IsGoodRow, IsGoodCommit}
use Rattle.swh_roundtrip.proofs.StreamItems.{IsGoodText, IsGoodTag, IsGoodTip}
use Rattle.swh_roundtrip.proofs.GoodRows.{walk_good}

-- ## Messages

revision_message : (body : List ℕ) (p : PlainRevision) → IsPlainRevision body p → length p.rest.message ≤ length body
revision_message body p is =
    let a : List ℕ = id_line (codes "tree ") p.directory in
    let b : List ℕ = flat_map parent_text p.parents in
    let c : List ℕ = text_line (codes "author ") p.rest.author in
    let d : List ℕ = text_line (codes "committer ") p.rest.committer in
    let e : List ℕ = optional_line (codes "encoding ") p.rest.encoding in
    let whole = ap length is.revision.text in
    let rest = ap length is.rest.text in
    omega (arith, whole, rest, length-append a (b ++ is.bytes), length-append b is.bytes, length-append c (d ++ (e ++ 10 ∷ p.rest.message)), length-append d (e ++ 10 ∷ p.rest.message), length-append e (10 ∷ p.rest.message))

release_message : (body : List ℕ) (p : PlainRelease) → IsPlainRelease body p → length p.rest.message ≤ length body
release_message body p is =
    let e : List ℕ = optional_line (codes "tagger ") p.rest.tagger in
    let rest = ap length is.rest.text in
    let inside = length-append e (10 ∷ p.rest.message) in
    let whole = ap length is.release.text in
    let a : List ℕ = id_line (codes "object ") p.object.id in
    let w : List ℕ = word_of p.object.kind in
    omega (arith, rest, inside, whole, length-append a (codes "type " ++ (w ++ 10 ∷ (codes "tag " ++ (p.tag ++ 10 ∷ is.bytes)))), length-append w (10 ∷ (codes "tag " ++ (p.tag ++ 10 ∷ is.bytes))), length-append p.tag (10 ∷ is.bytes))

-- ## Refs

bit_stable : (b : Bool) → ((b ≡ true → ⊥) → ⊥) → b ≡ true
bit_stable true h = refl
bit_stable false h = absurd (h (λ z. cc))

pub below_or : (a b : ℕ) → (a ≤ b) ⊎ (b < a)
below_or a b = grind arith

ref_stable : (text : List ℕ) → ((IsRef text → ⊥) → ⊥) → IsRef text
ref_stable text h = record {
  some = least 1 (length text) (λ z. h (λ r. z r.some));
  short = least (length text) ref_limit (λ z. h (λ r. z r.short));
  bytes = λ k d l. bit_stable (is_ref_byte (get_or text k d)) (λ z. h (λ r. z (r.bytes k d l)));
}
  where
    least : (a b : ℕ) → ((a ≤ b → ⊥) → ⊥) → a ≤ b
    least a b h = elim (below_or a b) [ inl le ↦ le | inr lt ↦ absurd (h (λ le. absurd (omega (arith, le, lt)))) ]

main_ref : IsRef (codes "refs/heads/main")
main_ref = record { some = omega arith; short = omega arith; bytes = AllPass-from_list_all is_ref_byte (codes "refs/heads/main") refl }

module _ (bodies : Bodies) (children_of : Name → Option (List Name)) (root : Name) (order : List Name) (is_order : IsPostorder children_of root order)
    (many long : Type 0) (none : (n : Name) → Contains order n → BreaksNone (BreaksIn bodies root order many long) n) where
  no_dots : (n : Name) → Contains order n → HasDots bodies n → ⊥
  no_dots n there = none n there Dots

  no_long : (n : Name) → Contains order n → HasLongPath bodies (IsRevisionRoot bodies order) n → ⊥
  no_long n there = none n there Path

  pub no_empty : (n : Name) → Contains order n → (parent : Name) (e : DirectoryEntry) → Contains order parent → HasDirectoryEntry bodies parent e → e.mode ≡ 40000 → n ≡ directory_name e.id → HoldsDirectory bodies n [] → ⊥
  no_empty n there parent e at_parent has folder named empty =
      none n there Empty (record { kind = ap (λ (m : Name). m.kind) named; empty = empty; parent = parent; there = at_parent; entry = e; is_entry = has; folder = folder; named = named })

  pub root_there : Contains order root
  root_there = (order_are children_of root order is_order root).1 ([], refl)

  pub no_odd : root.kind ≡ SnapshotKind → HasOddBranch bodies root root → ⊥
  no_odd kind odd = none root root_there Branch (kind, inr odd)

  branch_ref : (branches : List SnapshotBranch) → root.kind ≡ SnapshotKind → HoldsSnapshot bodies root branches → (b : SnapshotBranch) (n : Name) → Contains branches b → b.target ≡ ToObject n → n.kind ≡ RevisionKind → IsRef b.name
  branch_ref branches kind holds b n one target is =
      ref_stable b.name (λ not_ref. no_odd kind (record {
        branches = branches;
        holds = holds;
        odd = record { branch = b; there = one; odd = λ carried. not_ref (subst (IsCarriedObject bodies b.name n) is (subst (IsCarriedTarget bodies b.name) target carried)) };
      }))

module _ (bodies : Bodies) (children_of : Name → Option (List Name)) (graph : IsGraphOf bodies children_of) (root : Name) (order : List Name) (is_order : IsPostorder children_of root order) (preceded : ArePreceded children_of order)
    (many long : Type 0) (none : (n : Name) → Contains order n → BreaksNone (BreaksIn bodies root order many long) n) (in_limit : AreInLimit bodies) (of_bytes : AreOfBytes bodies order) (marks : (n : Name) → Contains order n → IsMarkNumber (mark_of order n)) where
  rows_of : (name : Name) → Contains order name → name.kind ≡ RevisionKind → (body : List ℕ) → body_of bodies name ≡ Some body → (p : PlainRevision) (is : IsPlainRevision body p) (rows : List Row) → IsPathWalk bodies (directory_name p.directory) rows → AllByRecursion (IsGoodRow order) rows
  rows_of name there kind body held p is rows walk =
      let start : Name = directory_name p.directory in
      let r : Revision = record { directory = p.directory; parents = p.parents; rest = is.bytes } in
      let begins : IsRevisionRoot bodies order start = record { commit = name; there = there; kind = kind; revision = r; holds = record { body = body; held = held; is = is.revision }; named = refl } in
      subst (AllByRecursion (IsGoodRow order)) (sym walk.rows_are)
      (walk_good bodies children_of graph order preceded of_bytes (no_dots bodies children_of root order is_order many long none) (IsRevisionRoot bodies order) (no_long bodies children_of root order is_order many long none) marks start begins walk.tree (directory_in bodies children_of graph order preceded name body there held p kind is) refl walk.is)

  commit_good : (name : Name) → Contains order name → name.kind ≡ RevisionKind → (text : List ℕ) (t : IsCommit bodies order name text) → IsGoodCommit order name t.plain t.rows
  commit_good name there kind text t =
      let size = revision_message t.body t.plain t.is_plain in
      let short = in_limit name t.body t.held in
      record {
        mark = marks name there;
        author = t.is_plain.rest.author;
        committer = t.is_plain.rest.committer;
        encoding = t.is_plain.rest.encoding;
        message = omega (arith, size, short);
        parents = all_from (λ (id : List ℕ). IsMarkNumber (mark_of order (revision_name id))) t.plain.parents (λ id one. marks (revision_name id) (parents_in bodies children_of graph order preceded name t.body there t.held t.plain kind t.is_plain id one));
        files = rows_of name there kind t.body t.held t.plain t.is_plain t.rows t.walk;
      }

  tag_good : (name : Name) → Contains order name → name.kind ≡ ReleaseKind → (text : List ℕ) (t : IsTag bodies order name text) → IsGoodTag bodies order name text t
  tag_good name there kind text t =
      let size = release_message t.body t.plain t.is_plain in
      let short = in_limit name t.body t.held in
      record {
        mark = marks name there;
        object = marks t.plain.object (object_in bodies children_of graph order preceded name t.body there t.held t.plain kind t.is_plain);
        message = omega (arith, size, short);
      }

  good_by : (name : Name) → Contains order name → (kind : Kind) → name.kind ≡ kind → IsGoodText bodies order kind name
  good_by name there Content e = (marks name there, λ body held. in_limit name body held)
  good_by name there DirectoryKind e = tt
  good_by name there RevisionKind e = commit_good name there e
  good_by name there ReleaseKind e = tag_good name there e
  good_by name there SnapshotKind e = tt

  pub objects_good : (n : Name) → Contains order n → IsGoodText bodies order n.kind n
  objects_good n there = good_by n there n.kind refl

  -- ## Branches

  all_append : (a b : List (List ℕ × Name)) → AllByRecursion (IsGoodTip order) a → AllByRecursion (IsGoodTip order) b → AllByRecursion (IsGoodTip order) (a ++ b)
  all_append [] b h k = k
  all_append (r ∷ a) b h k = (h.0, all_append a b h.1 k)

  object_good : (branch : List ℕ) (n : Name) (kind : Kind) → n.kind ≡ kind → (n.kind ≡ RevisionKind → IsRef branch × Contains order n) → AllByRecursion (IsGoodTip order) (object_tips branch n kind)
  object_good branch n Content e h = tt
  object_good branch n DirectoryKind e h = tt
  object_good branch n RevisionKind e h = (((h e).0, marks n (h e).1), tt)
  object_good branch n ReleaseKind e h = tt
  object_good branch n SnapshotKind e h = tt

  target_good : (branch : List ℕ) (target : BranchTarget) → ((n : Name) → target ≡ ToObject n → n.kind ≡ RevisionKind → IsRef branch × Contains order n) → AllByRecursion (IsGoodTip order) (branch_tips (record { name = branch; target = target }))
  target_good branch (ToObject n) h = object_good branch n n.kind refl (h n refl)
  target_good branch (ToBranch other) h = tt
  target_good branch ToNothing h = tt

  branches_good : (bs : List SnapshotBranch) → ((b : SnapshotBranch) (n : Name) → Contains bs b → b.target ≡ ToObject n → n.kind ≡ RevisionKind → IsRef b.name × Contains order n) → AllByRecursion (IsGoodTip order) (flat_map branch_tips bs)
  branches_good [] h = tt
  branches_good (b ∷ bs) h = all_append (branch_tips b) (flat_map branch_tips bs) (target_good b.name b.target (λ n e is. h b n (in_first b bs) e is)) (branches_good bs (λ c n there e is. h c n (in_rest b bs c there) e is))

  tips_by : (kind : Kind) → root.kind ≡ kind → (tips : List (List ℕ × Name)) → AreRootTips bodies order root kind tips → AllByRecursion (IsGoodTip order) tips
  tips_by Content e tips are = subst (AllByRecursion (IsGoodTip order)) (sym are) tt
  tips_by DirectoryKind e tips are = subst (AllByRecursion (IsGoodTip order)) (sym are) tt
  tips_by RevisionKind e tips are = subst (AllByRecursion (IsGoodTip order)) (sym are) ((main_ref, marks root (root_there bodies children_of root order is_order many long none)), tt)
  tips_by ReleaseKind e tips are = subst (AllByRecursion (IsGoodTip order)) (sym are) tt
  tips_by SnapshotKind e tips (branches, holds, are) =
      let lead = tips_in bodies children_of graph order preceded root (root_there bodies children_of root order is_order many long none) e branches holds in
      subst (AllByRecursion (IsGoodTip order)) (sym are) (branches_good branches (λ b n one target is. (branch_ref bodies children_of root order is_order many long none branches e holds b n one target is, lead b n one target is)))

  pub tips_good : (tips : List (List ℕ × Name)) → AreRootTips bodies order root root.kind tips → AllByRecursion (IsGoodTip order) tips
  tips_good tips are = tips_by root.kind refl tips are
