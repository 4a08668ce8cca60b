-- What is known of all that is reached, and the rules that it tells of.
use Rattle.std.proofs.Common.{Result, Ok, Err, ◌≡◌, ◌⊎◌, inl, inr, ℕ, ◌+◌, ◌<◌, ◌≤◌, Bool, true, false, Option, Some, None, List, [], ◌∷◌, ◌++◌, length, refl, sym, ap, ◌∙◌, subst, arith}
use Rattle.std.specs.Prelude.{Contains, ◌↔◌, IsTrue, IfOk, OnOk, IfSome, IfNone}
use Rattle.swh_base.specs.declared.kind.Kind.TheVariants.{Directory as DirectoryKind, Release as ReleaseKind}
use Rattle.swh_base.specs.declared.name.Name.{Name}
use Rattle.swh_base.specs.Directory.{DirectoryEntry, IsDirectory}
use Rattle.swh_base.specs.Limits.{path_limit}
use Rattle.swh_base.specs.Snapshot.{SnapshotBranch, BranchTarget, ToObject, ToBranch, ToNothing, IsSnapshot}
use Rattle.swh_base.proofs.DirectoryLemmas.{one_listing_lem}
use Rattle.swh_base.proofs.SnapshotLemmas.{one_snapshot}
use Rattle.swh_base.proofs.Elementary.{none_in}
use Rattle.swh_model.specs.Archive.{Bodies, body_of}
use Rattle.swh_graph.specs.Holding.{HoldsDirectory, HoldsSnapshot}
use Rattle.swh_graph.proofs.Lists.{same_some}
use Rattle.swh_carried.specs.declared.fault.Why.{Why}
use Rattle.swh_carried.specs.declared.fault.Why.TheVariants.{Cycle, Revision, Release, Empty, Dots, Text, Path, Branch, Tagless, Refs, Length}
use Rattle.swh_carried.specs.Rules.{HasDirectoryEntry, HasDots, HasLongPath, way_length}
use Rattle.swh_carried.specs.Ways.{Tells, RaisesOverAll, TellsOfFolders}
use Rattle.swh_fastcarried.specs.First.{HaveDots, IsOneOf, IsFolderAt, IsOwnTag}
use Rattle.swh_fastcarried.specs.Known.{IsEmptyFolder, IsLongOver, IsFolderRule}
use Rattle.swh_fastcarried.specs.Rules.{IsEmptyEntry, IsRevisionRoot, HasOddBranch, HaveOddBranch, StandsAtBranch}
use Rattle.swh_fastcarried.specs.RevisionWays.{IsWay}

-- the same rule, where the same are broken
pub rule_same : (e d p e' d' p' : Type 0) → e ↔ e' → d ↔ d' → p ↔ p' → (rule : Option Why) → IsFolderRule e d p rule → IsFolderRule e' d' p' rule
rule_same e d p e' d' p' a b c None (x, y, z) = (λ h. x (a.1 h), λ h. y (b.1 h), λ h. z (c.1 h))
rule_same e d p e' d' p' a b c (Some Empty) is = a.0 is
rule_same e d p e' d' p' a b c (Some Dots) (x, y) = (λ h. x (a.1 h), b.0 y)
rule_same e d p e' d' p' a b c (Some Path) (x, y, z) = (λ h. x (a.1 h), λ h. y (b.1 h), c.0 z)
rule_same e d p e' d' p' a b c (Some Cycle) is = is
rule_same e d p e' d' p' a b c (Some Revision) is = is
rule_same e d p e' d' p' a b c (Some Release) is = is
rule_same e d p e' d' p' a b c (Some Text) is = is
rule_same e d p e' d' p' a b c (Some Branch) is = is
rule_same e d p e' d' p' a b c (Some Tagless) is = is
rule_same e d p e' d' p' a b c (Some Refs) is = is
rule_same e d p e' d' p' a b c (Some Length) is = is

module _ (bodies : Bodies) (order : List Name) (name : Name) where
  abbrev E : Type 0
  E = IsEmptyEntry bodies order name

  abbrev D : Type 0
  D = HasDots bodies name

  abbrev P : Type 0
  P = HasLongPath bodies (IsRevisionRoot bodies order) name

  -- nothing is broken by what is not held
  pub none_broken : body_of bodies name ≡ None → IsFolderRule (IsEmptyEntry bodies order name) (HasDots bodies name) (HasLongPath bodies (IsRevisionRoot bodies order) name) None
  none_broken missing = (
    λ h. let e : Some h.empty.body ≡ None = sym h.empty.held ∙ missing in cc,
    λ h. let e : Some h.is_entry.body ≡ None = sym h.is_entry.held ∙ missing in cc,
    λ h. let e : Some h.is_entry.body ≡ None = sym h.is_entry.held ∙ missing in cc,
  )

  module _ (kind : name.kind ≡ DirectoryKind) (entries : List DirectoryEntry) (holds : HoldsDirectory bodies name entries) where
    same_entries : (body : List ℕ) (es : List DirectoryEntry) → body_of bodies name ≡ Some body → IsDirectory body es → es ≡ entries
    same_entries body es held is = one_listing_lem holds.body es entries (subst (λ (b : List ℕ). IsDirectory b es) (same_some body holds.body (sym held ∙ holds.held)) is) holds.is

    has_entry : (e : DirectoryEntry) → Contains entries e → HasDirectoryEntry bodies name e
    has_entry e there = record { kind = kind; body = holds.body; held = holds.held; entries = entries; is = holds.is; there = there }

    of_entry : (e : DirectoryEntry) → HasDirectoryEntry bodies name e → Contains entries e
    of_entry e has = subst (λ (es : List DirectoryEntry). Contains es e) (same_entries has.body has.entries has.held has.is) has.there

    empty_same : IsEmptyFolder (IsOneOf (IsFolderAt bodies) order) name entries ↔ E
    empty_same = (
      λ h.
          let one = h.1 in
          record {
            kind = kind;
            empty = subst (HoldsDirectory bodies name) h.0 holds;
            parent = one.one;
            there = one.there;
            entry = one.is.entry;
            is_entry = one.is.is_entry;
            folder = one.is.folder.0;
            named = one.is.folder.1;
          },
      λ h. (
        sym (same_entries h.empty.body [] h.empty.held h.empty.is),
        record { one = h.parent; there = h.there; is = record { entry = h.entry; is_entry = h.is_entry; folder = (h.folder, h.named) } },
      ),
    )

    dots_same : HaveDots entries ↔ D
    dots_same = (
      λ h. record { entry = h.entry; is_entry = has_entry h.entry h.there; is = h.is },
      λ h. record { entry = h.entry; there = of_entry h.entry h.is_entry; is = h.is },
    )

    long_by : (c most l : ℕ) → (c ≤ most) ⊎ (path_limit < most) → path_limit < c + l → path_limit < most + l
    long_by c most l (inl few) long = omega (arith, few, long)
    long_by c most l (inr over) long = omega (arith, over)

    long_same : (o : Option ℕ) → Tells (IsWay bodies order name) o → IsLongOver o entries ↔ P
    long_same None none = (λ h. absurd h, λ h. absurd (none (way_length h.way) (record { start = h.start; begins = h.begins; way = h.way; leads = h.leads; is = refl })))
    long_same (Some most) tells = (
      λ h.
          let w = tells.0.1 in
          let less = tells.0.2 in
          let long = h.long in
          let is = w.is in
          record { start = w.start; begins = w.begins; way = w.way; leads = w.leads; entry = h.entry; is_entry = has_entry h.entry h.there; long = omega (arith, less, long, is) },
      λ h. record {
        entry = h.entry;
        there = of_entry h.entry h.is_entry;
        long = long_by (way_length h.way) most (length h.entry.name) (tells.1 (way_length h.way) (record { start = h.start; begins = h.begins; way = h.way; leads = h.leads; is = refl })) h.long;
      },
    )

    pub rule_held : (o : Option ℕ) → Tells (IsWay bodies order name) o
        → (rule : Option Why) → IsFolderRule (IsEmptyFolder (IsOneOf (IsFolderAt bodies) order) name entries) (HaveDots entries) (IsLongOver o entries) rule → IsFolderRule (IsEmptyEntry bodies order name) (HasDots bodies name) (HasLongPath bodies (IsRevisionRoot bodies order) name) rule
    rule_held o tells rule is =
        rule_same (IsEmptyFolder (IsOneOf (IsFolderAt bodies) order) name entries) (HaveDots entries) (IsLongOver o entries) E D P empty_same dots_same (long_same o tells) rule is

-- ---- ways over a directory's entries

module _ (bodies : Bodies) (name : Name) (old new : List (Name × ℕ)) where
  pub nothing_told : body_of bodies name ≡ None → new ≡ old → (o : Option ℕ) → TellsOfFolders bodies name o old new
  nothing_told missing same None = same
  nothing_told missing same (Some way) = inr (missing, same)

  pub folders_told : (entries : List DirectoryEntry) → HoldsDirectory bodies name entries → (o : Option ℕ) → IfSome o (λ way. RaisesOverAll way entries old new) → IfNone o (new ≡ old) → TellsOfFolders bodies name o old new
  folders_told entries holds None some same = same
  folders_told entries holds (Some way) over none = inl (entries, holds, over)

-- ---- releases at their own branch

pub same_object : (a b : Name) → ToObject a ≡ ToObject b → a ≡ b
same_object a b e = ap (λ (t : BranchTarget). elim t [ ToObject n ↦ n | ToBranch m ↦ a | ToNothing ↦ a ]) e

module _ (bodies : Bodies) (root : Name) where
  pub tags_same : (branches : List SnapshotBranch) → HoldsSnapshot bodies root branches → (n : Name) → n.kind ≡ ReleaseKind → IsOneOf (IsOwnTag bodies) branches n ↔ StandsAtBranch bodies root n
  tags_same branches holds n kind = (
    λ h. record { branches = branches; holds = holds; branch = h.one; there = h.there; target = h.is.1; own = h.is.2 },
    λ h.
        let same = one_snapshot holds.body h.branches branches (subst (λ (b : List ℕ). IsSnapshot b h.branches) (same_some h.holds.body holds.body (sym h.holds.held ∙ holds.held)) h.holds.is) holds.is in
        record { one = h.branch; there = subst (λ (bs : List SnapshotBranch). Contains bs h.branch) same h.there; is = (kind, h.target, h.own) },
  )

  pub none_stand : body_of bodies root ≡ None → (n : Name) → StandsAtBranch bodies root n → ⊥
  none_stand missing n h = let e : Some h.holds.body ≡ None = sym h.holds.held ∙ missing in cc

  -- the branches of a snapshot that is held
  pub odd_same : (branches : List SnapshotBranch) → HoldsSnapshot bodies root branches → (top : Name) → HaveOddBranch bodies branches ↔ HasOddBranch bodies top root
  odd_same branches holds top = (
    λ h. record { branches = branches; holds = holds; odd = h },
    λ h.
        let same = one_snapshot holds.body h.branches branches (subst (λ (b : List ℕ). IsSnapshot b h.branches) (same_some h.holds.body holds.body (sym h.holds.held ∙ holds.held)) h.holds.is) holds.is in
        subst (HaveOddBranch bodies) same h.odd,
  )

  pub none_odd : body_of bodies root ≡ None → (top : Name) → HasOddBranch bodies top root → ⊥
  none_odd missing top h = let e : Some h.holds.body ≡ None = sym h.holds.held ∙ missing in cc

-- ---- the first of the order

-- what holds of an answer where there is one
pub if_ok : {T F : Type 0} {A B : T → Type 0} (r : Result T F) → ((x : T) → A x → B x) → IfOk r A → IfOk r B
if_ok (Ok x) on h = on x h
if_ok (Err e) on h = tt

pub on_ok : {T F : Type 0} {A : Type 0} (r : Result T F) → A → OnOk r A
on_ok (Ok x) h = h
on_ok (Err e) h = tt

-- a set that is empty, where nothing has the property
pub empty_set : (set : List Name) (Is : Name → Type 0) → set ≡ [] → ((n : Name) → Is n → ⊥) → (n : Name) → Contains set n ↔ Is n
empty_set set Is empty none n = (λ h. absurd (none_in n (subst (λ (l : List Name). Contains l n) empty h)), λ is. absurd (none n is))

pub then_same : {A B C : Type 0} → A ↔ B → B ↔ C → A ↔ C
then_same p q = (λ a. q.0 (p.0 a), λ c. p.1 (q.1 c))

pub not_true : {b : Bool} {P : Type 0} → IsTrue b ↔ P → b ≡ false → P → ⊥
not_true {b} both e p = let f : true ≡ false = sym (both.1 p) ∙ e in cc
