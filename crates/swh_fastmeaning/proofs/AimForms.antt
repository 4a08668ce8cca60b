-- Marks and tips with their trees in another form, and what they lead to.
use Rattle.std.proofs.Common.{◌≡◌, ℕ, ◌≤◌, Bool, true, false, cond, Option, Some, None, Result, Ok, Err, List, [], ◌∷◌, map, refl, sym, ap, ◌∙◌, subst, arith}
use Rattle.std.specs.List.{AllByRecursion}
use Rattle.std.specs.Option.{option_map}
use Rattle.std.specs.Ordering.{nat_cmp, match_ordering}
use Rattle.std.specs.declared.cmp.Ordering.{Ordering}
use Rattle.std.specs.declared.cmp.Ordering.TheVariants.{Less, Equal, Greater}
use Rattle.std.specs.Cmp.Lexicographic.{slice_cmp}
use Rattle.std.specs.Map.{lookup, remove_entry}
use Rattle.std.specs.BTreeMap.{insert_entry, is_at}
use Rattle.swh_base.specs.declared.kind.Kind.{Kind}
use Rattle.swh_base.specs.declared.kind.Kind.TheVariants.{Content, Directory, Revision, Release, Snapshot}
use Rattle.swh_base.specs.Text.{IsRef}
use Rattle.swh_base.proofs.Elementary.{all_as}
use Rattle.swh_model.specs.Meaning.{Made}
use Rattle.swh_trees.specs.declared.tree.Tree.{Tree}
use Rattle.swh_forest.specs.Roots.{IsBelow}
use Rattle.swh_fastgrammar.specs.declared.command.At.{At}
use Rattle.swh_fastgrammar.specs.declared.command.Commitish.{Commitish}
use Rattle.swh_fastgrammar.specs.declared.command.Commitish.TheVariants.{Mark, Branch}
use Rattle.swh_fastgrammar.specs.declared.command.Dataref.{Dataref}
use Rattle.swh_fastgrammar.specs.declared.command.Dataref.TheVariants.{Mark as MarkOf, Inline, Hex}
use Rattle.swh_fastgrammar.specs.declared.command.Change.{Change}
use Rattle.swh_fastgrammar.specs.declared.command.Change.TheVariants.{Set, Delete, Copy, Move, Clear}
use Rattle.swh_fastgrammar.specs.declared.fault.StreamWhy.{StreamWhy}
use Rattle.swh_fastgrammar.specs.declared.fault.StreamWhy.TheVariants.{Mark as NoMark, Branch as NoBranch}
use Rattle.swh_fastmeaning.specs.Aims.{Aim, AllAims, Missing, or_missing, mark_at, tip_at, with_mark, with_tip, without_tip, if_commit, if_blob, commit_at, object_at, blob_at, aim_with, aims_with}
use Rattle.swh_fastmeaning.specs.Commands.{Changed, set_to, changed, all_changed, put, ◌>>=◌}
use Rattle.swh_fastmeaning.specs.Stock.{IsAimAmong, IsTipAmong, AreAimsAmong}
use Rattle.swh_fastmeaning.proofs.MappedMaps.{lookup-mapped, remove-mapped, insert-mapped}
use Rattle.swh_dedup.proofs.Givens.{AreAlso, more_names}

-- what is there, in another form
abbrev pub ok_map : {X Y : Type 0} → (X → Y) → Result X Missing → Result Y Missing
ok_map f (Ok x) = Ok (f x)
ok_map f (Err m) = Err m

or_missing-map : {X Y : Type 0} (f : X → Y) (o : Option X) (at : ℕ) (why : StreamWhy) → or_missing (option_map f o) at why ≡ ok_map f (or_missing o at why)
or_missing-map f None at why = refl
or_missing-map f (Some x) at why = refl

module _ {T U : Type 0} (f : T → U) where
  if_commit-map : (o : Option (Aim T)) → if_commit (option_map (aim_with f) o) ≡ option_map (aim_with f) (if_commit o)
  if_commit-map None = refl
  if_commit-map (Some aim) =
      elim aim.name.kind as (λ k. elim k as (λ _. Option (Aim U)) [ Content ↦ None | Directory ↦ None | Revision ↦ Some (aim_with f aim) | Release ↦ None | Snapshot ↦ None ]
      ≡ option_map (aim_with f) (elim k as (λ _. Option (Aim T)) [ Content ↦ None | Directory ↦ None | Revision ↦ Some aim | Release ↦ None | Snapshot ↦ None ])) [
        | Content ↦ refl
        | Directory ↦ refl
        | Revision ↦ refl
        | Release ↦ refl
        | Snapshot ↦ refl
      ]

  if_blob-map : (o : Option (Aim T)) → if_blob (option_map (aim_with f) o) ≡ option_map (aim_with f) (if_blob o)
  if_blob-map None = refl
  if_blob-map (Some aim) =
      elim aim.name.kind as (λ k. elim k as (λ _. Option (Aim U)) [ Content ↦ Some (aim_with f aim) | Directory ↦ None | Revision ↦ None | Release ↦ None | Snapshot ↦ None ]
      ≡ option_map (aim_with f) (elim k as (λ _. Option (Aim T)) [ Content ↦ Some aim | Directory ↦ None | Revision ↦ None | Release ↦ None | Snapshot ↦ None ])) [
        | Content ↦ refl
        | Directory ↦ refl
        | Revision ↦ refl
        | Release ↦ refl
        | Snapshot ↦ refl
      ]

  pub mark_at-map : (mark : ℕ) (aims : AllAims T) → mark_at mark (aims_with f aims) ≡ option_map (aim_with f) (mark_at mark aims)
  mark_at-map mark aims = lookup-mapped (λ (k : ℕ). k) (aim_with f) (is_at (nat_cmp mark)) aims.marks

  pub tip_at-map : (ref : List ℕ) (aims : AllAims T) → tip_at ref (aims_with f aims) ≡ option_map (aim_with f) (tip_at ref aims)
  tip_at-map ref aims = lookup-mapped (λ (k : List ℕ). k) (aim_with f) (is_at (slice_cmp nat_cmp ref)) aims.tips

  pub commit_tip-map : (ref : List ℕ) (aims : AllAims T) → if_commit (tip_at ref (aims_with f aims)) ≡ option_map (aim_with f) (if_commit (tip_at ref aims))
  commit_tip-map ref aims = ap if_commit (tip_at-map ref aims) ∙ if_commit-map (tip_at ref aims)

  pub commit_at-map : (aims : AllAims T) (at : ℕ) (it : Commitish) → commit_at (aims_with f aims) at it ≡ ok_map (aim_with f) (commit_at aims at it)
  commit_at-map aims at (Mark mark) =
      ap (λ (o : Option (Aim U)). or_missing o at NoMark) (ap if_commit (mark_at-map mark aims) ∙ if_commit-map (mark_at mark aims)) ∙ or_missing-map (aim_with f) (if_commit (mark_at mark aims)) at NoMark
  commit_at-map aims at (Branch ref) =
      ap (λ (o : Option (Aim U)). or_missing o at NoBranch) (commit_tip-map ref aims) ∙ or_missing-map (aim_with f) (if_commit (tip_at ref aims)) at NoBranch

  pub object_at-map : (aims : AllAims T) (at : ℕ) (it : Commitish) → object_at (aims_with f aims) at it ≡ ok_map (aim_with f) (object_at aims at it)
  object_at-map aims at (Mark mark) =
      ap (λ (o : Option (Aim U)). or_missing o at NoMark) (mark_at-map mark aims) ∙ or_missing-map (aim_with f) (mark_at mark aims) at NoMark
  object_at-map aims at (Branch ref) =
      ap (λ (o : Option (Aim U)). or_missing o at NoBranch) (commit_tip-map ref aims) ∙ or_missing-map (aim_with f) (if_commit (tip_at ref aims)) at NoBranch

  blob_at-map : (aims : AllAims T) (at mark : ℕ) → blob_at (aims_with f aims) at mark ≡ ok_map (aim_with f) (blob_at aims at mark)
  blob_at-map aims at mark =
      ap (λ (o : Option (Aim U)). or_missing o at NoMark) (ap if_blob (mark_at-map mark aims) ∙ if_blob-map (mark_at mark aims)) ∙ or_missing-map (aim_with f) (if_blob (mark_at mark aims)) at NoMark

  pub with_mark-map : (mark : Option ℕ) (aim : Aim T) (aims : AllAims T) → aims_with f (with_mark mark aim aims) ≡ with_mark mark (aim_with f aim) (aims_with f aims)
  with_mark-map None aim aims = refl
  with_mark-map (Some mark) aim aims =
      ap (λ (es : List (ℕ × Aim U)). let a : AllAims U = record { marks = es; tips = (aims_with f aims).tips } in a) (sym (insert-mapped (λ (k : ℕ). k) (aim_with f) nat_cmp aims.marks mark aim))

  pub with_tip-map : (ref : List ℕ) (aim : Aim T) (aims : AllAims T) → aims_with f (with_tip ref aim aims) ≡ with_tip ref (aim_with f aim) (aims_with f aims)
  with_tip-map ref aim aims =
      ap (λ (es : List (List ℕ × Aim U)). let a : AllAims U = record { marks = (aims_with f aims).marks; tips = es } in a) (sym (insert-mapped (λ (k : List ℕ). k) (aim_with f) (slice_cmp nat_cmp) aims.tips ref aim))

  pub without_tip-map : (ref : List ℕ) (aims : AllAims T) → aims_with f (without_tip ref aims) ≡ without_tip ref (aims_with f aims)
  without_tip-map ref aims =
      ap (λ (es : List (List ℕ × Aim U)). let a : AllAims U = record { marks = (aims_with f aims).marks; tips = es } in a) (sym (remove-mapped (λ (k : List ℕ). k) (aim_with f) (is_at (slice_cmp nat_cmp ref)) aims.tips))

  bind-map : {Y : Type 0} (r : Result (Aim T) Missing) (k : Aim T → Result Y Missing) (j : Aim U → Result Y Missing) → ((a : Aim T) → j (aim_with f a) ≡ k a) → (ok_map (aim_with f) r >>= j) ≡ (r >>= k)
  bind-map (Ok a) k j e = e a
  bind-map (Err m) k j e = refl

  module _ (id : Kind → List ℕ → List ℕ) (aims : AllAims T) where
    set_to-map : (at : ℕ) (what : Dataref) → set_to id (aims_with f aims) at what ≡ set_to id aims at what
    set_to-map at (MarkOf mark) =
        ap (λ (r : Result (Aim U) Missing). r >>= λ aim. let o : Result (List ℕ × List Made) Missing = Ok (aim.name.id, []) in o) (blob_at-map aims at mark)
        ∙ bind-map (blob_at aims at mark) (λ aim. let o : Result (List ℕ × List Made) Missing = Ok (aim.name.id, []) in o) (λ aim. let o : Result (List ℕ × List Made) Missing = Ok (aim.name.id, []) in o) (λ a. refl)
    set_to-map at (Inline bytes) = refl
    set_to-map at (Hex i) = refl

    changed-map : (at : ℕ) (it : Change) (c : Changed) → changed id (aims_with f aims) at it c ≡ changed id aims at it c
    changed-map at (Set mode what path) c =
        ap (λ (r : Result (List ℕ × List Made) Missing). r >>= λ s. let o : Result Changed Missing = Ok (put c path mode s.0 s.1) in o) (set_to-map at what)
    changed-map at (Delete path) c = refl
    changed-map at (Copy source path) c = refl
    changed-map at (Move source path) c = refl
    changed-map at Clear c = refl

    then-map : (changes : List (At Change)) (r : Result Changed Missing) → ((c : Changed) → all_changed id (aims_with f aims) changes c ≡ all_changed id aims changes c)
        → (r >>= λ d. all_changed id (aims_with f aims) changes d) ≡ (r >>= λ d. all_changed id aims changes d)
    then-map changes (Ok c) h = h c
    then-map changes (Err m) h = refl

    pub all_changed-map : (changes : List (At Change)) (c : Changed) → all_changed id (aims_with f aims) changes c ≡ all_changed id aims changes c
    all_changed-map [] c = refl
    all_changed-map (a ∷ more) c =
        ap (λ (r : Result Changed Missing). r >>= λ d. all_changed id (aims_with f aims) more d) (changed-map a.at a.it c) ∙ then-map more (changed id aims a.at a.it c) (λ d. all_changed-map more d)

-- ## What they lead to

all_inserted : {K X : Type 0} (P : K × X → Type 0) → ((a b : K × X) → P a → P b → P (a.0, b.1)) → (cmp : K → K → Ordering) (es : List (K × X)) (k : K) (v : X) → AllByRecursion P es → P (k, v) → AllByRecursion P (insert_entry cmp es k v)
all_inserted P mix cmp [] k v h p = (p, tt)
all_inserted {K} {X} P mix cmp (e ∷ es) k v h p =
    elim (cmp k e.0) as (λ o. AllByRecursion P (match_ordering o ((k, v) ∷ e ∷ es) ((e.0, v) ∷ es) (e ∷ insert_entry cmp es k v))) [
      | Less ↦ (p, h)
      | Equal ↦ (mix e (k, v) h.0 p, h.1)
      | Greater ↦ (h.0, all_inserted P mix cmp es k v h.1 p)
    ]

all_removed : {K X : Type 0} (P : K × X → Type 0) (test : K → Bool) (es : List (K × X)) → AllByRecursion P es → AllByRecursion P (remove_entry test es)
all_removed P test [] h = tt
all_removed P test (e ∷ es) h =
    elim (test e.0) as (λ b. AllByRecursion P (cond b es (e ∷ remove_entry test es))) [
      | true ↦ h.1
      | false ↦ (h.0, all_removed P test es h.1)
    ]

looked_up : {K X : Type 0} (P : K × X → Type 0) (R : X → Type 0) → ((e : K × X) → P e → R e.1) → (test : K → Bool) (es : List (K × X)) (x : X) → AllByRecursion P es → lookup test es ≡ Some x → R x
looked_up P R use_it test [] x h l = absurd cc
looked_up {K} {X} P R use_it test (e ∷ es) x h l = by_test (test e.0) (looked_up P R use_it test es x h.1) l
  where
    some_is : (a b : X) → Some a ≡ Some b → a ≡ b
    some_is a b q = cc

    by_test : (b : Bool) → (lookup test es ≡ Some x → R x) → cond b (Some e.1) (lookup test es) ≡ Some x → R x
    by_test true k q = subst R (some_is e.1 x q) (use_it e h.0)
    by_test false k q = k q

-- what a commit is
pub commit_is : {T : Type 0} (o : Option (Aim T)) (a : Aim T) → if_commit o ≡ Some a → (o ≡ Some a) × (a.name.kind ≡ Revision)
commit_is None a e = absurd cc
commit_is {T} (Some b) a e = by_kind b.name.kind refl e
  where
    some_is : Some b ≡ Some a → b ≡ a
    some_is q = cc

    by_kind : (k : Kind) → b.name.kind ≡ k → elim k as (λ _. Option (Aim T)) [ Content ↦ None | Directory ↦ None | Revision ↦ Some b | Release ↦ None | Snapshot ↦ None ] ≡ Some a → (Some b ≡ Some a) × (a.name.kind ≡ Revision)
    by_kind Content i q = absurd cc
    by_kind Directory i q = absurd cc
    by_kind Revision i q = (q, ap (λ (t : Aim T). t.name.kind) (sym (some_is q)) ∙ i)
    by_kind Release i q = absurd cc
    by_kind Snapshot i q = absurd cc

pub blob_is : {T : Type 0} (o : Option (Aim T)) (a : Aim T) → if_blob o ≡ Some a → (o ≡ Some a) × (a.name.kind ≡ Content)
blob_is None a e = absurd cc
blob_is {T} (Some b) a e = by_kind b.name.kind refl e
  where
    some_is : Some b ≡ Some a → b ≡ a
    some_is q = cc

    by_kind : (k : Kind) → b.name.kind ≡ k → elim k as (λ _. Option (Aim T)) [ Content ↦ Some b | Directory ↦ None | Revision ↦ None | Release ↦ None | Snapshot ↦ None ] ≡ Some a → (Some b ≡ Some a) × (a.name.kind ≡ Content)
    by_kind Content i q = (q, ap (λ (t : Aim T). t.name.kind) (sym (some_is q)) ∙ i)
    by_kind Directory i q = absurd cc
    by_kind Revision i q = absurd cc
    by_kind Release i q = absurd cc
    by_kind Snapshot i q = absurd cc

there_is : {X : Type 0} (o : Option X) (at : ℕ) (why : StreamWhy) (x : X) → or_missing o at why ≡ Ok x → o ≡ Some x
there_is None at why x e = absurd cc
there_is (Some y) at why x e = cc

module _ (id : Kind → List ℕ → List ℕ) (folders : ℕ) (given : List Made) (aims : AllAims Tree) where
  -- a mark's object was given
  pub mark_among : (mark : ℕ) (a : Aim Tree) → AreAimsAmong id folders given aims → mark_at mark aims ≡ Some a → IsAimAmong id folders given a
  mark_among mark a h e =
      looked_up (λ (m : ℕ × Aim Tree). IsAimAmong id folders given m.1) (IsAimAmong id folders given) (λ m p. p) (is_at (nat_cmp mark)) aims.marks a h.marks e

  pub tip_among : (ref : List ℕ) (a : Aim Tree) → AreAimsAmong id folders given aims → tip_at ref aims ≡ Some a → IsAimAmong id folders given a
  tip_among ref a h e =
      looked_up (IsTipAmong id folders given) (IsAimAmong id folders given) (λ t p. p.aim) (is_at (slice_cmp nat_cmp ref)) aims.tips a h.tips e

  pub commit_tip_among : (ref : List ℕ) (a : Aim Tree) → AreAimsAmong id folders given aims → if_commit (tip_at ref aims) ≡ Some a → IsAimAmong id folders given a × (a.name.kind ≡ Revision)
  commit_tip_among ref a h e = let c = commit_is (tip_at ref aims) a e in (tip_among ref a h c.0, c.1)

  pub commit_among : (at : ℕ) (it : Commitish) (a : Aim Tree) → AreAimsAmong id folders given aims → commit_at aims at it ≡ Ok a → IsAimAmong id folders given a × (a.name.kind ≡ Revision)
  commit_among at (Mark mark) a h e = let c = commit_is (mark_at mark aims) a (there_is (if_commit (mark_at mark aims)) at NoMark a e) in (mark_among mark a h c.0, c.1)
  commit_among at (Branch ref) a h e = commit_tip_among ref a h (there_is (if_commit (tip_at ref aims)) at NoBranch a e)

  pub object_among : (at : ℕ) (it : Commitish) (a : Aim Tree) → AreAimsAmong id folders given aims → object_at aims at it ≡ Ok a → IsAimAmong id folders given a
  object_among at (Mark mark) a h e = mark_among mark a h (there_is (mark_at mark aims) at NoMark a e)
  object_among at (Branch ref) a h e = (commit_tip_among ref a h (there_is (if_commit (tip_at ref aims)) at NoBranch a e)).0

  pub blob_among : (at mark : ℕ) (a : Aim Tree) → AreAimsAmong id folders given aims → blob_at aims at mark ≡ Ok a → IsAimAmong id folders given a × (a.name.kind ≡ Content)
  blob_among at mark a h e = let c = blob_is (mark_at mark aims) a (there_is (if_blob (mark_at mark aims)) at NoMark a e) in (mark_among mark a h c.0, c.1)

  pub marked_among : (mark : Option ℕ) (a : Aim Tree) → AreAimsAmong id folders given aims → IsAimAmong id folders given a → AreAimsAmong id folders given (with_mark mark a aims)
  marked_among None a h i = h
  marked_among (Some mark) a h i = record {
    marks = all_inserted (λ (m : ℕ × Aim Tree). IsAimAmong id folders given m.1) (λ x y p q. q) nat_cmp aims.marks mark a h.marks i;
    tips = h.tips;
  }

  pub tipped_among : (ref : List ℕ) (a : Aim Tree) → AreAimsAmong id folders given aims → IsRef ref → IsAimAmong id folders given a → AreAimsAmong id folders given (with_tip ref a aims)
  tipped_among ref a h r i = record {
    marks = h.marks;
    tips = all_inserted (IsTipAmong id folders given) (λ x y p q. record { ref = p.ref; aim = q.aim }) (slice_cmp nat_cmp) aims.tips ref a h.tips (record { ref = r; aim = i });
  }

  pub untipped_among : (ref : List ℕ) → AreAimsAmong id folders given aims → AreAimsAmong id folders given (without_tip ref aims)
  untipped_among ref h = record { marks = h.marks; tips = all_removed (IsTipAmong id folders given) (is_at (slice_cmp nat_cmp ref)) aims.tips h.tips }

  below_more : (n m : ℕ) (o : Option ℕ) → n ≤ m → IsBelow n o → IsBelow m o
  below_more n m None l h = tt
  below_more n m (Some k) l h = omega arith

  pub aim_more : (more : ℕ) (after : List Made) (a : Aim Tree) → folders ≤ more → AreAlso given after → IsAimAmong id folders given a → IsAimAmong id more after a
  aim_more more after a l sub h = record { tree = below_more folders more a.tree.number l h.tree; named = more_names id given after a.name sub h.named; kind = h.kind }

  pub aims_more : (more : ℕ) (after : List Made) → folders ≤ more → AreAlso given after → AreAimsAmong id folders given aims → AreAimsAmong id more after aims
  aims_more more after l sub h = record {
    marks = all_as (λ (e : ℕ × Aim Tree). IsAimAmong id folders given e.1) (λ (e : ℕ × Aim Tree). IsAimAmong id more after e.1) (λ e. aim_more more after e.1 l sub) aims.marks h.marks;
    tips = all_as (IsTipAmong id folders given) (IsTipAmong id more after) (λ e p. record { ref = p.ref; aim = aim_more more after e.1 l sub p.aim }) aims.tips h.tips;
  }

  same_map : {A B : Type 0} (P : A → Type 0) (f g : A → B) (es : List A) → AllByRecursion P es → ((e : A) → P e → f e ≡ g e) → map f es ≡ map g es
  same_map P f g [] h k = refl
  same_map P f g (e ∷ es) h k = let first = k e h.0 in let others = same_map P f g es h.1 k in cc

  -- two forms that agree on the trees whose objects were made
  pub aims_same : {U : Type 0} (f g : Tree → U) → AreAimsAmong id folders given aims → ((t : Tree) → IsBelow folders t.number → f t ≡ g t) → aims_with f aims ≡ aims_with g aims
  aims_same {U} f g h k =
      let same : (a : Aim Tree) → IsAimAmong id folders given a → aim_with f a ≡ aim_with g a = λ a i. ap (λ (t : U). let b : Aim U = record { name = a.name; tree = t } in b) (k a.tree i.tree) in
      let marks = same_map (λ (e : ℕ × Aim Tree). IsAimAmong id folders given e.1) (λ (e : ℕ × Aim Tree). (e.0, aim_with f e.1)) (λ (e : ℕ × Aim Tree). (e.0, aim_with g e.1)) aims.marks h.marks
      (λ e i. ap (λ (b : Aim U). (e.0, b)) (same e.1 i)) in
      let tips = same_map (IsTipAmong id folders given) (λ (e : List ℕ × Aim Tree). (e.0, aim_with f e.1)) (λ (e : List ℕ × Aim Tree). (e.0, aim_with g e.1)) aims.tips h.tips
      (λ e i. ap (λ (b : Aim U). (e.0, b)) (same e.1 i.aim)) in
      ap (λ (es : List (ℕ × Aim U)). let a : AllAims U = record { marks = es; tips = (aims_with f aims).tips } in a) marks
      ∙ ap (λ (es : List (List ℕ × Aim U)). let a : AllAims U = record { marks = (aims_with g aims).marks; tips = es } in a) tips
