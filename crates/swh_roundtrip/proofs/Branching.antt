-- The branches of a snapshot that a stream carries, and the tips that are set for them.
use Rattle.std.proofs.Common.{◌≡◌, ◌≢◌, ◌⊎◌, inl, inr, ℕ, Bool, true, false, List, [], ◌∷◌, ◌++◌, map, Contains, refl, sym, ap, ◌∙◌, subst, codes}
use Rattle.std.specs.List.{AllByRecursion, flat_map}
use Rattle.std.specs.Ordering.{nat_cmp, match_ordering}
use Rattle.std.specs.declared.cmp.Ordering.{Ordering}
use Rattle.std.specs.declared.cmp.Ordering.TheVariants.{Less, Equal, Greater}
use Rattle.std.specs.Cmp.{Equal-is, tied_itself}
use Rattle.std.specs.Cmp.Lexicographic.{slice_cmp}
use Rattle.std.specs.BTreeMap.{is_at}
use Rattle.std.proofs.lemmas.Cmp.{nat_list_cmp_total}
use Rattle.std.proofs.lemmas.List.Elements.{Contains-append_left, Contains-append_right, Contains-append_cases}
use Rattle.swh_base.specs.declared.kind.Kind.{Kind}
use Rattle.swh_base.specs.declared.kind.Kind.TheVariants.{Content, Directory as DirectoryKind, Revision as RevisionKind, Release as ReleaseKind, Snapshot as SnapshotKind}
use Rattle.swh_base.specs.declared.name.Name.{Name}
use Rattle.swh_base.specs.Name.{name_cmp, name_cmp_total, name_cmp-IsAntisymmetric}
use Rattle.swh_base.specs.Snapshot.{SnapshotBranch, BranchTarget, ToObject, ToBranch, ToNothing, BranchIsBefore, AreBranches}
use Rattle.swh_base.proofs.Elementary.{none_in, only}
use Rattle.swh_model.specs.Meaning.{head_branch, put_branch}
use Rattle.swh_graph.proofs.Lists.{in_first, in_rest, in_cases, all_of}
use Rattle.swh_fastcarried.proofs.Reaching.{same_object}
use Rattle.swh_roundtrip.specs.Commands.{object_tips, branch_tips}
use Rattle.swh_roundtrip.proofs.AimMaps.{Sorted, at_self}
use Rattle.swh_roundtrip.proofs.TagLookups.{text_exact, same_text}

abbrev pub Pairs : Type 0
Pairs = List (List ℕ × Name)

abbrev pub PairsSorted : Pairs → Type 0
PairsSorted ps = Sorted (slice_cmp nat_cmp) nat_list_cmp_total text_exact ps

-- ## Objects and their branches

-- the branch to an object, if it leads to one
abbrev pub pair_of : List ℕ → BranchTarget → Pairs
pair_of name (ToObject n) = (name, n) ∷ []
pair_of name (ToBranch other) = []
pair_of name ToNothing = []

abbrev pub pairs : List SnapshotBranch → Pairs
pairs [] = []
pairs (b ∷ bs) = pair_of b.name b.target ++ pairs bs

abbrev pub to_branch : List ℕ × Name → SnapshotBranch
to_branch p = record { name = p.0; target = ToObject p.1 }

-- A branch of this name leads to the object.
pub record HasBranch (bs : List SnapshotBranch) (key : List ℕ) (n : Name) : Type 0 where
  pub branch : SnapshotBranch
  pub there : Contains bs branch
  pub name : branch.name ≡ key
  pub target : branch.target ≡ ToObject n

pub has_more : (b : SnapshotBranch) (bs : List SnapshotBranch) (key : List ℕ) (n : Name) → HasBranch bs key n → HasBranch (b ∷ bs) key n
has_more b bs key n h = record { branch = h.branch; there = in_rest b bs h.branch h.there; name = h.name; target = h.target }

abbrev pair : List ℕ → Name → List ℕ × Name
pair key n = (key, n)

pair_is : (key other : List ℕ) (n m : Name) → pair key n ≡ pair other m → (key ≡ other) × (n ≡ m)
pair_is key other n m e = (ap (λ (p : List ℕ × Name). p.0) e, ap (λ (p : List ℕ × Name). p.1) e)

in_pair : (name : List ℕ) (target : BranchTarget) (key : List ℕ) (n : Name) → Contains (pair_of name target) (key, n) → (name ≡ key) × (target ≡ ToObject n)
in_pair name (ToObject m) key n there = let same = pair_is name key m n (only (name, m) (key, n) there) in (same.0, ap ToObject same.1)
in_pair name (ToBranch other) key n there = absurd (none_in (key, n) there)
in_pair name ToNothing key n there = absurd (none_in (key, n) there)

pub in_pairs : (bs : List SnapshotBranch) (key : List ℕ) (n : Name) → Contains (pairs bs) (key, n) → HasBranch bs key n
in_pairs [] key n there = absurd (none_in (key, n) there)
in_pairs (b ∷ bs) key n there =
    elim (Contains-append_cases (pair_of b.name b.target) (pairs bs) (key, n) there) [
      | inl own ↦ let is = in_pair b.name b.target key n own in record { branch = b; there = in_first b bs; name = is.0; target = is.1 }
      | inr later ↦ has_more b bs key n (in_pairs bs key n later)
    ]

own_pair : (name : List ℕ) (target : BranchTarget) (n : Name) → target ≡ ToObject n → Contains (pair_of name target) (name, n)
own_pair name target n e = subst (λ (t : BranchTarget). Contains (pair_of name t) (name, n)) (sym e) (in_first (name, n) [])

pub to_pairs : (bs : List SnapshotBranch) (b : SnapshotBranch) (n : Name) → Contains bs b → b.target ≡ ToObject n → Contains (pairs bs) (b.name, n)
to_pairs [] b n there e = absurd (none_in b there)
to_pairs (c ∷ bs) b n there e =
    elim (in_cases c bs b there) [
      | inl same ↦ subst (λ (x : SnapshotBranch). Contains (pairs (c ∷ bs)) (x.name, n)) same (Contains-append_left (pair_of c.name c.target) (pairs bs) (c.name, n) (own_pair c.name c.target n (ap (λ (x : SnapshotBranch). x.target) same ∙ e)))
      | inr later ↦ Contains-append_right (pair_of c.name c.target) (pairs bs) (b.name, n) (to_pairs bs b n later e)
    ]

-- they ascend by their names
all_pairs : (a : SnapshotBranch) (name : List ℕ) (target : BranchTarget) (rest : Pairs) → slice_cmp nat_cmp a.name name ≡ Less → AllByRecursion (λ (p : List ℕ × Name). slice_cmp nat_cmp a.name p.0 ≡ Less) rest → AllByRecursion (λ (p : List ℕ × Name). slice_cmp nat_cmp a.name p.0 ≡ Less) (pair_of name target ++ rest)
all_pairs a name (ToObject n) rest l h = (l, h)
all_pairs a name (ToBranch other) rest l h = h
all_pairs a name ToNothing rest l h = h

before_pairs : (a : SnapshotBranch) (bs : List SnapshotBranch) → AllByRecursion (λ (b : SnapshotBranch). BranchIsBefore a b) bs → AllByRecursion (λ (p : List ℕ × Name). slice_cmp nat_cmp a.name p.0 ≡ Less) (pairs bs)
before_pairs a [] h = tt
before_pairs a (b ∷ bs) h = all_pairs a b.name b.target (pairs bs) h.0 (before_pairs a bs h.1)

add_pair : (name : List ℕ) (target : BranchTarget) (rest : Pairs) → AllByRecursion (λ (p : List ℕ × Name). slice_cmp nat_cmp name p.0 ≡ Less) rest → PairsSorted rest → PairsSorted (pair_of name target ++ rest)
add_pair name (ToObject n) rest h s = (h, s)
add_pair name (ToBranch other) rest h s = s
add_pair name ToNothing rest h s = s

pub pairs_sorted : (bs : List SnapshotBranch) → AreBranches bs → PairsSorted (pairs bs)
pairs_sorted [] a = tt
pairs_sorted (b ∷ bs) a = add_pair b.name b.target (pairs bs) (before_pairs b bs a.1) (pairs_sorted bs a.2)

-- ## One branch of a name

never_before : (b c : SnapshotBranch) → BranchIsBefore b c → b.name ≡ c.name → ⊥
never_before b c l e = let self : slice_cmp nat_cmp b.name b.name ≡ Equal = tied_itself nat_list_cmp_total b.name in let bad : Less ≡ Equal = sym l ∙ ap (slice_cmp nat_cmp b.name) (sym e) ∙ self in cc

pub one_branch : (bs : List SnapshotBranch) (b c : SnapshotBranch) → AreBranches bs → Contains bs b → Contains bs c → b.name ≡ c.name → b ≡ c
one_branch [] b c a hb hc e = absurd (none_in b hb)
one_branch (x ∷ bs) b c a hb hc e =
    elim (in_cases x bs b hb) [
      | inl same ↦ elim (in_cases x bs c hc) [
        | inl other ↦ sym same ∙ other
        | inr later ↦ absurd (never_before x c (all_of (λ (y : SnapshotBranch). BranchIsBefore x y) bs c a.1 later) (ap (λ (y : SnapshotBranch). y.name) same ∙ e))
      ]
      | inr later ↦ elim (in_cases x bs c hc) [
        | inl same ↦ absurd (never_before x b (all_of (λ (y : SnapshotBranch). BranchIsBefore x y) bs b a.1 later) (ap (λ (y : SnapshotBranch). y.name) same ∙ sym e))
        | inr also ↦ one_branch bs b c a.2 later also e
      ]
    ]

-- a branch of this name, or none
pub find_branch : (bs : List SnapshotBranch) (key : List ℕ) → ((b : SnapshotBranch) × Contains bs b × (b.name ≡ key)) ⊎ ((b : SnapshotBranch) → Contains bs b → b.name ≢ key)
find_branch [] key = inr (λ b there. absurd (none_in b there))
find_branch (b ∷ bs) key =
    elim (same_text b.name key) [
      | inl same ↦ inl (b, in_first b bs, same)
      | inr other ↦ elim (find_branch bs key) [
        | inl (c, there, is) ↦ inl (c, in_rest b bs c there, is)
        | inr none ↦ inr (λ c there is. elim (in_cases b bs c there) [ inl same ↦ other (ap (λ (y : SnapshotBranch). y.name) same ∙ is) | inr later ↦ none c later is ])
      ]
    ]

same_name : (a b : Name) → (a ≡ b) ⊎ (a ≢ b)
same_name a b = by_bool (is_at (name_cmp a) b) refl
  where
    by_bool : (x : Bool) → is_at (name_cmp a) b ≡ x → (a ≡ b) ⊎ (a ≢ b)
    by_bool true e = inl (name_cmp-IsAntisymmetric a b ((Equal-is (name_cmp a b)).0 e))
    by_bool false e = inr (λ same. (let t : is_at (name_cmp a) b ≡ true = subst (λ (y : Name). is_at (name_cmp a) y ≡ true) same (at_self name_cmp name_cmp_total name_cmp-IsAntisymmetric a) in let bad : true ≡ false = sym t ∙ e in cc))

pub target_is : (t : BranchTarget) (n : Name) → (t ≡ ToObject n) ⊎ (t ≢ ToObject n)
target_is (ToObject m) n = elim (same_name m n) [ inl same ↦ inl (ap ToObject same) | inr other ↦ inr (λ e. other (same_object m n e)) ]
target_is (ToBranch other) n = inr (λ e. cc)
target_is ToNothing n = inr (λ e. cc)

-- ## The tips that are set

in_object : (branch : List ℕ) (m : Name) (kind : Kind) (key : List ℕ) (n : Name) → m.kind ≡ kind → Contains (object_tips branch m kind) (key, n) → (branch ≡ key) × (m ≡ n) × (n.kind ≡ RevisionKind)
in_object branch m Content key n e there = absurd (none_in (key, n) there)
in_object branch m DirectoryKind key n e there = absurd (none_in (key, n) there)
in_object branch m RevisionKind key n e there = let same = pair_is branch key m n (only (branch, m) (key, n) there) in (same.0, same.1, ap (λ (x : Name). x.kind) (sym same.1) ∙ e)
in_object branch m ReleaseKind key n e there = absurd (none_in (key, n) there)
in_object branch m SnapshotKind key n e there = absurd (none_in (key, n) there)

in_target : (branch : List ℕ) (target : BranchTarget) (key : List ℕ) (n : Name) → Contains (branch_tips (record { name = branch; target = target })) (key, n) → (branch ≡ key) × (target ≡ ToObject n) × (n.kind ≡ RevisionKind)
in_target branch (ToObject m) key n there = let is = in_object branch m m.kind key n refl there in (is.0, ap ToObject is.1, is.2)
in_target branch (ToBranch other) key n there = absurd (none_in (key, n) there)
in_target branch ToNothing key n there = absurd (none_in (key, n) there)

pub in_tips : (bs : List SnapshotBranch) (key : List ℕ) (n : Name) → Contains (flat_map branch_tips bs) (key, n) → HasBranch bs key n × (n.kind ≡ RevisionKind)
in_tips [] key n there = absurd (none_in (key, n) there)
in_tips (b ∷ bs) key n there =
    elim (Contains-append_cases (branch_tips b) (flat_map branch_tips bs) (key, n) there) [
      | inl own ↦ let is = in_target b.name b.target key n own in (record { branch = b; there = in_first b bs; name = is.0; target = is.1 }, is.2)
      | inr later ↦ let is = in_tips bs key n later in (has_more b bs key n is.0, is.1)
    ]

own_object : (branch : List ℕ) (n : Name) (kind : Kind) → kind ≡ RevisionKind → Contains (object_tips branch n kind) (branch, n)
own_object branch n kind e = subst (λ (k : Kind). Contains (object_tips branch n k) (branch, n)) (sym e) (in_first (branch, n) [])

own_tip : (branch : List ℕ) (target : BranchTarget) (n : Name) → target ≡ ToObject n → n.kind ≡ RevisionKind → Contains (branch_tips (record { name = branch; target = target })) (branch, n)
own_tip branch target n e kind = subst (λ (t : BranchTarget). Contains (branch_tips (record { name = branch; target = t })) (branch, n)) (sym e) (own_object branch n n.kind kind)

pub to_tips : (bs : List SnapshotBranch) (b : SnapshotBranch) (n : Name) → Contains bs b → b.target ≡ ToObject n → n.kind ≡ RevisionKind → Contains (flat_map branch_tips bs) (b.name, n)
to_tips [] b n there e kind = absurd (none_in b there)
to_tips (c ∷ bs) b n there e kind =
    elim (in_cases c bs b there) [
      | inl same ↦ subst (λ (x : SnapshotBranch). Contains (flat_map branch_tips (c ∷ bs)) (x.name, n)) same (Contains-append_left (branch_tips c) (flat_map branch_tips bs) (c.name, n) (own_tip c.name c.target n (ap (λ (x : SnapshotBranch). x.target) same ∙ e) kind))
      | inr later ↦ Contains-append_right (branch_tips c) (flat_map branch_tips bs) (b.name, n) (to_tips bs b n later e kind)
    ]

-- ## The head

-- Each of them leads to an object.
abbrev pub LeadToObjects : List SnapshotBranch → Type 0
LeadToObjects bs = (b : SnapshotBranch) → Contains bs b → (n : Name) × (b.target ≡ ToObject n)

first_pair : (b : SnapshotBranch) (n : Name) (rest : Pairs) → b.target ≡ ToObject n → map to_branch (pair_of b.name b.target ++ rest) ≡ b ∷ map to_branch rest
first_pair b n rest e =
    let listed : BranchTarget → List SnapshotBranch = λ t. map to_branch (pair_of b.name t ++ rest) in
    let branch : BranchTarget → SnapshotBranch = λ t. record { name = b.name; target = t } in
    ap listed e ∙ ap (λ (x : SnapshotBranch). x ∷ map to_branch rest) (sym (ap branch e))

pub without_head : (bs : List SnapshotBranch) → LeadToObjects bs → map to_branch (pairs bs) ≡ bs
without_head [] h = refl
without_head (b ∷ bs) h =
    let one = h b (in_first b bs) in
    first_pair b one.0 (pairs bs) one.1 ∙ ap (λ (l : List SnapshotBranch). b ∷ l) (without_head bs (λ c there. h c (in_rest b bs c there)))

put_first : (head : List ℕ) (bs : List SnapshotBranch) → AllByRecursion (λ (b : SnapshotBranch). BranchIsBefore (head_branch head) b) bs → put_branch (head_branch head) bs ≡ head_branch head ∷ bs
put_first head [] h = refl
put_first head (b ∷ bs) h = ap (λ (o : Ordering). match_ordering o (head_branch head ∷ b ∷ bs) (head_branch head ∷ bs) (b ∷ put_branch (head_branch head) bs)) h.0

greater : (a b : List ℕ) → slice_cmp nat_cmp a b ≡ Less → slice_cmp nat_cmp b a ≡ Greater
greater a b l = by_order (slice_cmp nat_cmp b a) refl
  where
    by_order : (o : Ordering) → slice_cmp nat_cmp b a ≡ o → o ≡ Greater
    by_order Less e = absurd (let t = nat_list_cmp_total.antisymm a b in let bad : Less ≡ Greater = rw (l, e) at t in cc)
    by_order Equal e = absurd (let same : b ≡ a = text_exact b a e in let self : slice_cmp nat_cmp a b ≡ Equal = subst (λ (y : List ℕ). slice_cmp nat_cmp y b ≡ Equal) same (tied_itself nat_list_cmp_total b) in let bad : Less ≡ Equal = sym l ∙ self in cc)
    by_order Greater e = refl

no_pair : (b : SnapshotBranch) (head : List ℕ) (rest : Pairs) → b ≡ head_branch head → pair_of b.name b.target ++ rest ≡ rest
no_pair b head rest e = ap (λ (x : SnapshotBranch). pair_of x.name x.target ++ rest) e

-- Where the head is among them, and all others lead to objects, they are these with the head.
pub put_head : (head : List ℕ) (bs : List SnapshotBranch) → AreBranches bs → Contains bs (head_branch head) → ((b : SnapshotBranch) → Contains bs b → (b ≡ head_branch head) ⊎ ((n : Name) × (b.target ≡ ToObject n))) → put_branch (head_branch head) (map to_branch (pairs bs)) ≡ bs
put_head head [] a there h = absurd (none_in (head_branch head) there)
put_head head (b ∷ bs) a there h =
    elim (h b (in_first b bs)) [
      | inl own ↦
          let others : LeadToObjects bs = λ c one. elim (h c (in_rest b bs c one)) [
            | inl same ↦ absurd (never_before b c (all_of (λ (y : SnapshotBranch). BranchIsBefore b y) bs c a.1 one) (ap (λ (y : SnapshotBranch). y.name) (own ∙ sym same)))
            | inr is ↦ is
          ] in
          ap (λ (ps : Pairs). put_branch (head_branch head) (map to_branch ps)) (no_pair b head (pairs bs) own)
          ∙ ap (put_branch (head_branch head)) (without_head bs others)
          ∙ put_first head bs (subst (λ (x : SnapshotBranch). AllByRecursion (λ (y : SnapshotBranch). BranchIsBefore x y) bs) own a.1)
          ∙ ap (λ (x : SnapshotBranch). x ∷ bs) (sym own)
      | inr (n, is) ↦
          let later : Contains bs (head_branch head) = elim (in_cases b bs (head_branch head) there) [
            | inl same ↦ absurd (let bad : ToObject n ≡ ToBranch head = sym is ∙ ap (λ (y : SnapshotBranch). y.target) same in cc)
            | inr more ↦ more
          ] in
          let before : slice_cmp nat_cmp b.name (codes "HEAD") ≡ Less = all_of (λ (y : SnapshotBranch). BranchIsBefore b y) bs (head_branch head) a.1 later in
          ap (put_branch (head_branch head)) (first_pair b n (pairs bs) is)
          ∙ ap (λ (o : Ordering). match_ordering o (head_branch head ∷ b ∷ map to_branch (pairs bs)) (head_branch head ∷ map to_branch (pairs bs)) (b ∷ put_branch (head_branch head) (map to_branch (pairs bs)))) (greater b.name (codes "HEAD") before)
          ∙ ap (λ (l : List SnapshotBranch). b ∷ l) (put_head head bs a.2 later (λ c one. h c (in_rest b bs c one)))
    ]
