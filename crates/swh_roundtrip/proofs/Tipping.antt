-- What the tips of refs are while the commands of objects are carried out: the branch of all commits, and the tags.
use Rattle.std.proofs.Common.{◌≡◌, ◌⊎◌, inl, inr, ℕ, cond, List, [], ◌∷◌, ◌++◌, map, Some, None, refl, sym, ap, ◌∙◌, subst}
use Rattle.std.specs.Ordering.{nat_cmp, is_eq, match_ordering}
use Rattle.std.specs.declared.cmp.Ordering.{Ordering}
use Rattle.std.specs.declared.cmp.Ordering.TheVariants.{Less, Equal, Greater}
use Rattle.std.specs.Cmp.Lexicographic.{slice_cmp}
use Rattle.std.specs.BTreeMap.{insert_entry, is_at}
use Rattle.std.specs.Map.{lookup, remove_entry}
use Rattle.std.proofs.lemmas.List.Elements.{Contains-append_left}
use Rattle.swh_base.specs.declared.name.Name.{Name}
use Rattle.swh_base.specs.Snapshot.{SnapshotBranch, ToObject}
use Rattle.swh_model.specs.Archive.{Bodies}
use Rattle.swh_fastwrite.specs.Text.{cook_branch}
use Rattle.swh_fastcarried.specs.Rules.{tag_branch}
use Rattle.swh_fastcook.specs.Ends.{HasRevision}
use Rattle.swh_fastmeaning.specs.Commands.{Target}
use Rattle.swh_fastmeaning.specs.Snapshots.{tip_branch}
use Rattle.swh_fastcook.specs.Loaded.{Tags, SetTags, SetsTag, release_name, branch_of_tag}

abbrev pub Tips : Type 0
Tips = List (List ℕ × Target)

-- the branch of all commits, where one of these was made
abbrev pub IsCook : List Name → Tips → Type 0
IsCook front cook = (cook ≡ []) ⊎ ((t : Target) × (cook ≡ (cook_branch, t) ∷ []) × HasRevision front)

-- The tips are that branch, and the tags of these names.
pub record TipsAre (bodies : Bodies) (front : List Name) (tips : Tips) : Type 0 where
  pub tags : Tags
  pub set : SetTags bodies front [] tags
  pub cook : Tips
  pub is_cook : IsCook front cook
  pub rest : Tips
  pub cut : tips ≡ cook ++ rest
  pub named : map tip_branch rest ≡ map branch_of_tag tags

-- ## A tip and a tag of one branch

pub same_key : (e : List ℕ × Target) (x : List ℕ × List ℕ) → tip_branch e ≡ branch_of_tag x → e.0 ≡ tag_branch x.0
same_key e x h = ap (λ (b : SnapshotBranch). b.name) h

pub first_same : (e : List ℕ × Target) (es : Tips) (x : List ℕ × List ℕ) (xs : Tags) → map tip_branch (e ∷ es) ≡ map branch_of_tag (x ∷ xs) → (tip_branch e ≡ branch_of_tag x) × (map tip_branch es ≡ map branch_of_tag xs)
first_same e es x xs h = (cc, cc)

before_tags : (e : List ℕ × Target) (x : List ℕ × List ℕ) → tip_branch e ≡ branch_of_tag x → slice_cmp nat_cmp cook_branch e.0 ≡ Less
before_tags e x h = ap (slice_cmp nat_cmp cook_branch) (same_key e x h)

-- ## The branch of all commits

insert_first : (rest : Tips) (tags : Tags) (t : Target) → map tip_branch rest ≡ map branch_of_tag tags → insert_entry (slice_cmp nat_cmp) rest cook_branch t ≡ (cook_branch, t) ∷ rest
insert_first [] tags t h = refl
insert_first (e ∷ es) [] t h = absurd cc
insert_first (e ∷ es) (x ∷ xs) t h =
    let one = first_same e es x xs h in
    ap (λ (o : Ordering). match_ordering o ((cook_branch, t) ∷ e ∷ es) ((e.0, t) ∷ es) (e ∷ insert_entry (slice_cmp nat_cmp) es cook_branch t)) (before_tags e x one.0)

remove_none : (rest : Tips) (tags : Tags) → map tip_branch rest ≡ map branch_of_tag tags → remove_entry (is_at (slice_cmp nat_cmp cook_branch)) rest ≡ rest
remove_none [] tags h = refl
remove_none (e ∷ es) [] h = absurd cc
remove_none (e ∷ es) (x ∷ xs) h =
    let one = first_same e es x xs h in
    ap (λ (o : Ordering). cond (is_eq o) es (e ∷ remove_entry (is_at (slice_cmp nat_cmp cook_branch)) es)) (before_tags e x one.0) ∙ ap (λ (r : Tips). e ∷ r) (remove_none es xs one.1)

lookup_none : (rest : Tips) (tags : Tags) → map tip_branch rest ≡ map branch_of_tag tags → lookup (is_at (slice_cmp nat_cmp cook_branch)) rest ≡ None
lookup_none [] tags h = refl
lookup_none (e ∷ es) [] h = absurd cc
lookup_none (e ∷ es) (x ∷ xs) h =
    let one = first_same e es x xs h in
    ap (λ (o : Ordering). cond (is_eq o) (Some e.1) (lookup (is_at (slice_cmp nat_cmp cook_branch)) es)) (before_tags e x one.0) ∙ lookup_none es xs one.1

insert_cook : (front : List Name) (cook rest : Tips) (tags : Tags) (t : Target) → IsCook front cook → map tip_branch rest ≡ map branch_of_tag tags → insert_entry (slice_cmp nat_cmp) (cook ++ rest) cook_branch t ≡ (cook_branch, t) ∷ rest
insert_cook front cook rest tags t (inl none) h = ap (λ (c : Tips). insert_entry (slice_cmp nat_cmp) (c ++ rest) cook_branch t) none ∙ insert_first rest tags t h
insert_cook front cook rest tags t (inr (s, one, has)) h = ap (λ (c : Tips). insert_entry (slice_cmp nat_cmp) (c ++ rest) cook_branch t) one

pub remove_cook : (front : List Name) (cook rest : Tips) (tags : Tags) → IsCook front cook → map tip_branch rest ≡ map branch_of_tag tags → remove_entry (is_at (slice_cmp nat_cmp cook_branch)) (cook ++ rest) ≡ rest
remove_cook front cook rest tags (inl none) h = ap (λ (c : Tips). remove_entry (is_at (slice_cmp nat_cmp cook_branch)) (c ++ rest)) none ∙ remove_none rest tags h
remove_cook front cook rest tags (inr (s, one, has)) h = ap (λ (c : Tips). remove_entry (is_at (slice_cmp nat_cmp cook_branch)) (c ++ rest)) one

-- ## Tags

insert_behind : (front : List Name) (cook rest : Tips) (tag : List ℕ) (t : Target) → IsCook front cook → insert_entry (slice_cmp nat_cmp) (cook ++ rest) (tag_branch tag) t ≡ cook ++ insert_entry (slice_cmp nat_cmp) rest (tag_branch tag) t
insert_behind front cook rest tag t (inl none) = ap (λ (c : Tips). insert_entry (slice_cmp nat_cmp) (c ++ rest) (tag_branch tag) t) none ∙ sym (ap (λ (c : Tips). c ++ insert_entry (slice_cmp nat_cmp) rest (tag_branch tag) t) none)
insert_behind front cook rest tag t (inr (s, one, has)) = ap (λ (c : Tips). insert_entry (slice_cmp nat_cmp) (c ++ rest) (tag_branch tag) t) one ∙ sym (ap (λ (c : Tips). c ++ insert_entry (slice_cmp nat_cmp) rest (tag_branch tag) t) one)

one_branch : (tag i : List ℕ) (t : Target) (key : List ℕ) → t.name ≡ release_name i → key ≡ tag_branch tag → tip_branch (key, t) ≡ branch_of_tag (tag, i)
one_branch tag i t key is e =
    let one : SnapshotBranch = record { name = key; target = ToObject t.name } in
    let name : List ℕ → SnapshotBranch = λ k. record { name = k; target = ToObject t.name } in
    let target : Name → SnapshotBranch = λ n. record { name = tag_branch tag; target = ToObject n } in
    ap name e ∙ ap target is

placed_by : (o : Ordering) (tag i : List ℕ) (t : Target) (e : List ℕ × Target) (es more : Tips) (x : List ℕ × List ℕ) (xs later : Tags) → t.name ≡ release_name i → tip_branch e ≡ branch_of_tag x → map tip_branch es ≡ map branch_of_tag xs → map tip_branch more ≡ map branch_of_tag later
    → map tip_branch (match_ordering o ((tag_branch tag, t) ∷ e ∷ es) ((e.0, t) ∷ es) (e ∷ more)) ≡ map branch_of_tag (match_ordering o ((tag, i) ∷ x ∷ xs) ((x.0, i) ∷ xs) (x ∷ later))
placed_by Less tag i t e es more x xs later is a b ih = let own = one_branch tag i t (tag_branch tag) is refl in cc
placed_by Equal tag i t e es more x xs later is a b ih = let own = one_branch x.0 i t e.0 is (same_key e x a) in cc
placed_by Greater tag i t e es more x xs later is a b ih = cc

tag_placed : (rest : Tips) (tags : Tags) (tag i : List ℕ) (t : Target) → t.name ≡ release_name i → map tip_branch rest ≡ map branch_of_tag tags → map tip_branch (insert_entry (slice_cmp nat_cmp) rest (tag_branch tag) t) ≡ map branch_of_tag (insert_entry (slice_cmp nat_cmp) tags tag i)
tag_placed [] [] tag i t is h = let own = one_branch tag i t (tag_branch tag) is refl in ap (λ (b : SnapshotBranch). b ∷ []) own
tag_placed [] (x ∷ xs) tag i t is h = absurd cc
tag_placed (e ∷ es) [] tag i t is h = absurd cc
tag_placed (e ∷ es) (x ∷ xs) tag i t is h =
    let one = first_same e es x xs h in
    let more : Tips = insert_entry (slice_cmp nat_cmp) es (tag_branch tag) t in
    let order : slice_cmp nat_cmp (tag_branch tag) e.0 ≡ slice_cmp nat_cmp tag x.0 = ap (slice_cmp nat_cmp (tag_branch tag)) (same_key e x one.0) in
    ap (λ (o : Ordering). map tip_branch (match_ordering o ((tag_branch tag, t) ∷ e ∷ es) ((e.0, t) ∷ es) (e ∷ more))) order
    ∙ placed_by (slice_cmp nat_cmp tag x.0) tag i t e es more x xs (insert_entry (slice_cmp nat_cmp) xs tag i) is one.0 one.1 (tag_placed es xs tag i t is one.1)

-- ## One name more

set_push : (bodies : Bodies) (front : List Name) (name : Name) (old middle new : Tags) → SetTags bodies front old middle → SetsTag bodies name name.kind middle new → SetTags bodies (front ++ name ∷ []) old new
set_push bodies [] name old middle new s one = (new, subst (λ (m : Tags). SetsTag bodies name name.kind m new) s one, refl)
set_push bodies (n ∷ front) name old middle new (first, here, more) one = (first, here, set_push bodies front name first middle new more one)

pub revision_more : (front : List Name) (name : Name) → HasRevision front → HasRevision (front ++ name ∷ [])
revision_more front name h = record { commit = h.commit; there = Contains-append_left front (name ∷ []) h.commit h.there; kind = h.kind }

cook_more : (front : List Name) (name : Name) (cook : Tips) → IsCook front cook → IsCook (front ++ name ∷ []) cook
cook_more front name cook (inl none) = inl none
cook_more front name cook (inr (t, one, has)) = inr (t, one, revision_more front name has)

module _ (bodies : Bodies) (front : List Name) (name : Name) where
  -- a name that sets no tag
  pub tips_same : (tips : Tips) → ((tags : Tags) → SetsTag bodies name name.kind tags tags) → TipsAre bodies front tips → TipsAre bodies (front ++ name ∷ []) tips
  tips_same tips no_tag a = record {
    tags = a.tags;
    set = set_push bodies front name [] a.tags a.tags a.set (no_tag a.tags);
    cook = a.cook;
    is_cook = cook_more front name a.cook a.is_cook;
    rest = a.rest;
    cut = a.cut;
    named = a.named;
  }

  -- a commit
  pub tips_commit : (tips : Tips) (t : Target) → ((tags : Tags) → SetsTag bodies name name.kind tags tags) → HasRevision (front ++ name ∷ []) → TipsAre bodies front tips → TipsAre bodies (front ++ name ∷ []) (insert_entry (slice_cmp nat_cmp) tips cook_branch t)
  tips_commit tips t no_tag has a = record {
    tags = a.tags;
    set = set_push bodies front name [] a.tags a.tags a.set (no_tag a.tags);
    cook = (cook_branch, t) ∷ [];
    is_cook = inr (t, refl, has);
    rest = a.rest;
    cut = ap (λ (x : Tips). insert_entry (slice_cmp nat_cmp) x cook_branch t) a.cut ∙ insert_cook front a.cook a.rest a.tags t a.is_cook a.named;
    named = a.named;
  }

  -- a tag
  pub tips_tag : (tips : Tips) (tag i : List ℕ) (t : Target) → t.name ≡ release_name i → ((tags : Tags) → SetsTag bodies name name.kind tags (insert_entry (slice_cmp nat_cmp) tags tag i)) → TipsAre bodies front tips → TipsAre bodies (front ++ name ∷ []) (insert_entry (slice_cmp nat_cmp) tips (tag_branch tag) t)
  tips_tag tips tag i t is sets a = record {
    tags = insert_entry (slice_cmp nat_cmp) a.tags tag i;
    set = set_push bodies front name [] a.tags (insert_entry (slice_cmp nat_cmp) a.tags tag i) a.set (sets a.tags);
    cook = a.cook;
    is_cook = cook_more front name a.cook a.is_cook;
    rest = insert_entry (slice_cmp nat_cmp) a.rest (tag_branch tag) t;
    cut = ap (λ (x : Tips). insert_entry (slice_cmp nat_cmp) x (tag_branch tag) t) a.cut ∙ insert_behind front a.cook a.rest tag t a.is_cook;
    named = tag_placed a.rest a.tags tag i t is a.named;
  }

-- without the branch of all commits
pub tips_begun : (bodies : Bodies) (front : List Name) (tips : Tips) → TipsAre bodies front tips → TipsAre bodies front (remove_entry (is_at (slice_cmp nat_cmp cook_branch)) tips)
tips_begun bodies front tips a = record {
  tags = a.tags;
  set = a.set;
  cook = [];
  is_cook = inl refl;
  rest = a.rest;
  cut = ap (remove_entry (is_at (slice_cmp nat_cmp cook_branch))) a.cut ∙ remove_cook front a.cook a.rest a.tags a.is_cook a.named;
  named = a.named;
}

-- it has no tip then
pub begun_free : (bodies : Bodies) (front : List Name) (tips : Tips) → TipsAre bodies front tips → lookup (is_at (slice_cmp nat_cmp cook_branch)) (remove_entry (is_at (slice_cmp nat_cmp cook_branch)) tips) ≡ None
begun_free bodies front tips a =
    ap (λ (x : Tips). lookup (is_at (slice_cmp nat_cmp cook_branch)) (remove_entry (is_at (slice_cmp nat_cmp cook_branch)) x)) a.cut
    ∙ ap (lookup (is_at (slice_cmp nat_cmp cook_branch))) (remove_cook front a.cook a.rest a.tags a.is_cook a.named)
    ∙ lookup_none a.rest a.tags a.named
