-- One more item of a list, and one more member of an object; and that no value that is answered has a float.
use Rattle.std.proofs.Common.{◌≡◌, ℕ, ◌+◌, ◌<◌, length, take, get_or, sym, ap₂, Bool, true, false, ◌||◌, true≢false, Option, Some, None, List, [], ◌∷◌, ◌++◌, map, reverse, refl, ap, ◌∙◌, Ordering, Less, Equal, Greater, nat_cmp}
use Rattle.std.proofs.lemmas.List.{take_more, map_push}
use Rattle.std.specs.Cmp.Lexicographic.{slice_cmp}
use Rattle.std.specs.Ordering.{match_ordering}
use Rattle.serde_json.specs.Data.{Data, Members, no_members, member, put}
use Rattle.serde_json.specs.View.{view, items_of}
use Rattle.serde_json.specs.declared.value.Value.{Value}
use Rattle.serde_json.specs.Written.{has_float, items_have_float, members_have_float}
use Rattle.swh_base.specs.declared.name.Name.{Name}
use Rattle.swh_base.specs.Escape.{escaped}
use Rattle.swh_base.specs.Revision.{Revision}
use Rattle.swh_base.specs.Snapshot.{BranchTarget, ToObject, ToBranch, ToNothing, SnapshotBranch}
use Rattle.swh_base.specs.Visit.{last_mark}
use Rattle.swh_model.specs.declared.event.Visit.{Visit}
use Rattle.swh_model.specs.Archive.{Bodies}
use Rattle.swh_snpfmt.specs.declared.branch.SpelledBranch.{SpelledBranch}
use Rattle.swh_snpfmt.specs.Branches.{branch_of, branches_in_body, target_spelled}
use Rattle.swh_swhid.specs.Core.{core_text}
use Rattle.swh_replies.specs.Json.{id_data, optional_id_data, visit_data, visits_data, revision_data, log_data, target_data, branches_data, snapshot_data, is_known_data, known_data, members_data}

-- ---- lists

items-no_float : {X : Type 0} (f : X → Data) (xs : List X) → ((x : X) → has_float (f x) ≡ false) → items_have_float (items_of (map f xs)) ≡ false
items-no_float f [] h = refl
items-no_float f (x ∷ xs) h = ap (λ (b : Bool). b || items_have_float (items_of (map f xs))) (h x) ∙ items-no_float f xs h

-- ---- members

neither : (a b : Bool) → a || b ≡ false → (a ≡ false) × (b ≡ false)
neither true b h = absurd (true≢false h)
neither false b h = (refl, h)

ordered-no_float : (o : Ordering) (a b c : Members) → members_have_float a ≡ false → members_have_float b ≡ false → members_have_float c ≡ false → members_have_float (match_ordering o a b c) ≡ false
ordered-no_float Less a b c ha hb hc = ha
ordered-no_float Equal a b c ha hb hc = hb
ordered-no_float Greater a b c ha hb hc = hc

member-no_float : (k : List ℕ) (d : Data) (ms : Members) → has_float d ≡ false → members_have_float ms ≡ false → members_have_float (member k d ms) ≡ false
member-no_float k d ms h g = ap (λ (b : Bool). b || members_have_float ms) h ∙ g

put-no_float : (k : List ℕ) (d : Data) (ms : Members) → has_float d ≡ false → members_have_float ms ≡ false → members_have_float (put k d ms) ≡ false
put-no_float k d no_members h g = member-no_float k d no_members h refl
put-no_float k d (member l e ms) h g =
    let both = neither (has_float e) (members_have_float ms) g in
    ordered-no_float (slice_cmp nat_cmp k l) (member k d (member l e ms)) (member l d ms) (member l e (put k d ms)) (member-no_float k d (member l e ms) h g) (member-no_float l d ms h both.1)
    (member-no_float l e (put k d ms) both.0 (put-no_float k d ms h both.1))

members-no_float : {X : Type 0} (key : X → List ℕ) (f : X → Data) (xs : List X) (ms : Members) → ((x : X) → has_float (f x) ≡ false) → members_have_float ms ≡ false → members_have_float (members_data key f xs ms) ≡ false
members-no_float key f [] ms h g = g
members-no_float key f (x ∷ xs) ms h g = members-no_float key f xs (put (key x) (f x) ms) h (put-no_float (key x) (f x) ms (h x) g)

-- one more is put to those before it
pub members_data-push : {X : Type 0} (key : X → List ℕ) (f : X → Data) (xs : List X) (x : X) (ms : Members) → members_data key f (xs ++ x ∷ []) ms ≡ put (key x) (f x) (members_data key f xs ms)
members_data-push key f [] x ms = refl
members_data-push key f (y ∷ xs) x ms = members_data-push key f xs x (put (key y) (f y) ms)

pub one_more_branch : (all : List SpelledBranch) (i : ℕ) (d : SpelledBranch) (old new : Members) → old ≡ branches_data (branches_in_body (take i all)) → i < length all
    → new ≡ put (escaped (get_or all i d).name.now) (target_data (target_spelled (get_or all i d).target)) old → new ≡ branches_data (branches_in_body (take (i + 1) all))
one_more_branch all i d old new so_far less is =
    let x = get_or all i d in
    let key : SnapshotBranch → List ℕ = λ b. escaped b.name in
    let data_of : SnapshotBranch → Data = λ b. target_data b.target in
    let pushed : branches_data (branches_in_body (take i all ++ x ∷ [])) ≡ put (escaped x.name.now) (target_data (target_spelled x.target)) (branches_data (branches_in_body (take i all))) =
    ap branches_data (map_push branch_of (take i all) x) ∙ members_data-push key data_of (branches_in_body (take i all)) (branch_of x) no_members in
    is ∙ ap (put (escaped x.name.now) (target_data (target_spelled x.target))) so_far ∙ sym pushed ∙ ap (λ (bs : List SpelledBranch). branches_data (branches_in_body bs)) (sym (take_more all i d less))

pub one_more_name : (bodies : Bodies) (all : List Name) (i : ℕ) (d : Name) (old new : Members) → old ≡ members_data core_text (is_known_data bodies) (take i all) no_members → i < length all
    → new ≡ put (core_text (get_or all i d)) (is_known_data bodies (get_or all i d)) old → new ≡ members_data core_text (is_known_data bodies) (take (i + 1) all) no_members
one_more_name bodies all i d old new so_far less is =
    let x = get_or all i d in
    is ∙ ap (put (core_text x) (is_known_data bodies x)) so_far ∙ sym (members_data-push core_text (is_known_data bodies) (take i all) x no_members)
    ∙ ap (λ (ns : List Name). members_data core_text (is_known_data bodies) ns no_members) (sym (take_more all i d less))

-- ---- values

pub revision-no_float : (id : List ℕ) (r : Revision) → has_float (revision_data id r) ≡ false
revision-no_float id r = rw (items-no_float id_data r.parents (λ x. refl))

pub log-no_float : (names : List Name) → has_float (log_data names) ≡ false
log-no_float names = items-no_float (λ (n : Name). id_data n.id) names (λ x. refl)

pub known-no_float : (bodies : Bodies) (names : List Name) → has_float (known_data bodies names) ≡ false
known-no_float bodies names = members-no_float core_text (is_known_data bodies) names no_members (λ n. refl) refl
