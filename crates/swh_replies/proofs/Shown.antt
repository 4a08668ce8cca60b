-- The tokens of visits and of branches, written one after another, are those of their trees.
use Rattle.std.proofs.Common.{◌≡◌, ℕ, ◌+◌, ◌<◌, Option, List, [], ◌∷◌, ◌++◌, map, length, take, get_or, refl, sym, ap, ◌∙◌, subst, String, Global, string_bytes, string_cmp, Ordering, Less, Equal, Greater, codes, decimal}
use Rattle.std.specs.List.{flat_map}
use Rattle.std.specs.BTreeMap.{insert_entry}
use Rattle.std.specs.Ordering.{match_ordering}
use Rattle.std.proofs.lemmas.List.{append_assoc, append-nil, take_more}
use Rattle.std.proofs.lemmas.List.Concat.{flat_map-append}
use Rattle.json.specs.Token.{Token, begin_object, end_object, begin_array, end_array, key, string, number}
use Rattle.json.specs.Print.{print}
use Rattle.json.specs.Tree.{json_tokens, items_tokens, members_tokens}
use Rattle.json.specs.Written.{Written}
use Rattle.serde_json.specs.Data.{Data, put}
use Rattle.serde_json.specs.View.{items_of}
use Rattle.serde_json.specs.Written.{outline, items_outline, members_outline, compact_text}
use Rattle.serde_json.proofs.Texts.{print-outline}
use Rattle.swh_base.specs.Escape.{escaped}
use Rattle.swh_base.specs.Visit.{visit_kind_word, status_word, last_mark}
use Rattle.swh_model.specs.declared.event.Visit.{Visit}
use Rattle.swh_snpfmt.specs.declared.branch.SpelledTarget.{SpelledTarget}
use Rattle.swh_snpfmt.specs.Branches.{target_spelled}
use Rattle.swh_replies.specs.Json.{optional_id_data, visit_data, visits_data, target_data, array_data}
use Rattle.swh_replies.specs.Writes.{Adds, WritesValue, targets_data}

abbrev pub value_tokens : Data → List Token
value_tokens d = json_tokens (outline d)

-- all that was written is a value's text
pub whole_text : {old new : Written} (d : Data) → old.before ≡ [] → old.tokens ≡ [] → WritesValue old d new → new.before ++ print new.tokens ≡ compact_text d
whole_text {old} {new} d before tokens w =
    ap (λ (front : List ℕ). front ++ print new.tokens) (w.before ∙ before) ∙ ap print (w.tokens ∙ ap (λ (ts : List Token). ts ++ value_tokens d) tokens) ∙ print-outline d

-- ---- visits

pub visit_written : {old new : Written} (origin : List ℕ) (v : Visit) (shown status kind : List ℕ) (snapshot : Option (List ℕ)) → shown ≡ escaped origin → status ≡ status_word (last_mark v.statuses).0
    → snapshot ≡ (last_mark v.statuses).1 → kind ≡ visit_kind_word v.kind
    → Adds old (begin_object ∷ key (codes "date") ∷ number (decimal v.date) ∷ key (codes "origin") ∷ string shown ∷ key (codes "snapshot") ∷ (value_tokens (optional_id_data snapshot) ++ key (codes "status") ∷ string status ∷ key (codes "type") ∷ string kind ∷ key (codes "visit") ∷ number (decimal v.number) ∷ end_object ∷ [])) new
    → WritesValue old (visit_data origin v) new
visit_written {old} {new} origin v shown status kind snapshot is_shown is_status is_snapshot is_kind h = record {
  before = h.before;
  tokens = h.tokens ∙ (λ i. old.tokens ++ (begin_object ∷ key (codes "date") ∷ number (decimal v.date) ∷ key (codes "origin") ∷ string (is_shown i) ∷ key (codes "snapshot") ∷ (value_tokens (optional_id_data (is_snapshot i)) ++ key (codes "status") ∷ string (is_status i) ∷ key (codes "type") ∷ string (is_kind i) ∷ key (codes "visit") ∷ number (decimal v.number) ∷ end_object ∷ [])));
}

-- an array's bracket, and the tokens of these visits
abbrev pub opened_visits : List ℕ → List Visit → List Token
opened_visits origin visits = begin_array ∷ flat_map (λ v. value_tokens (visit_data origin v)) visits

closed_visits : (origin : List ℕ) (visits : List Visit) → flat_map (λ v. value_tokens (visit_data origin v)) visits ++ end_array ∷ [] ≡ items_tokens (items_outline (items_of (map (visit_data origin) visits)))
closed_visits origin [] = refl
closed_visits origin (v ∷ vs) =
    append_assoc (value_tokens (visit_data origin v)) (flat_map (λ w. value_tokens (visit_data origin w)) vs) (end_array ∷ []) ∙ ap (λ (ts : List Token). value_tokens (visit_data origin v) ++ ts) (closed_visits origin vs)

pub one_more_visit : (origin : List ℕ) (all : List Visit) (i n : ℕ) (v : Visit) (old new : List Token) → old ≡ opened_visits origin (take i all) → i < length all → v ≡ get_or all i v → n ≡ i + 1
    → new ≡ old ++ value_tokens (visit_data origin v) → new ≡ opened_visits origin (take n all)
one_more_visit origin all i n v old new so_far less is next more =
    let tokens : Visit → List Token = λ w. value_tokens (visit_data origin w) in
    let longer : take n all ≡ take i all ++ v ∷ [] = ap (λ (m : ℕ). take m all) next ∙ take_more all i v less ∙ ap (λ (w : Visit). take i all ++ w ∷ []) (sym is) in
    let pushed : flat_map tokens (take i all ++ v ∷ []) ≡ flat_map tokens (take i all) ++ tokens v = flat_map-append tokens (take i all) (v ∷ []) ∙ ap (λ (ts : List Token). flat_map tokens (take i all) ++ ts) (append-nil (tokens v)) in
    more ∙ ap (λ (ts : List Token). ts ++ tokens v) so_far ∙ sym (ap (λ (ts : List Token). begin_array ∷ ts) pushed) ∙ ap (opened_visits origin) (sym longer)

pub visits_printed : (origin : List ℕ) (visits : List Visit) (ts : List Token) → ts ≡ opened_visits origin visits ++ end_array ∷ [] → print ts ≡ compact_text (array_data (visit_data origin) visits)
visits_printed origin visits ts is = ap print (is ∙ ap (λ (more : List Token). begin_array ∷ more) (closed_visits origin visits)) ∙ print-outline (array_data (visit_data origin) visits)

-- ---- branches

abbrev pub Entry : Type 0
Entry = String Global × SpelledTarget

abbrev data_of : SpelledTarget → Data
data_of t = target_data (target_spelled t)

ordered : (o : Ordering) (a b c : List Entry) → targets_data (match_ordering o a b c) ≡ match_ordering o (targets_data a) (targets_data b) (targets_data c)
ordered Less a b c = refl
ordered Equal a b c = refl
ordered Greater a b c = refl

-- what is put into the map is put among the members
put_among : (es : List Entry) (k : String Global) (t : SpelledTarget) → targets_data (insert_entry string_cmp es k t) ≡ put (string_bytes k) (target_data (target_spelled t)) (targets_data es)
put_among [] k t = refl
put_among (e ∷ es) k t = ordered (string_cmp k e.0) _ _ _ ∙ rw (put_among es k t)

pub put_named : (es : List Entry) (k : String Global) (t : SpelledTarget) (name : List ℕ) → string_bytes k ≡ name → targets_data (insert_entry string_cmp es k t) ≡ put name (target_data (target_spelled t)) (targets_data es)
put_named es k t name is = put_among es k t ∙ ap (λ (n : List ℕ). put n (target_data (target_spelled t)) (targets_data es)) is

abbrev pub target_tokens : Entry → List Token
target_tokens e = key (string_bytes e.0) ∷ value_tokens (target_data (target_spelled e.1))

pub one_more_target : (done : List Entry) (e : Entry) → flat_map target_tokens (done ++ e ∷ []) ≡ flat_map target_tokens done ++ target_tokens e
one_more_target done e = flat_map-append target_tokens done (e ∷ []) ∙ ap (λ (ts : List Token). flat_map target_tokens done ++ ts) (append-nil (target_tokens e))

pub closed_targets : (es : List Entry) → flat_map target_tokens es ++ end_object ∷ [] ≡ members_tokens (members_outline (targets_data es))
closed_targets [] = refl
closed_targets (e ∷ es) = append_assoc (target_tokens e) (flat_map target_tokens es) (end_object ∷ []) ∙ ap (λ (ts : List Token). target_tokens e ++ ts) (closed_targets es)
