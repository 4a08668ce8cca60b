-- The tokens of an entry, and those of a directory's entries one after another, are those of their trees.
use Rattle.std.proofs.Common.{◌≡◌, ℕ, ◌+◌, ◌<◌, Result, Ok, Err, OnOk, List, [], ◌∷◌, ◌++◌, map, refl, ap, ◌∙◌, codes, decimal}
use Rattle.std.specs.List.{flat_map}
use Rattle.std.proofs.lemmas.List.{append_assoc}
use Rattle.json.specs.Token.{Token, begin_object, end_object, begin_array, end_array, key, string, number}
use Rattle.json.specs.Print.{print}
use Rattle.json.specs.Tree.{json_tokens, items_tokens}
use Rattle.json.specs.Written.{Written}
use Rattle.serde_json.specs.View.{items_of}
use Rattle.serde_json.specs.Written.{outline, items_outline, compact_text}
use Rattle.serde_json.proofs.Texts.{print-outline}
use Rattle.hex.specs.Hex.{encode_lower}
use Rattle.swh_base.specs.Directory.{DirectoryEntry}
use Rattle.swh_base.specs.Escape.{escaped}
use Rattle.swh_dirfmt.specs.declared.entry.SpelledEntry.{SpelledEntry}
use Rattle.swh_dirfmt.specs.Entries.{entry_of, entries_in_body}
use Rattle.swh_replies.specs.Json.{perms_of, entry_type, entry_data, directory_data}
use Rattle.swh_replies.specs.Writes.{Adds, WritesValue}

-- ---- one entry

pub where_ok : {E A B : Type 0} (r : Result (Unit {0}) E) → (A → B) → OnOk r A → OnOk r B
where_ok (Ok x) f h = f h
where_ok (Err e) f h = tt

pub one : {old new : Written} {t : Token} → new.tokens ≡ old.tokens ++ t ∷ [] → new.before ≡ old.before → Adds old (t ∷ []) new
one h g = record { before = g; tokens = h }

pub then : {a b c : Written} {ts us : List Token} → Adds a ts b → Adds b us c → Adds a (ts ++ us) c
then {a} {b} {c} {ts} {us} h k = record { before = k.before ∙ h.before; tokens = k.tokens ∙ ap (λ (front : List Token). front ++ us) h.tokens ∙ append_assoc a.tokens ts us }

pub entry_written : {old new : Written} (e : DirectoryEntry) (name target kind : List ℕ) (perms : ℕ) → name ≡ escaped e.name → perms ≡ perms_of e.mode → target ≡ encode_lower e.id → kind ≡ entry_type e.mode
    → Adds old (begin_object ∷ key (codes "name") ∷ string name ∷ key (codes "perms") ∷ number (decimal perms) ∷ key (codes "target") ∷ string target ∷ key (codes "type") ∷ string kind ∷ end_object ∷ []) new
    → WritesValue old (entry_data e) new
entry_written {old} {new} e name target kind perms is_name is_perms is_target is_kind h =
    record { before = h.before; tokens = h.tokens ∙ (λ i. old.tokens ++ (begin_object ∷ key (codes "name") ∷ string (is_name i) ∷ key (codes "perms") ∷ number (decimal (is_perms i)) ∷ key (codes "target") ∷ string (is_target i) ∷ key (codes "type") ∷ string (is_kind i) ∷ end_object ∷ [])) }

-- ---- the entries

abbrev pub entry_tokens : SpelledEntry → List Token
entry_tokens e = json_tokens (outline (entry_data (entry_of e)))

-- an array's bracket, and the tokens of these entries
abbrev pub opened_tokens : List SpelledEntry → List Token
opened_tokens es = begin_array ∷ flat_map entry_tokens es

closed : (es : List SpelledEntry) → flat_map entry_tokens es ++ end_array ∷ [] ≡ items_tokens (items_outline (items_of (map entry_data (entries_in_body es))))
closed [] = refl
closed (e ∷ es) = append_assoc (entry_tokens e) (flat_map entry_tokens es) (end_array ∷ []) ∙ ap (λ (ts : List Token). entry_tokens e ++ ts) (closed es)

pub printed : (es : List SpelledEntry) (ts : List Token) → ts ≡ opened_tokens es ++ end_array ∷ [] → print ts ≡ compact_text (directory_data (entries_in_body es))
printed es ts is = ap print (is ∙ ap (λ (more : List Token). begin_array ∷ more) (closed es)) ∙ print-outline (directory_data (entries_in_body es))
