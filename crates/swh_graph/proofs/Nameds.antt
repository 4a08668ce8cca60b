-- The entries that bytes spell, taken one after another from the front.
use Rattle.std.proofs.Common.{◌≡◌, ◌≢◌, ◌⊎◌, inl, inr, ℕ, ◌<◌, ◌≤◌, List, [], ◌∷◌, ◌++◌, length, take, drop, refl, sym, ap, ◌∙◌, subst, arith, decimal, append_assoc, length-append}
use Rattle.std.specs.Prelude.{Contains}
use Rattle.std.specs.List.{AllByRecursion}
use Rattle.std.proofs.lemmas.Fmt.{decimal_injective}
use Rattle.std.proofs.lemmas.List.{append-nil, take-append-drop, length-take-le}
use Rattle.swh_base.specs.Directory.{DirectoryEntry, IsMode, IsEntry, IsDirectory, directory_text}
use Rattle.swh_base.proofs.Splits.{first_split, sized_split}
use Rattle.swh_base.proofs.DirectoryLemmas.{mode-small, mode-no_space, entry_then, all-push, are-each}
use Rattle.swh_graph.specs.Named.{TakesEntry, HasNoEntry, IsNamedIn, HasNoneNamed}
use Rattle.swh_graph.proofs.Lists.{all_of, in_middle}

-- digits write one mode
pub one_mode : (a b : ℕ) (digits : List ℕ) → IsMode a → IsMode b → digits ≡ decimal a → digits ≡ decimal b → a ≡ b
one_mode a b digits ha hb da db = decimal_injective a b (mode-small a ha).high (mode-small b hb).high (sym da ∙ db)

-- ---- the first entry

module _ (bytes : List ℕ) (e : DirectoryEntry) (more : List DirectoryEntry) (is : IsEntry e) (text : bytes ≡ directory_text (e ∷ more)) where
  parts : bytes ≡ decimal e.mode ++ 32 ∷ (e.name ++ 0 ∷ (e.id ++ directory_text more))
  parts = text ∙ entry_then e (directory_text more)

  has_space : Contains bytes 32
  has_space = subst (λ (t : List ℕ). Contains t 32) (sym parts) (in_middle (decimal e.mode) 32 (e.name ++ 0 ∷ (e.id ++ directory_text more)))

  module _ (digits behind : List ℕ) (plain : Contains digits 32 → ⊥) (cut : bytes ≡ digits ++ 32 ∷ behind) where
    at_space : (digits ≡ decimal e.mode) × (behind ≡ e.name ++ 0 ∷ (e.id ++ directory_text more))
    at_space = first_split 32 digits (decimal e.mode) behind (e.name ++ 0 ∷ (e.id ++ directory_text more)) plain (mode-no_space e.mode is.mode) (sym cut ∙ parts)

    has_nul : Contains behind 0
    has_nul = subst (λ (t : List ℕ). Contains t 0) (sym at_space.1) (in_middle e.name 0 (e.id ++ directory_text more))

    at_nul : (name after : List ℕ) → (Contains name 0 → ⊥) → behind ≡ name ++ 0 ∷ after → (name ≡ e.name) × (after ≡ e.id ++ directory_text more)
    at_nul name after no_nul is_cut = first_split 0 name e.name after (e.id ++ directory_text more) no_nul is.name.no_nul (sym is_cut ∙ at_space.1)

pub no_space_none : (bytes : List ℕ) → (Contains bytes 32 → ⊥) → HasNoEntry bytes
no_space_none bytes none [] all text = refl
no_space_none bytes none (e ∷ more) all text = absurd (none (has_space bytes e more all.0 text))

pub no_nul_none : (bytes digits behind : List ℕ) → (Contains digits 32 → ⊥) → bytes ≡ digits ++ 32 ∷ behind → (Contains behind 0 → ⊥) → HasNoEntry bytes
no_nul_none bytes digits behind plain cut none [] all text = refl
no_nul_none bytes digits behind plain cut none (e ∷ more) all text = absurd (none (has_nul bytes e more all.0 text digits behind plain cut))

pub short_none : (bytes digits behind name after : List ℕ) → (Contains digits 32 → ⊥) → bytes ≡ digits ++ 32 ∷ behind → (Contains name 0 → ⊥) → behind ≡ name ++ 0 ∷ after → length after < 20 → HasNoEntry bytes
short_none bytes digits behind name after plain cut no_nul is_cut short [] all text = refl
short_none bytes digits behind name after plain cut no_nul is_cut short (e ∷ more) all text =
    let id = all.0.id in
    let long = ap length (at_nul bytes e more all.0 text digits behind plain cut name after no_nul is_cut).1 in
    absurd (omega (arith, id, long, short, length-append e.id (directory_text more)))

entry_from : (mode : ℕ) (name id : List ℕ) (e : DirectoryEntry) → e.mode ≡ mode → e.name ≡ name → e.id ≡ id → e ≡ record { mode = mode; name = name; id = id }
entry_from mode name id e m n i =
    let a : e ≡ record { mode = mode; name = e.name; id = e.id } = ap (λ (x : ℕ). record { mode = x; name = e.name; id = e.id }) m in
    let b : record { mode = mode; name = e.name; id = e.id } ≡ record { mode = mode; name = name; id = e.id } = ap (λ (x : List ℕ). record { mode = mode; name = x; id = e.id }) n in
    let c : record { mode = mode; name = name; id = e.id } ≡ record { mode = mode; name = name; id = id } = ap (λ (x : List ℕ). record { mode = mode; name = name; id = x }) i in
    a ∙ b ∙ c

pub takes_first : (bytes digits behind name after id rest : List ℕ) (mode : ℕ) → (Contains digits 32 → ⊥) → bytes ≡ digits ++ 32 ∷ behind → (Contains name 0 → ⊥) → behind ≡ name ++ 0 ∷ after
    → id ≡ take 20 after → rest ≡ drop 20 after → 20 ≤ length after → ((m : ℕ) → IsMode m → digits ≡ decimal m → mode ≡ m) → TakesEntry bytes (record { mode = mode; name = name; id = id }) rest
takes_first bytes digits behind name after id rest mode plain cut no_nul is_cut front back long mode_is [] all text =
    let none = ap length (sym text ∙ cut) in absurd (omega (arith, none, length-append digits (32 ∷ behind)))
takes_first bytes digits behind name after id rest mode plain cut no_nul is_cut front back long mode_is (e ∷ more) all text =
    let space = at_space bytes e more all.0 text digits behind plain cut in
    let nul = at_nul bytes e more all.0 text digits behind plain cut name after no_nul is_cut in
    let whole : id ++ rest ≡ after = ap (λ (t : List ℕ). t ++ rest) front ∙ ap (λ (t : List ℕ). take 20 after ++ t) back ∙ take-append-drop 20 after in
    let twenty : length id ≡ length e.id = ap length front ∙ length-take-le 20 after long ∙ sym all.0.id in
    let ids = sized_split id e.id rest (directory_text more) twenty (whole ∙ nul.1) in
    let same = entry_from mode name id e (sym (mode_is e.mode all.0.mode space.0)) (sym nul.0) (sym ids.0) in
    (more, (ap (λ (x : DirectoryEntry). x ∷ more) same, ids.1))

pub is_shorter : (bytes digits behind name after rest : List ℕ) → bytes ≡ digits ++ 32 ∷ behind → behind ≡ name ++ 0 ∷ after → rest ≡ drop 20 after → length rest < length bytes
is_shorter bytes digits behind name after rest cut is_cut back =
    let long = ap length cut in
    let middle = ap length is_cut in
    let both = ap length (take-append-drop 20 after) in
    let last = ap length back in
    omega (arith, long, middle, both, last, length-append digits (32 ∷ behind), length-append name (0 ∷ after), length-append (take 20 after) (drop 20 after))

-- ---- a search

-- The rest spells the last of the entries, and none before these has the name.
pub record NoneBefore (entries : List DirectoryEntry) (name rest : List ℕ) : Type 0 where
  pub before : List DirectoryEntry
  pub behind : List DirectoryEntry
  pub cut : entries ≡ before ++ behind
  pub good : AllByRecursion IsEntry behind
  pub text : rest ≡ directory_text behind
  pub others : AllByRecursion (λ (e : DirectoryEntry). e.name ≢ name) before

module _ (body name : List ℕ) where
  -- Whatever entries the body has, they were searched up to this rest.
  abbrev pub IsSearched : List ℕ → Type 0
  IsSearched rest = (entries : List DirectoryEntry) → IsDirectory body entries → NoneBefore entries name rest

  pub search_starts : IsSearched body
  search_starts entries is = record { before = []; behind = entries; cut = refl; good = are-each entries is.good; text = is.text; others = tt }

  module _ (rest : List ℕ) (searched : IsSearched rest) where
    pub search_goes_on : (entry : DirectoryEntry) (behind : List ℕ) → TakesEntry rest entry behind → entry.name ≢ name → IsSearched behind
    search_goes_on entry behind takes other entries is =
        let n = searched entries is in
        let t = takes n.behind n.good n.text in
        record {
          before = n.before ++ entry ∷ [];
          behind = t.0;
          cut = n.cut ∙ ap (λ (es : List DirectoryEntry). n.before ++ es) t.1.0 ∙ sym (append_assoc n.before (entry ∷ []) t.0);
          good = (subst (AllByRecursion IsEntry) t.1.0 n.good).1;
          text = t.1.1;
          others = all-push (λ (e : DirectoryEntry). e.name ≢ name) n.before entry n.others other;
        }

    pub search_finds : (entry : DirectoryEntry) (behind : List ℕ) → TakesEntry rest entry behind → entry.name ≡ name → IsNamedIn body name entry
    search_finds entry behind takes named entries is =
        let n = searched entries is in
        let t = takes n.behind n.good n.text in
        (subst (λ (es : List DirectoryEntry). Contains es entry) (sym (n.cut ∙ ap (λ (es : List DirectoryEntry). n.before ++ es) t.1.0)) (in_middle n.before entry t.0), named)

    pub search_ends : HasNoEntry rest → HasNoneNamed body name
    search_ends none entries is entry there =
        let n = searched entries is in
        let all : entries ≡ n.before = n.cut ∙ ap (λ (es : List DirectoryEntry). n.before ++ es) (none n.behind n.good n.text) ∙ append-nil n.before in
        all_of (λ (e : DirectoryEntry). e.name ≢ name) n.before entry n.others (subst (λ (es : List DirectoryEntry). Contains es entry) all there)
