-- Names that have a property with one of some things.
use Rattle.std.proofs.Common.{Result, Ok, Err, ◌≡◌, ◌⊎◌, inl, inr, ℕ, ◌+◌, ◌<◌, ◌≤◌, List, [], ◌∷◌, ◌++◌, length, map, take, get_or, sym, ◌∙◌, subst}
use Rattle.std.specs.Prelude.{Contains, ◌↔◌, OnOk}
use Rattle.std.proofs.lemmas.List.{take_more, take_all}
use Rattle.std.proofs.lemmas.List.Elements.{Contains-append_left, Contains-append_right, Contains-append_cases}
use Rattle.swh_base.specs.declared.name.Name.{Name}
use Rattle.swh_base.specs.declared.kind.Kind.TheVariants.{Directory as DirectoryKind}
use Rattle.swh_base.specs.Directory.{DirectoryEntry, IsDirectory}
use Rattle.swh_base.proofs.DirectoryLemmas.{one_listing_lem}
use Rattle.swh_base.proofs.Elementary.{none_in, only}
use Rattle.swh_model.specs.Archive.{Bodies}
use Rattle.swh_graph.specs.Holding.{HoldsDirectory}
use Rattle.swh_graph.proofs.Lists.{in_first, in_map, from_map, same_some}
use Rattle.swh_fastcarried.specs.First.{IsOneOf, IsFolderOf, IsFolderAt}

module _ {X : Type 0} (Is : X → Name → Type 0) where
  one_here : (xs : List X) (x : X) (n : Name) → Contains xs x → Is x n → IsOneOf Is xs n
  one_here xs x n there is = record { one = x; there = there; is = is }

  pub none_of : (n : Name) → IsOneOf Is [] n → ⊥
  none_of n h = none_in h.one h.there

  push_cases : (xs : List X) (x : X) (n : Name) → IsOneOf Is (xs ++ x ∷ []) n → IsOneOf Is xs n ⊎ Is x n
  push_cases xs x n h =
      elim (Contains-append_cases xs (x ∷ []) h.one h.there) [
        | inl was ↦ inl (one_here xs h.one n was h.is)
        | inr last ↦ inr (subst (λ (y : X). Is y n) (sym (only x h.one last)) h.is)
      ]

  push_left : (xs : List X) (x : X) (n : Name) → IsOneOf Is xs n → IsOneOf Is (xs ++ x ∷ []) n
  push_left xs x n h = one_here (xs ++ x ∷ []) h.one n (Contains-append_left xs (x ∷ []) h.one h.there) h.is

  push_last : (xs : List X) (x : X) (n : Name) → Is x n → IsOneOf Is (xs ++ x ∷ []) n
  push_last xs x n is = one_here (xs ++ x ∷ []) x n (Contains-append_right xs (x ∷ []) x (in_first x [])) is

  -- one more of them was added
  pub one_more : (xs : List X) (x : X) (old middle new : List Name) → ((n : Name) → Contains middle n ↔ (Contains old n ⊎ IsOneOf Is xs n)) → ((n : Name) → Contains new n ↔ (Contains middle n ⊎ Is x n))
      → (n : Name) → Contains new n ↔ (Contains old n ⊎ IsOneOf Is (xs ++ x ∷ []) n)
  one_more xs x old middle new was is n = (
    λ h. elim ((is n).0 h) [
      | inl m ↦ elim ((was n).0 m) [ inl o ↦ inl o | inr one ↦ inr (push_left xs x n one) ]
      | inr last ↦ inr (push_last xs x n last)
    ],
    λ h. elim h [
      | inl o ↦ (is n).1 (inl ((was n).1 (inl o)))
      | inr one ↦ elim (push_cases xs x n one) [ inl before ↦ (is n).1 (inl ((was n).1 (inr before))) | inr last ↦ (is n).1 (inr last) ]
    ],
  )

  pub one_next : (xs : List X) (i : ℕ) (none : X) → i < length xs → (old middle new : List Name) → ((n : Name) → Contains middle n ↔ (Contains old n ⊎ IsOneOf Is (take i xs) n)) → ((n : Name) → Contains new n ↔ (Contains middle n ⊎ Is (get_or xs i none) n))
      → (n : Name) → Contains new n ↔ (Contains old n ⊎ IsOneOf Is (take (i + 1) xs) n)
  one_next xs i none within old middle new was is =
      subst (λ (l : List X). (n : Name) → Contains new n ↔ (Contains old n ⊎ IsOneOf Is l n)) (sym (take_more xs i none within)) (one_more (take i xs) (get_or xs i none) old middle new was is)

  -- all of them were added
  pub one_end : (xs : List X) (i : ℕ) → length xs ≤ i → (old new : List Name) → ((n : Name) → Contains new n ↔ (Contains old n ⊎ IsOneOf Is (take i xs) n)) → (n : Name) → Contains new n ↔ (Contains old n ⊎ IsOneOf Is xs n)
  one_end xs i past old new is = subst (λ (l : List X). (n : Name) → Contains new n ↔ (Contains old n ⊎ IsOneOf Is l n)) (take_all i xs past) is

  -- at the beginning none was
  pub one_none : (old : List Name) (n : Name) → Contains old n ↔ (Contains old n ⊎ IsOneOf Is [] n)
  one_none old n = (λ h. inl h, λ h. elim h [ inl o ↦ o | inr one ↦ absurd (none_of n one) ])

  -- a set that began with none
  pub from_none : (xs : List X) (new : List Name) → ((n : Name) → Contains new n ↔ (Contains [] n ⊎ IsOneOf Is xs n)) → (n : Name) → Contains new n ↔ IsOneOf Is xs n
  from_none xs new is n = (λ h. elim ((is n).0 h) [ inl none ↦ absurd (none_in n none) | inr one ↦ one ], λ one. (is n).1 (inr one))

-- a property of what things are made into
pub of_map : {X Y : Type 0} (f : X → Y) (Is : Y → Name → Type 0) (xs : List X) (n : Name) → IsOneOf (λ x. Is (f x)) xs n ↔ IsOneOf Is (map f xs) n
of_map f Is xs n = (
  λ h. record { one = f h.one; there = in_map f xs h.one h.there; is = h.is },
  λ h. let found = from_map f xs h.one h.there in record { one = found.0; there = found.1.0; is = subst (λ (y : _). Is y n) (sym found.1.1) h.is },
)

-- the same set by another property
pub set_by : (old new : List Name) (Is Was : Name → Type 0) → ((n : Name) → Is n ↔ Was n) → ((n : Name) → Contains new n ↔ (Contains old n ⊎ Is n)) → (n : Name) → Contains new n ↔ (Contains old n ⊎ Was n)
set_by old new Is Was same is n = (
  λ h. elim ((is n).0 h) [ inl o ↦ inl o | inr i ↦ inr ((same n).0 i) ],
  λ h. elim h [ inl o ↦ (is n).1 (inl o) | inr w ↦ (is n).1 (inr ((same n).1 w)) ],
)

-- a set that stays, where nothing has the property
pub set_stays : (old : List Name) (Is : Name → Type 0) → ((n : Name) → Is n → ⊥) → (n : Name) → Contains old n ↔ (Contains old n ⊎ Is n)
set_stays old Is none n = (λ h. inl h, λ h. elim h [ inl o ↦ o | inr i ↦ absurd (none n i) ])

module _ (bodies : Bodies) (name : Name) where
  -- the folders of a directory that is held
  pub folders_at : name.kind ≡ DirectoryKind → (entries : List DirectoryEntry) → HoldsDirectory bodies name entries → (n : Name) → IsOneOf IsFolderOf entries n ↔ IsFolderAt bodies name n
  folders_at kind entries holds n = (
    λ h. record { entry = h.one; is_entry = record { kind = kind; body = holds.body; held = holds.held; entries = entries; is = holds.is; there = h.there }; folder = h.is },
    λ h.
        let has = h.is_entry in
        let same = one_listing_lem holds.body has.entries entries (subst (λ (b : List ℕ). IsDirectory b has.entries) (same_some has.body holds.body (sym has.held ∙ holds.held)) has.is) holds.is in
        record { one = h.entry; there = subst (λ (es : List DirectoryEntry). Contains es h.entry) same has.there; is = h.folder },
  )

-- what stands after a name was added
pub set_added : {T F : Type 0} (r : Result T F) (old new : List Name) (Is : Name → Type 0) (name : Name) → Is name → ((n : Name) → Is n → name ≡ n) → OnOk r ((n : Name) → Contains new n ↔ (Contains old n ⊎ (name ≡ n)))
    → OnOk r ((n : Name) → Contains new n ↔ (Contains old n ⊎ Is n))
set_added (Ok x) old new Is name has only h = set_by old new (λ n. name ≡ n) Is (λ n. (λ e. subst Is e has, λ is. only n is)) h
set_added (Err e) old new Is name has only h = tt
