-- The contents of files that were read are held.
use Rattle.std.proofs.Common.{◌≡◌, ◌⊎◌, inl, inr, ℕ, zero, suc, ◌+◌, List, [], ◌∷◌, ◌++◌, get_or, set, Contains, refl, sym, subst}
use Rattle.std.specs.Prelude.{Result, Ok, Err, IfOk, OnOk}
use Rattle.std.specs.List.{AllByRecursion}
use Rattle.swh_base.specs.declared.kind.Kind.{Kind}
use Rattle.swh_base.specs.declared.kind.Kind.TheVariants.{Content}
use Rattle.swh_base.specs.declared.entry.Entry.{Entry}
use Rattle.swh_base.specs.declared.memory.Memory.{Memory}
use Rattle.swh_base.specs.declared.name.Name.{Name}
use Rattle.swh_base.proofs.Elementary.{all_as}
use Rattle.swh_model.specs.Meaning.{content}
use Rattle.swh_dedup.specs.Making.{made, name_of, names_of_made}
use Rattle.swh_dedup.proofs.Elements.{all_push, contains_map}
use Rattle.swh_dedup.proofs.Givens.{more_names}
use Rattle.swh_dirmade.specs.declared.member.Member.{Member}
use Rattle.swh_dirmade.specs.declared.member.Member.TheVariants as stands
use Rattle.swh_dirmade.specs.Giving.{Keeps}
use Rattle.swh_dirmade.specs.Making.{IsHeld}
use Rattle.swh_dirmade.proofs.Built.{grows, given_there, held_more}
use Rattle.swh_dirmade.specs.declared.spot.Spot.{Spot}
use Rattle.swh_dirload.specs.declared.lookup.Lookup.{Lookup}
use Rattle.swh_dirload.specs.declared.lookup.Lookup.TheVariants.{Here, Free, Lost}
use Rattle.swh_dirload.specs.declared.taking.Taken.{Taken}
use Rattle.swh_dirload.specs.declared.taking.Taken.TheVariants.{Yes, No}
use Rattle.swh_dirload.specs.Index.{LooksUp}
use Rattle.swh_dirload.specs.Lines.{SetsMode, TakesMode, AddsProject}
use Rattle.swh_outside.specs.Folder.{Tree}
use Rattle.swh_outside.specs.declared.folder.What.{What}
use Rattle.swh_outside.specs.declared.folder.What.TheVariants.{File, Folder, Other}
use Rattle.swh_dirload.specs.Items.{Item}
use Rattle.swh_dirload.specs.Loading.{HasTable}
use Rattle.swh_dirload.specs.Reading.{GivesContent, IsRead, ReadsAll}

module _ (id : Kind → List ℕ → List ℕ) where
  pub holds_content : (old : List Entry) (bytes : List ℕ) (new : List Entry) (own : List ℕ) → own ≡ id Content bytes → GivesContent old bytes new → IsHeld (names_of_made id (made new)) (stands.File 100644 own)
  holds_content old bytes new own is h =
      let there : Contains (made new) (content bytes) = subst (Contains (made new)) h.1 (given_there old new h.0 h.2) in
      (inl refl, subst (λ (k : List ℕ). Contains (names_of_made id (made new)) (record { kind = Content; id = k })) (sym is) (contains_map (name_of id) (made new) (content bytes) there))

  pub held_push : (old new : List Entry) (places : List Member) (place : Member) → Keeps old new → AllByRecursion (IsHeld (names_of_made id (made old))) places → IsHeld (names_of_made id (made new)) place → AllByRecursion (IsHeld (names_of_made id (made new))) (places ++ place ∷ [])
  held_push old new places place kept held here =
      all_push (IsHeld (names_of_made id (made new))) places place
      (all_as (IsHeld (names_of_made id (made old))) (IsHeld (names_of_made id (made new))) (λ p h. held_more (names_of_made id (made old)) (names_of_made id (made new)) p (λ n c. more_names id (made old) (made new) n kept c) h) places held) here

-- a list of which each is held stays one, where one element is set to one that is held if the old one was
all_set : {X : Type 0} (P : X → Type 0) (xs : List X) (n : ℕ) (y d : X) → (P (get_or xs n d) → P y) → AllByRecursion P xs → AllByRecursion P (set xs n y)
all_set P [] n y d f h = tt
all_set P (x ∷ xs) zero y d f h = (f h.0, h.1)
all_set P (x ∷ xs) (suc n) y d f h = (h.0, all_set P xs n y d f h.1)

sets_held : (names : List Name) (old new : List Member) (n mode : ℕ) (taken : Taken) → (mode ≡ 100644) ⊎ ((mode ≡ 100755) ⊎ (mode ≡ 120000)) → SetsMode old n mode new taken → AllByRecursion (IsHeld names) old → AllByRecursion (IsHeld names) new
sets_held names old new n mode Yes good h all =
    subst (AllByRecursion (IsHeld names)) (sym h.2) (all_set (IsHeld names) old n (stands.File mode h.0) stands.Folder (λ held. (good, (subst (IsHeld names) h.1 held).1)) all)
sets_held names old new n mode No good h all = subst (AllByRecursion (IsHeld names)) (sym h.0) all

takes_held : (names : List Name) (found : Lookup) (old new : List Member) (mode : ℕ) (taken : Taken) → (mode ≡ 100644) ⊎ ((mode ≡ 100755) ⊎ (mode ≡ 120000)) → TakesMode found old mode new taken → AllByRecursion (IsHeld names) old → AllByRecursion (IsHeld names) new
takes_held names (Here n) old new mode taken good h all = sets_held names old new n mode taken good h all
takes_held names (Free above name) old new mode taken good h all = subst (AllByRecursion (IsHeld names)) (sym h.1) all
takes_held names Lost old new mode taken good h all = subst (AllByRecursion (IsHeld names)) (sym h.1) all

-- what a mode leaves held
pub mode_held : (names : List Name) (spots : List Spot) (path : List ℕ) (old new : List Member) (mode : ℕ) (r : Result Taken Memory) → (mode ≡ 100644) ⊎ ((mode ≡ 100755) ⊎ (mode ≡ 120000)) → IfOk r (λ taken. (found : Lookup) × LooksUp spots path found × TakesMode found old mode new taken) → AllByRecursion (IsHeld names) old → OnOk r (AllByRecursion (IsHeld names) new)
mode_held names spots path old new mode (Ok taken) good h all = takes_held names h.0 old new mode taken good h.2 all
mode_held names spots path old new mode (Err e) good h all = tt

-- what a project leaves held
pub project_held : (names : List Name) (above : ℕ) (name id : List ℕ) (spots spots_now : List Spot) (old new : List Member) (r : Result Taken Memory) → IfOk r (AddsProject above name id spots old spots_now new) → AllByRecursion (IsHeld names) old → OnOk r (AllByRecursion (IsHeld names) new)
project_held names above name id spots spots_now old new (Ok Yes) h all = subst (AllByRecursion (IsHeld names)) (sym h.2) (all_push (IsHeld names) old (stands.Project id) all tt)
project_held names above name id spots spots_now old new (Ok No) h all = subst (AllByRecursion (IsHeld names)) (sym h.1) all
project_held names above name id spots spots_now old new (Err e) h all = tt

module _ (id : Kind → List ℕ → List ℕ) (tree : Tree) where
  read_held : (path : List ℕ) (what : What) (count : ℕ) (old : List Entry) (place : Member) (new : List Entry) → IsRead id tree path what count old place new → Keeps old new × IsHeld (names_of_made id (made new)) place
  read_held path File count old place new h =
      let held : IsHeld (names_of_made id (made new)) (stands.File 100644 (id Content h.0)) = holds_content id old h.0 new (id Content h.0) refl h.4 in
      (λ m c. grows old new h.4.0 h.4.2 m c, subst (IsHeld (names_of_made id (made new))) (sym h.3) held)
  read_held path Folder count old place new h =
      (λ m c. subst (λ (es : List Entry). Contains (made es) m) (sym h.2) c, subst (IsHeld (names_of_made id (made new))) (sym h.1) tt)
  read_held path Other count old place new h = absurd h

  -- the contents of all files that are read are held
  reads_held : (at : ℕ) (old : List Entry) (items : List Item) (places : List Member) (now : ℕ) (new : List Entry) → ReadsAll id tree at old items places now new → Keeps old new × AllByRecursion (IsHeld (names_of_made id (made new))) places
  reads_held at old [] [] now new h = (λ m c. subst (λ (es : List Entry). Contains (made es) m) h.1 c, tt)
  reads_held at old [] (place ∷ places) now new h = absurd h
  reads_held at old (item ∷ items) [] now new h = absurd h
  reads_held at old (item ∷ items) (place ∷ places) now new h =
      let first = read_held item.0 item.1 h.0 old place h.1 h.2 in
      let rest = reads_held (at + h.0) h.1 items places now new h.4 in
      (λ m c. rest.0 m (first.0 m c), (held_more (names_of_made id (made h.1)) (names_of_made id (made new)) place (λ n c. more_names id (made h.1) (made new) n rest.0 c) first.1, rest.1))

  pub table_held : (spots : List Spot) (places : List Member) (contents : List Entry) → HasTable id tree spots places contents → AllByRecursion (IsHeld (names_of_made id (made contents))) places
  table_held spots places contents has = (reads_held 0 [] has.items places has.total contents has.reads).1

-- the content of these bytes, as it is given
abbrev pub content_entry : (Kind → List ℕ → List ℕ) → List ℕ → Entry
content_entry id bytes = record { name = record { kind = Content; id = id Content bytes }; body = bytes; kids = [] }

pub gives_content : (id : Kind → List ℕ → List ℕ) (old : List Entry) (bytes : List ℕ) → GivesContent old bytes (old ++ content_entry id bytes ∷ [])
gives_content id old bytes = (content_entry id bytes, refl, inr refl)
