-- What a commit leads to: its objects, each after those that it names, and what is held afterwards.
use Rattle.std.proofs.Common.{◌≡◌, ◌⊎◌, inl, inr, ℕ, zero, suc, ◌+◌, ◌<◌, ◌≤◌, List, [], ◌∷◌, ◌++◌, length, map, Contains, refl, sym, ap, ◌∙◌, subst, arith}
use Rattle.std.specs.List.{AllByRecursion}
use Rattle.std.proofs.lemmas.List.Elements.{Contains-append_left, Contains-push}
use Rattle.swh_base.specs.declared.kind.Kind.{Kind}
use Rattle.swh_base.specs.declared.kind.Kind.TheVariants.{Content, Directory, Revision}
use Rattle.swh_base.specs.declared.name.Name.{Name}
use Rattle.swh_base.specs.declared.entry.Entry.{Entry}
use Rattle.swh_base.specs.Name.{IsId}
use Rattle.swh_base.specs.Revision.{BeginsParent, revision_name}
use Rattle.swh_base.specs.Manifest.{AreChildren, IsWellFormed}
use Rattle.swh_base.proofs.Children.{one_list}
use Rattle.swh_base.proofs.Elementary.{all_as}
use Rattle.swh_revfmt.specs.Plain.{RevisionRest, revision_rest, plain_revision_text}
use Rattle.swh_model.specs.Meaning.{Made}
use Rattle.swh_trees.specs.Grove.{Grove, folder_map}
use Rattle.swh_trees.specs.Makes.{IsNumbered}
use Rattle.swh_trees.specs.Objects.{AreDirectoryObjects, IsDirectoryObject}
use Rattle.swh_forest.specs.PathMap.{PathMap, HasFolder, held, held_by}
use Rattle.swh_trees.specs.Directory.{directory_id, directory_of}
use Rattle.swh_dedup.specs.Making.{made_from, made, name_of, object_of, names_of_made, HaveIds}
use Rattle.swh_fastmeaning.specs.Commands.{revision_parts}
use Rattle.swh_dedup.specs.Giving.{IsReady, AreReady}
use Rattle.swh_fastmeaning.specs.Stock.{folder_made, AreFilesAmong}
use Rattle.swh_dedup.proofs.Elements.{contains_map, first_is, later_is, none_is, first_or_later}
use Rattle.swh_dedup.proofs.Givens.{AreAlso}
use Rattle.swh_fastmeaning.proofs.Tags.{named_id}
use Rattle.swh_fastload.proofs.DirectoryKids.{directory_name, directory_kids}

last_or_less : (k n : ℕ) → k < suc n → (k ≡ n) ⊎ (k < n)
last_or_less zero zero l = inl refl
last_or_less zero (suc n) l = inr (omega arith)
last_or_less (suc k) zero l = absurd (omega arith)
last_or_less (suc k) (suc n) l = again (last_or_less k n (omega arith))
  where
    again : (k ≡ n) ⊎ (k < n) → (suc k ≡ suc n) ⊎ (suc k < suc n)
    again (inl e) = inl (ap suc e)
    again (inr m) = inr (omega (arith, m))

first_or_more : (a b : ℕ) → a ≤ b → (b ≡ a) ⊎ (suc a ≤ b)
first_or_more zero zero l = inl refl
first_or_more zero (suc b) l = inr (omega arith)
first_or_more (suc a) zero l = absurd (omega arith)
first_or_more (suc a) (suc b) l = again (first_or_more a b (omega arith))
  where
    again : (b ≡ a) ⊎ (suc a ≤ b) → (suc b ≡ suc a) ⊎ (suc (suc a) ≤ suc b)
    again (inl e) = inl (ap suc e)
    again (inr m) = inr (omega (arith, m))

-- ## The revision

first_byte : List ℕ → ℕ
first_byte [] = 0
first_byte (b ∷ bs) = b

no_parents : (r : RevisionRest) → BeginsParent (revision_rest r) → ⊥
unfolding first_byte
no_parents r h = let both : ◌≡◌ {A = ℕ} 97 112 = ap first_byte h.text in absurd (omega arith)

module _ (id : Kind → List ℕ → List ℕ) where
  -- the names that a revision names
  abbrev revision_kids : List ℕ → List (List ℕ) → List Name
  revision_kids root parents = record { kind = Directory; id = root } ∷ map revision_name parents

  its_kids : (root : List ℕ) (parents : List (List ℕ)) (rest : RevisionRest) → IsId root → AllByRecursion IsId parents → AreChildren Revision (plain_revision_text (revision_parts root parents rest)) (revision_kids root parents)
  its_kids root parents rest r p = record {
    revision = record { directory = root; parents = parents; rest = revision_rest rest };
    is = record { text = refl; directory = r; parents = p; no_more = no_parents rest };
    kids = refl;
  }

  pub revision_good : (root : List ℕ) (parents : List (List ℕ)) (rest : RevisionRest) → IsId root → AllByRecursion IsId parents → IsWellFormed Revision (plain_revision_text (revision_parts root parents rest))
  revision_good root parents rest r p = (revision_kids root parents, its_kids root parents rest r p)

  parents_names : (names : List Name) (parents : List (List ℕ)) → AllByRecursion (λ i. Contains names (revision_name i)) parents → AllByRecursion (Contains names) (map revision_name parents)
  parents_names names [] h = tt
  parents_names names (p ∷ ps) h = (h.0, parents_names names ps h.1)

  -- the revision of a root and of parents that are there
  pub revision_ready : (before : List Made) (root : List ℕ) (parents : List (List ℕ)) (rest : RevisionRest) → Contains (names_of_made id before) (record { kind = Directory; id = root }) → AllByRecursion (λ i. Contains (names_of_made id before) (revision_name i)) parents
      → IsReady id before (object_of Revision (plain_revision_text (revision_parts root parents rest)))
  revision_ready before root parents rest r p ids kids h =
      let names = names_of_made id before in
      let ids_of = all_as (λ (i : List ℕ). Contains names (revision_name i)) IsId (λ i c. named_id id before (revision_name i) ids c) parents p in
      let same = one_list Revision (plain_revision_text (revision_parts root parents rest)) (revision_kids root parents) kids (its_kids root parents rest (named_id id before (record { kind = Directory; id = root }) ids r) ids_of) h in
      subst (AllByRecursion (Contains names)) same (r, parents_names names parents p)

  -- ## The contents

  one_content : (before : List Made) (m : Made) → m.kind ≡ Content → IsReady id before m
  one_content before m e ids kids h =
      let none : [] ≡ kids = sym (subst (λ (k : Kind). AreChildren k m.body kids) e h) in
      subst (AllByRecursion (Contains (names_of_made id before))) none tt

  pub contents_ready : (before ms : List Made) → AllByRecursion (λ m. m.kind ≡ Content) ms → AreReady id before ms
  contents_ready before [] h = tt
  contents_ready before (m ∷ ms) h = (one_content before m h.0, contents_ready (before ++ m ∷ []) ms h.1)

  -- ## The directories

  module _ (grove : Grove) where
    -- The directories of all lower folders are among these.
    abbrev AreLower : List Made → ℕ → Type 0
    AreLower before n = (k : ℕ) → k < n → Contains before (folder_made id grove k)

    -- Each folder right under this one has a lower number.
    abbrev AreNumbered : ℕ → Type 0
    AreNumbered n = (c : List ℕ) → HasFolder (folder_map grove n) (c ∷ []) → IsNumbered grove n (held (c ∷ []) (folder_map grove n))

    directory_ready : (before : List Made) (n : ℕ) → AreLower before n → AreNumbered n → (HaveIds id before → AreFilesAmong (names_of_made id before) (folder_map grove n)) → IsReady id before (folder_made id grove n)
    directory_ready before n lower numbered files ids kids h =
        directory_kids id (names_of_made id before) (folder_map grove n) (files ids) (λ c there. by_number c (numbered c there)) kids h
      where
        by_number : (c : List ℕ) → IsNumbered grove n (held (c ∷ []) (folder_map grove n)) → Contains (names_of_made id before) (directory_name id (held_by c (folder_map grove n))) × IsId (directory_id id (directory_of id (held_by c (folder_map grove n))))
        by_number c k =
            let there = contains_map (name_of id) before (folder_made id grove k.number) (lower k.number k.within) in
            let name : Contains (names_of_made id before) (directory_name id (held_by c (folder_map grove n))) = subst (λ (m : PathMap). Contains (names_of_made id before) (directory_name id m)) k.map there in
            (name, named_id id before (directory_name id (held_by c (folder_map grove n))) ids name)

    made_is : (n : ℕ) (o : Entry) → IsDirectoryObject id (directory_of id (folder_map grove n)) o → folder_made id grove n ≡ made_from o
    made_is n o d = sym (ap (λ (k : Kind). object_of k o.body) d.kind ∙ ap (object_of Directory) d.body)

    pub directories_ready : (before : List Made) (from : ℕ) (os : List Entry) → AreDirectoryObjects id (λ n. directory_of id (folder_map grove n)) from os → AreLower before from → ((n : ℕ) → n < from + length os → AreNumbered n)
        → ((after : List Made) (n : ℕ) → from ≤ n → n < from + length os → AreAlso before after → HaveIds id after → AreFilesAmong (names_of_made id after) (folder_map grove n)) → AreReady id before (made os)
    directories_ready before from [] d lower numbered files = tt
    directories_ready before from (o ∷ os) d lower numbered files =
        let m = folder_made id grove from in
        let e = made_is from o d.0 in
        let ready = directory_ready before from lower (numbered from (omega arith)) (λ ids. files before from (omega arith) (omega arith) (λ x i. i) ids) in (
          subst (IsReady id before) e ready,
          directories_ready (before ++ made_from o ∷ []) (suc from) os d.1 (λ k l. by_number k l e) (λ n l. numbered n (omega arith))
              (λ after n low l sub ids. files after n (omega arith) (omega arith) (λ x i. sub x (Contains-append_left before (made_from o ∷ []) x i)) ids),
        )
      where
        by_number : (k : ℕ) → k < suc from → folder_made id grove from ≡ made_from o → Contains (before ++ made_from o ∷ []) (folder_made id grove k)
        by_number k l e = by_cases (last_or_less k from l)
          where
            by_cases : (k ≡ from) ⊎ (k < from) → Contains (before ++ made_from o ∷ []) (folder_made id grove k)
            by_cases (inl s) = subst (Contains (before ++ made_from o ∷ [])) (sym e ∙ ap (folder_made id grove) (sym s)) (Contains-push before (made_from o))
            by_cases (inr s) = Contains-append_left before (made_from o ∷ []) (folder_made id grove k) (lower k s)

    -- the object of a new number is among those that are made
    pub directory_there : (from : ℕ) (os : List Entry) (n : ℕ) → AreDirectoryObjects id (λ n. directory_of id (folder_map grove n)) from os → from ≤ n → n < from + length os → Contains (made os) (folder_made id grove n)
    directory_there from [] n d low l = absurd (omega arith)
    directory_there from (o ∷ os) n d low l = by_cases (first_or_more from n low) (λ m. directory_there (suc from) os n d.1 m (omega arith))
      where
        by_cases : (n ≡ from) ⊎ (suc from ≤ n) → (suc from ≤ n → Contains (made os) (folder_made id grove n)) → Contains (made (o ∷ os)) (folder_made id grove n)
        by_cases (inl s) k = subst (Contains (made (o ∷ os))) (sym (made_is from o d.0) ∙ ap (folder_made id grove) (sym s)) (first_is (made_from o) (made os))
        by_cases (inr s) k = later_is (made_from o) (made os) (folder_made id grove n) (k s)

    -- each object that is made is that of a new number
    pub directory_from : (from : ℕ) (os : List Entry) (m : Made) → AreDirectoryObjects id (λ n. directory_of id (folder_map grove n)) from os → Contains (made os) m → (n : ℕ) × (from ≤ n) × (n < from + length os) × (folder_made id grove n ≡ m)
    directory_from from [] m d c = absurd (none_is m c)
    directory_from from (o ∷ os) m d c = by_place (first_or_later (made_from o) (made os) m c) (directory_from (suc from) os m d.1)
      where
        by_place : (made_from o ≡ m) ⊎ Contains (made os) m → (Contains (made os) m → (n : ℕ) × (suc from ≤ n) × (n < suc from + length os) × (folder_made id grove n ≡ m)) → (n : ℕ) × (from ≤ n) × (n < from + length (o ∷ os)) × (folder_made id grove n ≡ m)
        by_place (inl e) k = (from, omega arith, omega arith, made_is from o d.0 ∙ e)
        by_place (inr i) k = let r = k i in let low = r.1 in let high = r.2 in (r.0, omega (arith, low), omega (arith, high), r.3)
