-- What was made of a directory, by the nodes under it.
use Rattle.std.proofs.Common.{◌≡◌, ◌⊎◌, inl, inr, ℕ, ◌==◌, Bool, true, false, cond, Some, List, [], ◌∷◌, ◌++◌, length, map, Contains, codes, refl, sym, ap, ◌∙◌, subst, arith}
use Rattle.std.specs.List.{flat_map}
use Rattle.std.proofs.lemmas.Bool.{eqb-true}
use Rattle.std.proofs.lemmas.List.{append_cancel_left, length-append}
use Rattle.std.proofs.lemmas.List.Concat.{flat_map-cons}
use Rattle.std.proofs.lemmas.List.Elements.{Contains-append_left, Contains-append_right, Contains-append_cases}
use Rattle.swh_base.specs.Directory.{DirectoryEntry, IsEntryName, AreEntries}
use Rattle.swh_dedup.proofs.Elements.{first_or_later, first_is, later_is, none_is, contains_map, from_map}
use Rattle.swh_outside.specs.Folder.{FolderEntry, Tree as Held}
use Rattle.swh_outside.specs.declared.folder.What.{What}
use Rattle.swh_outside.specs.declared.folder.What.TheVariants.{File, Folder as FolderHere, Other}
use Rattle.swh_model.specs.Archive.{Bodies, body_of}
use Rattle.swh_pathwalk.specs.Tree.{Tree, entries_in, AreHeldUnder, Row}
use Rattle.swh_dirmade.specs.Paths.{child}
use Rattle.swh_dirmade.proofs.Paths.{child_some}
use Rattle.swh_dircook.specs.Listing.{listing_text}
use Rattle.swh_dircook.specs.Made.{Made, FolderMade, FileMade, content_name, bytes_or_none, path_in, listing_path, made_at, made_of, all_made, folder_made}
use Rattle.swh_dirload.specs.Items.{item_in, HasItems}
use Rattle.swh_carried.specs.Rules.{IsDots}
use Rattle.swh_cook.specs.FolderBack.{place_in, IsMadeAt, HoldsMade}
use Rattle.swh_cook.proofs.Nodes.{Node, node_at, row_of, IsGood}
use Rattle.swh_cook.proofs.Standing.{all, IsDir, dir_entries, dir_entry, node_some, entry_node, node_in}
use Rattle.swh_cook.proofs.Listed.{what_of, shown_of, shown, from_shown, to_shown, shown_as, folder_name, has_items}

-- ---- places

longer : (out : List ℕ) (c : ℕ) (rest : List ℕ) → out ≡ out ++ c ∷ rest → ⊥
longer out c rest e =
    let l = ap (λ (s : List ℕ). length s) e in
    let both = length-append out (c ∷ rest) in
    omega (arith, l, both)

tail_path : (c d : ℕ) (p q : List ℕ) → 47 ∷ c ∷ p ≡ 47 ∷ d ∷ q → c ∷ p ≡ d ∷ q
tail_path c d p q e = cc

pub place_same : (out p q : List ℕ) → place_in out p ≡ place_in out q → p ≡ q
place_same out [] [] e = refl
place_same out [] (d ∷ q) e = absurd (longer out 47 (d ∷ q) e)
place_same out (c ∷ p) [] e = absurd (longer out 47 (c ∷ p) (sym e))
place_same out (c ∷ p) (d ∷ q) e = tail_path c d p q (append_cancel_left out (47 ∷ c ∷ p) (47 ∷ d ∷ q) e)

first_byte : (c d : ℕ) (p q : List ℕ) → c ∷ p ≡ d ∷ q → c ≡ d
first_byte c d p q e = cc

other_byte : (p q : List ℕ) → 46 ∷ p ≡ 47 ∷ q → ⊥
other_byte p q e = let f = first_byte 46 47 p q e in omega (arith, f)

no_listing : (out p : List ℕ) → listing_path out ≡ place_in out p → ⊥
no_listing out [] e = longer out 46 (codes "modes") (sym e)
no_listing out (c ∷ p) e = other_byte (codes "modes") (c ∷ p) (append_cancel_left out (codes ".modes") (47 ∷ c ∷ p) e)

pub place_is : (out path : List ℕ) → (path ≡ [] → ⊥) → place_in out path ≡ path_in out path
place_is out [] some = absurd (some refl)
place_is out (c ∷ path) some = refl

-- ---- what is made for an entry

folder_path : (p q : List ℕ) → FolderMade p ≡ FolderMade q → p ≡ q
folder_path p q e = cc

not_file : (p q b : List ℕ) → FileMade p b ≡ FolderMade q → ⊥
not_file p q b e = cc

not_folder : (p q b : List ℕ) → FolderMade p ≡ FileMade q b → ⊥
not_folder p q b e = cc

file_path : (p q a b : List ℕ) → FileMade p a ≡ FileMade q b → p ≡ q
file_path p q a b e = cc

file_bytes : (p q a b : List ℕ) → FileMade p a ≡ FileMade q b → a ≡ b
file_bytes p q a b e = cc

module _ (path bytes : List ℕ) where
  abbrev Things : Bool → Bool → List Made
  Things f p = cond f (FolderMade path ∷ []) (cond p [] (FileMade path bytes ∷ []))

  a_folder : (f p : Bool) → f ≡ true → Contains (Things f p) (FolderMade path)
  a_folder true p e = first_is (FolderMade path) []
  a_folder false p e = absurd cc

  a_file : (f p : Bool) → f ≡ false → p ≡ false → Contains (Things f p) (FileMade path bytes)
  a_file true p e d = absurd cc
  a_file false true e d = absurd cc
  a_file false false e d = first_is (FileMade path bytes) []

  is_folder : (f p : Bool) (at : List ℕ) → Contains (Things f p) (FolderMade at) → (f ≡ true) × (path ≡ at)
  is_folder true p at there = elim (first_or_later (FolderMade path) [] (FolderMade at) there) [ inl same ↦ (refl, folder_path path at same) | inr none ↦ absurd (none_is (FolderMade at) none) ]
  is_folder false true at there = absurd (none_is (FolderMade at) there)
  is_folder false false at there = elim (first_or_later (FileMade path bytes) [] (FolderMade at) there) [ inl same ↦ absurd (not_file path at bytes same) | inr none ↦ absurd (none_is (FolderMade at) none) ]

  is_file : (f p : Bool) (at its : List ℕ) → Contains (Things f p) (FileMade at its) → (f ≡ false) × (p ≡ false) × (path ≡ at) × (bytes ≡ its)
  is_file true p at its there = elim (first_or_later (FolderMade path) [] (FileMade at its) there) [ inl same ↦ absurd (not_folder path at its same) | inr none ↦ absurd (none_is (FileMade at its) none) ]
  is_file false true at its there = absurd (none_is (FileMade at its) there)
  is_file false false at its there =
      elim (first_or_later (FileMade path bytes) [] (FileMade at its) there) [
        | inl same ↦ (refl, refl, file_path path at bytes its same, file_bytes path at bytes its same)
        | inr none ↦ absurd (none_is (FileMade at its) none)
      ]

-- ---- flat lists

into_flat : {X A : Type 0} (f : X → List A) (xs : List X) (x : X) (a : A) → Contains xs x → Contains (f x) a → Contains (flat_map f xs) a
into_flat f [] x a there is = absurd (none_is x there)
into_flat {X} {A} f (y ∷ ys) x a there is =
    subst (λ (l : List A). Contains l a) (sym (flat_map-cons f y ys))
    (elim (first_or_later y ys x there) [
      | inl same ↦ Contains-append_left (f y) (flat_map f ys) a (subst (λ (z : X). Contains (f z) a) (sym same) is)
      | inr later ↦ Contains-append_right (f y) (flat_map f ys) a (into_flat f ys x a later is)
    ])

from_flat : {X A : Type 0} (f : X → List A) (xs : List X) (a : A) → Contains (flat_map f xs) a → (x : X) × Contains xs x × Contains (f x) a
from_flat f [] a there = absurd (none_is a there)
from_flat {X} {A} f (y ∷ ys) a there =
    elim (Contains-append_cases (f y) (flat_map f ys) a (subst (λ (l : List A). Contains l a) (flat_map-cons f y ys) there)) [
      | inl here ↦ (y, first_is y ys, here)
      | inr later ↦ let h = from_flat f ys a later in (h.0, later_is y ys h.0 h.1, h.2)
    ]

-- ---- all that was made

module _ (bodies : Bodies) (tree : Tree) (good : IsGood tree) (entries : AreEntries (entries_in tree)) (held : AreHeldUnder bodies tree) (out : List ℕ) where
  abbrev pub nodes_all : List Node
  nodes_all = all bodies tree good entries held

  abbrev pub rows : List Row
  rows = map row_of nodes_all

  abbrev pub things : List Made
  things = folder_made bodies out rows

  -- the bytes of a node's file
  abbrev pub bytes_of : Node → List ℕ
  bytes_of n = bytes_or_none (body_of bodies (content_name n.entry.id))

  made_there : (n : Node) → Contains nodes_all n → (m : Made) → Contains (made_at bodies (path_in out n.path) n.entry) m → Contains things m
  made_there n there m is =
      later_is (FolderMade out) (all_made bodies out rows ++ FileMade (listing_path out) (listing_text rows) ∷ []) m
      (Contains-append_left (all_made bodies out rows) (FileMade (listing_path out) (listing_text rows) ∷ []) m
      (into_flat (made_of bodies out) rows (row_of n) m (contains_map row_of nodes_all n there) is))

  from_made : (m : Made) → Contains (all_made bodies out rows) m → (n : Node) × Contains nodes_all n × Contains (made_at bodies (path_in out n.path) n.entry) m
  from_made m there =
      let h = from_flat (made_of bodies out) rows m there in
      let n = from_map row_of nodes_all h.0 h.1 in
      (n.0, n.1, subst (λ (r : Row). Contains (made_of bodies out r) m) (sym n.2) h.2)

  pub folder_there : (n : Node) → Contains nodes_all n → n.entry.mode ≡ 40000 → Contains things (FolderMade (place_in out n.path))
  folder_there n there folder =
      subst (λ (p : List ℕ). Contains things (FolderMade p)) (sym (place_is out n.path (node_some bodies tree good entries held n there)))
      (made_there n there (FolderMade (path_in out n.path)) (a_folder (path_in out n.path) (bytes_of n) (n.entry.mode == 40000) (n.entry.mode == 160000) (ap (λ (k : ℕ). k == 40000) folder)))

  pub file_there : (n : Node) → Contains nodes_all n → (n.entry.mode == 40000) ≡ false → (n.entry.mode == 160000) ≡ false → Contains things (FileMade (place_in out n.path) (bytes_of n))
  file_there n there folder project =
      subst (λ (p : List ℕ). Contains things (FileMade p (bytes_of n))) (sym (place_is out n.path (node_some bodies tree good entries held n there)))
      (made_there n there (FileMade (path_in out n.path) (bytes_of n)) (a_file (path_in out n.path) (bytes_of n) (n.entry.mode == 40000) (n.entry.mode == 160000) folder project))

  pub folder_from : (path : List ℕ) → (path ≡ [] → ⊥) → Contains things (FolderMade (place_in out path)) → (n : Node) × Contains nodes_all n × ((n.entry.mode == 40000) ≡ true) × (n.path ≡ path)
  folder_from path some there =
      elim (first_or_later (FolderMade out) (all_made bodies out rows ++ FileMade (listing_path out) (listing_text rows) ∷ []) (FolderMade (place_in out path)) there) [
        | inl same ↦ absurd (some (sym (place_same out [] path (folder_path out (place_in out path) same))))
        | inr later ↦
            elim (Contains-append_cases (all_made bodies out rows) (FileMade (listing_path out) (listing_text rows) ∷ []) (FolderMade (place_in out path)) later) [
              | inl in_rows ↦
                  let n = from_made (FolderMade (place_in out path)) in_rows in
                  let is = is_folder (path_in out n.0.path) (bytes_of n.0) (n.0.entry.mode == 40000) (n.0.entry.mode == 160000) (place_in out path) n.2 in
                  (n.0, n.1, is.0, place_same out n.0.path path (place_is out n.0.path (node_some bodies tree good entries held n.0 n.1) ∙ is.1))
              | inr last ↦
                  elim (first_or_later (FileMade (listing_path out) (listing_text rows)) [] (FolderMade (place_in out path)) last) [
                    | inl same ↦ absurd (not_file (listing_path out) (place_in out path) (listing_text rows) same)
                    | inr none ↦ absurd (none_is (FolderMade (place_in out path)) none)
                  ]
            ]
      ]

  pub file_from : (path bytes : List ℕ) → Contains things (FileMade (place_in out path) bytes) → (n : Node) × Contains nodes_all n × ((n.entry.mode == 40000) ≡ false) × ((n.entry.mode == 160000) ≡ false) × (n.path ≡ path) × (bytes_of n ≡ bytes)
  file_from path bytes there =
      elim (first_or_later (FolderMade out) (all_made bodies out rows ++ FileMade (listing_path out) (listing_text rows) ∷ []) (FileMade (place_in out path) bytes) there) [
        | inl same ↦ absurd (not_folder out (place_in out path) bytes same)
        | inr later ↦
            elim (Contains-append_cases (all_made bodies out rows) (FileMade (listing_path out) (listing_text rows) ∷ []) (FileMade (place_in out path) bytes) later) [
              | inl in_rows ↦
                  let n = from_made (FileMade (place_in out path) bytes) in_rows in
                  let is = is_file (path_in out n.0.path) (bytes_of n.0) (n.0.entry.mode == 40000) (n.0.entry.mode == 160000) (place_in out path) bytes n.2 in
                  (n.0, n.1, is.0, is.1, place_same out n.0.path path (place_is out n.0.path (node_some bodies tree good entries held n.0 n.1) ∙ is.2), is.3)
              | inr last ↦
                  elim (first_or_later (FileMade (listing_path out) (listing_text rows)) [] (FileMade (place_in out path) bytes) last) [
                    | inl same ↦ absurd (no_listing out path (file_path (listing_path out) (place_in out path) (listing_text rows) bytes same))
                    | inr none ↦ absurd (none_is (FileMade (place_in out path) bytes) none)
                  ]
            ]
      ]

  -- ---- what is shown of a directory is what was made in it

  module _ (dir : List ℕ) (es : List DirectoryEntry) (is_dir : IsDir bodies tree good entries held dir es) where
    what_by : (b : Bool) (w : What) → cond b FolderHere File ≡ w → (w ≡ FolderHere) × (b ≡ true) ⊎ (w ≡ File) × (b ≡ false)
    what_by true w e = inl (sym e, refl)
    what_by false w e = inr (sym e, refl)

    pub made_shown : (f : FolderEntry) → Contains (shown es) f → IsEntryName f.name × IsMadeAt out things (child dir f.name) f.what
    made_shown f there =
        let h = from_shown es f there in
        let s = shown_as h.0 f h.2 in
        let named = (dir_entry bodies tree good entries held dir es is_dir h.0 h.1).name in
        let n = entry_node bodies tree good entries held dir es is_dir h.0 h.1 in
        let at : child dir h.0.name ≡ child dir f.name = ap (child dir) s.1 in (
          subst IsEntryName s.1 named,
          elim (what_by (h.0.mode == 40000) f.what s.2) [
            | inl a ↦
                subst (IsMadeAt out things (child dir f.name)) (sym a.0)
                (subst (λ (p : List ℕ). Contains things (FolderMade (place_in out p))) at (folder_there (node_at dir h.0 n.0) n.1 (eqb-true h.0.mode 40000 a.1)))
            | inr b ↦
                subst (IsMadeAt out things (child dir f.name)) (sym b.0)
                (bytes_of (node_at dir h.0 n.0), subst (λ (p : List ℕ). Contains things (FileMade (place_in out p) (bytes_of (node_at dir h.0 n.0)))) at (file_there (node_at dir h.0 n.0) n.1 b.1 s.0))
          ],
        )

    shown_by : (e : DirectoryEntry) (name : List ℕ) (what : What) → (e.mode == 160000) ≡ false → e.name ≡ name → what_of e.mode ≡ what → shown_of e ≡ Some (let g : FolderEntry = record { name = name; what = what } in g)
    shown_by e name what project named is = cc

    pub shown_made : (name : List ℕ) (what : What) → IsEntryName name → IsMadeAt out things (child dir name) what → Contains (shown es) (let g : FolderEntry = record { name = name; what = what } in g)
    shown_made name File named (bytes, there) =
        let n = file_from (child dir name) bytes there in
        let at = node_in bodies tree good entries held dir es name n.0 is_dir named n.1 n.4 in
        to_shown es n.0.entry (record { name = name; what = File }) at.1 (shown_by n.0.entry name File n.3 at.0 (ap (λ (b : Bool). cond b FolderHere File) n.2))
    shown_made name FolderHere named there =
        let n = folder_from (child dir name) (child_some dir name named.not_empty) there in
        let at = node_in bodies tree good entries held dir es name n.0 is_dir named n.1 n.3 in
        to_shown es n.0.entry (record { name = name; what = FolderHere }) at.1
        (shown_by n.0.entry name FolderHere (not_both n.0.entry.mode (eqb-true n.0.entry.mode 40000 n.2)) at.0 (ap (λ (b : Bool). cond b FolderHere File) n.2))
      where
        not_both : (mode : ℕ) → mode ≡ 40000 → (mode == 160000) ≡ false
        not_both mode is = ap (λ (k : ℕ). k == 160000) is
    shown_made name Other named there = absurd there

    folder_is_there : Contains things (FolderMade (place_in out dir))
    folder_is_there =
        elim is_dir [
          | inl top ↦
              subst (λ (p : List ℕ). Contains things (FolderMade (place_in out p))) (sym top.0) (first_is (FolderMade out) (all_made bodies out rows ++ FileMade (listing_path out) (listing_text rows) ∷ []))
          | inr m ↦ subst (λ (p : List ℕ). Contains things (FolderMade (place_in out p))) (sym m.3) (folder_there m.0 m.1 m.2)
        ]

    pub lists_items : (fs : Held) → HoldsMade out things fs → ((n : Node) → Contains nodes_all n → IsDots n.entry.name → ⊥) → HasItems fs dir (map (item_in dir) (shown es))
    lists_items fs holds plain =
        let listed = holds.folders dir folder_is_there in
        has_items fs dir es listed.entries (dir_entries bodies tree good entries held dir es is_dir)
        (λ e there. let n = entry_node bodies tree good entries held dir es is_dir e there in folder_name e.name (dir_entry bodies tree good entries held dir es is_dir e there).name (λ dots. plain (node_at dir e n.0) n.1 dots)) listed.are listed.once
        (λ f. (
          λ there. let m = (listed.all f).0 there in shown_made f.name f.what m.0 m.1,
          λ there. (listed.all f).1 (made_shown f there),
        ))
