-- The directories of a table are those of what stands at its paths.
use Rattle.std.proofs.Common.{◌≡◌, ◌≢◌, ◌⊎◌, inl, inr, ℕ, zero, suc, ◌-◌, ◌<◌, ◌≤◌, Bool, true, false, Some, None, List, [], length, map, Contains, refl, sym, ap, ◌∙◌, subst, arith}
use Rattle.std.specs.Str.{bytes_eq}
use Rattle.std.proofs.lemmas.Bool.{cases_lt, false≢true}
use Rattle.std.proofs.lemmas.List.Sorted.{IsPermutation-sym, Contains-permutation}
use Rattle.std.proofs.lemmas.Slice.Eq.{bytes_eq-Decides}
use Rattle.swh_base.specs.declared.kind.Kind.{Kind}
use Rattle.swh_base.specs.declared.entry.Entry.{Entry}
use Rattle.swh_base.specs.Directory.{DirectoryEntry, IsEntryName, AreEntries, directory_text}
use Rattle.swh_base.specs.declared.kind.Kind.TheVariants.{Directory}
use Rattle.swh_object.specs.Object.{IsObject}
use Rattle.swh_model.specs.Meaning.{Made, directory}
use Rattle.swh_dedup.specs.Making.{made, name_of, names_of_made}
use Rattle.swh_dedup.proofs.Elements.{contains_map, from_map}
use Rattle.swh_dirmade.specs.declared.member.Member.{Member}
use Rattle.swh_dirmade.specs.declared.member.Member.TheVariants as stands
use Rattle.swh_dirmade.specs.declared.spot.Spot.{Spot}
use Rattle.swh_dirmade.specs.Building.{list_at, entry_at, IsMade, AreBuilt, Builds}
use Rattle.swh_dirmade.specs.Directories.{directory_id, entry_of, entry_for, IsEntryIn, AreDirectories, GivesDirectories}
use Rattle.swh_dirmade.specs.Making.{GivesDirectory, Enters, directory_name}
use Rattle.swh_dirmade.specs.Numbers.{numbers_from}
use Rattle.swh_dirmade.specs.Paths.{child}
use Rattle.swh_dirmade.specs.Spots.{Places, path_to, above_at, name_at, place_at, IsTable, IsFree, Stand}
use Rattle.swh_dirmade.proofs.Built.{now_at, entries_here, given_there, entry_name, next_built}
use Rattle.swh_dirmade.proofs.Numbers.{bounds, has_number}
use Rattle.swh_dirmade.proofs.SpotTables.{tree_of, entry_name as named_spot}
use Rattle.swh_dirmade.proofs.Trees.{parent}

pub some_none : (p : Member) → None ≡ Some p → ⊥
some_none p e = absurd (cc)

none_some : {X : Type 0} (x : X) → None ≡ Some x → ⊥
none_some x e = absurd (cc)

pub the_place : (p q : Member) → Some p ≡ Some q → p ≡ q
the_place p q e = cc

the_entry : (p q : DirectoryEntry) → Some p ≡ Some q → p ≡ q
the_entry p q e = cc

-- a path of the table, or none of it
find_below : (spots : List Spot) (path : List ℕ) (count : ℕ) → count ≤ length spots → ((k : ℕ) × (k < length spots) × (path_to spots k ≡ path)) ⊎ ((k : ℕ) → k < count → path_to spots k ≢ path)
find_below spots path zero le = inr (λ k lt e. omega (arith, lt))
find_below spots path (suc count) le = elim (find_below spots path count (omega (arith, le))) [
  | inl h ↦ inl h
  | inr none ↦ by_test (bytes_eq (path_to spots count) path) (bytes_eq-Decides (path_to spots count) path).0 (bytes_eq-Decides (path_to spots count) path).1 none
]
  where
    by_test : (b : Bool) → (b ≡ true → path_to spots count ≡ path) → (path_to spots count ≡ path → b ≡ true) → ((k : ℕ) → k < count → path_to spots k ≢ path) → ((k : ℕ) × (k < length spots) × (path_to spots k ≡ path)) ⊎ ((k : ℕ) → k < suc count → path_to spots k ≢ path)
    by_test true same here none = inl (count, omega (arith, le), same refl)
    by_test false same here none = inr (λ k lt e. elim (cases_lt k count) [
      | inl below ↦ none k below e
      | inr ge ↦ let last : k ≡ count = omega (arith, lt, ge) in false≢true (here (subst (λ (n : ℕ). path_to spots n ≡ path) last e))
    ])

pub find : (spots : List Spot) (path : List ℕ) → ((k : ℕ) × (k < length spots) × (path_to spots k ≡ path)) ⊎ IsFree spots path
find spots path = find_below spots path (length spots) (omega arith)

module _ (id : Kind → List ℕ → List ℕ) (spots : List Spot) (standing : List Member) (table : IsTable spots) (places : Places) (stand : Stand spots standing places) where
  -- the number of what stands at a path
  pub number_at : (path : List ℕ) (place : Member) → places path ≡ Some place → (k : ℕ) × (k < length spots) × ((path_to spots k ≡ path) × (place_at standing k ≡ place))
  number_at path place is = elim (find spots path) [
    | inl h ↦ (h.0, h.1, (h.2, the_place (place_at standing h.0) place (sym (stand.there h.0 h.1) ∙ ap places h.2 ∙ is)))
    | inr free ↦ absurd (some_none place (sym (stand.nowhere path free) ∙ is))
  ]

  module _ (entries : List ℕ → List DirectoryEntry) (old new : List Entry) (are : AreBuilt id spots standing 0 [] old new entries) where
    folder_made : (dir : List ℕ) → places dir ≡ Some stands.Folder → (k : ℕ) × (k < length spots) × ((path_to spots k ≡ dir) × IsMade id spots standing entries new k)
    folder_made dir is = let n = number_at dir stands.Folder is in (n.0, n.1, (n.2.0, are.folders n.0 (omega arith) n.1 n.2.1))

    -- an entry of a folder is that of what stands there
    entry_in : (k : ℕ) → k < length spots → IsMade id spots standing entries new k → (entry : DirectoryEntry) → Contains (entries (path_to spots k)) entry → IsEntryIn id places entries (path_to spots k) entry
    entry_in k lt made_k entry c =
        let ns = numbers_from spots k (suc k) in
        let back = Contains-permutation (entries (path_to spots k)) (map (entry_at id spots standing entries) ns) entry (IsPermutation-sym (map (entry_at id spots standing entries) ns) (entries (path_to spots k)) made_k.all) c in
        let f = from_map (entry_at id spots standing entries) ns entry back in
        let i = f.0 in
        let b = bounds spots k (suc k) i (omega (arith, lt)) f.1 in
        let low = b.0 in
        let some : 0 < i = omega (arith, low) in
        let called : name_at spots i ≡ entry.name = sym (entry_name id (name_at spots i) (entries (path_to spots i)) (place_at standing i)) ∙ ap (λ (e : DirectoryEntry). e.name) f.2 in
        let path : path_to spots i ≡ child (path_to spots k) entry.name =
        (tree_of spots table).step i some b.1.0 ∙ ap (λ (a : ℕ). child (path_to spots a) (name_at spots i)) b.1.1 ∙ ap (child (path_to spots k)) called in
        record {
          named = subst IsEntryName called (named_spot spots i table some b.1.0);
          stands = subst (λ (p : List ℕ). entry_for id entry.name (entries p) (places p) ≡ Some entry) path
              (ap (entry_for id entry.name (entries (path_to spots i))) (stand.there i b.1.0)
              ∙ ap (λ (n : List ℕ). Some (entry_of id n (entries (path_to spots i)) (place_at standing i))) (sym called) ∙ ap (λ (e : DirectoryEntry). Some e) f.2);
        }

    -- what stands in a folder has its entry
    has_entry : (k : ℕ) → k < length spots → IsMade id spots standing entries new k → (entry : DirectoryEntry) → IsEntryIn id places entries (path_to spots k) entry → Contains (entries (path_to spots k)) entry
    has_entry k lt made_k entry h = elim (find spots (child (path_to spots k) entry.name)) [
      | inr free ↦ absurd (none_some entry (sym (ap (entry_for id entry.name (entries (child (path_to spots k) entry.name))) (stand.nowhere (child (path_to spots k) entry.name) free)) ∙ h.stands))
      | inl n ↦
          let i = n.0 in
          let up = parent (length spots) (path_to spots) (above_at spots) (name_at spots) (tree_of spots table) i k entry.name n.1 lt h.named.no_slash h.named.not_empty n.2 in
          let some = up.0 in
          let down = (tree_of spots table).down i some n.1 in
          let above = up.1.0 in
          let high = n.1 in
          let ns = numbers_from spots k (suc k) in
          let stands_there : entry_for id entry.name (entries (path_to spots i)) (places (path_to spots i)) ≡ Some entry = subst (λ (p : List ℕ). entry_for id entry.name (entries p) (places p) ≡ Some entry) (sym n.2) h.stands in
          let is : entry_at id spots standing entries i ≡ entry =
          ap (λ (name : List ℕ). entry_of id name (entries (path_to spots i)) (place_at standing i)) up.1.1
          ∙ the_entry (entry_of id entry.name (entries (path_to spots i)) (place_at standing i)) entry (sym (ap (entry_for id entry.name (entries (path_to spots i))) (stand.there i n.1)) ∙ stands_there) in
          let among : Contains ns i = has_number spots k (suc k) (length spots - suc k) i (omega (arith, down, above)) (omega (arith, high, lt)) above in
          Contains-permutation (map (entry_at id spots standing entries) ns) (entries (path_to spots k)) entry made_k.all
          (subst (Contains (map (entry_at id spots standing entries) ns)) is (contains_map (entry_at id spots standing entries) ns i among))
    ]

    directories : AreDirectories id places entries
    directories = record {
      good = λ dir is. let f = folder_made dir is in subst (λ (p : List ℕ). AreEntries (entries p)) f.2.0 f.2.1.good;
      all = λ dir is entry.
          let f = folder_made dir is in
          subst (λ (p : List ℕ). (Contains (entries p) entry → IsEntryIn id places entries p entry) × (IsEntryIn id places entries p entry → Contains (entries p) entry)) f.2.0 (entry_in f.0 f.1 f.2.1 entry, has_entry f.0 f.1 f.2.1 entry);
    }

    pub gives : (root : List ℕ) → root ≡ directory_id id (entries []) → GivesDirectories id places old new root
    gives root named = record {
      entries = entries;
      directories = directories;
      named = named;
      each = λ m. (
        λ c. elim (are.only m c) [
          | inl o ↦ inl o
          | inr h ↦ inr (record { dir = path_to spots h.number; folder = stand.there h.number h.high ∙ ap (λ (p : Member). Some p) h.folder; is = h.is })
        ],
        λ c. elim c [
          | inl o ↦ are.kept m o
          | inr h ↦
              let f = folder_made h.dir h.folder in
              subst (Contains (made new)) (sym h.is) (subst (λ (p : List ℕ). Contains (made new) (directory (directory_text (entries p)))) f.2.0 f.2.1.given)
        ],
      );
    }

  -- the last one is the folder itself
  pub root_gives : (lists : List (List DirectoryEntry)) (old mid new : List Entry) (below : List DirectoryEntry) (root : List ℕ) → Builds id spots standing 1 lists old mid → places [] ≡ Some stands.Folder → GivesDirectory id mid (list_at lists 0) new below root → GivesDirectories id places old new root
  root_gives lists old mid new below root built is made_root =
      let n = number_at [] stands.Folder is in
      let first = (tree_of spots table).first in
      let w = built.are.within in
      let folder : place_at standing 0 ≡ stands.Folder = the_place (place_at standing 0) stands.Folder (sym (stand.there 0 (omega (arith, w))) ∙ ap places first ∙ is) in
      let enters = subst (λ (p : Member). Enters id (name_at spots 0) p mid (list_at lists 0) new below) (sym folder) (subst (GivesDirectory id mid (list_at lists 0) new below) made_root.named made_root) in
      let now = now_at id spots standing table built.entries 0 below in
      let are : AreBuilt id spots standing 0 [] old new now = next_built id spots standing table built.entries 0 below lists old mid new built.are enters [] refl (λ folder lt. absurd (omega (arith, lt))) (λ lt. absurd (omega (arith, lt))) in
      gives now old new are root (made_root.named ∙ ap (directory_id id) (sym (subst (λ (p : List ℕ). now p ≡ below) first (entries_here built.entries (path_to spots 0) below))))

pub root_named : (id : Kind → List ℕ → List ℕ) (old new : List Entry) (list entries : List DirectoryEntry) (root : List ℕ) → GivesDirectory id old list new entries root → Contains (names_of_made id (made new)) (directory_name root)
root_named id old new list entries root gives =
    let there : Contains (made new) (directory (directory_text entries)) = subst (Contains (made new)) gives.is (given_there old new gives.object gives.gives) in
    subst (λ (r : List ℕ). Contains (names_of_made id (made new)) (directory_name r)) (sym gives.named) (contains_map (name_of id) (made new) (directory (directory_text entries)) there)

-- the object of the directory of this id
pub root_object : (id : Kind → List ℕ → List ℕ) (old new : List Entry) (list entries : List DirectoryEntry) (root : List ℕ) → GivesDirectory id old list new entries root → (object : Entry) × IsObject id object × (object.name ≡ directory_name root)
root_object id old new list entries root gives =
    let name = gives.object.name in
    let kind : name.kind ≡ Directory = ap (λ (m : Made). m.kind) gives.is in
    let own : name.id ≡ root = gives.whole.named ∙ ap (λ (m : Made). id m.kind m.body) gives.is ∙ sym gives.named in
    let first : name ≡ record { kind = Directory; id = name.id } = ap (λ (k : Kind). record { kind = k; id = name.id }) kind in
    (gives.object, gives.whole, first ∙ ap directory_name own)
