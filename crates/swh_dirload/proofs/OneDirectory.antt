-- What stands in a folder has one directory for each folder.
use Rattle.std.proofs.Common.{◌≡◌, ◌≢◌, ℕ, zero, suc, ◌+◌, ◌<◌, ◌≤◌, Bool, true, false, cond, Option, Some, None, List, [], ◌∷◌, length, length-append, Contains, refl, sym, ap, ◌∙◌, subst, arith}
use Rattle.std.specs.Str.{bytes_eq}
use Rattle.std.specs.Ordering.{nat_cmp, ordering_reverse}
use Rattle.std.specs.declared.cmp.Ordering.{Ordering}
use Rattle.std.specs.declared.cmp.Ordering.TheVariants.{Less, Equal, Greater}
use Rattle.std.specs.Cmp.Lexicographic.{slice_cmp}
use Rattle.std.proofs.lemmas.Cmp.{nat_list_cmp_total}
use Rattle.std.proofs.lemmas.Slice.Eq.{bytes_eq-Decides}
use Rattle.swh_base.specs.declared.kind.Kind.{Kind}
use Rattle.swh_base.specs.Limits.{path_limit}
use Rattle.swh_base.specs.Directory.{DirectoryEntry, IsEntryName, IsBefore, AreEntries, sort_key}
use Rattle.swh_dedup.proofs.Elements.{first_is, later_is, each_is}
use Rattle.swh_listing.specs.declared.listed.Listed.{Listed}
use Rattle.swh_listing.specs.declared.listed.Mode.{Mode}
use Rattle.swh_listing.specs.declared.listed.Mode.TheVariants.{Executable, Link, Project}
use Rattle.swh_outside.specs.declared.folder.What.{What}
use Rattle.swh_dirmade.specs.declared.member.Member.{Member}
use Rattle.swh_dirmade.specs.declared.member.Member.TheVariants as stands
use Rattle.swh_dirmade.specs.Directories.{entry_of, entry_for, IsEntryIn, AreDirectories}
use Rattle.swh_dirmade.specs.Paths.{child}
use Rattle.swh_dirmade.specs.Spots.{Places}
use Rattle.swh_dirload.specs.Items.{Item, Fits}
use Rattle.swh_dirload.specs.Places.{places_of, MayTake, with_mode, changed, take, TakesAll}
use Rattle.swh_dirload.specs.Walk.{AllFit}
use Rattle.swh_dirload.proofs.Ascending.{IsUp, one_up}
use Rattle.swh_dirload.proofs.OneTaking.{AreSame}

-- ## Folders stay folders, and nothing else becomes one

abbrev a_folder : Option Member
a_folder = Some stands.Folder

mode_back : (mode : ℕ) (old : Option Member) → with_mode mode old ≡ a_folder → old ≡ a_folder
mode_back mode (Some (stands.File m id)) e = absurd (cc)
mode_back mode (Some stands.Folder) e = refl
mode_back mode (Some (stands.Project id)) e = absurd (cc)
mode_back mode None e = absurd (cc)

changed_back : (mode : Mode) (old : Option Member) → changed mode old ≡ a_folder → old ≡ a_folder
changed_back Executable old e = mode_back 100755 old e
changed_back Link old e = mode_back 120000 old e
changed_back (Project id) old e = absurd (cc)

cond_back : (b : Bool) (mode : Mode) (old : Option Member) → cond b (changed mode old) old ≡ a_folder → old ≡ a_folder
cond_back true mode old e = changed_back mode old e
cond_back false mode old e = e

-- a folder after the lines was one before
pub was_folder : (before now : Places) (lines : List Listed) (dir : List ℕ) → TakesAll before lines now → now dir ≡ a_folder → before dir ≡ a_folder
was_folder before now [] dir h e = sym (h dir) ∙ e
was_folder before now (l ∷ lines) dir h e = cond_back (bytes_eq dir l.path) l.mode (before dir) (was_folder (take before l) now lines dir h.1 e)

mode_stays : (mode : ℕ) (old : Option Member) → old ≡ a_folder → with_mode mode old ≡ a_folder
mode_stays mode old e = ap (with_mode mode) e

none_folder : (old : Option Member) → old ≡ None → old ≡ a_folder → ⊥
none_folder old e f = absurd (cc)

changed_stays : (places : Places) (mode : Mode) (path dir : List ℕ) → dir ≡ path → MayTake places mode path → places dir ≡ a_folder → changed mode (places dir) ≡ a_folder
changed_stays places Executable path dir same may e = mode_stays 100755 (places dir) e
changed_stays places Link path dir same may e = mode_stays 120000 (places dir) e
changed_stays places (Project id) path dir same may e = absurd (none_folder (places dir) (ap places same ∙ may.0) e)

cond_stays : (places : Places) (mode : Mode) (path dir : List ℕ) (b : Bool) → (b ≡ true → dir ≡ path) → MayTake places mode path → places dir ≡ a_folder → cond b (changed mode (places dir)) (places dir) ≡ a_folder
cond_stays places mode path dir true same may e = changed_stays places mode path dir (same refl) may e
cond_stays places mode path dir false same may e = e

-- a folder before the lines is one after
pub stays_folder : (before now : Places) (lines : List Listed) (dir : List ℕ) → TakesAll before lines now → before dir ≡ a_folder → now dir ≡ a_folder
stays_folder before now [] dir h e = h dir ∙ e
stays_folder before now (l ∷ lines) dir h e = stays_folder (take before l) now lines dir h.1 (cond_stays before l.mode l.path dir (bytes_eq dir l.path) (λ is. (bytes_eq-Decides dir l.path).0 is) h.0 e)

-- what stands somewhere is an item
stands_where : (items : List Item) (found : List Member) (path : List ℕ) (place : Member) → places_of items found path ≡ Some place → (what : What) × Contains items (path, what)
stands_where [] found path place e = absurd (cc)
stands_where (i ∷ items) [] path place e = absurd (cc)
stands_where (i ∷ items) (p ∷ found) path place e = by_test (stands_where items found path place) (bytes_eq path i.0) (λ is. (bytes_eq-Decides path i.0).0 is) e
  where
    by_test : (places_of items found path ≡ Some place → (what : What) × Contains items (path, what)) → (b : Bool) → (b ≡ true → path ≡ i.0) → cond b (Some p) (places_of items found path) ≡ Some place → (what : What) × Contains (i ∷ items) (path, what)
    by_test behind true same e = (i.1, subst (λ (x : List ℕ). Contains (i ∷ items) (x, i.1)) (sym (same refl)) (first_is i items))
    by_test behind false same e = let r = behind e in (r.0, later_is i items (path, r.0) r.1)

pub short_path : (items : List Item) (found : List Member) (path : List ℕ) (place : Member) → AllFit items → places_of items found path ≡ Some place → length path ≤ path_limit
short_path items found path place fit e =
    let r = stands_where items found path place e in
    (each_is (λ (i : Item). Fits i.0 i.1) items (path, r.0) fit r.1).1

-- ## Entries

before_turns : (o p : Ordering) → o ≡ ordering_reverse p → o ≡ Less → p ≡ Less → ⊥
before_turns Less Less e f g = absurd (cc)
before_turns Less Equal e f g = absurd (cc)
before_turns Less Greater e f g = absurd (cc)
before_turns Equal p e f g = absurd (cc)
before_turns Greater p e f g = absurd (cc)

one_way : (a b : DirectoryEntry) → IsBefore a b → IsBefore b a → ⊥
one_way a b = before_turns (slice_cmp nat_cmp (sort_key a) (sort_key b)) (slice_cmp nat_cmp (sort_key b) (sort_key a)) (nat_list_cmp_total.antisymm (sort_key a) (sort_key b))

up : (es : List DirectoryEntry) → AreEntries es → IsUp IsBefore es
up [] h = tt
up (e ∷ es) h = (h.2, up es h.3)

module _ (id : Kind → List ℕ → List ℕ) where
  same_place : (name : List ℕ) (below other : List DirectoryEntry) (place : Member) → (Some place ≡ a_folder → below ≡ other) → entry_of id name below place ≡ entry_of id name other place
  same_place name below other (stands.File mode content) h = refl
  same_place name below other stands.Folder h = ap (λ (es : List DirectoryEntry). entry_of id name es stands.Folder) (h refl)
  same_place name below other (stands.Project revision) h = refl

  same_entry : (name : List ℕ) (below other : List DirectoryEntry) (place : Option Member) → (place ≡ a_folder → below ≡ other) → entry_for id name below place ≡ entry_for id name other place
  same_entry name below other (Some place) h = ap (λ (e : DirectoryEntry). Some e) (same_place name below other place h)
  same_entry name below other None h = refl

  deeper : (dir name : List ℕ) → name ≢ [] → length dir + 1 ≤ length (child dir name)
  deeper [] [] some = absurd (some refl)
  deeper [] (c ∷ name) some = omega arith
  deeper (d ∷ dir) name some = let n = length-append (d ∷ dir) (47 ∷ name) in omega (arith, n)

  module _ (places others : Places) (entries lists : List ℕ → List DirectoryEntry) (same : AreSame places others) (short : (dir : List ℕ) → places dir ≡ a_folder → length dir ≤ path_limit) (mine : AreDirectories id places entries) (theirs : AreDirectories id others lists) where
    -- the directories of folders whose paths are so long at least
    deep : (n : ℕ) (dir : List ℕ) → path_limit < length dir + n → places dir ≡ a_folder → entries dir ≡ lists dir
    deep zero dir long is = let le = short dir is in absurd (omega (arith, long, le))
    deep (suc n) dir long is =
        one_up IsBefore one_way (entries dir) (lists dir) (up (entries dir) (mine.good dir is)) (up (lists dir) (theirs.good dir there))
        (λ e c. ((theirs.all dir there e).1) (to (deep n) e (((mine.all dir is e).0) c)))
        (λ e c. ((mine.all dir is e).1) (from (deep n) e (((theirs.all dir there e).0) c)))
      where
        there : others dir ≡ a_folder
        there = sym (same dir) ∙ is

        below : ((d : List ℕ) → path_limit < length d + n → places d ≡ a_folder → entries d ≡ lists d) → (name : List ℕ) → IsEntryName name → places (child dir name) ≡ a_folder → entries (child dir name) ≡ lists (child dir name)
        below rec name good folder = let more = deeper dir name good.not_empty in rec (child dir name) (omega (arith, long, more)) folder

        to : ((d : List ℕ) → path_limit < length d + n → places d ≡ a_folder → entries d ≡ lists d) → (e : DirectoryEntry) → IsEntryIn id places entries dir e → IsEntryIn id others lists dir e
        to rec e h =
            let path = child dir e.name in
            record { named = h.named; stands = ap (entry_for id e.name (lists path)) (sym (same path)) ∙ sym (same_entry e.name (entries path) (lists path) (places path) (below rec e.name h.named)) ∙ h.stands }

        from : ((d : List ℕ) → path_limit < length d + n → places d ≡ a_folder → entries d ≡ lists d) → (e : DirectoryEntry) → IsEntryIn id others lists dir e → IsEntryIn id places entries dir e
        from rec e h =
            let path = child dir e.name in
            record { named = h.named; stands = same_entry e.name (entries path) (lists path) (places path) (below rec e.name h.named) ∙ ap (entry_for id e.name (lists path)) (same path) ∙ h.stands }

    -- each folder has one directory
    pub one_directory : (dir : List ℕ) → places dir ≡ a_folder → entries dir ≡ lists dir
    one_directory dir is = deep (path_limit + 1) dir (omega arith) is
