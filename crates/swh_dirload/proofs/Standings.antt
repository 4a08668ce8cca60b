-- What stands at the paths of a table, before and after a line.
use Rattle.std.proofs.Common.{◌≡◌, ◌≢◌, inl, inr, ℕ, suc, ◌+◌, ◌<◌, ◌^◌, Bool, true, false, cond, Some, None, List, [], ◌∷◌, ◌++◌, length, set, get_or, refl, sym, ap, ◌∙◌, subst, arith, length-append}
use Rattle.std.specs.Global.{Vec}
use Rattle.std.specs.List.{AllByRecursion}
use Rattle.std.specs.Str.{bytes_eq}
use Rattle.std.proofs.lemmas.Bool.{cases_lt}
use Rattle.std.proofs.lemmas.List.{get_or_append_left, get_or-set_same, get_or-set_other}
use Rattle.std.proofs.lemmas.Slice.Eq.{bytes_eq-Decides}
use Rattle.std.proofs.Math.Seq.{get_or-append_seam}
use Rattle.swh_base.specs.Directory.{IsEntryName}
use Rattle.swh_listing.specs.declared.listed.Mode.{Mode}
use Rattle.swh_listing.specs.declared.listed.Mode.TheVariants.{Project}
use Rattle.swh_dirload.specs.declared.lookup.Lookup.{Lookup}
use Rattle.swh_dirload.specs.declared.lookup.Lookup.TheVariants.{Here, Free, Lost}
use Rattle.swh_dirmade.specs.declared.member.Member.{Member}
use Rattle.swh_dirmade.specs.declared.member.Member.TheVariants as stands
use Rattle.swh_dirmade.specs.declared.spot.Spot.{Spot}
use Rattle.swh_dirmade.specs.Paths.{child}
use Rattle.swh_dirmade.specs.Spots.{Places, path_at, path_in, paths_of, path_to, above_at, name_at, place_at, IsPlaced, AreApart, AreNamed, AreNamedBehind, IsTable, IsFree, Stand}
use Rattle.swh_dirload.specs.Places.{IsInFolder, changed, take}
use Rattle.swh_dirload.specs.Index.{key_text, Adds, IsIndexTo, IsIndex, HasNone, IsCutOff, MayAdd, LooksUp, number_of}
use Rattle.swh_dirload.specs.Lines.{line_of}
use Rattle.swh_dirmade.proofs.Paths.{child_injective, cut_above}
use Rattle.swh_dirmade.proofs.Trees.{unique, parent, ancestor}
use Rattle.swh_dirmade.proofs.SpotTables.{length_paths, paths_push, placed_push, above_is, name_is, tree_of}
use Rattle.swh_dirmade.proofs.Directories.{some_none, the_place}
use Rattle.swh_dirload.proofs.Indexes.{test_apart, index_step}

-- what is cut off has no path of the table
cut_free : (spots : List Spot) (path : List ℕ) → IsTable spots → IsCutOff spots path → IsFree spots path
cut_free spots path table cut = λ k lt e.
    let above = ancestor (length spots) (path_to spots) (above_at spots) (name_at spots) (tree_of spots table) k cut.front cut.rest lt (e ∙ cut.cut) in
    cut.free above.0 above.1 above.2

add_free : (spots : List Spot) (path : List ℕ) (above : ℕ) (name : List ℕ) → IsTable spots → MayAdd spots path above name → IsFree spots path
add_free spots path above name table may = λ k lt e.
    let h = parent (length spots) (path_to spots) (above_at spots) (name_at spots) (tree_of spots table) k above name lt may.within may.named.no_slash may.named.not_empty (e ∙ may.cut) in
    may.none k (record { behind = h.0; within = lt; inside = h.1.0; called = h.1.1 })

-- a mode where no file stands that may get one
pub mode_refused : (spots : List Spot) (standing : List Member) (before : Places) (path : List ℕ) (found : Lookup) → IsTable spots → Stand spots standing before → LooksUp spots path found → ((n : ℕ) → found ≡ Here n → (id : List ℕ) → place_at standing n ≡ stands.File 100644 id → ⊥) → (id : List ℕ) × (before path ≡ Some (stands.File 100644 id)) → ⊥
mode_refused spots standing before path (Here n) table stand looks none may =
    let here : before path ≡ Some (place_at standing n) = ap before (sym looks.1) ∙ stand.there n looks.0 in
    none n refl may.0 (the_place (place_at standing n) (stands.File 100644 may.0) (sym here ∙ may.1))
mode_refused spots standing before path (Free above name) table stand looks none may =
    some_none (stands.File 100644 may.0) (sym (stand.nowhere path (add_free spots path above name table looks)) ∙ may.1)
mode_refused spots standing before path Lost table stand looks none may =
    some_none (stands.File 100644 may.0) (sym (stand.nowhere path (cut_free spots path table looks)) ∙ may.1)

-- what stands where the test of a path is known
taken_there : (before : Places) (m : Mode) (path p : List ℕ) → p ≡ path → take before (line_of m path) p ≡ changed m (before p)
taken_there before m path p e = ap (λ (b : Bool). cond b (changed m (before p)) (before p)) ((bytes_eq-Decides p path).1 e)

taken_else : (before : Places) (m : Mode) (path p : List ℕ) → (p ≡ path → ⊥) → take before (line_of m path) p ≡ before p
taken_else before m path p e = ap (λ (b : Bool). cond b (changed m (before p)) (before p)) (test_apart p path e)

-- a mode where a file stands
pub mode_may : (spots : List Spot) (standing : List Member) (before : Places) (path : List ℕ) (n : ℕ) (id : List ℕ) → Stand spots standing before → n < length spots → path_to spots n ≡ path → place_at standing n ≡ stands.File 100644 id → before path ≡ Some (stands.File 100644 id)
mode_may spots standing before path n id stand lt here is = ap before (sym here) ∙ stand.there n lt ∙ ap (λ (p : Member). Some p) is

pub mode_taken : (spots : List Spot) (standing now : List Member) (before : Places) (m : Mode) (mode : ℕ) (path : List ℕ) (n : ℕ) (id : List ℕ) → IsTable spots → length standing ≡ length spots → Stand spots standing before → n < length spots → path_to spots n ≡ path → place_at standing n ≡ stands.File 100644 id → now ≡ set standing n (stands.File mode id) → changed m (Some (stands.File 100644 id)) ≡ Some (stands.File mode id) → Stand spots now (take before (line_of m path))
mode_taken spots standing now before m mode path n id table count stand lt here is sets changes = record { there = there; nowhere = nowhere }
  where
    by_test : (k : ℕ) → k < length spots → (b : Bool) → bytes_eq (path_to spots k) path ≡ b → take before (line_of m path) (path_to spots k) ≡ Some (place_at now k)
    by_test k kin true e =
        let same = (bytes_eq-Decides (path_to spots k) path).0 e in
        let number : n ≡ k = unique (length spots) (path_to spots) (above_at spots) (name_at spots) (tree_of spots table) n k lt kin (here ∙ sym same) in
        let placed : place_at now n ≡ stands.File mode id = ap (λ (ps : List Member). place_at ps n) sets ∙ get_or-set_same standing n (stands.File mode id) stands.Folder (omega (arith, lt, count)) in
        taken_there before m path (path_to spots k) same ∙ ap (λ (p : List ℕ). changed m (before p)) same ∙ ap (changed m) (mode_may spots standing before path n id stand lt here is) ∙ changes ∙ ap (λ (p : Member). Some p) (sym placed) ∙ ap (λ (j : ℕ). Some (place_at now j)) number
    by_test k kin false e =
        let apart : path_to spots k ≡ path → ⊥ = λ same. let bad : false ≡ true = sym e ∙ (bytes_eq-Decides (path_to spots k) path).1 same in absurd (cc) in
        let other : k ≢ n = λ number. apart (ap (path_to spots) number ∙ here) in
        taken_else before m path (path_to spots k) apart ∙ stand.there k kin ∙ ap (λ (p : Member). Some p) (sym (ap (λ (ps : List Member). place_at ps k) sets ∙ get_or-set_other standing n k (stands.File mode id) stands.Folder other))

    there : (k : ℕ) → k < length spots → take before (line_of m path) (path_to spots k) ≡ Some (place_at now k)
    there k kin = by_test k kin (bytes_eq (path_to spots k) path) refl

    nowhere : (p : List ℕ) → IsFree spots p → take before (line_of m path) p ≡ None
    nowhere p free = taken_else before m path p (λ same. free n lt (here ∙ sym same)) ∙ stand.nowhere p free

-- a project's revision where none may come
pub project_refused : (spots : List Spot) (standing : List Member) (before : Places) (path : List ℕ) (found : Lookup) → IsTable spots → Stand spots standing before → LooksUp spots path found → ((above : ℕ) (name : List ℕ) → found ≡ Free above name → place_at standing above ≡ stands.Folder → ⊥) → (before path ≡ None) × IsInFolder before path → ⊥
project_refused spots standing before path (Here n) table stand looks none may =
    some_none (place_at standing n) (sym may.0 ∙ ap before (sym looks.1) ∙ stand.there n looks.0)
project_refused spots standing before path (Free above name) table stand looks none may =
    let inside = may.1 in
    let both = child_injective (path_to spots above) inside.dir name inside.name looks.named.no_slash inside.one (sym looks.cut ∙ inside.cut) in
    let here : before inside.dir ≡ Some (place_at standing above) = ap before (sym both.0) ∙ stand.there above looks.within in
    none above name refl (the_place (place_at standing above) stands.Folder (sym here ∙ inside.folder))
project_refused spots standing before path Lost table stand looks none may =
    let inside = may.1 in
    elim (cut_above inside.dir inside.name looks.front looks.rest inside.one (sym inside.cut ∙ looks.cut)) [
      | inl same ↦ some_none stands.Folder (sym (stand.nowhere looks.front looks.free) ∙ ap before (sym same) ∙ inside.folder)
      | inr h ↦
          let deeper : IsCutOff spots inside.dir = record { front = looks.front; rest = h.0; cut = h.1; free = looks.free } in
          some_none stands.Folder (sym (stand.nowhere inside.dir (cut_free spots inside.dir table deeper)) ∙ inside.folder)
    ]

pub project_may : (spots : List Spot) (standing : List Member) (before : Places) (path : List ℕ) (above : ℕ) (name : List ℕ) → IsTable spots → Stand spots standing before → MayAdd spots path above name → place_at standing above ≡ stands.Folder → (before path ≡ None) × IsInFolder before path
project_may spots standing before path above name table stand may folder =
    let inside : IsInFolder before path = record {
      dir = path_to spots above;
      name = name;
      cut = may.cut;
      some = may.named.not_empty;
      one = may.named.no_slash;
      folder = stand.there above may.within ∙ ap (λ (p : Member). Some p) folder;
    } in
    (stand.nowhere path (add_free spots path above name table may), inside)

-- ---- a table with one spot more

apart_push : (s : Spot) (spots : List Spot) (next : Spot) → AllByRecursion (AreApart s) spots → AreApart s next → AllByRecursion (AreApart s) (spots ++ next ∷ [])
apart_push s [] next h last = (last, tt)
apart_push s (t ∷ spots) next h last = (h.0, apart_push s spots next h.1 last)

named_push : (spots : List Spot) (next : Spot) → AreNamed spots → IsEntryName next.name → ((k : ℕ) → k < length spots → AreApart (get_or spots k next) next) → AreNamed (spots ++ next ∷ [])
named_push [] next named good apart = (good, tt, tt)
named_push (s ∷ spots) next named good apart = (named.0, apart_push s spots next named.1 (apart 0 (omega arith)), named_push spots next named.2 good (λ k lt. apart (suc k) (omega (arith, lt))))

behind_push : (spots : List Spot) (next : Spot) → AreNamedBehind spots → IsEntryName next.name → ((k : ℕ) → 0 < k → k < length spots → AreApart (get_or spots k next) next) → 0 < length spots → AreNamedBehind (spots ++ next ∷ [])
behind_push [] next named good apart some = absurd (omega (arith, some))
behind_push (s ∷ spots) next named good apart some = named_push spots next named good (λ k lt. apart (suc k) (omega arith) (omega (arith, lt)))

pub table_push : (spots : List Spot) (next : Spot) → IsTable spots → next.above < length spots → IsEntryName next.name → HasNone spots next.above next.name → IsTable (spots ++ next ∷ [])
table_push spots next table lt good none =
    let some = table.some in
    let n = length-append spots (next ∷ []) in
    let e : length spots ≡ 0 + length spots = omega arith in
    let here : IsPlaced (length spots) next = record { above = omega (arith, lt, some); first = λ zeroed. absurd (omega (arith, zeroed, some)) } in
    record {
      some = omega (arith, n, some);
      placed = placed_push 0 spots next table.placed (subst (λ (k : ℕ). IsPlaced k next) e here);
      named = behind_push spots next table.named good (λ k behind within same called. none k (record { behind = behind; within = within; inside = above_is spots k next within ∙ same; called = name_is spots k next within ∙ called })) some;
    }

path_kept : (spots : List Spot) (next : Spot) (k : ℕ) → k < length spots → path_to (spots ++ next ∷ []) k ≡ path_to spots k
path_kept spots next k lt =
    let n = length_paths [] spots in
    ap (λ (ps : List (List ℕ)). path_at ps k) (paths_push [] spots next) ∙ get_or_append_left (paths_of spots) (path_in (paths_of spots) next ∷ []) [] k (omega (arith, lt, n))

path_new : (spots : List Spot) (next : Spot) → path_to (spots ++ next ∷ []) (length spots) ≡ child (path_to spots next.above) next.name
path_new spots next =
    let n : length (paths_of spots) ≡ length spots = length_paths [] spots ∙ (omega arith) in
    ap (λ (ps : List (List ℕ)). path_at ps (length spots)) (paths_push [] spots next) ∙ ap (λ (k : ℕ). path_at (paths_of spots ++ path_in (paths_of spots) next ∷ []) k) (sym n) ∙ get_or-append_seam (paths_of spots) (path_in (paths_of spots) next) [] []

above_kept : (spots : List Spot) (next : Spot) (k : ℕ) → k < length spots → above_at (spots ++ next ∷ []) k ≡ above_at spots k
above_kept spots next k lt =
    let n = length-append spots (next ∷ []) in
    above_is (spots ++ next ∷ []) k next (omega (arith, lt, n)) ∙ ap (λ (s : Spot). s.above) (get_or_append_left spots (next ∷ []) next k lt) ∙ sym (above_is spots k next lt)

name_kept : (spots : List Spot) (next : Spot) (k : ℕ) → k < length spots → name_at (spots ++ next ∷ []) k ≡ name_at spots k
name_kept spots next k lt =
    let n = length-append spots (next ∷ []) in
    name_is (spots ++ next ∷ []) k next (omega (arith, lt, n)) ∙ ap (λ (s : Spot). s.name) (get_or_append_left spots (next ∷ []) next k lt) ∙ sym (name_is spots k next lt)

above_new : (spots : List Spot) (next : Spot) → above_at (spots ++ next ∷ []) (length spots) ≡ next.above
above_new spots next =
    let n = length-append spots (next ∷ []) in
    above_is (spots ++ next ∷ []) (length spots) next (omega (arith, n)) ∙ ap (λ (s : Spot). s.above) (get_or-append_seam spots next [] next)

name_new : (spots : List Spot) (next : Spot) → name_at (spots ++ next ∷ []) (length spots) ≡ next.name
name_new spots next =
    let n = length-append spots (next ∷ []) in
    name_is (spots ++ next ∷ []) (length spots) next (omega (arith, n)) ∙ ap (λ (s : Spot). s.name) (get_or-append_seam spots next [] next)

index_kept : (spots : List Spot) (next : Spot) (entries : List (Vec ℕ × ℕ)) → IsIndex spots entries → IsIndexTo (spots ++ next ∷ []) (length spots) entries
index_kept spots next entries index = record {
  known = λ n some lt. subst (λ (a : ℕ). number_of entries (key_text a (name_at (spots ++ next ∷ []) n)) ≡ Some n) (sym (above_kept spots next n lt)) (subst (λ (m : List ℕ). number_of entries (key_text (above_at spots n) m) ≡ Some n) (sym (name_kept spots next n lt)) (index.known n some lt));
  there = λ key n is.
      let old = index.there key n is in
      let spelled : key_text (above_at spots n) (name_at spots n) ≡ key_text (above_at (spots ++ next ∷ []) n) (name_at (spots ++ next ∷ []) n) = ap (λ (a : ℕ). key_text a (name_at spots n)) (sym (above_kept spots next n old.within)) ∙ ap (λ (m : List ℕ). key_text (above_at (spots ++ next ∷ []) n) m) (sym (name_kept spots next n old.within)) in
      record { behind = old.behind; within = old.within; spelled = old.spelled ∙ spelled };
}

pub index_push : (spots : List Spot) (next : Spot) (entries entries_now : List (Vec ℕ × ℕ)) (number : ℕ) → IsTable (spots ++ next ∷ []) → length spots + 1 < 2 ^ 64 → 0 < length spots → IsIndex spots entries → number ≡ length spots → Adds entries (key_text next.above next.name) number entries_now → IsIndex (spots ++ next ∷ []) entries_now
index_push spots next entries entries_now number table small some index is added =
    let n = length-append spots (next ∷ []) in
    let all = spots ++ next ∷ [] in
    let a : Adds entries (key_text (above_at all (length spots)) (name_at all (length spots))) (length spots) entries_now = subst (λ (b : ℕ). Adds entries (key_text b (name_at all (length spots))) (length spots) entries_now) (sym (above_new spots next)) (subst (λ (m : List ℕ). Adds entries (key_text next.above m) (length spots) entries_now) (sym (name_new spots next)) (subst (λ (k : ℕ). Adds entries (key_text next.above next.name) k entries_now) is added)) in
    let stepped : IsIndexTo all (length spots + 1) entries_now = index_step all (length spots) entries entries_now table (omega (arith, n, small)) some (omega (arith, n)) (index_kept spots next entries index) a in
    subst (λ (k : ℕ). IsIndexTo all k entries_now) (sym n) stepped

-- what stands once a project's revision was added
pub project_taken : (spots : List Spot) (standing : List Member) (before : Places) (path : List ℕ) (id : List ℕ) (next : Spot) → IsTable spots → length standing ≡ length spots → Stand spots standing before → MayAdd spots path next.above next.name → Stand (spots ++ next ∷ []) (standing ++ stands.Project id ∷ []) (take before (line_of (Project id) path))
project_taken spots standing before path id next table count stand may = record { there = there; nowhere = nowhere }
  where
    more : length (spots ++ next ∷ []) ≡ length spots + 1
    more = length-append spots (next ∷ [])

    here : path_to (spots ++ next ∷ []) (length spots) ≡ path
    here = path_new spots next ∙ sym may.cut

    placed : place_at (standing ++ stands.Project id ∷ []) (length spots) ≡ stands.Project id
    placed = ap (place_at (standing ++ stands.Project id ∷ [])) (sym count) ∙ get_or-append_seam standing (stands.Project id) [] stands.Folder

    there : (k : ℕ) → k < length (spots ++ next ∷ []) → take before (line_of (Project id) path) (path_to (spots ++ next ∷ []) k) ≡ Some (place_at (standing ++ stands.Project id ∷ []) k)
    there k lt = elim (cases_lt k (length spots)) [
      | inl l ↦
          let free : path_to spots k ≡ path → ⊥ = add_free spots path next.above next.name table may k l in
          ap (take before (line_of (Project id) path)) (path_kept spots next k l) ∙ taken_else before (Project id) path (path_to spots k) free ∙ stand.there k l ∙ ap (λ (p : Member). Some p) (sym (get_or_append_left standing (stands.Project id ∷ []) stands.Folder k (omega (arith, l, count))))
      | inr l ↦
          let same : length spots ≡ k = omega (arith, l, lt, more) in
          subst (λ (j : ℕ). take before (line_of (Project id) path) (path_to (spots ++ next ∷ []) j) ≡ Some (place_at (standing ++ stands.Project id ∷ []) j)) same
          (taken_there before (Project id) path (path_to (spots ++ next ∷ []) (length spots)) here ∙ ap (λ (p : Member). Some p) (sym placed))
    ]

    nowhere : (p : List ℕ) → IsFree (spots ++ next ∷ []) p → take before (line_of (Project id) path) p ≡ None
    nowhere p free = taken_else before (Project id) path p (λ same. free (length spots) (omega (arith, more)) (here ∙ sym same)) ∙ stand.nowhere p (λ k lt e. free k (omega (arith, lt, more)) (path_kept spots next k lt ∙ e))
