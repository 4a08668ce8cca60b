-- What stands where, before the listing is taken and after it.
use Rattle.std.proofs.Common.{◌≡◌, ◌⊎◌, inl, inr, ℕ, ◌==◌, Bool, true, false, cond, Option, Some, None, List, [], ◌∷◌, ◌++◌, map, Contains, refl, sym, ap, ◌∙◌, subst, append_assoc}
use Rattle.std.specs.List.{AllByRecursion, cons_option}
use Rattle.std.specs.Str.{bytes_eq}
use Rattle.std.proofs.lemmas.List.{append-nil}
use Rattle.std.proofs.lemmas.List.Elements.{Contains-append_left, Contains-append_right, Contains-append_cases}
use Rattle.std.proofs.lemmas.Slice.Eq.{bytes_eq-Decides}
use Rattle.swh_base.specs.Directory.{DirectoryEntry, IsEntry, IsMode}
use Rattle.swh_dedup.proofs.Elements.{first_or_later, first_is, later_is, none_is, each_is}
use Rattle.swh_listing.specs.declared.listed.Mode.{Mode}
use Rattle.swh_listing.specs.declared.listed.Mode.TheVariants.{Executable, Link, Project}
use Rattle.swh_dirmade.specs.Paths.{child}
use Rattle.swh_dirmade.specs.Spots.{Places}
use Rattle.swh_dirmade.specs.declared.member.Member.{Member}
use Rattle.swh_dirmade.specs.declared.member.Member.TheVariants as stands
use Rattle.swh_dirload.specs.Items.{Item}
use Rattle.swh_dirload.specs.Places.{places_of, IsInFolder, MayTake, changed, take, TakesAll}
use Rattle.swh_dirload.proofs.Ascending.{IsUp}
use Rattle.swh_dircook.specs.Listing.{mode_of, with_path, all_listed}
use Rattle.swh_outside.specs.declared.folder.What.{What}
use Rattle.swh_cook.proofs.Nodes.{Node, row_of, AreApart}
use Rattle.swh_cook.proofs.Listed.{what_of}
use Rattle.swh_cook.proofs.Walked.{items_of}
use Rattle.swh_cook.proofs.Read.{found_of, founds_of}

-- what stands at an entry once the listing is taken
abbrev pub final_of : DirectoryEntry → Member
final_of e = cond (e.mode == 160000) (stands.Project e.id) (cond (e.mode == 40000) stands.Folder (stands.File e.mode e.id))

-- ---- paths with what stands there, if something does

abbrev pub Pair : Type 0
Pair = List ℕ × Option Member

abbrev pub look_up : List Pair → Places
look_up [] = λ path. None
look_up (p ∷ pairs) = λ path. cond (bytes_eq path p.0) p.1 (look_up pairs path)

-- the same of a folder, which stands at the empty path
abbrev pub with_top : List Pair → Places
with_top pairs = λ path. cond (bytes_eq path []) (Some stands.Folder) (look_up pairs path)

pub is_same : (a b : List ℕ) → a ≡ b → bytes_eq a b ≡ true
is_same a b e = (bytes_eq-Decides a b).1 e

not_true : (b : Bool) → (b ≡ true → ⊥) → b ≡ false
not_true true f = absurd (f refl)
not_true false f = refl

pub is_other : (a b : List ℕ) → (a ≡ b → ⊥) → bytes_eq a b ≡ false
is_other a b n = not_true (bytes_eq a b) (λ t. n ((bytes_eq-Decides a b).0 t))

-- Two have different paths.
abbrev pub PairApart : Pair → Pair → Type 0
PairApart p q = p.0 ≡ q.0 → ⊥

look_up_none : (pairs : List Pair) (path : List ℕ) → ((p : Pair) → Contains pairs p → p.0 ≡ path → ⊥) → look_up pairs path ≡ None
look_up_none [] path none = refl
look_up_none (p ∷ pairs) path none =
    ap (λ (b : Bool). cond b p.1 (look_up pairs path)) (is_other path p.0 (λ e. none p (first_is p pairs) (sym e)))
    ∙ look_up_none pairs path (λ q there. none q (later_is p pairs q there))

pub look_up_at : (pairs : List Pair) → IsUp PairApart pairs → (p : Pair) → Contains pairs p → look_up pairs p.0 ≡ p.1
look_up_at [] up p there = absurd (none_is p there)
look_up_at (q ∷ pairs) (first, up) p there =
    elim (first_or_later q pairs p there) [
      | inl same ↦
          ap (λ (b : Bool). cond b q.1 (look_up pairs p.0)) (is_same p.0 q.0 (sym (ap (λ (x : Pair). x.0) same))) ∙ ap (λ (x : Pair). x.1) same
      | inr later ↦
          ap (λ (b : Bool). cond b q.1 (look_up pairs p.0)) (is_other p.0 q.0 (λ e. each_is (PairApart q) pairs p first later (sym e))) ∙ look_up_at pairs up p later
    ]

-- what is found is one of them
from_cond : (b : Bool) (o q : Option Member) (place : Member) → cond b o q ≡ Some place → ((b ≡ true) × (o ≡ Some place)) ⊎ (q ≡ Some place)
from_cond true o q place e = inl (refl, e)
from_cond false o q place e = inr e

pub from_look_up : (pairs : List Pair) (path : List ℕ) (place : Member) → look_up pairs path ≡ Some place → (p : Pair) × Contains pairs p × (p.0 ≡ path) × (p.1 ≡ Some place)
from_look_up [] path place e = absurd cc
from_look_up (p ∷ pairs) path place e =
    elim (from_cond (bytes_eq path p.0) p.1 (look_up pairs path) place e) [
      | inl here ↦ (p, first_is p pairs, sym ((bytes_eq-Decides path p.0).0 here.0), here.1)
      | inr later ↦ let h = from_look_up pairs path place later in (h.0, later_is p pairs h.0 h.1, h.2, h.3)
    ]

-- another thing at one path changes no other
pub others_stay : (before : List Pair) (at : List ℕ) (a b : Option Member) (behind : List Pair) (path : List ℕ) → (path ≡ at → ⊥) → look_up (before ++ (at, a) ∷ behind) path ≡ look_up (before ++ (at, b) ∷ behind) path
others_stay [] at a b behind path other =
    let off = is_other path at other in
    ap (λ (t : Bool). cond t a (look_up behind path)) off ∙ sym (ap (λ (t : Bool). cond t b (look_up behind path)) off)
others_stay (p ∷ before) at a b behind path other = ap (λ (o : Option Member). cond (bytes_eq path p.0) p.1 o) (others_stay before at a b behind path other)

-- ---- the nodes before and after

abbrev pub before_pair : Node → Pair
before_pair n = (n.path, found_of n.entry)

abbrev pub final_pair : Node → Pair
final_pair n = (n.path, Some (final_of n.entry))

-- some nodes after the listing, and the others before it
abbrev pub mixed : List Node → List Node → List Pair
mixed done rest = map final_pair done ++ map before_pair rest

pair_up : (f : Node → Pair) → ((n : Node) → (f n).0 ≡ n.path) → (n : Node) (ns : List Node) → AllByRecursion (AreApart n) ns → (p : Pair) → p.0 ≡ n.path → AllByRecursion (PairApart p) (map f ns)
pair_up f same n [] first p at = tt
pair_up f same n (m ∷ ns) (one, rest) p at = (λ e. one (sym at ∙ e ∙ same m), pair_up f same n ns rest p at)

befores_up : (ns : List Node) → IsUp AreApart ns → IsUp PairApart (map before_pair ns)
befores_up [] up = tt
befores_up (n ∷ ns) (first, up) = (pair_up before_pair (λ m. refl) n ns first (before_pair n) refl, befores_up ns up)

all_both : {X : Type 0} (P : X → Type 0) (xs ys : List X) → AllByRecursion P xs → AllByRecursion P ys → AllByRecursion P (xs ++ ys)
all_both P [] ys a b = b
all_both P (x ∷ xs) ys (h, a) b = (h, all_both P xs ys a b)

all_front : {X : Type 0} (P : X → Type 0) (xs ys : List X) → AllByRecursion P (xs ++ ys) → AllByRecursion P xs × AllByRecursion P ys
all_front P [] ys a = (tt, a)
all_front P (x ∷ xs) ys (h, a) = let r = all_front P xs ys a in ((h, r.0), r.1)

pub mixed_up : (done rest : List Node) → IsUp AreApart (done ++ rest) → IsUp PairApart (mixed done rest)
mixed_up [] rest up = befores_up rest up
mixed_up (n ∷ done) rest (first, up) =
    let both = all_front (AreApart n) done rest first in (
      all_both (PairApart (final_pair n)) (map final_pair done) (map before_pair rest) (pair_up final_pair (λ m. refl) n done both.0 (final_pair n) refl) (pair_up before_pair (λ m. refl) n rest both.1 (final_pair n) refl),
      mixed_up done rest up,
    )

-- the places of the items, as they are found
skip_by : (p : Bool) (path at : List ℕ) (w : What) (place : Member) (items : List Item) (founds : List Member) (rest : Option Member) → places_of items founds path ≡ rest → (p ≡ true → path ≡ at → rest ≡ None)
    → places_of (cons_option (cond p None (Some (at, w))) items) (cons_option (cond p None (Some place)) founds) path ≡ cond (bytes_eq path at) (cond p None (Some place)) rest
skip_by true path at w place items founds rest is none = by (bytes_eq path at) refl
  where
    by : (b : Bool) → bytes_eq path at ≡ b → places_of items founds path ≡ cond b None rest
    by true e = is ∙ none refl ((bytes_eq-Decides path at).0 e)
    by false e = is
skip_by false path at w place items founds rest is none = ap (λ (o : Option Member). cond (bytes_eq path at) (Some place) o) is

before_from : (ms : List Node) (p : Pair) → Contains (map before_pair ms) p → (m : Node) × Contains ms m × (m.path ≡ p.0)
before_from [] p there = absurd (none_is p there)
before_from (m ∷ ms) p there =
    elim (first_or_later (before_pair m) (map before_pair ms) p there) [
      | inl same ↦ (m, first_is m ms, ap (λ (x : Pair). x.0) same)
      | inr later ↦ let h = before_from ms p later in (h.0, later_is m ms h.0 h.1, h.2)
    ]

pub found_places : (ns : List Node) → IsUp AreApart ns → (path : List ℕ) → places_of (items_of ns) (founds_of ns) path ≡ look_up (map before_pair ns) path
found_places [] up path = refl
found_places (n ∷ ns) (first, up) path =
    skip_by (n.entry.mode == 160000) path n.path (what_of n.entry.mode) (cond (n.entry.mode == 40000) stands.Folder (stands.File 100644 n.entry.id)) (items_of ns) (founds_of ns) (look_up (map before_pair ns) path) (found_places ns up path)
    (λ _ at. look_up_none (map before_pair ns) path (λ p there same.
    let m = before_from ns p there in
    each_is (AreApart n) ns m.0 first m.1 (sym at ∙ sym same ∙ sym m.2)))

-- ---- one line

-- what an entry is before its line, and after
abbrev StandsBefore : DirectoryEntry → Option Mode → Type 0
StandsBefore e None = found_of e ≡ Some (final_of e)
StandsBefore e (Some Executable) = (found_of e ≡ Some (stands.File 100644 e.id)) × (final_of e ≡ stands.File 100755 e.id)
StandsBefore e (Some Link) = (found_of e ≡ Some (stands.File 100644 e.id)) × (final_of e ≡ stands.File 120000 e.id)
StandsBefore e (Some (Project id)) = (found_of e ≡ None) × (final_of e ≡ stands.Project id)

-- by the five modes
before_at : (mode : ℕ) (name id : List ℕ) → IsMode mode → (let e : DirectoryEntry = record { mode = mode; name = name; id = id } in StandsBefore e (mode_of e))
before_at mode name id (inl e) = subst (λ (m : ℕ). let d : DirectoryEntry = record { mode = m; name = name; id = id } in StandsBefore d (mode_of d)) (sym e) refl
before_at mode name id (inr (inl e)) = subst (λ (m : ℕ). let d : DirectoryEntry = record { mode = m; name = name; id = id } in StandsBefore d (mode_of d)) (sym e) (refl, refl)
before_at mode name id (inr (inr (inl e))) = subst (λ (m : ℕ). let d : DirectoryEntry = record { mode = m; name = name; id = id } in StandsBefore d (mode_of d)) (sym e) (refl, refl)
before_at mode name id (inr (inr (inr (inl e)))) = subst (λ (m : ℕ). let d : DirectoryEntry = record { mode = m; name = name; id = id } in StandsBefore d (mode_of d)) (sym e) refl
before_at mode name id (inr (inr (inr (inr e)))) = subst (λ (m : ℕ). let d : DirectoryEntry = record { mode = m; name = name; id = id } in StandsBefore d (mode_of d)) (sym e) (refl, refl)

stands_before : (e : DirectoryEntry) → IsEntry e → StandsBefore e (mode_of e)
stands_before e is = before_at e.mode e.name e.id is.mode

-- what the line makes of what stood
changes : (e : DirectoryEntry) (m : Mode) → StandsBefore e (Some m) → changed m (found_of e) ≡ Some (final_of e)
changes e Executable s = ap (changed Executable) s.0 ∙ ap (λ (p : Member). Some p) (sym s.1)
changes e Link s = ap (changed Link) s.0 ∙ ap (λ (p : Member). Some p) (sym s.1)
changes e (Project id) s = ap (λ (p : Member). Some p) (sym s.1)

may_take : (places : Places) (e : DirectoryEntry) (path : List ℕ) (m : Mode) → StandsBefore e (Some m) → places path ≡ found_of e → IsInFolder places path → MayTake places m path
may_take places e path Executable s is inside = (e.id, is ∙ s.0)
may_take places e path Link s is inside = (e.id, is ∙ s.0)
may_take places e path (Project id) s is inside = (is ∙ s.0, inside)

map_both : (f : Node → Pair) (xs ys : List Node) → map f (xs ++ ys) ≡ map f xs ++ map f ys
map_both f [] ys = refl
map_both f (x ∷ xs) ys = ap (λ (l : List Pair). f x ∷ l) (map_both f xs ys)

-- a line after which one more node stands as it ends
line_taken : (places : Places) (done rest : List Node) (n : Node) (m : Mode) → ((path : List ℕ) → places path ≡ with_top (mixed done (n ∷ rest)) path) → StandsBefore n.entry (Some m) → (n.path ≡ [] → ⊥) → places n.path ≡ found_of n.entry
    → look_up (mixed (done ++ n ∷ []) rest) n.path ≡ Some (final_of n.entry) → (path : List ℕ) → take places (record { mode = m; path = n.path }) path ≡ with_top (mixed (done ++ n ∷ []) rest) path
line_taken places done rest n m same s some here after path = by (bytes_eq path n.path) refl
  where
    moved : mixed (done ++ n ∷ []) rest ≡ map final_pair done ++ final_pair n ∷ map before_pair rest
    moved = ap (λ (l : List Pair). l ++ map before_pair rest) (map_both final_pair done (n ∷ [])) ∙ append_assoc (map final_pair done) (final_pair n ∷ []) (map before_pair rest)

    by : (b : Bool) → bytes_eq path n.path ≡ b → cond b (changed m (places path)) (places path) ≡ with_top (mixed (done ++ n ∷ []) rest) path
    by true e =
        let at : path ≡ n.path = (bytes_eq-Decides path n.path).0 e in
        subst (λ (p : List ℕ). changed m (places p) ≡ with_top (mixed (done ++ n ∷ []) rest) p) (sym at)
        (ap (changed m) here ∙ changes n.entry m s ∙ sym after ∙ sym (ap (λ (b : Bool). cond b (Some stands.Folder) (look_up (mixed (done ++ n ∷ []) rest) n.path)) (is_other n.path [] some)))
    by false e =
        let off : path ≡ n.path → ⊥ = λ at. let t : true ≡ false = sym (is_same path n.path at) ∙ e in cc in
        same path
        ∙ ap (λ (o : Option Member). cond (bytes_eq path []) (Some stands.Folder) o)
        (others_stay (map final_pair done) n.path (found_of n.entry) (Some (final_of n.entry)) (map before_pair rest) path off ∙ ap (λ (l : List Pair). look_up l path) (sym moved))

-- ---- all lines

-- What is known of each of the nodes: it is an entry, in a folder that is the folder itself or one of them.
pub record IsPlaced (all : List Node) (n : Node) : Type 0 where
  pub is : IsEntry n.entry
  pub some : n.path ≡ [] → ⊥
  pub dir : List ℕ
  pub path : n.path ≡ child dir n.entry.name
  pub in_folder : (dir ≡ []) ⊎ ((m : Node) × Contains all m × (m.entry.mode ≡ 40000) × (dir ≡ m.path))

folder_found : (e : DirectoryEntry) → e.mode ≡ 40000 → found_of e ≡ Some stands.Folder
folder_found e is = ap (λ (m : ℕ). cond (m == 160000) None (Some (cond (m == 40000) stands.Folder (stands.File 100644 e.id)))) is

pub folder_final : (e : DirectoryEntry) → e.mode ≡ 40000 → final_of e ≡ stands.Folder
folder_final e is = ap (λ (m : ℕ). cond (m == 160000) (stands.Project e.id) (cond (m == 40000) stands.Folder (stands.File m e.id))) is

in_mapped : {X Y : Type 0} (f : X → Y) (xs : List X) (x : X) → Contains xs x → Contains (map f xs) (f x)
in_mapped f [] x there = absurd (none_is x there)
in_mapped {X} {Y} f (y ∷ ys) x there =
    elim (first_or_later y ys x there) [
      | inl same ↦ subst (λ (z : X). Contains (map f (y ∷ ys)) (f z)) same (first_is (f y) (map f ys))
      | inr later ↦ later_is (f y) (map f ys) (f x) (in_mapped f ys x later)
    ]

top_off : (pairs : List Pair) (path : List ℕ) → (path ≡ [] → ⊥) → with_top pairs path ≡ look_up pairs path
top_off pairs path some = ap (λ (b : Bool). cond b (Some stands.Folder) (look_up pairs path)) (is_other path [] some)

module _ (all : List Node) (up : IsUp AreApart all) (placed : (n : Node) → Contains all n → IsPlaced all n) where
  module _ (done rest : List Node) (cut : all ≡ done ++ rest) where
    mixed_apart : IsUp PairApart (mixed done rest)
    mixed_apart = mixed_up done rest (subst (IsUp AreApart) cut up)

    folder_mixed : (m : Node) → Contains all m → m.entry.mode ≡ 40000 → with_top (mixed done rest) m.path ≡ Some stands.Folder
    folder_mixed m there folder =
        top_off (mixed done rest) m.path (placed m there).some
        ∙ elim (Contains-append_cases done rest m (subst (λ (l : List Node). Contains l m) cut there)) [
          | inl a ↦
              look_up_at (mixed done rest) mixed_apart (final_pair m) (Contains-append_left (map final_pair done) (map before_pair rest) (final_pair m) (in_mapped final_pair done m a))
              ∙ ap (λ (p : Member). Some p) (folder_final m.entry folder)
          | inr b ↦
              look_up_at (mixed done rest) mixed_apart (before_pair m) (Contains-append_right (map final_pair done) (map before_pair rest) (before_pair m) (in_mapped before_pair rest m b))
              ∙ folder_found m.entry folder
        ]

    in_folder : (n : Node) → Contains all n → (places : Places) → ((path : List ℕ) → places path ≡ with_top (mixed done rest) path) → IsInFolder places n.path
    in_folder n there places same =
        let p = placed n there in
        record {
          dir = p.dir;
          name = n.entry.name;
          cut = p.path;
          some = p.is.name.not_empty;
          one = p.is.name.no_slash;
          folder =
              same p.dir
              ∙ elim p.in_folder [
                | inl top ↦ ap (with_top (mixed done rest)) top
                | inr m ↦ ap (with_top (mixed done rest)) m.3 ∙ folder_mixed m.0 m.1 m.2
              ];
        }

  last_places : (done : List Node) → all ≡ done ++ [] → (path : List ℕ) → with_top (map final_pair all) path ≡ with_top (mixed done []) path
  last_places done cut path =
      ap (λ (l : List Node). with_top (map final_pair l) path) (cut ∙ append-nil done) ∙ ap (λ (l : List Pair). with_top l path) (sym (append-nil (map final_pair done)))

  pub lines_taken : (done rest : List Node) → all ≡ done ++ rest → (places : Places) → ((path : List ℕ) → places path ≡ with_top (mixed done rest) path) → TakesAll places (all_listed (map row_of rest)) (with_top (map final_pair all))
  lines_taken done [] cut places same = λ path. last_places done cut path ∙ sym (same path)
  lines_taken done (n ∷ rest) cut places same =
      by (λ now e. lines_taken (done ++ n ∷ []) rest (cut ∙ sym (append_assoc done (n ∷ []) rest)) now e) (mode_of n.entry) refl
    where
      there : Contains all n
      there = subst (λ (l : List Node). Contains l n) (sym cut) (Contains-append_right done (n ∷ rest) n (first_is n rest))

      next : all ≡ (done ++ n ∷ []) ++ rest
      next = cut ∙ sym (append_assoc done (n ∷ []) rest)

      s : StandsBefore n.entry (mode_of n.entry)
      s = stands_before n.entry (placed n there).is

      here : places n.path ≡ found_of n.entry
      here =
          same n.path ∙ top_off (mixed done (n ∷ rest)) n.path (placed n there).some
          ∙ look_up_at (mixed done (n ∷ rest)) (mixed_apart done (n ∷ rest) cut) (before_pair n)
          (Contains-append_right (map final_pair done) (before_pair n ∷ map before_pair rest) (before_pair n) (first_is (before_pair n) (map before_pair rest)))

      after : look_up (mixed (done ++ n ∷ []) rest) n.path ≡ Some (final_of n.entry)
      after =
          look_up_at (mixed (done ++ n ∷ []) rest) (mixed_apart (done ++ n ∷ []) rest next) (final_pair n)
          (Contains-append_left (map final_pair (done ++ n ∷ [])) (map before_pair rest) (final_pair n) (in_mapped final_pair (done ++ n ∷ []) n (Contains-append_right done (n ∷ []) n (first_is n []))))

      moved : found_of n.entry ≡ Some (final_of n.entry) → mixed done (n ∷ rest) ≡ mixed (done ++ n ∷ []) rest
      moved is =
          ap (λ (o : Option Member). map final_pair done ++ (n.path, o) ∷ map before_pair rest) is
          ∙ sym (append_assoc (map final_pair done) (final_pair n ∷ []) (map before_pair rest))
          ∙ ap (λ (l : List Pair). l ++ map before_pair rest) (sym (map_both final_pair done (n ∷ [])))

      by : ((now : Places) → ((path : List ℕ) → now path ≡ with_top (mixed (done ++ n ∷ []) rest) path) → TakesAll now (all_listed (map row_of rest)) (with_top (map final_pair all)))
          → (o : Option Mode) → mode_of n.entry ≡ o → TakesAll places (cons_option (with_path n.path o) (all_listed (map row_of rest))) (with_top (map final_pair all))
      by on None is =
          let found : found_of n.entry ≡ Some (final_of n.entry) = subst (StandsBefore n.entry) is s in
          on places (λ path. same path ∙ ap (λ (l : List Pair). with_top l path) (moved found))
      by on (Some m) is =
          let stood : StandsBefore n.entry (Some m) = subst (StandsBefore n.entry) is s in (
            may_take places n.entry n.path m stood here (in_folder done (n ∷ rest) cut n there places same),
            on (take places (record { mode = m; path = n.path })) (line_taken places done rest n m same stood (placed n there).some here after),
          )
