-- What each folder lists, where just what was made of a directory stands.
use Rattle.std.proofs.Common.{◌≡◌, ◌≢◌, ◌⊎◌, inl, inr, ℕ, zero, suc, ◌+◌, ◌<◌, ◌==◌, Bool, true, false, cond, Option, Some, None, List, [], ◌∷◌, ◌++◌, length, map, get_or, Contains, refl, sym, ap, ◌∙◌, subst, arith}
use Rattle.std.specs.Prelude.{◌↔◌, All, AllPairs}
use Rattle.std.specs.List.{AllByRecursion, filter_map, cons_option}
use Rattle.std.specs.List.Sorted.{IsPermutation, IsSortedByKey}
use Rattle.std.specs.Ordering.{nat_cmp, is_lt, ordering_reverse}
use Rattle.std.specs.declared.cmp.Ordering.{Ordering}
use Rattle.std.specs.declared.cmp.Ordering.TheVariants.{Less, Equal, Greater}
use Rattle.std.specs.Cmp.Lexicographic.{slice_cmp, nat_list_cmp_total}
use Rattle.std.proofs.lemmas.List.Elements.{Contains-append_left, Contains-append_right, Contains-append_cases, All-contains_itself}
use Rattle.std.proofs.lemmas.List.Sorted.{IsPermutation-refl, IsPermutation-cons, IsPermutation-middle, IsPermutation-trans, IsPermutation-sym}
use Rattle.swh_base.specs.Directory.{DirectoryEntry, IsEntryName, AreEntries, IsBefore, sort_key}
use Rattle.swh_dedup.proofs.Elements.{first_or_later, first_is, later_is, none_is, each_is}
use Rattle.swh_outside.specs.Folder.{FolderEntry, Tree as Held, entries_at, IsFolderEntryName}
use Rattle.swh_outside.specs.declared.folder.What.{What}
use Rattle.swh_outside.specs.declared.folder.What.TheVariants.{File, Folder}
use Rattle.swh_carried.specs.Rules.{IsDots}
use Rattle.swh_dirload.specs.Items.{item_in, entry_key, HasItems}

-- what stands in a folder for an entry: nothing for a revision of another project
abbrev pub what_of : ℕ → What
what_of mode = cond (mode == 40000) Folder File

abbrev pub shown_of : DirectoryEntry → Option FolderEntry
shown_of e = cond (e.mode == 160000) None (Some (record { name = e.name; what = what_of e.mode }))

abbrev pub shown : List DirectoryEntry → List FolderEntry
shown es = filter_map shown_of es

more_there : {X : Type 0} (o : Option X) (xs : List X) (x : X) → Contains xs x → Contains (cons_option o xs) x
more_there None xs x there = there
more_there (Some y) xs x there = later_is y xs x there

option_there : {X : Type 0} (o : Option X) (xs : List X) (x : X) → Contains (cons_option o xs) x → (o ≡ Some x) ⊎ Contains xs x
option_there None xs x there = inr there
option_there {X} (Some y) xs x there = elim (first_or_later y xs x there) [ inl same ↦ inl (ap (λ (z : X). Some z) same) | inr later ↦ inr later ]

pub from_shown : (es : List DirectoryEntry) (f : FolderEntry) → Contains (shown es) f → (e : DirectoryEntry) × Contains es e × (shown_of e ≡ Some f)
from_shown [] f there = absurd (none_is f there)
from_shown (e ∷ es) f there =
    elim (option_there (shown_of e) (shown es) f there) [
      | inl is ↦ (e, first_is e es, is)
      | inr later ↦ let h = from_shown es f later in (h.0, later_is e es h.0 h.1, h.2)
    ]

pub to_shown : (es : List DirectoryEntry) (e : DirectoryEntry) (f : FolderEntry) → Contains es e → shown_of e ≡ Some f → Contains (shown es) f
to_shown [] e f there is = absurd (none_is e there)
to_shown (d ∷ es) e f there is =
    elim (first_or_later d es e there) [
      | inl same ↦ subst (λ (o : Option FolderEntry). Contains (cons_option o (shown es)) f) (sym (ap shown_of same ∙ is)) (first_is f (shown es))
      | inr later ↦ more_there (shown_of d) (shown es) f (to_shown es e f later is)
    ]

-- ---- what an entry is shown as

shown_by : (e : DirectoryEntry) (f : FolderEntry) (p : Bool) → cond p None (Some (let g : FolderEntry = record { name = e.name; what = what_of e.mode } in g)) ≡ Some f → (p ≡ false) × (e.name ≡ f.name) × (what_of e.mode ≡ f.what)
shown_by e f true is = absurd cc
shown_by e f false is = (refl, cc, cc)

pub shown_as : (e : DirectoryEntry) (f : FolderEntry) → shown_of e ≡ Some f → ((e.mode == 160000) ≡ false) × (e.name ≡ f.name) × (what_of e.mode ≡ f.what)
shown_as e f is = shown_by e f (e.mode == 160000) is

-- ---- the order

strictly : (o p : Ordering) → o ≡ Less → p ≡ ordering_reverse o → is_lt p ≡ false
strictly Less Less l e = absurd cc
strictly Less Equal l e = refl
strictly Less Greater l e = refl
strictly Equal p l e = absurd cc
strictly Greater p l e = absurd cc

key_by : (name : List ℕ) (f : Bool) → entry_key (record { name = name; what = cond f Folder File }) ≡ name ++ cond f (47 ∷ []) []
key_by name true = refl
key_by name false = refl

key_is : (e : DirectoryEntry) → entry_key (record { name = e.name; what = what_of e.mode }) ≡ sort_key e
key_is e = key_by e.name (e.mode == 40000)

abbrev lt_items : FolderEntry → FolderEntry → Bool
lt_items a b = is_lt (slice_cmp nat_cmp (entry_key a) (entry_key b))

-- The first comes before the second.
abbrev ComesBefore : FolderEntry → FolderEntry → Type 0
ComesBefore a b = lt_items b a ≡ false

entry_of_shown : (e : DirectoryEntry) (f : FolderEntry) → shown_of e ≡ Some f → entry_key f ≡ sort_key e
entry_of_shown e f is =
    let s = shown_as e f is in
    let name = s.1 in
    let what = s.2 in
    let same : f ≡ record { name = e.name; what = what_of e.mode } = cc in
    ap entry_key same ∙ key_is e

comes_before : (d e : DirectoryEntry) (f g : FolderEntry) → shown_of d ≡ Some f → shown_of e ≡ Some g → IsBefore d e → ComesBefore f g
comes_before d e f g is also before =
    let first = entry_of_shown d f is in
    let second = entry_of_shown e g also in
    let less : slice_cmp nat_cmp (entry_key f) (entry_key g) ≡ Less = ap (λ (k : List ℕ). slice_cmp nat_cmp k (entry_key g)) first ∙ ap (λ (k : List ℕ). slice_cmp nat_cmp (sort_key d) k) second ∙ before in
    strictly (slice_cmp nat_cmp (entry_key f) (entry_key g)) (slice_cmp nat_cmp (entry_key g) (entry_key f)) less (nat_list_cmp_total.antisymm (entry_key g) (entry_key f))

-- each shown entry comes before those behind it
abbrev AreUp : List FolderEntry → Type 0
AreUp [] = Unit {0}
AreUp (f ∷ fs) = AllByRecursion (ComesBefore f) fs × AreUp fs

all_of : {X : Type 0} (P : X → Type 0) (xs : List X) → ((x : X) → Contains xs x → P x) → AllByRecursion P xs
all_of P [] each = tt
all_of P (x ∷ xs) each = (each x (first_is x xs), all_of P xs (λ y there. each y (later_is x xs y there)))

up_option : (o : Option FolderEntry) (fs : List FolderEntry) → ((f : FolderEntry) → o ≡ Some f → AllByRecursion (ComesBefore f) fs) → AreUp fs → AreUp (cons_option o fs)
up_option None fs first up = up
up_option (Some f) fs first up = (first f refl, up)

shown_up : (es : List DirectoryEntry) → AreEntries es → AreUp (shown es)
shown_up [] good = tt
shown_up (e ∷ es) good =
    up_option (shown_of e) (shown es)
    (λ f is. all_of (ComesBefore f) (shown es) (λ g there. let h = from_shown es g there in comes_before e h.0 f g is h.2 (each_is (λ other. IsBefore e other) es h.0 good.2 h.1)))
    (shown_up es good.3)

sorted_by : (fs : List FolderEntry) → AreUp fs → (k : ℕ) (d : FolderEntry) → k + 1 < length fs → lt_items (get_or fs (k + 1) d) (get_or fs k d) ≡ false
sorted_by [] up k d less = absurd (omega (arith, less))
sorted_by (f ∷ []) up k d less = absurd (omega (arith, less))
sorted_by (f ∷ g ∷ fs) up zero d less = up.0.0
sorted_by (f ∷ g ∷ fs) up (suc k) d less =
    let one : suc k + 1 ≡ suc (k + 1) = omega arith in
    subst (λ (n : ℕ). lt_items (get_or (f ∷ g ∷ fs) n d) (get_or (g ∷ fs) k d) ≡ false) (sym one) (sorted_by (g ∷ fs) up.1 k d (omega (arith, less)))

pub shown_sorted : (es : List DirectoryEntry) → AreEntries es → IsSortedByKey entry_key (slice_cmp nat_cmp) (shown es)
shown_sorted es good = λ k d low high. sorted_by (shown es) (shown_up es good) k d high

-- ---- permutations

-- The names of these differ.
abbrev pub NameFresh : FolderEntry → FolderEntry → Type 0
NameFresh f g = f.name ≢ g.name

abbrev pub AreFresh : List FolderEntry → Type 0
AreFresh [] = Unit {0}
AreFresh (f ∷ fs) = AllByRecursion (NameFresh f) fs × AreFresh fs

pub shown_fresh : (es : List DirectoryEntry) → AreEntries es → AreFresh (shown es)
shown_fresh [] good = tt
shown_fresh (e ∷ es) good = by (shown_fresh es good.3) (shown_of e) refl
  where
    by : AreFresh (shown es) → (o : Option FolderEntry) → shown_of e ≡ o → AreFresh (cons_option o (shown es))
    by fresh None is = fresh
    by fresh (Some f) is = (
      all_of (NameFresh f) (shown es)
          (λ g there same.
          let h = from_shown es g there in
          each_is (λ other. e.name ≢ other.name) es h.0 good.1 h.1 ((shown_as e f is).1 ∙ same ∙ sym (shown_as h.0 g h.2).1)),
      fresh,
    )

record Cut (xs : List FolderEntry) (x : FolderEntry) : Type 0 where
  pub before : List FolderEntry
  pub behind : List FolderEntry
  pub cut : xs ≡ before ++ x ∷ behind

cut_at : (xs : List FolderEntry) (x : FolderEntry) → Contains xs x → Cut xs x
cut_at [] x there = absurd (none_is x there)
cut_at (y ∷ ys) x there =
    elim (first_or_later y ys x there) [
      | inl same ↦ record { before = []; behind = ys; cut = ap (λ (z : FolderEntry). z ∷ ys) same }
      | inr later ↦ let c = cut_at ys x later in record { before = y ∷ c.before; behind = c.behind; cut = ap (λ (l : List FolderEntry). y ∷ l) c.cut }
    ]

-- lists of the same elements, in each of which no name stands twice, are one but for their order
fresh_cut : (before : List FolderEntry) (x : FolderEntry) (behind : List FolderEntry) → AreFresh (before ++ x ∷ behind) → AreFresh (before ++ behind) × ((y : FolderEntry) → Contains (before ++ behind) y → NameFresh x y)
fresh_cut [] x behind fresh = (fresh.1, λ y there. each_is (NameFresh x) behind y fresh.0 there)
fresh_cut (b ∷ before) x behind (first, fresh) =
    let h = fresh_cut before x behind fresh in (
      (
        all_of (NameFresh b) (before ++ behind)
            (λ y there. each_is (NameFresh b) (before ++ x ∷ behind) y first
            (elim (Contains-append_cases before behind y there) [ inl a ↦ Contains-append_left before (x ∷ behind) y a | inr c ↦ Contains-append_right before (x ∷ behind) y (later_is x behind y c) ])),
        h.0,
      ),
      λ y there.
          elim (first_or_later b (before ++ behind) y there) [
            | inl same ↦
                λ e. each_is (NameFresh b) (before ++ x ∷ behind) x first (Contains-append_right before (x ∷ behind) x (first_is x behind)) (ap (λ (z : FolderEntry). z.name) same ∙ sym e)
            | inr later ↦ h.1 y later
          ],
    )

pub same_elements : (xs ys : List FolderEntry) → AreFresh xs → AreFresh ys → ((f : FolderEntry) → Contains xs f → Contains ys f) → ((f : FolderEntry) → Contains ys f → Contains xs f) → IsPermutation xs ys
same_elements [] [] fx fy to from = IsPermutation-refl []
same_elements [] (y ∷ ys) fx fy to from = absurd (none_is y (from y (first_is y ys)))
same_elements (x ∷ xs) ys (first, fx) fy to from = by (λ zs fz t b. same_elements xs zs fx fz t b) (cut_at ys x (to x (first_is x xs)))
  where
    by : ((zs : List FolderEntry) → AreFresh zs → ((f : FolderEntry) → Contains xs f → Contains zs f) → ((f : FolderEntry) → Contains zs f → Contains xs f) → IsPermutation xs zs) → Cut ys x → IsPermutation (x ∷ xs) ys
    by on c =
        let fresh = fresh_cut c.before x c.behind (subst AreFresh c.cut fy) in
        let rest : IsPermutation xs (c.before ++ c.behind) = on (c.before ++ c.behind) fresh.0 (λ f there. onward f there) (λ f there. back f there) in
        subst (IsPermutation (x ∷ xs)) (sym c.cut)
        (IsPermutation-trans (x ∷ xs) (x ∷ (c.before ++ c.behind)) (c.before ++ x ∷ c.behind) (IsPermutation-cons x xs (c.before ++ c.behind) rest)
        (IsPermutation-sym (c.before ++ x ∷ c.behind) (x ∷ (c.before ++ c.behind)) (IsPermutation-middle c.before x c.behind)))
      where
        onward : (f : FolderEntry) → Contains xs f → Contains (c.before ++ c.behind) f
        onward f there =
            elim (Contains-append_cases c.before (x ∷ c.behind) f (subst (λ (l : List FolderEntry). Contains l f) c.cut (to f (later_is x xs f there)))) [
              | inl a ↦ Contains-append_left c.before c.behind f a
              | inr b ↦
                  elim (first_or_later x c.behind f b) [
                    | inl same ↦ absurd (each_is (NameFresh x) xs f first there (ap (λ (z : FolderEntry). z.name) same))
                    | inr d ↦ Contains-append_right c.before c.behind f d
                  ]
            ]

        back : (f : FolderEntry) → Contains (c.before ++ c.behind) f → Contains xs f
        back f there =
            elim (first_or_later x xs f (from f (subst (λ (l : List FolderEntry). Contains l f) (sym c.cut)
            (elim (Contains-append_cases c.before c.behind f there) [ inl a ↦ Contains-append_left c.before (x ∷ c.behind) f a | inr b ↦ Contains-append_right c.before (x ∷ c.behind) f (later_is x c.behind f b) ])))) [
              | inl same ↦ absurd ((fresh_cut c.before x c.behind (subst AreFresh c.cut fy)).1 f there (ap (λ (z : FolderEntry). z.name) same))
              | inr later ↦ later
            ]

names_tail : (f : FolderEntry) (fs : List FolderEntry) → AllPairs (λ a b. a ≢ b) (map (λ e. e.name) (f ∷ fs)) → AllPairs (λ a b. a ≢ b) (map (λ e. e.name) fs)
names_tail f fs h = λ i j d lt within. h (suc i) (suc j) d (omega (arith, lt)) (omega (arith, within))

names_long : (fs : List FolderEntry) → length (map (λ e. e.name) fs) ≡ length fs
names_long [] = refl
names_long (f ∷ fs) = ap suc (names_long fs)

name_at : (fs : List FolderEntry) (k : ℕ) (d : FolderEntry) → k < length fs → get_or (map (λ e. e.name) fs) k [] ≡ (get_or fs k d).name
name_at [] k d less = absurd (omega (arith, less))
name_at (f ∷ fs) zero d less = refl
name_at (f ∷ fs) (suc k) d less = name_at fs k d (omega (arith, less))

from_names_at : (fs : List FolderEntry) (k : ℕ) (d : List ℕ) → k < length fs → (f : FolderEntry) × Contains fs f × (f.name ≡ get_or (map (λ e. e.name) fs) k d)
from_names_at [] k d less = absurd (omega (arith, less))
from_names_at (f ∷ fs) zero d less = (f, first_is f fs, refl)
from_names_at (f ∷ fs) (suc k) d less = let h = from_names_at fs k d (omega (arith, less)) in (h.0, later_is f fs h.0 h.1, h.2)

pub once_fresh : (fs : List FolderEntry) → AllPairs (λ a b. a ≢ b) (map (λ e. e.name) fs) → AreFresh fs
once_fresh [] once = tt
once_fresh (f ∷ fs) once = (
  all_of (NameFresh f) fs
      (λ g there same.
      let less = there.1 in
      let n = names_long fs in
      once 0 (suc there.0) [] (omega arith) (omega (arith, less, n)) (same ∙ ap (λ (z : FolderEntry). z.name) (sym there.2) ∙ sym (name_at fs there.0 g less))),
  once_fresh fs (names_tail f fs once),
)

-- the same from the entries to their names
pub fresh_once : (fs : List FolderEntry) → AreFresh fs → AllPairs (λ a b. a ≢ b) (map (λ e. e.name) fs)
fresh_once fs fresh = λ i j d less within.
    let same_long = names_long fs in
    by fs fresh i j d less (omega (arith, within, same_long))
  where
    by : (fs : List FolderEntry) → AreFresh fs → (i j : ℕ) (d : List ℕ) → i < j → j < length fs → get_or (map (λ e. e.name) fs) i d ≢ get_or (map (λ e. e.name) fs) j d
    by [] fresh i j d less within = absurd (omega (arith, within))
    by (f ∷ fs) fresh i zero d less within = absurd (omega (arith, less))
    by (f ∷ fs) fresh zero (suc j) d less within = λ same.
        let named = from_names_at fs j d (omega (arith, within)) in
        each_is (NameFresh f) fs named.0 fresh.0 named.1 (same ∙ sym named.2)
    by (f ∷ fs) fresh (suc i) (suc j) d less within = by fs fresh.1 i j d (omega (arith, less)) (omega (arith, within))

-- ---- good names

not_one : (name : List ℕ) (c : ℕ) → (Contains name c → ⊥) → All (λ b. b ≢ c) name
not_one name c none = λ i d less same. none (subst (Contains name) same (All-contains_itself name i d less))

pub folder_name : (name : List ℕ) → IsEntryName name → (IsDots name → ⊥) → IsFolderEntryName name
folder_name name good dots = record {
  some = good.not_empty;
  not_here = λ is. dots (inl is);
  not_above = λ is. dots (inr is);
  plain = not_one name 47 good.no_slash;
  no_end = not_one name 0 good.no_nul;
}

from_names : (gs : List FolderEntry) (name : List ℕ) → Contains (map (λ e. e.name) gs) name → (f : FolderEntry) × Contains gs f × (f.name ≡ name)
from_names [] name there = absurd (none_is name there)
from_names (g ∷ gs) name there =
    elim (first_or_later g.name (map (λ e. e.name) gs) name there) [
      | inl same ↦ (g, first_is g gs, same)
      | inr later ↦ let h = from_names gs name later in (h.0, later_is g gs h.0 h.1, h.2)
    ]

names_each : (fs : List FolderEntry) → ((f : FolderEntry) → Contains fs f → IsFolderEntryName f.name) → All IsFolderEntryName (map (λ e. e.name) fs)
names_each fs each = λ i d less.
    let h = from_names fs (get_or (map (λ e. e.name) fs) i d) (All-contains_itself (map (λ e. e.name) fs) i d less) in
    subst IsFolderEntryName h.2 (each h.0 h.1)

-- what a folder lists, where it lists just what is shown of a directory
pub has_items : (tree : Held) (dir : List ℕ) (es : List DirectoryEntry) (entries : List FolderEntry) → AreEntries es → ((e : DirectoryEntry) → Contains es e → IsFolderEntryName e.name) → entries_at tree dir ≡ Some entries
    → AllPairs (λ a b. a ≢ b) (map (λ e. e.name) entries) → ((f : FolderEntry) → Contains entries f ↔ Contains (shown es) f) → HasItems tree dir (map (item_in dir) (shown es))
has_items tree dir es entries good named are once all = record {
  entries = entries;
  ordered = shown es;
  are = are;
  order = record {
    same = same_elements entries (shown es) (once_fresh entries once) (shown_fresh es good) (λ f there. (all f).0 there) (λ f there. (all f).1 there);
    ascend = shown_sorted es good;
  };
  names = record {
    each = names_each entries (λ f there. let h = from_shown es f ((all f).0 there) in subst IsFolderEntryName (shown_as h.0 f h.2).1 (named h.0 h.1));
    once = once;
  };
  named = refl;
}
