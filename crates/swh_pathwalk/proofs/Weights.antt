-- Each step of a walk over paths leaves less to come, where each child of a name stands before it.
use Rattle.std.proofs.Common.{◌≡◌, ◌⊎◌, inl, inr, ℕ, zero, suc, ◌+◌, ◌<◌, ◌≤◌, ◌==◌, Bool, true, false, cond, Option, Some, None, List, [], ◌∷◌, ◌++◌, length, refl, sym, ap, ◌∙◌, subst, arith, append_assoc, length-append}
use Rattle.std.specs.Prelude.{Contains, unwrap_or, decimal}
use Rattle.std.specs.List.{flat_map, filter_map, cons_option}
use Rattle.std.proofs.lemmas.Bool.{eqb-true}
use Rattle.std.proofs.lemmas.List.Elements.{Contains-append_left, Contains-append_right}
use Rattle.swh_base.specs.declared.name.Name.{Name}
use Rattle.swh_base.specs.declared.kind.Kind.TheVariants.{Content, Directory}
use Rattle.swh_base.specs.declared.kind.Kind.{Kind}
use Rattle.swh_base.specs.Manifest.{AreChildren}
use Rattle.swh_base.specs.Directory.{DirectoryEntry, IsDirectory, child_of, entry_text}
use Rattle.swh_base.specs.Reach.{IsChildIn}
use Rattle.swh_base.proofs.DirectoryLemmas.{one_listing_lem}
use Rattle.swh_dirfmt.specs.declared.entry.SpelledEntry.{SpelledEntry}
use Rattle.swh_dirfmt.specs.Entries.{entry_of}
use Rattle.swh_model.specs.Archive.{Bodies, body_of, IsGraphOf}
use Rattle.swh_graph.specs.Holding.{HoldsDirectory}
use Rattle.swh_graph.specs.Path.{directory_name}
use Rattle.swh_postorder.specs.Cycle.{ArePreceded}
use Rattle.swh_postorder.proofs.Preceded.{cut_at}
use Rattle.swh_pathwalk.specs.Walk.{Coming, Standing, with_entries, BeginsAt, ComesInside, Steps}
use Rattle.swh_pathwalk.specs.Weight.{total, weight, entry_weight, coming_weight, LeadInto}

none_in : {X : Type 0} → (x : X) → Contains [] x → ⊥
none_in x (k, less, is) = absurd (omega (arith, less))

first_in : {X : Type 0} → (x : X) (xs : List X) → Contains (x ∷ xs) x
first_in x xs = (0, omega arith, refl)

later_in : {X : Type 0} → (x : X) (xs : List X) (y : X) → Contains xs y → Contains (x ∷ xs) y
later_in x xs y there = Contains-append_right (x ∷ []) xs y there

in_cases : {X : Type 0} → (x : X) (xs : List X) (y : X) → Contains (x ∷ xs) y → (x ≡ y) ⊎ Contains xs y
in_cases x xs y (zero, less, is) = inl is
in_cases x xs y (suc k, less, is) = inr (k, omega (arith, less), is)

-- a value that is no greater on each has no greater sum
total_same : {X : Type 0} (f g : X → ℕ) (xs : List X) → ((x : X) → Contains xs x → f x ≡ g x) → total f xs ≡ total g xs
total_same f g [] same = refl
total_same f g (x ∷ xs) same =
    let first = same x (first_in x xs) in
    let rest = total_same f g xs (λ y there. same y (later_in x xs y there)) in
    omega (arith, first, rest)

kid_of : (found : Option (List Name)) (k : Name) → Contains (unwrap_or found []) k → (kids : List Name) × (found ≡ Some kids) × Contains kids k
kid_of None k there = absurd (none_in k there)
kid_of (Some kids) k there = (kids, refl, there)

-- ---- entries

both_modes : (mode : ℕ) → (mode == 160000) ≡ true → (mode == 40000) ≡ true → ⊥
both_modes mode p f =
    let a = eqb-true mode 160000 p in
    let b = eqb-true mode 40000 f in
    absurd (omega (arith, a, b))

one_more : (p f : Bool) → (p ≡ true → f ≡ true → ⊥) → (W : Name → ℕ) (dir cnt : Name) (kids : List Name) (rest n m : ℕ) → m ≡ n + 1 → rest ≤ n + total W kids
    → (1 + cond f (W dir) 0) + rest ≤ m + total W (cons_option (cond p None (cond f (Some dir) (Some cnt))) kids)
one_more true true apart W dir cnt kids rest n m is less = absurd (apart refl refl)
one_more true false apart W dir cnt kids rest n m is less = omega (arith, is, less)
one_more false true apart W dir cnt kids rest n m is less = omega (arith, is, less)
one_more false false apart W dir cnt kids rest n m is less = omega (arith, is, less)

leaf_by : (f : Bool) (w : ℕ) → (f ≡ true → ⊥) → 1 + cond f w 0 ≡ 1
leaf_by true w other = absurd (other refl)
leaf_by false w other = refl

child_by : (e : DirectoryEntry) (kids : List Name) → e.mode ≡ 40000 → Contains (cons_option (child_of e) kids) (directory_name e.id)
child_by e kids folder =
    let is : child_of e ≡ Some (directory_name e.id) = ap (λ (m : ℕ). child_of (record { mode = m; name = e.name; id = e.id })) folder in
    subst (λ (o : Option Name). Contains (cons_option o kids) (directory_name e.id)) (sym is) (first_in (directory_name e.id) kids)

child_later : (o : Option Name) (kids : List Name) (n : Name) → Contains kids n → Contains (cons_option o kids) n
child_later None kids n there = there
child_later (Some k) kids n there = later_in k kids n there

-- a folder is a child
child_in : (entries : List DirectoryEntry) (e : DirectoryEntry) → Contains entries e → e.mode ≡ 40000 → Contains (filter_map child_of entries) (directory_name e.id)
child_in [] e there folder = absurd (none_in e there)
child_in (d ∷ ds) e there folder =
    elim (in_cases d ds e there) [
      | inl same ↦ subst (λ (x : DirectoryEntry). Contains (filter_map child_of (d ∷ ds)) (directory_name x.id)) same (child_by d (filter_map child_of ds) (ap (λ (x : DirectoryEntry). x.mode) same ∙ folder))
      | inr later ↦ child_later (child_of d) (filter_map child_of ds) (directory_name e.id) (child_in ds e later folder)
    ]

-- each entry has a byte
texts_long : (entries : List DirectoryEntry) → length entries ≤ length (flat_map entry_text entries)
texts_long [] = omega arith
texts_long (e ∷ es) =
    let rest = texts_long es in
    let one = length-append (decimal e.mode) (32 ∷ (e.name ++ 0 ∷ e.id)) in
    let both = length-append (entry_text e) (flat_map entry_text es) in
    omega (arith, rest, one, both)

entries_few : (entries : List DirectoryEntry) (body : List ℕ) → body ≡ flat_map entry_text entries → length entries ≤ length body
entries_few entries body is = let l = ap (λ (b : List ℕ). length b) is in let t = texts_long entries in omega (arith, l, t)

same_body : (a b : List ℕ) → Some a ≡ Some b → a ≡ b
same_body a b e = cc

module _ (bodies : Bodies) (children_of : Name → Option (List Name)) where
  -- deeper than its place among names each of whose children stands before it, the weight of a name is the same
  stable : (names : List Name) → ArePreceded children_of names → (depth : ℕ) (before : List Name) (name : Name) (behind : List Name) → names ≡ before ++ name ∷ behind → length before < depth
      → weight bodies children_of (suc depth) name ≡ weight bodies children_of depth name
  stable names preceded zero before name behind cut less = absurd (omega (arith, less))
  stable names preceded (suc depth) before name behind cut less =
      let same : total (weight bodies children_of (suc depth)) (unwrap_or (children_of name) []) ≡ total (weight bodies children_of depth) (unwrap_or (children_of name) []) =
      total_same (weight bodies children_of (suc depth)) (weight bodies children_of depth) (unwrap_or (children_of name) [])
      (λ k there.
      let kid = kid_of (children_of name) k there in
      let c = cut_at before k (preceded before name behind cut k (record { kids = kid.0; held = kid.1; one_of = kid.2 })) in
      let long = ap (λ (l : List Name). length l) c.cut in
      stable names preceded depth c.before k (c.behind ++ name ∷ behind) (cut ∙ ap (λ (l : List Name). l ++ name ∷ behind) c.cut ∙ append_assoc c.before (k ∷ c.behind) (name ∷ behind))
      (omega (arith, less, long, length-append c.before (k ∷ c.behind)))) in
      ap (λ (n : ℕ). 1 + (length (unwrap_or (body_of bodies name) []) + n)) same

  -- the entries weigh no more than their number and their children
  entries_weight : (depth : ℕ) (es : List DirectoryEntry) → total (entry_weight bodies children_of depth) es ≤ length es + total (weight bodies children_of depth) (filter_map child_of es)
  entries_weight depth [] = omega arith
  entries_weight depth (e ∷ es) =
      one_more (e.mode == 160000) (e.mode == 40000) (λ p f. both_modes e.mode p f) (weight bodies children_of depth) (directory_name e.id) (record { kind = Content; id = e.id }) (filter_map child_of es)
      (total (entry_weight bodies children_of depth) es) (length es) (length (e ∷ es)) (omega arith) (entries_weight depth es)

  module _ (graph : IsGraphOf bodies children_of) where
    kids_by : (name : Name) (entries : List DirectoryEntry) → name.kind ≡ Directory → HoldsDirectory bodies name entries → (found : Option (List Name)) → children_of name ≡ found → children_of name ≡ Some (filter_map child_of entries)
    kids_by name entries folder holds None is = let e : Some holds.body ≡ None = sym holds.held ∙ graph.missing name is in cc
    kids_by name entries folder holds (Some kids) is =
        let has = graph.held name kids is in
        let body = same_body has.0 holds.body (sym has.1 ∙ holds.held) in
        let are = subst (λ (kind : Kind). AreChildren kind has.0 kids) folder has.2 in
        let listing = one_listing_lem has.0 are.entries entries are.directory (subst (λ (b : List ℕ). IsDirectory b entries) (sym body) holds.is) in
        is ∙ ap (λ (ns : List Name). Some ns) (are.kids ∙ ap (λ (es : List DirectoryEntry). filter_map child_of es) listing)

    pub kids_are : (id : List ℕ) (entries : List DirectoryEntry) → HoldsDirectory bodies (directory_name id) entries → children_of (directory_name id) ≡ Some (filter_map child_of entries)
    kids_are id entries holds = kids_by (directory_name id) entries refl holds (children_of (directory_name id)) refl

    module _ (order : List Name) (preceded : ArePreceded children_of order) where
      folder_child : (id : List ℕ) (entries : List DirectoryEntry) (e : DirectoryEntry) → HoldsDirectory bodies (directory_name id) entries → Contains entries e → e.mode ≡ 40000 → IsChildIn children_of (directory_name id) (directory_name e.id)
      folder_child id entries e holds there folder =
          record { kids = filter_map child_of entries; held = kids_are id entries holds; one_of = child_in entries e there folder }

      -- what a directory's folders lead to is among the names
      pub leads : (id : List ℕ) (entries : List DirectoryEntry) (e : DirectoryEntry) → Contains order (directory_name id) → HoldsDirectory bodies (directory_name id) entries → Contains entries e → e.mode ≡ 40000 → Contains order (directory_name e.id)
      leads id entries e in_order holds there folder =
          let c = cut_at order (directory_name id) in_order in
          subst (λ (ns : List Name). Contains ns (directory_name e.id)) (sym c.cut)
          (Contains-append_left c.before (directory_name id ∷ c.behind) (directory_name e.id) (preceded c.before (directory_name id) c.behind c.cut (directory_name e.id) (folder_child id entries e holds there folder)))

      -- the entries of a directory weigh less than it does
      lighter_inside : (id : List ℕ) (entries : List DirectoryEntry) → Contains order (directory_name id) → HoldsDirectory bodies (directory_name id) entries
          → total (entry_weight bodies children_of (length order)) entries < weight bodies children_of (length order) (directory_name id)
      lighter_inside id entries in_order holds =
          let name = directory_name id in
          let c = cut_at order name in_order in
          let depth = length c.before + length c.behind in
          let long : length order ≡ suc depth = let l = ap (λ (ns : List Name). length ns) c.cut in omega (arith, l, length-append c.before (name ∷ c.behind)) in
          let kids : unwrap_or (children_of name) [] ≡ filter_map child_of entries = ap (λ (o : Option (List Name)). unwrap_or o []) (kids_are id entries holds) in
          let body : unwrap_or (body_of bodies name) [] ≡ holds.body = ap (λ (o : Option (List ℕ)). unwrap_or o []) holds.held in
          let same : total (weight bodies children_of (suc depth)) (filter_map child_of entries) ≡ total (weight bodies children_of depth) (filter_map child_of entries) =
          total_same (weight bodies children_of (suc depth)) (weight bodies children_of depth) (filter_map child_of entries)
          (λ k there.
          let early = preceded c.before name c.behind c.cut k (record { kids = filter_map child_of entries; held = kids_are id entries holds; one_of = there }) in
          let d = cut_at c.before k early in
          let l = ap (λ (ns : List Name). length ns) d.cut in
          stable order preceded depth d.before k (d.behind ++ name ∷ c.behind) (c.cut ∙ ap (λ (ns : List Name). ns ++ name ∷ c.behind) d.cut ∙ append_assoc d.before (k ∷ d.behind) (name ∷ c.behind))
          (omega (arith, l, length-append d.before (k ∷ d.behind)))) in
          let few = entries_few entries holds.body holds.is.text in
          let light = entries_weight (suc depth) entries in
          let sum : weight bodies children_of (suc depth) name ≡ 1 + (length holds.body + total (weight bodies children_of depth) (filter_map child_of entries)) =
          ap (λ (n : ℕ). 1 + (length (unwrap_or (body_of bodies name) []) + n)) (ap (λ (ns : List Name). total (weight bodies children_of depth) ns) kids)
          ∙ ap (λ (b : List ℕ). 1 + (length b + total (weight bodies children_of depth) (filter_map child_of entries))) body in
          subst (λ (n : ℕ). total (entry_weight bodies children_of n) entries < weight bodies children_of n name) (sym long) (omega (arith, few, light, sum, same))

      -- ---- steps

      -- directories of which nothing is to come weigh nothing
      weight_skip : (depth : ℕ) (front : List ℕ) (entries : List DirectoryEntry) (ls : List Coming) → coming_weight bodies children_of depth (with_entries ls) ≡ coming_weight bodies children_of depth ls
          → coming_weight bodies children_of depth (with_entries (record { front = front; entries = entries } ∷ ls)) ≡ coming_weight bodies children_of depth (record { front = front; entries = entries } ∷ ls)
      weight_skip depth front [] ls rest = omega (arith, rest)
      weight_skip depth front (e ∷ es) ls rest = refl

      weight_all : (depth : ℕ) (ls : List Coming) → coming_weight bodies children_of depth (with_entries ls) ≡ coming_weight bodies children_of depth ls
      weight_all depth [] = refl
      weight_all depth (l ∷ ls) = weight_skip depth l.front l.entries ls (weight_all depth ls)

      lead_skip : (front : List ℕ) (entries : List DirectoryEntry) (ls : List Coming) → ((l : Coming) → Contains (with_entries ls) l → Contains ls l)
          → (l : Coming) → Contains (with_entries (record { front = front; entries = entries } ∷ ls)) l → Contains (record { front = front; entries = entries } ∷ ls) l
      lead_skip front [] ls rest l there = later_in (record { front = front; entries = [] }) ls l (rest l there)
      lead_skip front (e ∷ es) ls rest l there = there

      lead_all : (ls : List Coming) (l : Coming) → Contains (with_entries ls) l → Contains ls l
      lead_all [] l there = there
      lead_all (m ∷ ls) l there = lead_skip m.front m.entries ls (lead_all ls) l there

      one_level : (front : List ℕ) (entries : List DirectoryEntry) (ls : List Coming) → ((e : DirectoryEntry) → Contains entries e → e.mode ≡ 40000 → Contains order (directory_name e.id)) → LeadInto order ls
          → LeadInto order (record { front = front; entries = entries } ∷ ls)
      one_level front entries ls all rest l e there is folder =
          elim (in_cases (record { front = front; entries = entries }) ls l there) [
            | inl same ↦ all e (subst (λ (c : Coming). Contains c.entries e) (sym same) is) folder
            | inr later ↦ rest l e later is folder
          ]

      no_level : LeadInto order []
      no_level l e there is folder = absurd (none_in l there)

      pub lead_at_first : (id : List ℕ) (new : Standing) → BeginsAt bodies (directory_name id) new → Contains order (directory_name id) → LeadInto order new.levels
      lead_at_first id new b there =
          subst (LeadInto order) (sym b.levels) (one_level [] b.entries [] (λ e is folder. leads id b.entries e there b.holds is folder) no_level)

      leaf_weight : (mode w : ℕ) → (mode ≡ 40000 → ⊥) → 1 + cond (mode == 40000) w 0 ≡ 1
      leaf_weight mode w other = leaf_by (mode == 40000) w (λ is. other (eqb-true mode 40000 is))

      folder_at : (mode w : ℕ) → mode ≡ 40000 → 1 + cond (mode == 40000) w 0 ≡ 1 + w
      folder_at mode w is = ap (λ (m : ℕ). 1 + cond (m == 40000) w 0) is

      -- what is to come behind an entry weighs less than with it
      step_by : (e : DirectoryEntry) (path front : List ℕ) (rest : List DirectoryEntry) (inside below : List Coming) → ComesInside bodies e path inside → LeadInto order (record { front = front; entries = e ∷ rest } ∷ below)
          → (coming_weight bodies children_of (length order) (inside ++ record { front = front; entries = rest } ∷ below) < coming_weight bodies children_of (length order) (record { front = front; entries = e ∷ rest } ∷ below))
          × LeadInto order (inside ++ record { front = front; entries = rest } ∷ below)
      step_by e path front rest inside below (inl (other, none)) lead =
          let one = leaf_weight e.mode (weight bodies children_of (length order) (directory_name e.id)) other in (
            subst (λ (ls : List Coming). coming_weight bodies children_of (length order) (ls ++ record { front = front; entries = rest } ∷ below) < coming_weight bodies children_of (length order) (record { front = front; entries = e ∷ rest } ∷ below)) (sym none)
                (omega (arith, one)),
            subst (λ (ls : List Coming). LeadInto order (ls ++ record { front = front; entries = rest } ∷ below)) (sym none)
                (one_level front rest below (λ d is folder. lead (record { front = front; entries = e ∷ rest }) d (first_in (record { front = front; entries = e ∷ rest }) below) (later_in e rest d is) folder)
                (λ l d there is folder. lead l d (later_in (record { front = front; entries = e ∷ rest }) below l there) is folder)),
          )
      step_by e path front rest inside below (inr (entries, folder, holds, one)) lead =
          let there = lead (record { front = front; entries = e ∷ rest }) e (first_in (record { front = front; entries = e ∷ rest }) below) (first_in e rest) folder in
          let inner = lighter_inside e.id entries there holds in
          let w = folder_at e.mode (weight bodies children_of (length order) (directory_name e.id)) folder in (
            subst (λ (ls : List Coming). coming_weight bodies children_of (length order) (ls ++ record { front = front; entries = rest } ∷ below) < coming_weight bodies children_of (length order) (record { front = front; entries = e ∷ rest } ∷ below)) (sym one)
                (omega (arith, inner, w)),
            subst (λ (ls : List Coming). LeadInto order (ls ++ record { front = front; entries = rest } ∷ below)) (sym one)
                (one_level (path ++ 47 ∷ []) entries (record { front = front; entries = rest } ∷ below) (λ d is folds. leads e.id entries d there holds is folds)
                (one_level front rest below (λ d is folds. lead (record { front = front; entries = e ∷ rest }) d (first_in (record { front = front; entries = e ∷ rest }) below) (later_in e rest d is) folds)
                (λ l d at is folds. lead l d (later_in (record { front = front; entries = e ∷ rest }) below l at) is folds))),
          )

      pub lighter : (old new : Standing) (e : SpelledEntry) → LeadInto order old.levels → Steps bodies old (Some e) new
          → (coming_weight bodies children_of (length order) new.levels < coming_weight bodies children_of (length order) old.levels) × LeadInto order new.levels
      lighter old new e lead s =
          let at_next : LeadInto order (record { front = s.front; entries = entry_of e ∷ s.rest } ∷ s.below) =
          subst (LeadInto order) s.next (λ l d there is folder. lead l d (lead_all old.levels l there) is folder) in
          let both = step_by (entry_of e) new.path s.front s.rest s.inside s.below s.comes at_next in
          let was : coming_weight bodies children_of (length order) (record { front = s.front; entries = entry_of e ∷ s.rest } ∷ s.below) ≡ coming_weight bodies children_of (length order) old.levels =
          sym (ap (λ (ls : List Coming). coming_weight bodies children_of (length order) ls) s.next) ∙ weight_all (length order) old.levels in
          let now = ap (λ (ls : List Coming). coming_weight bodies children_of (length order) ls) s.levels in
          let less = both.0 in
          (omega (arith, less, was, now), subst (LeadInto order) (sym s.levels) both.1)
