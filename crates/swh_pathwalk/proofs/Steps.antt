-- What a step gives, and what remains of the walk before it and after it.
use Rattle.std.proofs.Common.{◌≡◌, inl, inr, ℕ, Some, None, List, [], ◌∷◌, ◌++◌, refl, sym, ap, ◌∙◌, subst, append_assoc}
use Rattle.std.proofs.lemmas.List.{append-nil}
use Rattle.swh_base.specs.declared.name.Name.{Name}
use Rattle.swh_base.specs.Directory.{DirectoryEntry, IsDirectory}
use Rattle.swh_base.proofs.DirectoryLemmas.{one_listing_lem}
use Rattle.swh_base.proofs.Elementary.{same_body}
use Rattle.swh_dirfmt.specs.declared.entry.SpelledEntry.{SpelledEntry}
use Rattle.swh_dirfmt.specs.Entries.{entry_of}
use Rattle.swh_model.specs.Archive.{Bodies}
use Rattle.swh_graph.specs.Holding.{HoldsDirectory}
use Rattle.swh_graph.specs.Path.{directory_name}
use Rattle.swh_pathwalk.specs.Tree.{entries_in, End, Leaf, Folder, Row, row_at, path_walk, IsPathWalk}
use Rattle.swh_pathwalk.specs.Walk.{Coming, Standing, with_entries, IsEntered, BeginsAt, ComesNext, ComesInside, GivesNext, Steps, Remain, row_of}

pub no_entry : (e : DirectoryEntry) (es : List DirectoryEntry) → e ∷ es ≡ [] → ⊥
no_entry e es is = cc

pub head_entry : (d e : DirectoryEntry) (ds es : List DirectoryEntry) → d ∷ ds ≡ e ∷ es → d ≡ e
head_entry d e ds es is = cc

pub tail_entries : (d e : DirectoryEntry) (ds es : List DirectoryEntry) → d ∷ ds ≡ e ∷ es → ds ≡ es
tail_entries d e ds es is = cc

module _ (bodies : Bodies) where
  pub gives_leaf : (old mid : Standing) (e : DirectoryEntry) → ComesNext old e mid → (e.mode ≡ 40000 → ⊥) → GivesNext bodies old e mid
  gives_leaf old mid e c other = record { front = c.front; rest = c.rest; below = c.below; inside = []; next = c.next; path = c.path; comes = inl (other, refl); levels = c.levels }

  pub gives_folder : (old mid new : Standing) (e : DirectoryEntry) → ComesNext old e mid → e.mode ≡ 40000 → IsEntered bodies (directory_name e.id) mid new → GivesNext bodies old e new
  gives_folder old mid new e c folder entered = record {
    front = c.front;
    rest = c.rest;
    below = c.below;
    inside = record { front = new.path ++ 47 ∷ []; entries = entered.entries } ∷ [];
    next = c.next;
    path = entered.path ∙ c.path;
    comes = inr (entered.entries, folder, entered.holds, refl);
    levels =
        entered.levels
        ∙ ap (λ (path : List ℕ). let l : Coming = record { front = path ++ 47 ∷ []; entries = entered.entries } in l ∷ mid.levels) (sym entered.path)
        ∙ ap (λ (ls : List Coming). let l : Coming = record { front = new.path ++ 47 ∷ []; entries = entered.entries } in l ∷ ls) c.levels;
  }

  -- ---- what remains

  -- directories of which nothing is to come change nothing
  unskip : (front : List ℕ) (entries : List DirectoryEntry) (ls : List Coming) (rows : List Row) → (Remain bodies (with_entries ls) rows → Remain bodies ls rows)
      → Remain bodies (with_entries (record { front = front; entries = entries } ∷ ls)) rows → Remain bodies (record { front = front; entries = entries } ∷ ls) rows
  unskip front [] ls rows below r = (End, rows, refl, tt, below r, refl)
  unskip front (e ∷ es) ls rows below r = r

  remain_all : (ls : List Coming) (rows : List Row) → Remain bodies (with_entries ls) rows → Remain bodies ls rows
  remain_all [] rows r = r
  remain_all (l ∷ ls) rows r = unskip l.front l.entries ls rows (remain_all ls rows) r

  only_level : (directory : Name) (entries : List DirectoryEntry) (rows : List Row) → HoldsDirectory bodies directory entries → Remain bodies (record { front = []; entries = entries } ∷ []) rows → IsPathWalk bodies directory rows
  only_level directory entries rows holds (tree, more, are, held, none, is) = record {
    tree = tree;
    is = record { top = subst (HoldsDirectory bodies directory) (sym are) holds; under = held };
    rows_are = is ∙ ap (λ (m : List Row). path_walk [] tree ++ m) none ∙ append-nil (path_walk [] tree);
  }

  pub begins : (directory : Name) (new : Standing) (rows : List Row) → BeginsAt bodies directory new → Remain bodies new.levels rows → IsPathWalk bodies directory rows
  begins directory new rows b r =
      only_level directory b.entries rows b.holds (subst (λ (ls : List Coming). Remain bodies ls rows) b.levels r)

  same_row : (path front : List ℕ) (e : DirectoryEntry) → path ≡ front ++ e.name → (let r : Row = record { path = path; entry = e } in r) ≡ row_at front e
  same_row path front e is = ap (λ (p : List ℕ). let r : Row = record { path = p; entry = e } in r) is

  leaf_row : (e : DirectoryEntry) (path front : List ℕ) (rest : List DirectoryEntry) (below : List Coming) (rows : List Row) → (e.mode ≡ 40000 → ⊥) → path ≡ front ++ e.name
      → Remain bodies (record { front = front; entries = rest } ∷ below) rows → Remain bodies (record { front = front; entries = e ∷ rest } ∷ below) (record { path = path; entry = e } ∷ rows)
  leaf_row e path front rest below rows other is (tree, more, are, held, under, rows_are) =
      (Leaf e tree, more, ap (λ (es : List DirectoryEntry). e ∷ es) are, (other, held), under, let row = same_row path front e is in cc)

  folder_row : (e : DirectoryEntry) (path front : List ℕ) (rest entries : List DirectoryEntry) (below : List Coming) (rows : List Row) → e.mode ≡ 40000 → HoldsDirectory bodies (directory_name e.id) entries → path ≡ front ++ e.name
      → Remain bodies (record { front = path ++ 47 ∷ []; entries = entries } ∷ record { front = front; entries = rest } ∷ below) rows
      → Remain bodies (record { front = front; entries = e ∷ rest } ∷ below) (record { path = path; entry = e } ∷ rows)
  folder_row e path front rest entries below rows folder holds is (inner, others, inner_are, inner_held, (tree, more, are, held, under, others_are), rows_are) = (
    Folder e inner tree,
    more,
    ap (λ (es : List DirectoryEntry). e ∷ es) are,
    (folder, subst (HoldsDirectory bodies (directory_name e.id)) (sym inner_are) holds, inner_held, held),
    under,
    let row = same_row path front e is in
        let inside = ap (λ (p : List ℕ). path_walk (p ++ 47 ∷ []) inner) is in
        let all : rows ≡ path_walk ((front ++ e.name) ++ 47 ∷ []) inner ++ (path_walk front tree ++ more) =
        rows_are ∙ ap (λ (x : List Row). path_walk (path ++ 47 ∷ []) inner ++ x) others_are ∙ ap (λ (x : List Row). x ++ (path_walk front tree ++ more)) inside in
        let joined = append_assoc (path_walk ((front ++ e.name) ++ 47 ∷ []) inner) (path_walk front tree) more in
        let total : rows ≡ (path_walk ((front ++ e.name) ++ 47 ∷ []) inner ++ path_walk front tree) ++ more = all ∙ sym joined in
        cc (row, total),
  )

  row_by : (e : DirectoryEntry) (path front : List ℕ) (rest : List DirectoryEntry) (inside below : List Coming) (rows : List Row) → ComesInside bodies e path inside → path ≡ front ++ e.name
      → Remain bodies (inside ++ record { front = front; entries = rest } ∷ below) rows → Remain bodies (record { front = front; entries = e ∷ rest } ∷ below) (record { path = path; entry = e } ∷ rows)
  row_by e path front rest inside below rows (inl (other, none)) is r =
      leaf_row e path front rest below rows other is (subst (λ (ls : List Coming). Remain bodies (ls ++ record { front = front; entries = rest } ∷ below) rows) none r)
  row_by e path front rest inside below rows (inr (entries, folder, holds, one)) is r =
      folder_row e path front rest entries below rows folder holds is (subst (λ (ls : List Coming). Remain bodies (ls ++ record { front = front; entries = rest } ∷ below) rows) one r)

  pub goes_on : (old new : Standing) (e : SpelledEntry) (rows : List Row) → Steps bodies old (Some e) new → Remain bodies new.levels rows → Remain bodies old.levels (row_of new e ∷ rows)
  goes_on old new e rows s r =
      remain_all old.levels (row_of new e ∷ rows)
      (subst (λ (ls : List Coming). Remain bodies ls (row_of new e ∷ rows)) (sym s.next)
      (row_by (entry_of e) new.path s.front s.rest s.inside s.below rows s.comes s.path (subst (λ (ls : List Coming). Remain bodies ls rows) s.levels r)))

  pub ends : (old new : Standing) → Steps bodies old None new → Remain bodies old.levels []
  ends old new s = remain_all old.levels [] (subst (λ (ls : List Coming). Remain bodies ls []) (sym s) refl)

  -- ---- the other way: what a walk over paths gives at each step

  same_listing : (name : Name) (es fs : List DirectoryEntry) → HoldsDirectory bodies name es → HoldsDirectory bodies name fs → es ≡ fs
  same_listing name es fs a b =
      one_listing_lem a.body es fs a.is (subst (λ (body : List ℕ). IsDirectory body fs) (same_body b.body a.body (sym b.held ∙ a.held)) b.is)

  pub remain_at_first : (directory : Name) (new : Standing) (rows : List Row) → BeginsAt bodies directory new → IsPathWalk bodies directory rows → Remain bodies new.levels rows
  remain_at_first directory new rows b w =
      subst (λ (ls : List Coming). Remain bodies ls rows) (sym b.levels)
      (w.tree, [], same_listing directory (entries_in w.tree) b.entries w.is.top b.holds, w.is.under, refl, w.rows_are ∙ sym (append-nil (path_walk [] w.tree)))

  skip_back : (front : List ℕ) (entries : List DirectoryEntry) (ls : List Coming) (rows : List Row) → (Remain bodies ls rows → Remain bodies (with_entries ls) rows)
      → Remain bodies (record { front = front; entries = entries } ∷ ls) rows → Remain bodies (with_entries (record { front = front; entries = entries } ∷ ls)) rows
  skip_back front [] ls rows below (End, more, are, held, under, is) = below (subst (Remain bodies ls) (sym is) under)
  skip_back front [] ls rows below (Leaf e rest, more, are, held, under, is) = absurd (no_entry e (entries_in rest) are)
  skip_back front [] ls rows below (Folder e inner rest, more, are, held, under, is) = absurd (no_entry e (entries_in rest) are)
  skip_back front (e ∷ es) ls rows below r = r

  remain_with : (ls : List Coming) (rows : List Row) → Remain bodies ls rows → Remain bodies (with_entries ls) rows
  remain_with [] rows r = r
  remain_with (l ∷ ls) rows r = skip_back l.front l.entries ls rows (remain_with ls rows) r

  -- the entry is the first of what remains, and the rest remains behind it
  pub record Follows (e : DirectoryEntry) (path : List ℕ) (levels : List Coming) (rows : List Row) : Type 0 where
    pub rest : List Row
    pub cut : rows ≡ record { path = path; entry = e } ∷ rest
    pub remain : Remain bodies levels rest

  row_back : (e : DirectoryEntry) (path front : List ℕ) (rest : List DirectoryEntry) (inside below : List Coming) (rows : List Row) → ComesInside bodies e path inside → path ≡ front ++ e.name
      → Remain bodies (record { front = front; entries = e ∷ rest } ∷ below) rows → Follows e path (inside ++ record { front = front; entries = rest } ∷ below) rows
  row_back e path front rest inside below rows comes is (End, more, are, held, under, rows_are) = absurd (no_entry e rest (sym are))
  row_back e path front rest inside below rows (inl (other, none)) is (Leaf d tree, more, are, (leaf, held), under, rows_are) =
      let same = head_entry d e (entries_in tree) rest are in
      record {
        rest = path_walk front tree ++ more;
        cut = rows_are ∙ ap (λ (r : Row). r ∷ (path_walk front tree ++ more)) (ap (row_at front) same ∙ sym (same_row path front e is));
        remain = subst (λ (ls : List Coming). Remain bodies (ls ++ record { front = front; entries = rest } ∷ below) (path_walk front tree ++ more)) (sym none) (tree, more, tail_entries d e (entries_in tree) rest are, held, under, refl);
      }
  row_back e path front rest inside below rows (inl (other, none)) is (Folder d inner tree, more, are, (folder, holds, inner_held, held), under, rows_are) =
      absurd (other (sym (ap (λ (x : DirectoryEntry). x.mode) (head_entry d e (entries_in tree) rest are)) ∙ folder))
  row_back e path front rest inside below rows (inr (entries, folds, holds, one)) is (Leaf d tree, more, are, (leaf, held), under, rows_are) =
      absurd (leaf (ap (λ (x : DirectoryEntry). x.mode) (head_entry d e (entries_in tree) rest are) ∙ folds))
  row_back e path front rest inside below rows (inr (entries, folds, holds, one)) is (Folder d inner tree, more, are, (folder, its, inner_held, held), under, rows_are) =
      let same = head_entry d e (entries_in tree) rest are in
      let listing = same_listing (directory_name d.id) (entries_in inner) entries its (subst (λ (x : DirectoryEntry). HoldsDirectory bodies (directory_name x.id) entries) (sym same) holds) in
      let at = sym is in
      let inside_is : path_walk ((front ++ d.name) ++ 47 ∷ []) inner ≡ path_walk (path ++ 47 ∷ []) inner = ap (λ (p : List ℕ). path_walk (p ++ 47 ∷ []) inner) (ap (λ (x : DirectoryEntry). front ++ x.name) same ∙ at) in
      record {
        rest = path_walk (path ++ 47 ∷ []) inner ++ (path_walk front tree ++ more);
        cut =
            rows_are
            ∙ ap (λ (r : Row). r ∷ ((path_walk ((front ++ d.name) ++ 47 ∷ []) inner ++ path_walk front tree) ++ more)) (ap (row_at front) same ∙ sym (same_row path front e is))
            ∙ ap (λ (rs : List Row). let r : Row = record { path = path; entry = e } in r ∷ rs)
            (append_assoc (path_walk ((front ++ d.name) ++ 47 ∷ []) inner) (path_walk front tree) more ∙ ap (λ (rs : List Row). rs ++ (path_walk front tree ++ more)) inside_is);
        remain =
            subst (λ (ls : List Coming). Remain bodies (ls ++ record { front = front; entries = rest } ∷ below) (path_walk (path ++ 47 ∷ []) inner ++ (path_walk front tree ++ more))) (sym one)
            (inner, path_walk front tree ++ more, listing, inner_held, (tree, more, tail_entries d e (entries_in tree) rest are, held, under, refl), refl);
      }

  pub remain_step : (old new : Standing) (e : SpelledEntry) (rows : List Row) → Steps bodies old (Some e) new → Remain bodies old.levels rows → Follows (entry_of e) new.path new.levels rows
  remain_step old new e rows s r =
      let f = row_back (entry_of e) new.path s.front s.rest s.inside s.below rows s.comes s.path (subst (λ (ls : List Coming). Remain bodies ls rows) s.next (remain_with old.levels rows r)) in
      record { rest = f.rest; cut = f.cut; remain = subst (λ (ls : List Coming). Remain bodies ls f.rest) (sym s.levels) f.remain }

  pub remain_ends : (old new : Standing) (rows : List Row) → Steps bodies old None new → Remain bodies old.levels rows → rows ≡ []
  remain_ends old new rows s r = subst (λ (ls : List Coming). Remain bodies ls rows) s (remain_with old.levels rows r)
