use Rattle.std.proofs.Common.{◌≡◌, ◌≤◌, ℕ, List, length, refl, inl, sym, ap, ◌∙◌, subst, arith, rules}
use Rattle.swh_base.specs.Directory.{DirectoryEntry}
use Rattle.swh_dedup.specs.Making.{made, names_of_made}
use Rattle.swh_dirfmt.specs.Entries.{entry_views}
use Rattle.swh_dirmade.specs.Building.{list_views, list_at, Builds}
use Rattle.swh_dirmade.specs.Making.{GivesDirectory}
use Rattle.swh_dirmade.proofs.Built.{none_built, may_be_next, last_list}
use Rattle.swh_dirmade.proofs.Directories.{root_gives, root_object}
use Rattle.swh_dirmade.proofs.Lists.{list_length, long_of, views_of}
use Rattle.swh_dirmade.proofs.naming.name_directories.Goals as goal

pub up-init : goal.up-init
up-init g c =
    let lists = c.in_ok-lists.lists.items in
    let count = c.in_ok-lists.ensures.count in
    let l = list_length lists in
    record {
      count = omega (arith, count);
      built = λ old held. (old, subst (λ (k : ℕ). Builds g.N.Namer.id_of c.args.spots.now c.args.standing.now k (list_views lists) old old) l (none_built g.N.Namer.id_of c.args.spots.now c.args.standing.now c.requires.table (list_views lists) old (l ∙ count) c.in_ok-lists.ensures.none));
    }

pub name_next-requires-clause-built : goal.name_next-requires-clause-built
name_next-requires-clause-built g c κs within =
    let h = c.requires.held in
    let b = c.up.invariant.built h.0 h.1 in
    (h.0, b.0, h.1, b.1)

pub up-preserved : goal.up-preserved
up-preserved g c =
    let count = c.up.invariant.count in
    let less = c.in_ok-name_next.ensures.less in
    record {
      count = omega (arith, count, less);
      built = λ old held.
          let b = c.up.invariant.built old held in
          c.in_ok-name_next.ensures.built old b.0 held b.1;
    }

pub name_directory-requires-after_bounds : goal.name_directory-requires-after_bounds
name_directory-requires-after_bounds g c κs within =
    let id = g.N.Namer.id_of in
    let old = c.up.lists.items in
    let front = c.pop.new.self.items in
    let cut = rw c.in-Some.is at c.pop.ensures.items in
    let long = long_of old front c.in-Some.root cut in
    let lo = list_length old in
    let lf = list_length front in
    let count = c.up.invariant.count in
    let done : length c.args.spots.now ≤ c.up._turn = search rules in
    let one : length old ≡ 1 = omega (arith, count, done, long) in
    let h = c.requires.held in
    let b = c.up.invariant.built h.0 h.1 in
    let may = may_be_next id c.args.spots.now c.args.standing.now c.requires.table (names_of_made id (made h.0)) 0 (list_views old) (list_views front) (entry_views c.in-Some.root.items) h.0 b.0 h.1 c.requires.count c.requires.short (omega (arith, lo, one)) (subst (λ (k : ℕ). Builds id c.args.spots.now c.args.standing.now k (list_views old) h.0 b.0) (sym lo) b.1) (views_of old front c.in-Some.root cut) (omega (arith, lf, long, one)) (inl refl) in
    (names_of_made id (made b.0), may)

pub returns-clause-gives : goal.returns-clause-gives
returns-clause-gives g c = λ before places held stand folder.
    let id = g.N.Namer.id_of in
    let old = c.up.lists.items in
    let front = c.pop.new.self.items in
    let cut = rw c.in-Some.is at c.pop.ensures.items in
    let long = long_of old front c.in-Some.root cut in
    let lf = list_length front in
    let count = c.up.invariant.count in
    let done : length c.args.spots.now ≤ c.up._turn = search rules in
    let one : length old ≡ 1 = omega (arith, count, done, long) in
    let here : list_at (list_views old) 0 ≡ entry_views c.in-Some.root.items = ap (λ (ls : List (List DirectoryEntry)). list_at ls 0) (views_of old front c.in-Some.root cut) ∙ last_list id c.args.spots.now c.args.standing.now c.requires.table (list_views front) (entry_views c.in-Some.root.items) 0 (omega (arith, lf, long, one)) in
    let b = c.up.invariant.built before held in
    let gives = c.in_ok-id.ensures b.0 in
    let all = root_gives id c.args.spots.now c.args.standing.now c.requires.table places stand (list_views old) before b.0 gives.0 gives.1 c.in_ok-id.id (subst (λ (k : ℕ). Builds id c.args.spots.now c.args.standing.now k (list_views old) before b.0) one b.1) folder (subst (λ (l : List DirectoryEntry). GivesDirectory id b.0 l gives.0 gives.1 c.in_ok-id.id) (sym here) gives.2) in
    (gives.0, all)

pub returns-clause-object : goal.returns-clause-object
returns-clause-object g c =
    let h = c.requires.held in
    let b = c.up.invariant.built h.0 h.1 in
    let gives = c.in_ok-id.ensures b.0 in
    root_object g.N.Namer.id_of b.0 gives.0 (entry_views c.in-Some.root.items) gives.1 c.in_ok-id.id gives.2
