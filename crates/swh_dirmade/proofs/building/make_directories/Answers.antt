use Rattle.std.proofs.Common.{◌≡◌, ◌≤◌, ℕ, List, length, refl, inl, sym, ap, ◌∙◌, subst, arith, rules}
use Rattle.swh_base.specs.Directory.{DirectoryEntry}
use Rattle.swh_dedup.specs.Making.{made, names_of_made}
use Rattle.swh_dirfmt.specs.Entries.{entry_views}
use Rattle.swh_dirmade.specs.Building.{list_views, list_at, Builds}
use Rattle.swh_dirmade.specs.Making.{GivesDirectory}
use Rattle.swh_dirmade.proofs.Built.{none_built, may_be_next, last_list}
use Rattle.swh_dirmade.proofs.Directories.{root_gives, root_named}
use Rattle.swh_dirmade.proofs.Lists.{list_length, long_of, views_of}
use Rattle.swh_dirmade.proofs.building.make_directories.Goals as goal

pub up-init : goal.up-init
up-init g c =
    let lists = c.in_ok-lists.lists.items in
    let count = c.in_ok-lists.ensures.count in
    let l = list_length lists in
    record {
      count = omega (arith, count);
      built = subst (λ (k : ℕ). Builds g.N.Namer.id_of c.args.spots.now c.args.standing.now k (list_views lists) c.args.given.now c.args.given.now) l (none_built g.N.Namer.id_of c.args.spots.now c.args.standing.now c.requires.table (list_views lists) c.args.given.now (l ∙ count) c.in_ok-lists.ensures.none);
    }

pub make_directory-requires-after_bounds : goal.make_directory-requires-after_bounds
make_directory-requires-after_bounds g c κs within =
    let id = g.N.Namer.id_of in
    let old = c.up.lists.items in
    let front = c.pop.new.self.items in
    let cut = rw c.in-Some.is at c.pop.ensures.items in
    let long = long_of old front c.in-Some.root cut in
    let lo = list_length old in
    let lf = list_length front in
    let count = c.up.invariant.count in
    let done : length c.args.spots.now ≤ c.up._turn = search rules in
    let one : length old ≡ 1 = omega (arith, count, done, long) in
    may_be_next id c.args.spots.now c.args.standing.now c.requires.table (names_of_made id (made c.args.given.now)) 0 (list_views old) (list_views front) (entry_views c.in-Some.root.items) c.args.given.now c.up.given c.requires.held c.requires.count c.requires.short (omega (arith, lo, one))
    (subst (λ (k : ℕ). Builds id c.args.spots.now c.args.standing.now k (list_views old) c.args.given.now c.up.given) (sym lo) c.up.invariant.built)
    (views_of old front c.in-Some.root cut) (omega (arith, lf, long, one)) (inl refl)

pub returns-clause-gives : goal.returns-clause-gives
returns-clause-gives g c = λ places stand folder.
    let id = g.N.Namer.id_of in
    let old = c.up.lists.items in
    let front = c.pop.new.self.items in
    let cut = rw c.in-Some.is at c.pop.ensures.items in
    let long = long_of old front c.in-Some.root cut in
    let lf = list_length front in
    let count = c.up.invariant.count in
    let done : length c.args.spots.now ≤ c.up._turn = search rules in
    let one : length old ≡ 1 = omega (arith, count, done, long) in
    let here : list_at (list_views old) 0 ≡ entry_views c.in-Some.root.items = ap (λ (ls : List (List DirectoryEntry)). list_at ls 0) (views_of old front c.in-Some.root cut) ∙ last_list id c.args.spots.now c.args.standing.now c.requires.table (list_views front) (entry_views c.in-Some.root.items) 0 (omega (arith, lf, long, one)) in
    let gives = c.in_ok-id.ensures in
    root_gives id c.args.spots.now c.args.standing.now c.requires.table places stand (list_views old) c.args.given.now c.up.given c.make_directory.new.given gives.0 c.in_ok-id.id
    (subst (λ (k : ℕ). Builds id c.args.spots.now c.args.standing.now k (list_views old) c.args.given.now c.up.given) one c.up.invariant.built) folder
    (subst (λ (l : List DirectoryEntry). GivesDirectory id c.up.given l c.make_directory.new.given gives.0 c.in_ok-id.id) (sym here) gives.1)

pub returns-clause-root : goal.returns-clause-root
returns-clause-root g c =
    let gives = c.in_ok-id.ensures in
    root_named g.N.Namer.id_of c.up.given c.make_directory.new.given (entry_views c.in-Some.root.items) gives.0 c.in_ok-id.id gives.1
