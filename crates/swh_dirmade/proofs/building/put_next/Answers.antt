use Rattle.std.proofs.Common.{◌≡◌, ◌<◌, ℕ, [], length, get_or, inr, sym, ◌∙◌, subst, arith}
use Rattle.swh_dedup.specs.Making.{made, names_of_made}
use Rattle.swh_dirfmt.specs.Entries.{entry_view, entry_views}
use Rattle.swh_dirmade.specs.declared.member.Member.TheVariants as stands
use Rattle.swh_dirmade.specs.Building.{list_views, Builds}
use Rattle.swh_dirmade.specs.Spots.{place_at}
use Rattle.swh_dirmade.proofs.Built.{held_now, may_be_next, put_built}
use Rattle.swh_dirmade.proofs.Lengths.{get_any}
use Rattle.swh_dirmade.proofs.Lists.{list_length, long_of, views_of}
use Rattle.swh_dirmade.proofs.Numbers.{spot_at}
use Rattle.swh_dirmade.proofs.building.put_next.Goals as goal

pub make_entry-requires-clause-named : goal.make_entry-requires-clause-named
make_entry-requires-clause-named g c κs within =
    let long = long_of c.args.lists.now.items c.pop.new.self.items c.in-Some.list (rw c.in-Some.is at c.pop.ensures.items) in
    let more = c.requires.more in
    let b = c.requires.built.2.are.within in
    let n : c.len-number.result ≡ length c.pop.new.self.items = c.len-number.ensures ∙ c.pop.new.self.ok.0 in
    (spot_at c.args.spots.now c.len-number.result c.index-spots-number.result c.requires.table (omega (arith, n, long, more)) (omega (arith, n, long, b)) c.index-spots-number.is).named

pub make_entry-requires-clause-held : goal.make_entry-requires-clause-held
make_entry-requires-clause-held g c κs within =
    let long = long_of c.args.lists.now.items c.pop.new.self.items c.in-Some.list (rw c.in-Some.is at c.pop.ensures.items) in
    let b = c.requires.built.2.are.within in
    let n : c.len-number.result ≡ length c.pop.new.self.items = c.len-number.ensures ∙ c.pop.new.self.ok.0 in
    let count = c.requires.count in
    held_now g.N.Namer.id_of c.args.spots.now c.args.places.now c.requires.table (length c.args.lists.now.items) (list_views c.args.lists.now.items) c.requires.built.0 c.args.given.now c.len-number.result (stands.File 0 []) c.requires.built.1 c.requires.built.2 (omega (arith, n, long, b, count))

pub make_entry-requires-clause-list : goal.make_entry-requires-clause-list
make_entry-requires-clause-list g c κs within = λ folder.
    let old = c.args.lists.now.items in
    let front = c.pop.new.self.items in
    let cut = rw c.in-Some.is at c.pop.ensures.items in
    let long = long_of old front c.in-Some.list cut in
    let b = c.requires.built.2.are.within in
    let n : c.len-number.result ≡ length front = c.len-number.ensures ∙ c.pop.new.self.ok.0 in
    let count = c.requires.count in
    let lo = list_length old in
    let lf = list_length front in
    let lt : c.len-number.result < length c.args.places.now = omega (arith, n, long, b, count) in
    let here : place_at c.args.places.now c.len-number.result ≡ stands.Folder = get_any c.args.places.now c.len-number.result stands.Folder (stands.File 0 []) lt ∙ folder in
    may_be_next g.N.Namer.id_of c.args.spots.now c.args.places.now c.requires.table (names_of_made g.N.Namer.id_of (made c.requires.built.0)) c.len-number.result (list_views old) (list_views front) (entry_views c.in-Some.list.items) c.requires.built.0 c.args.given.now c.requires.built.1 count c.requires.short (omega (arith, lo, long, n))
    (subst (λ (k : ℕ). Builds g.N.Namer.id_of c.args.spots.now c.args.places.now k (list_views old) c.requires.built.0 c.args.given.now) (sym lo) c.requires.built.2)
    (views_of old front c.in-Some.list cut) (omega (arith, lf, n)) (inr here)

pub put_entry-requires : goal.put_entry-requires
put_entry-requires g c =
    let long = long_of c.args.lists.now.items c.pop.new.self.items c.in-Some.list (rw c.in-Some.is at c.pop.ensures.items) in
    let more = c.requires.more in
    let b = c.requires.built.2.are.within in
    let n : c.len-number.result ≡ length c.pop.new.self.items = c.len-number.ensures ∙ c.pop.new.self.ok.0 in
    let down = (spot_at c.args.spots.now c.len-number.result c.index-spots-number.result c.requires.table (omega (arith, n, long, more)) (omega (arith, n, long, b)) c.index-spots-number.is).down in
    omega (arith, down, n)

pub returns-clause-built : goal.returns-clause-built
returns-clause-built g c = λ first built.
    let id = g.N.Namer.id_of in
    let spots = c.args.spots.now in
    let places = c.args.places.now in
    let old = c.args.lists.now.items in
    let front = c.pop.new.self.items in
    let cut = rw c.in-Some.is at c.pop.ensures.items in
    let long = long_of old front c.in-Some.list cut in
    let more = c.requires.more in
    let b = c.requires.built.2.are.within in
    let n : c.len-number.result ≡ length front = c.len-number.ensures ∙ c.pop.new.self.ok.0 in
    let count = c.requires.count in
    let m = c.len-number.result in
    let lo = list_length old in
    let lf = list_length front in
    let ll = list_length c.put_entry.new.lists.items in
    let kept = c.in_ok-put_entry.ensures.count in
    let lt : m < length places = omega (arith, n, long, b, count) in
    let at = spot_at spots m c.index-spots-number.result c.requires.table (omega (arith, n, long, more)) (omega (arith, n, long, b)) c.index-spots-number.is in
    let held = held_now id spots places c.requires.table (length old) (list_views old) c.requires.built.0 c.args.given.now m (stands.File 0 []) c.requires.built.1 c.requires.built.2 lt in
    let same : m ≡ length c.put_entry.new.lists.items = omega (arith, n, kept) in
    subst (λ (k : ℕ). Builds id spots places k (list_views c.put_entry.new.lists.items) first c.make_entry.new.given) same
    (put_built id spots places c.requires.table m (list_views old) (list_views front) (entry_views c.in-Some.list.items) (list_views c.put_entry.new.lists.items) first c.args.given.now c.make_entry.new.given c.index-spots-number.result (get_or places m (stands.File 0 [])) (entry_view c.in_ok-entry.entry)
    (omega (arith, n, long, more)) (omega (arith, lo, long, n)) (views_of old front c.in-Some.list cut) (omega (arith, lf, n))
    (subst (λ (k : ℕ). Builds id spots places k (list_views old) first c.args.given.now) (sym lo) built)
    at (get_any places m (stands.File 0 []) stands.Folder lt) held c.in_ok-entry.ensures c.in_ok-put_entry.ensures.put (omega (arith, ll, kept, n)))
