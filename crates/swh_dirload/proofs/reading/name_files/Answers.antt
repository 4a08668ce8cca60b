use Rattle.std.proofs.Common.{◌≡◌, ℕ, ◌+◌, ◌<◌, List, [], ◌∷◌, length, length-append, take, get_or, sym, ap, ◌∙◌, subst, arith, rules}
use Rattle.std.specs.List.{AllByRecursion}
use Rattle.swh_dedup.specs.Making.{made, names_of_made}
use Rattle.swh_dirmade.specs.Making.{IsHeld}
use Rattle.swh_dirload.proofs.Helds.{held_push}
use Rattle.swh_outside.specs.Folder.{Tree}
use Rattle.swh_dirload.specs.declared.found.Found.{Found}
use Rattle.swh_dirmade.specs.declared.member.Member.{Member}
use Rattle.swh_dirload.specs.Found.{path_in, paths_of, items_of, IsPlaced}
use Rattle.swh_dirload.specs.Reading.{IsRead, ReadsAll, ExplainsRead, ExplainsReading}
use Rattle.swh_dirload.proofs.Tables.{placed_at}
use Rattle.swh_dirload.proofs.Readings.{placed_take, fits_at, reads_more, stops_at}
use Rattle.swh_dirload.proofs.reading.name_files.Goals as goal

pub path_of-requires-clause-placed : goal.path_of-requires-clause-placed
path_of-requires-clause-placed g c = placed_take 0 c.args.found.now c.files.number c.requires.placed

pub path_of-requires-clause-next : goal.path_of-requires-clause-next
path_of-requires-clause-next g c =
    let found = c.args.found.now in
    let k = c.files.number in
    let lt : k < length found = search rules in
    let n : 0 + k ≡ length (take k found) = search rules in
    subst (IsPlaced (length (take k found))) (sym c.index-found-number.is) (subst (λ (m : ℕ). IsPlaced m (get_or found k c.index-found-number.result)) n (placed_at 0 found k c.index-found-number.result c.requires.placed lt))

pub name_item-requires-clause-kind : goal.name_item-requires-clause-kind
name_item-requires-clause-kind g c = λ _ _ is.
    let lt : c.files.number < length c.args.found.now = search rules in
    fits_at c.args.found.now c.files.number c.index-found-number.result c.requires.fit lt (ap (λ (f : Found). f.what) (sym c.index-found-number.is) ∙ is)

pub returns-in_err-place-clause-err : goal.returns-in_err-place-clause-err
returns-in_err-place-clause-err g c = λ tells.
    let found = c.args.found.now in
    let k = c.files.number in
    let item = c.index-found-number.result in
    let id = g.N.Namer.id_of in
    let tree = g.F.Folder.holds c.args.folder.now in
    let lt : k < length found = search rules in
    let named : c.as_str.result.now ≡ path_in (paths_of (take k found)) (get_or found k item) = search rules in
    let bad : ExplainsRead id tree c.files.total c.as_str.result.now (get_or found k item).what c.in_err-place.field-0.0 = subst (λ (f : Found). ExplainsRead id tree c.files.total c.as_str.result.now f.what c.in_err-place.field-0.0) c.index-found-number.is (subst (λ (t : Tree). ExplainsRead id t c.files.total c.as_str.result.now item.what c.in_err-place.field-0.0) (c.files.invariant.same tells) (c.in_err-place.ensures.err tells)) in
    let reads = c.files.invariant.reads tells in
    let explained : ExplainsReading id tree [] (items_of found) c.in_err-place.field-0.0 = stops_at id tree [] found k item c.files.places.items c.files.total reads.0 c.as_str.result.now c.in_err-place.field-0.0 lt named reads.1 bad in
    search rules

pub files-preserved : goal.files-preserved
files-preserved g c =
    let found = c.args.found.now in
    let k = c.files.number in
    let item = c.index-found-number.result in
    let id = g.N.Namer.id_of in
    let tree = g.F.Folder.holds c.args.folder.now in
    let inv = c.files.invariant in
    let lt : k < length found = search rules in
    let path = c.as_str.result.now in
    let named : path ≡ path_in (paths_of (take k found)) (get_or found k item) = search rules in
    let read = c.in_ok-place.ensures in
    let count = inv.count in
    let pushed = c.in_ok-push.ensures.items in
    let held = read.held inv.held.0 in
    record {
      count = omega (arith, count, ap length pushed, length-append c.files.places.items (c.in_ok-place.place ∷ []));
      within = read.within;
      held = (held.0, subst (AllByRecursion (IsHeld (names_of_made id (made held.0)))) (sym pushed) (held_push id inv.held.0 held.0 c.files.places.items c.in_ok-place.place held.1 inv.held.1 held.2));
      same = λ tells. read.same tells ∙ inv.same tells;
      reads = λ tells.
          let before = inv.reads tells in
          let new = read.read tells before.0 in
          let here = subst (λ (t : Tree). (count : ℕ) × (c.in_ok-place.now ≡ c.files.total + count) × IsRead id t path item.what count before.0 c.in_ok-place.place new.0) (inv.same tells) (new.1, new.2, new.3) in
          let step = subst (λ (f : Found). (count : ℕ) × (c.in_ok-place.now ≡ c.files.total + count) × IsRead id tree path f.what count before.0 c.in_ok-place.place new.0) c.index-found-number.is here in
          (new.0, subst (λ (ps : List Member). ReadsAll id tree 0 [] (items_of (take (k + 1) found)) ps c.in_ok-place.now new.0) (sym c.in_ok-push.ensures.items) (reads_more id tree [] found k item c.files.places.items c.files.total c.in_ok-place.now before.0 path c.in_ok-place.place new.0 lt named before.1 step read.within));
      same_path = read.same_path ∙ inv.same_path;
      quiet = read.quiet (λ h. cc) ∙ inv.quiet;
    }
