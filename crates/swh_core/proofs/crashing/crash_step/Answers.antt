use Rattle.std.proofs.Common.{◌≡◌, rules, Some, List, length, refl, sym, subst}
use Rattle.swh_model.specs.declared.event.Event.{Event}
use Rattle.swh_model.specs.Step.{IsHistory, May, replay}
use Rattle.swh_core.specs.Kept.{MayStand}
use Rattle.swh_core.proofs.Files.{two_images, are_two}
use Rattle.swh_core.proofs.Steps.{caught_stands, caught_may}
use Rattle.swh_core.proofs.Caught.{so, some_flight}
use Rattle.swh_core.proofs.crashing.crash_step.Goals as goal

pub catch_files-requires-clause-flight : goal.catch_files-requires-clause-flight
catch_files-requires-clause-flight g c = some_flight g.N.Namer.id_of (length c.args.parts.now.seen) c.args.flight.now c.args.store.now c.args.ledger.now c.requires.meant

pub returns-clause-ok : goal.returns-clause-ok
returns-clause-ok g c =
    let id_of = g.N.Namer.id_of in
    let w = c.args.parts.now in
    let caught = c.in_ok-caught.ensures in
    let disks = c.in_ok-caught.caught.disks in
    let more = c.in_ok-caught.caught.more in
    let ledger = c.args.ledger.now in
    let store = c.args.store.now in
    let ledger_is = c.is_image.ensures.0 (so c.is_image.result c.if-not-is_image.false) in
    let store_is = c.is_image-2.ensures.0 (so c.is_image-2.result c.if-not-is_image-2.false) in
    let stands = (caught_stands id_of w w.doubt c.args.flight.now disks more (length w.seen) ledger store c.requires.world refl c.requires.meant caught).has (two_images ledger store) (are_two disks ledger store ledger_is store_is) in
    let may = caught_may id_of w w.doubt c.args.flight.now disks more (length w.seen) ledger store c.requires.world refl c.requires.meant caught in
    record {
      disks = disks;
      more = more;
      caught = caught;
      ledger_is = ledger_is;
      store_is = store_is;
      h = c.in_ok-history.history;
      stands = c.in_ok-history.ensures.stands (two_images ledger store) refl (subst (λ (l : List Event). MayStand l more (two_images ledger store)) (sym c.as_slice.ensures) stands);
      history = c.in_ok-history.ensures.history id_of (subst (IsHistory id_of) (sym c.as_slice.ensures) c.requires.world.history)
          (subst (λ (l : List Event). (e : Event) → more ≡ Some e → May id_of (replay l) e) (sym c.as_slice.ensures) may);
      count = search rules;
      reopens = c.in_ok-next.ensures;
    }
