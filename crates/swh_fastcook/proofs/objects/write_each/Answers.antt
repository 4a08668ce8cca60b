use Rattle.std.proofs.Common.{List, [], ◌++◌, get_or, refl, ◌∙◌, subst}
use Rattle.std.proofs.lemmas.List.{take_all}
use Rattle.std.proofs.lemmas.List.Elements.{Contains-get_or}
use Rattle.swh_base.specs.declared.kind.Kind.TheVariants.{Content}
use Rattle.swh_base.specs.declared.name.Name.{Name}
use Rattle.swh_fastwrite.specs.Held.{kept}
use Rattle.swh_fastwrite.proofs.Pieces.{goes_none}
use Rattle.swh_fastcook.specs.Stream.{AreObjectTexts}
use Rattle.swh_fastcook.proofs.ObjectTexts.{texts_more, texts_stopped}
use Rattle.swh_fastcook.proofs.Texts.{stopped_some}
use Rattle.swh_fastcook.proofs.objects.write_each.Goals as goal

abbrev none : Name
none = record { kind = Content; id = [] }

pub loop-name-init : goal.loop-name-init
loop-name-init g c = record {
  quiet = refl;
  texts = [];
  are = refl;
  goes = goes_none g.T.Taker.takes g.T.Taker.takes_front g.met.T.Taker.adds_up (kept c.args.taker.now c.args.held.now.items);
}

pub write_object-requires-clause-there : goal.write_object-requires-clause-there
write_object-requires-clause-there g c =
    c.requires.there (get_or c.args.names.now c.loop-name.name-index none) (Contains-get_or c.args.names.now c.loop-name.name-index none c.loop-name-test.true)

pub write_object-requires-clause-plain : goal.write_object-requires-clause-plain
write_object-requires-clause-plain g c =
    c.requires.plain (get_or c.args.names.now c.loop-name.name-index none) (Contains-get_or c.args.names.now c.loop-name.name-index none c.loop-name-test.true)

pub returns-in_err-write_object-clause-bytes : goal.returns-in_err-write_object-clause-bytes
returns-in_err-write_object-clause-bytes g c =
    let bodies = (g.L.Look.archive c.args.look.now).bodies in
    let old = kept c.args.taker.now c.args.held.now.items in
    let mid = kept c.loop-name.taker c.loop-name.held.items in
    let inv = c.loop-name.invariant in
    stopped_some g.T.Taker.takes g.T.Taker.takes_front old (kept c.write_object.new.taker c.write_object.new.held.items) c.from_residual.result c.from_residual.ensures.0 (AreObjectTexts bodies c.args.marks.now c.args.names.now)
    (λ u all.
    texts_stopped bodies c.args.marks.now g.T.Taker.takes g.T.Taker.takes_front g.met.T.Taker.adds_up c.args.names.now old mid c.loop-name.name-index none c.loop-name-test.true inv.texts inv.are inv.goes c.write_object.new.taker
    c.in_err-write_object.ensures.bytes.err u all)

pub loop-name-preserved : goal.loop-name-preserved
loop-name-preserved g c =
    let bodies = (g.L.Look.archive c.args.look.now).bodies in
    let old = kept c.args.taker.now c.args.held.now.items in
    let mid = kept c.loop-name.taker c.loop-name.held.items in
    let new = kept c.write_object.new.taker c.write_object.new.held.items in
    let inv = c.loop-name.invariant in
    let done = c.in_ok-write_object.ensures.bytes.ok in
    let more = texts_more bodies c.args.marks.now g.T.Taker.takes g.T.Taker.takes_front g.met.T.Taker.adds_up c.args.names.now old mid c.loop-name.name-index none c.loop-name-test.true inv.texts inv.are inv.goes new done.0 done.1 done.2 in
    record { quiet = c.in_ok-write_object.ensures.cause.quiet ∙ inv.quiet; texts = inv.texts ++ done.0; are = more.0; goes = more.1 }

pub returns-clause-bytes : goal.returns-clause-bytes
returns-clause-bytes g c =
    let bodies = (g.L.Look.archive c.args.look.now).bodies in
    let inv = c.loop-name.invariant in
    record {
      ok = (
        inv.texts,
        subst (λ (ns : List Name). AreObjectTexts bodies c.args.marks.now ns inv.texts) (take_all c.loop-name.name-index c.args.names.now c.loop-name-test.false) inv.are,
        inv.goes,
      );
      err = tt;
    }
