use Rattle.std.proofs.Common.{rules, ◌≡◌, ◌≤◌, ◌+◌, ◌-◌, ◌∷◌, ◌++◌, [], ℕ, List, length, min, drop, ap, ◌∙◌, sym, subst, arith}
use Rattle.swh_base.specs.declared.entry.Entry.{Entry}
use Rattle.swh_outside.specs.Disk.{File}
use Rattle.swh_format.specs.StoredObject.{coded_run}
use Rattle.swh_recovery.specs.declared.harm.Found.{Found}
use Rattle.swh_recovery.specs.StoreHarm.{AreObjects, ObjectBreaks}
use Rattle.swh_recovery.specs.Pieces.{IsPieceOf}
use Rattle.swh_recovery.specs.Reading.{IfHarmed, window, BeginsWith}
use Rattle.swh_recovery.proofs.FrameLemmas.{exits}
use Rattle.swh_recovery.proofs.BodyLemmas.{harmed_map}
use Rattle.swh_recovery.proofs.RunLemmas.{place_next, begins_next, objects_next, run_breaks, run_ends_early}
use Rattle.swh_recovery.proofs.run.read_run.Goals as goal

pub returns-then-place-end-clause-harm : goal.returns-then-place-end-clause-harm
returns-then-place-end-clause-harm g c told =
    let seen = (g.D.Disk.file c.args.store.now).seen in
    let i = c.objects.invariant in
    let over : min c.args.to c.args.size ≤ c.objects.place = let e = c.min-end.ensures in let t = c.if-place-end.true in omega (arith, e, t) in
    run_ends_early g.N.Namer.id_of seen c.objects.entries.items c.args.from c.args.to c.objects.place i.place_is i.objects (i.begins told) c.args.size c.cut.result c.objects-test.true (c.requires.size told) over c.cut.ensures

pub returns-in_err-entry-clause-harm : goal.returns-in_err-entry-clause-harm
returns-in_err-entry-clause-harm g c told =
    let seen = (g.D.Disk.file c.args.store.now).seen in
    let i = c.objects.invariant in
    let harm : IfHarmed c.in_err-entry.field-0.0 (ObjectBreaks g.N.Namer.id_of (window (g.D.Disk.file c.objects.store).seen c.objects.place (c.min-end.result - c.objects.place)) c.objects.place) = c.in_err-entry.ensures.harm told in
    exits _ _ c.in_err-entry.field-0.0 c.from_residual.ensures.1
    (harmed_map c.in_err-entry.field-0.0 _ _
    (λ (x : Found). λ h.
    run_breaks g.N.Namer.id_of seen c.objects.entries.items c.args.from c.args.to c.objects.place i.place_is i.objects (i.begins told) c.args.size x c.objects-test.true (c.requires.size told)
    (subst (λ (n : ℕ). ObjectBreaks g.N.Namer.id_of (window seen c.objects.place (n - c.objects.place)) c.objects.place x) c.min-end.ensures
    (subst (λ (f : File). ObjectBreaks g.N.Namer.id_of (window f.seen c.objects.place (c.min-end.result - c.objects.place)) c.objects.place x) (i.same told) h)))
    harm)

pub objects-preserved : goal.objects-preserved
objects-preserved g c =
    let i = c.objects.invariant in
    let seen = (g.D.Disk.file c.args.store.now).seen in
    let e = c.in_ok-entry.entry in
    let es = c.objects.entries.items in
    let items : c.push_entry.new.entries.items ≡ c.objects.entries.items ++ c.in_ok-entry.entry ∷ [] = search rules in
    let size : length c.as_slice.result.now ≡ length c.in_ok-entry.entry.body = ap length c.as_slice.ensures in
    let next : c.objects.place + (29 + length c.as_slice.result.now) ≡ c.objects.place + (29 + length c.in_ok-entry.entry.body) = ap (λ (n : ℕ). c.objects.place + (29 + n)) size in
    record {
      place_is = next ∙ place_next es e c.args.from c.objects.place i.place_is c.in_ok-entry.ensures.codable ∙ ap (λ (l : List Entry). c.args.from + length (coded_run l)) (sym items);
      inside = let w = c.in_ok-entry.ensures.whole in let m = c.min-end.ensures in let t = c.if-place-end.false in omega (arith, w, m, t, size);
      room = search rules;
      objects = subst (AreObjects g.N.Namer.id_of) (sym items) (objects_next g.N.Namer.id_of es e i.objects c.in_ok-entry.ensures.good c.in_ok-entry.ensures.codable);
      begins = λ told.
          let begun = subst (λ (f : File). BeginsWith g.N.Namer.id_of (window f.seen c.objects.place (c.min-end.result - c.objects.place)) e) (i.same told) (c.in_ok-entry.ensures.ok told) in
          begins_next g.N.Namer.id_of seen es e c.args.from c.objects.place (c.min-end.result - c.objects.place) _ (i.begins told) begun next
          ∙ ap (λ (l : List Entry). coded_run l ++ drop (c.objects.place + (29 + length c.as_slice.result.now)) seen) (sym items);
      piece = λ told. subst (λ (f : File). IsPieceOf f.seen c.read_object.new.piece) (i.same told) (c.in_ok-entry.ensures.piece told);
      same = λ told. c.in_ok-entry.ensures.reads.same told ∙ i.same told;
      quiet = c.in_ok-entry.ensures.reads.quiet ∙ i.quiet;
    }
