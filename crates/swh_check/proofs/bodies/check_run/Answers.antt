use Rattle.std.proofs.Common.{◌≡◌, ℕ, ◌+◌, List, length, take, drop, sym, ap, ◌∙◌, subst, arith, length-drop}
use Rattle.swh_base.specs.declared.entry.Entry.{Entry}
use Rattle.swh_model.specs.Limits.{object_length, run_length}
use Rattle.swh_model.proofs.PlainLists.{all-at}
use Rattle.swh_format.specs.StoredObject.{coded_run}
use Rattle.swh_check.specs.Bodies.{body_in, HaveTheirIds, IsHeldNamed}
use Rattle.swh_keeper.proofs.HeldBodies.{drop-next, drop-twice, body-coded, more-coded}
use Rattle.swh_check.proofs.bodies.check_run.Goals as goal

pub check_body-requires-clause-named : goal.check_body-requires-clause-named
check_body-requires-clause-named g c κs long =
    let held = c.requires.held in
    (all-at (IsHeldNamed g.N.Namer.id_of held.0) c.args.entries.now c.loop-entry.entry-index c.entry-item.result held.1 c.loop-entry-test.true c.entry-item.is).named

pub returns-in-Err-clause-told : goal.returns-in-Err-clause-told
returns-in-Err-clause-told g c bodies held coded =
    let id_of = g.N.Namer.id_of in
    let es = c.args.entries.now in
    let i = c.loop-entry.entry-index in
    let e = c.entry-item.result in
    let rest = c.loop-entry.rest.now in
    let less = c.loop-entry-test.true in
    let cut = drop-next es i e less c.entry-item.is in
    let body : c.cut-in-loop-entry.result.0.now ≡ body_in rest e =
    c.cut-in-loop-entry.ensures.front ∙ ap (λ (n : ℕ). take n c.cut.result.1.now) (ap length c.as_slice.ensures)
    ∙ ap (λ (l : List ℕ). take (length e.body) l) (c.cut.ensures.back ∙ ap (λ (n : ℕ). drop n rest) c.head_length.ensures.value) in
    let is = body ∙ ap (λ (l : List ℕ). body_in l e) (c.loop-entry.invariant.coded coded ∙ ap coded_run cut) ∙ body-coded e (coded_run (drop (i + 1) es)) in
    c.in-Err.ensures.told ((all-at (IsHeldNamed id_of bodies) es i e held less c.entry-item.is).named ∙ ap (id_of e.name.kind) (sym is))

pub loop-entry-preserved : goal.loop-entry-preserved
loop-entry-preserved g c =
    let id_of = g.N.Namer.id_of in
    let es = c.args.entries.now in
    let i = c.loop-entry.entry-index in
    let e = c.entry-item.result in
    let rest = c.loop-entry.rest.now in
    let cut = drop-next es i e c.loop-entry-test.true c.entry-item.is in
    let size = ap length c.as_slice.ensures in
    let head = c.head_length.ensures.value in
    let body : c.cut-in-loop-entry.result.0.now ≡ body_in rest e =
    c.cut-in-loop-entry.ensures.front ∙ ap (λ (n : ℕ). take n c.cut.result.1.now) size
    ∙ ap (λ (l : List ℕ). take (length e.body) l) (c.cut.ensures.back ∙ ap (λ (n : ℕ). drop n rest) head) in
    let more : c.cut-in-loop-entry.result.1.now ≡ drop (object_length e) rest =
    c.cut-in-loop-entry.ensures.back ∙ ap (λ (n : ℕ). drop n c.cut.result.1.now) size
    ∙ ap (λ (l : List ℕ). drop (length e.body) l) (c.cut.ensures.back ∙ ap (λ (n : ℕ). drop n rest) head)
    ∙ drop-twice (9 + length e.name.id) (length e.body) rest
    ∙ ap (λ (n : ℕ). drop n rest) (let z : 9 + length e.name.id + length e.body ≡ object_length e = omega arith in z) in
    record {
      sized =
          let long = ap length more in
          let dropped = length-drop (object_length e) rest in
          let so_far = c.loop-entry.invariant.sized in
          let all = ap run_length cut in
          omega (arith, long, dropped, so_far, all);
      coded = λ is. more ∙ ap (λ (l : List ℕ). drop (object_length e) l) (c.loop-entry.invariant.coded is ∙ ap coded_run cut) ∙ more-coded e (coded_run (drop (i + 1) es));
      count = let so_far = c.loop-entry.invariant.count in omega (arith, so_far);
      ids = λ later.
          c.loop-entry.invariant.ids
          (subst (λ (l : List Entry). HaveTheirIds id_of rest l) (sym cut)
          (ap (id_of e.name.kind) (sym body) ∙ c.in_default.ensures.ok, subst (λ (l : List ℕ). HaveTheirIds id_of l (drop (i + 1) es)) more later));
    }
