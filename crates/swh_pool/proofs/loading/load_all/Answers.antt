use Rattle.std.proofs.Common.{rules, arith, ◌≡◌, ◌++◌, ◌∷◌, [], ◌≤◌, ◌+◌, length, get_or, map, refl, sym, ap, ◌∙◌, subst, length-append}
use Rattle.std.proofs.lemmas.List.{length-map, map-append}
use Rattle.std.specs.List.{AllByRecursion}
use Rattle.std.proofs.lemmas.List.Elements.{recursion_from_All}
use Rattle.swh_outside.specs.Views.{disks, sources}
use Rattle.swh_pool.specs.declared.dated.DatedJob.{DatedJob}
use Rattle.swh_inputs.specs.Parts.{folders, parts}
use Rattle.swh_loader.specs.Report.{detail_limit, outcome_room, report_line_limit}
use Rattle.swh_pool.specs.Lines.{room_of}
use Rattle.swh_pool.specs.Loads.{HasHead, IsOneLoad, loading, one_load}
use Rattle.swh_pool.specs.Stops.{AreStops, HaveNoDiskFault}
use Rattle.swh_pool.proofs.JobLines.{lines_more, lines_all}
use Rattle.swh_pool.proofs.Loads.{outcome_of, outcome_short, loads_further}
use Rattle.swh_pool.proofs.Stopped.{stops_of, whole_since, whole_still}
use Rattle.swh_pool.proofs.Walks.{turned, seam_further, walked}
use Rattle.swh_pool.proofs.loading.load_all.Goals as goal

pub push_reserved-requires : goal.push_reserved-requires
push_reserved-requires g c = omega (arith, c.jobs-test.true, c.jobs.invariant.count, c.jobs.invariant.room)

pub jobs-init : goal.jobs-init
jobs-init g c = record {
  loads = [];
  rest = c.args.jobs.now;
  before = refl;
  now = refl;
  heads = recursion_from_All HasHead c.args.jobs.now c.requires;
  outcomes = c.in_ok-outcomes.ensures.items;
  each = refl;
  index = refl;
  count = c.in_ok-outcomes.ensures.len;
  text = c.in_ok-lines.ensures.text;
  left = search rules;
  room = search rules;
}

pub add-requires-clause-room : goal.add-requires-clause-room
add-requires-clause-room g c =
    let loads = c.jobs.invariant.loads in
    let below = c.jobs-test.true in
    let same : length c.jobs.jobs ≡ length c.args.jobs.now = search rules in
    let job = get_or c.jobs.jobs c.jobs.dated-index c.dated-item.result in
    let turn = turned c.jobs.jobs (map (λ x. x.after) loads) c.jobs.invariant.rest c.jobs.dated-index c.dated-item.result job c.jobs.invariant.now (length-map loads (λ x. x.after) ∙ c.jobs.invariant.index) (omega (arith, same, below)) in
    let left = c.jobs.invariant.left ∙ ap room_of turn.1 in
    let kind = ap report_line_limit c.kind-kind.ensures in
    omega (arith, left, kind)

pub add-requires-clause-short : goal.add-requires-clause-short
add-requires-clause-short g c = subst (λ k. outcome_room c.load_one-outcome.result ≤ detail_limit k) (sym c.kind-kind.ensures) (outcome_short _ c.load_one-outcome.result c.load_one-outcome.ensures.short)

pub load_one-outcome-requires-after_bounds : goal.load_one-outcome-requires-after_bounds
load_one-outcome-requires-after_bounds g c κs within =
    let loads = c.jobs.invariant.loads in
    let below = c.jobs-test.true in
    let same : length c.jobs.jobs ≡ length c.args.jobs.now = search rules in
    let job = get_or c.jobs.jobs c.jobs.dated-index c.dated-item.result in
    let turn = turned c.jobs.jobs (map (λ x. x.after) loads) c.jobs.invariant.rest c.jobs.dated-index c.dated-item.result job c.jobs.invariant.now (length-map loads (λ x. x.after) ∙ c.jobs.invariant.index) (omega (arith, same, below)) in
    (subst (AllByRecursion HasHead) turn.1 c.jobs.invariant.heads).0

pub jobs-preserved : goal.jobs-preserved
jobs-preserved g c =
    let loads = c.jobs.invariant.loads in
    let job = get_or c.jobs.jobs c.jobs.dated-index c.dated-item.result in
    let said = c.load_one-outcome.ensures in
    let after : DatedJob g.row.S.Denot g.row.F.Denot = record { job = c.load_one-outcome.new.job; date = job.date } in
    let load = one_load job after said.adds.more c.load_one-outcome.result in
    let one : IsOneLoad (loading g.N.Namer.id_of c.args.worker.now.by (parts (sources g.S.Source.tells g.S.Source.left g.S.Source.faults g.S.Source.path) (folders g.F.Folder.tells g.F.Folder.holds g.F.Folder.faults g.F.Folder.opened_at)) (disks g.D.Disk.tells g.D.Disk.file g.D.Disk.faults)) load c.jobs.keeper c.load_one-outcome.new.keeper = record {
      behind = said.adds.behind;
      are_own = said.adds.are;
      ends = outcome_of (loading g.N.Namer.id_of c.args.worker.now.by (parts (sources g.S.Source.tells g.S.Source.left g.S.Source.faults g.S.Source.path) (folders g.F.Folder.tells g.F.Folder.holds g.F.Folder.faults g.F.Folder.opened_at)) (disks g.D.Disk.tells g.D.Disk.file g.D.Disk.faults)) load c.jobs.keeper c.load_one-outcome.new.keeper c.load_one-outcome.result said.ended said.end said.stops;
      wounded = said.wounded;
      calls = said.calls;
      store_later = said.later.store;
      ledger_later = said.later.ledger;
      same_origin = said.same.origin;
      same_input = said.same.input;
      same_date = refl;
    } in
    let long = c.jobs.invariant.index in
    let same : length c.jobs.jobs ≡ length c.args.jobs.now = search rules in
    let below = c.jobs-test.true in
    let turn = turned c.jobs.jobs (map (λ x. x.after) loads) c.jobs.invariant.rest c.jobs.dated-index c.dated-item.result after c.jobs.invariant.now (length-map loads (λ x. x.after) ∙ long) (omega (arith, same, below)) in
    record {
      loads = loads ++ load ∷ [];
      rest = turn.0;
      before = c.jobs.invariant.before ∙ ap (λ rest. map (λ x. x.job) loads ++ rest) turn.1 ∙ seam_further (λ x. x.job) loads load turn.0;
      now = turn.2 ∙ seam_further (λ x. x.after) loads load turn.0;
      heads = (subst (AllByRecursion HasHead) turn.1 c.jobs.invariant.heads).1;
      outcomes = c.push_reserved.ensures.items ∙ ap (λ l. l ++ load.outcome ∷ []) c.jobs.invariant.outcomes ∙ sym (map-append (λ x. x.outcome) loads (load ∷ []));
      each = loads_further (loading g.N.Namer.id_of c.args.worker.now.by (parts (sources g.S.Source.tells g.S.Source.left g.S.Source.faults g.S.Source.path) (folders g.F.Folder.tells g.F.Folder.holds g.F.Folder.faults g.F.Folder.opened_at)) (disks g.D.Disk.tells g.D.Disk.file g.D.Disk.faults)) loads load c.args.keeper.now c.jobs.keeper c.load_one-outcome.new.keeper c.jobs.invariant.each one;
      index = length-append loads (load ∷ []) ∙ ap (λ n. n + 1) long;
      count = c.push_reserved.ensures.len ∙ ap (λ n. n + 1) c.jobs.invariant.count;
      text = c.add.ensures.text ∙ lines_more loads load c.jobs.lines.text.items c.jobs.invariant.text;
      left = let gone = c.add.ensures.left in let all = c.jobs.invariant.left ∙ ap room_of turn.1 in let kind = ap report_line_limit c.kind-kind.ensures in omega (arith, gone, all, kind);
      room = c.push_reserved.ensures.capacity ∙ c.jobs.invariant.room;
    }

pub returns-clause-loads : goal.returns-clause-loads
returns-clause-loads g c =
    let loads = c.jobs.invariant.loads in
    let end : length c.args.jobs.now ≤ c.jobs.dated-index = omega (arith, c.jobs-test.false) in
    let same : length c.jobs.jobs ≡ length c.args.jobs.now = search rules in
    record {
      loads = loads;
      jobs = (walked (λ x. x.job) c.args.jobs.now c.jobs.invariant.rest loads c.jobs.dated-index c.jobs.invariant.before c.jobs.invariant.index end).1;
      after = (walked (λ x. x.after) c.jobs.jobs c.jobs.invariant.rest loads c.jobs.dated-index c.jobs.invariant.now c.jobs.invariant.index (omega (arith, end, same))).1;
      ended = c.jobs.invariant.outcomes;
      each = c.jobs.invariant.each;
    }

pub returns-clause-stops : goal.returns-clause-stops
returns-clause-stops g c =
    let stops = stops_of (loading g.N.Namer.id_of c.args.worker.now.by (parts (sources g.S.Source.tells g.S.Source.left g.S.Source.faults g.S.Source.path) (folders g.F.Folder.tells g.F.Folder.holds g.F.Folder.faults g.F.Folder.opened_at)) (disks g.D.Disk.tells g.D.Disk.file g.D.Disk.faults)) c.jobs.invariant.loads c.args.keeper.now c.jobs.keeper c.jobs.invariant.each in
    subst (AreStops _) (sym c.jobs.invariant.outcomes) stops

pub returns-clause-unwounded : goal.returns-clause-unwounded
returns-clause-unwounded g c = (
  λ whole.
      let since = whole_since (loading g.N.Namer.id_of c.args.worker.now.by (parts (sources g.S.Source.tells g.S.Source.left g.S.Source.faults g.S.Source.path) (folders g.F.Folder.tells g.F.Folder.holds g.F.Folder.faults g.F.Folder.opened_at)) (disks g.D.Disk.tells g.D.Disk.file g.D.Disk.faults)) c.jobs.invariant.loads c.args.keeper.now c.jobs.keeper c.jobs.invariant.each whole in
      (since.0, subst HaveNoDiskFault (sym c.jobs.invariant.outcomes) since.1),
  λ h. whole_still (loading g.N.Namer.id_of c.args.worker.now.by (parts (sources g.S.Source.tells g.S.Source.left g.S.Source.faults g.S.Source.path) (folders g.F.Folder.tells g.F.Folder.holds g.F.Folder.faults g.F.Folder.opened_at)) (disks g.D.Disk.tells g.D.Disk.file g.D.Disk.faults)) c.jobs.invariant.loads c.args.keeper.now c.jobs.keeper c.jobs.invariant.each h.0 (subst HaveNoDiskFault c.jobs.invariant.outcomes h.1),
)

pub returns-clause-lines : goal.returns-clause-lines
returns-clause-lines g c =
    let loads = c.jobs.invariant.loads in
    let end : length c.args.jobs.now ≤ c.jobs.dated-index = omega (arith, c.jobs-test.false) in
    let same : length c.jobs.jobs ≡ length c.args.jobs.now = search rules in
    lines_all loads c.jobs.jobs c.jobs.outcomes.items c.into_text-text.result (walked (λ x. x.after) c.jobs.jobs c.jobs.invariant.rest loads c.jobs.dated-index c.jobs.invariant.now c.jobs.invariant.index (omega (arith, end, same))).1 c.jobs.invariant.outcomes (c.into_text-text.ensures ∙ c.jobs.invariant.text)
