use Rattle.std.proofs.Common.{◌≡◌, ℕ, List, ◌++◌, length, take, drop, sym, ap, ◌∙◌, subst, arith}
use Rattle.std.proofs.lemmas.List.{append-nil, drop_all, take_all}
use Rattle.std.specs.List.{All}
use Rattle.std.proofs.lemmas.List.Elements.{All-from_recursion}
use Rattle.swh_outside.specs.Views.{disks, sources}
use Rattle.swh_jobs.specs.Answers.{owned_jobs}
use Rattle.swh_pool.specs.Loads.{HasHead}
use Rattle.swh_inputs.specs.Parts.{folders, parts}
use Rattle.swh_program.specs.Dated.{standing, AreGivenBack}
use Rattle.swh_program.proofs.KeptRuns.{kept_run}
use Rattle.swh_program.proofs.Openings.{heads_of}
use Rattle.swh_program.proofs.outside.Outside.load_lines.Goals as goal

-- what was written over the front of a list of the same length
written_back : {X : Type 0} (xs ys : List X) (n : ℕ) → length xs ≡ n → length ys ≡ n → take n (xs ++ drop (length xs) ys) ≡ xs
written_back {X} xs ys n a b =
    ap (λ (t : List X). take n (xs ++ t)) (drop_all (length xs) ys (omega (arith, a, b))) ∙ ap (take n) (append-nil xs) ∙ take_all n xs (omega (arith, a))

pub load_all-loaded-requires-after_bounds : goal.load_all-loaded-requires-after_bounds
load_all-loaded-requires-after_bounds g c = λ lifetimes bounds.
    let heads = heads_of (parts (sources g.O.S.Source.tells g.O.S.Source.left g.O.S.Source.faults g.O.S.Source.path) (folders g.O.F.Folder.tells g.O.F.Folder.holds g.O.F.Folder.faults g.O.F.Folder.opened_at)) g.O.Origins.tells (standing (g.O.Origins.file_at c.args.self.now.origins) (g.O.Origins.folder_at c.args.self.now.origins) (g.O.Origins.path_faults c.args.self.now.origins) (g.O.Origins.faults c.args.self.now.origins))
    (standing (g.O.Origins.file_at c.open_inputs.new.origins) (g.O.Origins.folder_at c.open_inputs.new.origins) (g.O.Origins.path_faults c.open_inputs.new.origins) (g.O.Origins.faults c.open_inputs.new.origins)) (owned_jobs c.args.lines.items) c.in-Ok.jobs.items c.requires.good.each c.in-Ok.ensures.opened in
    subst (All HasHead) (sym c.as_mut_slice.ensures.value) (All-from_recursion HasHead c.in-Ok.jobs.items heads)

pub returns-clause-load : goal.returns-clause-load
returns-clause-load g c =
    let o = c.in-Ok.ensures in
    let l = rw c.as_mut_slice.ensures.value at c.load_all-loaded.ensures in
    let len = c.load_all-loaded.auto.jobs ∙ c.as_mut_slice.ensures.len in
    let items = sym (ap length c.as_mut_slice.ensures.value) ∙ c.as_mut_slice.ensures.len in
    let same = written_back c.load_all-loaded.new.jobs c.in-Ok.jobs.items c.in-Ok.jobs.len len items in
    let from = (parts (sources g.O.S.Source.tells g.O.S.Source.left g.O.S.Source.faults g.O.S.Source.path) (folders g.O.F.Folder.tells g.O.F.Folder.holds g.O.F.Folder.faults g.O.F.Folder.opened_at)) in
    let back = subst (AreGivenBack from (g.O.Origins.path_faults c.open_inputs.new.origins) (g.O.Origins.path_faults c.give_all_back.new.origins)) same c.give_all_back.ensures.back in
    kept_run from _ (g.O.Origins.path_faults c.open_inputs.new.origins) o.kept.path_later c.give_all_back.ensures.kept.path_later
    (disks g.P.D.Disk.tells g.P.D.Disk.file g.P.D.Disk.faults) (owned_jobs c.args.lines.items) c.in-Ok.jobs.items c.load_all-loaded.new.jobs c.args.keeper.now c.load_all-loaded.new.keeper c.requires.unwounded
    o.opened back o.said (λ v. v.outcomes.items) (λ v. v.text) c.load_all-loaded.result c.tell_loaded-answer.result l.loads l.stops l.unwounded l.lines l.same_keeper c.tell_loaded-answer.ensures.told c.tell_loaded-answer.ensures.memory
