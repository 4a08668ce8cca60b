use Rattle.std.proofs.Common.{rules, ◌≤◌, ◌-◌, ◌∙◌, List, ℕ, length, drop, refl, sym, subst}
use Rattle.std.proofs.lemmas.List.{take_rest}
use Rattle.swh_base.specs.Limits.{path_limit}
use Rattle.swh_fastlex.specs.Path.{IsPath, SpellsPath}
use Rattle.swh_fastlex.proofs.Runs.{EndsBefore, passes_not, before_run, run_before}
use Rattle.swh_fastlex.proofs.paths.path_before.Goals as goal

pub returns-in_default-clause-word : goal.returns-in_default-clause-word
returns-in_default-clause-word c =
    let run = c.in_ok-run.run' in
    let text = c.args.text.now in
    let rest = drop run.length text in
    let within : length run.path.items ≤ path_limit = search rules in (
      λ other h. let after = drop other.length text in
          let ends = (before_run run.quoted c.args.stop text run.path.items rest other.path after c.requires c.in_ok-run.ensures.runs h.1).1 in
          c.in_default.ensures.none after (subst (λ (t : List ℕ). EndsBefore run.quoted c.args.stop t after) (sym (take_rest text run.length)) ends),
      passes_not run.quoted c.args.stop text run.path.items rest c.in_ok-run.ensures.runs within,
    )

pub returns-then-not-is_path-clause-word : goal.returns-then-not-is_path-clause-word
returns-then-not-is_path-clause-word c =
    let run = c.in_ok-run.run' in
    let text = c.args.text.now in
    let rest = drop run.length text in
    let within : length run.path.items ≤ path_limit = search rules in (
      λ other h. let same = (before_run run.quoted c.args.stop text run.path.items rest other.path (drop other.length text) c.requires c.in_ok-run.ensures.runs h.1).0 in
          let is = subst IsPath (sym (c.as_slice.ensures.value ∙ same)) h.0 in
          let yes = c.if-not-is_path.ensures.1 is in let never = c.if-not-is_path.true in cc,
      passes_not run.quoted c.args.stop text run.path.items rest c.in_ok-run.ensures.runs within,
    )

pub returns-clause-word : goal.returns-clause-word
returns-clause-word c =
    let run = c.in_ok-run.run' in
    let text = c.args.text.now in
    let rest = drop run.length text in
    let after = c.in-Some.after.now in
    let within : length run.path.items ≤ path_limit = search rules in
    let is = subst IsPath c.as_slice.ensures.value (c.if-not-is_path.ensures.0 (search rules)) in
    let ends = subst (λ (t : List ℕ). EndsBefore run.quoted c.args.stop t after) (take_rest text run.length) c.in-Some.ensures.some in
    let spelled = run_before run.quoted c.args.stop text run.path.items rest after (length text - length after) c.in_ok-run.ensures.runs ends refl in (
      subst (λ (p : List ℕ). IsPath p × SpellsPath c.args.stop text p (drop (length text - length after) text)) (sym c.from_vec.ensures) (is, spelled),
      passes_not run.quoted c.args.stop text run.path.items rest c.in_ok-run.ensures.runs within,
    )
