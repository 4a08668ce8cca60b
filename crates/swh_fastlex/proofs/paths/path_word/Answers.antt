use Rattle.std.proofs.Common.{rules, ◌≤◌, ◌∙◌, List, ℕ, length, drop, sym, subst}
use Rattle.std.proofs.lemmas.List.{take_rest}
use Rattle.swh_base.specs.Limits.{path_limit}
use Rattle.swh_fastlex.specs.Path.{IsPath, Spells}
use Rattle.swh_fastlex.proofs.Runs.{Ends, passes_not, whole_run, run_whole}
use Rattle.swh_fastlex.proofs.paths.path_word.Goals as goal

pub returns-then-not-ends_text : goal.returns-then-not-ends_text
returns-then-not-ends_text c =
    let run = c.in_ok-run.run' in
    let rest = drop run.length c.args.text.now in
    let within : length run.path.items ≤ path_limit = search rules in (
      λ other h. let ends = (whole_run run.quoted 10 c.args.text.now run.path.items rest other c.in_ok-run.ensures.runs h.1).1 in
          let yes = c.if-not-ends_text.ensures.1 (subst (Ends run.quoted) (sym (take_rest c.args.text.now run.length)) ends) in let never = c.if-not-ends_text.true in cc,
      passes_not run.quoted 10 c.args.text.now run.path.items rest c.in_ok-run.ensures.runs within,
    )

pub returns-then-not-is_path : goal.returns-then-not-is_path
returns-then-not-is_path c =
    let run = c.in_ok-run.run' in
    let rest = drop run.length c.args.text.now in
    let within : length run.path.items ≤ path_limit = search rules in (
      λ other h. let same = (whole_run run.quoted 10 c.args.text.now run.path.items rest other c.in_ok-run.ensures.runs h.1).0 in
          let is = subst IsPath (sym (c.as_slice.ensures.value ∙ same)) h.0 in
          let yes = c.if-not-is_path.ensures.1 is in let never = c.if-not-is_path.true in cc,
      passes_not run.quoted 10 c.args.text.now run.path.items rest c.in_ok-run.ensures.runs within,
    )

pub returns : goal.returns
returns c =
    let run = c.in_ok-run.run' in
    let rest = drop run.length c.args.text.now in
    let within : length run.path.items ≤ path_limit = search rules in
    let is = subst IsPath c.as_slice.ensures.value (c.if-not-is_path.ensures.0 (search rules)) in
    let ends = subst (Ends run.quoted) (take_rest c.args.text.now run.length) (c.if-not-ends_text.ensures.0 (search rules)) in
    let spelled = run_whole run.quoted 10 c.args.text.now run.path.items rest c.in_ok-run.ensures.runs ends in (
      subst (λ (p : List ℕ). IsPath p × Spells 10 c.args.text.now p) (sym c.from_vec.ensures) (is, spelled),
      passes_not run.quoted 10 c.args.text.now run.path.items rest c.in_ok-run.ensures.runs within,
    )
