use Rattle.std.proofs.Common.{rules, ◌≡◌, List, ℕ, Some, None, get_or, sym, ◌∙◌, ap}
use Rattle.swh_outside.proofs.FirstsLaws.{first_of, first_or-at}
use Rattle.swh_memory_input.specs.Outside.{is_for, input_bytes, input_making}
use Rattle.swh_memory_input.specs.Inputs.{source_piece, source_tally}
use Rattle.swh_memory_failures.specs.Tally.{Tally, fresh_tally}
use Rattle.swh_memory_input.proofs.origins.open_input.Goals as goal

pub returns-clause-given : goal.returns-clause-given
returns-clause-given c =
    let z = c.index-inputs-i.result in
    let p = is_for c.args.path.now in
    let first = first_of p c.args.inputs.now c.args.i z c.requires.found c.requires.inside in
    let copied : c.in_ok-bytes.bytes.items ≡ (get_or c.args.inputs.now c.args.i z).bytes.items = search rules in
    first_or-at p input_bytes None c.args.inputs.now c.args.i z first ∙ ap (λ (l : List ℕ). Some l) (sym copied ∙ sym c.new.ensures.left)

pub returns-clause-made : goal.returns-clause-made
returns-clause-made c =
    let z = c.index-inputs-i.result in
    let p = is_for c.args.path.now in
    let first = first_of p c.args.inputs.now c.args.i z c.requires.found c.requires.inside in
    let at = get_or c.args.inputs.now c.args.i z in
    let copied : c.in_ok-failing.failing.items ≡ at.failing.items = search rules in
    let piece : source_piece c.new.result ≡ at.piece = search rules in
    let tally : source_tally c.new.result ≡ fresh_tally at.failing.items = c.new.ensures.failing ∙ ap fresh_tally copied in
    first_or-at p input_making None c.args.inputs.now c.args.i z first ∙ ap (λ (n : ℕ). Some (n, fresh_tally at.failing.items)) (sym piece) ∙ ap (λ (t : Tally). Some (source_piece c.new.result, t)) (sym tally)
