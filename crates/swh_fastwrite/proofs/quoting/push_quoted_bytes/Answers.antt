use Rattle.std.proofs.Common.{List, ℕ, ◌++◌, take, get_or, sym, ap, ◌∙◌, append_assoc}
use Rattle.std.specs.List.{flat_map}
use Rattle.std.proofs.lemmas.List.{append-nil, take_all}
use Rattle.swh_fastwrite.specs.Quoted.{quoted_byte}
use Rattle.swh_fastwrite.proofs.Quotes.{quoted_more}
use Rattle.swh_fastwrite.proofs.quoting.push_quoted_bytes.Goals as goal

pub loop-c-init : goal.loop-c-init
loop-c-init c = sym (append-nil c.args.out.now.items)

pub loop-c-preserved : goal.loop-c-preserved
loop-c-preserved c =
    c.in_ok-push_quoted_byte.ensures ∙ ap (λ (t : List ℕ). t ++ quoted_byte (get_or c.args.path.now c.loop-c.c-index 0)) c.loop-c.invariant
    ∙ append_assoc c.args.out.now.items (flat_map quoted_byte (take c.loop-c.c-index c.args.path.now)) (quoted_byte (get_or c.args.path.now c.loop-c.c-index 0))
    ∙ ap (λ (t : List ℕ). c.args.out.now.items ++ t) (sym (quoted_more c.args.path.now c.loop-c.c-index c.loop-c-test.true))

pub returns : goal.returns
returns c =
    c.loop-c.invariant ∙ ap (λ (t : List ℕ). c.args.out.now.items ++ flat_map quoted_byte t) (take_all c.loop-c.c-index c.args.path.now c.loop-c-test.false)
