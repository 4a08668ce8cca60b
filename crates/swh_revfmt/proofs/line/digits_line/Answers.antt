use Rattle.std.proofs.Common.{◌≡◌, ◌++◌, ℕ, List, take, drop, refl, sym, ap, ◌∙◌, arith}
use Rattle.std.proofs.lemmas.List.{take-append-drop, length-take-le}
use Rattle.swh_revfmt.proofs.Lines.{too_short, no_id, no_feed, whole_line}
use Rattle.swh_revfmt.proofs.line.digits_line.Goals as goal

pub returns-then-bytes-lt41-clause-none : goal.returns-then-bytes-lt41-clause-none
returns-then-bytes-lt41-clause-none c = too_short c.args.bytes.now c.if-bytes-lt41.true

pub returns-in_default-clause-none : goal.returns-in_default-clause-none
returns-in_default-clause-none c =
    let cut = sym (take-append-drop 40 c.args.bytes.now) in
    no_id c.args.bytes.now (take 40 c.args.bytes.now) (drop 40 c.args.bytes.now) cut (length-take-le 40 c.args.bytes.now (omega arith)) (λ h. let found = rw c.split_at.ensures.front at c.in_default.ensures.found.1 in let never = found h in absurd cc)

pub returns-in_default-behind-clause-none : goal.returns-in_default-behind-clause-none
returns-in_default-behind-clause-none c =
    let cut = sym (take-append-drop 40 c.args.bytes.now) in
    no_feed c.args.bytes.now (take 40 c.args.bytes.now) (drop 40 c.args.bytes.now) cut (length-take-le 40 c.args.bytes.now (omega arith)) (rw c.split_at.ensures.back at c.in_default-behind.ensures.none)

pub returns-clause-some : goal.returns-clause-some
returns-clause-some c =
    let cut : c.args.bytes.now ≡ c.split_at.result.0.now ++ c.split_at.result.1.now = sym (take-append-drop 40 c.args.bytes.now) ∙ ap (λ (t : List ℕ). t ++ drop 40 c.args.bytes.now) (sym c.split_at.ensures.front) ∙ ap (λ (t : List ℕ). c.split_at.result.0.now ++ t) (sym c.split_at.ensures.back) in
    whole_line c.args.bytes.now c.split_at.result.0.now c.split_at.result.1.now c.in-Some.name.id c.in-Some-behind.rest.now cut (c.in-Some.ensures.found.0 refl) c.in-Some.ensures.some.1 c.in-Some-behind.ensures.some
