use Rattle.std.proofs.Common.{◌≡◌, ◌<◌, ◌≤◌, ◌+◌, ◌-◌, ℕ, zero, suc, List, ap, ◌∙◌, arith}
use Rattle.std.specs.List.{slice_get}
use Rattle.swh_entries.specs.declared.entry.Entry.{Entry}
use Rattle.swh_entries.specs.Gaps.{entry_before}
use Rattle.swh_entries.specs.Spans.{items_of}
use Rattle.swh_entries.proofs.spans.sides_of.Goals as goal

before-it : (es : List Entry) (k : ℕ) → 0 < k → slice_get es (k - 1) ≡ entry_before es k
before-it es zero pos = absurd (omega (arith, pos))
before-it es (suc j) pos = let e : suc j - 1 ≡ j = omega arith in ap (slice_get es) e

pub returns-clause-before : goal.returns-clause-before
returns-clause-before c =
    let piece = c.piece_at-inner.result.0.now in
    let inner = c.piece_at-inner.result.1 in
    let es = items_of c.args.span.now in
    let got : c.entry_in-before.result ≡ slice_get piece (inner - 1) = c.entry_in-before.ensures in
    let within : inner ≤ c.args.place = c.piece_at-inner.ensures.within in
    let pos : 0 < inner = omega arith in
    let le : inner - 1 ≤ inner = omega arith in
    let is : c.args.place - inner + (inner - 1) ≡ c.args.place - 1 = omega (arith, within, pos) in
    let some : 0 < c.args.place = omega (arith, within, pos) in
    got ∙ c.piece_at-inner.ensures.same (inner - 1) le ∙ ap (slice_get es) is ∙ before-it es c.args.place some

pub returns-clause-at : goal.returns-clause-at
returns-clause-at c =
    let piece = c.piece_at-inner.result.0.now in
    let inner = c.piece_at-inner.result.1 in
    let es = items_of c.args.span.now in
    let got : c.entry_in-at.result ≡ slice_get piece inner = c.entry_in-at.ensures in
    let within : inner ≤ c.args.place = c.piece_at-inner.ensures.within in
    let le : inner ≤ inner = omega arith in
    let is : c.args.place - inner + inner ≡ c.args.place = omega (arith, within) in
    got ∙ c.piece_at-inner.ensures.same inner le ∙ ap (slice_get es) is
