use Rattle.std.proofs.Common.{◌≡◌, ℕ, ◌+◌, List, ◌++◌, length, inl, take, get_or, refl, sym, ap, ◌∙◌, subst, length-append}
use Rattle.std.specs.List.{flat_map}
use Rattle.std.proofs.lemmas.List.{take_all}
use Rattle.swh_fastwrite.specs.Quoted.{quoted_byte}
use Rattle.swh_fastwrite.proofs.Quotes.{quoted_more}
use Rattle.swh_pathsums.specs.Lengths.{IsUpTo}
use Rattle.swh_pathsums.proofs.tally.quoted_length.Goals as goal

pub loop-c-init : goal.loop-c-init
loop-c-init c = inl refl

pub loop-c-preserved : goal.loop-c-preserved
loop-c-preserved c =
    let name = c.args.name.now in
    let i = c.loop-c.c-index in
    let front = flat_map quoted_byte (take i name) in
    let next = quoted_byte (get_or name i 0) in
    let is : length (flat_map quoted_byte (take (i + 1) name)) ≡ length front + length next = ap (λ (l : List ℕ). length l) (quoted_more name i c.loop-c-test.true) ∙ length-append front next in
    subst (λ (n : ℕ). IsUpTo n c.plus-bytes.result) (sym is) (c.plus-bytes.ensures (length front) (length next) c.loop-c.invariant (inl c.byte_length.ensures))

pub returns : goal.returns
returns c = subst (λ (l : List ℕ). IsUpTo (length (flat_map quoted_byte l)) c.loop-c.bytes) (take_all c.loop-c.c-index c.args.name.now c.loop-c-test.false) c.loop-c.invariant
