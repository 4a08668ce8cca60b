use Rattle.std.proofs.Common.{◌∙◌}
use Rattle.swh_replies.proofs.Shapes.{IfNone-weaker, no_word, parts_of}
use Rattle.swh_replies.proofs.asked.read_path.Goals as goal

pub returns-in_default-split_at_byte-clause-none : goal.returns-in_default-split_at_byte-clause-none
returns-in_default-split_at_byte-clause-none c = λ s h.
    no_word _ c.in-Some.below.now c.in-Some.ensures.some c.in_default-split_at_byte.ensures.none s (c.without_query.ensures ∙ h.text)

pub returns-clause-none : goal.returns-clause-none
returns-clause-none c =
    let cut = c.in-Some-split_at_byte.ensures.some in
    IfNone-weaker c.asked_by.result _ _
    (λ none s h. none s (parts_of _ c.in-Some.below.now c.in-Some-split_at_byte.word.now c.in-Some-split_at_byte.tail.now c.in-Some.ensures.some cut.0 cut.1 s h.good (c.without_query.ensures ∙ h.text)))
    c.asked_by.ensures.none
