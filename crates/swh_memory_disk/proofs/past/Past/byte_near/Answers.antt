use Rattle.std.proofs.Common.{◌<◌, length, reverse, inl, inr, refl, sym, ◌∙◌}
use Rattle.std.proofs.lemmas.List.{get_or_past, get_or_default}
use Rattle.swh_outside.specs.Disk.{IsOutside}
use Rattle.swh_memory_disk.proofs.past.Past.byte_near.Goals as goal

pub returns-then-keeps : goal.returns-then-keeps
returns-then-keeps c =
    let kept : (c.args.k < length c.args.self.now.base.items) × IsOutside (reverse c.args.self.now.ranges.items) c.args.k = c.keeps.ensures.0 c.if-keeps.true in
    inl (kept.0, kept.1, c.index.ensures ∙ get_or_default c.args.self.now.base.items c.args.k _ 0 kept.0)

pub returns-then-k-choice : goal.returns-then-k-choice
returns-then-k-choice c = inr ((λ lt out. let kept = c.keeps.ensures.1 (lt, out) in absurd cc), refl)

pub returns : goal.returns
returns c = inr ((λ lt out. let kept = c.keeps.ensures.1 (lt, out) in absurd cc), sym (get_or_past c.args.choice.now c.args.k 0 c.if-k-choice.false))
