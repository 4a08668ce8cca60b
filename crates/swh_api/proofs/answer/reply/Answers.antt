use Rattle.std.proofs.Common.{rules, ℕ, List, subst}
use Rattle.swh_replies.specs.Shape.{Spells, shape_of}
use Rattle.swh_api.specs.Answer.{IsMethodOf}
use Rattle.swh_api.proofs.Loads.{no_url}
use Rattle.swh_api.proofs.answer.reply.Goals as goal

pub reply_to-requires : goal.reply_to-requires
reply_to-requires g c =
    let shape = shape_of c.in-Some.asked in
    let method = c.if-not-is_method_of.ensures.0 (search rules) in
    no_url c.args.request.now shape c.requires (subst (λ (path : List ℕ). Spells path shape) c.as_slice.ensures c.in-Some.ensures.some) (subst (λ (m : List ℕ). IsMethodOf m shape) c.as_slice-2.ensures method)
