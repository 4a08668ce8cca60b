use Rattle.std.proofs.Common.{List, ℕ, ap, ◌∙◌, ◌++◌, ◌∷◌, []}
use Rattle.swh_dedup.proofs.Seens.{gets_other}
use Rattle.swh_dedup.proofs.places.add_other.Goals as goal

pub returns-clause-ok : goal.returns-clause-ok
returns-clause-ok c =
    gets_other c.args.digest c.args.place c.args.further.now.entries c.insert.new.self.entries c.push.new.self c.in_ok-insert.ensures.updates.0
    (c.in_ok-push.ensures.items ∙ ap (λ (t : List ℕ). t ++ c.args.place ∷ []) (c.in_ok-more.ensures.items ∙ c.others_of.ensures))
