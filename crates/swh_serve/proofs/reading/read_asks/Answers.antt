use Rattle.std.proofs.Common.{◌≡◌, ◌++◌, [], sym, ◌∙◌}
use Rattle.std.proofs.lemmas.List.{append-nil}
use Rattle.swh_serve.proofs.Heard.{heard-end, heard-piece}
use Rattle.swh_serve.proofs.reading.read_asks.Goals as goal

pub returns-in_default-clause-read : goal.returns-in_default-clause-read
returns-in_default-clause-read g c = λ held is. (
  λ tells. (c.in_default.ensures.heard tells).none ∙ sym (append-nil (g.L.Source.given c.args.link.now)),
  λ tells. (c.in_default.ensures.heard tells).same_end,
)

pub returns-in_default-clause-same_taken : goal.returns-in_default-clause-same_taken
returns-in_default-clause-same_taken g c =
    sym ((g.met.L.Link g.world.𝓛 g.world.𝓜 g.world.𝓡 ((λ s x. x), (λ x. x), (λ x. x), λ x. x)).puts_stay c.get.new.self) ∙ c.get.ensures.same_put ∙ (g.met.L.Link g.world.𝓛 g.world.𝓜 g.world.𝓡 ((λ s x. x), (λ x. x), (λ x. x), λ x. x)).puts_stay c.args.link.now

pub returns-in_default-clause-cause : goal.returns-in_default-clause-cause
returns-in_default-clause-cause g c = record { later = c.in_default.ensures.cause.later; rose = c.in_default.ensures.cause.failed }

pub returns-then-count-eq0-clause-read : goal.returns-then-count-eq0-clause-read
returns-then-count-eq0-clause-read g c = λ held is. (
  is,
  λ tells. (heard-end (g.L.Source.given c.args.link.now) (g.L.Source.ended c.args.link.now) _ (g.L.Source.given c.get.new.self) (g.L.Source.ended c.get.new.self) c.in-Ok.count (c.in-Ok.ensures.heard tells) c.if-count-eq0.true).0,
  λ tells. (heard-end (g.L.Source.given c.args.link.now) (g.L.Source.ended c.args.link.now) _ (g.L.Source.given c.get.new.self) (g.L.Source.ended c.get.new.self) c.in-Ok.count (c.in-Ok.ensures.heard tells) c.if-count-eq0.true).1,
)

pub returns-then-count-eq0-clause-same_taken : goal.returns-then-count-eq0-clause-same_taken
returns-then-count-eq0-clause-same_taken g c =
    sym ((g.met.L.Link g.world.𝓛 g.world.𝓜 g.world.𝓡 ((λ s x. x), (λ x. x), (λ x. x), λ x. x)).puts_stay c.get.new.self) ∙ c.get.ensures.same_put ∙ (g.met.L.Link g.world.𝓛 g.world.𝓜 g.world.𝓡 ((λ s x. x), (λ x. x), (λ x. x), λ x. x)).puts_stay c.args.link.now

pub returns-in-Ok-feed-clause-same_taken : goal.returns-in-Ok-feed-clause-same_taken
returns-in-Ok-feed-clause-same_taken g c =
    sym ((g.met.L.Link g.world.𝓛 g.world.𝓜 g.world.𝓡 ((λ s x. x), (λ x. x), (λ x. x), λ x. x)).puts_stay c.get.new.self) ∙ c.get.ensures.same_put ∙ (g.met.L.Link g.world.𝓛 g.world.𝓜 g.world.𝓡 ((λ s x. x), (λ x. x), (λ x. x), λ x. x)).puts_stay c.args.link.now

pub returns-in-Err-clause-same_taken : goal.returns-in-Err-clause-same_taken
returns-in-Err-clause-same_taken g c =
    sym ((g.met.L.Link g.world.𝓛 g.world.𝓜 g.world.𝓡 ((λ s x. x), (λ x. x), (λ x. x), λ x. x)).puts_stay c.get.new.self) ∙ c.get.ensures.same_put ∙ (g.met.L.Link g.world.𝓛 g.world.𝓜 g.world.𝓡 ((λ s x. x), (λ x. x), (λ x. x), λ x. x)).puts_stay c.args.link.now
