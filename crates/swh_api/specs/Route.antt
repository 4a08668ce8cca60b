-- Which requests are loads.
use Rattle.std.specs.Prelude.{◌≡◌, ℕ, List, codes}
use Rattle.swh_base.specs.declared.request.Request.{Request}
use Rattle.swh_replies.specs.Shape.{Load, Spells}
use Rattle.swh_replies.specs.Answers.{SpellsUrl}
use Rattle.swh_api.specs.declared.wanted.Route.{Route}
use Rattle.swh_api.specs.declared.wanted.Route.TheVariants as route

-- The request posts a stream for this origin.
pub record AsksLoad (request : Request) (origin : List ℕ) : Type 0 where
  pub text : List ℕ
  pub path : Spells request.path (Load text)
  pub method : request.method ≡ codes "POST"
  pub url : SpellsUrl text origin

-- The request is no load.
abbrev pub AsksNoLoad : Request → Type 0
AsksNoLoad request = (origin : List ℕ) → AsksLoad request origin → ⊥

-- Which of the two a request is.
abbrev pub IsRoute : Request → Route → Type 0
IsRoute request route.Read = AsksNoLoad request
IsRoute request (route.Load origin) = AsksLoad request origin
