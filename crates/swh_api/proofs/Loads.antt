-- Which paths are those of loads.
use Rattle.std.proofs.Common.{◌≡◌, ◌≢◌, inl, inr, ℕ, Bor, List, codes, refl, ap, ◌∙◌, sym, subst}
use Rattle.swh_base.specs.declared.request.Request.{Request}
use Rattle.swh_replies.specs.declared.asked.Asked.{Asked}
use Rattle.swh_replies.specs.declared.asked.Asked.TheVariants as asked
use Rattle.swh_replies.specs.Shape.{Shape, Load, Spells, shape_of}
use Rattle.swh_replies.specs.Answers.{NoUrl}
use Rattle.swh_replies.proofs.Shapes.{one_shape}
use Rattle.swh_api.specs.Answer.{method_of, IsMethodOf}
use Rattle.swh_api.specs.Route.{AsksNoLoad}

other_shape : (a : Asked) (text : List ℕ) → ((x : Bor (List ℕ)) → a ≢ asked.Load x) → shape_of a ≡ Load text → ⊥
other_shape (asked.Load x) text other same = other x refl
other_shape a text other same = cc

pub no_load : (path : List ℕ) (a : Asked) → Spells path (shape_of a) → ((x : Bor (List ℕ)) → a ≢ asked.Load x) → (text : List ℕ) → Spells path (Load text) → ⊥
no_load path a spells other text is = other_shape a text other (one_shape path (shape_of a) (Load text) spells is)

post_is_no_get : codes "POST" ≡ codes "GET" → ⊥
post_is_no_get e = cc

-- the path of a load is asked by POST alone
posted : (method : List ℕ) (shape : Shape) (url : List ℕ) → shape ≡ Load url → IsMethodOf method shape → method ≡ codes "POST"
posted method shape url same (inl is) = is ∙ ap method_of same
posted method shape url same (inr is) = absurd (post_is_no_get (sym (ap method_of same) ∙ is.1))

-- the text of a path of a load is no URL, where the request is none
pub no_url : (request : Request) (shape : Shape) → AsksNoLoad request → Spells request.path shape → IsMethodOf request.method shape → (url : List ℕ) → shape ≡ Load url → NoUrl url
no_url request shape none spells method url same origin is =
    none origin (record { text = url; path = subst (Spells request.path) same spells; method = posted request.method shape url same method; url = is })
