-- Names that are cooked: all that is reached from them is held, and a stream carries it.
use Rattle.std.specs.Prelude.{◌≡◌, ℕ, Option, List}
use Rattle.swh_base.specs.declared.kind.Kind.{Kind}
use Rattle.swh_base.specs.declared.name.Name.{Name}
use Rattle.swh_base.specs.declared.request.Request.{Request}
use Rattle.swh_base.specs.declared.request.Reply.{Reply}
use Rattle.swh_model.specs.Archive.{Bodies, IsGraphOf}
use Rattle.swh_postorder.specs.Postorder.{IsPostorder}
use Rattle.swh_fastcook.specs.Cook.{IsCarriedStream, IsCookedText}
use Rattle.swh_roundtrip.specs.LoadsBack.{LoadsBack}
use Rattle.swh_replies.specs.Shape.{Cook, Spells}
use Rattle.swh_replies.specs.Answers.{plain_reply}
use Rattle.swh_api.specs.Answer.{IsMethodOf}
use Rattle.swh_api.specs.Cook.{SpellsCooked}

-- The request asks for this name to be cooked, which is no directory.
pub record AsksCook (request : Request) (name : Name) : Type 0 where
  pub text : List ℕ
  pub path : Spells request.path (Cook text)
  pub method : IsMethodOf request.method (Cook text)
  pub spells : SpellsCooked text name

-- All that is reached from the name is held, and a stream carries it.
pub record IsCarriedName (bodies : Bodies) (name : Name) : Type 0 where
  pub children_of : Name → Option (List Name)
  pub graph : IsGraphOf bodies children_of
  pub carried : IsCarriedStream bodies children_of name

-- The reply has the text that the name is cooked to, as it is.
pub record HasCookedText (bodies : Bodies) (name : Name) (reply : Reply) : Type 0 where
  pub children_of : Name → Option (List Name)
  pub graph : IsGraphOf bodies children_of
  pub text : List ℕ
  pub is : IsCookedText bodies children_of name text
  pub told : reply ≡ plain_reply text

-- The reply has the stream that the name is cooked to, as it is. With this head its text means the snapshot that the name loads
-- as, and nothing beside it but what is held. `id` gives the id of a kind and a body.
pub record HasStreamAgain (id : Kind → List ℕ → List ℕ) (bodies : Bodies) (name : Name) (head : Option (List ℕ)) (reply : Reply) : Type 0 where
  pub children_of : Name → Option (List Name)
  pub graph : IsGraphOf bodies children_of
  pub order : List Name
  pub is_order : IsPostorder children_of name order
  pub text : List ℕ
  pub told : reply ≡ plain_reply text
  pub back : LoadsBack id bodies order name head text
