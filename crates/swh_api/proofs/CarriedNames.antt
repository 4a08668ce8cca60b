-- That a name is cooked of which all is held and carried, and that what is answered loads back.
use Rattle.std.proofs.Common.{◌≡◌, ◌≢◌, inl, inr, ℕ, Option, List, ap, ◌∙◌, sym, subst, arith}
use Rattle.swh_base.specs.declared.kind.Kind.{Kind}
use Rattle.swh_base.specs.declared.kind.Kind.TheVariants as kind
use Rattle.swh_base.specs.declared.name.Name.{Name}
use Rattle.swh_base.specs.declared.request.Request.{Request}
use Rattle.swh_base.specs.declared.request.Reply.{Reply}
use Rattle.swh_model.specs.Archive.{Archive, Bodies}
use Rattle.swh_model.specs.declared.event.Event.{Event}
use Rattle.swh_model.specs.Step.{IsHistory, replay}
use Rattle.swh_fastcook.specs.Cook.{IsHeadOf}
use Rattle.swh_roundtrip.proofs.Reached.{reached_back}
use Rattle.swh_replies.specs.Shape.{Shape, Cook}
use Rattle.swh_replies.proofs.Shapes.{one_shape}
use Rattle.swh_replies.proofs.Unique.{one_core}
use Rattle.swh_api.specs.Answer.{IsReplyTo, IsAnswer}
use Rattle.swh_api.specs.Carried.{AsksCook, IsCarriedName, HasCookedText, HasStreamAgain}
use Rattle.swh_api.specs.Cook.{CookAnswer, Cooked, Missing, Uncarried, IsCookAnswer, SpellsCooked, cook_reply, TellsCook, IsCookReply}
use Rattle.swh_api.proofs.Cooks.{carried_told}

-- what is answered of the name that a text is
cook_told : (bodies : Bodies) (name : Name) (text : List ℕ) → SpellsCooked text name → (reply : Reply) → IsCookReply bodies text reply → TellsCook bodies name reply
cook_told bodies name text spells reply (inl h) = absurd (h.0 name spells)
cook_told bodies name text spells reply (inr h) = subst (λ (n : Name). TellsCook bodies n reply) (one_core text h.0 name h.1.core spells.core) h.2

module _ (a : Archive) (request : Request) (name : Name) (asks : AsksCook request name) where
  reply_told : (reply : Reply) → IsReplyTo a request (Cook asks.text) reply → TellsCook a.bodies name reply
  reply_told reply (inl h) = absurd (h.0 asks.method)
  reply_told reply (inr h) = cook_told a.bodies name asks.text asks.spells reply h.1

  answer_told : (reply : Reply) → IsAnswer a request reply → TellsCook a.bodies name reply
  answer_told reply (inl h) = absurd (h.0 (Cook asks.text) asks.path)
  answer_told reply (inr h) =
      reply_told reply (subst (λ (shape : Shape). IsReplyTo a request shape reply) (one_shape request.path h.0 (Cook asks.text) h.1 asks.path) h.2)

  pub cooked_if_carried : IsCarriedName a.bodies name → (reply : Reply) → IsAnswer a request reply → HasCookedText a.bodies name reply
  cooked_if_carried carried reply is = carried_told a.bodies name carried reply (answer_told reply is)

-- ---- that what is answered loads back

module _ (id : Kind → List ℕ → List ℕ) (h : List Event) (happens : IsHistory id h) (name : Name) (no_content : name.kind ≢ kind.Content) (no_directory : name.kind ≢ kind.Directory) (head : Option (List ℕ)) (is_head : IsHeadOf (replay h).bodies name head) (reply : Reply) (good : reply.status ≡ 200) where
  again_by : (answer : CookAnswer) → IsCookAnswer (replay h).bodies name answer → reply ≡ cook_reply answer → HasStreamAgain id (replay h).bodies name head reply
  again_by (Cooked text) is told =
      let c = is.is.carried in
      record {
        children_of = is.children_of;
        graph = is.graph;
        order = c.order;
        is_order = c.is_order;
        text = text;
        told = told;
        back = reached_back id h is.children_of name text head c happens is.graph (λ n reached body directory held. is.is.of_bytes n body held) no_content no_directory is.is.is is_head;
      }
  again_by (Missing missing) is told = absurd (omega (arith, good, ap (λ (r : Reply). r.status) told))
  again_by (Uncarried other why) is told = absurd (omega (arith, good, ap (λ (r : Reply). r.status) told))

pub answered_again : (id : Kind → List ℕ → List ℕ) (h : List Event) (request : Request) (name : Name) (head : Option (List ℕ)) (reply : Reply) → IsHistory id h → AsksCook request name → name.kind ≢ kind.Content → IsHeadOf (replay h).bodies name head → IsAnswer (replay h) request reply → reply.status ≡ 200
    → HasStreamAgain id (replay h).bodies name head reply
answered_again id h request name head reply happens asks no_content is_head is good =
    let t = answer_told (replay h) request name asks reply is in
    again_by id h happens name no_content asks.spells.other head is_head reply good t.answer t.is_answer t.told
