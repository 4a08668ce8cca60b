-- What is answered to who asks for a name to be cooked: a content as its bytes, and each other name that is no directory as the
-- stream (git-fast-import(1)) of all that is reached from it.
use Rattle.std.specs.Prelude.{◌≡◌, ◌≢◌, ◌⊎◌, ℕ, Option, List, codes}
use Rattle.swh_base.specs.declared.kind.Kind.TheVariants.{Directory}
use Rattle.swh_base.specs.declared.name.Name.{Name}
use Rattle.swh_base.specs.declared.request.Reply.{Reply}
use Rattle.swh_model.specs.Archive.{AreAllOfBytes, Bodies, IsGraphOf}
use Rattle.swh_postorder.specs.Postorder.{IsFirstMissing}
use Rattle.swh_carried.specs.declared.fault.Why.{Why}
use Rattle.swh_carried.specs.Words.{why_word}
use Rattle.swh_carried.specs.declared.fault.CookFault.{CookFault}
use Rattle.swh_carried.specs.declared.fault.CookFault.TheVariants.{NotHeld, WriteFault, Memory, Uncarried as IsNotCarried}
use Rattle.swh_fastcook.specs.Cook.{IsCarriedStream, IsUncarriedStream, IsCookedText}
use Rattle.swh_replies.specs.Json.{uncarried_data, tree_reply}
use Rattle.swh_replies.specs.Answers.{SpellsCore, bad_text, not_held, plain_reply}

-- the text of a name; or the first name that a walk enters and that is not held; or the first that a stream cannot carry, and why
pub data CookAnswer : Type 0 where
  Cooked : List ℕ → CookAnswer
  Missing : Name → CookAnswer
  Uncarried : Name → Why → CookAnswer

-- what is answered of a root, over a graph
module _ (bodies : Bodies) (children_of : Name → Option (List Name)) (root : Name) where
  -- A stream carries all that is reached, and the root is cooked to this text. The bodies are made of bytes, as all is
  -- that lies in memory.
  pub record IsCookedTo (text : List ℕ) : Type 0 where
    pub carried : IsCarriedStream bodies children_of root
    pub of_bytes : AreAllOfBytes bodies
    pub is : IsCookedText bodies children_of root text

  abbrev pub AnswersCook : CookAnswer → Type 0
  AnswersCook (Cooked text) = IsCookedTo text
  AnswersCook (Missing missing) = IsFirstMissing children_of root missing
  AnswersCook (Uncarried name why) = IsUncarriedStream bodies children_of root name why

-- It is the answer over the graph of the bodies.
pub record IsCookAnswer (bodies : Bodies) (root : Name) (answer : CookAnswer) : Type 0 where
  pub children_of : Name → Option (List Name)
  pub graph : IsGraphOf bodies children_of
  pub is : AnswersCook bodies children_of root answer

-- The fault tells the answer. It says nothing where memory ran out, for which alone a text in memory is broken off.
abbrev pub RefusesCook : Bodies → Name → CookFault → Type 0
RefusesCook bodies root (NotHeld missing) = IsCookAnswer bodies root (Missing missing)
RefusesCook bodies root (IsNotCarried name why) = IsCookAnswer bodies root (Uncarried name why)
RefusesCook bodies root WriteFault = Unit {0}
RefusesCook bodies root Memory = Unit {0}

-- ---- replies

-- the reply that tells an answer: a text as it is
abbrev pub cook_reply : CookAnswer → Reply
cook_reply (Cooked text) = plain_reply text
cook_reply (Missing missing) = not_held missing
cook_reply (Uncarried name why) = tree_reply 422 (uncarried_data name (why_word why))

-- The reply tells the answer of a root.
pub record TellsCook (bodies : Bodies) (root : Name) (reply : Reply) : Type 0 where
  pub answer : CookAnswer
  pub is_answer : IsCookAnswer bodies root answer
  pub told : reply ≡ cook_reply answer

-- The reply tells why a name has no text. Want of memory has none.
abbrev pub IsCookFaultReply : CookFault → Reply → Type 0
IsCookFaultReply (NotHeld missing) reply = reply ≡ cook_reply (Missing missing)
IsCookFaultReply (IsNotCarried name why) reply = reply ≡ cook_reply (Uncarried name why)
IsCookFaultReply WriteFault reply = ⊥
IsCookFaultReply Memory reply = ⊥

-- The text is the core identifier of a name that is no directory.
pub record SpellsCooked (text : List ℕ) (name : Name) : Type 0 where
  pub core : SpellsCore text name
  pub other : name.kind ≢ Directory

-- The text is no core identifier, or a directory's.
abbrev pub NoCooked : List ℕ → Type 0
NoCooked text = (name : Name) → SpellsCooked text name → ⊥

-- what is answered to who asks for the name to be cooked whose core identifier a text is
abbrev pub IsCookReply : Bodies → List ℕ → Reply → Type 0
IsCookReply bodies text reply =
    (NoCooked text × (reply ≡ bad_text))
    ⊎ ((name : Name) × SpellsCooked text name × TellsCook bodies name reply)
