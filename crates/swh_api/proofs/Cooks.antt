-- What is answered of a name that is to be cooked.
use Rattle.std.proofs.Common.{◌≡◌, ◌≢◌, inr, ℕ, false, Result, Ok, Err, IfOk, Option, Some, None, List, [], ◌++◌, refl, sym, ap, ◌∙◌, subst}
use Rattle.swh_base.specs.declared.kind.Kind.{Kind}
use Rattle.swh_base.specs.declared.kind.Kind.TheVariants as kind
use Rattle.swh_base.specs.declared.memory.Memory.{Memory as OutOfMemory}
use Rattle.swh_base.specs.declared.name.Name.{Name}
use Rattle.swh_base.specs.declared.request.Reply.{Reply}
use Rattle.swh_model.specs.Archive.{AreAllOfBytes, Bodies, body_of, IsGraphOf}
use Rattle.swh_postorder.proofs.Stops.{one_order, one_gap, not_order_and_gap}
use Rattle.swh_carried.specs.declared.fault.Why.{Why}
use Rattle.swh_carried.specs.declared.fault.CookFault.{CookFault}
use Rattle.swh_carried.specs.declared.fault.CookFault.TheVariants.{NotHeld, WriteFault, Memory, Uncarried as IsNotCarried}
use Rattle.swh_carried.specs.Uncarried as form
use Rattle.swh_carried.proofs.Firsts.{one_first_uncarried, not_both}
use Rattle.swh_carried.proofs.Graphs.{one_graph}
use Rattle.swh_fastcook.specs.Cook.{BreaksStream, IsCarriedStream, IsUncarriedStream, IsTextOfKind}
use Rattle.swh_fastcook.specs.Ready.{IsReady, ExplainsNotReady}
use Rattle.swh_fastcook.specs.Stream.{IsStreamOf, IsStreamText}
use Rattle.swh_fastcook.proofs.Cooked.{missing_first, content_carried, content_text, ready_carried, stream_text}
use Rattle.swh_fastcook.proofs.StreamTexts.{one_stream}
use Rattle.swh_replies.specs.Answers.{SpellsCore, plain_reply}
use Rattle.swh_replies.proofs.Unique.{one_core}
use Rattle.swh_api.specs.Carried.{IsCarriedName, HasCookedText}
use Rattle.swh_api.specs.Cook.{CookAnswer, Cooked, Missing, Uncarried, IsCookedTo, AnswersCook, IsCookAnswer, RefusesCook, cook_reply, TellsCook, IsCookFaultReply, SpellsCooked, NoCooked, IsCookReply}

-- ---- one answer over a graph

same_bytes : (a b : List ℕ) (o : Option (List ℕ)) → o ≡ Some a → o ≡ Some b → a ≡ b
same_bytes a b o e f = let both = sym e ∙ f in cc

module _ (bodies : Bodies) (children_of : Name → Option (List Name)) (root : Name) where
  one_stream_of : (a b : List ℕ) → IsStreamOf bodies children_of root a → IsStreamOf bodies children_of root b → a ≡ b
  one_stream_of a b h k =
      let same = one_order children_of root h.order k.order h.is_order k.is_order in
      one_stream bodies k.order root a b (subst (λ (order : List Name). IsStreamText bodies order root a) same h.is) k.is

  one_text_of : (kind : Kind) (a b : List ℕ) → IsTextOfKind bodies children_of root kind a → IsTextOfKind bodies children_of root kind b → a ≡ b
  one_text_of kind.Content a b h k = same_bytes a b (body_of bodies root) h k
  one_text_of kind.Directory a b h k = one_stream_of a b h k
  one_text_of kind.Revision a b h k = one_stream_of a b h k
  one_text_of kind.Release a b h k = one_stream_of a b h k
  one_text_of kind.Snapshot a b h k = one_stream_of a b h k

  uncarried_once : (m n : Name) (a b : Why) → IsUncarriedStream bodies children_of root m a → IsUncarriedStream bodies children_of root n b → (m ≡ n) × (a ≡ b)
  uncarried_once m n a b h k =
      let same = one_order children_of root h.order k.order h.is_order k.is_order in
      one_first_uncarried children_of (BreaksStream bodies root k.order) k.order m n a b
      (subst (λ (order : List Name). form.IsUncarried children_of (BreaksStream bodies root order) order m a) same h.is) k.is

  carried_or : (name : Name) (why : Why) → IsCarriedStream bodies children_of root → IsUncarriedStream bodies children_of root name why → ⊥
  carried_or name why c u =
      let same = one_order children_of root u.order c.order u.is_order c.is_order in
      not_both children_of (BreaksStream bodies root c.order) c.order name why c.carried
      (subst (λ (order : List Name). form.IsUncarried children_of (BreaksStream bodies root order) order name why) same u.is)

  one_answer_over : (a b : CookAnswer) → AnswersCook bodies children_of root a → AnswersCook bodies children_of root b → a ≡ b
  one_answer_over (Cooked s) (Cooked t) h k = ap Cooked (one_text_of root.kind s t h.is k.is)
  one_answer_over (Cooked s) (Missing n) h k = absurd (not_order_and_gap children_of root n h.carried.order h.carried.is_order k)
  one_answer_over (Cooked s) (Uncarried n w) h k = absurd (carried_or n w h.carried k)
  one_answer_over (Missing m) (Cooked t) h k = absurd (not_order_and_gap children_of root m k.carried.order k.carried.is_order h)
  one_answer_over (Missing m) (Missing n) h k = ap Missing (one_gap children_of root m n h k)
  one_answer_over (Missing m) (Uncarried n w) h k = absurd (not_order_and_gap children_of root m k.order k.is_order h)
  one_answer_over (Uncarried m v) (Cooked t) h k = absurd (carried_or m v k.carried h)
  one_answer_over (Uncarried m v) (Missing n) h k = absurd (not_order_and_gap children_of root n h.order h.is_order k)
  one_answer_over (Uncarried m v) (Uncarried n w) h k =
      let same = uncarried_once m n v w h k in
      ap (λ (name : Name). Uncarried name v) same.0 ∙ ap (λ (why : Why). Uncarried n why) same.1

-- ---- one answer over bodies

module _ (bodies : Bodies) (root : Name) where
  pub one_cook_answer : (a b : CookAnswer) → IsCookAnswer bodies root a → IsCookAnswer bodies root b → a ≡ b
  one_cook_answer a b h k =
      let same = one_graph bodies h.children_of k.children_of h.graph k.graph in
      one_answer_over bodies k.children_of root a b (subst (λ (f : Name → Option (List Name)). AnswersCook bodies f root a) same h.is) k.is

  pub one_cook_told : (r s : Reply) → TellsCook bodies root r → TellsCook bodies root s → r ≡ s
  one_cook_told r s h k = h.told ∙ ap cook_reply (one_cook_answer h.answer k.answer h.is_answer k.is_answer) ∙ sym k.told

-- ---- how a cook ends

module _ (bodies : Bodies) (children_of : Name → Option (List Name)) (graph : IsGraphOf bodies children_of) (root : Name) where
  answered : (answer : CookAnswer) → AnswersCook bodies children_of root answer → IsCookAnswer bodies root answer
  answered answer is = record { children_of = children_of; graph = graph; is = is }

  pub not_ready : (fault : CookFault) → ExplainsNotReady bodies children_of root fault → RefusesCook bodies root fault
  not_ready (NotHeld missing) h = answered (Missing missing) h
  not_ready (IsNotCarried name why) h = answered (Uncarried name why) h
  not_ready WriteFault h = tt
  not_ready Memory h = tt

  pub written : (other : root.kind ≢ kind.Content) (order : List Name) (head : Option (List ℕ)) → IsReady bodies children_of root order head → AreAllOfBytes bodies → (all text : List ℕ) → IsStreamText bodies order root all → text ≡ all → IsCookAnswer bodies root (Cooked text)
  written other order head ready bytes all text is same =
      answered (Cooked text)
      (record {
        carried = ready_carried bodies children_of root other order head ready;
        of_bytes = bytes;
        is = stream_text bodies children_of root other order head ready text (subst (IsStreamText bodies order root) (sym same) is);
      })

  pub missing_told : (r : Result Reply OutOfMemory) → body_of bodies root ≡ None → IfOk r (λ reply. reply ≡ cook_reply (Missing root)) → IfOk r (TellsCook bodies root)
  missing_told (Err e) none told = tt
  missing_told (Ok reply) none told = record { answer = Missing root; is_answer = answered (Missing root) (missing_first bodies children_of graph root none); told = told }

  module _ (is : root.kind ≡ kind.Content) (body : List ℕ) (held : body_of bodies root ≡ Some body) (bytes : AreAllOfBytes bodies) where
    pub content_answer : IsCookAnswer bodies root (Cooked body)
    content_answer = answered (Cooked body) (record {
      carried = content_carried bodies children_of graph root is body held;
      of_bytes = bytes;
      is = content_text bodies children_of graph root is body held;
    })

pub refused_told : (bodies : Bodies) (root : Name) (fault : CookFault) (r : Result Reply OutOfMemory) → RefusesCook bodies root fault → IfOk r (IsCookFaultReply fault) → IfOk r (TellsCook bodies root)
refused_told bodies root fault (Err e) h told = tt
refused_told bodies root (NotHeld missing) (Ok reply) h told = record { answer = Missing missing; is_answer = h; told = told }
refused_told bodies root (IsNotCarried name why) (Ok reply) h told = record { answer = Uncarried name why; is_answer = h; told = told }
refused_told bodies root WriteFault (Ok reply) h told = absurd told
refused_told bodies root Memory (Ok reply) h told = absurd told

pub text_told : (bodies : Bodies) (root : Name) (text body : List ℕ) → IsCookAnswer bodies root (Cooked text) → body ≡ text → TellsCook bodies root (record { status = 200; json = false; body = body })
text_told bodies root text body h same = record { answer = Cooked text; is_answer = h; told = ap plain_reply same }

pub named_told : (bodies : Bodies) (text : List ℕ) (name : Name) (r : Result Reply OutOfMemory) → SpellsCooked text name → IfOk r (TellsCook bodies name) → IfOk r (IsCookReply bodies text)
named_told bodies text name (Err e) spells told = tt
named_told bodies text name (Ok reply) spells told = inr (name, spells, told)

-- the core identifier of a directory is no other name's
pub no_directory : (text : List ℕ) (directory : Name) → SpellsCore text directory → directory.kind ≡ kind.Directory → NoCooked text
no_directory text directory spells is name h = h.other (ap (λ (n : Name). n.kind) (one_core text name directory h.core spells) ∙ is)

-- ---- names that are carried

module _ (bodies : Bodies) (name : Name) (carried : IsCarriedName bodies name) where
  abbrev over : Name → Option (List Name)
  over = carried.children_of

  carried_over : (answer : CookAnswer) (reply : Reply) → AnswersCook bodies over name answer → reply ≡ cook_reply answer → HasCookedText bodies name reply
  carried_over (Cooked text) reply is told = record { children_of = over; graph = carried.graph; text = text; is = is.is; told = told }
  carried_over (Missing missing) reply is told = absurd (not_order_and_gap over name missing carried.carried.order carried.carried.is_order is)
  carried_over (Uncarried other why) reply is told = absurd (carried_or bodies over name other why carried.carried is)

  pub carried_told : (reply : Reply) → TellsCook bodies name reply → HasCookedText bodies name reply
  carried_told reply t =
      let h = t.is_answer in
      let same = one_graph bodies h.children_of over h.graph carried.graph in
      carried_over t.answer reply (subst (λ (f : Name → Option (List Name)). AnswersCook bodies f name t.answer) same h.is) t.told
