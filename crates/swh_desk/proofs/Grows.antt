-- That events are added alone, whatever is asked.
use Rattle.std.proofs.Common.{◌≡◌, inl, inr, ℕ, ◌+◌, Bool, Result, List, [], ◌∷◌, ◌++◌, refl, sym, ap, ◌∙◌, subst, append_assoc}
use Rattle.std.proofs.lemmas.List.{append-nil}
use Rattle.swh_base.specs.declared.kind.Kind.{Kind}
use Rattle.swh_base.specs.declared.request.Request.{Request}
use Rattle.swh_base.specs.declared.request.Reply.{Reply}
use Rattle.swh_outside.specs.Views.{Disks}
use Rattle.swh_model.specs.declared.event.Event.{Event}
use Rattle.swh_keeper.specs.Kept.{Kept}
use Rattle.swh_ingest.specs.declared.end.LoadFault.{LoadFault}
use Rattle.swh_loader.specs.declared.end.Loaded.{Loaded}
use Rattle.swh_http.specs.declared.ask.Ask.{Ask}
use Rattle.swh_http.specs.declared.ask.Ask.TheVariants.{Request as Asked, Refused}
use Rattle.swh_serve.specs.Turns.{Turn, AreTurns, IsReply, IsTurn}
use Rattle.swh_desk.specs.Grown.{HasGrown}
use Rattle.swh_desk.specs.Keeper.{AnswersAt, LacksAt, keeper_protocol}
use Rattle.swh_desk.specs.Posted.{IsPosted}

stays : {D : Type 0} (old new : Kept D) → new ≡ old → HasGrown old new
stays old new same = record { more = []; behind = ap (λ (k : Kept _). k.history) same ∙ sym (append-nil old.history) }

then : {D : Type 0} (a b c : Kept D) → HasGrown a b → HasGrown b c → HasGrown a c
then a b c first second =
    record { more = first.more ++ second.more; behind = second.behind ∙ ap (λ (h : List Event). h ++ second.more) first.behind ∙ append_assoc a.history first.more second.more }

module _ {D : Type 0} (id : Kind → List ℕ → List ℕ) (disks : Disks D) (date : ℕ) where
  by_load : (body origin : List ℕ) (old new : Kept D) (outcome : Result Loaded LoadFault) → IsPosted id disks date body origin old new outcome → HasGrown old new
  by_load body origin old new outcome posted = record { more = posted.load.adds.more; behind = posted.load.adds.behind }

  by_answer : (request : Request) (reply : Reply) (closes : Bool) (old new : Kept D) → AnswersAt id disks date request reply closes old new → HasGrown old new
  by_answer request reply closes old new (inl h) = stays old new h.1.same
  by_answer request reply closes old new (inr h) = by_load request.body h.origin old new h.outcome h.load

  by_want : (request : Request) (old new : Kept D) → LacksAt id disks date request old new → HasGrown old new
  by_want request old new (inl same) = stays old new same
  by_want request old new (inr h) = by_load request.body h.origin old new h.outcome h.load

  by_reply : (request : Request) (reply : Reply) (closes : Bool) (old new : Kept D) → IsReply (keeper_protocol id disks date) request reply closes old new → HasGrown old new
  by_reply request reply closes old new (inl answered) = by_answer request reply closes old new answered
  by_reply request reply closes old new (inr lacks) = by_want request old new lacks.2

  by_turn : (n : ℕ) (ask : Ask) (reply : Reply) (keep : Bool) (old new : Kept D) → IsTurn (keeper_protocol id disks date) n ask reply keep old new → HasGrown old new
  by_turn n (Asked request) reply keep old new turn = by_reply request reply turn.0 old new turn.1
  by_turn n (Refused status) reply keep old new turn = stays old new turn.2

  pub grown : (n : ℕ) (turns : List Turn) (old new : Kept D) → AreTurns (keeper_protocol id disks date) n turns old new → HasGrown old new
  grown n [] old new same = stays old new same
  grown n (t ∷ turns) old new are = then old are.0 new (by_turn n t.ask t.reply t.keep old are.0 are.1) (grown (n + 1) turns are.0 new are.3)
