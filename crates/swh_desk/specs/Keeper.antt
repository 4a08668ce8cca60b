-- What is answered over a keeper to which nobody else adds.
use Rattle.std.specs.Prelude.{◌≡◌, ◌⊎◌, ℕ, Bool, false, Result, List}
use Rattle.swh_base.specs.declared.kind.Kind.{Kind}
use Rattle.swh_base.specs.declared.request.Request.{Request}
use Rattle.swh_base.specs.declared.request.Reply.{Reply}
use Rattle.swh_outside.specs.Views.{Disks}
use Rattle.swh_model.specs.Step.{replay}
use Rattle.swh_keeper.specs.Kept.{Kept}
use Rattle.swh_ingest.specs.declared.end.LoadFault.{LoadFault}
use Rattle.swh_loader.specs.declared.end.Loaded.{Loaded}
use Rattle.swh_api.specs.Answer.{IsAnswer}
use Rattle.swh_api.specs.Route.{AsksLoad, AsksNoLoad}
use Rattle.swh_serve.specs.Desk.{Protocol}
use Rattle.swh_desk.specs.Outcome.{IsOutcomeReply}
use Rattle.swh_desk.specs.Posted.{IsPosted}

-- A request that is no load was answered: by what the history makes, whether or not a disk has failed. The keeper is as it was.
pub record IsReadAt {D : Type 0} (request : Request) (reply : Reply) (closes : Bool) (old new : Kept D) : Type 0 where
  pub answer : IsAnswer (replay old.history) request reply
  pub same : new ≡ old
  pub stays : closes ≡ false

module _ {D : Type 0} (id : Kind → List ℕ → List ℕ) (disks : Disks D) (date : ℕ) where
  -- A posted stream was loaded, and the reply tells what this came to.
  pub record IsLoadedAt (request : Request) (reply : Reply) (closes : Bool) (old new : Kept D) : Type 0 where
    pub origin : List ℕ
    pub asks : AsksLoad request origin
    pub outcome : Result Loaded LoadFault
    pub load : IsPosted id disks date request.body origin old new outcome
    pub told : IsOutcomeReply origin outcome reply closes

  -- A posted stream was loaded, and there was no memory for the load, or none for its reply.
  pub record IsLoadedUntold (request : Request) (old new : Kept D) : Type 0 where
    pub origin : List ℕ
    pub asks : AsksLoad request origin
    pub outcome : Result Loaded LoadFault
    pub load : IsPosted id disks date request.body origin old new outcome

  -- A request was answered over the keeper.
  abbrev pub AnswersAt : Request → Reply → Bool → Kept D → Kept D → Type 0
  AnswersAt request reply closes old new =
      (AsksNoLoad request × IsReadAt request reply closes old new) ⊎ IsLoadedAt request reply closes old new

  -- Memory ran out: the keeper is as it was, or a posted stream was loaded.
  abbrev pub LacksAt : Request → Kept D → Kept D → Type 0
  LacksAt request old new = (new ≡ old) ⊎ IsLoadedUntold request old new

  -- what is said of a keeper's states: it may always be asked, also where a disk has failed
  abbrev pub keeper_protocol : Protocol (Kept D)
  keeper_protocol = record {
    ready = λ k. Unit {0};
    answers = AnswersAt;
    lacks = LacksAt;
  }
