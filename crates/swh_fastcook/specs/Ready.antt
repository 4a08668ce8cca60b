-- What is known of a stream before its first byte is written.
use Rattle.std.specs.Prelude.{Option, List, ℕ}
use Rattle.swh_base.specs.declared.name.Name.{Name}
use Rattle.swh_model.specs.Archive.{Bodies}
use Rattle.swh_postorder.specs.Postorder.{IsPostorder, IsFirstMissing}
use Rattle.swh_carried.specs.Uncarried.{AreCarried}
use Rattle.swh_carried.specs.declared.fault.CookFault.{CookFault}
use Rattle.swh_carried.specs.declared.fault.CookFault.TheVariants.{NotHeld, Uncarried, WriteFault, Memory}
use Rattle.swh_fastcook.specs.Cook.{BreaksStream, IsHeadOf, IsUncarriedStream}
use Rattle.swh_fastcook.specs.Length.{HasText}

module _ (bodies : Bodies) (children_of : Name → Option (List Name)) (root : Name) where
  -- These are the names that are reached, in their order; a stream carries them, has a text, and has this head.
  pub record IsReady (order : List Name) (head : Option (List ℕ)) : Type 0 where
    pub is_order : IsPostorder children_of root order
    pub carried : AreCarried children_of (BreaksStream bodies root order) order
    pub has_text : HasText bodies order root
    pub is_head : IsHeadOf bodies root head

  -- Why a stream is not begun. It says nothing where memory ran out.
  abbrev pub ExplainsNotReady : CookFault → Type 0
  ExplainsNotReady (NotHeld missing) = IsFirstMissing children_of root missing
  ExplainsNotReady (Uncarried name why) = IsUncarriedStream bodies children_of root name why
  ExplainsNotReady WriteFault = ⊥
  ExplainsNotReady Memory = Unit {0}
