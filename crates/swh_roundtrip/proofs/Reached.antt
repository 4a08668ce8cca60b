-- Names in the order of a walk are those that are reached; so what is cooked of them loads back.
use Rattle.std.proofs.Common.{◌≢◌, ℕ, Option, List, refl, subst}
use Rattle.swh_base.specs.declared.kind.Kind.{Kind}
use Rattle.swh_base.specs.declared.kind.Kind.TheVariants.{Content, Directory, Revision, Release, Snapshot}
use Rattle.swh_base.specs.declared.name.Name.{Name}
use Rattle.swh_model.specs.Archive.{Bodies, IsGraphOf}
use Rattle.swh_model.specs.declared.event.Event.{Event}
use Rattle.swh_model.specs.Step.{IsHistory, replay}
use Rattle.swh_postorder.specs.Postorder.{IsPostorder}
use Rattle.swh_postorder.proofs.Orders.{order_are}
use Rattle.swh_postorder.proofs.Stops.{one_order}
use Rattle.swh_fastcook.specs.Cook.{IsCarriedStream, IsCookedText, IsHeadOf, IsTextOfKind}
use Rattle.swh_fastcook.specs.Stream.{IsStreamText, IsStreamOf}
use Rattle.swh_roundtrip.specs.LoadsBack.{LoadsBack}
use Rattle.swh_roundtrip.specs.Sound.{AreInLimit, AreNamed, AreOfBytes, AreReachedOfBytes}
use Rattle.swh_roundtrip.proofs.Histories.{named_bodies, bodies_in_limit}
use Rattle.swh_roundtrip.proofs.LoadingBack.{loads_back}

module _ (bodies : Bodies) (children_of : Name → Option (List Name)) (root : Name) (order : List Name) (is_order : IsPostorder children_of root order) where
  pub order_of_bytes : AreReachedOfBytes bodies children_of root → AreOfBytes bodies order
  order_of_bytes bytes n there = bytes n ((order_are children_of root order is_order n).0 there)

module _ (id : Kind → List ℕ → List ℕ) (bodies : Bodies) (children_of : Name → Option (List Name)) (root : Name) (text : List ℕ) (head : Option (List ℕ)) where
  stream_of : (kind : Kind) → kind ≢ Content → IsTextOfKind bodies children_of root kind text → IsStreamOf bodies children_of root text
  stream_of Content no_content t = absurd (no_content refl)
  stream_of Directory no_content t = t
  stream_of Revision no_content t = t
  stream_of Release no_content t = t
  stream_of Snapshot no_content t = t

  -- what cooking tells of a name loads back
  text_back : (c : IsCarriedStream bodies children_of root) → AreNamed id bodies → AreInLimit bodies → IsGraphOf bodies children_of → AreReachedOfBytes bodies children_of root → root.kind ≢ Content → root.kind ≢ Directory → IsCookedText bodies children_of root text → IsHeadOf bodies root head
      → LoadsBack id bodies c.order root head text
  text_back c named in_limit graph bytes no_content no_directory t h =
      let s = stream_of root.kind no_content t in
      loads_back id bodies children_of graph root c.order c.is_order c.carried named in_limit (order_of_bytes bodies children_of root c.order c.is_order bytes) no_content no_directory text
      (subst (λ (o : List Name). IsStreamText bodies o root text) (one_order children_of root s.order c.order s.is_order c.is_order) s.is) head h

-- out of the archive of a history
pub reached_back : (id : Kind → List ℕ → List ℕ) (h : List Event) (children_of : Name → Option (List Name)) (root : Name) (text : List ℕ) (head : Option (List ℕ)) (c : IsCarriedStream (replay h).bodies children_of root) → IsHistory id h → IsGraphOf (replay h).bodies children_of
    → AreReachedOfBytes (replay h).bodies children_of root → root.kind ≢ Content → root.kind ≢ Directory → IsCookedText (replay h).bodies children_of root text → IsHeadOf (replay h).bodies root head → LoadsBack id (replay h).bodies c.order root head text
reached_back id h children_of root text head c happens graph bytes no_content no_directory t is_head =
    text_back id (replay h).bodies children_of root text head c (named_bodies id h happens) (bodies_in_limit id h happens) graph bytes no_content no_directory t is_head
