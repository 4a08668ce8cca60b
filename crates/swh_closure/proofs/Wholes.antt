-- Names with all that is reached from them: each is closed, and a walk makes more of them.
use Rattle.std.proofs.Common.{◌⊎◌, inl, inr, List, [], ◌∷◌, subst}
use Rattle.std.specs.Prelude.{Contains}
use Rattle.swh_base.specs.Reach.{Reaches, IsWalk, AreClosed, IsCovered, Certifies, Grows}
use Rattle.swh_closure.specs.Whole.{IsWhole}

module _ {X : Type 0} (IsHeld : X → Type 0) (IsChild : X → X → Type 0) where
  walked : (names nodes : List X) (from n : X) → IsWhole IsHeld IsChild names → Contains names from → IsWalk IsChild from nodes n → Contains names n
  walked names [] from n whole there e = subst (Contains names) e there
  walked names (next ∷ nodes) from n whole there walk = walked names nodes next n whole (whole.kids from next there walk.0) walk.1

  -- what is reached from one of them is one of them
  pub whole-reached : (names : List X) (from n : X) → IsWhole IsHeld IsChild names → Contains names from → Reaches IsChild from n → Contains names n
  whole-reached names from n whole there (nodes, walk) = walked names nodes from n whole there walk

  pub whole-closed : (names : List X) → IsWhole IsHeld IsChild names → AreClosed IsHeld IsChild names
  whole-closed names whole from there n reached = whole.held n (whole-reached names from n whole there reached)

  -- both lists together are the third
  pub record AreJoined (closed nodes both : List X) : Type 0 where
    pub stays : (n : X) → Contains closed n → Contains both n
    pub join : (n : X) → Contains nodes n → Contains both n
    pub only : (n : X) → Contains both n → Contains closed n ⊎ Contains nodes n

  module _ (closed nodes both : List X) (root : X) (are : AreJoined closed nodes both) (by : Certifies IsHeld IsChild closed nodes root) where
    covered-joined : (n : X) → IsCovered closed nodes n → Contains both n
    covered-joined n (inl listed) = are.join n listed
    covered-joined n (inr known) = are.stays n known

    pub whole-joined : IsWhole IsHeld IsChild closed → IsWhole IsHeld IsChild both
    whole-joined whole =
        record {
          held = λ n there. elim (are.only n there) [ inl known ↦ whole.held n known | inr listed ↦ by.held n listed ];
          kids = λ n child there is. elim (are.only n there) [
            | inl known ↦ are.stays child (whole.kids n child known is)
            | inr listed ↦ covered-joined child (by.kids n child listed is)
          ];
        }

    -- all that is reached from the root is there
    pub reached-joined : IsWhole IsHeld IsChild closed → (n : X) → Reaches IsChild root n → Contains both n
    reached-joined whole n reached = whole-reached both root n (whole-joined whole) (covered-joined root by.begins) reached

-- in a graph that grew they are whole
pub whole-grows : {X : Type 0} (IsHeld : X → Type 0) (IsChild : X → X → Type 0) (IsHeldLater : X → Type 0) (IsChildLater : X → X → Type 0) (names : List X)
    → Grows IsHeld IsChild IsHeldLater IsChildLater → IsWhole IsHeld IsChild names → IsWhole IsHeldLater IsChildLater names
whole-grows IsHeld IsChild IsHeldLater IsChildLater names grows whole =
    record {
      held = λ n there. grows.held n (whole.held n there);
      kids = λ n child there is. whole.kids n child there (grows.kids n child (whole.held n there) is);
    }
