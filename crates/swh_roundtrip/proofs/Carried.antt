-- What is carried, as the laws have it, is as the lemmas ask for it.
use Rattle.std.proofs.Common.{ℕ, ◌≤◌, ◌^◌, Option, List, length, arith}
use Rattle.std.specs.Prelude.{false}
use Rattle.swh_base.specs.declared.kind.Kind.{Kind}
use Rattle.swh_base.specs.declared.name.Name.{Name}
use Rattle.swh_base.specs.Name.{name_cmp, name_cmp_total, name_cmp-IsAntisymmetric}
use Rattle.swh_model.specs.Archive.{Bodies, IsGraphOf}
use Rattle.swh_postorder.specs.Cycle.{ArePreceded}
use Rattle.swh_postorder.specs.Postorder.{IsPostorder}
use Rattle.swh_carried.specs.Uncarried.{AreCarried}
use Rattle.swh_fastcarried.specs.Rules.{BreaksIn}
use Rattle.swh_marks.specs.Marks.{StandOnce}
use Rattle.swh_fastcook.specs.Stream.{IsStreamText}
use Rattle.swh_fastcook.proofs.Acyclic.{all_once, all_preceded}
use Rattle.swh_fastgrammar.specs.declared.command.Command.{Command}
use Rattle.swh_fastrows.specs.Outcome.{IsStreamWithin}
use Rattle.swh_roundtrip.specs.Commands.{AreObjectCommands, AreStreamCommands}
use Rattle.swh_roundtrip.specs.Made.{AreMadeAgain}
use Rattle.swh_roundtrip.specs.Sound.{AreInLimit, AreOfBytes, AreNamed}
use Rattle.swh_roundtrip.proofs.AimMaps.{at_self}
use Rattle.swh_roundtrip.proofs.MarkBounds.{marks_are}
use Rattle.swh_roundtrip.proofs.GoodObjects.{objects_good, tips_good, no_empty}
use Rattle.swh_roundtrip.proofs.StreamItems.{cooked_stream}
use Rattle.swh_roundtrip.proofs.Steps.{made_again_all}

module _ (bodies : Bodies) (children_of : Name → Option (List Name)) (graph : IsGraphOf bodies children_of) (root : Name) (order : List Name) (is_order : IsPostorder children_of root order) (many long : Type 0)
    (carried : AreCarried children_of (BreaksIn bodies root order many long) order) where
  pub preceded : ArePreceded children_of order
  preceded = all_preceded children_of root order is_order carried.acyclic

  pub once : StandOnce order
  once = all_once children_of root order is_order

  pub is_stream : AreInLimit bodies → AreOfBytes bodies order → (text : List ℕ) → IsStreamText bodies order root text → length text ≤ 2 ^ 32 → (commands : List Command) × AreStreamCommands bodies order root commands × IsStreamWithin 0 false text commands
  is_stream in_limit of_bytes text t short =
      let marks = marks_are bodies order root text (at_self name_cmp name_cmp_total name_cmp-IsAntisymmetric) t (omega (arith, short)) in
      cooked_stream bodies order root text
      (objects_good bodies children_of graph root order is_order preceded many long carried.none in_limit of_bytes marks)
      (tips_good bodies children_of graph root order is_order preceded many long carried.none in_limit of_bytes marks)
      t (omega (arith, short))

  pub are_made : (id : Kind → List ℕ → List ℕ) → AreNamed id bodies → (commands : List Command) → AreObjectCommands bodies order order commands → AreMadeAgain id bodies order commands
  are_made id named commands t = made_again_all id bodies order once children_of graph preceded named (no_empty bodies children_of root order is_order many long carried.none) commands t
