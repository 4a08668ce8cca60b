-- What becomes of a source that is loaded.
use Rattle.std.specs.Prelude.{ℕ, Option, List}
use Rattle.swh_base.specs.declared.kind.Kind.{Kind}
use Rattle.swh_outside.specs.Faults.{Rose}
use Rattle.swh_outside.specs.Views.{Sources}
use Rattle.swh_model.specs.Meaning.{StreamMeaning}
use Rattle.swh_fastload.specs.Input.{Means, Breaks, MayBreak}
use Rattle.swh_fastload.specs.declared.bad.BadStream.{BadStream}
use Rattle.swh_fastload.specs.declared.bad.InputFault.{InputFault}
use Rattle.swh_fastload.specs.declared.bad.InputFault.TheVariants.{Bad, ReadFault, Memory}

module _ {S : Type 0} (id : Kind → List ℕ → List ℕ) (head : Option (List ℕ)) (sources : Sources S) (s : S) where
  -- Where the source tells what is left of it, those bytes mean `making`.
  abbrev pub MeansLeft : StreamMeaning → Type 0
  MeansLeft making = sources.tells → Means id head (sources.left s) making

  -- An input may break so; and where the source tells what is left of it, those bytes do break so.
  pub record BreaksLeft (bad : BadStream) : Type 0 where
    pub may : MayBreak bad
    pub breaks : sources.tells → Breaks id head (sources.left s) bad

  -- Why a source, `s` before the load and `now` after it, gives no objects: what was left of it breaks so, or it failed
  -- and its count of faults rose, or memory ran out.
  abbrev pub ExplainsSource : S → InputFault → Type 0
  ExplainsSource now (Bad bad) = BreaksLeft bad
  ExplainsSource now ReadFault = Rose (sources.faults s) (sources.faults now)
  ExplainsSource now Memory = Unit {0}
