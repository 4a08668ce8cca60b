-- The two files of an archive that this program made: as they were before, or as its device calls and crashes leave them.
use Rattle.std.specs.Prelude.{◌≡◌, ◌⊎◌, ℕ, List, []}
use Rattle.swh_base.specs.declared.kind.Kind.{Kind}
use Rattle.swh_outside.specs.Disk.{File, IsAtRest}
use Rattle.swh_outside.specs.Files.{Files, Images, AreImages, EachImages}
use Rattle.swh_model.specs.declared.event.Event.{Event}
use Rattle.swh_model.specs.Step.{IsHistory}
use Rattle.swh_format.specs.Stands.{StandsFor}
use Rattle.swh_segment.specs.Making.{IsNotMade}
use Rattle.swh_segment.specs.Settled.{seen_of}

-- A file that is absent or empty, with nothing written since a barrier.
pub record IsUnwritten (file : File) : Type 0 where
  pub rests : IsAtRest file
  pub no_bytes : file.seen ≡ []

module _ (id_of : Kind → List ℕ → List ℕ) where
  -- The two files stand for a history.
  pub record StandForHistory (images : Images) : Type 0 where
    pub events : List Event
    pub history : IsHistory id_of events
    pub stand : StandsFor (images 0) (images 1) events

  -- They are not made, or stand for a history.
  abbrev pub AreUsable : Images → Type 0
  AreUsable images = IsNotMade (images 0) ⊎ StandForHistory images

  -- All that a crash may leave of the two files is not made, or stands for a history; and what a read gives is one of the
  -- images that a crash may leave.
  pub record AreOwn (files : Files) : Type 0 where
    pub seen : AreImages files (seen_of files)
    pub each : EachImages files AreUsable
