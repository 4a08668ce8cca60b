-- How far a load has come: the whole commands with which its text starts, what they make, and the objects of it.
use Rattle.std.specs.Prelude.{◌≡◌, ℕ, List, Contains, Ok}
use Rattle.swh_base.specs.declared.kind.Kind.{Kind}
use Rattle.swh_base.specs.declared.entry.Entry.{Entry}
use Rattle.swh_model.specs.Meaning.{Made}
use Rattle.swh_fastgrammar.specs.declared.command.Command.{Command}
use Rattle.swh_dedup.specs.Making.{made}
use Rattle.swh_dedup.specs.Whole.{AreWhole}
use Rattle.swh_fastrows.specs.Outcome.{StartsWith}
use Rattle.swh_fastrows.specs.Places.{Position}
use Rattle.swh_fastmeaning.specs.Commands.{Making, Makes, no_making, steps}
use Rattle.swh_fastmeaning.specs.Feeding.{Loading}
use Rattle.swh_fastload.specs.Input.{beginning}

-- What a loader knows after some commands is what these commands make: marks and tips, and the objects that were given.
pub record StandsFor (id : Kind → List ℕ → List ℕ) (l : Loading) (objects : List Entry) (making : Making) : Type 0 where
  pub aims : l.aims ≡ making.aims
  pub given : l.given ≡ made objects
  pub sound : (o : Made) → Contains l.given o → Makes id making o
  pub full : (o : Made) → Makes id making o → Contains l.given o
  pub whole : AreWhole id objects

-- The text starts with commands that were carried out, up to this position.
pub record HasLoaded (id : Kind → List ℕ → List ℕ) (text : List ℕ) (rest : Position) (l : Loading) (objects : List Entry) : Type 0 where
  pub commands : List Command
  pub making : Making
  pub starts : StartsWith (beginning text) rest commands
  pub makes : steps id no_making commands ≡ Ok making
  pub stands : StandsFor id l objects making
