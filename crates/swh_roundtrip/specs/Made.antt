-- What the commands of objects make again: marks that lead to their names, and objects that are held.
use Rattle.std.specs.Prelude.{◌≡◌, ℕ, true, Some, List, Contains, Ok}
use Rattle.swh_base.specs.declared.kind.Kind.{Kind}
use Rattle.swh_base.specs.declared.name.Name.{Name}
use Rattle.swh_model.specs.Archive.{Bodies, body_of}
use Rattle.swh_model.specs.Meaning.{Made}
use Rattle.swh_fastgrammar.specs.declared.command.Command.{Command}
use Rattle.swh_fastmeaning.specs.Aims.{mark_at}
use Rattle.swh_fastmeaning.specs.Commands.{Target, Targets, Making, Makes, no_making, steps}
use Rattle.swh_marks.specs.Marks.{is_written, mark_of}

-- The mark of the name leads to it.
pub record LeadsTo (order : List Name) (aims : Targets) (name : Name) : Type 0 where
  pub aim : Target
  pub found : mark_at (mark_of order name) aims ≡ Some aim
  pub named : aim.name ≡ name

-- What was made is held.
pub record IsHeldMade (bodies : Bodies) (o : Made) : Type 0 where
  pub name : Name
  pub kind : name.kind ≡ o.kind
  pub held : body_of bodies name ≡ Some o.body

-- The commands are carried out: the mark of each name that is written leads to it, and all that is made is held.
pub record AreMadeAgain (id : Kind → List ℕ → List ℕ) (bodies : Bodies) (order : List Name) (commands : List Command) : Type 0 where
  pub making : Making
  pub makes : steps id no_making commands ≡ Ok making
  pub marks : (n : Name) → Contains order n → is_written n ≡ true → LeadsTo order making.aims n
  pub held : (o : Made) → Makes id making o → IsHeldMade bodies o
