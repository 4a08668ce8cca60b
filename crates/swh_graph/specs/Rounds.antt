-- What is answered on the way to a root.
use Rattle.std.specs.Prelude.{◌≡◌, ◌≢◌, ◌⊎◌, Option, Some, None}
use Rattle.swh_base.specs.declared.kind.Kind.TheVariants.{Content, Directory}
use Rattle.swh_base.specs.declared.name.Name.{Name}
use Rattle.swh_model.specs.Archive.{Bodies, body_of, IsHeld}
use Rattle.swh_graph.specs.Root.{IsRootGap}
use Rattle.swh_graph.specs.declared.fault.GraphFault.{GraphFault}
use Rattle.swh_graph.specs.declared.fault.GraphFault.TheVariants.{NotHeld, NoPath, Memory}

-- It leads on to this name, or to none though what is to be read is held.
abbrev pub LeadsNext : (Name → Type 0) → Bodies → Name → Option Name → Type 0
LeadsNext Leads bodies name (Some next) = Leads next
LeadsNext Leads bodies name None = ((next : Name) → Leads next → ⊥) × ((name.kind ≡ Content) ⊎ ((name.kind ≡ Directory) ⊎ IsHeld bodies name))

-- The name is to be read and not held. It says nothing where memory ran out.
abbrev pub NextFails : Bodies → Name → GraphFault → Type 0
NextFails bodies name (NotHeld missing) = (missing ≡ name) × (name.kind ≢ Content) × (name.kind ≢ Directory) × (body_of bodies name ≡ None)
NextFails bodies name (NoPath component) = ⊥
NextFails bodies name Memory = Unit {0}

-- The first name on the way that is to be read and not held. It says nothing where memory ran out.
abbrev pub RootFails : Bodies → Name → GraphFault → Type 0
RootFails bodies anchor (NotHeld name) = IsRootGap bodies anchor name
RootFails bodies anchor (NoPath component) = ⊥
RootFails bodies anchor Memory = Unit {0}
