-- Marks and tips as code holds them.
use Rattle.std.specs.Prelude.{ℕ, List, map}
use Rattle.std.specs.Global.{Vec}
use Rattle.swh_trees.specs.declared.tree.Tree.{Tree}
use Rattle.swh_fastmeaning.specs.declared.aims.Target.{Target}
use Rattle.swh_fastmeaning.specs.Aims.{Aim, AllAims}

-- an object, as a mark leads to it
abbrev pub aim_of : Target → Aim Tree
aim_of t = record { name = t.name; tree = t.tree }

-- a ref and what it leads to
abbrev pub tip_of : Vec ℕ × Target → List ℕ × Aim Tree
tip_of e = (e.0.items, aim_of e.1)

-- a mark and what it leads to
abbrev pub mark_of : ℕ × Target → ℕ × Aim Tree
mark_of e = (e.0, aim_of e.1)

-- marks and tips
abbrev pub aims_of : List (ℕ × Target) → List (Vec ℕ × Target) → AllAims Tree
aims_of marks tips = record { marks = map mark_of marks; tips = map tip_of tips }
