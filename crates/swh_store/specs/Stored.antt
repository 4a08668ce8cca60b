-- What a store holds: two finite maps, of which the second is the graph of the first.
use Rattle.std.specs.Prelude.{◌≡◌, Option, Some, List, refl}
use Rattle.std.specs.Coded.{Coded, coded_ℕ, coded_list, code_by, coded×}
use Rattle.std.specs.FinMap as finite
use Rattle.swh_base.specs.contracts.name.Name as a_name
use Rattle.swh_base.specs.declared.name.Name.{Name}
use Rattle.swh_base.specs.declared.entry.Entry.{Entry}
use Rattle.swh_base.specs.Name.{name_cmp}
use Rattle.swh_model.specs.Archive.{Bodies, body_of}
use Rattle.swh_model.specs.Step.{HasItsChildren}

-- the children of each name
abbrev pub Children : Type 0
Children = finite.FinMap name_cmp (List Name)

-- the bodies by their names, as in an archive, and the children of each
pub record Stored : Type 0 where
  pub bodies : Bodies
  pub children : Children

-- how two stores are told apart
abbrev pub stored_code : Coded Stored
stored_code = code_by (Bodies × Children) (coded× (finite.code a_name.the_row.coded (coded_list coded_ℕ)) (finite.code a_name.the_row.coded (coded_list a_name.the_row.coded)))
    (λ s. (s.bodies, s.children)) (λ p. record { bodies = p.0; children = p.1 }) (λ _. refl)

-- the store of nothing
abbrev pub empty_store : Stored
empty_store = record { bodies = finite.empty; children = finite.empty }

-- the graph of a store: the children of the body held under a name, none where none is
abbrev pub children_in : Stored → Name → Option (List Name)
children_in s n = finite.get s.children n

-- The entry is good, has the name, and its body and its children are held.
pub record IsEntryOf (s : Stored) (n : Name) (e : Entry) : Type 0 where
  pub name : e.name ≡ n
  pub held : body_of s.bodies n ≡ Some e.body
  pub kids : children_in s n ≡ Some e.kids
  pub good : HasItsChildren e
