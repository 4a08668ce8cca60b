-- The entries of a whole history in their order, of which a front is shown as a store.
use Rattle.std.specs.Prelude.{◌<◌, ◌≤◌, ℕ, List, length, take, drop, refl}
use Rattle.std.specs.Coded.{Coded, coded_list, code_by, coded×}
use Rattle.std.specs.FinMap as finite
use Rattle.swh_base.specs.contracts.entry.Entry as an_entry
use Rattle.swh_base.specs.declared.entry.Entry.{Entry}
use Rattle.swh_model.specs.Step.{AreNew}
use Rattle.swh_store.specs.Stored.{Stored, stored_code}
use Rattle.swh_store.specs.Entries.{stored_in}
use Rattle.swh_store.specs.Places.{IsPlaced}
use Rattle.swh_store.specs.declared.entries.Held.{Held}

-- what is shown, and the entries to come
pub record Front : Type 0 where
  pub shown : Stored
  pub rest : List Entry

-- how two fronts are told apart
abbrev pub front_code : Coded Front
front_code = code_by (Stored × List Entry) (coded× stored_code (coded_list an_entry.the_row.coded))
    (λ f. (f.shown, f.rest)) (λ p. record { shown = p.0; rest = p.1 }) (λ _. refl)

-- the entries, of which so many are shown
abbrev pub front_of : List Entry → ℕ → Front
front_of es count = record { shown = stored_in (take count es); rest = drop count es }

-- The first `count` entries are new, one after another, and no more than these are.
pub record AreFresh (es : List Entry) (count : ℕ) : Type 0 where
  pub inside : count ≤ length es
  pub new : AreNew finite.empty (take count es)
  pub most : (more : ℕ) → count < more → more ≤ length es → AreNew finite.empty (take more es) → ⊥

-- The entries in front of the first whose name an earlier one has are in their places, and what is shown is among them.
pub record IsPreloaded (held : Held) (fresh shown : ℕ) : Type 0 where
  pub are_fresh : AreFresh held.entries.items fresh
  pub placed : IsPlaced held.places (take fresh held.entries.items)
  pub within : shown ≤ fresh
