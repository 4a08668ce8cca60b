-- What a form cannot carry of all that is reached from a name: the first name that is reached from itself; where there is
-- none, the first that breaks another rule, by the first rule that it breaks.
use Rattle.std.specs.Prelude.{◌≡◌, ◌⊎◌, ℕ, ◌<◌, Option, List, ◌∷◌, ◌++◌, Contains}
use Rattle.swh_base.specs.declared.name.Name.{Name}
use Rattle.swh_postorder.specs.Postorder.{IsPostorder, IsFirstMissing}
use Rattle.swh_postorder.specs.Cycle.{IsOnCycle, IsFirstOnCycle}
use Rattle.swh_carried.specs.declared.fault.Why.{Why}
use Rattle.swh_carried.specs.declared.fault.Why.TheVariants.{Cycle, Revision, Release, Empty, Dots, Text, Path, Branch, Tagless, Refs, Length}
use Rattle.swh_carried.specs.declared.fault.CookFault.{CookFault}
use Rattle.swh_carried.specs.declared.fault.CookFault.TheVariants.{NotHeld, Uncarried, WriteFault, Memory}

-- the place of a rule in their order
abbrev pub rule_number : Why → ℕ
rule_number Cycle = 0
rule_number Revision = 1
rule_number Release = 2
rule_number Empty = 3
rule_number Dots = 4
rule_number Text = 5
rule_number Path = 6
rule_number Branch = 7
rule_number Tagless = 8
rule_number Refs = 9
rule_number Length = 10

-- A form's rules say which of them a name breaks.
module _ (Breaks : Name → Why → Type 0) where
  -- The name breaks this rule, and none before it.
  pub record BreaksFirst (name : Name) (why : Why) : Type 0 where
    pub is : Breaks name why
    pub none : (other : Why) → rule_number other < rule_number why → Breaks name other → ⊥

  -- The name breaks no rule.
  abbrev pub BreaksNone : Name → Type 0
  BreaksNone name = (why : Why) → Breaks name why → ⊥

  -- Of these names it is the first that breaks a rule, and this rule is the first that it breaks.
  pub record IsFirstToBreak (order : List Name) (name : Name) (why : Why) : Type 0 where
    pub before : List Name
    pub behind : List Name
    pub cut : order ≡ before ++ name ∷ behind
    pub is : BreaksFirst name why
    pub none : (n : Name) → Contains before n → BreaksNone n

-- None of the names is reached from itself.
abbrev pub HasNoCycle : (Name → Option (List Name)) → List Name → Type 0
HasNoCycle children_of order = (n : Name) → Contains order n → IsOnCycle children_of n → ⊥

module _ (children_of : Name → Option (List Name)) (Breaks : Name → Why → Type 0) (order : List Name) where
  -- Of these names, this is the first that a form with these rules cannot carry, and why.
  abbrev pub IsUncarried : Name → Why → Type 0
  IsUncarried name why = ((why ≡ Cycle) × IsFirstOnCycle children_of order name) ⊎ (HasNoCycle children_of order × IsFirstToBreak Breaks order name why)

  -- A form with these rules carries all of the names.
  pub record AreCarried : Type 0 where
    pub acyclic : HasNoCycle children_of order
    pub none : (n : Name) → Contains order n → BreaksNone Breaks n

-- All that is reached is held, and this name is the first of it that is reached from itself.
pub record IsCycleOf (children_of : Name → Option (List Name)) (root name : Name) : Type 0 where
  pub order : List Name
  pub is_order : IsPostorder children_of root order
  pub first : IsFirstOnCycle children_of order name

-- Why there is no order without a cycle. It says nothing where memory ran out.
abbrev pub ExplainsNoOrder : (Name → Option (List Name)) → Name → CookFault → Type 0
ExplainsNoOrder children_of root (NotHeld missing) = IsFirstMissing children_of root missing
ExplainsNoOrder children_of root (Uncarried name why) = (why ≡ Cycle) × IsCycleOf children_of root name
ExplainsNoOrder children_of root WriteFault = ⊥
ExplainsNoOrder children_of root Memory = Unit {0}
