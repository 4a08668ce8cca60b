-- A loader as its callers see it.
use Rattle.std.specs.Prelude.{◌≡◌, ℕ, List, [], Option, Some, None, Result, Ok, Err}
use Rattle.swh_base.specs.declared.kind.Kind.{Kind}
use Rattle.swh_base.specs.declared.entry.Entry.{Entry}
use Rattle.swh_fastgrammar.specs.declared.command.Command.{Command}
use Rattle.swh_fastmeaning.specs.Aims.{no_aims}
use Rattle.swh_fastmeaning.specs.Feeding.{Loading, Feeds}
use Rattle.swh_fastmeaning.specs.Stock.{Stock, IsStocked}
use Rattle.swh_fastmeaning.specs.declared.feed_fault.FeedFault.{FeedFault}

-- nothing is set, and nothing was given
abbrev pub no_loading : Loading
no_loading = record { aims = no_aims; given = [] }

-- After a refusal nothing is known of the parts.
abbrev pub IsStockedUnless : (Kind → List ℕ → List ℕ) → Option FeedFault → Stock → Type 0
IsStockedUnless id None s = IsStocked id s
IsStockedUnless id (Some fault) s = Unit {0}

-- The command's objects are given, and the load goes on.
pub record FeedsTo (id : Kind → List ℕ → List ℕ) (old : Loading) (command : Command) (state : Result Loading FeedFault) (objects : List Entry) : Type 0 where
  pub new : Loading
  pub is : state ≡ Ok new
  pub feeds : Feeds id old command new objects

-- The fault is explained, and it ended the load.
pub record Refuses (Explains : FeedFault → Type 0) (state : Result Loading FeedFault) (fault : FeedFault) : Type 0 where
  pub explained : Explains fault
  pub ended : state ≡ Err fault

-- The load ended, and the refusal that ended it is answered again.
abbrev pub Repeats : {X : Type 0} → Result Loading FeedFault → Result X FeedFault → Result Loading FeedFault → Type 0
Repeats (Ok loading) answer new = Unit {0}
Repeats (Err fault) answer new = (answer ≡ Err fault) × (new ≡ Err fault)
