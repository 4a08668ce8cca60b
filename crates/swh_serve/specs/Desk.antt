-- What is known of a desk at which requests are answered.
use Rattle.std.specs.Prelude.{ℕ, Bool, false}
use Rattle.swh_base.specs.declared.request.Request.{Request}
use Rattle.swh_base.specs.declared.request.Reply.{Reply}

-- The protocol of a desk with its seats: whether a seat may be asked; that a request was answered so between two
-- states of a seat, and whether the connection has to close behind the reply; and that memory ran out before a
-- request was answered.
pub record Protocol (S : Type 0) : Type 1 where
  pub ready : S → Type 0
  pub answers : Request → Reply → Bool → S → S → Type 0
  pub lacks : Request → S → S → Type 0

-- A seat may be asked again behind a reply that leaves the connection as it is, and where memory ran out.
pub record IsLawful {S : Type 0} (p : Protocol S) : Type 0 where
  pub again : (request : Request) (reply : Reply) (s s' : S) → p.ready s → p.answers request reply false s s' → p.ready s'
  pub lacking : (request : Request) (s s' : S) → p.ready s → p.lacks request s s' → p.ready s'
