-- What calls answer that a destination is made of.
use Rattle.std.specs.Prelude.{◌≡◌, ℕ, Option, Some, Result, List, [], IfOk, IfErr, IfSome}
use Rattle.swh_base.specs.declared.kind.Kind.{Kind}
use Rattle.swh_base.specs.declared.entry.Entry.{Entry}
use Rattle.swh_base.specs.declared.name.Name.{Name}
use Rattle.swh_base.specs.Snapshot.{snapshot_name}
use Rattle.swh_closure.specs.declared.certificate.Cert.{Cert}
use Rattle.swh_model.specs.declared.event.Wish.{Wish}
use Rattle.swh_model.specs.declared.event.Outcome.{Outcome}
use Rattle.swh_model.specs.Archive.{IsClosed, body_of}
use Rattle.swh_store.specs.declared.adding.Standing.{Standing}
use Rattle.swh_store.specs.Adding.{IsStanding}
use Rattle.swh_ingest.specs.declared.refusal.Refusal.{Refusal}
use Rattle.swh_ingest.specs.Knowing.{Protocol, CarriesOut, RefusesPlan, held_in}

module _ {S : Type 0} (w : Protocol S) where
  -- It may be looked how an entry stands, and which body is held under a name.
  abbrev pub MayLook : S → Type 0
  MayLook s = w.ready s

  -- It was looked how an entry stands.
  pub record Looks {E : Type 0} (old : S) (entry : Entry) (new : S) (result : Result Standing E) : Type 0 where
    pub looks : w.adds [] old new
    pub standing : IfOk result (IsStanding (held_in (w.known new)) entry)

  -- It was looked which body is held under a name.
  pub record Finds (old : S) (name : Name) (new : S) (result : Option (List ℕ)) : Type 0 where
    pub looks : w.adds [] old new
    pub held : IfSome result (λ body. body_of (held_in (w.known new)) name ≡ Some body)

  -- A certificate of a snapshot may be asked for.
  pub record MayCertify (s : S) (snapshot : List ℕ) : Type 0 where
    pub ready : w.ready s
    pub closed : IsClosed (held_in (w.known s)) (snapshot_name snapshot)

  -- A certificate of a snapshot was asked for.
  pub record Certifies {E : Type 0} (old : S) (snapshot : List ℕ) (new : S) (result : Result Cert E) : Type 0 where
    pub looks : w.adds [] old new
    pub root : IfOk result (λ cert. cert.root ≡ snapshot_name snapshot)

module _ {S : Type 0} (id : Kind → List ℕ → List ℕ) (w : Protocol S) where
  -- A plan was carried out, or refused.
  pub record Applies (old : S) (wish : Wish) (new : S) (result : Result Outcome Refusal) : Type 0 where
    pub ok : IfOk result (CarriesOut id w wish old new)
    pub err : IfErr result (RefusesPlan id w wish old new)
