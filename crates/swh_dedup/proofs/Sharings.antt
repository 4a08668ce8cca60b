-- Where an object stands among what was made, or nowhere, and an equal one that is kept in place of one.
use Rattle.std.proofs.Common.{◌≡◌, ℕ, Result, Ok, Err, OnErr, false, Contains, List, map, Option, Some, None, slice_get, slice_set, refl, sym, ◌∙◌}
use Rattle.std.specs.Option.{is_some}
use Rattle.std.specs.Prelude.{IfNone, IfOk}
use Rattle.std.proofs.Math.ListN.{get_or-map}
use Rattle.std.proofs.Math.Seq.{map-set_same}
use Rattle.std.proofs.lemmas.Option.{get_or_from_slice_get}
use Rattle.swh_dedup.specs.declared.places.Places.{Places}
use Rattle.swh_dedup.specs.declared.seen.Kept.{Kept}
use Rattle.swh_dedup.specs.Seen.{kept_made, first_at, further_at, mapped_at}
use Rattle.swh_dedup.proofs.Seens.{led_absent}

pub none_there : {X : Type 0} (o : Option X) (P : Type 0) → is_some o ≡ false → IfNone o P → P
none_there None P e p = p
none_there (Some x) P e p = absurd (cc)

pub none_then : {X : Type 0} (o : Option X) (P Q : Type 0) → IfNone o P → (P → Q) → IfNone o Q
none_then None P Q p f = f p
none_then (Some x) P Q p f = tt

pub if_ok_as : {X E : Type 0} (r : Result X E) (P Q : X → Type 0) → ((x : X) → P x → Q x) → IfOk r P → IfOk r Q
if_ok_as (Ok x) P Q f p = f x p
if_ok_as (Err e) P Q f p = tt

pub on_err_as : {X E P Q : Type 0} (r : Result X E) → (P → Q) → OnErr r P → OnErr r Q
on_err_as (Ok x) f p = tt
on_err_as (Err e) f p = f p

-- At none of the places of a digest.
pub nowhere : (digest first : ℕ) (places : Places) (P : ℕ → Type 0) → first_at places.first.entries digest ≡ Some first → (P first → ⊥) → ((k : ℕ) → Contains (further_at places.further.entries digest) k → P k → ⊥) → (k : ℕ) → Contains (mapped_at places digest) k → P k → ⊥
nowhere digest first places P there here others k c p = led_absent digest first places places P (record { there = there; same = λ other. refl }) here others k c p

-- One that is equal by kind and body, in place of the one that stood there.
pub kept_again : (made : List Kept) (place : ℕ) (k : Kept) → slice_get (map kept_made made) place ≡ Some (kept_made k) → map kept_made (slice_set made place k) ≡ map kept_made made
kept_again made place k there = map-set_same kept_made made place k k (sym (get_or_from_slice_get (map kept_made made) place (kept_made k) (kept_made k) there) ∙ get_or-map kept_made made place k)
