-- The bodies of the archive of a history are named, and not too long, and made of bytes where those of its entries are.
use Rattle.std.proofs.Common.{◌≡◌, ℕ, ◌≤◌, Option, Some, None, List, [], ◌∷◌, length}
use Rattle.std.specs.List.{AllByRecursion}
use Rattle.std.specs.FinMap.{empty, get-empty}
use Rattle.swh_base.specs.Limits.{body_limit}
use Rattle.swh_base.specs.declared.entry.Entry.{Entry}
use Rattle.swh_base.specs.declared.kind.Kind.{Kind}
use Rattle.swh_base.specs.declared.name.Name.{Name}
use Rattle.swh_base.specs.Name.{IsByte, name_cmp}
use Rattle.swh_model.specs.Archive.{Archive, Bodies, body_of, empty_archive}
use Rattle.swh_model.specs.Step.{May_kind, MayAll, IsHistory, after, after_kind, after_all, replay}
use Rattle.swh_model.specs.declared.event.Event.{Event}
use Rattle.swh_model.specs.declared.event.EventKind.{EventKind}
use Rattle.swh_model.specs.declared.event.EventKind.TheVariants.{Batch, Open, Mark}
use Rattle.swh_model.specs.Entries.{entries_of}
use Rattle.swh_model.proofs.Maps.{added-all}
use Rattle.swh_model.proofs.Sounds.{empty-sound, all-sound}
use Rattle.swh_roundtrip.specs.Sound.{AreNamed, AreInLimit, AreOfBytes, AreMadeOfBytes}

-- What holds of each body that is held.
abbrev AllBodies : (List ℕ → Type 0) → Bodies → Type 0
AllBodies P bodies = (n : Name) (body : List ℕ) → body_of bodies n ≡ Some body → P body

none_held : (P : List ℕ → Type 0) → AllBodies P empty
none_held P n body is = let e : body_of empty n ≡ None = get-empty name_cmp n in absurd (let bad : Some body ≡ None = is_none body (body_of empty n) is e in cc)
  where
    is_none : (body : List ℕ) (o : Option (List ℕ)) → o ≡ Some body → o ≡ None → Some body ≡ None
    is_none body o p q = cc

one_step : (P : List ℕ → Type 0) (a : Archive) (by : ℕ) (what : EventKind) → AllBodies P a.bodies → AllByRecursion (λ (e : Entry). P e.body) (entries_of what) → AllBodies P (after_kind a by what).bodies
one_step P a by (Batch entries) h all = added-all (λ n body. P body) a.bodies entries h all
one_step P a by (Open origin kind date) h all = h
one_step P a by (Mark origin visit status snapshot) h all = h

short_entries : (id : Kind → List ℕ → List ℕ) (a : Archive) (by : ℕ) (what : EventKind) → May_kind id a by what → AllByRecursion (λ (e : Entry). length e.body ≤ body_limit) (entries_of what)
short_entries id a by (Batch entries) may = may.limits.bodies
short_entries id a by (Open origin kind date) may = tt
short_entries id a by (Mark origin visit status snapshot) may = tt

short_after : (id : Kind → List ℕ → List ℕ) (a : Archive) (h : List Event) → MayAll id a h → AllBodies (λ body. length body ≤ body_limit) a.bodies → AllBodies (λ body. length body ≤ body_limit) (after_all a h).bodies
short_after id a [] may short = short
short_after id a (e ∷ h) may short = short_after id (after a e) h may.1 (one_step (λ body. length body ≤ body_limit) a e.by e.what short (short_entries id a e.by e.what may.0))

bytes_after : (a : Archive) (h : List Event) → AreMadeOfBytes h → AllBodies (AllByRecursion IsByte) a.bodies → AllBodies (AllByRecursion IsByte) (after_all a h).bodies
bytes_after a [] made bytes = bytes
bytes_after a (e ∷ h) made bytes = bytes_after (after a e) h made.1 (one_step (AllByRecursion IsByte) a e.by e.what bytes made.0)

pub named_bodies : (id : Kind → List ℕ → List ℕ) (h : List Event) → IsHistory id h → AreNamed id (replay h).bodies
named_bodies id h is n body held = ((all-sound id empty_archive h (empty-sound id) is).bodies n body held).1

pub bodies_in_limit : (id : Kind → List ℕ → List ℕ) (h : List Event) → IsHistory id h → AreInLimit (replay h).bodies
bodies_in_limit id h is = short_after id empty_archive h is (none_held (λ body. length body ≤ body_limit))

pub bodies_of_bytes : (h : List Event) (names : List Name) → AreMadeOfBytes h → AreOfBytes (replay h).bodies names
bodies_of_bytes h names made n there body kind held = bytes_after empty_archive h made (none_held (AllByRecursion IsByte)) n body held
