-- The entries of all events, and names that stay whole as they are.
use Rattle.std.proofs.Common.{◌≡◌, ℕ, ◌+◌, ◌<◌, List, [], ◌∷◌, ◌++◌, append_assoc, append-nil, length, take, drop, get_or, sym, ap, ◌∙◌}
use Rattle.std.specs.List.{AllByRecursion}
use Rattle.std.proofs.Math.Seq.{drop-append_seam}
use Rattle.std.proofs.lemmas.List.{drop_more}
use Rattle.swh_base.specs.declared.name.Name.{Name}
use Rattle.swh_base.specs.declared.entry.Entry.{Entry}
use Rattle.swh_closure.proofs.Wholes.{whole-grows}
use Rattle.swh_model.specs.declared.event.Event.{Event}
use Rattle.swh_model.specs.Entries.{entries_of}
use Rattle.swh_model.specs.Archive.{Bodies, IsHeld, IsChild}
use Rattle.swh_model.specs.Step.{HasItsChildren, AreNew, added}
use Rattle.swh_model.specs.Happens.{IsGoodEvent}
use Rattle.swh_model.proofs.Entries.{all-append}
use Rattle.swh_model.proofs.Maps.{within-added}
use Rattle.swh_model.proofs.PlainLists.{take-more}
use Rattle.swh_model.proofs.Walks.{grows}
use Rattle.swh_replay.specs.Happened.{AreWhole, all_entries}

-- one event more was collected
pub collected-more : (events : List Event) (i : ℕ) (e : Event) → i < length events → e ≡ get_or events i e → all_entries (take (i + 1) events) ≡ all_entries (take i events) ++ entries_of e.what
collected-more events i e less is = ap all_entries (take-more events i e less is) ∙ push (take i events)
  where
    push : (es : List Event) → all_entries (es ++ e ∷ []) ≡ all_entries es ++ entries_of e.what
    push [] = append-nil (entries_of e.what)
    push (x ∷ es) = ap (λ (l : List Entry). entries_of x.what ++ l) (push es) ∙ sym (append_assoc (entries_of x.what) (all_entries es) (entries_of e.what))

pub all_good : (events : List Event) → AllByRecursion IsGoodEvent events → AllByRecursion HasItsChildren (all_entries events)
all_good [] h = tt
all_good (e ∷ es) h = all-append HasItsChildren (entries_of e.what) (all_entries es) h.0 (all_good es h.1)

-- ---- the entries to come once an event's were shown

module _ (events : List Event) (i : ℕ) (e : Event) (less : i < length events) (is : e ≡ get_or events i e) where
  parts : all_entries (drop i events) ≡ entries_of e.what ++ all_entries (drop (i + 1) events)
  parts = ap all_entries (drop_more events i e less ∙ ap (λ (x : Event). x ∷ drop (i + 1) events) (sym is))

  pub come_later : (rest : List Entry) → rest ≡ all_entries (drop i events) → drop (length (entries_of e.what)) rest ≡ all_entries (drop (i + 1) events)
  come_later rest rest_is = ap (drop (length (entries_of e.what))) (rest_is ∙ parts) ∙ drop-append_seam (entries_of e.what) (all_entries (drop (i + 1) events))

-- ---- what is closed

-- what is whole stays so where new entries were added
pub whole-added : (old : Bodies) (es : List Entry) (names : List Name) → AreNew old es → AreWhole old names → AreWhole (added old es) names
whole-added old es names fresh whole =
    whole-grows (IsHeld old) (IsChild old) (IsHeld (added old es)) (IsChild (added old es)) names (grows old (added old es) (within-added old es fresh)) whole
