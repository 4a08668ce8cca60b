-- Entries that stand in a body, as the grammar's.
use Rattle.std.proofs.Common.{◌≡◌, inl, inr, ℕ, ◌+◌, ◌<◌, List, [], ◌∷◌, ◌++◌, length, take, get_or, refl, sym, ap, ◌∙◌, subst}
use Rattle.std.specs.Prelude.{Contains}
use Rattle.std.proofs.lemmas.List.{take_more, map-append}
use Rattle.std.proofs.lemmas.List.Elements.{Contains-get_or}
use Rattle.swh_base.specs.Directory.{DirectoryEntry}
use Rattle.swh_base.proofs.Elementary.{none_in}
use Rattle.swh_dirfmt.specs.declared.entry.SpelledEntry.{SpelledEntry}
use Rattle.swh_dirfmt.specs.Entries.{entry_of, entries_in_body}
use Rattle.swh_model.specs.Archive.{Bodies}
use Rattle.swh_postorder.proofs.Trips.{first_in, later_in, in_cases}
use Rattle.swh_pathwalk.specs.Tree.{Row}
use Rattle.swh_pathsums.specs.declared.weight.Weight.{Weight}
use Rattle.swh_pathsums.specs.declared.tally.Tally.{Tally}
use Rattle.swh_pathsums.specs.Tallies.{Tallies, AreRowsOver, AreEntryRows}
use Rattle.swh_pathsums.proofs.Rows.{rows_more, rows_none}

pub entries_more : (entries : List SpelledEntry) (i : ℕ) (d : SpelledEntry) → i < length entries → entries_in_body (take (i + 1) entries) ≡ entries_in_body (take i entries) ++ entry_of (get_or entries i d) ∷ []
entries_more entries i d less = ap entries_in_body (take_more entries i d less) ∙ map-append entry_of (take i entries) (get_or entries i d ∷ [])

entry_in : (entries : List SpelledEntry) (x : SpelledEntry) → Contains entries x → Contains (entries_in_body entries) (entry_of x)
entry_in [] x there = absurd (none_in x there)
entry_in (e ∷ es) x there =
    elim (in_cases e es x there) [
      | inl same ↦ subst (λ (y : SpelledEntry). Contains (entries_in_body (e ∷ es)) (entry_of y)) same (first_in (entry_of e) (entries_in_body es))
      | inr later ↦ later_in (entry_of e) (entries_in_body es) (entry_of x) (entry_in es x later)
    ]

pub entry_there : (entries : List SpelledEntry) (i : ℕ) (d : SpelledEntry) → i < length entries → Contains (entries_in_body entries) (entry_of (get_or entries i d))
entry_there entries i d less = entry_in entries (get_or entries i d) (Contains-get_or entries i d less)

module _ (bodies : Bodies) (weigh : DirectoryEntry → Weight) (entries : List SpelledEntry) where
  pub none_tallied : (rows : List Row) → AreRowsOver bodies [] rows → Tallies weigh rows (record { paths = 0; quoted = 0; bytes = 0; spelled = 0 })
  none_tallied rows over =
      subst (λ (l : List Row). Tallies weigh l (record { paths = 0; quoted = 0; bytes = 0; spelled = 0 })) (sym (rows_none bodies rows over))
      (record { path_count = inl refl; quoted_count = inl refl; byte_count = inl refl; spelled_count = inl refl })

  pub one_more : (i : ℕ) (d : SpelledEntry) (old one new : Tally) → i < length entries
      → ((rows : List Row) → AreRowsOver bodies (entries_in_body (take i entries)) rows → Tallies weigh rows old)
      → ((rows : List Row) → AreEntryRows bodies (entry_of (get_or entries i d)) rows → Tallies weigh rows one)
      → ((xs ys : List Row) → Tallies weigh xs old → Tallies weigh ys one → Tallies weigh (xs ++ ys) new)
      → (rows : List Row) → AreRowsOver bodies (entries_in_body (take (i + 1) entries)) rows → Tallies weigh rows new
  one_more i d old one new less was is both rows over =
      let cut = rows_more bodies (entries_in_body (take i entries)) (entry_of (get_or entries i d)) rows (subst (λ (es : List DirectoryEntry). AreRowsOver bodies es rows) (entries_more entries i d less) over) in
      subst (λ (l : List Row). Tallies weigh l new) (sym cut.4) (both cut.0 cut.1 (was cut.0 cut.2) (is cut.1 cut.3))
