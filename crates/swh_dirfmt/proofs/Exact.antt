-- A body that breaks somewhere is no directory.
use Rattle.std.proofs.Common.{◌≡◌, ◌≢◌, ℕ, List, [], ◌∷◌, ◌++◌, length, Result, Ok, Err, refl, sym, ap, ◌∙◌, subst, decimal}
use Rattle.std.specs.Prelude.{IfOk, IfErr}
use Rattle.swh_base.specs.Directory.{DirectoryEntry, IsEntry, AreEntries, MayFollowEntries, entry_text, directory_text, IsDirectory}
use Rattle.swh_base.proofs.ItemTexts.{same_front}
use Rattle.swh_base.proofs.Splits.{not_nil}
use Rattle.swh_base.proofs.DirectoryLemmas.{entry_then, are-each, are-next, one_entry, read_on, one_listing_lem}
use Rattle.swh_dirfmt.specs.declared.fault.DirWhy.{DirWhy}
use Rattle.swh_dirfmt.specs.declared.fault.DirWhy.TheVariants.{Mode, Name, Short, Twice, Order}
use Rattle.swh_dirfmt.specs.declared.fault.ReadDirFault.{ReadDirFault}
use Rattle.swh_dirfmt.specs.declared.fault.ReadDirFault.TheVariants.{Memory, Bad}
use Rattle.swh_dirfmt.specs.Fault.{BeginsMode, BeginsName, BeginsEntry, BeginsFresh, BeginsNextEntry, EntryBreaks, IsDirFault}
use Rattle.swh_dirfmt.specs.Reading.{ExplainsDir, GivesEntries}

-- each stage has those before it
fresh-from_next : (before : List DirectoryEntry) (bytes : List ℕ) → BeginsNextEntry before bytes → BeginsFresh before bytes
fresh-from_next before bytes h = record { entry = h.entry; rest = h.rest; is_entry = h.next.entry; text = h.text; fresh = h.next.fresh }

entry-from_fresh : (before : List DirectoryEntry) (bytes : List ℕ) → BeginsFresh before bytes → BeginsEntry bytes
entry-from_fresh before bytes h = record { entry = h.entry; rest = h.rest; is_entry = h.is_entry; text = h.text }

name-from_entry : (bytes : List ℕ) → BeginsEntry bytes → BeginsName bytes
name-from_entry bytes h = record { mode = h.entry.mode; name = h.entry.name; rest = h.entry.id ++ h.rest; is_mode = h.is_entry.mode; is_name = h.is_entry.name; text = h.text ∙ entry_then h.entry h.rest }

mode-from_name : (bytes : List ℕ) → BeginsName bytes → BeginsMode bytes
mode-from_name bytes h = record { mode = h.mode; rest = h.name ++ 0 ∷ h.rest; is_mode = h.is_mode; text = h.text }

mode-not_nil : (bytes : List ℕ) → BeginsMode bytes → bytes ≢ []
mode-not_nil bytes h e = not_nil (decimal h.mode) h.rest 32 (sym h.text ∙ e)

-- where bytes break there are some, and no entry that may follow
breaks-not_nil : (why : DirWhy) (before : List DirectoryEntry) (bytes : List ℕ) → EntryBreaks before bytes why → bytes ≢ []
breaks-not_nil Mode before bytes h = h.0
breaks-not_nil Name before bytes h = mode-not_nil bytes h.0
breaks-not_nil Short before bytes h = mode-not_nil bytes (mode-from_name bytes h.0)
breaks-not_nil Twice before bytes h = mode-not_nil bytes (mode-from_name bytes (name-from_entry bytes h.0))
breaks-not_nil Order before bytes h = mode-not_nil bytes (mode-from_name bytes (name-from_entry bytes (entry-from_fresh before bytes h.0)))

breaks-not_next : (why : DirWhy) (before : List DirectoryEntry) (bytes : List ℕ) → EntryBreaks before bytes why → BeginsNextEntry before bytes → ⊥
breaks-not_next Mode before bytes h n = h.1 (mode-from_name bytes (name-from_entry bytes (entry-from_fresh before bytes (fresh-from_next before bytes n))))
breaks-not_next Name before bytes h n = h.1 (name-from_entry bytes (entry-from_fresh before bytes (fresh-from_next before bytes n)))
breaks-not_next Short before bytes h n = h.1 (entry-from_fresh before bytes (fresh-from_next before bytes n))
breaks-not_next Twice before bytes h n = h.1 (fresh-from_next before bytes n)
breaks-not_next Order before bytes h n = h.1 n

-- entries and what follows them do not break
goes_on : (why : DirWhy) (before more : List DirectoryEntry) (rest : List ℕ) → AreEntries (before ++ more) → rest ≡ directory_text more → EntryBreaks before rest why → ⊥
goes_on why before [] rest are e h = breaks-not_nil why before rest h e
goes_on why before (m ∷ more) rest are e h = breaks-not_next why before rest h (record { entry = m; rest = directory_text more; text = e; next = are-next before m more are })

pub no_fault : (body : List ℕ) (es : List DirectoryEntry) (at : ℕ) (why : DirWhy) → IsDirectory body es → IsDirFault body at why → ⊥
no_fault body es at why d f =
    let on = read_on es f.before f.rest (are-each es d.good) (are-each f.before f.good) (sym d.text ∙ f.text) in
    goes_on why f.before on.0 f.rest (subst AreEntries on.1 d.good) on.2 f.breaks

-- a reader that is right at both answers reads each directory
pub gives : (body : List ℕ) (r : Result (List DirectoryEntry) ReadDirFault) → IfOk r (λ es. IsDirectory body es) → IfErr r (ExplainsDir body) → (es : List DirectoryEntry) → IsDirectory body es → GivesEntries r es
gives body (Ok found) ok err es d = one_listing_lem body found es ok d
gives body (Err Memory) ok err es d = tt
gives body (Err (Bad bad)) ok err es d = no_fault body es bad.at bad.why d err

none_follows : (why : DirWhy) (before : List DirectoryEntry) (bytes : List ℕ) → EntryBreaks before bytes why → (e : DirectoryEntry) (rest : List ℕ) → bytes ≡ entry_text e ++ rest → MayFollowEntries before e → ⊥
none_follows why before bytes h e rest text next = breaks-not_next why before bytes h (record { entry = e; rest = rest; text = text; next = next })

-- bytes break in one way
same_why : (a b : DirWhy) (before : List DirectoryEntry) (bytes : List ℕ) → EntryBreaks before bytes a → EntryBreaks before bytes b → a ≡ b
same_why Mode Mode before bytes h k = refl
same_why Mode Name before bytes h k = absurd (h.1 k.0)
same_why Mode Short before bytes h k = absurd (h.1 (mode-from_name bytes k.0))
same_why Mode Twice before bytes h k = absurd (h.1 (mode-from_name bytes (name-from_entry bytes k.0)))
same_why Mode Order before bytes h k = absurd (h.1 (mode-from_name bytes (name-from_entry bytes (entry-from_fresh before bytes k.0))))
same_why Name Mode before bytes h k = absurd (k.1 h.0)
same_why Name Name before bytes h k = refl
same_why Name Short before bytes h k = absurd (h.1 k.0)
same_why Name Twice before bytes h k = absurd (h.1 (name-from_entry bytes k.0))
same_why Name Order before bytes h k = absurd (h.1 (name-from_entry bytes (entry-from_fresh before bytes k.0)))
same_why Short Mode before bytes h k = absurd (k.1 (mode-from_name bytes h.0))
same_why Short Name before bytes h k = absurd (k.1 h.0)
same_why Short Short before bytes h k = refl
same_why Short Twice before bytes h k = absurd (h.1 k.0)
same_why Short Order before bytes h k = absurd (h.1 (entry-from_fresh before bytes k.0))
same_why Twice Mode before bytes h k = absurd (k.1 (mode-from_name bytes (name-from_entry bytes h.0)))
same_why Twice Name before bytes h k = absurd (k.1 (name-from_entry bytes h.0))
same_why Twice Short before bytes h k = absurd (k.1 h.0)
same_why Twice Twice before bytes h k = refl
same_why Twice Order before bytes h k = absurd (h.1 k.0)
same_why Order Mode before bytes h k = absurd (k.1 (mode-from_name bytes (name-from_entry bytes (entry-from_fresh before bytes h.0))))
same_why Order Name before bytes h k = absurd (k.1 (name-from_entry bytes (entry-from_fresh before bytes h.0)))
same_why Order Short before bytes h k = absurd (k.1 (entry-from_fresh before bytes h.0))
same_why Order Twice before bytes h k = absurd (k.1 h.0)
same_why Order Order before bytes h k = refl

-- a body has one first fault at most
pub one_fault_lem : (body : List ℕ) (i j : ℕ) (a b : DirWhy) → IsDirFault body i a → IsDirFault body j b → (i ≡ j) × (a ≡ b)
one_fault_lem body i j a b f g =
    let same = same_front entry_text IsEntry one_entry AreEntries MayFollowEntries are-next (λ _ _ may. may.entry) [] f.before g.before f.rest g.rest f.good g.good (sym f.text ∙ g.text) (none_follows a f.before f.rest f.breaks) (none_follows b g.before g.rest g.breaks) in
    let moved = subst (λ (es : List DirectoryEntry). EntryBreaks es g.rest b) (sym same.0) g.breaks in
    (f.here ∙ ap (λ (es : List DirectoryEntry). length (directory_text es)) same.0 ∙ sym g.here, same_why a b f.before f.rest f.breaks (subst (λ (t : List ℕ). EntryBreaks f.before t b) (sym same.1) moved))
