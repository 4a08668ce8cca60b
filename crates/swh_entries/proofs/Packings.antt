-- One entry more among those that are kept.
use Rattle.std.proofs.Common.{◌≡◌, ℕ, List, [], ◌∷◌, ◌++◌, length, refl, ap, ◌∙◌}
use Rattle.std.proofs.lemmas.List.{map_push, get_or_append_left}
use Rattle.swh_entries.specs.declared.entry.Child.{Child}
use Rattle.swh_entries.specs.declared.entry.Child.TheVariants.{File as FileChild}
use Rattle.swh_entries.specs.declared.entry.Entry.{Entry}
use Rattle.swh_entries.specs.declared.entry.Leaf.{Leaf}
use Rattle.swh_entries.specs.declared.packing.Part.{Part}
use Rattle.swh_entries.specs.declared.packing.Part.TheVariants.{File as FilePart, Folder as FolderPart}
use Rattle.swh_entries.specs.declared.packing.Slot.{Slot}
use Rattle.swh_entries.specs.Packing.{no_leaf, child_of, entry_of, entries_of, IsPlaced, ArePlaced, Adds}

-- an entry of no name and no file
pub no_entry : Entry
no_entry = record { name = 0; child = FileChild no_leaf }

child-grown : (leaves more : List Leaf) (part : Part) → IsPlaced (length leaves) part → child_of (leaves ++ more) part ≡ child_of leaves part
child-grown leaves more (FilePart place) lt = ap FileChild (get_or_append_left leaves more no_leaf place lt)
child-grown leaves more (FolderPart number) lt = refl

entries-grown : (leaves more : List Leaf) (slots : List Slot) → ArePlaced (length leaves) slots → entries_of (leaves ++ more) slots ≡ entries_of leaves slots
entries-grown leaves more [] placed = refl
entries-grown leaves more (s ∷ slots) placed =
    let child = child-grown leaves more s.part placed.0 in
    let one : entry_of (leaves ++ more) s ≡ entry_of leaves s = ap (λ (c : Child). let e : Entry = record { name = s.name; child = c } in e) child in
    let rest = entries-grown leaves more slots placed.1 in
    cc

pub entries-push : (leaves leaves' : List Leaf) (slots : List Slot) (s : Slot) (e : Entry) → Adds leaves leaves' → ArePlaced (length leaves) slots → s.name ≡ e.name → child_of leaves' s.part ≡ e.child → entries_of leaves' (slots ++ s ∷ []) ≡ entries_of leaves slots ++ e ∷ []
entries-push leaves leaves' slots s e adds placed name child =
    let grown : entries_of leaves' slots ≡ entries_of leaves slots = rw adds.is (entries-grown leaves adds.more slots placed) in
    let one : entry_of leaves' s ≡ e = ap (λ (n : ℕ). let f : Entry = record { name = n; child = child_of leaves' s.part } in f) name ∙ ap (λ (c : Child). let f : Entry = record { name = e.name; child = c } in f) child in
    map_push (λ s. entry_of leaves' s) slots s ∙ ap (λ (es : List Entry). es ++ entry_of leaves' s ∷ []) grown ∙ ap (λ (f : Entry). entries_of leaves slots ++ f ∷ []) one
