use Rattle.std.proofs.Common.{◌≡◌, List, length, Some, sym, ap, ◌∙◌, subst, arith}
use Rattle.std.specs.List.{position_or_len}
use Rattle.swh_folder_names.specs.Names.{names_of}
use Rattle.swh_outside.specs.Folder.{FolderEntry, AreNames}
use Rattle.swh_outside.specs.declared.folder.Item.{Item}
use Rattle.swh_memory_input.specs.Folders.{is_place_at, entries_of}
use Rattle.swh_memory_input.proofs.Trees.{folder-there, folder-lists-none, file-lists-none, none-lists-none, some-found, none-found}
use Rattle.swh_memory_input.proofs.folder.items_at.Goals as goal

pub returns-then-i-places-clause-none : goal.returns-then-i-places-clause-none
returns-then-i-places-clause-none c =
    let none : position_or_len (is_place_at c.args.dir.now) c.args.places.now ≡ length c.args.places.now = omega (arith, c.find_place-i.ensures.first, c.if-i-places.true) in
    none-lists-none c.args.places.now c.args.dir.now none

pub returns-in-Folder-clause-some : goal.returns-in-Folder-clause-some
returns-in-Folder-clause-some c =
    let places = c.args.places.now in
    let there = folder-there places c.args.dir.now c.find_place-i.result c.index-places-i.result c.find_place-i.ensures.first (omega (arith, c.find_place-i.ensures.within, c.if-i-places.false)) c.in-Folder.items c.in-Folder.is in
    some-found c.good_items.result _ _ (λ copy h. (there ∙ ap (λ (es : List FolderEntry). Some es) (ap entries_of (sym c.as_slice.ensures.value) ∙ sym h.0), h.1)) c.good_items.ensures.some

pub returns-in-Folder-clause-none : goal.returns-in-Folder-clause-none
returns-in-Folder-clause-none c =
    let places = c.args.places.now in
    none-found c.good_items.result _ _ (λ bad. folder-lists-none places c.args.dir.now c.find_place-i.result c.index-places-i.result c.find_place-i.ensures.first (omega (arith, c.find_place-i.ensures.within, c.if-i-places.false)) c.in-Folder.items c.in-Folder.is (λ are. bad (subst (λ (items : List Item). AreNames (names_of items)) (sym c.as_slice.ensures.value) are))) c.good_items.ensures.none

pub returns-in-File-clause-none : goal.returns-in-File-clause-none
returns-in-File-clause-none c =
    file-lists-none c.args.places.now c.args.dir.now c.find_place-i.result c.index-places-i.result c.find_place-i.ensures.first (omega (arith, c.find_place-i.ensures.within, c.if-i-places.false)) c.in-File.bytes c.in-File.piece c.in-File.failing c.in-File.is
