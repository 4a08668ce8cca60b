use Rattle.std.proofs.Common.{rules, ◌≡◌, ℕ, List, length, Some, sym, ap, ◌∙◌, arith}
use Rattle.std.specs.List.{position_or_len}
use Rattle.swh_memory_failures.specs.Tally.{Tally, fresh_tally}
use Rattle.swh_memory_input.specs.Folders.{is_place_at}
use Rattle.swh_memory_input.specs.Inputs.{source_piece, source_tally}
use Rattle.swh_memory_input.proofs.Trees.{file-there, file-making, folder-gives-none, none-gives-none}
use Rattle.swh_memory_input.proofs.folder.source_at.Goals as goal

pub returns-then-i-places-clause-none : goal.returns-then-i-places-clause-none
returns-then-i-places-clause-none c =
    let none : position_or_len (is_place_at c.args.path.now) c.args.places.now ≡ length c.args.places.now = omega (arith, c.find_place-i.ensures.first, c.if-i-places.true) in
    none-gives-none c.args.places.now c.args.path.now none

pub returns-in_ok-failing-in-File-clause-given : goal.returns-in_ok-failing-in-File-clause-given
returns-in_ok-failing-in-File-clause-given c =
    let there = file-there c.args.places.now c.args.path.now c.find_place-i.result c.index-places-i.result c.find_place-i.ensures.first (omega (arith, c.find_place-i.ensures.within, c.if-i-places.false)) c.in-File.bytes c.in-File.piece c.in-File.failing c.in-File.is in
    let copied : c.in_ok-bytes-in-File.bytes.items ≡ c.in-File.bytes.items = search rules in
    there ∙ ap (λ (l : List ℕ). Some l) (sym copied ∙ sym c.new.ensures.left)

pub returns-in_ok-failing-in-File-clause-made : goal.returns-in_ok-failing-in-File-clause-made
returns-in_ok-failing-in-File-clause-made c =
    let made = file-making c.args.places.now c.args.path.now c.find_place-i.result c.index-places-i.result c.find_place-i.ensures.first (omega (arith, c.find_place-i.ensures.within, c.if-i-places.false)) c.in-File.bytes c.in-File.piece c.in-File.failing c.in-File.is in
    let copied : c.in_ok-failing-in-File.failing.items ≡ c.in-File.failing.items = search rules in
    let tally : source_tally c.new.result ≡ fresh_tally c.in-File.failing.items = c.new.ensures.failing ∙ ap fresh_tally copied in
    made ∙ ap (λ (n : ℕ). Some (n, fresh_tally c.in-File.failing.items)) (sym c.new.ensures.piece) ∙ ap (λ (t : Tally). Some (source_piece c.new.result, t)) (sym tally)

pub returns-in-Folder-clause-none : goal.returns-in-Folder-clause-none
returns-in-Folder-clause-none c =
    folder-gives-none c.args.places.now c.args.path.now c.find_place-i.result c.index-places-i.result c.find_place-i.ensures.first (omega (arith, c.find_place-i.ensures.within, c.if-i-places.false)) c.in-Folder.field-0 c.in-Folder.is
