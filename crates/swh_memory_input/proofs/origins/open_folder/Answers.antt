use Rattle.std.proofs.Common.{rules, ◌≡◌, List, Some, None, get_or, sym, ◌∙◌, ap}
use Rattle.std.specs.Arc.{arc_slice_items}
use Rattle.swh_outside.specs.Folder.{Tree}
use Rattle.swh_outside.proofs.FirstsLaws.{first_of, first_or-at}
use Rattle.swh_memory_input.specs.Folders.{is_folder_for, input_tree, folder_making, tree_of, folder_places, folder_tally}
use Rattle.swh_memory_input.specs.declared.path_item.PathItem.{PathItem}
use Rattle.swh_memory_failures.specs.Tally.{Tally, fresh_tally}
use Rattle.swh_memory_input.proofs.origins.open_folder.Goals as goal

pub returns-clause-holds : goal.returns-clause-holds
returns-clause-holds c =
    let z = c.index-folders-i.result in
    let p = is_folder_for c.args.path.now in
    let first = first_of p c.args.folders.now c.args.i z c.requires.found c.requires.inside in
    let shared : arc_slice_items c.in_ok-places.places ≡ arc_slice_items (get_or c.args.folders.now c.args.i z).places = search rules in
    first_or-at p input_tree None c.args.folders.now c.args.i z first ∙ ap (λ (places : List PathItem). Some (tree_of places)) (sym shared) ∙ ap (λ (t : Tree). Some t) (sym c.new.ensures.holds)

pub returns-clause-made : goal.returns-clause-made
returns-clause-made c =
    let z = c.index-folders-i.result in
    let p = is_folder_for c.args.path.now in
    let first = first_of p c.args.folders.now c.args.i z c.requires.found c.requires.inside in
    let at = get_or c.args.folders.now c.args.i z in
    let shared : arc_slice_items c.in_ok-places.places ≡ arc_slice_items at.places = search rules in
    let copied : c.in_ok-failing.failing.items ≡ at.failing.items = search rules in
    let places : folder_places c.new.result ≡ arc_slice_items at.places = c.new.ensures.places ∙ shared in
    let tally : folder_tally c.new.result ≡ fresh_tally at.failing.items = c.new.ensures.failing ∙ ap fresh_tally copied in
    first_or-at p folder_making None c.args.folders.now c.args.i z first ∙ ap (λ (n : List PathItem). Some (n, fresh_tally at.failing.items)) (sym places) ∙ ap (λ (t : Tally). Some (folder_places c.new.result, t)) (sym tally)
