use Rattle.std.proofs.Common.{◌≡◌, ◌++◌, ◌∷◌, [], List, get_or, set, sym, ap, ◌∙◌}
use Rattle.std.specs.Global.{Vec}
use Rattle.std.proofs.lemmas.List.{map-set, map-append, get_or-map}
use Rattle.swh_base.specs.Directory.{DirectoryEntry}
use Rattle.swh_dirfmt.specs.declared.entry.DirEntry.{DirEntry}
use Rattle.swh_dirfmt.specs.Entries.{entry_view, entry_views}
use Rattle.swh_dirmade.specs.Building.{list_views, list_at}
use Rattle.swh_dirmade.proofs.building.put_entry.Goals as goal

pub returns-clause-put : goal.returns-clause-put
returns-clause-put c =
    let lists = c.args.lists.now.items in
    let k = c.args.folder in
    let old = c.index_mut.result.now in
    let there : old ≡ get_or lists k old = c.index_mut.ensures.value in
    let view = λ (l : Vec DirEntry). entry_views l.items in
    let pushed : view c.push.new.self ≡ view old ++ entry_view c.args.entry ∷ [] = ap entry_views c.in_ok-push.ensures.items ∙ map-append entry_view old.items (c.args.entry ∷ []) in
    let here : view old ≡ list_at (list_views lists) k = ap view there ∙ sym (get_or-map view lists k old [] c.requires) in
    map-set view lists k c.push.new.self ∙ ap (set (list_views lists) k) (pushed ∙ ap (λ (l : List DirectoryEntry). l ++ entry_view c.args.entry ∷ []) here)
