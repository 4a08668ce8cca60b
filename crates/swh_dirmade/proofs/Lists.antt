-- The lists of a table's folders, of which the last is taken.
use Rattle.std.proofs.Common.{◌≡◌, suc, List, [], ◌∷◌, ◌++◌, length, ap, ◌∙◌, arith, length-append}
use Rattle.std.specs.Global.{Vec}
use Rattle.std.proofs.lemmas.List.{length-map, map-append}
use Rattle.swh_dirfmt.specs.declared.entry.DirEntry.{DirEntry}
use Rattle.swh_dirfmt.specs.Entries.{entry_views}
use Rattle.swh_dirmade.specs.Building.{list_views}

pub list_length : (lists : List (Vec DirEntry)) → length (list_views lists) ≡ length lists
list_length lists = length-map lists (λ (l : Vec DirEntry). entry_views l.items)

pub long_of : (old front : List (Vec DirEntry)) (list : Vec DirEntry) → old ≡ front ++ list ∷ [] → length old ≡ suc (length front)
long_of old front list cut = let e = ap length cut in let l = length-append front (list ∷ []) in omega (arith, e, l)

pub views_of : (old front : List (Vec DirEntry)) (list : Vec DirEntry) → old ≡ front ++ list ∷ [] → list_views old ≡ list_views front ++ entry_views list.items ∷ []
views_of old front list cut = ap list_views cut ∙ map-append (λ (l : Vec DirEntry). entry_views l.items) front (list ∷ [])
