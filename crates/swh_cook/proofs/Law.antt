-- What was made of a directory loads as it, said of any name of a directory.
use Rattle.std.proofs.Common.{◌≡◌, ℕ, Option, List, [], length, map, sym, ap, ◌∙◌, subst}
use Rattle.swh_base.specs.declared.kind.Kind.{Kind}
use Rattle.swh_base.specs.declared.kind.Kind.TheVariants.{Directory}
use Rattle.swh_base.specs.declared.name.Name.{Name}
use Rattle.swh_model.specs.Archive.{Bodies, IsGraphOf}
use Rattle.swh_outside.specs.Folder.{Tree as Held}
use Rattle.swh_graph.specs.Path.{directory_name}
use Rattle.swh_pathwalk.specs.Tree.{Row}
use Rattle.swh_postorder.specs.Postorder.{IsPostorder}
use Rattle.swh_carried.specs.Uncarried.{AreCarried}
use Rattle.swh_dircook.specs.Cook.{IsCarriedFolder, IsFolderOf, MakesFolder}
use Rattle.swh_dircook.specs.Listing.{listing_text}
use Rattle.swh_dircook.specs.Made.{Made, Yarded, folder_made}
use Rattle.swh_dircook.specs.Rules.{BreaksInFolder}
use Rattle.swh_dircook.proofs.Endings.{is_named}
use Rattle.swh_cook.specs.FolderBack.{AreGoodBodies, AreOfBytes, HoldsMade, LoadsBack}
use Rattle.swh_cook.proofs.Nodes.{nodes, row_of, walk_rows}
use Rattle.swh_cook.proofs.Whole.{good_tree, back}

module _
    (id : Kind → List ℕ → List ℕ)
    (bodies : Bodies)
    (children_of : Name → Option (List Name))
    (order : List Name)
    (out : List ℕ)
    (made : List Made)
    (fs : Held)
    (are : AreGoodBodies id bodies)
    (of_bytes : AreOfBytes bodies order)
    (graph : IsGraphOf bodies children_of)
    (holds : HoldsMade out made fs)
  where
    abbrev LoadsAt : Name → Type 0
    LoadsAt root =
        IsPostorder children_of root order → AreCarried children_of (BreaksInFolder bodies root) order → (folder : IsFolderOf bodies root out made)
        → LoadsBack id fs (listing_text folder.rows) root

    loads_at : (dir_id : List ℕ) → length dir_id ≡ 20 → LoadsAt (directory_name dir_id)
    loads_at dir_id twenty is carried folder =
        let top = folder.walk.is.top in
        let under = folder.walk.is.under in
        let rows_are : folder.rows ≡ map row_of (nodes [] folder.walk.tree) = folder.walk.rows_are ∙ walk_rows folder.walk.tree (good_tree bodies folder.walk.tree top.is.good under) in
        subst (λ (r : List Row). LoadsBack id fs (listing_text r) (directory_name dir_id)) (sym rows_are)
        (back id bodies are children_of graph dir_id twenty order is carried of_bytes folder.walk.tree top under out fs
        (subst (λ (m : List Made). HoldsMade out m fs) (folder.are ∙ ap (folder_made bodies out) rows_are) holds))

pub loads_back : (id : Kind → List ℕ → List ℕ) (bodies : Bodies) (children_of : Name → Option (List Name)) (root : Name) (order : List Name) (out : List ℕ) (made : List Made) (tree : Held) → AreGoodBodies id bodies → AreOfBytes bodies order → IsGraphOf bodies children_of
    → root.kind ≡ Directory → length root.id ≡ 20 → IsPostorder children_of root order → AreCarried children_of (BreaksInFolder bodies root) order → (folder : IsFolderOf bodies root out made) → HoldsMade out made tree → LoadsBack id tree (listing_text folder.rows) root
loads_back id bodies children_of root order out made tree are of_bytes graph folder twenty is carried is_folder holds =
    subst (LoadsAt id bodies children_of order out made tree are of_bytes graph holds) (is_named root folder) (loads_at id bodies children_of order out made tree are of_bytes graph holds root.id twenty) is carried is_folder

-- the same of what the cooking of a directory answers
pub made_loads_back : (id : Kind → List ℕ → List ℕ) (bodies : Bodies) (children_of : Name → Option (List Name)) (root : Name) (out : List ℕ) (old new : Yarded) (tree : Held) (c : IsCarriedFolder bodies children_of root) (m : MakesFolder bodies root out old new)
    → AreGoodBodies id bodies → AreOfBytes bodies c.order → IsGraphOf bodies children_of → root.kind ≡ Directory → length root.id ≡ 20 → HoldsMade out m.made tree → LoadsBack id tree (listing_text m.folder.rows) root
made_loads_back id bodies children_of root out old new tree c m are of_bytes graph folder twenty holds =
    loads_back id bodies children_of root c.order out m.made tree are of_bytes graph folder twenty c.is_order c.carried m.folder holds
