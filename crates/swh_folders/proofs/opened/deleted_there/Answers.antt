use Rattle.std.proofs.Common.{◌≡◌, ◌≢◌, ◌∷◌, ◌++◌, [], ℕ, List, length, sym, ap, subst, ◌∙◌, refl}
use Rattle.std.specs.List.{AllByRecursion}
use Rattle.swh_base.specs.Directory.{IsEntryName}
use Rattle.swh_fastlex.specs.Path.{components}
use Rattle.swh_forest.specs.Arena.{stands_of, tree_at}
use Rattle.swh_forest.specs.Forest.{Nothing, IsFolder, child_at, forest, found}
use Rattle.swh_folders.specs.Opened.{lent_path, folder_path, own_forest}
use Rattle.swh_forest.specs.Roots.{root_forest}
use Rattle.swh_folders.specs.Working.{root_map}
use Rattle.swh_folders.proofs.Changes.{front-names, last-name, delete-in, stands-there}
use Rattle.swh_forest.proofs.Components.{path-names}
use Rattle.swh_forest.proofs.EditedRoots.{from-root, here-sound, deleted-none, some-stands}
use Rattle.swh_folders.proofs.Openings.{stands-taken}
use Rattle.swh_forest.proofs.Keeping.{among-none, front-among, path-among, among-self, kept-none}
use Rattle.swh_entries.specs.Keys.{texts}
use Rattle.swh_folders.proofs.opened.deleted_there.Goals as goal

pub find-requires-clause-root : goal.find-requires-clause-root
find-requires-clause-root c = rw c.as_slice-nodes.ensures.value (c.root_of.ensures.inside (length c.args.folders.now.nodes.items) c.requires.root)

pub returns-in_default-clause-map : goal.returns-in_default-clause-map
returns-in_default-clause-map c =
    let names = c.args.folders.now.names.items in
    let nodes = c.args.folders.now.nodes.items in
    let none = rw (c.as_slice-names.ensures.value, c.as_slice-nodes.ensures.value, c.as_slice.ensures.value, c.in_ok-parts.ensures) at c.in_default.ensures.found in
    deleted-none c.args.path.now (stands_of (tree_at names nodes) c.root_of.result) _ c.requires.path
    (here-sound names nodes c.args.root c.root_of.result c.requires.good c.requires.root c.root_of.ensures.same)
    (from-root names nodes c.args.root c.root_of.result c.root_of.ensures.same)
    (sym none)

pub taken-requires-clause-folder : goal.taken-requires-clause-folder
taken-requires-clause-folder c = front-names (lent_path c.split_path.result.0) c.split_path.result.1.now (subst (λ (p : List (List ℕ)). AllByRecursion IsEntryName p) c.split_path.ensures (path-names c.args.path.now c.requires.path))

pub edited-requires-clause-name : goal.edited-requires-clause-name
edited-requires-clause-name c = last-name (lent_path c.split_path.result.0) c.split_path.result.1.now (subst (λ (p : List (List ℕ)). AllByRecursion IsEntryName p) c.split_path.ensures (path-names c.args.path.now c.requires.path))

pub returns-clause-map : goal.returns-clause-map
returns-clause-map c =
    let names = c.args.folders.now.names.items in
    let nodes = c.args.folders.now.nodes.items in
    let y = stands_of (tree_at names nodes) c.root_of.result in
    let o = c.in_ok-opened.opened in
    let name = c.split_path.result.1.now in
    let is : components c.args.path.now ≡ folder_path o.path ++ name ∷ [] = c.split_path.ensures ∙ ap (λ (p : List (List ℕ)). p ++ name ∷ []) (sym c.in_ok-opened.ensures.path) in
    let there = rw (c.as_slice-names.ensures.value, c.as_slice-nodes.ensures.value, c.as_slice.ensures.value, c.in_ok-parts.ensures) at c.in-Some.ensures.found in
    let taken = rw (c.as_slice-names.ensures.value, c.as_slice-nodes.ensures.value) at c.in_ok-opened.ensures.own in
    let own : own_forest names nodes o ≡ forest (found (folder_path o.path) (IsFolder (root_forest (tree_at names nodes) c.args.root))) = taken ∙ ap (λ (p : List (List ℕ)). forest (found p (IsFolder (root_forest (tree_at names nodes) c.args.root)))) (sym c.in_ok-opened.ensures.path) in
    let some : child_at name (own_forest names nodes o) ≢ Nothing = λ e. some-stands (tree_at names nodes) c.in-Some._child (there ∙ stands-there names nodes o c.args.root (components c.args.path.now) name y is (c.root_of.ensures.same (tree_at names nodes)) own ∙ e) in
    let stands = stands-taken names nodes o c.args.root (root_map c.args.folders.now c.args.root) c.requires.good c.requires.root c.in_ok-opened.ensures.root own refl in
    delete-in c.args.folders.now c.edited.new.folders o c.in_ok-edited.field-0 (root_map c.args.folders.now c.args.root) (components c.args.path.now) name c.requires.good c.edited.ensures.names c.edited.ensures.nodes stands is (path-names c.args.path.now c.requires.path) some c.in_ok-edited.ensures.root c.in_ok-edited.ensures.path c.in_ok-edited.ensures.own

pub returns-in_err-parts-clause-kept : goal.returns-in_err-parts-clause-kept
returns-in_err-parts-clause-kept c = among-self (texts c.args.folders.now.names.items)

pub returns-in_default-clause-kept : goal.returns-in_default-clause-kept
returns-in_default-clause-kept c = among-self (texts c.args.folders.now.names.items)

pub returns-in_default-clause-path : goal.returns-in_default-clause-path
returns-in_default-clause-path c = among-none (components c.args.path.now)

pub returns-in_err-opened-clause-kept : goal.returns-in_err-opened-clause-kept
returns-in_err-opened-clause-kept c = among-self (texts c.args.folders.now.names.items)

pub returns-in_err-edited-clause-kept : goal.returns-in_err-edited-clause-kept
returns-in_err-edited-clause-kept c = kept-none (texts c.args.folders.now.names.items) (texts c.edited.new.folders.names.items) c.edited.ensures.kept

pub returns-clause-kept : goal.returns-clause-kept
returns-clause-kept c = kept-none (texts c.args.folders.now.names.items) (texts c.edited.new.folders.names.items) c.edited.ensures.kept

pub returns-clause-path : goal.returns-clause-path
returns-clause-path c = path-among (folder_path c.in_ok-edited.field-0.path) (lent_path c.split_path.result.0) (components c.args.path.now) (ap folder_path c.in_ok-edited.ensures.path ∙ c.in_ok-opened.ensures.path) (front-among (components c.args.path.now) (lent_path c.split_path.result.0) c.split_path.result.1.now c.split_path.ensures)
