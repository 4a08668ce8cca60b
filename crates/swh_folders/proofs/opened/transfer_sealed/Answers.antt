use Rattle.std.proofs.Common.{◌≡◌, ◌≢◌, [], ap, subst, ◌∙◌, ◌++◌}
use Rattle.std.specs.Prelude.{IfOk, IfSome, IfNone}
use Rattle.swh_fastlex.specs.Path.{components}
use Rattle.swh_forest.specs.Forest.{flat}
use Rattle.swh_forest.specs.PathMap.{PathMap, held}
use Rattle.swh_forest.specs.Roots.{map_of_number, map_at}
use Rattle.swh_forest.specs.Transfer.{transferred}
use Rattle.swh_forest.proofs.EditedRoots.{root_flat}
use Rattle.swh_forest.proofs.Walks.{grows-more}
use Rattle.swh_forest.proofs.Keeping.{among-left, kept-wider, kept-then}
use Rattle.swh_entries.specs.Keys.{texts}
use Rattle.swh_folders.specs.Opened.{folder_path}
use Rattle.swh_folders.proofs.opened.transfer_sealed.Goals as goal

pub returns-clause-grows : goal.returns-clause-grows
returns-clause-grows c = grows-more c.args.names.now.items c.sealed.new.names.items c.transfer_path.new.names.items c.args.nodes.now.items c.sealed.new.nodes.items c.transfer_path.new.nodes.items c.sealed.ensures.grows c.transfer_path.ensures.grows

pub returns-clause-none : goal.returns-clause-none
returns-clause-none c =
    let is = root_flat c.sealed.new.names.items c.sealed.new.nodes.items c.in_ok-root.root ∙ ap flat c.in_ok-root.ensures.forest in
    subst (λ (m : PathMap). IfOk c.transfer_path.result (λ o. IfNone o (held (components c.args.source.now) m ≡ []))) is c.transfer_path.ensures.none

pub returns-clause-some : goal.returns-clause-some
returns-clause-some c =
    let is = root_flat c.sealed.new.names.items c.sealed.new.nodes.items c.in_ok-root.root ∙ ap flat c.in_ok-root.ensures.forest in
    subst (λ (m : PathMap). IfOk c.transfer_path.result (λ o. IfSome o (λ r. held (components c.args.source.now) m ≢ []))) is c.transfer_path.ensures.some

pub returns-clause-map : goal.returns-clause-map
returns-clause-map c =
    let is = root_flat c.sealed.new.names.items c.sealed.new.nodes.items c.in_ok-root.root ∙ ap flat c.in_ok-root.ensures.forest in
    subst (λ (m : PathMap). IfOk c.transfer_path.result (λ o. IfSome o (λ r. map_of_number (map_at c.transfer_path.new.names.items c.transfer_path.new.nodes.items) r
    ≡ transferred c.args.way (components c.args.source.now) (components c.args.target.now) m))) is c.transfer_path.ensures.map

pub returns-in_err-root-clause-kept : goal.returns-in_err-root-clause-kept
returns-in_err-root-clause-kept c = kept-wider (texts c.args.names.now.items) (texts c.sealed.new.names.items) (folder_path c.args.opened.path) (folder_path c.args.opened.path ++ (components c.args.source.now ++ components c.args.target.now)) c.sealed.ensures.kept (among-left (folder_path c.args.opened.path) (components c.args.source.now ++ components c.args.target.now))

pub returns-clause-kept : goal.returns-clause-kept
returns-clause-kept c = kept-then (texts c.args.names.now.items) (texts c.sealed.new.names.items) (texts c.transfer_path.new.names.items) (folder_path c.args.opened.path) (components c.args.source.now ++ components c.args.target.now) c.sealed.ensures.kept c.transfer_path.ensures.kept
