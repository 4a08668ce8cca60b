use Rattle.std.proofs.Common.{◌≡◌, ◌∷◌, ◌++◌, [], ℕ, List, Option, sym, ap, subst, ◌∙◌}
use Rattle.std.specs.List.{AllByRecursion}
use Rattle.swh_base.specs.Directory.{IsEntryName}
use Rattle.swh_fastlex.specs.Path.{components}
use Rattle.swh_folders.specs.Opened.{lent_path, folder_path, start_map, StaysBounded, open_path}
use Rattle.swh_forest.proofs.Arenas.{if_ok, if_ok3}
use Rattle.swh_folders.proofs.Changes.{front-names, last-name, set-in}
use Rattle.swh_folders.proofs.Closings.{stays-names, bounded-names}
use Rattle.swh_forest.proofs.Components.{path-names}
use Rattle.swh_folders.proofs.Tallies.{tallied-same}
use Rattle.swh_forest.proofs.Keeping.{among-left, kept-wider, kept-then, last-among, front-among, path-among}
use Rattle.swh_entries.specs.Keys.{texts}
use Rattle.swh_folders.proofs.opened.set_in.Goals as goal

pub opened_at-requires-clause-folder : goal.opened_at-requires-clause-folder
opened_at-requires-clause-folder c = front-names (lent_path c.split_path.result.0) c.split_path.result.1.now (subst (λ (p : List (List ℕ)). AllByRecursion IsEntryName p) c.split_path.ensures (path-names c.args.path.now c.requires.path))

pub edited-requires-clause-name : goal.edited-requires-clause-name
edited-requires-clause-name c = last-name (lent_path c.split_path.result.0) c.split_path.result.1.now (subst (λ (p : List (List ℕ)). AllByRecursion IsEntryName p) c.split_path.ensures (path-names c.args.path.now c.requires.path))

pub returns-clause-stays : goal.returns-clause-stays
returns-clause-stays c = stays-names c.args.base c.args.folders.now c.opened_at.new.folders c.edited.new.folders c.opened_at.ensures.stays c.edited.ensures.names c.edited.ensures.nodes

pub returns-clause-bounded : goal.returns-clause-bounded
returns-clause-bounded c = if_ok c.edited.result (λ o is. subst (λ (r : Option ℕ). StaysBounded c.args.base c.args.folders.now c.edited.new.folders r (start_map c.args.folders.now c.args.start)) (sym is)
    (bounded-names c.args.base c.args.folders.now c.opened_at.new.folders c.edited.new.folders c.in_ok-opened.opened.root (start_map c.args.folders.now c.args.start) c.opened_at.ensures.stays.good c.edited.ensures.names c.edited.ensures.nodes c.edited.ensures.counts c.in_ok-opened.ensures.bounded)) c.edited.ensures.root

pub returns-clause-map : goal.returns-clause-map
returns-clause-map c =
    let m = start_map c.args.folders.now c.args.start in
    let name = c.split_path.result.1.now in
    let is : components c.args.path.now ≡ folder_path c.in_ok-opened.opened.path ++ name ∷ [] = c.split_path.ensures ∙ ap (λ (p : List (List ℕ)). p ++ name ∷ []) (sym c.in_ok-opened.ensures.path) in
    if_ok3 c.edited.result (λ o root path own. set-in c.opened_at.new.folders c.edited.new.folders c.in_ok-opened.opened o m (components c.args.path.now) name c.args.leaf c.opened_at.ensures.stays.good c.edited.ensures.names c.edited.ensures.nodes c.in_ok-opened.ensures.stands is (path-names c.args.path.now c.requires.path) c.requires.leaf root path own)
    c.edited.ensures.root c.edited.ensures.path c.edited.ensures.own

pub returns-clause-tallied : goal.returns-clause-tallied
returns-clause-tallied c = tallied-same c.args.base c.opened_at.new.folders c.edited.new.folders c.opened_at.ensures.tallied c.edited.ensures.nodes c.edited.ensures.counts.counted c.edited.ensures.counts.entries

pub returns-in_err-opened-clause-kept : goal.returns-in_err-opened-clause-kept
returns-in_err-opened-clause-kept c = kept-wider (texts c.args.folders.now.names.items) (texts c.opened_at.new.folders.names.items) (open_path c.args.start) (open_path c.args.start ++ components c.args.path.now) c.opened_at.ensures.kept (among-left (open_path c.args.start) (components c.args.path.now))

pub returns-clause-kept : goal.returns-clause-kept
returns-clause-kept c = kept-then (texts c.args.folders.now.names.items) (texts c.opened_at.new.folders.names.items) (texts c.edited.new.folders.names.items) (open_path c.args.start) (components c.args.path.now) c.opened_at.ensures.kept
    (kept-wider (texts c.opened_at.new.folders.names.items) (texts c.edited.new.folders.names.items) (c.split_path.result.1.now ∷ []) (components c.args.path.now) c.edited.ensures.kept (last-among (components c.args.path.now) (lent_path c.split_path.result.0) c.split_path.result.1.now c.split_path.ensures))

pub returns-clause-path : goal.returns-clause-path
returns-clause-path c = if_ok c.edited.result (λ o is. path-among (folder_path o.path) (lent_path c.split_path.result.0) (components c.args.path.now) (ap folder_path is ∙ c.in_ok-opened.ensures.path) (front-among (components c.args.path.now) (lent_path c.split_path.result.0) c.split_path.result.1.now c.split_path.ensures)) c.edited.ensures.path
