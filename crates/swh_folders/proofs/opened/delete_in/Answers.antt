use Rattle.std.proofs.Common.{ℕ, List, subst, inr, ◌++◌, ap, ◌∙◌}
use Rattle.std.specs.List.{AllByRecursion}
use Rattle.swh_base.specs.Directory.{IsEntryName}
use Rattle.swh_folders.specs.Opened.{lent_path, start_map, open_path, folder_path}
use Rattle.swh_forest.proofs.Arenas.{if_ok}
use Rattle.swh_folders.proofs.Changes.{last-name}
use Rattle.swh_folders.proofs.Closings.{stays-self, stays-names, bounded-names}
use Rattle.swh_forest.proofs.Components.{path-names}
use Rattle.swh_folders.proofs.Tallies.{tallied-same}
use Rattle.swh_forest.proofs.Keeping.{among-on, among-left, front-among, path-among}
use Rattle.swh_entries.specs.Keys.{texts}
use Rattle.swh_fastlex.specs.Path.{components}
use Rattle.swh_folders.proofs.opened.delete_in.Goals as goal

pub deleted_here-requires-clause-name : goal.deleted_here-requires-clause-name
deleted_here-requires-clause-name c = last-name (lent_path c.split_path.result.0) c.split_path.result.1.now (subst (λ (p : List (List ℕ)). AllByRecursion IsEntryName p) c.split_path.ensures (path-names c.args.path.now c.requires.path))

pub returns-in_err-deleted_here-in-In-clause-stays : goal.returns-in_err-deleted_here-in-In-clause-stays
returns-in_err-deleted_here-in-In-clause-stays c = stays-names c.args.base c.args.folders.now c.args.folders.now c.deleted_here.new.folders (stays-self c.args.base c.args.folders.now c.requires.tallied c.requires.good) c.deleted_here.ensures.names c.deleted_here.ensures.nodes

pub returns-then-same-clause-stays : goal.returns-then-same-clause-stays
returns-then-same-clause-stays c = stays-names c.args.base c.args.folders.now c.args.folders.now c.deleted_here.new.folders (stays-self c.args.base c.args.folders.now c.requires.tallied c.requires.good) c.deleted_here.ensures.names c.deleted_here.ensures.nodes

pub returns-in_ok-root-in-In-clause-stays : goal.returns-in_ok-root-in-In-clause-stays
returns-in_ok-root-in-In-clause-stays c = stays-names c.args.base c.args.folders.now c.closed.new.folders c.deleted_there.new.folders c.closed.ensures.stays c.deleted_there.ensures.names c.deleted_there.ensures.nodes

pub returns-in_ok-root-in-In-clause-bounded : goal.returns-in_ok-root-in-In-clause-bounded
returns-in_ok-root-in-In-clause-bounded c = if_ok c.deleted_there.result (λ s is. rw is
    (bounded-names c.args.base c.args.folders.now c.closed.new.folders c.deleted_there.new.folders c.in_ok-root-in-In.root (start_map c.args.folders.now c.args.start) c.closed.ensures.stays.good c.deleted_there.ensures.names c.deleted_there.ensures.nodes c.deleted_there.ensures.counts (inr (c.in_ok-root-in-In.ensures.bounded, rw c.in-In.is c.in_ok-root-in-In.ensures.map)))) c.deleted_there.ensures.root

pub returns-in-At-clause-stays : goal.returns-in-At-clause-stays
returns-in-At-clause-stays c = stays-names c.args.base c.args.folders.now c.args.folders.now c.deleted_there-in-At.new.folders (stays-self c.args.base c.args.folders.now c.requires.tallied c.requires.good) c.deleted_there-in-At.ensures.names c.deleted_there-in-At.ensures.nodes

pub returns-in_err-deleted_here-in-In-clause-tallied : goal.returns-in_err-deleted_here-in-In-clause-tallied
returns-in_err-deleted_here-in-In-clause-tallied c = tallied-same c.args.base c.args.folders.now c.deleted_here.new.folders c.requires.tallied c.deleted_here.ensures.nodes c.deleted_here.ensures.counts.counted c.deleted_here.ensures.counts.entries

pub returns-then-same-clause-tallied : goal.returns-then-same-clause-tallied
returns-then-same-clause-tallied c = tallied-same c.args.base c.args.folders.now c.deleted_here.new.folders c.requires.tallied c.deleted_here.ensures.nodes c.deleted_here.ensures.counts.counted c.deleted_here.ensures.counts.entries

pub returns-in_ok-root-in-In-clause-tallied : goal.returns-in_ok-root-in-In-clause-tallied
returns-in_ok-root-in-In-clause-tallied c = tallied-same c.args.base c.closed.new.folders c.deleted_there.new.folders c.closed.ensures.tallied c.deleted_there.ensures.nodes c.deleted_there.ensures.counts.counted c.deleted_there.ensures.counts.entries

pub returns-in-At-clause-tallied : goal.returns-in-At-clause-tallied
returns-in-At-clause-tallied c = tallied-same c.args.base c.args.folders.now c.deleted_there-in-At.new.folders c.requires.tallied c.deleted_there-in-At.ensures.nodes c.deleted_there-in-At.ensures.counts.counted c.deleted_there-in-At.ensures.counts.entries

pub returns-in_err-deleted_here-in-In-clause-kept : goal.returns-in_err-deleted_here-in-In-clause-kept
returns-in_err-deleted_here-in-In-clause-kept c = among-on (texts c.deleted_here.new.folders.names.items) (texts c.args.folders.now.names.items) (texts c.args.folders.now.names.items ++ open_path c.args.start) c.deleted_here.ensures.kept (among-left (texts c.args.folders.now.names.items) (open_path c.args.start))

pub returns-then-same-clause-kept : goal.returns-then-same-clause-kept
returns-then-same-clause-kept c = among-on (texts c.deleted_here.new.folders.names.items) (texts c.args.folders.now.names.items) (texts c.args.folders.now.names.items ++ open_path c.args.start) c.deleted_here.ensures.kept (among-left (texts c.args.folders.now.names.items) (open_path c.args.start))

pub returns-then-same-clause-path : goal.returns-then-same-clause-path
returns-then-same-clause-path c = path-among (folder_path c.in_ok-deleted_here-in-In.field-0.path) (lent_path c.split_path.result.0) (components c.args.path.now) (ap folder_path c.in_ok-deleted_here-in-In.ensures.path ∙ c.is_same_folder-same.ensures c.if-same.true) (front-among (components c.args.path.now) (lent_path c.split_path.result.0) c.split_path.result.1.now c.split_path.ensures)

pub returns-in_err-root-in-In-clause-kept : goal.returns-in_err-root-in-In-clause-kept
returns-in_err-root-in-In-clause-kept c = rw c.in-In.is c.closed.ensures.kept

pub returns-in_ok-root-in-In-clause-kept : goal.returns-in_ok-root-in-In-clause-kept
returns-in_ok-root-in-In-clause-kept c = rw c.in-In.is (among-on (texts c.deleted_there.new.folders.names.items) (texts c.closed.new.folders.names.items) (texts c.args.folders.now.names.items ++ folder_path c.in-In.opened.path) c.deleted_there.ensures.kept c.closed.ensures.kept)

pub returns-in-At-clause-kept : goal.returns-in-At-clause-kept
returns-in-At-clause-kept c = among-on (texts c.deleted_there-in-At.new.folders.names.items) (texts c.args.folders.now.names.items) (texts c.args.folders.now.names.items ++ open_path c.args.start) c.deleted_there-in-At.ensures.kept (among-left (texts c.args.folders.now.names.items) (open_path c.args.start))
