use Rattle.std.proofs.Common.{ℕ, List, sym, ap, ◌∙◌, refl}
use Rattle.swh_forest.specs.Arena.{tree_at}
use Rattle.swh_forest.specs.Forest.{IsFolder, forest, found}
use Rattle.swh_forest.specs.Roots.{root_forest}
use Rattle.swh_folders.specs.Working.{root_map}
use Rattle.swh_forest.proofs.Arenas.{if_ok3}
use Rattle.swh_folders.proofs.Openings.{stands-own, stands-taken}
use Rattle.swh_forest.proofs.Keeping.{among-left}
use Rattle.swh_entries.specs.Keys.{texts}
use Rattle.swh_folders.specs.Opened.{open_path}
use Rattle.swh_folders.proofs.opened.opened_at.Goals as goal

pub returns-then-same-clause-stands : goal.returns-then-same-clause-stands
returns-then-same-clause-stands c = rw c.in-In.is (stands-own c.args.folders.now.names.items c.args.folders.now.nodes.items c.in-In.opened c.requires.good (rw c.in-In.is at c.requires.start))

pub returns-in_ok-root-in-In-clause-stands : goal.returns-in_ok-root-in-In-clause-stands
returns-in_ok-root-in-In-clause-stands c =
    let names = c.closed.new.folders.names.items in
    let nodes = c.closed.new.folders.nodes.items in
    let root = c.in_ok-root-in-In.root in
    rw c.in-In.is (if_ok3 c.taken.result (λ o path is own.
    stands-taken names nodes o root _ c.closed.ensures.stays.good c.in_ok-root-in-In.ensures.inside is
    (own ∙ ap (λ (p : List (List ℕ)). forest (found p (IsFolder (root_forest (tree_at names nodes) root)))) (sym path)) c.in_ok-root-in-In.ensures.map)
    c.taken.ensures.path c.taken.ensures.root (rw (c.as_slice-names.ensures.value, c.as_slice-nodes.ensures.value) at c.taken.ensures.own))

pub returns-in-At-clause-stands : goal.returns-in-At-clause-stands
returns-in-At-clause-stands c =
    let names = c.args.folders.now.names.items in
    let nodes = c.args.folders.now.nodes.items in
    let root = c.in-At.root in
    rw c.in-At.is (if_ok3 c.taken-in-At.result (λ o path is own.
    stands-taken names nodes o root (root_map c.args.folders.now root) c.requires.good (rw c.in-At.is at c.requires.start) is
    (own ∙ ap (λ (p : List (List ℕ)). forest (found p (IsFolder (root_forest (tree_at names nodes) root)))) (sym path)) refl)
    c.taken-in-At.ensures.path c.taken-in-At.ensures.root (rw (c.as_slice-names-in-At.ensures.value, c.as_slice-nodes-in-At.ensures.value) at c.taken-in-At.ensures.own))

pub returns-then-same-clause-kept : goal.returns-then-same-clause-kept
returns-then-same-clause-kept c = among-left (texts c.args.folders.now.names.items) (open_path c.args.start)

pub returns-in_err-root-in-In-clause-kept : goal.returns-in_err-root-in-In-clause-kept
returns-in_err-root-in-In-clause-kept c = rw c.in-In.is c.closed.ensures.kept

pub returns-in_ok-root-in-In-clause-kept : goal.returns-in_ok-root-in-In-clause-kept
returns-in_ok-root-in-In-clause-kept c = rw c.in-In.is c.closed.ensures.kept

pub returns-in-At-clause-kept : goal.returns-in-At-clause-kept
returns-in-At-clause-kept c = among-left (texts c.args.folders.now.names.items) (open_path c.args.start)
