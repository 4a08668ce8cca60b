use Rattle.std.proofs.Common.{rules, ◌≡◌, ℕ, length, take, refl, ap, ◌∙◌, ◌++◌}
use Rattle.swh_forest.specs.Forest.{flat}
use Rattle.swh_folders.proofs.Changes.{IsAgain, open-again, opened-again, stays-again}
use Rattle.swh_folders.proofs.Tallies.{tallied-same}
use Rattle.swh_forest.proofs.Keeping.{among-left}
use Rattle.swh_entries.specs.Keys.{texts}
use Rattle.swh_folders.specs.Opened.{folder_path}
use Rattle.swh_fastlex.specs.Path.{components}
use Rattle.swh_folders.proofs.opened.transfer_open.Goals as goal

pub returns-in_default-clause-stays : goal.returns-in_default-clause-stays
returns-in_default-clause-stays c =
    let old = c.args.folders.now in
    let names = c.transfer_sealed.new.names.items in
    let nodes = c.transfer_sealed.new.nodes.items in
    let n : c.len-count.result ≡ length old.nodes.items = search rules in
    let grows = c.transfer_sealed.ensures.grows in
    stays-again c.args.base old _ names nodes c.requires.tallied c.transfer_sealed.ensures.good grows refl (c.truncate.ensures.items ∙ ap (λ (k : ℕ). take k nodes) n)

pub returns-in_default-clause-left : goal.returns-in_default-clause-left
returns-in_default-clause-left c =
    let old = c.args.folders.now in
    let names = c.transfer_sealed.new.names.items in
    let nodes = c.transfer_sealed.new.nodes.items in
    let n : c.len-count.result ≡ length old.nodes.items = search rules in
    let grows = c.transfer_sealed.ensures.grows in
    let again : IsAgain c.args.opened c.in_ok-again.again = record { root = c.in_ok-again.ensures.root; path = c.in_ok-again.ensures.path; node = c.in_ok-again.ensures.node } in
    rw (c.truncate.ensures.items, n) (opened-again old.names.items names old.nodes.items nodes c.args.opened c.in_ok-again.again c.requires.opened grows again)

pub returns-in_default-clause-same : goal.returns-in_default-clause-same
returns-in_default-clause-same c =
    let old = c.args.folders.now in
    let names = c.transfer_sealed.new.names.items in
    let nodes = c.transfer_sealed.new.nodes.items in
    let n : c.len-count.result ≡ length old.nodes.items = search rules in
    let grows = c.transfer_sealed.ensures.grows in
    let again : IsAgain c.args.opened c.in_ok-again.again = record { root = c.in_ok-again.ensures.root; path = c.in_ok-again.ensures.path; node = c.in_ok-again.ensures.node } in
    rw (c.truncate.ensures.items, n) (ap flat (open-again old.names.items names old.nodes.items nodes c.args.opened c.in_ok-again.again c.requires.opened grows again))

pub returns-in_default-clause-lists : goal.returns-in_default-clause-lists
returns-in_default-clause-lists c =
    let nodes = c.transfer_sealed.new.nodes.items in
    let n : c.len-count.result ≡ length c.args.folders.now.nodes.items = search rules in
    c.truncate.ensures.items ∙ ap (λ (k : ℕ). take k nodes) n ∙ c.transfer_sealed.ensures.grows.lists

pub returns-in_default-clause-tallied : goal.returns-in_default-clause-tallied
returns-in_default-clause-tallied c =
    let nodes = c.transfer_sealed.new.nodes.items in
    let n : c.len-count.result ≡ length c.args.folders.now.nodes.items = search rules in
    tallied-same c.args.base c.args.folders.now _ c.requires.tallied (c.truncate.ensures.items ∙ ap (λ (k : ℕ). take k nodes) n ∙ c.transfer_sealed.ensures.grows.lists) refl refl

pub returns-in_err-again-clause-kept : goal.returns-in_err-again-clause-kept
returns-in_err-again-clause-kept c = among-left (texts c.args.folders.now.names.items) (folder_path c.args.opened.path ++ (components c.args.source.now ++ components c.args.target.now))

pub returns-in_err-settled-clause-kept : goal.returns-in_err-settled-clause-kept
returns-in_err-settled-clause-kept c = rw c.settled.ensures.names c.transfer_sealed.ensures.kept

pub returns-clause-kept : goal.returns-clause-kept
returns-clause-kept c = rw c.settled.ensures.names c.transfer_sealed.ensures.kept
