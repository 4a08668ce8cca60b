use Rattle.std.proofs.Common.{rules, ◌≡◌, ◌≤◌, get_or}
use Rattle.swh_outside.specs.Faults.{one_more}
use Rattle.swh_outside.specs.Counts.{is_of}
use Rattle.swh_outside.proofs.FirstsLaws.{first_of}
use Rattle.swh_outside.proofs.CountLaws.{raised, raised-later, raised-others}
use Rattle.swh_outside.proofs.path_counts.raise_count.Goals as goal

pub returns-clause-rose : goal.returns-clause-rose
returns-clause-rose c =
    let z = c.index-counts-i.result in
    let first = first_of (is_of c.args.path.now) c.args.counts.now c.args.i z c.requires.found c.requires.inside in
    let rose : c.saturating_add-count.result ≡ one_more (get_or c.args.counts.now c.args.i z).faults = search rules in
    raised c.args.counts.now c.args.i z c.args.path.now c.saturating_add-count.result first rose

pub returns-clause-later : goal.returns-clause-later
returns-clause-later c =
    let z = c.index-counts-i.result in
    let first = first_of (is_of c.args.path.now) c.args.counts.now c.args.i z c.requires.found c.requires.inside in
    let le : (get_or c.args.counts.now c.args.i z).faults ≤ c.saturating_add-count.result = search rules in
    raised-later c.args.counts.now c.args.i z c.args.path.now c.saturating_add-count.result first le

pub returns-clause-other_paths : goal.returns-clause-other_paths
returns-clause-other_paths c =
    let z = c.index-counts-i.result in
    let first = first_of (is_of c.args.path.now) c.args.counts.now c.args.i z c.requires.found c.requires.inside in
    raised-others c.args.counts.now c.args.i z c.args.path.now c.saturating_add-count.result first
