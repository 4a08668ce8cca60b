use Rattle.std.proofs.Common.{rules, ◌≡◌, ◌+◌, ◌<◌, ◌≤◌, ℕ, length, refl, subst, arith}
use Rattle.swh_folders.specs.declared.folders.Folders.{Folders}
use Rattle.swh_folders.specs.Working.{cost_from}
use Rattle.swh_folders.proofs.Tallies.{tallied-all, tallied-cost, tallied-rest}
use Rattle.swh_folders.proofs.folders.is_full.Goals as goal

pub returns-then-entries-room-clause-tallied : goal.returns-then-entries-room-clause-tallied
returns-then-entries-room-clause-tallied c = λ base t.
    let count : c.len-folders.result ≡ length c.args.folders.now.nodes.items = search rules in
    tallied-all base c.args.folders.now _ t refl count c.in-Some.ensures.sum

pub returns-clause-tallied : goal.returns-clause-tallied
returns-clause-tallied c = λ base t.
    let count : c.len-folders.result ≡ length c.args.folders.now.nodes.items = search rules in
    tallied-all base c.args.folders.now _ t refl count c.in-Some.ensures.sum

pub returns-clause-small : goal.returns-clause-small
returns-clause-small c = λ few base t.
    let old = c.args.folders.now in
    let new : Folders = record { names = old.names; nodes = old.nodes; known = old.known; counted = c.len-folders.result; entries = c.in-Some.entries; room = old.room; most = old.most } in
    let count : c.len-folders.result ≡ length old.nodes.items = search rules in
    let is : c.in-Some.entries ≡ cost_from base old = tallied-cost base new (tallied-all base old new t refl count c.in-Some.ensures.sum) count in
    let low : c.in-Some.entries ≤ old.room = search rules in
    subst (λ (k : ℕ). k ≤ old.room) is low

pub returns-in_default-clause-within : goal.returns-in_default-clause-within
returns-in_default-clause-within c = λ base t within.
    let old = c.args.folders.now in
    let rest = tallied-rest base old t in
    let long : 18446744073709551615 < old.entries + cost_from old.counted old = search rules in
    let most : old.room ≤ 18446744073709551615 = search rules in
    let few = within.entries in
    absurd (omega arith)

pub returns-then-entries-room-clause-within : goal.returns-then-entries-room-clause-within
returns-then-entries-room-clause-within c = λ base t within.
    let old = c.args.folders.now in
    let rest = tallied-rest base old t in
    let is : c.in-Some.entries ≡ old.entries + cost_from old.counted old = search rules in
    let over : old.room < c.in-Some.entries = search rules in
    let few = within.entries in
    absurd (omega arith)
