use Rattle.std.proofs.Common.{rules, ◌≡◌, ap, ◌∙◌, arith}
use Rattle.swh_base.specs.Directory.{suffix_of}
use Rattle.swh_dirfmt.specs.declared.entry.SpelledEntry.{SpelledEntry}
use Rattle.swh_dirfmt.proofs.Places.{none_so_named}
use Rattle.swh_dirfmt.proofs.order.has_name.Goals as goal

pub returns-in-Some-clause-none : goal.returns-in-Some-clause-none
returns-in-Some-clause-none c =
    let held = c.in-Some.ensures.lookup.3.1 in
    λ no. none_so_named c.args.entries.now c.args.name.now (suffix_of c.args.mode) c.count_before.result c.requires c.count_before.ensures.before c.count_before.ensures.others
    (λ d within e. let named : c.in-Some.entry.now.name.now ≡ c.args.name.now = ap (λ (x : SpelledEntry). x.name.now) (held d) ∙ e in no (search rules))

pub returns-in-None-clause-none : goal.returns-in-None-clause-none
returns-in-None-clause-none c =
    let past = c.in-None.ensures.lookup.3 in
    λ _. none_so_named c.args.entries.now c.args.name.now (suffix_of c.args.mode) c.count_before.result c.requires c.count_before.ensures.before c.count_before.ensures.others (λ d within e. absurd (omega (arith, past)))
