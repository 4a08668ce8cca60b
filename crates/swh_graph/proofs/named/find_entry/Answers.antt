use Rattle.std.proofs.Common.{◌≡◌, true, false, sym, ◌∙◌}
use Rattle.std.proofs.lemmas.Bool.Decides.{Decides-eqb}
use Rattle.std.proofs.lemmas.Slice.Eq.{slice_eq-Decides}
use Rattle.swh_dirfmt.specs.Entries.{entry_of}
use Rattle.swh_graph.proofs.Nameds.{search_starts, search_goes_on, search_finds, search_ends}
use Rattle.swh_graph.proofs.named.find_entry.Goals as goal

pub entries-init : goal.entries-init
entries-init c = search_starts c.args.body.now c.args.name.now

pub returns-then-eq-clause-some : goal.returns-then-eq-clause-some
returns-then-eq-clause-some c =
    search_finds c.args.body.now c.args.name.now c.entries.rest.now c.entries.invariant (entry_of c.in-Some.entry) c.in-Some.behind.now c.in-Some.ensures.some
    ((slice_eq-Decides Decides-eqb _ _ _ c.eq.ensures).0 c.if-eq.true)

pub entries-preserved : goal.entries-preserved
entries-preserved c =
    search_goes_on c.args.body.now c.args.name.now c.entries.rest.now c.entries.invariant (entry_of c.in-Some.entry) c.in-Some.behind.now c.in-Some.ensures.some
    (λ same. let e : false ≡ true = sym c.if-eq.false ∙ (slice_eq-Decides Decides-eqb _ _ _ c.eq.ensures).1 same in cc)

pub returns-clause-none : goal.returns-clause-none
returns-clause-none c = search_ends c.args.body.now c.args.name.now c.entries.rest.now c.entries.invariant c.in_default.ensures.none
