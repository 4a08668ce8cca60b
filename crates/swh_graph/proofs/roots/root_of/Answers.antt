use Rattle.std.proofs.Common.{◌≡◌, inl, inr, false, true, List, arith, sym, ap, ◌∙◌, length, refl, subst}
use Rattle.std.specs.Prelude.{Contains}
use Rattle.swh_base.specs.declared.name.Name.{Name}
use Rattle.swh_base.specs.declared.kind.Kind.{Kind}
use Rattle.swh_base.specs.declared.kind.Kind.TheVariants.{Directory}
use Rattle.swh_base.specs.contracts.kind.Kind.{the_type}
use Rattle.swh_base.proofs.Elementary.{none_in}
use Rattle.swh_graph.specs.Root.{HasRootOf}
use denote.Enum.Bare.{sameb}
use Rattle.swh_graph.proofs.Trails.{trail_starts, trail_goes_on}
use Rattle.swh_graph.proofs.RootTrails.{no_root_in_circle, no_root_at_end}
use Rattle.swh_graph.proofs.roots.root_of.Goals as goal

pub loop-round-init : goal.loop-round-init
loop-round-init g c = record {
  trail = trail_starts (HasRootOf (g.L.Look.archive c.args.look.now).bodies) (Contains c.new-seen.result) c.args.anchor (λ n there. none_in n (subst (λ (ns : List Name). Contains ns n) c.new-seen.ensures there));
  count = ap length c.new-seen.ensures;
}

pub returns-then-contains-clause-ok : goal.returns-then-contains-clause-ok
returns-then-contains-clause-ok g c =
    no_root_in_circle (g.L.Look.archive c.args.look.now).bodies c.loop-round.seen c.args.anchor c.loop-round.place c.loop-round.invariant.trail (c.contains.ensures.0 c.if-contains.true)

pub loop-round-preserved : goal.loop-round-preserved
loop-round-preserved g c = record {
  trail = trail_goes_on (HasRootOf (g.L.Look.archive c.args.look.now).bodies) (Contains c.loop-round.seen) (Contains c.add.new.self) c.args.anchor c.loop-round.place c.in-Some.next c.loop-round.invariant.trail
      (rw c.in-Some.is at c.in_ok-found.ensures.ok)
      (λ n there. (c.in_ok-add.ensures.ok n).1 (inl there)) ((c.in_ok-add.ensures.ok c.loop-round.place).1 (inr refl)) (λ n there. (c.in_ok-add.ensures.ok n).0 there);
  count =
      let more = c.in_ok-add.ensures.more (λ there. let e : false ≡ true = sym c.if-contains.false ∙ c.contains.ensures.1 there in cc) in
      let n = c.loop-round.invariant.count in
      omega (arith, more, n);
}

pub unreachable-requires : goal.unreachable-requires
unreachable-requires g c =
    let count = c.loop-round.invariant.count in
    let small = c.len-count.ensures.small in
    let value = c.len-count.ensures.value in
    omega (arith, count, small, value)

pub returns-in_default-clause-ok : goal.returns-in_default-clause-ok
returns-in_default-clause-ok g c =
    no_root_at_end (g.L.Look.archive c.args.look.now).bodies c.loop-round.seen c.args.anchor c.loop-round.place c.loop-round.invariant.trail (λ folder. let e : false ≡ true = c.if-eq.ensures ∙ ap (λ (k : Kind). sameb the_type k Directory) folder in cc) (rw c.in_default.is at c.in_ok-found.ensures.ok)
