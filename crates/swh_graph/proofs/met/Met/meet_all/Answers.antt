use Rattle.std.proofs.Common.{List, [], take, get_or, sym, subst}
use Rattle.std.proofs.lemmas.List.{take_more, take_all}
use Rattle.swh_base.specs.declared.kind.Kind.TheVariants.{Content}
use Rattle.swh_base.specs.declared.name.Name.{Name}
use Rattle.swh_graph.specs.Met.{MeetsAll}
use Rattle.swh_graph.proofs.Logs.{one_more}
use Rattle.swh_graph.proofs.met.Met.meet_all.Goals as goal

pub loop-name-preserved : goal.loop-name-preserved
loop-name-preserved c =
    let names = c.args.names.now in
    let i = c.loop-name.name-index in
    let none : Name = record { kind = Content; id = [] } in
    subst (λ (front : List Name). MeetsAll c.args.self.now front c.meet.new.self) (sym (take_more names i none c.loop-name-test.true))
    (one_more c.args.self.now (take i names) c.loop-name.self (get_or names i none) c.meet.new.self c.loop-name.invariant c.in_ok-meet.ensures)

pub returns : goal.returns
returns c =
    subst (λ (names : List Name). MeetsAll c.args.self.now names c.loop-name.self) (take_all c.loop-name.name-index c.args.names.now c.loop-name-test.false) c.loop-name.invariant
