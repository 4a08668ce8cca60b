use Rattle.std.proofs.Common.{◌≡◌, [], get_or, sym, subst, List}
use Rattle.std.specs.Prelude.{◌≢◌, Contains}
use Rattle.std.proofs.lemmas.List.{take_all}
use Rattle.swh_base.specs.declared.kind.Kind.TheVariants.{Content, Revision as RevisionKind}
use Rattle.swh_base.specs.declared.name.Name.{Name}
use Rattle.swh_fastcook.proofs.EndTexts.{not_so}
use Rattle.swh_fastcook.proofs.Lines.{each_more}
use Rattle.swh_fastcook.proofs.ends.first_revision.Goals as goal

abbrev none : Name
none = record { kind = Content; id = [] }

pub loop-name-preserved : goal.loop-name-preserved
loop-name-preserved c =
    let i = c.loop-name.name-index in
    each_more (λ (n : Name). n.kind ≢ RevisionKind) c.args.names.now i none c.loop-name-test.true c.loop-name.invariant
    (not_so c.is_revision.result ((get_or c.args.names.now i none).kind ≡ RevisionKind) c.is_revision.ensures c.if-is_revision.false)

pub returns-clause-none : goal.returns-clause-none
returns-clause-none c =
    λ n there. c.loop-name.invariant n (subst (λ (ns : List Name). Contains ns n) (sym (take_all c.loop-name.name-index c.args.names.now c.loop-name-test.false)) there)
