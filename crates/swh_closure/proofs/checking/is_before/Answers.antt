use Rattle.std.proofs.Common.{◌≡◌, ap, sym, ◌∙◌}
use Rattle.std.specs.Ordering.{is_lt}
use Rattle.std.proofs.lemmas.Cmp.{is_lt_index}
use Rattle.swh_base.specs.contracts.name.NameOrd.TheImpl.{cmp-value}
use Rattle.swh_closure.proofs.Order.{derived}
use Rattle.swh_closure.proofs.checking.is_before.Goals as goal

pub returns : goal.returns
returns c =
    let given : c.cmp.result ≡ cmp-value.it c.args.a.now c.args.b.now = c.cmp.ensures in
    c.eq.ensures ∙ sym (is_lt_index c.cmp.result) ∙ ap is_lt (given ∙ derived c.args.a.now c.args.b.now)
