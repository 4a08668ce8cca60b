use Rattle.std.proofs.Common.{◌≡◌, ℕ, List, length, ap, ◌∙◌, arith}
use Rattle.std.proofs.lemmas.List.{take_all}
use Rattle.swh_base.specs.Snapshot.{ToObject}
use Rattle.swh_snpfmt.proofs.target.object_from.Goals as goal

pub returns-clause-some : goal.returns-clause-some
returns-clause-some c =
    let size : length c.args.bytes.now ≡ 20 = omega arith in
    let whole : c.in_ok-id.id.now ≡ c.args.bytes.now = c.in_ok-id.ensures.cases.0 ∙ take_all 20 c.args.bytes.now (omega arith) in
    (ap (λ (id : List ℕ). ToObject (record { kind = c.args.kind; id = id })) whole, size)
