use Rattle.std.proofs.Common.{rules, ◌≡◌, ◌+◌, ◌<◌, ◌^◌, ◌∷◌, ◌++◌, length, refl}
use Rattle.std.specs.Int.{w64, to_be_bytes}
use Rattle.swh_format.specs.declared.kinds.Choice.TheVariants as choice
use Rattle.swh_format.specs.Fields.{IsAmong}
use Rattle.swh_format.specs.Kinds.{choices}
use Rattle.swh_recovery.specs.Fields.{IsCut}
use Rattle.swh_format.proofs.Fronts.{front_and_back}
use Rattle.swh_recovery.proofs.FrameLemmas.{exits}
use Rattle.swh_recovery.proofs.ObjectLemmas.{length_breaks, id_breaks, head_of}
use Rattle.swh_recovery.proofs.object.take_head.Goals as goal

pub returns-in_err-size-clause-err : goal.returns-in_err-size-clause-err
returns-in_err-size-clause-err c =
    let n = c.in_ok-number in
    let at : c.args.bytes.now ≡ n.number ∷ n.rest.now = search rules in
    let among : IsAmong n.number (choices choice.Object) = search rules in
    let short : IsCut 8 n.rest.now (c.args.at + 1) c.in_err-size.field-0.0 = search rules in
    exits _ _ c.in_err-size.field-0.0 c.from_residual-in_err-size.ensures.1 (length_breaks _ _ n.number _ _ at among short)

pub returns-in_default-clause-err : goal.returns-in_default-clause-err
returns-in_default-clause-err c =
    let n = c.in_ok-number in
    let s = c.in_ok-size in
    let at : c.args.bytes.now ≡ n.number ∷ n.rest.now = search rules in
    let among : IsAmong n.number (choices choice.Object) = search rules in
    let behind : n.rest.now ≡ to_be_bytes w64 s.size ++ s.rest.now = search rules in
    let less : length s.rest.now < 20 = search rules in
    let short : IsCut 20 s.rest.now (c.args.at + 9) c.cut.result = record { short = less; found_is = c.cut.ensures } in
    id_breaks _ _ n.number _ _ at among s.size s.rest.now behind short

pub returns-clause-ok : goal.returns-clause-ok
returns-clause-ok c =
    let n = c.in_ok-number in
    let s = c.in_ok-size in
    let at : c.args.bytes.now ≡ n.number ∷ n.rest.now = search rules in
    let behind : n.rest.now ≡ to_be_bytes w64 s.size ++ s.rest.now = search rules in
    let fits : s.size < 2 ^ 64 = search rules in
    let x = c.in-Some.ensures.cases in
    let both = front_and_back 20 s.rest.now c.in-Some.id.now c.in-Some.behind.now x.0 x.1 x.2 in
    head_of _ _ _ _ _ n.number s.size _ at c.kind_of-kind.ensures behind refl both.0 refl both.1 fits
