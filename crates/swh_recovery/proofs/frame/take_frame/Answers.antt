use Rattle.std.proofs.Common.{rules, ◌≡◌, ◌+◌, ◌<◌, ◌^◌, ◌∷◌, ◌++◌, length, arith}
use Rattle.std.specs.Int.{w32, to_be_bytes}
use Rattle.swh_format.proofs.Fronts.{record_joined}
use Rattle.swh_format.specs.declared.kinds.Choice.TheVariants as choice
use Rattle.swh_format.specs.Fields.{IsAmong}
use Rattle.swh_format.specs.Kinds.{choices}
use Rattle.swh_recovery.specs.Fields.{IsCut}
use Rattle.swh_recovery.proofs.FrameLemmas.{exits, size_breaks, payload_breaks}
use Rattle.swh_recovery.proofs.frame.take_frame.Goals as goal

pub returns-in_err-size-clause-err : goal.returns-in_err-size-clause-err
returns-in_err-size-clause-err c =
    let kind = c.in_ok-kind in
    let at : c.args.bytes.now ≡ kind.kind ∷ kind.rest.now = search rules in
    let among : IsAmong kind.kind (choices choice.Record) = search rules in
    let cut : IsCut 4 kind.rest.now (c.args.at + 1) c.in_err-size.field-0.0 = search rules in
    exits _ _ c.in_err-size.field-0.0 c.from_residual-in_err-size.ensures.1 (size_breaks _ _ kind.kind _ _ at among cut)

pub returns-in_err-payload-clause-err : goal.returns-in_err-payload-clause-err
returns-in_err-payload-clause-err c =
    let kind = c.in_ok-kind in
    let size = c.in_ok-size in
    let at : c.args.bytes.now ≡ kind.kind ∷ kind.rest.now = search rules in
    let among : IsAmong kind.kind (choices choice.Record) = search rules in
    let behind : kind.rest.now ≡ to_be_bytes w32 size.size ++ size.rest.now = search rules in
    let fits : size.size < 2 ^ 32 = search rules in
    let cut : IsCut size.size size.rest.now (c.args.at + 5) c.in_err-payload.field-0.0 = search rules in
    exits _ _ c.in_err-payload.field-0.0 c.from_residual-in_err-payload.ensures.1 (payload_breaks _ _ kind.kind _ _ at among size.size size.rest.now behind fits cut)

pub returns-clause-ok : goal.returns-clause-ok
returns-clause-ok c =
    let kind = c.in_ok-kind in
    let size = c.in_ok-size in
    let last = c.in_ok-payload in
    let at : c.args.bytes.now ≡ kind.kind ∷ kind.rest.now = search rules in
    let among : IsAmong kind.kind (choices choice.Record) = search rules in
    let behind : kind.rest.now ≡ to_be_bytes w32 size.size ++ size.rest.now = search rules in
    let fits : size.size < 2 ^ 32 = search rules in
    let cut : size.rest.now ≡ last.payload.now ++ last.rest.now = search rules in
    let sized : length last.payload.now ≡ size.size = search rules in
    record {
      front = record {
        spelled = record_joined _ kind.rest.now size.rest.now last.payload.now last.rest.now kind.kind size.size at behind cut sized;
        short = omega (arith, fits, sized);
      };
      is_kind = among;
    }
