use Rattle.std.proofs.Common.{rules, ◌≡◌, ◌∷◌, ◌++◌, length}
use Rattle.swh_format.specs.declared.kinds.Choice.TheVariants as choice
use Rattle.swh_format.specs.Fields.{IsAmong}
use Rattle.swh_format.specs.Kinds.{choices}
use Rattle.swh_recovery.proofs.FieldLemmas.{no_snapshot, a_snapshot}
use Rattle.swh_recovery.proofs.field.behind_snapshot.Goals as goal

pub returns-then-byte-eq0-clause-ok : goal.returns-then-byte-eq0-clause-ok
returns-then-byte-eq0-clause-ok c =
    let at : c.args.bytes.now ≡ c.in_ok-byte.byte ∷ c.in_ok-byte.rest.now = search rules in
    no_snapshot _ _ c.in_ok-byte.byte at c.if-byte-eq0.true

pub returns-clause-ok : goal.returns-clause-ok
returns-clause-ok c =
    let at : c.args.bytes.now ≡ c.in_ok-byte.byte ∷ c.in_ok-byte.rest.now = search rules in
    let among : IsAmong c.in_ok-byte.byte (choices choice.Snapshot) = search rules in
    let front : c.in_ok-byte.rest.now ≡ c.in_ok-_id._id.now ++ c.in_ok-_id.rest.now = search rules in
    let twenty : length c.in_ok-_id._id.now ≡ 20 = search rules in
    a_snapshot _ _ c.in_ok-_id._id.now _ c.in_ok-byte.byte at among c.if-byte-eq0.false front twenty
