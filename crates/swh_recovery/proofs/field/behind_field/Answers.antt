use Rattle.std.proofs.Common.{rules, ◌≡◌, ◌∷◌}
use Rattle.swh_format.specs.Fields.{IsAmong}
use Rattle.swh_format.specs.Kinds.{choices}
use Rattle.swh_recovery.proofs.FieldLemmas.{a_byte}
use Rattle.swh_recovery.proofs.field.behind_field.Goals as goal

pub returns-in_ok-_byte-in-Byte-clause-ok : goal.returns-in_ok-_byte-in-Byte-clause-ok
returns-in_ok-_byte-in-Byte-clause-ok c =
    let x = c.in_ok-_byte-in-Byte in
    let at : c.args.bytes.now ≡ x._byte ∷ x.rest.now = search rules in
    let among : IsAmong x._byte (choices c.in-Byte.choice) = search rules in
    rw c.in-Byte.is (a_byte _ _ x._byte c.in-Byte.choice at among)
