use Rattle.std.proofs.Common.{inr, Some, ◌∙◌}
use Rattle.swh_base.specs.Name.{name_key}
use Rattle.swh_rows.specs.Places.{other_at}
use Rattle.swh_rows.proofs.PlaceLemmas.{key-here, key-other}
use Rattle.swh_rows.proofs.places.Places.put.Goals as goal

pub returns-clause-ok : goal.returns-clause-ok
returns-clause-ok c =
    let n = c.args.name.now in
    let before = other_at c.args.self.now in
    record {
      marks = c.take_one.ensures.stay;
      leads = inr (c.take_one.ensures.full c.if-take_one.false, c.in_ok-insert.ensures.updates.0 (name_key n) ∙ key-here c.key_of.result n (Some c.args.place) (before n) c.key_of.ensures);
      others = λ m apart. c.in_ok-insert.ensures.updates.0 (name_key m) ∙ key-other c.key_of.result n m (Some c.args.place) (before m) c.key_of.ensures apart;
    }
