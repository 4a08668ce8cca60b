use Rattle.std.proofs.Common.{◌≡◌, Bool, true, false, cond, [], ◌∷◌, ◌++◌, sym, ap, ◌∙◌}
use Rattle.std.proofs.lemmas.List.{append-nil}
use Rattle.swh_marks.specs.Marks.{is_written}
use Rattle.swh_marks.proofs.marks.add_written.Goals as goal

pub returns-then-not-is_written : goal.returns-then-not-is_written
returns-then-not-is_written c =
    let none : is_written c.args.name ≡ false = sym c.is_written.ensures ∙ c.if-not-is_written.true in
    sym (ap (λ (b : Bool). c.args.names.now.items ++ cond b (c.args.name ∷ []) []) none ∙ append-nil c.args.names.now.items)

pub returns : goal.returns
returns c =
    let one : is_written c.args.name ≡ true = sym c.is_written.ensures ∙ c.if-not-is_written.false in
    c.in_ok-push.ensures.items ∙ sym (ap (λ (b : Bool). c.args.names.now.items ++ cond b (c.args.name ∷ []) []) one)
