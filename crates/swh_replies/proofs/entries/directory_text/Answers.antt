use Rattle.std.proofs.Common.{List, ◌∷◌, [], ◌++◌, ap, ◌∙◌}
use Rattle.std.proofs.lemmas.List.{take_all}
use Rattle.json.specs.Print.{print}
use Rattle.json.specs.Token.{Token, end_array}
use Rattle.swh_replies.proofs.Listed.{opened_tokens, printed}
use Rattle.swh_replies.proofs.entries.directory_text.Goals as goal

pub returns : goal.returns
returns c =
    let all = c.loop-entry.invariant.1 ∙ ap opened_tokens (take_all c.loop-entry.entry-index c.args.entries.now c.loop-entry-test.false) in
    let tokens = c.in_ok-end_array.ensures.ok ∙ ap (λ (ts : List Token). ts ++ end_array ∷ []) all in
    let before = c.in_ok-end_array.ensures.room.0 ∙ c.loop-entry.invariant.0 in
    c.into_inner.ensures.items ∙ ap (λ front. front ++ print c.end_array.new.self.tokens) before ∙ printed c.args.entries.now c.end_array.new.self.tokens tokens
