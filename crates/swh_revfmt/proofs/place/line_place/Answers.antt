use Rattle.std.proofs.Common.{◌≡◌, ◌+◌, ◌++◌, List, ℕ, length, drop, sym, subst, arith}
use Rattle.std.proofs.lemmas.List.{take_rest}
use Rattle.swh_revfmt.specs.Reading.{NotLine, IsLinePlace, IsIdDigitsFront}
use Rattle.swh_revfmt.proofs.LinePlaces.{place_in_word, place_in_digits, behind_word}
use Rattle.swh_revfmt.proofs.place.line_place.Goals as goal

pub returns-then-common-word : goal.returns-then-common-word
returns-then-common-word c = place_in_word c.args.word.now c.args.bytes.now c.common_front-common.result c.common_front-common.ensures c.if-common-word.true

pub returns : goal.returns
returns c =
    let common = c.common_front-common.result in
    let word = c.args.word.now in
    let whole = behind_word word c.args.bytes.now common c.common_front-common.ensures c.if-common-word.false in
    let size : length word ≡ common = let most = c.common_front-common.ensures.in_line in omega arith in
    let digits : IsIdDigitsFront (drop common c.args.bytes.now) c.digits_front.result = subst (λ (t : List ℕ). IsIdDigitsFront t c.digits_front.result) (take_rest c.args.bytes.now common) c.digits_front.ensures in
    let place = place_in_digits word (drop common c.args.bytes.now) c.digits_front.result digits (subst (NotLine word) whole c.requires) in
    subst (λ (bytes : List ℕ). IsLinePlace word bytes (common + c.digits_front.result)) (sym whole)
    (subst (λ (n : ℕ). IsLinePlace word (word ++ drop common c.args.bytes.now) (n + c.digits_front.result)) size place)
