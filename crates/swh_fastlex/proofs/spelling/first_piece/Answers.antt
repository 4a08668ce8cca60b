use Rattle.std.proofs.Common.{rules, ◌≡◌, ◌∷◌, Some, refl}
use Rattle.swh_fastlex.specs.Path.{IsPiece, Itself, Letter, letter_byte}
use Rattle.swh_fastlex.proofs.Pieces.{piece_front, octal_piece}
use Rattle.swh_fastlex.proofs.spelling.first_piece.Goals as goal

pub returns-then-first-ne92-clause-some : goal.returns-then-first-ne92-clause-some
returns-then-first-ne92-clause-some c =
    let is : IsPiece (Itself c.in-Some.first.now) = search rules in
    let cut : c.args.text.now ≡ c.in-Some.first.now ∷ c.in-Some.after.now = search rules in
    piece_front (Itself c.in-Some.first.now) c.args.text.now c.in-Some.after.now _ 1 is cut refl refl

pub returns-in-Some-letter_byte-clause-some : goal.returns-in-Some-letter_byte-clause-some
returns-in-Some-letter_byte-clause-some c =
    let is : letter_byte c.in-Some-split_first.letter.now ≡ Some c.in-Some-letter_byte.byte = search rules in
    let front : c.args.text.now ≡ c.in-Some.first.now ∷ c.in-Some.after.now = search rules in
    let behind : c.in-Some.after.now ≡ c.in-Some-split_first.letter.now ∷ c.in-Some-split_first.field-0-1.now = search rules in
    let slash : c.in-Some.first.now ≡ 92 = search rules in
    let cut : c.args.text.now ≡ 92 ∷ c.in-Some-split_first.letter.now ∷ c.in-Some-split_first.field-0-1.now = cc in
    piece_front (Letter c.in-Some-split_first.letter.now c.in-Some-letter_byte.byte) c.args.text.now c.in-Some-split_first.field-0-1.now _ 2 is cut refl refl

pub returns-in-Some-octal_byte-clause-some : goal.returns-in-Some-octal_byte-clause-some
returns-in-Some-octal_byte-clause-some c =
    let front : c.args.text.now ≡ c.in-Some.first.now ∷ c.in-Some.after.now = search rules in
    let slash : c.in-Some.first.now ≡ 92 = search rules in
    octal_piece c.args.text.now c.in-Some.after.now c.in-Some.first.now _ front slash c.in-Some-octal_byte.ensures.some
