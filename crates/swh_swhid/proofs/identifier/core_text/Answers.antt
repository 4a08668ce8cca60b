use Rattle.std.proofs.Common.{◌≡◌, refl, ◌∙◌, arith, drop, length, length-drop}
use Rattle.hex.specs.Hex.{encode_lower}
use Rattle.swh_swhid.specs.Core.{lead, kind_word}
use Rattle.swh_swhid.proofs.KindWords.{length-kind_word}
use Rattle.swh_swhid.proofs.Parts.{three_parts}
use Rattle.swh_swhid.proofs.identifier.core_text.Goals as goal

pub returns : goal.returns
returns c =
    let first = c.copy_from_slice.ensures.after in
    let second = c.copy_from_slice-2.ensures.after ∙ c.kind_word.ensures in
    let third = c.copy_from_slice-3.ensures.after ∙ c.hex.ensures in
    let behind : length (drop 6 (drop 0 c.args.out.now)) ≡ 44 = length-drop 6 (drop 0 c.args.out.now) ∙ omega (arith, length-drop 0 c.args.out.now, c.fits-out) in
    rw (first, second, third) (three_parts lead (drop 6 (drop 0 c.args.out.now)) (kind_word c.args.name.now.kind) (encode_lower c.args.name.now.id) refl (length-kind_word c.args.name.now.kind) behind)
