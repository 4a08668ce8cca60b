use Rattle.std.proofs.Common.{◌≡◌, ℕ, length, inl, refl, ap, ◌∙◌}
use Rattle.std.specs.List.{flat_map, list_any}
use Rattle.swh_fastwrite.specs.Quoted.{is_quoted_byte, quoted_byte}
use Rattle.swh_pathsums.specs.Tallies.{one_if}
use Rattle.swh_pathsums.proofs.RowSums.{tallies_one}
use Rattle.swh_pathsums.proofs.tally.of_row.Goals as goal

pub returns : goal.returns
returns c weigh row is spelling =
    tallies_one weigh row c.args.weight c.args.path _ is spelling (c.where_written.ensures 1 (inl refl))
    (c.where_written-2.ensures (one_if (list_any is_quoted_byte row.path)) (inl (c.one_if.ensures ∙ ap one_if spelling.is_quoted))) refl
    (c.where_written-3.ensures (length (flat_map quoted_byte row.path)) spelling.byte_count)
