use Rattle.std.proofs.Common.{◌≡◌, false, true, ℕ, List, length, inl, refl, sym, ap, ◌∙◌, subst}
use Rattle.std.specs.List.{list_any}
use Rattle.swh_fastwrite.specs.Quoted.{is_quoted_byte}
use Rattle.swh_pathsums.proofs.RowSums.{plain_bytes}
use Rattle.swh_pathsums.proofs.tally.spell.Goals as goal

pub returns-then-not-has_quoted_byte : goal.returns-then-not-has_quoted_byte
returns-then-not-has_quoted_byte c =
    let none : list_any is_quoted_byte c.args.name.now ≡ false = sym c.has_quoted_byte.ensures ∙ c.if-not-has_quoted_byte.true in
    record { is_quoted = sym none; byte_count = inl (sym (ap (λ (l : List ℕ). length l) (plain_bytes c.args.name.now none))) }

pub returns : goal.returns
returns c = record { is_quoted = sym c.if-not-has_quoted_byte.false ∙ c.has_quoted_byte.ensures; byte_count = c.quoted_length.ensures }
