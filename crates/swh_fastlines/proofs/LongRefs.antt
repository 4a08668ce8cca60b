-- A ref that is too long names no commit.
use Rattle.std.proofs.Common.{◌≡◌, ℕ, inl, inr, false, List, [], refl, sym, ◌∙◌, subst, arith, codes}
use Rattle.swh_base.specs.Limits.{ref_limit}
use Rattle.swh_base.specs.Text.{is_ref_byte}
use Rattle.swh_fastgrammar.specs.declared.command.Commitish.{Commitish}
use Rattle.swh_fastgrammar.specs.declared.command.Commitish.TheVariants.{Mark, Branch}
use Rattle.swh_fastlines.specs.Limit.{PassesRef}
use Rattle.swh_fastgrammar.specs.Word.{NamesCommit}
use Rattle.swh_fastgrammar.proofs.Faults.{append_nil}
use Rattle.swh_fastlines.proofs.RefRuns.{Stops, one_run, colon_passes_not}

nothing_stops : Stops []
nothing_stops c more e = absurd cc

caret_stops : Stops (codes "^0")
caret_stops c more e =
    let first : 94 ≡ c = cc in
    subst (λ (d : ℕ). is_ref_byte d ≡ false) first refl

pub long_names_none : (text : List ℕ) (number : ℕ) (c : Commitish) → PassesRef ref_limit text number → NamesCommit text c → ⊥
long_names_none text number (Mark m) p h = colon_passes_not text h.0 ref_limit h.1 number p
long_names_none text number (Branch ref) p (r, inl e) =
    let long = one_run p.run ref p.rest [] p.bytes r.bytes p.ends nothing_stops (sym p.cut ∙ e ∙ sym (append_nil ref)) in
    let size = long.0 in let count = p.count in let above = p.above in let short = r.short in
    absurd (omega (arith, size, count, above, short))
long_names_none text number (Branch ref) p (r, inr e) =
    let long = one_run p.run ref p.rest (codes "^0") p.bytes r.bytes p.ends caret_stops (sym p.cut ∙ e) in
    let size = long.0 in let count = p.count in let above = p.above in let short = r.short in
    absurd (omega (arith, size, count, above, short))
