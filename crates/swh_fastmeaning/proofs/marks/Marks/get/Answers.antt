use Rattle.std.proofs.Common.{◌≡◌, ◌-◌, ℕ, List, Some, None, slice_get, sym, ap, ◌∙◌, arith}
use Rattle.std.proofs.lemmas.Option.{slice_get_within, get_or_from_slice_get}
use Rattle.std.specs.Map.{lookup}
use Rattle.std.specs.BTreeMap.{is_at}
use Rattle.std.specs.Ordering.{nat_cmp}
use Rattle.swh_fastmeaning.specs.declared.aims.Target.{Target}
use Rattle.swh_fastmeaning.proofs.MarkLists.{found-first, found-in, found-behind, past_none}
use Rattle.swh_fastmeaning.proofs.marks.Marks.get.Goals as goal

pub returns-then-mark-eq0 : goal.returns-then-mark-eq0
returns-then-mark-eq0 c =
    let inside = c.self.inside in
    found-first inside.first inside.row.items inside.others.entries c.args.mark c.if-mark-eq0.true c.self.invariant
    ∙ ap (λ (es : List (ℕ × Target)). lookup (is_at (nat_cmp c.args.mark)) es) c.self.view_is

pub returns-in-Some : goal.returns-in-Some
returns-in-Some c =
    let inside = c.self.inside in
    let mark = c.args.mark in
    let t = c.in-Some.target in
    let above = c.if-mark-eq0.false in
    let e : slice_get inside.row.items (mark - 1) ≡ Some t =
    ap (λ (row : List Target). slice_get row (mark - 1)) (sym c.as_slice.ensures.value) ∙ sym c.stands_at.ensures ∙ c.in-Some.is in
    ap Some (sym (get_or_from_slice_get inside.row.items (mark - 1) t t e))
    ∙ found-in inside.first inside.row.items inside.others.entries mark (mark - 1) t (omega (arith, above)) (slice_get_within inside.row.items (mark - 1) t e)
    ∙ ap (λ (es : List (ℕ × Target)). lookup (is_at (nat_cmp mark)) es) c.self.view_is

pub returns-in-None : goal.returns-in-None
returns-in-None c =
    let inside = c.self.inside in
    let mark = c.args.mark in
    let above = c.if-mark-eq0.false in
    let e : slice_get inside.row.items (mark - 1) ≡ None =
    ap (λ (row : List Target). slice_get row (mark - 1)) (sym c.as_slice.ensures.value) ∙ sym c.stands_at.ensures ∙ c.in-None.is in
    let past = past_none inside.row.items (mark - 1) e in
    c.copied.ensures ∙ c.get.ensures.value
    ∙ found-behind inside.first inside.row.items inside.others.entries mark (omega (arith, past, above))
    ∙ ap (λ (es : List (ℕ × Target)). lookup (is_at (nat_cmp mark)) es) c.self.view_is
