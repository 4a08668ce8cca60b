use Rattle.std.proofs.Common.{◌≡◌, ◌-◌, ℕ, List, [], subst, sym, ap, ◌∙◌, arith}
use Rattle.std.proofs.lemmas.List.{nil_from_length}
use Rattle.std.specs.BTreeMap.{insert_entry}
use Rattle.std.specs.Ordering.{nat_cmp}
use Rattle.swh_fastmeaning.specs.declared.aims.Target.{Target}
use Rattle.swh_fastmeaning.specs.Marks.{marks_in, AreAboveZero}
use Rattle.swh_fastmeaning.proofs.MarkLists.{set-first, set-in, set-next, set-behind, above-put}
use Rattle.swh_fastmeaning.proofs.marks.Marks.set.Goals as goal

pub returns-then-mark-eq0 : goal.returns-then-mark-eq0
returns-then-mark-eq0 c =
    let inside = c.self.inside in
    set-first inside.first inside.row.items inside.others.entries c.args.mark c.args.target c.if-mark-eq0.true c.self.invariant
    ∙ ap (λ (es : List (ℕ × Target)). insert_entry nat_cmp es c.args.mark c.args.target) c.self.view_is

pub returns-then-place-len : goal.returns-then-place-len
returns-then-place-len c =
    let inside = c.self.inside in
    let mark = c.args.mark in
    let within = c.if-place-len.true in
    let above = c.if-mark-eq0.false in
    let len = c.len.ensures in
    let ok = inside.row.ok.0 in
    set-in inside.first inside.row.items inside.others.entries mark (mark - 1) c.args.target (omega (arith, above)) (omega (arith, within, len, ok))
    ∙ ap (λ (es : List (ℕ × Target)). insert_entry nat_cmp es mark c.args.target) c.self.view_is

pub returns-then-is_empty : goal.returns-then-is_empty
returns-then-is_empty c =
    let inside = c.self.inside in
    let mark = c.args.mark in
    let here = c.if-place-len-2.true in
    let above = c.if-mark-eq0.false in
    let len = c.len-2.ensures in
    let ok = inside.row.ok.0 in
    let none : inside.others.entries ≡ [] = nil_from_length inside.others.entries (c.is_empty.ensures.0 c.if-is_empty.true) in
    ap (λ (row : List Target). marks_in inside.first row inside.others.entries) c.in_ok-push.ensures.items
    ∙ set-next inside.first inside.row.items inside.others.entries mark c.args.target none (omega (arith, here, len, ok, above))
    ∙ ap (λ (es : List (ℕ × Target)). insert_entry nat_cmp es mark c.args.target) c.self.view_is

pub invariant_of-self-2 : goal.invariant_of-self-2
invariant_of-self-2 c =
    let above = c.if-mark-eq0.false in
    subst AreAboveZero (sym c.in_ok-insert.ensures.entries)
    (above-put c.self.inside.others.entries c.args.mark c.args.target (omega (arith, above)) c.self.invariant)

pub returns : goal.returns
returns c =
    let inside = c.self.inside in
    let mark = c.args.mark in
    let behind = c.if-place-len.false in
    let above = c.if-mark-eq0.false in
    let len = c.len.ensures in
    let ok = inside.row.ok.0 in
    ap (λ (es : List (ℕ × Target)). marks_in inside.first inside.row.items es) c.in_ok-insert.ensures.entries
    ∙ set-behind inside.first inside.row.items inside.others.entries mark c.args.target (omega (arith, behind, len, ok, above))
    ∙ ap (λ (es : List (ℕ × Target)). insert_entry nat_cmp es mark c.args.target) c.self.view_is
