use Rattle.std.proofs.Common.{rules, ◌≡◌, ◌<◌, ◌∙◌, ℕ, false, true, cond, length, sym, ap, subst, Some, None}
use Rattle.std.specs.Ordering.{nat_cmp, is_eq}
use Rattle.std.specs.Cmp.Lexicographic.{slice_cmp}
use Rattle.swh_entries.specs.Keys.{name_at, texts}
use Rattle.swh_entries.specs.Named.{Named, digest_of, first_of, number_of}
use Rattle.swh_entries.proofs.Indexes.{index-first, index-other, not-known, same_bytes}
use Rattle.swh_entries.proofs.names.Names.number.Goals as goal

pub invariant_of-self-in_default : goal.invariant_of-self-in_default
invariant_of-self-in_default c =
    let inside = c.self.inside in
    let name = c.args.name.now in
    let n : c.len-number.result ≡ length inside.texts.items = search rules in
    let digest : c.digest_of-digest.result ≡ digest_of name = c.digest_of-digest.ensures in
    let none : first_of inside.firsts.entries (digest_of name) ≡ None = ap (first_of inside.firsts.entries) (sym digest) ∙ sym c.first_in.ensures ∙ not-known c.first_in.result c.in_default.not-Some in
    let looked : (d : ℕ) → first_of c.insert.new.self.entries d ≡ cond (is_eq (nat_cmp (digest_of name) d)) (Some c.len-number.result) (first_of inside.firsts.entries d) =
    subst (λ (x : ℕ). (d : ℕ) → first_of c.insert.new.self.entries d ≡ cond (is_eq (nat_cmp x d)) (Some c.len-number.result) (first_of inside.firsts.entries d)) digest c.in_ok-insert.ensures.updates.0 in
    rw (c.push_reserved.ensures.items, c.in_ok-reserve.ensures.items)
    (index-first inside.texts.items inside.firsts.entries c.insert.new.self.entries inside.others.entries name c.in_ok-text.text c.len-number.result c.self.invariant c.in_ok-text.ensures.items n none looked)

pub invariant_of-self-2 : goal.invariant_of-self-2
invariant_of-self-2 c =
    let inside = c.self.inside in
    let name = c.args.name.now in
    let n : c.len-number-2.result ≡ length inside.texts.items = search rules in
    let at : first_of inside.firsts.entries (digest_of name) ≡ Some c.in-Some.first = ap (first_of inside.firsts.entries) (sym c.digest_of-digest.ensures) ∙ sym c.first_in.ensures ∙ c.in-Some.is in
    let apart : is_eq (slice_cmp nat_cmp name (name_at (texts inside.texts.items) c.in-Some.first)) ≡ false = search rules in
    let none : number_of inside.others.entries name ≡ None = sym c.number_in.ensures ∙ not-known c.number_in.result c.in_default-number_in.not-Some in
    rw (c.push_reserved-2.ensures.items, c.in_ok-reserve-2.ensures.items)
    (index-other inside.texts.items inside.firsts.entries inside.others.entries c.insert-2.new.self.entries name c.in_ok-text-2.text c.in_ok-key.key c.in-Some.first c.len-number-2.result c.self.invariant c.in_ok-text-2.ensures.items c.in_ok-key.ensures.items n at apart none c.in_ok-insert-2.ensures.entries)

pub returns-then-same-clause-number : goal.returns-then-same-clause-number
returns-then-same-clause-number c =
    let inside = c.self.inside in
    let name = c.args.name.now in
    let at : first_of inside.firsts.entries (digest_of name) ≡ Some c.in-Some.first = ap (first_of inside.firsts.entries) (sym c.digest_of-digest.ensures) ∙ sym c.first_in.ensures ∙ c.in-Some.is in
    let same : is_eq (slice_cmp nat_cmp name (name_at (texts inside.texts.items) c.in-Some.first)) ≡ true = search rules in
    subst (λ (t : Named). (c.in-Some.first < length t.items) × (name_at (texts t.items) c.in-Some.first ≡ name)) c.self.view_is
    (c.self.invariant.first (digest_of name) c.in-Some.first at, sym (same_bytes name (name_at (texts inside.texts.items) c.in-Some.first) same))
