use Rattle.std.proofs.Common.{◌≡◌, ◌<◌, ◌+◌, ℕ, List, ◌∷◌, ◌++◌, [], length, take, string_bytes, sym, ap, ◌∙◌, subst, arith}
use Rattle.std.proofs.lemmas.List.{take_more}
use Rattle.swh_outside.specs.Folder.{IsFolderEntryName}
use Rattle.swh_folder_names.specs.Names.{names_of, AreKeys}
use Rattle.swh_folder_names.proofs.Known.{known-push, new_name, old_name, names-more, not_a_name, stands_twice, name-here, names-size}
use Rattle.swh_folder_names.proofs.names.are_names.Goals as goal

pub returns-then-not-is_name : goal.returns-then-not-is_name
returns-then-not-is_name c =
    let items = c.args.items.now in
    let item = c.item-item.result in
    let size = names-size items in
    let within : c.loop-item.item-index < length (names_of items) = omega (arith, size, c.loop-item-test.true) in
    let bad : IsFolderEntryName (string_bytes item.name) → ⊥ = λ h.
    let t = c.is_name.ensures.1 (subst IsFolderEntryName (sym c.as_bytes.ensures.value) h) in
    absurd (cc (t, c.if-not-is_name.true)) in
    (λ e. absurd cc, λ are. absurd (not_a_name (names_of items) c.loop-item.item-index (string_bytes item.name) within (name-here items c.loop-item.item-index item c.loop-item-test.true c.item-item.is) bad are))

pub returns-then-not-branch : goal.returns-then-not-branch
returns-then-not-branch c =
    let items = c.args.items.now in
    let item = c.item-item.result in
    let names = names_of items in
    let size = names-size items in
    let i = c.loop-item.item-index in
    let within : i < length names = omega (arith, size, c.loop-item-test.true) in
    let again = old_name c.loop-item.known.keys (take i names) c.as_bytes-in-loop-item.result (string_bytes item.name) c.in_ok-insert.field-0 c.loop-item.invariant.known c.as_bytes-in-loop-item.ensures.value c.in_ok-insert.ensures.added c.if-not-branch.true in
    (λ e. absurd cc, λ are. absurd (stands_twice names i (string_bytes item.name) within (name-here items i item c.loop-item-test.true c.item-item.is) again are))

pub loop-item-preserved : goal.loop-item-preserved
loop-item-preserved c =
    let items = c.args.items.now in
    let item = c.item-item.result in
    let name = string_bytes item.name in
    let names = names_of items in
    let size = names-size items in
    let i = c.loop-item.item-index in
    let within : i < length names = omega (arith, size, c.loop-item-test.true) in
    let here = name-here items i item c.loop-item-test.true c.item-item.is in
    let fresh = new_name c.loop-item.known.keys (take i names) c.as_bytes-in-loop-item.result name c.in_ok-insert.field-0 c.loop-item.invariant.known c.as_bytes-in-loop-item.ensures.value c.in_ok-insert.ensures.added c.if-not-branch.false in
    let is = subst IsFolderEntryName c.as_bytes.ensures.value (c.is_name.ensures.0 c.if-not-is_name.false) in
    let more = known-push c.loop-item.known.keys c.insert.new.self.keys (take i names) c.as_bytes-in-loop-item.result name c.loop-item.invariant.known c.as_bytes-in-loop-item.ensures.value c.in_ok-insert.ensures.updates.0 in
    let longer : take (i + 1) names ≡ take i names ++ name ∷ [] = take_more names i name within ∙ ap (λ (n : List ℕ). take i names ++ n ∷ []) here in
    record {
      good = names-more names i name within here c.loop-item.invariant.good is fresh;
      known = subst (AreKeys c.insert.new.self.keys) (sym longer) more;
    }
