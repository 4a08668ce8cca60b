use Rattle.std.proofs.Common.{◌+◌, List, refl, sym, ap, ◌∙◌, subst}
use Rattle.std.specs.Prelude.{reverse, length}
use Rattle.swh_pathwalk.specs.declared.walk.Level.{Level}
use Rattle.swh_pathwalk.specs.Walk.{Standing, standing, with_entries, AreNested, ComesNext}
use Rattle.swh_dirfmt.specs.Entries.{entry_of}
use Rattle.swh_pathwalk.proofs.Levels.{reverse_push, all_ended, nested_at, nested_below, nested_next, taken}
use Rattle.swh_pathwalk.proofs.walk.PathWalk.take_next.Goals as goal

pub returns-in_default : goal.returns-in_default
returns-in_default c =
    let popped = rw c.in_default.is at c.pop_with_entries.ensures in
    ap (λ (s : Standing). with_entries s.levels) (sym c.self.view_is) ∙ all_ended c.self.inside.path.items (reverse c.self.inside.levels.items) popped.0

pub invariant_of-self-in_err-go_to : goal.invariant_of-self-in_err-go_to
invariant_of-self-in_err-go_to c =
    let level = c.in-Some.level in
    let popped = rw c.in-Some.is at c.pop_with_entries.ensures in
    let at = nested_at (length c.self.inside.path.items) popped.ended level (reverse c.pop_with_entries.new.levels.items) (subst (AreNested (length c.self.inside.path.items)) popped.cut c.self.invariant) in
    nested_below level.front c.self.inside.path.items c.go_to.new.path.items c.go_to.ensures.front at.0 (reverse c.pop_with_entries.new.levels.items) at.1

pub invariant_of-self-in_err-push : goal.invariant_of-self-in_err-push
invariant_of-self-in_err-push c =
    let level = c.in-Some.level in
    let popped = rw c.in-Some.is at c.pop_with_entries.ensures in
    let at = nested_at (length c.self.inside.path.items) popped.ended level (reverse c.pop_with_entries.new.levels.items) (subst (AreNested (length c.self.inside.path.items)) popped.cut c.self.invariant) in
    subst (λ (ls : List Level). AreNested (length c.go_to.new.path.items) (reverse ls)) (sym c.in_err-push.ensures.items)
    (nested_below level.front c.self.inside.path.items c.go_to.new.path.items c.go_to.ensures.front at.0 (reverse c.pop_with_entries.new.levels.items) at.1)

pub invariant_of-self-2 : goal.invariant_of-self-2
invariant_of-self-2 c =
    let level = c.in-Some.level in
    let next : Level = record { front = level.front; entries = level.entries; next = level.next + 1; nested = level.nested } in
    let below = reverse c.pop_with_entries.new.levels.items in
    let popped = rw c.in-Some.is at c.pop_with_entries.ensures in
    let at = nested_at (length c.self.inside.path.items) popped.ended level below (subst (AreNested (length c.self.inside.path.items)) popped.cut c.self.invariant) in
    subst (AreNested (length c.go_to.new.path.items)) (sym (ap (λ (ls : List Level). reverse ls) c.in_ok-push.ensures.items ∙ reverse_push c.pop_with_entries.new.levels.items next))
    (nested_next level.front c.self.inside.path.items c.go_to.new.path.items c.go_to.ensures.front at.0 level next c.index-entry.result.now popped.ended below refl refl refl refl refl popped.some c.index-entry.ensures popped.each at.1)

pub returns : goal.returns
returns c =
    let level = c.in-Some.level in
    let next : Level = record { front = level.front; entries = level.entries; next = level.next + 1; nested = level.nested } in
    let below = reverse c.pop_with_entries.new.levels.items in
    let popped = rw c.in-Some.is at c.pop_with_entries.ensures in
    let at = nested_at (length c.self.inside.path.items) popped.ended level below (subst (AreNested (length c.self.inside.path.items)) popped.cut c.self.invariant) in
    subst (λ (s : Standing). ComesNext s (entry_of c.index-entry.result.now) (standing c.go_to.new.path.items c.push.new.self.items)) c.self.view_is
    (taken level.front c.self.inside.path.items c.go_to.new.path.items c.go_to.ensures.front at.0 level next c.index-entry.result.now popped.ended below refl refl refl refl refl popped.some c.index-entry.ensures popped.each at.1
    c.self.inside.levels.items c.push.new.self.items popped.cut (ap (λ (ls : List Level). reverse ls) c.in_ok-push.ensures.items ∙ reverse_push c.pop_with_entries.new.levels.items next) c.in_ok-go_to.ensures.ok)
