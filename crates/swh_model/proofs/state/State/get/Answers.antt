use Rattle.std.proofs.Common.{◌≡◌, Some, None, List, subst}
use Rattle.std.specs.Prelude.{Contains, IfSome, IfNone}
use Rattle.std.specs.FinMap.{empty}
use Rattle.swh_base.specs.declared.entry.Entry.{Entry}
use Rattle.swh_model.specs.Archive.{Archive, body_of}
use Rattle.swh_model.specs.Step.{added}
use Rattle.swh_model.specs.Walk.{IsEntryOf}
use Rattle.swh_model.proofs.PlainLists.{found, missing}
use Rattle.swh_model.proofs.state.State.get.Goals as goal

pub returns-clause-some : goal.returns-clause-some
returns-clause-some c =
    let es = c.self.inside.entries.items in
    subst (λ (a : Archive). IfSome c.newest.result (λ entry. IsEntryOf a.bodies c.args.name.now entry.now)) c.self.view_is
    (found c.newest.result es c.args.name.now c.self.invariant
    (subst (λ (fs : List Entry). IfSome c.newest.result (λ entry. Contains fs entry.now)) c.as_slice.ensures.value c.newest.ensures.among)
    c.newest.ensures.named
    (subst (λ (fs : List Entry). IfSome c.newest.result (λ entry. body_of (added empty fs) c.args.name.now ≡ Some entry.now.body)) c.as_slice.ensures.value (c.newest.ensures.some empty)))

pub returns-clause-none : goal.returns-clause-none
returns-clause-none c =
    subst (λ (a : Archive). IfNone c.newest.result (body_of a.bodies c.args.name.now ≡ None)) c.self.view_is
    (missing c.newest.result c.self.inside.entries.items c.args.name.now
    (subst (λ (fs : List Entry). IfNone c.newest.result (body_of (added empty fs) c.args.name.now ≡ body_of empty c.args.name.now)) c.as_slice.ensures.value (c.newest.ensures.none empty)))
