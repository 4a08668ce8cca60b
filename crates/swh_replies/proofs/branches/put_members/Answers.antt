use Rattle.std.proofs.Common.{rules, ◌≡◌, List, [], ◌∷◌, ◌++◌, sym, ap, ◌∙◌, subst, append_assoc, append-nil, string_bytes, refl}
use Rattle.std.specs.List.{flat_map}
use Rattle.json.specs.Token.{Token}
use Rattle.json.specs.Tree.{members_tokens}
use Rattle.serde_json.specs.Written.{members_outline}
use Rattle.swh_replies.specs.Writes.{Adds, targets_data}
use Rattle.swh_snpfmt.specs.Branches.{target_spelled}
use Rattle.swh_replies.specs.Json.{target_data}
use Rattle.swh_replies.proofs.Listed.{where_ok, one, then}
use Rattle.swh_replies.proofs.Shown.{Entry, target_tokens, one_more_target, closed_targets}
use Rattle.swh_replies.proofs.branches.put_members.Goals as goal

pub loop-name-init : goal.loop-name-init
loop-name-init c = ([], search rules, record { before = refl; tokens = sym (append-nil c.args.writer.now.tokens) })

pub loop-name-preserved : goal.loop-name-preserved
loop-name-preserved c =
    let l = c.loop-name in
    let done = l.invariant.0 in
    let e : Entry = (c.in-Some.name.now, c.in-Some.target.now) in
    let left = c.next.new.self in
    let step : l.name-iterator ≡ e ∷ left = c.in-Some.ensures.steps in
    let all : c.args.targets.now.entries ≡ done ++ e ∷ left = l.invariant.1 ∙ ap (λ (es : List Entry). done ++ es) step in
    let added = rw c.as_str.ensures.value at c.in_ok-put_branch.ensures in (
      done ++ e ∷ [],
      all ∙ sym (append_assoc done (e ∷ []) left),
      subst (λ (ts : List Token). Adds c.args.writer.now ts c.put_branch.new.writer) (sym (one_more_target done e)) (then l.invariant.2 added),
    )

pub returns : goal.returns
returns c =
    let l = c.loop-name in
    let done = l.invariant.0 in
    let all : c.args.targets.now.entries ≡ done = l.invariant.1 ∙ ap (λ (es : List Entry). done ++ es) c.in-None.ensures.steps.0 ∙ append-nil done in
    where_ok c.end_object.result
    (λ closed. subst (λ (ts : List Token). Adds c.args.writer.now ts c.end_object.new.self) (closed_targets done ∙ ap (λ (es : List Entry). members_tokens (members_outline (targets_data es))) (sym all))
    (then l.invariant.2 (one {new = c.end_object.new.self} closed c.end_object.ensures.room.0))) c.end_object.ensures.ok
