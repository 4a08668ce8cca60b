use Rattle.std.proofs.Common.{List, [], ℕ, ◌++◌, take, sym, ap, ◌∙◌, append_assoc}
use Rattle.std.proofs.lemmas.List.{append-nil}
use Rattle.swh_pathwalk.specs.Walk.{slash}
use Rattle.swh_pathwalk.proofs.stepping.go_to.Goals as goal

pub returns-in_err-to_front-clause-front : goal.returns-in_err-to_front-clause-front
returns-in_err-to_front-clause-front c = record { tail = []; is = c.in_err-to_front.ensures.err ∙ sym (append-nil (take c.args.front c.args.path.now.items)) }

pub returns-in_err-extend_from_slice-clause-front : goal.returns-in_err-extend_from_slice-clause-front
returns-in_err-extend_from_slice-clause-front c = record { tail = slash c.args.nested; is = c.in_err-extend_from_slice.ensures.items ∙ c.in_ok-to_front.ensures.ok }

pub returns-clause-front : goal.returns-clause-front
returns-clause-front c = record {
  tail = slash c.args.nested ++ c.args.name.now;
  is =
      c.in_ok-extend_from_slice.ensures.items ∙ ap (λ (t : List ℕ). t ++ c.args.name.now) c.in_ok-to_front.ensures.ok
      ∙ append_assoc (take c.args.front c.args.path.now.items) (slash c.args.nested) c.args.name.now;
}
