use Rattle.std.proofs.Common.{rules, ◌≡◌, ◌<◌, ◌++◌, ◌∷◌, [], List, length, refl, sym, ◌∙◌, ap, subst, string_bytes}
use Rattle.std.specs.List.{position_or_len}
use Rattle.swh_outside.specs.Counts.{is_of, count_in}
use Rattle.swh_outside.specs.declared.path_counts.PathCount.{PathCount}
use Rattle.swh_outside.proofs.CountLaws.{added-same, added-counted}
use Rattle.swh_outside.proofs.path_counts.add_count.Goals as goal

pub returns-clause-counted : goal.returns-clause-counted
returns-clause-counted c =
    let q : PathCount = record { path = c.in_ok-name.name; faults = c.args.others } in
    let pushed : c.push.new.self.items ≡ c.args.counts.now.items ++ q ∷ [] = search rules in
    let named : string_bytes c.in_ok-name.name ≡ c.args.path.now = search rules in
    subst (λ (l : List PathCount). position_or_len (is_of c.args.path.now) l < length l) (sym pushed) (added-counted c.args.counts.now.items q c.args.path.now c.requires named)

pub returns-clause-same : goal.returns-clause-same
returns-clause-same c p =
    let q : PathCount = record { path = c.in_ok-name.name; faults = c.args.others } in
    let pushed : c.push.new.self.items ≡ c.args.counts.now.items ++ q ∷ [] = search rules in
    ap (λ (l : List PathCount). count_in l c.args.others p) pushed ∙ added-same c.args.counts.now.items q c.args.others p refl
