use Rattle.std.proofs.Common.{◌≡◌, ◌++◌, ◌∷◌, [], ℕ, ◌+◌, ◌-◌, ◌<◌, ◌≤◌, List, length, take, drop, get_or, sym, ap, ◌∙◌, arith}
use Rattle.std.proofs.lemmas.List.{get_or_default, length-drop, take_all}
use Rattle.swh_fastlex.specs.Path.{components}
use Rattle.swh_fastlex.proofs.Components.{components_none}
use Rattle.swh_folders.proofs.Splittings.{cut-last}
use Rattle.swh_folders.proofs.splitting.split_path.Goals as goal

pub returns-then-path-end-eq47 : goal.returns-then-path-end-eq47
returns-then-path-end-eq47 c =
    let path = c.args.path.now in
    let end = c.back.end in
    let k = end - 1 in
    let within = c.back.invariant.within in
    let test = c.back-test.true in
    let next : k + 1 ≡ end = omega arith in
    let lt : k < length path = omega arith in
    let is : get_or path k 47 ≡ 47 = get_or_default path k 47 0 lt ∙ c.if-path-end-eq47.true in
    let none : (i : ℕ) → k + 1 ≤ i → i < length path → get_or path i 47 ≡ 47 → ⊥ = λ i le low e. c.back.invariant.none i (omega arith) low e in
    let long : length (drop end path) ≤ length path - end = simp length-drop (omega arith) in
    cut-last path k lt is none
    ∙ ap (λ (n : ℕ). components (take k path) ++ drop n path ∷ []) next
    ∙ ap (λ (r : List ℕ). components (take k path) ++ r ∷ []) (sym (take_all (length path - end) (drop end path) long))

pub returns : goal.returns
returns c = components_none c.args.path.now (λ h. let low = c.back-test.false in c.back.invariant.none h.0 (omega arith) h.1 h.2)
