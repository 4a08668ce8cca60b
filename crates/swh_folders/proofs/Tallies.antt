-- What was counted of lists, as folders come and go.
use Rattle.std.proofs.Common.{◌≡◌, ℕ, ◌+◌, ◌≤◌, List, length, take, drop, sym, ap, ◌∙◌, arith}
use Rattle.std.proofs.lemmas.List.{take-take, take_all}
use Rattle.std.proofs.lemmas.List.Sums.{sum_by-take-drop}
use Rattle.swh_entries.specs.Listed.{Listed, cost_of}
use Rattle.swh_folders.specs.declared.folders.Folders.{Folders}
use Rattle.swh_folders.specs.Working.{count_of, cost_from, IsTallied}

pub cost-parts : (n : ℕ) (lists : List Listed) → cost_of (take n lists) + cost_of (drop n lists) ≡ cost_of lists
cost-parts n lists = sum_by-take-drop (λ l. l.cost) lists n

front-same : (n m : ℕ) (old new : List Listed) → n ≤ m → take m new ≡ old → take n new ≡ take n old
front-same n m old new le is = sym (take-take n m new le) ∙ ap (take n) is

-- where more folders came
pub tallied-on : (base : ℕ) (old new : Folders) → IsTallied base old → count_of old ≤ count_of new → take (count_of old) new.nodes.items ≡ old.nodes.items → new.counted ≡ old.counted → new.entries ≡ old.entries → IsTallied base new
tallied-on base old new t more same counted entries =
    let from = t.from in
    let up = t.up_to in
    let low = front-same base (count_of old) old.nodes.items new.nodes.items (omega arith) same in
    let high = front-same old.counted (count_of old) old.nodes.items new.nodes.items up same in
    let below = ap cost_of low in
    let above = ap (λ (k : ℕ). cost_of (take k new.nodes.items)) counted ∙ ap cost_of high in
    record {
      from = omega arith;
      up_to = omega arith;
      sum = ap (λ (k : ℕ). k + new.entries) below ∙ ap (λ (k : ℕ). cost_of (take base old.nodes.items) + k) entries ∙ t.sum ∙ sym above;
    }

pub tallied-same : (base : ℕ) (old new : Folders) → IsTallied base old → new.nodes.items ≡ old.nodes.items → new.counted ≡ old.counted → new.entries ≡ old.entries → IsTallied base new
tallied-same base old new t same counted entries =
    let long = ap length same in
    tallied-on base old new t (omega arith) (ap (take (count_of old)) same ∙ take_all (count_of old) old.nodes.items (omega arith)) counted entries

-- where all was counted
pub tallied-all : (base : ℕ) (old new : Folders) → IsTallied base old → new.nodes.items ≡ old.nodes.items → new.counted ≡ count_of old → new.entries ≡ old.entries + cost_from old.counted old → IsTallied base new
tallied-all base old new t same counted entries =
    let from = t.from in
    let up = t.up_to in
    let long = ap length same in
    let nodes = old.nodes.items in
    let low = ap (λ (k : List Listed). cost_of (take base k)) same in
    let all = ap (λ (k : ℕ). cost_of (take k new.nodes.items)) counted ∙ ap (λ (k : List Listed). cost_of (take (count_of old) k)) same ∙ ap cost_of (take_all (count_of old) nodes (omega arith)) in
    let parts = cost-parts old.counted nodes in
    let sum = t.sum in
    record {
      from = omega arith;
      up_to = omega arith;
      sum = omega (arith, low, all, parts, sum, entries);
    }

-- what the lists from the base on cost is what was counted
pub tallied-cost : (base : ℕ) (f : Folders) → IsTallied base f → f.counted ≡ count_of f → f.entries ≡ cost_from base f
tallied-cost base f t counted =
    let nodes = f.nodes.items in
    let all = ap (λ (k : ℕ). cost_of (take k nodes)) counted ∙ ap cost_of (take_all (count_of f) nodes (omega arith)) in
    let parts = cost-parts base nodes in
    let sum = t.sum in
    omega (arith, all, parts, sum)

-- what was counted, with what the lists that were not cost, is what all from the base on cost
pub tallied-rest : (base : ℕ) (f : Folders) → IsTallied base f → f.entries + cost_from f.counted f ≡ cost_from base f
tallied-rest base f t =
    let nodes = f.nodes.items in
    let here = cost-parts base nodes in
    let there = cost-parts f.counted nodes in
    let sum = t.sum in
    omega (arith, here, there, sum)
