use Rattle.std.proofs.Common.{rules, ◌≡◌, ◌∙◌, ap, map, Some}
use Rattle.std.specs.Borrow.{Bor}
use Rattle.std.specs.Prelude.{List, ℕ}
use Rattle.clap.specs.Words.{found_of}
use Rattle.clap.proofs.WalkLemmas.{raw_values-rows}
use Rattle.swh_words.proofs.reading.values_of.Goals as goal

pub returns-in_ok-to_vec-in-Some : goal.returns-in_ok-to_vec-in-Some
returns-in_ok-to_vec-in-Some c =
    let copied : c.in_ok-to_vec-in-Some.field-0.items ≡ c.in-Some.texts.now = search rules in
    ap (λ (l : List (Bor (List ℕ))). Some (map (λ v. v.now) l)) copied ∙ c.in-Some.ensures ∙ raw_values-rows (found_of c.args.values.now) c.args.name.now

pub returns-in-None : goal.returns-in-None
returns-in-None c = c.in-None.ensures ∙ raw_values-rows (found_of c.args.values.now) c.args.name.now
