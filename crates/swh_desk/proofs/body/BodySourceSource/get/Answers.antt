use Rattle.std.proofs.Common.{rules, ◌≡◌, ◌++◌, take, drop, List, ℕ, Bool, ◌||◌, ◌==◌, sym, ◌∙◌, ap, arith}
use Rattle.std.proofs.lemmas.Grind.{common_steps}
use Rattle.std.proofs.Math.Seq.{take-add}
use Rattle.swh_outside.specs.Source.{Heard}
use Rattle.swh_desk.proofs.body.BodySourceSource.get.Goals as goal

pub returns-else-count-eq0-clause-heard : goal.returns-else-count-eq0-clause-heard
returns-else-count-eq0-clause-heard c = λ told.
    let bytes = c.self.inside.bytes.now in
    let at = c.self.inside.at in
    let n = c.min-count.result in
    let given : c.args.self.now.given ≡ take at bytes = sym (ap (λ (h : Heard). h.given) c.self.view_is) in
    let piece : take n (c.copy_from_slice.new.self ++ drop n c.args.out.now) ≡ take n (drop at bytes) = grind (arith, common_steps, c.copy_from_slice.ensures) in
    record {
      more = take-add at n bytes ∙ ap (λ (l : List ℕ). l ++ take n (drop at bytes)) (sym given) ∙ ap (λ (l : List ℕ). c.args.self.now.given ++ l) (sym piece);
      end = search rules;
      none = tt;
      same_end = tt;
    }
