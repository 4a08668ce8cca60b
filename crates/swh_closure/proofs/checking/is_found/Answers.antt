use Rattle.std.proofs.Common.{◌≡◌, true, false, refl, sym, ap, ◌∙◌}
use Rattle.std.specs.Prelude.{is_ok}
use Rattle.swh_closure.proofs.Order.{searches}
use Rattle.swh_closure.proofs.checking.is_found.Goals as goal

pub returns-in-Ok : goal.returns-in-Ok
returns-in-Ok c =
    let found = searches c.args.names.now c.args.name.now c.binary_search.result c.requires c.binary_search.ensures.bound c.binary_search.ensures.position in
    (λ _. found.0 (ap is_ok c.in-Ok.is), λ _. refl)

pub returns-in-Err : goal.returns-in-Err
returns-in-Err c =
    let found = searches c.args.names.now c.args.name.now c.binary_search.result c.requires c.binary_search.ensures.bound c.binary_search.ensures.position in
    (λ t. absurd (let no : false ≡ true = t in cc), λ h. let yes = found.1 h in let no = ap is_ok c.in-Err.is in let both : false ≡ true = sym no ∙ yes in absurd (cc))
