use Rattle.std.proofs.Common.{◌≡◌, ◌++◌, refl, ap, ◌∙◌}
use Rattle.std.proofs.lemmas.Iterator.{YieldsList-from_slice}
use Rattle.std.proofs.lemmas.Iterator.Consumers.{YieldsList-from_chain}
use Rattle.std.proofs.lemmas.Iterator.Search.{cmp_from_yields_List}
use Rattle.std.specs.Ordering.{nat_cmp, is_lt}
use Rattle.std.specs.Cmp.Lexicographic.{slice_cmp}
use Rattle.swh_entries.proofs.order.is_rest_less.Goals as goal

pub returns : goal.returns
returns c =
    let compared : c.cmp.result ≡ slice_cmp nat_cmp (c.args.a.now ++ c.args.a_end.now) (c.args.b.now ++ c.args.b_end.now) =
    cmp_from_yields_List (λ x y. y ≡ x) _ nat_cmp _ c.cmp.ensures.ran
    (YieldsList-from_chain (YieldsList-from_slice c.args.a.now cc) (YieldsList-from_slice c.args.a_end.now cc) c.chain-key.ensures.first_done c.chain-key.ensures.second_done)
    (λ it e. rw e (YieldsList-from_chain (YieldsList-from_slice c.args.b.now cc) (YieldsList-from_slice c.args.b_end.now cc) c.chain.ensures.first_done c.chain.ensures.second_done))
    (λ x y. refl) in
    c.is_lt.ensures ∙ ap is_lt compared
