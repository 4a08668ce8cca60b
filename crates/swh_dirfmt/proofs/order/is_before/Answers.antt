use Rattle.std.proofs.Common.{◌≡◌, ◌++◌, refl, ap, ◌∙◌}
use Rattle.std.proofs.lemmas.Iterator.{YieldsList-from_slice}
use Rattle.std.proofs.lemmas.Iterator.Consumers.{YieldsList-from_chain}
use Rattle.std.proofs.lemmas.Iterator.Search.{cmp_from_yields_List}
use Rattle.std.specs.Ordering.{nat_cmp, is_lt}
use Rattle.std.specs.Cmp.Lexicographic.{slice_cmp}
use Rattle.swh_base.specs.Directory.{suffix_of}
use Rattle.swh_dirfmt.proofs.order.is_before.Goals as goal

pub returns : goal.returns
returns c =
    let compared : c.cmp.result ≡ slice_cmp nat_cmp (c.args.name.now ++ suffix_of c.args.mode) (c.args.next_name.now ++ suffix_of c.args.next_mode) =
    cmp_from_yields_List (λ x y. y ≡ x) _ nat_cmp _ c.cmp.ensures.ran
    (YieldsList-from_chain (YieldsList-from_slice c.args.name.now cc) (YieldsList-from_slice (suffix_of c.args.mode) cc) c.chain-key.ensures.first_done c.chain-key.ensures.second_done)
    (λ it e. rw e (YieldsList-from_chain (YieldsList-from_slice c.args.next_name.now cc) (YieldsList-from_slice (suffix_of c.args.next_mode) cc) c.chain.ensures.first_done c.chain.ensures.second_done))
    (λ x y. refl) in
    c.is_lt.ensures ∙ ap is_lt compared
