use Rattle.std.proofs.Common.{◌≡◌, refl}
use Rattle.std.specs.Ordering.{nat_cmp}
use Rattle.std.proofs.lemmas.Iterator.{YieldsList-from_slice}
use Rattle.std.proofs.lemmas.Iterator.Consumers.{YieldsList-from_chain}
use Rattle.std.proofs.lemmas.Iterator.Search.{cmp_from_yields_List}
use Rattle.swh_base.specs.Directory.{suffix_of}
use Rattle.swh_dirmade.proofs.directory.order_of.Goals as goal

pub returns : goal.returns
returns c =
    cmp_from_yields_List (λ x y. y ≡ x) _ nat_cmp _ c.cmp.ensures.ran
    (YieldsList-from_chain (YieldsList-from_slice c.args.a.now.name cc) (YieldsList-from_slice (suffix_of c.args.a.now.mode) cc) c.chain-key.ensures.first_done c.chain-key.ensures.second_done)
    (λ it e. rw e (YieldsList-from_chain (YieldsList-from_slice c.args.b.now.name cc) (YieldsList-from_slice (suffix_of c.args.b.now.mode) cc) c.chain.ensures.first_done c.chain.ensures.second_done))
    (λ x y. refl)
