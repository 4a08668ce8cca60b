use Rattle.std.proofs.Common.{◌≡◌, ◌∙◌, ℕ, Option, Some, sym, subst}
use Rattle.swh_base.proofs.Elementary.{none_some}
use Rattle.swh_pathsums.specs.Lengths.{IsLengthUnder}
use Rattle.swh_pathsums.proofs.sums.length_under.Goals as goal

same_some : (m n : ℕ) → Some m ≡ Some n → m ≡ n
same_some m n e = cc

pub unreachable-requires : goal.unreachable-requires
unreachable-requires g c =
    let has = c.in_ok-sums.ensures c.args.directory c.requires.there in
    none_some has.found (sym c.in-None.is ∙ c.get.ensures ∙ has.there)

pub returns : goal.returns
returns g c =
    let has = c.in_ok-sums.ensures c.args.directory c.requires.there in
    subst (IsLengthUnder (g.L.Look.archive c.args.look.now).bodies (g.W.Weigh.weight_of c.args.weigher.now) c.args.directory) (same_some has.found c.in-Some.length (sym has.there ∙ sym c.get.ensures ∙ c.in-Some.is)) has.is
