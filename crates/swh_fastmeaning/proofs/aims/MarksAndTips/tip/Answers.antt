use Rattle.std.proofs.Common.{◌∙◌, sym, ap, ℕ}
use Rattle.std.specs.Global.{Vec}
use Rattle.std.specs.Option.{option_map}
use Rattle.std.specs.Ordering.{nat_cmp}
use Rattle.std.specs.Cmp.Lexicographic.{slice_cmp}
use Rattle.std.specs.BTreeMap.{is_at}
use Rattle.swh_fastmeaning.specs.Aims.{tip_at}
use Rattle.swh_fastmeaning.specs.Tips.{aim_of}
use Rattle.swh_fastmeaning.proofs.MappedMaps.{lookup-mapped}
use Rattle.swh_fastmeaning.proofs.aims.MarksAndTips.tip.Goals as goal

pub returns : goal.returns
returns c =
    ap (option_map aim_of) (c.copied.ensures ∙ c.get.ensures.value)
    ∙ sym (lookup-mapped (λ (k : Vec ℕ). k.items) aim_of (is_at (slice_cmp nat_cmp c.args.branch.now)) c.self.inside.tips.entries)
    ∙ ap (tip_at c.args.branch.now) c.self.view_is
