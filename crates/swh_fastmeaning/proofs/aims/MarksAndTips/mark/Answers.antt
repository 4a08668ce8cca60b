use Rattle.std.proofs.Common.{◌∙◌, sym, ap, ℕ}
use Rattle.std.specs.Option.{option_map}
use Rattle.std.specs.Ordering.{nat_cmp}
use Rattle.std.specs.BTreeMap.{is_at}
use Rattle.swh_fastmeaning.specs.Aims.{mark_at}
use Rattle.swh_fastmeaning.specs.Tips.{aim_of}
use Rattle.swh_fastmeaning.proofs.MappedMaps.{lookup-mapped}
use Rattle.swh_fastmeaning.proofs.aims.MarksAndTips.mark.Goals as goal

pub returns : goal.returns
returns c =
    ap (option_map aim_of) c.get.ensures
    ∙ sym (lookup-mapped (λ (k : ℕ). k) aim_of (is_at (nat_cmp c.args.mark)) c.self.inside.marks)
    ∙ ap (mark_at c.args.mark) c.self.view_is
