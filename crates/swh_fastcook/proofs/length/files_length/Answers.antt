use Rattle.std.proofs.Common.{◌∙◌, sym}
use Rattle.swh_base.proofs.Elementary.{none_some}
use Rattle.swh_fastcook.proofs.length.files_length.Goals as goal

pub unreachable-requires : goal.unreachable-requires
unreachable-requires c = none_some c.requires.0 (sym c.in-None.is ∙ c.get.ensures ∙ c.requires.1)

pub returns : goal.returns
returns c = sym c.get.ensures ∙ c.in-Some.is
