use Rattle.std.proofs.Common.{[], take}
use Rattle.swh_fastcook.specs.Loaded.{SetTags, tags_in}
use Rattle.swh_fastcook.proofs.tags.tags_of.Given as goal

abbrev pub invariant-loop-name : goal.invariant-loop-name
invariant-loop-name g l = SetTags (g.L.Look.archive l.look).bodies (take l.name-index l.order) [] (tags_in l.tags.entries)
