use Rattle.std.proofs.Common.{◌≡◌, ◌+◌, ◌≤◌}
use Rattle.swh_base.specs.Limits.{body_limit}
use Rattle.swh_fastcook.proofs.TagMaps.{tags_length}
use Rattle.swh_fastcook.proofs.tags.are_long.Given as goal

abbrev pub invariant-loop-tag : goal.invariant-loop-tag
invariant-loop-tag l = record {
  few : l.left ≤ body_limit;
  is : l.left + tags_length l.tags.entries ≡ body_limit + tags_length l.tag-iterator;
}
