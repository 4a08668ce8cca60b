use Rattle.std.proofs.Common.{◌<◌, ◌≤◌, length, inl, refl, arith, map}
use Rattle.swh_fastcook.specs.Loaded.{branch_of_tag, without_head, tags_in}
use Rattle.swh_fastcook.proofs.TagMaps.{no_heads, tags_in_length, many_by, many_same}
use Rattle.swh_fastcook.proofs.tags.make_many.Goals as goal

pub returns-then-len-gt-BRANCHES_LIMIT : goal.returns-then-len-gt-BRANCHES_LIMIT
returns-then-len-gt-BRANCHES_LIMIT g c =
    let tags = tags_in c.in_ok-tags.tags.entries in
    let heads = no_heads tags in
    let size = tags_in_length c.in_ok-tags.tags.entries in
    let is = c.len.ensures.len in
    let more = c.if-len-gt-BRANCHES_LIMIT.true in
    let many : 65536 < length (without_head (map branch_of_tag tags)) = omega (arith, heads, size, is, more) in
    (λ _. many_by (g.L.Look.archive c.args.look.now).bodies c.args.order.now tags c.in_ok-tags.ensures (inl many), λ _. refl)

pub returns : goal.returns
returns g c =
    let tags = tags_in c.in_ok-tags.tags.entries in
    let size = tags_in_length c.in_ok-tags.tags.entries in
    let is = c.len.ensures.len in
    let less = c.if-len-gt-BRANCHES_LIMIT.false in
    let few : length tags ≤ 65536 = omega (arith, size, is, less) in
    many_same (g.L.Look.archive c.args.look.now).bodies c.args.order.now tags c.in_ok-tags.ensures c.are_long.result few c.are_long.ensures
