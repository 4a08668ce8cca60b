use Rattle.std.proofs.Common.{length, refl, ap, ◌∙◌, subst, arith, rules}
use Rattle.std.specs.Ordering.{nat_cmp, is_lt}
use Rattle.std.specs.Cmp.Lexicographic.{slice_cmp}
use Rattle.std.proofs.lemmas.Cmp.{nat_list_cmp_total}
use Rattle.std.proofs.lemmas.Fn.{always_returns_same}
use Rattle.std.proofs.lemmas.List.MinMax.{ranks_by}
use Rattle.std.proofs.lemmas.List.Sorted.{IsPermutation-map}
use Rattle.swh_base.specs.Directory.{IsDirectory, sort_key, children_of}
use Rattle.swh_dirfmt.specs.declared.entry.DirEntry.{DirEntry}
use Rattle.swh_dirfmt.specs.Entries.{entry_view, entry_views}
use Rattle.swh_model.specs.Meaning.{directory}
use Rattle.swh_dirmade.proofs.Entries.{lt_keys, order_good, order_short}
use Rattle.swh_dirmade.proofs.Sorting.{sorted_map}
use Rattle.swh_dirmade.proofs.directory.directory_object.Goals as goal

pub of-requires : goal.of-requires
of-requires g c =
    let sorted = c.sort_unstable_by.new.self.items in
    let up = c.sort_unstable_by.ensures.sorted (λ x y. is_lt (slice_cmp nat_cmp (sort_key (entry_view x)) (sort_key (entry_view y)))) (ranks_by nat_list_cmp_total (λ (e : DirEntry). sort_key (entry_view e))) (always_returns_same _ _ _ (λ a r q k. search rules)) in
    order_good c.requires.0 (entry_views c.args.list.items) (entry_views sorted) c.requires.1 (IsPermutation-map entry_view c.args.list.items sorted c.sort_unstable_by.ensures.permutation) (sorted_map entry_view lt_keys sorted up)

pub make_object-requires-after_bounds : goal.make_object-requires-after_bounds
make_object-requires-after_bounds g c κs within =
    let sorted = entry_views c.sort_unstable_by.new.self.items in
    (children_of sorted, record { entries = sorted; directory = subst (IsDirectory c.in_ok-body.body.items) c.of.ensures c.in_ok-body.ensures.directory; kids = refl })

pub unreachable-requires : goal.unreachable-requires
unreachable-requires g c =
    let items = c.sort_unstable_by.new.self.items in
    let sorted = entry_views items in
    let names = c.requires.0 in
    let moved = IsPermutation-map entry_view c.args.list.items items c.sort_unstable_by.ensures.permutation in
    let is : IsDirectory c.in_ok-body.body.items sorted = subst (IsDirectory c.in_ok-body.body.items) c.of.ensures c.in_ok-body.ensures.directory in
    let short = order_short names (entry_views c.args.list.items) sorted c.requires.1 moved in
    let long = ap length is.text in
    let h = rw c.in-Err-TooLong.field-0-is at c.in-Err-TooLong.ensures.err in
    let count = h.0 in
    let above = h.1 in
    absurd (omega (arith, short, long, count, above))

pub returns-in-Ok : goal.returns-in-Ok
returns-in-Ok g c =
    let items = c.sort_unstable_by.new.self.items in
    let sorted = entry_views items in
    let moved = IsPermutation-map entry_view c.args.list.items items c.sort_unstable_by.ensures.permutation in
    let is : IsDirectory c.in_ok-body.body.items sorted = subst (IsDirectory c.in_ok-body.body.items) c.of.ensures c.in_ok-body.ensures.directory in
    (sorted, record { order = moved; good = is.good; is = c.in-Ok.ensures.ok ∙ ap directory is.text; whole = c.in-Ok.ensures.object })
