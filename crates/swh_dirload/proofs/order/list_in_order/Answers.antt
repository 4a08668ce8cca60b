use Rattle.std.proofs.Common.{map, sym, subst, rules}
use Rattle.std.specs.Ordering.{nat_cmp, is_lt}
use Rattle.std.specs.Cmp.Lexicographic.{slice_cmp}
use Rattle.std.proofs.lemmas.Cmp.{nat_list_cmp_total}
use Rattle.std.proofs.lemmas.List.MinMax.{ranks_by}
use Rattle.std.proofs.lemmas.List.Sorted.{IsPermutation-map}
use Rattle.std.proofs.lemmas.Fn.{always_returns_same}
use Rattle.swh_outside.specs.Folder.{FolderEntry, AreNames}
use Rattle.swh_outside.specs.Listing.{listed}
use Rattle.swh_outside.specs.declared.folder.Item as listing
use Rattle.swh_dirload.specs.Items.{entry_key, item_in}
use Rattle.swh_dirmade.proofs.Sorting.{sorted_map, map_map}
use Rattle.swh_dirload.proofs.order.list_in_order.Goals as goal

pub returns-in-Ok-clause-items : goal.returns-in-Ok-clause-items
returns-in-Ok-clause-items g c = λ tells.
    let items = c.sort_unstable_by.new.self.items in
    let up = c.sort_unstable_by.ensures.sorted (λ x y. is_lt (slice_cmp nat_cmp (entry_key (listed x)) (entry_key (listed y)))) (ranks_by nat_list_cmp_total (λ (item : listing.Item). entry_key (listed item)))
    (always_returns_same _ _ _ (λ a r q k. search rules)) in
    record {
      entries = map listed c.in-Ok.items.items;
      ordered = map listed items;
      are = c.in-Ok.ensures.entries tells;
      order = record {
        same = IsPermutation-map listed c.in-Ok.items.items items c.sort_unstable_by.ensures.permutation;
        ascend = sorted_map listed (λ x y. is_lt (slice_cmp nat_cmp (entry_key x) (entry_key y))) items up;
      };
      names = subst AreNames (sym (map_map (λ (entry : FolderEntry). entry.name) listed c.in-Ok.items.items)) c.in-Ok.ensures.names;
      named = sym (map_map (item_in c.args.dir.now) listed items);
    }

pub returns-in-Ok-clause-order : goal.returns-in-Ok-clause-order
returns-in-Ok-clause-order g c =
    let items = c.sort_unstable_by.new.self.items in
    let old = c.in-Ok.items.items in
    let up = c.sort_unstable_by.ensures.sorted (λ x y. is_lt (slice_cmp nat_cmp (entry_key (listed x)) (entry_key (listed y)))) (ranks_by nat_list_cmp_total (λ (item : listing.Item). entry_key (listed item)))
    (always_returns_same _ _ _ (λ a r q k. search rules)) in
    record {
      entries = map listed old;
      order = record {
        same = IsPermutation-map listed old items c.sort_unstable_by.ensures.permutation;
        ascend = sorted_map listed (λ x y. is_lt (slice_cmp nat_cmp (entry_key x) (entry_key y))) items up;
      };
      names = subst AreNames (sym (map_map (λ (entry : FolderEntry). entry.name) listed old)) c.in-Ok.ensures.names;
    }
