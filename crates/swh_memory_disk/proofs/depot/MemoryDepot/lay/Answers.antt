use Rattle.std.proofs.Common.{rules, ◌≡◌, List, length, ◌∙◌, ap, arith}
use Rattle.std.specs.List.{position_or_len}
use Rattle.std.proofs.lemmas.List.{with_items_is}
use Rattle.swh_memory_disk.specs.InPlace.{is_at, notes_in}
use Rattle.swh_memory_disk.specs.declared.depot_file.DepotFile.{DepotFile}
use Rattle.swh_memory_disk.proofs.depot.MemoryDepot.lay.Goals as goal

pub returns-clause-other_notes : goal.returns-clause-other_notes
returns-clause-other_notes c =
    let self = c.place.new.self in
    let lengths : length c.swap_disk.new.places ≡ self.places.len = search rules in
    let items = with_items_is self.places c.swap_disk.new.places lengths in
    let value : c.deref_mut.result.now ≡ self.places.items = search rules in
    record {
      at_other = λ d n other.
          ap (λ (ps : List DepotFile). notes_in self.room ps d n) items
          ∙ (c.swap_disk.ensures.other_notes self.room).at_other d n other
          ∙ ap (λ (ps : List DepotFile). notes_in self.room ps d n) value
          ∙ c.in_ok-i.ensures.same_notes d n;
    }

pub returns-clause-places : goal.returns-clause-places
returns-clause-places c d n had =
    let self = c.place.new.self in
    let placed = c.in_ok-i.ensures.places d n had in
    let lengths : length c.swap_disk.new.places ≡ self.places.len = search rules in
    let items = with_items_is self.places c.swap_disk.new.places lengths in
    let value : c.deref_mut.result.now ≡ self.places.items = search rules in
    let position = ap (position_or_len (is_at d n)) items ∙ c.swap_disk.ensures.positions d n ∙ ap (position_or_len (is_at d n)) value in
    let all : length c.swap_disk.new.places ≡ length self.places.items = search rules in
    omega (arith, placed, position, all, ap (λ (ps : List DepotFile). length ps) items)
