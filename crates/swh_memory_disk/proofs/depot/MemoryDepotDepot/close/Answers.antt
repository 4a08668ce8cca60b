use Rattle.std.proofs.Common.{rules, ◌≡◌, List, length, ◌∙◌, ap}
use Rattle.std.proofs.lemmas.List.{with_items_is}
use Rattle.swh_memory_disk.specs.InPlace.{notes_in}
use Rattle.swh_memory_disk.specs.declared.depot_file.DepotFile.{DepotFile}
use Rattle.swh_memory_disk.specs.declared.record.Room.{Room}
use Rattle.swh_memory_disk.proofs.depot.MemoryDepotDepot.close.Goals as goal

pub returns-clause-other_notes : goal.returns-clause-other_notes
returns-clause-other_notes c =
    let self = c.if-faults-gt0.self in
    let lengths : length c.swap_disk.new.places ≡ self.places.len = search rules in
    let items = with_items_is self.places c.swap_disk.new.places lengths in
    let value : c.deref_mut.result.now ≡ self.places.items = search rules in
    let places : self.places.items ≡ c.args.self.now.places.items = search rules in
    let room : self.room ≡ c.args.self.now.room = search rules in
    record {
      at_other = λ d n other.
          ap (λ (ps : List DepotFile). notes_in self.room ps d n) items
          ∙ (c.swap_disk.ensures.other_notes self.room).at_other d n other
          ∙ ap (λ (ps : List DepotFile). notes_in self.room ps d n) (value ∙ places)
          ∙ ap (λ (r : Room). notes_in r c.args.self.now.places.items d n) room;
    }
