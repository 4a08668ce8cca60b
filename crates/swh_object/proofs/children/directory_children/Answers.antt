use Rattle.std.proofs.Common.{◌∙◌}
use Rattle.swh_base.specs.Directory.{child_of}
use Rattle.swh_dirfmt.specs.Entries.{entry_of, entries_in_body}
use Rattle.swh_object.proofs.Gathered.{filter_map-map}
use Rattle.swh_object.proofs.children.directory_children.Goals as goal

pub returns-in_ok-children_of_entries-in-Ok-clause-ok :
    goal.returns-in_ok-children_of_entries-in-Ok-clause-ok
returns-in_ok-children_of_entries-in-Ok-clause-ok c =
    let gathered = rw c.deref.ensures.value at c.in_ok-children_of_entries-in-Ok.ensures in
    record {
      entries = entries_in_body c.in-Ok.entries.items;
      directory = c.in-Ok.ensures.ok;
      kids = gathered ∙ filter_map-map child_of entry_of c.in-Ok.entries.items;
    }
