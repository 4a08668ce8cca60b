use Rattle.std.proofs.Common.{◌≡◌, ◌≤◌, length, List, sym, ap, subst, arith}
use Rattle.std.specs.List.{position_or_len}
use Rattle.swh_outside.specs.Disk.{File}
use Rattle.swh_memory_disk.specs.InPlace.{is_at}
use Rattle.swh_memory_disk.specs.declared.depot_file.DepotFile.{DepotFile}
use Rattle.swh_memory_disk.proofs.InPlaces.{files_in-absent}
use Rattle.swh_memory_disk.proofs.depot.MemoryDepot.bytes.Goals as goal

pub returns-else-i-len : goal.returns-else-i-len
returns-else-i-len c =
    let p = is_at c.args.dir.now c.args.file in
    let places = c.args.self.now.places.items in
    let e = c.deref.ensures.value in
    let first = subst (λ (l : List DepotFile). c.find_place-i.result ≡ position_or_len p l) e c.find_place-i.ensures.first in
    let within = subst (λ (l : List DepotFile). c.find_place-i.result ≤ length l) e c.find_place-i.ensures.within in
    let size = ap length e in
    let none : position_or_len p places ≡ length places = omega (arith, first, within, size, c.if-i-len.false, c.len.ensures, c.deref.ensures.len) in
    sym (ap (λ (f : File). f.seen) (files_in-absent places c.args.dir.now c.args.file none))
