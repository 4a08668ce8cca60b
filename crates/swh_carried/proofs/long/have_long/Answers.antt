use Rattle.std.proofs.Common.{refl, sym, subst, ◌<◌, ◌+◌, length}
use Rattle.swh_base.specs.Directory.{DirectoryEntry}
use Rattle.swh_base.specs.Limits.{path_limit}
use Rattle.swh_dirfmt.specs.Entries.{entry_of}
use Rattle.swh_graph.proofs.Lists.{in_map, from_map}
use Rattle.swh_carried.proofs.long.have_long.Goals as goal

pub returns-in-Some : goal.returns-in-Some
returns-in-Some c = (
  λ _. record {
    entry = entry_of c.in-Some.field-0;
    there = in_map entry_of c.args.entries.now c.in-Some.field-0 c.in-Some.ensures.some.0;
    long = c.in-Some.ensures.some.1;
  },
  λ _. refl,
)

pub returns-in-None : goal.returns-in-None
returns-in-None c = (
  λ is. cc,
  λ has.
      let found = from_map entry_of c.args.entries.now has.entry has.there in
      absurd (c.in-None.ensures.none found.0 found.1.0 (subst (λ (e : DirectoryEntry). path_limit < c.args.way + length e.name) (sym found.1.1) has.long)),
)
