use Rattle.std.proofs.lemmas.List.Elements.{All-rest}
use Rattle.swh_memory_input.specs.Links.{IsUnused}
use Rattle.swh_memory_input.proofs.doors.MemoryDoorsDoors.accept.Goals as goal

pub invariant_of-self-2-clause-unused : goal.invariant_of-self-2-clause-unused
invariant_of-self-2-clause-unused c =
    All-rest IsUnused c.in-Some-pop_front.link c.pop_front.new.self.items c.args.self.now.coming.items c.in-Some-pop_front.ensures.items c.args.self.now.unused
