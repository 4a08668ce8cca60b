-- What a command leaves as it was.
use Rattle.std.specs.Prelude.{◌≤◌}
use Rattle.swh_exit.specs.Seen.{Span}
use Rattle.swh_exit.specs.declared.answer.Answer.{Answer}
use Rattle.swh_exit.specs.declared.answer.Answer.TheVariants.{NoJobFile, BadJob, NotMade, Damaged, OutsideDisk, OutsideSource}

-- The archive did not open, for another reason than want of memory.
abbrev pub IsArchiveRefusal : Answer → Type 0
IsArchiveRefusal NotMade = Unit {0}
IsArchiveRefusal (Damaged text) = Unit {0}
IsArchiveRefusal OutsideDisk = Unit {0}
IsArchiveRefusal _ = ⊥

module _ (s : Span) where
  -- The namer, the doors and the gate, which no command has a use for, are as they were, and no count of faults falls.
  pub record KeepsOthers : Type 0 where
    pub namer : s.same.namer
    pub doors : s.same.doors
    pub gate : s.same.gate
    pub depot_later : s.old.depot.faults ≤ s.new.depot.faults
    pub desk_later : s.old.desk.faults ≤ s.new.desk.faults
    pub origins_later : s.old.origins.faults ≤ s.new.origins.faults
    pub yard_later : s.old.yard.faults ≤ s.new.yard.faults
    pub sink_later : s.old.sink.faults ≤ s.new.sink.faults
    pub clock_later : s.old.clock.faults ≤ s.new.clock.faults
    pub doors_later : s.old.doors.faults ≤ s.new.doors.faults

  -- The same, and the yard, which `cook` alone has a use for, is as it was too.
  pub record KeepsTheRest : Type 0 where
    pub namer : s.same.namer
    pub yard : s.same.yard
    pub doors : s.same.doors
    pub gate : s.same.gate
    pub depot_later : s.old.depot.faults ≤ s.new.depot.faults
    pub desk_later : s.old.desk.faults ≤ s.new.desk.faults
    pub origins_later : s.old.origins.faults ≤ s.new.origins.faults
    pub yard_later : s.old.yard.faults ≤ s.new.yard.faults
    pub sink_later : s.old.sink.faults ≤ s.new.sink.faults
    pub clock_later : s.old.clock.faults ≤ s.new.clock.faults
    pub doors_later : s.old.doors.faults ≤ s.new.doors.faults

  -- None of the parts that commands work on was touched.
  pub record TouchesNothing : Type 0 where
    pub depot : s.same.depot
    pub desk : s.same.desk
    pub origins : s.same.origins
    pub yard : s.same.yard
    pub clock : s.same.clock

  -- Of the parts that commands work on, the yard aside, all but the depot are as they were.
  pub record IsOnDepot : Type 0 where
    pub desk : s.same.desk
    pub origins : s.same.origins
    pub clock : s.same.clock

  -- Of the parts that commands work on, the yard aside, all but the desk are as they were.
  pub record IsOnDesk : Type 0 where
    pub depot : s.same.depot
    pub origins : s.same.origins
    pub clock : s.same.clock

  -- No input was opened, and the clock was not looked at.
  pub record IsBeforeInputs : Type 0 where
    pub origins : s.same.origins
    pub clock : s.same.clock

  -- A load that is refused leaves what comes after the refusal: first comes the job file, then the archive, then the
  -- clock and the inputs.
  abbrev pub IsRefusedInOrder : Answer → Type 0
  IsRefusedInOrder NoJobFile = IsOnDesk
  IsRefusedInOrder (BadJob text) = IsOnDesk
  IsRefusedInOrder OutsideSource = IsOnDesk
  IsRefusedInOrder NotMade = IsBeforeInputs
  IsRefusedInOrder (Damaged text) = IsBeforeInputs
  IsRefusedInOrder OutsideDisk = IsBeforeInputs
  IsRefusedInOrder _ = Unit {0}
