-- Which answers say that a part failed, and how what is given back is counted.
use Rattle.std.specs.Prelude.{ℕ, Bool, true, false, nat_lt, Result, Ok, Err, if◌then◌else◌}
use Rattle.swh_outside.specs.declared.fault.OutFault.{OutFault}
use Rattle.swh_outside.specs.declared.fault.OutFault.TheVariants.{Failed, Memory}
use Rattle.swh_outside.specs.declared.fault.Opened.{Opened}
use Rattle.swh_outside.specs.declared.fault.Opened.TheVariants as opened
use Rattle.swh_memory_failures.specs.Tally.{Tally, refused}

-- the part failed, and did not want memory
abbrev pub has_failed : {T : Type 0} → Result T OutFault → Bool
has_failed (Ok x) = false
has_failed (Err Failed) = true
has_failed (Err Memory) = false

-- the opening failed, and neither was nothing there, nor was memory wanting
abbrev pub opening_failed : {T : Type 0} → Opened T → Bool
opening_failed (opened.Found x) = false
opening_failed opened.NotFound = false
opening_failed opened.Failed = true
opening_failed opened.Memory = false

-- one failure more, where what is given back has failed
abbrev pub with_given_back : ℕ → Tally → Tally
with_given_back faults tally = if nat_lt 0 faults then refused tally else tally
