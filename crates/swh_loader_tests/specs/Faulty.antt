-- Inputs of which no reading comes to the end.
use Rattle.std.specs.Prelude.{Result, Ok, Err}
use Rattle.swh_ingest.specs.declared.parts.Next.{Next}
use Rattle.swh_ingest.specs.declared.parts.Next.TheVariants.{Part, Last, Bad}

-- These are not the last objects.
abbrev pub NeverEnds : {N B E : Type 0} → Result (Next N B) E → Type 0
NeverEnds (Ok (Part objects)) = Unit {0}
NeverEnds (Ok (Last made)) = ⊥
NeverEnds (Ok (Bad bad)) = Unit {0}
NeverEnds (Err fault) = Unit {0}
