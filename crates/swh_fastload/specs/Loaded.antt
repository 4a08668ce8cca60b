-- Loaded objects without where they lie in memory.
use Rattle.swh_model.specs.Meaning.{StreamMeaning}
use Rattle.swh_dedup.specs.declared.objects.Objects.{Objects}
use Rattle.swh_dedup.specs.Making.{made}

-- what was made of an input, and the id of its snapshot
abbrev pub making_of : {N : Type 0} → Objects N → StreamMeaning
making_of loaded = record { objects = made loaded.objects.items; snapshot = loaded.snapshot }
