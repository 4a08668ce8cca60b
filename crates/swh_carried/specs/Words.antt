-- The word that tells why a form cannot carry an object.
use Rattle.std.specs.Prelude.{ℕ, List, codes}
use Rattle.swh_carried.specs.declared.fault.Why.{Why}
use Rattle.swh_carried.specs.declared.fault.Why.TheVariants.{Cycle, Revision, Release, Empty, Dots, Text, Path, Branch, Tagless, Refs, Length}

-- the word of a rule that an object breaks
abbrev pub why_word : Why → List ℕ
why_word Cycle = codes "cycle"
why_word Revision = codes "revision"
why_word Release = codes "release"
why_word Empty = codes "empty"
why_word Dots = codes "dots"
why_word Text = codes "text"
why_word Path = codes "path"
why_word Branch = codes "branch"
why_word Tagless = codes "tagless"
why_word Refs = codes "refs"
why_word Length = codes "length"
