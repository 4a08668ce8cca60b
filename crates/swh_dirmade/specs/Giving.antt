-- Objects that a folder makes, each once and after all that it names.
use Rattle.std.specs.Prelude.{◌≡◌, ◌⊎◌, List, [], ◌∷◌, ◌++◌, Contains}
use Rattle.swh_base.specs.declared.entry.Entry.{Entry}
use Rattle.swh_model.specs.Meaning.{Made}
use Rattle.swh_dedup.specs.Making.{made_from, made}

-- The object is given, unless one of its kind and body was given before.
abbrev pub GivesOne : List Entry → Entry → List Entry → Type 0
GivesOne old object new = ((new ≡ old) × Contains (made old) (made_from object)) ⊎ (new ≡ old ++ object ∷ [])

-- No object is lost.
abbrev pub Keeps : List Entry → List Entry → Type 0
Keeps old new = (m : Made) → Contains (made old) m → Contains (made new) m
