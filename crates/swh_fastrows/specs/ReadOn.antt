-- What a call that takes rows leaves of their source.
use Rattle.std.specs.Prelude.{Result}
use Rattle.swh_fastlex.specs.ReadOn.{IsReadOn}
use Rattle.swh_fastrows.specs.Places.{ReaderState}

-- The source under a reader of rows was read on.
abbrev pub AreReadOn : {T E : Type 0} → ReaderState → ReaderState → E → Result T E → Type 0
AreReadOn old new failed result = IsReadOn (λ (p : ReaderState). p.path) (λ (p : ReaderState). p.faults) old new failed result
