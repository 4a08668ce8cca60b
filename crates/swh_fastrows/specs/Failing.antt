-- What a reader may tell of a stream, whatever the stream is, which a source need not tell.
use Rattle.std.specs.Prelude.{◌≡◌, ℕ, ◌+◌, ◌<◌}
use Rattle.swh_base.specs.Limits.{body_limit, line_limit, path_limit, tag_limit}
use Rattle.swh_base.specs.declared.visit.Which.{Which}
use Rattle.swh_base.specs.declared.visit.Which.TheVariants.{Body, Objects, Bytes, Store, Ledger, Stream, Line, Path, Ref, Refs}
use Rattle.swh_fastrows.specs.declared.fail.ReadFail.{ReadFail}
use Rattle.swh_fastrows.specs.declared.fail.ReadFail.TheVariants.{BadStream, ReadFault, Limit, Memory}
use Rattle.swh_fastrows.specs.declared.row_source.TheConstants.{STREAM_LIMIT}

-- The text of a stream may pass this limit by this number, and no limit of what is made of it.
abbrev pub MayPass : Which → ℕ → Type 0
MayPass Body number = body_limit < number
MayPass Objects number = ⊥
MayPass Bytes number = ⊥
MayPass Store number = ⊥
MayPass Ledger number = ⊥
MayPass Stream number = number ≡ STREAM_LIMIT + 1
MayPass Line number = number ≡ line_limit + 1
MayPass Path number = path_limit < number
MayPass Ref number = tag_limit < number
MayPass Refs number = ⊥

-- Some stream may be refused for this.
abbrev pub MayFail : ReadFail → Type 0
MayFail (BadStream at why) = Unit {0}
MayFail ReadFault = Unit {0}
MayFail (Limit which number) = MayPass which number
MayFail Memory = Unit {0}
