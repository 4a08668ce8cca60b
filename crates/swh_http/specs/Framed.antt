-- What is known of a whole head.
use Rattle.std.specs.Prelude.{◌≡◌, ℕ, List, [], length, map, All}
use Rattle.httparse.specs.Grammar.{RequestHead, ReadsRequest}
use Rattle.httparse.specs.Spans.{IsHeaderWithin, header_bytes, span_bytes, IsWithin}
use Rattle.httparse.specs.declared.spans.HeaderSpan.{HeaderSpan}
use Rattle.httparse.specs.declared.spans.RequestSpans.{RequestSpans}
use Rattle.swh_http.specs.Field.{AreTakenFields, IsRefusedAs, keeps}
use Rattle.swh_http.specs.Wire.{head_fields}
use Rattle.swh_http.specs.declared.head.Framed.{Framed}

-- The bytes are a head, and nothing follows it.
abbrev pub IsWholeHead : List ℕ → Type 0
IsWholeHead bytes = (head : RequestHead) × ReadsRequest bytes head []

-- These are the parts of a head that is taken.
pub record Frames (bytes : List ℕ) (framed : Framed) : Type 0 where
  pub head : RequestHead
  pub reads : ReadsRequest bytes head []
  pub taken : AreTakenFields (head_fields head) framed.length
  pub method : framed.method ≡ head.method
  pub path : framed.path ≡ head.target
  pub keep : framed.keep ≡ keeps head.minor (head_fields head)

-- The head is refused with this status.
pub record IsRefusedHead (bytes : List ℕ) (status : ℕ) : Type 0 where
  pub head : RequestHead
  pub reads : ReadsRequest bytes head []
  pub refused : IsRefusedAs (head_fields head) status

-- The spans cover the parts of a head.
pub record Found (bytes : List ℕ) (found : RequestSpans) (headers : List HeaderSpan) : Type 0 where
  pub method_within : IsWithin (length bytes) found.method
  pub path_within : IsWithin (length bytes) found.path
  pub headers_within : All (IsHeaderWithin (length bytes)) headers
  pub head : RequestHead
  pub reads : ReadsRequest bytes head []
  pub method : span_bytes bytes found.method ≡ head.method
  pub path : span_bytes bytes found.path ≡ head.target
  pub minor : found.version ≡ head.minor
  pub fields : map (header_bytes bytes) headers ≡ head_fields head
