-- The bytes of a reply (RFC 9112, section 4; RFC 9110, sections 8.3 and 8.6).
use Rattle.std.specs.Prelude.{◌≢◌, ◌≤◌, ◌<◌, ℕ, Bool, List, [], ◌++◌, length, codes, decimal, unwrap_or, if◌then◌else◌}
use Rattle.http.specs.StatusCode.{reason_phrase}
use Rattle.swh_base.specs.declared.request.Reply.{Reply}

-- A reply with this status has a body (RFC 9110, sections 6.4.1 and 15): it is no interim one, and none of 204, 205 and 304.
-- A client reads no body behind any other, so that what is written as one would be taken for the next reply.
pub record HasBody (status : ℕ) : Type 0 where
  pub final : 200 ≤ status
  pub three_digits : status < 1000
  pub has_content : status ≢ 204
  pub resets_nothing : status ≢ 205
  pub is_modified : status ≢ 304

-- the standard phrase of a status, and none where it has none
abbrev pub phrase_of : ℕ → List ℕ
phrase_of status = unwrap_or (reason_phrase status) []

unfoldable pub status_line : ℕ → List ℕ
status_line status = codes "HTTP/1.1 " ++ decimal status ++ codes " " ++ phrase_of status ++ codes "\r\n"

unfoldable pub length_line : ℕ → List ℕ
length_line n = codes "Content-Length: " ++ decimal n ++ codes "\r\n"

abbrev pub type_line : Bool → List ℕ
type_line json =
    if json then codes "Content-Type: application/json\r\n" else codes "Content-Type: application/octet-stream\r\n"

abbrev pub closing : Bool → List ℕ
closing keep = if keep then [] else codes "Connection: close\r\n"

-- the lines before the body, and the empty line that ends them
unfoldable pub head_text : Reply → Bool → List ℕ
head_text reply keep =
    status_line reply.status ++ length_line (length reply.body) ++ type_line reply.json ++ closing keep
    ++ codes "\r\n"

-- A whole reply, as it is put.
abbrev pub reply_text : Reply → Bool → List ℕ
reply_text reply keep = head_text reply keep ++ reply.body
