-- Where the bytes of a request's head so far end, byte by byte (RFC 9112, sections 2 to 5): the head's grammar is
-- `RequestHead` of `httparse`, and this is a machine that follows it.
use Rattle.std.specs.Prelude.{ℕ, ◌+◌, ◌≤◌, ◌==◌, ◌||◌, nat_lt, List, [], ◌∷◌, ◌++◌, length, drop, codes, slice_index, if◌then◌else◌}
use Rattle.std.specs.Str.{is_utf8}
use Rattle.httparse.specs.Grammar.{is_token_byte, is_uri_byte, is_value_byte}
use Rattle.swh_http.specs.declared.head_state.HeadState.{HeadState}
use Rattle.swh_http.specs.declared.head_state.HeadState.TheVariants.{Blank, BlankEnd, Method, Space, Target, Version, Minor, LineEnd, Feed, Line, LastFeed, Name, Value, Whole, Over, Broken}

-- the byte of `HTTP/1.` at this index
abbrev pub version_byte : ℕ → ℕ
version_byte k = slice_index (codes "HTTP/1.") k

-- where the byte leads, after these bytes
abbrev pub advance : List ℕ → HeadState → ℕ → HeadState
advance before Blank b =
    if b == 10 then Blank else (if b == 13 then BlankEnd else (if is_token_byte b then Method else Broken))
advance before BlankEnd b = if b == 10 then Blank else Broken
advance before Method b = if is_token_byte b then Method else (if b == 32 then Space else Broken)
advance before Space b = if is_uri_byte b then Target (length before) else Broken
advance before (Target from) b =
    if is_uri_byte b then Target from
    else (if b == 32 then (if is_utf8 (drop from before) then Version 0 else Broken) else Broken)
advance before (Version k) b =
    if b == version_byte k then (if nat_lt k 6 then Version (k + 1) else Minor) else Broken
advance before Minor b = if b == 48 || b == 49 then LineEnd else Broken
advance before LineEnd b = if b == 10 then Line else (if b == 13 then Feed else Broken)
advance before Feed b = if b == 10 then Line else Broken
advance before Line b =
    if b == 10 then Whole else (if b == 13 then LastFeed else (if is_token_byte b then Name else Broken))
advance before LastFeed b = if b == 10 then Whole else Broken
advance before Name b = if is_token_byte b then Name else (if b == 58 then Value else Broken)
advance before Value b =
    if is_value_byte b then Value else (if b == 10 then Line else (if b == 13 then Feed else Broken))
advance before Whole b = Over
advance before Over b = Over
advance before Broken b = Broken

-- where the bytes lead from a place, after the bytes `before`
abbrev pub advance_all : List ℕ → HeadState → List ℕ → HeadState
advance_all before place [] = place
advance_all before place (b ∷ bs) = advance_all (before ++ b ∷ []) (advance before place b) bs

-- where these bytes of a connection end
abbrev pub place_of : List ℕ → HeadState
place_of bytes = advance_all [] Blank bytes

-- A head that stands here may go on: it is neither whole nor broken.
abbrev pub MayContinue : HeadState → Type 0
MayContinue Whole = ⊥
MayContinue Over = ⊥
MayContinue Broken = ⊥
MayContinue _ = Unit {0}

-- The target's start lies within so many bytes.
abbrev pub StartsWithin : ℕ → HeadState → Type 0
StartsWithin n (Target from) = from ≤ n
StartsWithin n _ = Unit {0}
