-- The fields of a request's head that decide what follows it (RFC 9112, sections 6 and 9.3; RFC 9110, sections 5.6.1
-- and 8.6). A field is its name and its value without the white space around it.
use Rattle.std.specs.Prelude.{◌≡◌, ◌⊎◌, ℕ, ◌<◌, ◌≤◌, ◌==◌, ◌&&◌, not, Bool, List, [], ◌∷◌, length, take, drop, All, codes, if◌then◌else◌}
use Rattle.std.specs.List.{list_all, list_any}
use Rattle.std.specs.Str.{str_eq_ignore_ascii_case}
use Rattle.httparse.specs.Grammar.{is_ows, skip_ows}
use Rattle.swh_base.specs.Limits.{body_limit}
use Rattle.swh_base.specs.Text.{IsNumber}

-- a name and a value
abbrev pub Pair : Type 0
Pair = List ℕ × List ℕ

-- the most fields of a head
abbrev pub field_limit : ℕ
field_limit = 64

-- the values of the fields of this name, whose case does not matter
unfoldable pub values : List ℕ → List Pair → List (List ℕ)
values name [] = []
values name (f ∷ fs) =
    if str_eq_ignore_ascii_case f.0 name then f.1 ∷ values name fs else values name fs

-- Each of the values is this length. Where there is none, the length is 0.
pub record AreLength (texts : List (List ℕ)) (n : ℕ) : Type 0 where
  pub each : All (λ text. IsNumber text n) texts
  pub none : length texts ≡ 0 → n ≡ 0

abbrev pub content_lengths : List Pair → List (List ℕ)
content_lengths fs = values (codes "content-length") fs

abbrev pub transfer_codings : List Pair → List (List ℕ)
transfer_codings fs = values (codes "transfer-encoding") fs

-- a byte before the first item of a list
abbrev pub before_items : ℕ → List (List ℕ) → List (List ℕ)
before_items b [] = (b ∷ []) ∷ []
before_items b (item ∷ items) = (b ∷ item) ∷ items

-- the items between commas
unfoldable pub list_items : List ℕ → List (List ℕ)
list_items [] = [] ∷ []
list_items (b ∷ bs) = if b == 44 then [] ∷ list_items bs else before_items b (list_items bs)

-- `close` in any case, with white space around it
abbrev pub is_close : List ℕ → Bool
is_close item =
    str_eq_ignore_ascii_case (take 5 (skip_ows item)) (codes "close") && list_all is_ows (drop 5 (skip_ows item))

abbrev pub has_close : List ℕ → Bool
has_close value = list_any is_close (list_items value)

-- A connection is kept by a request of HTTP/1.1 without `Connection: close`.
abbrev pub keeps : ℕ → List Pair → Bool
keeps minor fs = minor == 1 && not (list_any has_close (values (codes "connection") fs))

-- ---- whether a head is taken

-- its lengths are malformed, or not the same
abbrev pub IsMalformed : List Pair → Type 0
IsMalformed fs = (n : ℕ) → AreLength (content_lengths fs) n → ⊥

abbrev pub HasMany : List Pair → Type 0
HasMany fs = field_limit < length fs

abbrev pub HasTransferEncoding : List Pair → Type 0
HasTransferEncoding fs = 0 < length (transfer_codings fs)

abbrev pub IsLong : List Pair → Type 0
IsLong fs = (n : ℕ) × AreLength (content_lengths fs) n × (body_limit < n)

-- A whole head with these fields is refused with this status: the first of these causes is given.
abbrev pub IsRefusedAs : List Pair → ℕ → Type 0
IsRefusedAs fs status =
    ((status ≡ 400) × IsMalformed fs)
    ⊎ (((status ≡ 431) × (IsMalformed fs → ⊥) × HasMany fs)
    ⊎ (((status ≡ 501) × (IsMalformed fs → ⊥) × (HasMany fs → ⊥) × HasTransferEncoding fs)
    ⊎ ((status ≡ 413) × (IsMalformed fs → ⊥) × (HasMany fs → ⊥) × (HasTransferEncoding fs → ⊥) × IsLong fs)))

-- A whole head with these fields is taken, and its body has this length.
pub record AreTakenFields (fs : List Pair) (n : ℕ) : Type 0 where
  pub lengths : AreLength (content_lengths fs) n
  pub few : length fs ≤ field_limit
  pub plain : transfer_codings fs ≡ []
  pub short : n ≤ body_limit
