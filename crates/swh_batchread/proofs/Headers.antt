-- Headers: what a line has to be to be one, and that a text begins with one header at most.
use Rattle.std.specs.Prelude.{if◌then◌else◌}
use Rattle.std.proofs.Common.{◌≡◌, ℕ, zero, suc, ◌+◌, ◌<◌, ◌≤◌, ◌^◌, ◌==◌, Bool, true, false, List, [], ◌∷◌, ◌++◌, length, get_or, map, Contains, refl, sym, ap, ◌∙◌, subst, arith, decimal, append_assoc, length-append, lit≤, codes}
use Rattle.std.specs.List.{AllByRecursion, AllPass}
use Rattle.std.specs.Int.Digits.{digits_of}
use Rattle.std.proofs.lemmas.Int.Digits.{all_below_base_digits_of}
use Rattle.std.proofs.lemmas.Fmt.{decimal_injective, decimal-digits_of, decimal_digit, length-decimal-le}
use Rattle.hex.specs.Hex.{encode_lower}
use Rattle.swh_base.specs.declared.kind.Kind.{Kind}
use Rattle.swh_base.specs.declared.kind.Kind.TheVariants.{Content, Directory, Revision, Release, Snapshot}
use Rattle.swh_base.specs.Kind.{word_of}
use Rattle.swh_base.specs.Name.{IsId, IsIdText, is_lower_hex_digit}
use Rattle.swh_base.proofs.HexLines.{hex-injective}
use Rattle.swh_base.proofs.Ids.{IsIdText-encode}
use Rattle.swh_base.proofs.Splits.{first_split, absent}
use Rattle.swh_fastlex.proofs.Windows.{none_joined}
use Rattle.swh_base.proofs.Middle.{in_middle}
use Rattle.swh_batchread.specs.declared.header.Header.{Header}
use Rattle.swh_batchread.specs.Batch.{IsHeader, header_line, header_text}

-- a byte that fails a test is not among those that pass it
not_passing : (p : ℕ → Bool) (s : ℕ) (xs : List ℕ) → p s ≡ false → AllPass p xs → Contains xs s → ⊥
not_passing p s xs fails all (k, l, e) =
    let yes : p (get_or xs k s) ≡ true = all k s l in
    let same : p (get_or xs k s) ≡ p s = ap p e in
    cc

pub none_cons : (c s : ℕ) (xs : List ℕ) → (c ≡ s → ⊥) → (Contains xs s → ⊥) → Contains (c ∷ xs) s → ⊥
none_cons c s xs d n (zero, l, e) = d e
none_cons c s xs d n (suc k, l, e) = n (k, omega arith, e)

digit_in : (ds : List ℕ) (s : ℕ) → AllByRecursion (λ d. d < 10) ds → Contains (map (λ d. 48 + d) ds) s → (48 ≤ s) × (s < 58)
digit_in [] s all h = let l = h.1 in absurd (omega (arith, l))
digit_in (d ∷ ds) s all (zero, l, e) = let small = all.0 in (omega (arith, small, e), omega (arith, small, e))
digit_in (d ∷ ds) s all (suc k, l, e) = digit_in ds s all.1 (k, omega arith, e)

-- the bytes of a decimal number are digits
decimal_in : (n s : ℕ) → n < 2 ^ 64 → Contains (decimal n) s → (48 ≤ s) × (s < 58)
decimal_in zero s high h = digit_in (0 ∷ []) s (omega arith, tt) (subst (λ (ds : List ℕ). Contains ds s) (decimal_digit 0 (omega arith)) h)
decimal_in (suc n) s high h = digit_in (digits_of 10 (suc n)) s (all_below_base_digits_of 10 (suc n) (omega arith)) (subst (λ (ds : List ℕ). Contains ds s) (decimal-digits_of (suc n) (omega arith) high) h)

pub hex_no : (id : List ℕ) (s : ℕ) → IsId id → is_lower_hex_digit s ≡ false → Contains (encode_lower id) s → ⊥
hex_no id s h fails c = not_passing is_lower_hex_digit s (encode_lower id) fails (IsIdText-encode id h).1 c

word_no_space : (kind : Kind) → Contains (word_of kind) 32 → ⊥
word_no_space Content = absent 32 (codes "blob") refl
word_no_space Directory = absent 32 (codes "tree") refl
word_no_space Revision = absent 32 (codes "commit") refl
word_no_space Release = absent 32 (codes "tag") refl
word_no_space Snapshot = absent 32 (codes "snapshot") refl

word_no_feed : (kind : Kind) → Contains (word_of kind) 10 → ⊥
word_no_feed Content = absent 10 (codes "blob") refl
word_no_feed Directory = absent 10 (codes "tree") refl
word_no_feed Revision = absent 10 (codes "commit") refl
word_no_feed Release = absent 10 (codes "tag") refl
word_no_feed Snapshot = absent 10 (codes "snapshot") refl

-- which kind a word names: its length and its first byte tell
abbrev kind_from : List ℕ → Kind
kind_from word =
    if length word == 3 then Release
    else if length word == 6 then Revision
    else if length word == 8 then Snapshot
    else if get_or word 0 0 == 98 then Content
    else Directory

kind_from-word : (kind : Kind) → kind_from (word_of kind) ≡ kind
kind_from-word Content = refl
kind_from-word Directory = refl
kind_from-word Revision = refl
kind_from-word Release = refl
kind_from-word Snapshot = refl

pub one_word : (k j : Kind) → word_of k ≡ word_of j → k ≡ j
one_word k j e = sym (kind_from-word k) ∙ ap kind_from e ∙ kind_from-word j

abbrev header : List ℕ → Kind → ℕ → Header
header id kind size = record { id = id; kind = kind; size = size }

same_header : (h k : Header) → h.id ≡ k.id → h.kind ≡ k.kind → h.size ≡ k.size → h ≡ k
same_header h k i c s = ap (λ (x : List ℕ). header x h.kind h.size) i ∙ ap (λ (x : Kind). header k.id x h.size) c ∙ ap (λ (x : ℕ). header k.id k.kind x) s

-- no line is this header
abbrev pub NotHeader : List ℕ → Type 0
NotHeader line = (h : Header) → IsHeader h → line ≡ header_line h → ⊥

pub line-no_space : (line : List ℕ) → (Contains line 32 → ⊥) → NotHeader line
line-no_space line none h is e = none (subst (λ (t : List ℕ). Contains t 32) (sym e) (in_middle (encode_lower h.id) _ 32))

-- what stands before and after the first space
after_id : (line hex rest : List ℕ) → (Contains hex 32 → ⊥) → line ≡ hex ++ 32 ∷ rest → (h : Header) → IsHeader h → line ≡ header_line h → (hex ≡ encode_lower h.id) × (rest ≡ word_of h.kind ++ 32 ∷ decimal h.size)
after_id line hex rest none cut h is e = first_split 32 hex (encode_lower h.id) rest _ none (hex_no h.id 32 is.id refl) (sym cut ∙ e)

pub line-no_id : (line hex rest : List ℕ) → (Contains hex 32 → ⊥) → line ≡ hex ++ 32 ∷ rest → (IsIdText hex → ⊥) → NotHeader line
line-no_id line hex rest none cut never h is e = never (subst IsIdText (sym (after_id line hex rest none cut h is e).0) (IsIdText-encode h.id is.id))

pub line-no_word : (line hex rest : List ℕ) → (Contains hex 32 → ⊥) → line ≡ hex ++ 32 ∷ rest → (Contains rest 32 → ⊥) → NotHeader line
line-no_word line hex rest none cut never h is e = never (subst (λ (t : List ℕ). Contains t 32) (sym (after_id line hex rest none cut h is e).1) (in_middle (word_of h.kind) _ 32))

-- what stands before and after the second space
after_word : (line hex rest word digits : List ℕ) → (Contains hex 32 → ⊥) → line ≡ hex ++ 32 ∷ rest → (Contains word 32 → ⊥) → rest ≡ word ++ 32 ∷ digits → (h : Header) → IsHeader h → line ≡ header_line h → (word ≡ word_of h.kind) × (digits ≡ decimal h.size)
after_word line hex rest word digits none cut no_space behind h is e = first_split 32 word (word_of h.kind) digits _ no_space (word_no_space h.kind) (sym behind ∙ (after_id line hex rest none cut h is e).1)

pub line-no_kind : (line hex rest word digits : List ℕ) → (Contains hex 32 → ⊥) → line ≡ hex ++ 32 ∷ rest → (Contains word 32 → ⊥) → rest ≡ word ++ 32 ∷ digits → ((kind : Kind) → (kind ≡ Snapshot → ⊥) → word ≡ word_of kind → ⊥) → NotHeader line
line-no_kind line hex rest word digits none cut no_space behind never h is e = never h.kind is.kind (after_word line hex rest word digits none cut no_space behind h is e).0

pub line-no_size : (line hex rest word digits : List ℕ) → (Contains hex 32 → ⊥) → line ≡ hex ++ 32 ∷ rest → (Contains word 32 → ⊥) → rest ≡ word ++ 32 ∷ digits → ((n : ℕ) → n < 2 ^ 64 → digits ≡ decimal n → ⊥) → NotHeader line
line-no_size line hex rest word digits none cut no_space behind never h is e = never h.size is.size (after_word line hex rest word digits none cut no_space behind h is e).1

-- the parts make a header
pub whole_line : (line hex rest word digits id : List ℕ) (kind : Kind) (size : ℕ) → line ≡ hex ++ 32 ∷ rest → hex ≡ encode_lower id → rest ≡ word ++ 32 ∷ digits → word ≡ word_of kind → digits ≡ decimal size → line ≡ header_line (header id kind size)
whole_line line hex rest word digits id kind size cut i behind w d =
    cut ∙ ap (λ (t : List ℕ). t ++ 32 ∷ rest) i ∙ ap (λ (t : List ℕ). encode_lower id ++ 32 ∷ t) (behind ∙ ap (λ (t : List ℕ). t ++ 32 ∷ digits) w ∙ ap (λ (t : List ℕ). word_of kind ++ 32 ∷ t) d)

-- a header's line has no LF before its end
pub line_no_feed : (h : Header) → IsHeader h → Contains (header_line h) 10 → ⊥
line_no_feed h is =
    let digits : Contains (decimal h.size) 10 → ⊥ = λ c. let digit = decimal_in h.size 10 is.size c in absurd (omega (arith, digit.0)) in
    let size : Contains (32 ∷ decimal h.size) 10 → ⊥ = none_cons 32 10 (decimal h.size) (λ e. absurd (omega arith)) digits in
    let word = none_joined (word_of h.kind) (32 ∷ decimal h.size) 10 (word_no_feed h.kind) size in
    let behind = none_cons 32 10 (word_of h.kind ++ 32 ∷ decimal h.size) (λ e. absurd (omega arith)) word in
    none_joined (encode_lower h.id) (32 ∷ (word_of h.kind ++ 32 ∷ decimal h.size)) 10 (hex_no h.id 10 is.id refl) behind

-- a line is of one header at most
pub one_line : (h k : Header) → IsHeader h → IsHeader k → header_line h ≡ header_line k → h ≡ k
one_line h k is js e =
    let ids = first_split 32 (encode_lower h.id) (encode_lower k.id) _ _ (hex_no h.id 32 is.id refl) (hex_no k.id 32 js.id refl) e in
    let words = first_split 32 (word_of h.kind) (word_of k.kind) _ _ (word_no_space h.kind) (word_no_space k.kind) ids.1 in
    same_header h k (hex-injective h.id k.id is.id.1 js.id.1 ids.0) (one_word h.kind k.kind words.0) (decimal_injective h.size k.size is.size js.size words.1)

pub header_then : (h : Header) (x : List ℕ) → header_text h ++ x ≡ header_line h ++ 10 ∷ x
header_then h x = append_assoc (header_line h) (10 ∷ []) x

-- a text begins with one header at most
pub one_header : (h k : Header) (x y : List ℕ) → IsHeader h → IsHeader k → header_text h ++ x ≡ header_text k ++ y → (h ≡ k) × (x ≡ y)
one_header h k x y is js e =
    let both = first_split 10 (header_line h) (header_line k) x y (line_no_feed h is) (line_no_feed k js) (sym (header_then h x) ∙ e ∙ header_then k y) in
    (one_line h k is js both.0, both.1)

word_short : (kind : Kind) → length (word_of kind) ≤ 8
word_short Content = lit≤ tt
word_short Directory = lit≤ tt
word_short Revision = lit≤ tt
word_short Release = lit≤ tt
word_short Snapshot = lit≤ tt

-- a header is a short line
pub line_short : (h : Header) → IsHeader h → length (header_line h) ≤ 70
line_short h is =
    let hex : length (encode_lower h.id) ≡ 40 = (IsIdText-encode h.id is.id).0 in
    let small = is.size in
    let digits : length (decimal h.size) ≤ 20 = length-decimal-le 20 h.size (omega arith) (omega arith) small in
    let word = word_short h.kind in
    let inner = length-append (word_of h.kind) (32 ∷ decimal h.size) in
    let outer = length-append (encode_lower h.id) (32 ∷ (word_of h.kind ++ 32 ∷ decimal h.size)) in
    omega (arith, hex, digits, word, inner, outer)
