-- A batch means one list of objects at most, breaks in one way at most, and does not do both.
use Rattle.std.proofs.Common.{◌≡◌, ◌≢◌, ◌⊎◌, ℕ, ◌+◌, ◌<◌, ◌≤◌, inl, inr, List, [], ◌∷◌, ◌++◌, length, map, Contains, refl, sym, ap, ◌∙◌, subst, arith, append_assoc, length-append}
use Rattle.std.proofs.lemmas.List.{append-nil, length-take}
use Rattle.std.proofs.lemmas.Bool.{cases_lt}
use Rattle.std.proofs.lemmas.List.Concat.{flat_map-append}
use Rattle.swh_base.specs.declared.kind.Kind.{Kind}
use Rattle.swh_base.specs.declared.visit.Which.{Which}
use Rattle.swh_base.specs.declared.visit.Which.TheVariants.{Body, Stream}
use Rattle.swh_base.specs.Limits.{body_limit, line_limit}
use Rattle.swh_base.specs.Manifest.{IsWellFormed}
use Rattle.swh_base.proofs.DirectoryLemmas.{all-at}
use Rattle.swh_base.proofs.ItemTexts.{one_items, same_front}
use Rattle.swh_base.proofs.Splits.{first_split, sized_split, not_nil}
use Rattle.swh_model.specs.Meaning.{Made}
use Rattle.swh_fastlex.specs.Line.{IsLine}
use Rattle.swh_base.proofs.Middle.{in_middle}
use Rattle.swh_batchread.specs.declared.fault.BatchFault.{BatchFault}
use Rattle.swh_batchread.specs.declared.fault.BatchFault.TheVariants.{BadBatch, WrongName, BadRefs, NoObject, Limit, ReadFault, Memory}
use Rattle.swh_batchread.specs.declared.header.Header.{Header}
use Rattle.swh_batchread.specs.Batch.{Given, IsGiven, AreGiven, KeepsFirst, MeansObjects, header_of, header_line, header_text, given_text, batch_text, input_limit}
use Rattle.swh_batchread.specs.BatchFault.{BeginsWithLine, BeginsWithHeader, BeginsWithBody, HasNoHeader, LinePasses, HasNoBody, BodyPasses, HeaderBreaks, BodyBreaks, ObjectBreaks, BreaksBehind, BreaksHere, Reaches, BreaksBatch}
use Rattle.swh_batchread.proofs.Breaking.{feed_inside}
use Rattle.swh_batchread.proofs.Headers.{one_header, header_then, line_no_feed}

-- ## Objects of one text

given_then : (g : Given) (x : List ℕ) → given_text g ++ x ≡ header_text (header_of g) ++ (g.made.body ++ 10 ∷ x)
given_then g x = append_assoc (header_text (header_of g)) (g.made.body ++ 10 ∷ []) x ∙ ap (λ (t : List ℕ). header_text (header_of g) ++ t) (append_assoc g.made.body (10 ∷ []) x)

pub given_not_nil : (g : Given) (x : List ℕ) → given_text g ++ x ≡ [] → ⊥
given_not_nil g x e = not_nil (header_line (header_of g)) (g.made.body ++ 10 ∷ x) 10 (sym (header_then (header_of g) (g.made.body ++ 10 ∷ x)) ∙ sym (given_then g x) ∙ e)

abbrev given : List ℕ → Kind → List ℕ → Given
given id kind body = record { id = id; made = record { kind = kind; body = body } }

same_given : (g k : Given) → g.id ≡ k.id → g.made.kind ≡ k.made.kind → g.made.body ≡ k.made.body → g ≡ k
same_given g k i c b = ap (λ (x : List ℕ). given x g.made.kind g.made.body) i ∙ ap (λ (x : Kind). given k.id x g.made.body) c ∙ ap (λ (x : List ℕ). given k.id k.made.kind x) b

same_feed : (x y : List ℕ) → 10 ∷ x ≡ 10 ∷ y → x ≡ y
same_feed x y e = cc

keeps_one : (before ms a b : List Made) → KeepsFirst before ms a → KeepsFirst before ms b → a ≡ b
keeps_one before [] a b p q = p ∙ sym q
keeps_one before (m ∷ ms) a b (inl p) (inl q) = keeps_one before ms a b p.1 q.1
keeps_one before (m ∷ ms) a b (inl p) (inr q) = absurd (q.0 p.0)
keeps_one before (m ∷ ms) a b (inr p) (inl q) = absurd (p.0 q.0)
keeps_one before (m ∷ ms) a b (inr p) (inr q) = keeps_one (before ++ m ∷ []) ms a b p.1 q.1

-- ## Where a header is to begin

-- the first line of a text is one
line_cut : (text line more : List ℕ) → text ≡ line ++ more → (is : IsLine line) → text ≡ is.front ++ 10 ∷ more
line_cut text line more cut is = cut ∙ ap (λ (t : List ℕ). t ++ more) is.text ∙ append_assoc is.front (10 ∷ []) more

line_length : (line : List ℕ) (is : IsLine line) → length line ≡ length is.front + 1
line_length line is = ap length is.text ∙ length-append is.front (10 ∷ [])

-- a line with its LF is not cut before it
no_shorter : (text a b ra rb : List ℕ) → text ≡ a ++ ra → text ≡ b ++ rb → IsLine a → length a ≤ line_limit → (Contains b 10 → ⊥) → ((rb ≡ []) ⊎ (length b ≡ line_limit)) → ⊥
no_shorter text a b ra rb ca cb is short none (inl e) =
    none (subst (λ (t : List ℕ). Contains t 10) (sym (line_cut text a ra ca is) ∙ cb ∙ ap (λ (t : List ℕ). b ++ t) e ∙ append-nil b) (in_middle is.front ra 10))
no_shorter text a b ra rb ca cb is short none (inr long) =
    none (feed_inside is.front b rb ra (omega (arith, long, short, line_length a is)) (sym cb ∙ line_cut text a ra ca is))

nil_of : (x y : List ℕ) → length (x ++ y) ≤ length x → y ≡ []
nil_of x [] l = refl
nil_of x (c ∷ y) l = absurd (omega (arith, l, length-append x (c ∷ y)))

one_cut : (text a b ra rb : List ℕ) → text ≡ a ++ ra → text ≡ b ++ rb → length a ≤ line_limit → length b ≤ line_limit → ((ra ≡ []) ⊎ (length a ≡ line_limit)) → ((rb ≡ []) ⊎ (length b ≡ line_limit)) → a ≡ b
one_cut text a b ra rb ca cb sa sb (inl e) (inl f) = sym (append-nil a) ∙ ap (λ (t : List ℕ). a ++ t) (sym e) ∙ sym ca ∙ cb ∙ ap (λ (t : List ℕ). b ++ t) f ∙ append-nil b
one_cut text a b ra rb ca cb sa sb (inl e) (inr m) =
    let whole : a ≡ b ++ rb = sym (append-nil a) ∙ ap (λ (t : List ℕ). a ++ t) (sym e) ∙ sym ca ∙ cb in
    whole ∙ ap (λ (t : List ℕ). b ++ t) (nil_of b rb (omega (arith, ap length whole, sa, m))) ∙ append-nil b
one_cut text a b ra rb ca cb sa sb (inr l) (inl f) =
    let whole : b ≡ a ++ ra = sym (append-nil b) ∙ ap (λ (t : List ℕ). b ++ t) (sym f) ∙ sym cb ∙ ca in
    sym (whole ∙ ap (λ (t : List ℕ). a ++ t) (nil_of a ra (omega (arith, ap length whole, sb, l))) ∙ append-nil a)
one_cut text a b ra rb ca cb sa sb (inr l) (inr m) = (sized_split a b ra rb (l ∙ sym m) (sym ca ∙ cb)).0

pub one_first_line : (text a b : List ℕ) → BeginsWithLine text a → BeginsWithLine text b → a ≡ b
one_first_line text a b f g = by_ends f.ends g.ends
  where
    by_ends : (IsLine a ⊎ ((Contains a 10 → ⊥) × ((f.rest ≡ []) ⊎ (length a ≡ line_limit)))) → (IsLine b ⊎ ((Contains b 10 → ⊥) × ((g.rest ≡ []) ⊎ (length b ≡ line_limit)))) → a ≡ b
    by_ends (inl x) (inl y) =
        let both = first_split 10 x.front y.front f.rest g.rest x.no_feed y.no_feed (sym (line_cut text a f.rest f.cut x) ∙ line_cut text b g.rest g.cut y) in
        x.text ∙ ap (λ (t : List ℕ). t ++ 10 ∷ []) both.0 ∙ sym y.text
    by_ends (inl x) (inr y) = absurd (no_shorter text a b f.rest g.rest f.cut g.cut x f.short y.0 y.1)
    by_ends (inr x) (inl y) = absurd (no_shorter text b a g.rest f.rest g.cut f.cut y g.short x.0 x.1)
    by_ends (inr x) (inr y) = one_cut text a b f.rest g.rest f.cut g.cut f.short g.short x.1 y.1

abbrev pub past : BatchFault
past = Limit Stream (input_limit + 1)

pub same_limit : (which which' : Which) (n m : ℕ) → which ≡ which' → n ≡ m → Limit which n ≡ Limit which' m
same_limit which which' n m e d = ap (λ (w : Which). Limit w n) e ∙ ap (λ (k : ℕ). Limit which' k) d

-- the ways in which a header breaks
header_is : (at : ℕ) (text : List ℕ) (fault : BatchFault) → HeaderBreaks at text fault → ((fault ≡ BadBatch at) × HasNoHeader at text) ⊎ ((fault ≡ past) × LinePasses at text)
header_is at text (BadBatch place) h = inl (ap BadBatch h.0, h.1)
header_is at text (Limit which number) h = inr (same_limit which Stream number (input_limit + 1) h.0.0 h.0.1, h.1)
header_is at text (WrongName given got) h = absurd h
header_is at text (BadRefs line) h = absurd h
header_is at text (NoObject id) h = absurd h
header_is at text ReadFault h = absurd h
header_is at text Memory h = absurd h

header_one : (at : ℕ) (text : List ℕ) (f g : BatchFault) → HeaderBreaks at text f → HeaderBreaks at text g → f ≡ g
header_one at text f g h k = both (header_is at text f h) (header_is at text g k)
  where
    apart : HasNoHeader at text → LinePasses at text → ⊥
    apart n p = let same = ap length (one_first_line text n.line p.line n.first p.first) in let low = n.within in let high = p.above in absurd (omega (arith, same, low, high))

    both : (((f ≡ BadBatch at) × HasNoHeader at text) ⊎ ((f ≡ past) × LinePasses at text)) → (((g ≡ BadBatch at) × HasNoHeader at text) ⊎ ((g ≡ past) × LinePasses at text)) → f ≡ g
    both (inl a) (inl b) = a.0 ∙ sym b.0
    both (inl a) (inr b) = absurd (apart a.1 b.1)
    both (inr a) (inl b) = absurd (apart b.1 a.1)
    both (inr a) (inr b) = a.0 ∙ sym b.0

-- no header breaks where one begins
header_whole : (at : ℕ) (text : List ℕ) (h : Header) (rest : List ℕ) (f : BatchFault) → BeginsWithHeader at text h rest → HeaderBreaks at text f → ⊥
header_whole at text h rest f b k = by_way (header_is at text f k)
  where
    line : IsLine (header_text h)
    line = record { front = header_line h; no_feed = line_no_feed h b.is; text = refl }

    by_ends : (p : LinePasses at text) → (IsLine p.line ⊎ ((Contains p.line 10 → ⊥) × ((p.first.rest ≡ []) ⊎ (length p.line ≡ line_limit)))) → ⊥
    by_ends p (inl x) =
        let f = p.first in
        let both = first_split 10 x.front (header_line h) f.rest rest x.no_feed (line_no_feed h b.is) (sym (line_cut text p.line f.rest f.cut x) ∙ b.cut ∙ header_then h rest) in
        let same = ap length (x.text ∙ ap (λ (t : List ℕ). t ++ 10 ∷ []) both.0) in
        let low = b.within in let high = p.above in absurd (omega (arith, same, low, high))
    by_ends p (inr x) =
        let f = p.first in
        let low = b.within in let high = p.above in let short = f.short in
        elim (cases_lt (length (header_text h)) (length p.line)) [
          | inl less ↦ x.0 (feed_inside (header_line h) p.line f.rest rest (omega (arith, less, length-append (header_line h) (10 ∷ []))) (sym f.cut ∙ b.cut ∙ header_then h rest))
          | inr more ↦ absurd (omega (arith, more, low, high))
        ]

    by_way : (((f ≡ BadBatch at) × HasNoHeader at text) ⊎ ((f ≡ past) × LinePasses at text)) → ⊥
    by_way (inl n) = let no_header = n.1 in no_header.none h rest b.is b.cut
    by_way (inr p) = by_ends p.1 p.1.first.ends

-- ## Behind a header

body_is : (start at : ℕ) (text : List ℕ) (size : ℕ) (fault : BatchFault) → BodyBreaks start at text size fault → ((fault ≡ BadBatch start) × HasNoBody at text size) ⊎ (((fault ≡ Limit Body size) × (body_limit < size)) ⊎ ((fault ≡ past) × BodyPasses at text size))
body_is start at text size (BadBatch place) h = inl (ap BadBatch h.0, h.1)
body_is start at text size (Limit which number) (inl h) = inr (inl (same_limit which Body number size h.0 h.1, h.2))
body_is start at text size (Limit which number) (inr h) = inr (inr (same_limit which Stream number (input_limit + 1) h.0.0 h.0.1, h.1))
body_is start at text size (WrongName given got) h = absurd h
body_is start at text size (BadRefs line) h = absurd h
body_is start at text size (NoObject id) h = absurd h
body_is start at text size ReadFault h = absurd h
body_is start at text size Memory h = absurd h

body_one : (start at : ℕ) (text : List ℕ) (size : ℕ) (f g : BatchFault) → BodyBreaks start at text size f → BodyBreaks start at text size g → f ≡ g
body_one start at text size f g h k = both (body_is start at text size f h) (body_is start at text size g k)
  where
    both : (((f ≡ BadBatch start) × HasNoBody at text size) ⊎ (((f ≡ Limit Body size) × (body_limit < size)) ⊎ ((f ≡ past) × BodyPasses at text size)))
        → (((g ≡ BadBatch start) × HasNoBody at text size) ⊎ (((g ≡ Limit Body size) × (body_limit < size)) ⊎ ((g ≡ past) × BodyPasses at text size))) → f ≡ g
    both (inl a) (inl b) = a.0 ∙ sym b.0
    both (inl a) (inr (inl b)) = let n = a.1 in let low = n.short in let high = b.1 in absurd (omega (arith, low, high))
    both (inl a) (inr (inr b)) = let n = a.1 in let p = b.1 in let low = n.within in let high = p.above in absurd (omega (arith, low, high))
    both (inr (inl a)) (inl b) = let n = b.1 in let low = n.short in let high = a.1 in absurd (omega (arith, low, high))
    both (inr (inl a)) (inr (inl b)) = a.0 ∙ sym b.0
    both (inr (inl a)) (inr (inr b)) = let p = b.1 in let low = p.short in let high = a.1 in absurd (omega (arith, low, high))
    both (inr (inr a)) (inl b) = let n = b.1 in let p = a.1 in let low = n.within in let high = p.above in absurd (omega (arith, low, high))
    both (inr (inr a)) (inr (inl b)) = let p = a.1 in let low = p.short in let high = b.1 in absurd (omega (arith, low, high))
    both (inr (inr a)) (inr (inr b)) = a.0 ∙ sym b.0

-- no body breaks where one stands
body_whole : (start at : ℕ) (text : List ℕ) (size : ℕ) (body rest : List ℕ) (f : BatchFault) → BeginsWithBody at text size body rest → BodyBreaks start at text size f → ⊥
body_whole start at text size body rest f b h = by_way (body_is start at text size f h)
  where
    by_way : (((f ≡ BadBatch start) × HasNoBody at text size) ⊎ (((f ≡ Limit Body size) × (body_limit < size)) ⊎ ((f ≡ past) × BodyPasses at text size))) → ⊥
    by_way (inl n) = let no_body = n.1 in no_body.none body rest b.length_is b.cut
    by_way (inr (inl l)) = let low = b.short in let high = l.1 in absurd (omega (arith, low, high))
    by_way (inr (inr p)) =
        let passes = p.1 in
        let long = length-take (size + 1) text in
        let whole = ap length b.cut ∙ length-append body (10 ∷ rest) in
        let low = b.within in let high = passes.above in let l = b.length_is in
        absurd (omega (arith, long, whole, low, high, l))

module _ (id : Kind → List ℕ → List ℕ) where
  object_is : (start : ℕ) (h : Header) (body : List ℕ) (fault : BatchFault) → ObjectBreaks id start h body fault → ((fault ≡ BadBatch start) × (IsWellFormed h.kind body → ⊥)) ⊎ ((fault ≡ WrongName h.id (id h.kind body)) × IsWellFormed h.kind body × (h.id ≢ id h.kind body))
  object_is start h body (BadBatch place) o = inl (ap BadBatch o.0, o.1)
  object_is start h body (WrongName given got) o =
      let differ : h.id ≢ id h.kind body = λ e. o.differ (o.given_is ∙ e ∙ sym o.got_is) in
      inr (ap (λ (x : List ℕ). WrongName x got) o.given_is ∙ ap (λ (x : List ℕ). WrongName h.id x) o.got_is, o.good, differ)
  object_is start h body (Limit which number) o = absurd o
  object_is start h body (BadRefs line) o = absurd o
  object_is start h body (NoObject name) o = absurd o
  object_is start h body ReadFault o = absurd o
  object_is start h body Memory o = absurd o

  object_one : (start : ℕ) (h : Header) (body : List ℕ) (f g : BatchFault) → ObjectBreaks id start h body f → ObjectBreaks id start h body g → f ≡ g
  object_one start h body f g o p = both (object_is start h body f o) (object_is start h body g p)
    where
      both : (((f ≡ BadBatch start) × (IsWellFormed h.kind body → ⊥)) ⊎ ((f ≡ WrongName h.id (id h.kind body)) × IsWellFormed h.kind body × (h.id ≢ id h.kind body)))
          → (((g ≡ BadBatch start) × (IsWellFormed h.kind body → ⊥)) ⊎ ((g ≡ WrongName h.id (id h.kind body)) × IsWellFormed h.kind body × (h.id ≢ id h.kind body))) → f ≡ g
      both (inl a) (inl b) = a.0 ∙ sym b.0
      both (inl a) (inr b) = absurd (a.1 b.1)
      both (inr a) (inl b) = absurd (b.1 a.1)
      both (inr a) (inr b) = a.0 ∙ sym b.0

  -- a text begins with one body of a size
  one_body : (at : ℕ) (text : List ℕ) (size : ℕ) (a b x y : List ℕ) → BeginsWithBody at text size a x → BeginsWithBody at text size b y → a ≡ b
  one_body at text size a b x y p q = (sized_split a b (10 ∷ x) (10 ∷ y) (p.length_is ∙ sym q.length_is) (sym p.cut ∙ q.cut)).0

  behind_one : (start : ℕ) (h : Header) (at : ℕ) (text : List ℕ) (f g : BatchFault) → BreaksBehind id start h at text f → BreaksBehind id start h at text g → f ≡ g
  behind_one start h at text f g (inl a) (inl b) = body_one start at text h.size f g a b
  behind_one start h at text f g (inl a) (inr b) = absurd (body_whole start at text h.size b.0 b.1 f b.2 a)
  behind_one start h at text f g (inr a) (inl b) = absurd (body_whole start at text h.size a.0 a.1 g a.2 b)
  behind_one start h at text f g (inr a) (inr b) =
      let same = one_body at text h.size a.0 b.0 a.1 b.1 a.2 b.2 in
      object_one start h a.0 f g a.3 (subst (λ (t : List ℕ). ObjectBreaks id start h t g) (sym same) b.3)

  abbrev Behind : ℕ → BatchFault → Header → List ℕ → Type 0
  Behind at f h rest = BreaksBehind id at h (at + length (header_text h)) rest f

  moved : (at : ℕ) (f : BatchFault) (h k : Header) (x y : List ℕ) → h ≡ k → x ≡ y → Behind at f k y → Behind at f h x
  moved at f h k x y e d b = subst (λ (z : List ℕ). Behind at f h z) (sym d) (subst (λ (j : Header). Behind at f j y) (sym e) b)

  here_one : (at : ℕ) (text : List ℕ) (f g : BatchFault) → BreaksHere id at text f → BreaksHere id at text g → f ≡ g
  here_one at text f g (inl a) (inl b) = header_one at text f g a b
  here_one at text f g (inl a) (inr b) = absurd (header_whole at text b.0 b.1 f b.2 a)
  here_one at text f g (inr a) (inl b) = absurd (header_whole at text a.0 a.1 g a.2 b)
  here_one at text f g (inr a) (inr b) =
      let h = a.2 in
      let k = b.2 in
      let same = one_header a.0 b.0 a.1 b.1 h.is k.is (sym h.cut ∙ k.cut) in
      behind_one at a.0 (at + length (header_text a.0)) a.1 f g a.3 (moved at g a.0 b.0 a.1 b.1 same.0 same.1 b.3)

  -- ## Whole objects

  pub one_given : (g k : Given) (x y : List ℕ) → IsGiven id g → IsGiven id k → given_text g ++ x ≡ given_text k ++ y → (g ≡ k) × (x ≡ y)
  one_given g k x y is js e =
      let heads = one_header (header_of g) (header_of k) (g.made.body ++ 10 ∷ x) (k.made.body ++ 10 ∷ y) is.header js.header (sym (given_then g x) ∙ e ∙ given_then k y) in
      let head = heads.0 in
      let bodies = sized_split g.made.body k.made.body (10 ∷ x) (10 ∷ y) (ap (λ (h : Header). h.size) head) heads.1 in
      (same_given g k (ap (λ (h : Header). h.id) head) (ap (λ (h : Header). h.kind) head) bodies.0, same_feed x y bodies.1)

  -- one more object within the limit
  abbrev MayFollow : List Given → Given → Type 0
  MayFollow before g = IsGiven id g × (length (batch_text (before ++ g ∷ [])) ≤ input_limit)

  followed : (before : List Given) (g : Given) (more : List Given) → AreGiven id (before ++ g ∷ more) → MayFollow before g
  followed before g more h =
      let whole : batch_text (before ++ g ∷ more) ≡ batch_text (before ++ g ∷ []) ++ batch_text more = ap batch_text (sym (append_assoc before (g ∷ []) more)) ∙ flat_map-append given_text (before ++ g ∷ []) more in
      let low = h.within in
      (all-at (IsGiven id) before g more h.each, omega (arith, low, ap length whole, length-append (batch_text (before ++ g ∷ [])) (batch_text more)))

  -- nothing breaks where a good object stands
  good_here : (at : ℕ) (text : List ℕ) (g : Given) (more : List ℕ) (f : BatchFault) → IsGiven id g → text ≡ given_text g ++ more → at + length (given_text g) ≤ input_limit → BreaksHere id at text f → ⊥
  good_here at text g more f is cut low breaks = by_way breaks
    where
      long : length (given_text g) ≡ length (header_text (header_of g)) + (length g.made.body + 1)
      long = length-append (header_text (header_of g)) (g.made.body ++ 10 ∷ []) ∙ ap (λ (n : ℕ). length (header_text (header_of g)) + n) (length-append g.made.body (10 ∷ []))

      begins : BeginsWithHeader at text (header_of g) (g.made.body ++ 10 ∷ more)
      begins = record { is = is.header; cut = cut ∙ given_then g more; within = omega (arith, long, low) }

      holds : BeginsWithBody (at + length (header_text (header_of g))) (g.made.body ++ 10 ∷ more) (length g.made.body) g.made.body more
      holds = record { short = is.short; length_is = refl; cut = refl; within = omega (arith, long, low) }

      not_bad : (((f ≡ BadBatch at) × (IsWellFormed g.made.kind g.made.body → ⊥)) ⊎ ((f ≡ WrongName g.id (id g.made.kind g.made.body)) × IsWellFormed g.made.kind g.made.body × (g.id ≢ id g.made.kind g.made.body))) → ⊥
      not_bad (inl a) = a.1 is.good
      not_bad (inr a) = a.2 is.named

      behind : Behind at f (header_of g) (g.made.body ++ 10 ∷ more) → ⊥
      behind (inl b) = body_whole at (at + length (header_text (header_of g))) (g.made.body ++ 10 ∷ more) (length g.made.body) g.made.body more f holds b
      behind (inr b) =
          let same = one_body (at + length (header_text (header_of g))) (g.made.body ++ 10 ∷ more) (length g.made.body) g.made.body b.0 more b.1 holds b.2 in
          not_bad (object_is at (header_of g) g.made.body f (subst (λ (t : List ℕ). ObjectBreaks id at (header_of g) t f) (sym same) b.3))

      by_way : BreaksHere id at text f → ⊥
      by_way (inl b) = header_whole at text (header_of g) (g.made.body ++ 10 ∷ more) f begins b
      by_way (inr b) =
          let k = b.2 in
          let same = one_header (header_of g) b.0 (g.made.body ++ 10 ∷ more) b.1 is.header k.is (sym (cut ∙ given_then g more) ∙ k.cut) in
          behind (moved at f (header_of g) b.0 (g.made.body ++ 10 ∷ more) b.1 same.0 same.1 b.3)

  -- no good object follows those before a fault
  none_follows : (text : List ℕ) (given : List Given) (at : ℕ) (rest : List ℕ) (f : BatchFault) → Reaches id text given at rest → BreaksHere id at rest f → (g : Given) (more : List ℕ) → rest ≡ given_text g ++ more → MayFollow given g → ⊥
  none_follows text given at rest f r breaks g more cut may =
      let pushed : length (batch_text (given ++ g ∷ [])) ≡ length (batch_text given) + length (given_text g) = ap length (flat_map-append given_text given (g ∷ []) ∙ ap (λ (t : List ℕ). batch_text given ++ t) (append-nil (given_text g))) ∙ length-append (batch_text given) (given_text g) in
      let here = r.here in
      let low = may.1 in
      good_here at rest g more f may.0 cut (omega (arith, pushed, here, low)) breaks

  pub one_meaning : (text : List ℕ) (a b : List Made) → MeansObjects id text a → MeansObjects id text b → a ≡ b
  one_meaning text a b m n =
      let same = one_items given_text (IsGiven id) one_given given_not_nil m.given n.given m.are.each n.are.each (sym m.spelled ∙ n.spelled) in
      keeps_one [] (map (λ (g : Given). g.made) m.given) a b m.kept (subst (λ (gs : List Given). KeepsFirst [] (map (λ (g : Given). g.made) gs) b) (sym same) n.kept)

  pub one_fault : (text : List ℕ) (f g : BatchFault) → BreaksBatch id text f → BreaksBatch id text g → f ≡ g
  one_fault text f g a b =
      let r = a.reaches in
      let s = b.reaches in
      let same = same_front given_text (IsGiven id) one_given (AreGiven id) MayFollow followed (λ before x may. may.0) [] a.given b.given a.rest b.rest r.are s.are (sym r.cut ∙ s.cut) (none_follows text a.given a.at a.rest f r a.breaks) (none_follows text b.given b.at b.rest g s b.breaks) in
      let at : b.at ≡ a.at = s.here ∙ ap (λ (gs : List Given). length (batch_text gs)) (sym same.0) ∙ sym r.here in
      here_one a.at a.rest f g a.breaks (subst (λ (n : ℕ). BreaksHere id n a.rest g) at (subst (λ (t : List ℕ). BreaksHere id b.at t g) (sym same.1) b.breaks))

  -- nothing breaks where the text ends
  nothing_here : (at : ℕ) (f : BatchFault) → at ≤ input_limit → BreaksHere id at [] f → ⊥
  nothing_here at f low (inl b) = by_way (header_is at [] f b)
    where
      by_way : (((f ≡ BadBatch at) × HasNoHeader at []) ⊎ ((f ≡ past) × LinePasses at [])) → ⊥
      by_way (inl n) = let no_header = n.1 in no_header.some refl
      by_way (inr p) =
          let passes = p.1 in
          let first = passes.first in
          let high = passes.above in
          absurd (omega (arith, low, high, ap length first.cut, length-append passes.line first.rest))
  nothing_here at f low (inr b) = let k = b.2 in not_nil (header_line b.0) b.1 10 (sym (header_then b.0 b.1) ∙ sym k.cut)

  pub never_both : (text : List ℕ) (objects : List Made) (f : BatchFault) → MeansObjects id text objects → BreaksBatch id text f → ⊥
  never_both text objects f m b =
      let s = b.reaches in
      let same = same_front given_text (IsGiven id) one_given (AreGiven id) MayFollow followed (λ before x may. may.0) [] m.given b.given [] b.rest m.are s.are (append-nil (batch_text m.given) ∙ sym m.spelled ∙ s.cut) (λ g more e may. given_not_nil g more (sym e)) (none_follows text b.given b.at b.rest f s b.breaks) in
      let low = s.are.within in
      nothing_here b.at f (omega (arith, low, s.here)) (subst (λ (t : List ℕ). BreaksHere id b.at t f) (sym same.1) b.breaks)
