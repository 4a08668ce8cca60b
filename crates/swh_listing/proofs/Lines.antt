-- The next line of a listing, and where it breaks.
use Rattle.std.proofs.Common.{◌≡◌, ◌≢◌, ℕ, zero, suc, ◌+◌, ◌-◌, ◌<◌, ◌≤◌, Bool, true, false, nat_lt, if◌then◌else◌, inl, inr, List, [], ◌∷◌, ◌++◌, length, get_or, take, drop, Contains, refl, sym, ap, ◌∙◌, subst, arith, append_assoc, length-append, drop-cons}
use Rattle.std.proofs.lemmas.List.{length-take, take-append-drop}
use Rattle.std.proofs.lemmas.Bool.{ltb-true, ltb-false}
use Rattle.swh_base.specs.Limits.{line_limit}
use Rattle.swh_fastlex.specs.Line.{Held, unread, Takes, IsLine, IsCutLine, IsLongLine}
use Rattle.swh_fastlex.specs.declared.fault.LineFault.{LineFault}
use Rattle.swh_fastlex.specs.declared.fault.LineFault.TheVariants.{Failed, End, Limit as Long, Memory as NoRoom}
use Rattle.swh_listing.specs.declared.limits.TheConstants.{LISTING_LIMIT}
use Rattle.swh_listing.specs.Listing.{HasLine, behind}
use Rattle.swh_base.specs.declared.visit.Which.TheVariants.{Body, Objects, Bytes, Store, Ledger, Stream, Line, Path, Ref, Refs}
use Rattle.swh_base.proofs.Elementary.{append_nil}
use Rattle.swh_listing.specs.declared.fault.ListingFault.{ListingFault}
use Rattle.swh_listing.specs.declared.fault.ListingFault.TheVariants.{BadModes, Limit, ReadFault, Memory}
use Rattle.swh_listing.specs.Fault.{GoesOn, PassesListing, NextBreaks}
use Rattle.swh_listing.specs.declared.listed.Listed.{Listed}
use Rattle.swh_listing.specs.Reading.{SaysWithin, ExplainsLine, TakesListed, too_long, told}

in_joined : (a b : List ℕ) (x : ℕ) → Contains a x → Contains (a ++ b) x
in_joined [] b x h = let l = h.1 in absurd (omega (arith, l))
in_joined (c ∷ a) b x (zero, l, e) = (0, omega arith, e)
in_joined (c ∷ a) b x (suc k, l, e) = let h = in_joined a b x (k, omega arith, e) in let m = h.1 in (suc h.0, omega (arith, m), h.2)

-- A text that begins with bytes of one line goes on after each front of them, where it is longer than that.
pub goes_on : (text front rest : List ℕ) (k : ℕ) → text ≡ front ++ rest → (Contains front 10 → ⊥) → k ≤ length front → k < length text → (before : List ℕ) × GoesOn text before × (length before ≡ k)
goes_on text front rest k cut none le lt =
    let size = ap length cut ∙ length-append front rest in
    let front_cut = take-append-drop k front in
    let joined : take k front ++ (drop k front ++ rest) ≡ text = sym (append_assoc (take k front) (drop k front) rest) ∙ ap (λ (t : List ℕ). t ++ rest) front_cut ∙ sym cut in
    let short : length (take k front) ≡ k = omega (arith, length-take k front) in
    let more = drop k front ++ rest in
    let long : 0 < length more = omega (arith, ap length joined, length-append (take k front) more, short) in
    let head = drop-cons more 0 0 long in
    (take k front, record { byte = get_or more 0 0; rest = drop 1 more; cut = sym joined ∙ ap (λ (t : List ℕ). take k front ++ t) head; one_line = λ h. none (subst (λ (t : List ℕ). Contains t 10) front_cut (in_joined (take k front) (drop k front) 10 h)) }, short)

pub passes_listing : (at : ℕ) (text front rest : List ℕ) → text ≡ front ++ rest → (Contains front 10 → ⊥) → at ≤ LISTING_LIMIT → LISTING_LIMIT ≤ at + length front → LISTING_LIMIT < at + length text → length front ≤ line_limit → PassesListing at text
passes_listing at text front rest cut none start full over short =
    let g = goes_on text front rest (LISTING_LIMIT - at) cut none (omega arith) (omega arith) in
    let size = g.2 in
    record { before = g.0; goes = g.1; full = omega (arith, size); short = omega (arith, size) }

-- a line without its LF is what stands before that
front_same : (line : List ℕ) → (l : IsLine line) → take (length line - 1) line ≡ l.front
front_same line l =
    let size = ap length l.text ∙ length-append l.front (10 ∷ []) in
    let count : length line - 1 ≡ length l.front = omega (arith, size) in
    ap (λ (n : ℕ). take n line) count ∙ ap (take (length l.front)) l.text ∙ taken l.front (10 ∷ [])
  where
    taken : (a b : List ℕ) → take (length a) (a ++ b) ≡ a
    taken [] b = refl
    taken (c ∷ a) b = ap (λ (t : List ℕ). c ∷ t) (taken a b)

line_front : (line : List ℕ) → IsLine line → line ≡ take (length line - 1) line ++ 10 ∷ []
line_front line l = l.text ∙ ap (λ (t : List ℕ). t ++ 10 ∷ []) (sym (front_same line l))

some_length : (xs : List ℕ) → xs ≢ [] → 0 < length xs
some_length [] h = absurd (h refl)
some_length (x ∷ xs) h = omega arith

module _ (before now : Held) (left left_now : List ℕ) (count : ℕ) (start : before.place ≤ LISTING_LIMIT) where
  abbrev text : List ℕ
  text = unread before left

  -- what is told where the input ends inside a line
  cut_told : (b : Bool) → nat_lt LISTING_LIMIT now.place ≡ b → IsCutLine line_limit before now left left_now → NextBreaks before.place text count (if b then too_long else BadModes count)
  cut_told true e h =
      let over = ltb-true LISTING_LIMIT now.place e in
      let counted = h.counted in
      let short = h.short in
      (refl, passes_listing before.place text text [] (sym (append_nil text)) h.no_feed start (omega (arith, over, counted)) (omega (arith, over, counted)) short)
  cut_told false e h =
      let under = ltb-false LISTING_LIMIT now.place e in
      let counted = h.counted in
      (refl, inr (record { some = h.some; no_feed = h.no_feed; short = h.short; within = omega (arith, under, counted) }))

  -- what is told where a line has more bytes than a line may have
  long_told : (b : Bool) → nat_lt now.place LISTING_LIMIT ≡ b → IsLongLine line_limit before now left left_now → NextBreaks before.place text count (if b then Limit Line (line_limit + 1) else too_long)
  long_told b e h =
      let counted = h.taken.counted in
      let long = h.long in
      let size = ap length h.taken.cut ∙ length-append h.front (unread now left_now) in
      let some : 0 < length (unread now left_now) = some_length (unread now left_now) h.more in
      long_by b e counted long size some
    where
      long_by : (b : Bool) → nat_lt now.place LISTING_LIMIT ≡ b → now.place ≡ before.place + length h.front → length h.front ≡ line_limit → length text ≡ length h.front + length (unread now left_now) → 0 < length (unread now left_now) → NextBreaks before.place text count (if b then Limit Line (line_limit + 1) else too_long)
      long_by true e counted long size some =
          let under = ltb-true now.place LISTING_LIMIT e in
          let g = goes_on text h.front (unread now left_now) (length h.front) h.taken.cut h.no_feed (omega arith) (omega arith) in
          let same = g.2 in
          (refl, record { before = g.0; goes = g.1; full = same ∙ long; within = omega (arith, same, under, counted) })
      long_by false e counted long size some =
          let over = ltb-false now.place LISTING_LIMIT e in
          (refl, passes_listing before.place text h.front (unread now left_now) h.taken.cut h.no_feed start (omega (arith, over, counted)) (omega (arith, over, counted, size, some)) (omega (arith, long)))

  -- why no line is given
  pub fault_told : (fault : LineFault) → (fault ≡ End → IsCutLine line_limit before now left left_now) → (fault ≡ Long → IsLongLine line_limit before now left left_now) → NextBreaks before.place text count (told fault now.place count)
  fault_told Failed cut long = tt
  fault_told End cut long = cut_told (nat_lt LISTING_LIMIT now.place) refl (cut refl)
  fault_told Long cut long = long_told (nat_lt now.place LISTING_LIMIT) refl (long refl)
  fault_told NoRoom cut long = tt

  -- a line that ends above the limit of a listing
  pub over_told : (line : List ℕ) → IsLine line → Takes before now left left_now line → length line ≤ line_limit → LISTING_LIMIT < now.place → NextBreaks before.place text count too_long
  over_told line l taken short over =
      let size = ap length l.text ∙ length-append l.front (10 ∷ []) in
      let counted = taken.counted in
      let cut : text ≡ l.front ++ 10 ∷ unread now left_now = taken.cut ∙ ap (λ (t : List ℕ). t ++ unread now left_now) l.text ∙ append_assoc l.front (10 ∷ []) (unread now left_now) in
      let whole = ap length cut ∙ length-append l.front (10 ∷ unread now left_now) in
      (refl, passes_listing before.place text l.front (10 ∷ unread now left_now) cut l.no_feed start (omega (arith, size, counted, over)) (omega (arith, size, counted, over, whole)) (omega (arith, size, short)))

  -- the line that is taken, without its LF
  pub line_taken : (line : List ℕ) → IsLine line → Takes before now left left_now line → length line ≤ line_limit → now.place ≤ LISTING_LIMIT → HasLine before.place text (take (length line - 1) line) (unread now left_now) × (now.place ≡ behind before.place (take (length line - 1) line))
  line_taken line l taken short under =
      let front = take (length line - 1) line in
      let e = line_front line l in
      let size = ap length e ∙ length-append front (10 ∷ []) in
      let counted = taken.counted in (
        record {
          cut = taken.cut ∙ ap (λ (t : List ℕ). t ++ unread now left_now) e ∙ append_assoc front (10 ∷ []) (unread now left_now);
          one_line = subst (λ (t : List ℕ). Contains t 10 → ⊥) (sym (front_same line l)) l.no_feed;
          short = omega (arith, size, short);
          within = omega (arith, size, counted, under);
        },
        omega (arith, size, counted),
      )

  -- what is taken of a line that says something
  pub listed_taken : (line : List ℕ) (listed : Listed) → IsLine line → Takes before now left left_now line → length line ≤ line_limit → now.place ≤ LISTING_LIMIT → SaysWithin (take (length line - 1) line) listed → TakesListed before now left left_now listed
  listed_taken line listed l taken short under says =
      let t = line_taken line l taken short under in
      record { line = take (length line - 1) line; takes = record { whole = t.0; fits = says.fits }; says = says.says; here = t.1 }

  -- why a line that is there says nothing
  pub line_refused : (line : List ℕ) (fault : ListingFault) → IsLine line → Takes before now left left_now line → length line ≤ line_limit → now.place ≤ LISTING_LIMIT → ExplainsLine (take (length line - 1) line) count fault → NextBreaks before.place text count fault
  line_refused line fault l taken short under h = refused (take (length line - 1) line) (line_taken line l taken short under).0 fault h
    where
      refused : (front : List ℕ) → HasLine before.place text front (unread now left_now) → (fault : ListingFault) → ExplainsLine front count fault → NextBreaks before.place text count fault
      refused front whole (BadModes n) h = (h.0, inl (record { line = front; rest = unread now left_now; takes = record { whole = whole; fits = h.2 }; says_none = h.1 }))
      refused front whole (Limit Body n) h = absurd h
      refused front whole (Limit Objects n) h = absurd h
      refused front whole (Limit Bytes n) h = absurd h
      refused front whole (Limit Store n) h = absurd h
      refused front whole (Limit Ledger n) h = absurd h
      refused front whole (Limit Stream n) h = absurd h
      refused front whole (Limit Line n) h = absurd h
      refused front whole (Limit Path n) h = record { line = front; rest = unread now left_now; whole = whole; passes = h }
      refused front whole (Limit Ref n) h = absurd h
      refused front whole (Limit Refs n) h = absurd h
      refused front whole ReadFault h = tt
      refused front whole Memory h = tt
