-- A text is one listing at most, or has one fault at most, and not both.
use Rattle.std.proofs.Common.{◌≡◌, ◌⊎◌, ℕ, suc, ◌+◌, ◌<◌, inl, inr, List, [], ◌∷◌, ◌++◌, length, length-append, Contains, refl, sym, ap, ◌∙◌, subst, arith}
use Rattle.swh_base.specs.Limits.{line_limit}
use Rattle.swh_base.specs.declared.visit.Which.{Which}
use Rattle.swh_base.specs.declared.visit.Which.TheVariants.{Body, Objects, Bytes, Store, Ledger, Stream, Line, Path, Ref, Refs}
use Rattle.swh_base.proofs.Middle.{in_middle}
use Rattle.swh_base.proofs.Splits.{first_split}
use Rattle.swh_listing.specs.declared.fault.ListingFault.{ListingFault}
use Rattle.swh_listing.specs.declared.fault.ListingFault.TheVariants.{BadModes, Limit, ReadFault, Memory}
use Rattle.swh_listing.specs.declared.limits.TheConstants.{LISTING_LIMIT}
use Rattle.swh_listing.specs.declared.listed.Listed.{Listed}
use Rattle.swh_listing.specs.Line.{SaysListed, PassesPathIn}
use Rattle.swh_listing.specs.Listing.{HasLine, TakesLine, behind, Reads, IsListing}
use Rattle.swh_listing.specs.Fault.{GoesOn, PassesListing, PassesLine, PassesNextPath, IsNoLine, IsCut, NextPasses, NextBreaks, Breaks, IsFault}
use Rattle.swh_listing.proofs.Modes.{one_said, one_passed}

-- a line that a longer front without LF would hold
pub in_longer : (line before x y : List ℕ) → line ++ 10 ∷ x ≡ before ++ y → length line < length before → Contains before 10
in_longer line [] x y e lt = absurd (omega (arith, lt))
in_longer [] (c ∷ before) x y e lt = let here : c ≡ 10 = cc in (0, omega arith, here)
in_longer (d ∷ line) (c ∷ before) x y e lt = let h = in_longer line before x y (cc) (omega (arith, lt)) in let l = h.1 in (suc h.0, omega (arith, l), h.2)

-- the next line is one
pub same_line : (at : ℕ) (text a b x y : List ℕ) → HasLine at text a x → HasLine at text b y → (a ≡ b) × (x ≡ y)
same_line at text a b x y h k = first_split 10 a b x y h.one_line k.one_line (sym h.cut ∙ k.cut)

no_line_of_nil : (line rest : List ℕ) → [] ≡ line ++ 10 ∷ rest → ⊥
no_line_of_nil [] rest e = absurd cc
no_line_of_nil (c ∷ line) rest e = absurd cc

-- a line that is there is not one byte too long
not_longer : (text line rest before : List ℕ) (at : ℕ) → HasLine at text line rest → GoesOn text before → length line < length before → ⊥
not_longer text line rest before at h g lt = g.one_line (in_longer line before rest (g.byte ∷ g.rest) (sym h.cut ∙ g.cut) lt)

-- a line that is whole passes neither limit of lengths
whole_fits : (at : ℕ) (text line rest : List ℕ) → HasLine at text line rest → PassesListing at text → ⊥
whole_fits at text line rest h p = let full = p.full in let within = h.within in not_longer text line rest p.before at h p.goes (omega (arith, full, within))

whole_short : (at : ℕ) (text line rest : List ℕ) → HasLine at text line rest → PassesLine at text → ⊥
whole_short at text line rest h p = let full = p.full in let short = h.short in not_longer text line rest p.before at h p.goes (omega (arith, full, short))

whole_not_cut : (at : ℕ) (text line rest : List ℕ) → HasLine at text line rest → IsCut at text → ⊥
whole_not_cut at text line rest h c = c.no_feed (subst (λ (t : List ℕ). Contains t 10) (sym h.cut) (in_middle line rest 10))

-- a fault that the listing itself has
abbrev pub IsTold : ListingFault → Type 0
IsTold (BadModes line) = Unit {0}
IsTold (Limit which number) = Unit {0}
IsTold ReadFault = ⊥
IsTold Memory = ⊥

passes_not : (at : ℕ) (text line rest : List ℕ) (which : Which) (number : ℕ) → TakesLine at text line rest → NextPasses at text which number → ⊥
passes_not at text line rest Body number t h = h
passes_not at text line rest Objects number t h = h
passes_not at text line rest Bytes number t h = h
passes_not at text line rest Store number t h = h
passes_not at text line rest Ledger number t h = h
passes_not at text line rest Stream number t h = whole_fits at text line rest t.whole h.1
passes_not at text line rest Line number t h = whole_short at text line rest t.whole h.1
passes_not at text line rest Path number t h = t.fits number (subst (λ (l : List ℕ). PassesPathIn l number) (same_line at text h.line line h.rest rest h.whole t.whole).0 h.passes)
passes_not at text line rest Ref number t h = h
passes_not at text line rest Refs number t h = h

-- a line that is taken is no fault
taken_not : (at : ℕ) (text line rest : List ℕ) (listed : Listed) (count : ℕ) (fault : ListingFault) → TakesLine at text line rest → SaysListed line listed → IsTold fault → NextBreaks at text count fault → ⊥
taken_not at text line rest listed count (BadModes n) t says is (e, inl bad) = bad.says_none listed (subst (λ (l : List ℕ). SaysListed l listed) (same_line at text line bad.line rest bad.rest t.whole bad.takes.whole).0 says)
taken_not at text line rest listed count (BadModes n) t says is (e, inr cut) = whole_not_cut at text line rest t.whole cut
taken_not at text line rest listed count (Limit which number) t says is h = passes_not at text line rest which number t h
taken_not at text line rest listed count ReadFault t says is h = is
taken_not at text line rest listed count Memory t says is h = is

longer : (text before : List ℕ) → (g : GoesOn text before) → length before < length text
longer text before g = omega (arith, ap length g.cut, length-append before (g.byte ∷ g.rest))

cut_not : (at : ℕ) (text : List ℕ) (which : Which) (number : ℕ) → IsCut at text → NextPasses at text which number → ⊥
cut_not at text Body number c p = p
cut_not at text Objects number c p = p
cut_not at text Bytes number c p = p
cut_not at text Store number c p = p
cut_not at text Ledger number c p = p
cut_not at text Stream number c (e, p) = let full = p.full in let within = c.within in omega (arith, full, within, longer text p.before p.goes)
cut_not at text Line number c (e, p) = let full = p.full in let short = c.short in omega (arith, full, short, longer text p.before p.goes)
cut_not at text Path number c p = whole_not_cut at text p.line p.rest p.whole c
cut_not at text Ref number c p = p
cut_not at text Refs number c p = p

bad_not : (at : ℕ) (text : List ℕ) (which : Which) (number : ℕ) → (IsNoLine at text) ⊎ (IsCut at text) → NextPasses at text which number → ⊥
bad_not at text which number (inl bad) h = passes_not at text bad.line bad.rest which number bad.takes h
bad_not at text which number (inr cut) h = cut_not at text which number cut h

-- no two limits are the first
listing_or_line : (at : ℕ) (text : List ℕ) → PassesListing at text → PassesLine at text → ⊥
listing_or_line at text p q = let full = p.full in let short = p.short in let long = q.full in let within = q.within in omega (arith, full, short, long, within)

of_listing : (at : ℕ) (text : List ℕ) (which : Which) (m n : ℕ) → m ≡ LISTING_LIMIT + 1 → PassesListing at text → NextPasses at text which n → Limit Stream m ≡ Limit which n
of_listing at text Body m n e p h = absurd h
of_listing at text Objects m n e p h = absurd h
of_listing at text Bytes m n e p h = absurd h
of_listing at text Store m n e p h = absurd h
of_listing at text Ledger m n e p h = absurd h
of_listing at text Stream m n e p h = ap (Limit Stream) (e ∙ sym h.0)
of_listing at text Line m n e p h = absurd (listing_or_line at text p h.1)
of_listing at text Path m n e p h = absurd (whole_fits at text h.line h.rest h.whole p)
of_listing at text Ref m n e p h = absurd h
of_listing at text Refs m n e p h = absurd h

of_line : (at : ℕ) (text : List ℕ) (which : Which) (m n : ℕ) → m ≡ line_limit + 1 → PassesLine at text → NextPasses at text which n → Limit Line m ≡ Limit which n
of_line at text Body m n e p h = absurd h
of_line at text Objects m n e p h = absurd h
of_line at text Bytes m n e p h = absurd h
of_line at text Store m n e p h = absurd h
of_line at text Ledger m n e p h = absurd h
of_line at text Stream m n e p h = absurd (listing_or_line at text h.1 p)
of_line at text Line m n e p h = ap (Limit Line) (e ∙ sym h.0)
of_line at text Path m n e p h = absurd (whole_short at text h.line h.rest h.whole p)
of_line at text Ref m n e p h = absurd h
of_line at text Refs m n e p h = absurd h

of_path : (at : ℕ) (text : List ℕ) (which : Which) (m n : ℕ) → PassesNextPath at text m → NextPasses at text which n → Limit Path m ≡ Limit which n
of_path at text Body m n p h = absurd h
of_path at text Objects m n p h = absurd h
of_path at text Bytes m n p h = absurd h
of_path at text Store m n p h = absurd h
of_path at text Ledger m n p h = absurd h
of_path at text Stream m n p h = absurd (whole_fits at text p.line p.rest p.whole h.1)
of_path at text Line m n p h = absurd (whole_short at text p.line p.rest p.whole h.1)
of_path at text Path m n p h = ap (Limit Path) (one_passed h.line m n (subst (λ (l : List ℕ). PassesPathIn l m) (same_line at text p.line h.line p.rest h.rest p.whole h.whole).0 p.passes) h.passes)
of_path at text Ref m n p h = absurd h
of_path at text Refs m n p h = absurd h

one_limit : (at : ℕ) (text : List ℕ) (which other : Which) (m n : ℕ) → NextPasses at text which m → NextPasses at text other n → Limit which m ≡ Limit other n
one_limit at text Body other m n h k = absurd h
one_limit at text Objects other m n h k = absurd h
one_limit at text Bytes other m n h k = absurd h
one_limit at text Store other m n h k = absurd h
one_limit at text Ledger other m n h k = absurd h
one_limit at text Stream other m n h k = of_listing at text other m n h.0 h.1 k
one_limit at text Line other m n h k = of_line at text other m n h.0 h.1 k
one_limit at text Path other m n h k = of_path at text other m n h k
one_limit at text Ref other m n h k = absurd h
one_limit at text Refs other m n h k = absurd h

-- the next line breaks in one way at most
one_next : (at : ℕ) (text : List ℕ) (count : ℕ) (a b : ListingFault) → IsTold a → IsTold b → NextBreaks at text count a → NextBreaks at text count b → a ≡ b
one_next at text count (BadModes m) (BadModes n) x y h k = ap BadModes (h.0 ∙ sym k.0)
one_next at text count (BadModes m) (Limit which n) x y h k = absurd (bad_not at text which n h.1 k)
one_next at text count (BadModes m) ReadFault x y h k = absurd y
one_next at text count (BadModes m) Memory x y h k = absurd y
one_next at text count (Limit which m) (BadModes n) x y h k = absurd (bad_not at text which m k.1 h)
one_next at text count (Limit which m) (Limit other n) x y h k = one_limit at text which other m n h k
one_next at text count (Limit which m) ReadFault x y h k = absurd y
one_next at text count (Limit which m) Memory x y h k = absurd y
one_next at text count ReadFault b x y h k = absurd x
one_next at text count Memory b x y h k = absurd x

-- the text at its end does not break
nil_not : (at : ℕ) (which : Which) (number : ℕ) → NextPasses at [] which number → ⊥
nil_not at Body number h = h
nil_not at Objects number h = h
nil_not at Bytes number h = h
nil_not at Store number h = h
nil_not at Ledger number h = h
nil_not at Stream number h = let l = longer [] h.1.before h.1.goes in omega (arith, l)
nil_not at Line number h = let l = longer [] h.1.before h.1.goes in omega (arith, l)
nil_not at Path number h = no_line_of_nil h.line h.rest h.whole.cut
nil_not at Ref number h = h
nil_not at Refs number h = h

end_not : (at : ℕ) (count : ℕ) (fault : ListingFault) → IsTold fault → NextBreaks at [] count fault → ⊥
end_not at count (BadModes n) is (e, inl bad) = no_line_of_nil bad.line bad.rest bad.takes.whole.cut
end_not at count (BadModes n) is (e, inr cut) = cut.some refl
end_not at count (Limit which number) is h = nil_not at which number h
end_not at count ReadFault is h = is
end_not at count Memory is h = is

-- a fault of the next line, wherever it is said to stand
moved : (at here : ℕ) (text rest : List ℕ) (count more : ℕ) (fault : ListingFault) → at ≡ here → text ≡ rest → more ≡ count → NextBreaks here rest more fault → NextBreaks at text count fault
moved at here text rest count more fault e f g h =
    let P : ℕ → Type 0 = λ n. NextBreaks n text count fault in
    let Q : List ℕ → Type 0 = λ t. NextBreaks here t count fault in
    let R : ℕ → Type 0 = λ n. NextBreaks here rest n fault in
    subst P (sym e) (subst Q (sym f) (subst R g h))

-- the lines after one that both begin with
after : (at : ℕ) (text a b x y : List ℕ) (lines : List Listed) (here : ℕ) (rest : List ℕ) → TakesLine at text a x → TakesLine at text b y → Reads (behind at b) y lines here rest → Reads (behind at a) x lines here rest
after at text a b x y lines here rest s t r =
    let same = same_line at text a b x y s.whole t.whole in
    let P : List ℕ → Type 0 = λ l. Reads (behind at l) x lines here rest in
    let Q : List ℕ → Type 0 = λ u. Reads (behind at b) u lines here rest in
    subst P (sym same.0) (subst Q (sym same.1) r)

-- what both begin with says one thing
same_said : (at : ℕ) (text a b x y : List ℕ) (l m : Listed) → TakesLine at text a x → TakesLine at text b y → SaysListed a l → SaysListed b m → l ≡ m
same_said at text a b x y l m s t p q = one_said b l m (subst (λ (u : List ℕ). SaysListed u l) (same_line at text a b x y s.whole t.whole).0 p) q

one_reading : (at : ℕ) (text : List ℕ) (a b : List Listed) (h k : ℕ) → Reads at text a h [] → Reads at text b k [] → a ≡ b
one_reading at text [] [] h k p q = refl
one_reading at text [] (m ∷ b) h k p q = absurd (no_line_of_nil q.0 q.1 (sym p.1 ∙ q.2.whole.cut))
one_reading at text (l ∷ a) [] h k p q = absurd (no_line_of_nil p.0 p.1 (sym q.1 ∙ p.2.whole.cut))
one_reading at text (l ∷ a) (m ∷ b) h k p q =
    let first = same_said at text p.0 q.0 p.1 q.1 l m p.2 q.2 p.3 q.3 in
    let rest = one_reading (behind at p.0) p.1 a b h k p.4 (after at text p.0 q.0 p.1 q.1 b k [] p.2 q.2 q.4) in
    cc

no_break : (at : ℕ) (text : List ℕ) (a b : List Listed) (h k : ℕ) (rest : List ℕ) (count : ℕ) (fault : ListingFault) → IsTold fault → Reads at text a h [] → Reads at text b k rest → NextBreaks k rest count fault → ⊥
no_break at text [] [] h k rest count fault is p q breaks = end_not at count fault is (moved at k [] rest count count fault q.0 (sym p.1 ∙ q.1) refl breaks)
no_break at text [] (m ∷ b) h k rest count fault is p q breaks = no_line_of_nil q.0 q.1 (sym p.1 ∙ q.2.whole.cut)
no_break at text (l ∷ a) [] h k rest count fault is p q breaks = taken_not at text p.0 p.1 l count fault p.2 p.3 is (moved at k text rest count count fault q.0 q.1 refl breaks)
no_break at text (l ∷ a) (m ∷ b) h k rest count fault is p q breaks = no_break (behind at p.0) p.1 a b h k rest count fault is p.4 (after at text p.0 q.0 p.1 q.1 b k rest p.2 q.2 q.4) breaks

one_break : (at : ℕ) (text : List ℕ) (a b : List Listed) (h k : ℕ) (x y : List ℕ) (c : ℕ) (f g : ListingFault) → IsTold f → IsTold g → Reads at text a h x → Reads at text b k y → NextBreaks h x (c + length a) f → NextBreaks k y (c + length b) g → f ≡ g
one_break at text [] [] h k x y c f g s t p q u v = one_next at text c f g s t (moved at h text x c (c + 0) f p.0 p.1 (omega arith) u) (moved at k text y c (c + 0) g q.0 q.1 (omega arith) v)
one_break at text [] (m ∷ b) h k x y c f g s t p q u v = absurd (taken_not at text q.0 q.1 m c f q.2 q.3 s (moved at h text x c (c + 0) f p.0 p.1 (omega arith) u))
one_break at text (l ∷ a) [] h k x y c f g s t p q u v = absurd (taken_not at text p.0 p.1 l c g p.2 p.3 t (moved at k text y c (c + 0) g q.0 q.1 (omega arith) v))
one_break at text (l ∷ a) (m ∷ b) h k x y c f g s t p q u v =
    one_break (behind at p.0) p.1 a b h k x y (c + 1) f g s t p.4 (after at text p.0 q.0 p.1 q.1 b k y p.2 q.2 q.4) (moved h h x x (c + 1 + length a) (c + length (l ∷ a)) f refl refl (omega arith) u) (moved k k y y (c + 1 + length b) (c + length (m ∷ b)) g refl refl (omega arith) v)

-- a fault as the first line that breaks
as_break : (text : List ℕ) (fault : ListingFault) → IsFault text fault → Breaks text fault × IsTold fault
as_break text (BadModes line) h = (h, tt)
as_break text (Limit which number) h = (h, tt)
as_break text ReadFault h = absurd h
as_break text Memory h = absurd h

pub one_listing : (text : List ℕ) (a b : List Listed) → IsListing text a → IsListing text b → a ≡ b
one_listing text a b h k = one_reading 0 text a b h.0 k.0 h.1 k.1

pub no_fault : (text : List ℕ) (lines : List Listed) (fault : ListingFault) → IsListing text lines → IsFault text fault → ⊥
no_fault text lines fault h k =
    let b = as_break text fault k in
    no_break 0 text lines b.0.lines h.0 b.0.here b.0.rest (length b.0.lines + 1) fault b.1 h.1 b.0.reads b.0.breaks

pub one_fault : (text : List ℕ) (a b : ListingFault) → IsFault text a → IsFault text b → a ≡ b
one_fault text a b h k =
    let x = as_break text a h in
    let y = as_break text b k in
    let u = moved x.0.here x.0.here x.0.rest x.0.rest (1 + length x.0.lines) (length x.0.lines + 1) a refl refl (omega arith) x.0.breaks in
    let v = moved y.0.here y.0.here y.0.rest y.0.rest (1 + length y.0.lines) (length y.0.lines + 1) b refl refl (omega arith) y.0.breaks in
    one_break 0 text x.0.lines y.0.lines x.0.here y.0.here x.0.rest y.0.rest 1 a b x.1 y.1 x.0.reads y.0.reads u v
