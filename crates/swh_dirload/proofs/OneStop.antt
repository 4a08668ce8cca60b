-- The lines of a listing over a folder break in one way at most.
use Rattle.std.proofs.Common.{◌≡◌, ◌⊎◌, inl, inr, ℕ, ◌+◌, ◌<◌, List, [], ◌∷◌, ◌++◌, length, Contains, refl, sym, ap, ◌∙◌, subst, arith}
use Rattle.std.proofs.lemmas.List.{append-nil}
use Rattle.swh_base.specs.declared.visit.Which.{Which}
use Rattle.swh_base.specs.declared.visit.Which.TheVariants.{Body, Objects, Bytes, Store, Ledger, Stream, Line, Path, Ref, Refs}
use Rattle.swh_base.proofs.Middle.{in_middle}
use Rattle.swh_dirmade.specs.Spots.{Places}
use Rattle.swh_listing.specs.declared.fault.ListingFault.{ListingFault}
use Rattle.swh_listing.specs.declared.fault.ListingFault.TheVariants.{BadModes, Limit, ReadFault, Memory}
use Rattle.swh_listing.specs.declared.listed.Listed.{Listed}
use Rattle.swh_listing.specs.Line.{SaysListed, PassesPathIn}
use Rattle.swh_listing.specs.Listing.{HasLine, TakesLine, behind, Reads, IsListing}
use Rattle.swh_listing.specs.Fault.{GoesOn, NextPasses, NextBreaks, IsFault}
use Rattle.swh_listing.proofs.Faults.{no_fault, one_fault, in_longer, same_line}
use Rattle.swh_listing.proofs.Modes.{one_said}
use Rattle.swh_dirload.specs.Places.{MayTake, TakesAll}
use Rattle.swh_dirload.proofs.OneTaking.{AreSame, may_come}

-- ## A line that is read breaks nothing

no_longer : (text line rest before : List ℕ) (at : ℕ) → HasLine at text line rest → GoesOn text before → length line < length before → ⊥
no_longer text line rest before at h g lt = g.one_line (in_longer line before rest (g.byte ∷ g.rest) (sym h.cut ∙ g.cut) lt)

passes_none : (at : ℕ) (text line rest : List ℕ) (which : Which) (number : ℕ) → TakesLine at text line rest → NextPasses at text which number → ⊥
passes_none at text line rest Body number t h = h
passes_none at text line rest Objects number t h = h
passes_none at text line rest Bytes number t h = h
passes_none at text line rest Store number t h = h
passes_none at text line rest Ledger number t h = h
passes_none at text line rest Stream number t h = let full = h.1.full in let within = t.whole.within in no_longer text line rest h.1.before at t.whole h.1.goes (omega (arith, full, within))
passes_none at text line rest Line number t h = let full = h.1.full in let short = t.whole.short in no_longer text line rest h.1.before at t.whole h.1.goes (omega (arith, full, short))
passes_none at text line rest Path number t h = t.fits number (subst (λ (l : List ℕ). PassesPathIn l number) (same_line at text h.line line h.rest rest h.whole t.whole).0 h.passes)
passes_none at text line rest Ref number t h = h
passes_none at text line rest Refs number t h = h

-- a fault that a listing itself has
abbrev pub IsOwn : ListingFault → Type 0
IsOwn (BadModes line) = Unit {0}
IsOwn (Limit which number) = Unit {0}
IsOwn ReadFault = ⊥
IsOwn Memory = ⊥

breaks_none : (at : ℕ) (text line rest : List ℕ) (listed : Listed) (count : ℕ) (fault : ListingFault) → TakesLine at text line rest → SaysListed line listed → IsOwn fault → NextBreaks at text count fault → ⊥
breaks_none at text line rest listed count (BadModes n) t says is (e, inl bad) = bad.says_none listed (subst (λ (l : List ℕ). SaysListed l listed) (same_line at text line bad.line rest bad.rest t.whole bad.takes.whole).0 says)
breaks_none at text line rest listed count (BadModes n) t says is (e, inr cut) = cut.no_feed (subst (λ (x : List ℕ). Contains x 10) (sym t.whole.cut) (in_middle line rest 10))
breaks_none at text line rest listed count (Limit which number) t says is h = passes_none at text line rest which number t h
breaks_none at text line rest listed count ReadFault t says is h = is
breaks_none at text line rest listed count Memory t says is h = is

-- ## Of two readings one goes on where the other ends

abbrev GoesFurther : List Listed → ℕ → List ℕ → List Listed → ℕ → List ℕ → Type 0
GoesFurther a h x b k y = (more : List Listed) × (b ≡ a ++ more) × Reads h x more k y

same_next : (at : ℕ) (text a b x y : List ℕ) (l m : Listed) → TakesLine at text a x → TakesLine at text b y → SaysListed a l → SaysListed b m → l ≡ m
same_next at text a b x y l m s t p q = one_said b l m (subst (λ (u : List ℕ). SaysListed u l) (same_line at text a b x y s.whole t.whole).0 p) q

after : (at : ℕ) (text a b x y : List ℕ) (lines : List Listed) (here : ℕ) (rest : List ℕ) → TakesLine at text a x → TakesLine at text b y → Reads (behind at b) y lines here rest → Reads (behind at a) x lines here rest
after at text a b x y lines here rest s t r =
    let same = same_line at text a b x y s.whole t.whole in
    let P : List ℕ → Type 0 = λ l. Reads (behind at l) x lines here rest in
    let Q : List ℕ → Type 0 = λ u. Reads (behind at b) u lines here rest in
    subst P (sym same.0) (subst Q (sym same.1) r)

from_there : (at h : ℕ) (text x : List ℕ) (lines : List Listed) (k : ℕ) (y : List ℕ) → at ≡ h → text ≡ x → Reads at text lines k y → Reads h x lines k y
from_there at h text x lines k y e f r =
    let P : ℕ → Type 0 = λ n. Reads n x lines k y in
    let Q : List ℕ → Type 0 = λ t. Reads at t lines k y in
    subst P e (subst Q f r)

both_read : (at : ℕ) (text : List ℕ) (a b : List Listed) (h k : ℕ) (x y : List ℕ) → Reads at text a h x → Reads at text b k y → GoesFurther a h x b k y ⊎ GoesFurther b k y a h x
both_read at text [] b h k x y p q = inl (b, refl, from_there at h text x b k y p.0 p.1 q)
both_read at text (l ∷ a) [] h k x y p q = inr (l ∷ a, refl, from_there at k text y (l ∷ a) h x q.0 q.1 p)
both_read at text (l ∷ a) (m ∷ b) h k x y p q = on (both_read (behind at p.0) p.1 a b h k x y p.4 (after at text p.0 q.0 p.1 q.1 b k y p.2 q.2 q.4))
  where
    first : l ≡ m
    first = same_next at text p.0 q.0 p.1 q.1 l m p.2 q.2 p.3 q.3

    on : GoesFurther a h x b k y ⊎ GoesFurther b k y a h x → GoesFurther (l ∷ a) h x (m ∷ b) k y ⊎ GoesFurther (m ∷ b) k y (l ∷ a) h x
    on (inl g) = inl (g.0, ap (λ (n : Listed). n ∷ b) (sym first) ∙ ap (λ (ns : List Listed). l ∷ ns) g.1, g.2)
    on (inr g) = inr (g.0, ap (λ (n : Listed). n ∷ a) first ∙ ap (λ (ns : List Listed). m ∷ ns) g.1, g.2)

-- ## Where the taking of lines stops

-- The next line breaks in this way, or may not come.
abbrev pub Way : Places → List Listed → ℕ → List ℕ → ListingFault → Type 0
Way places said here rest fault = NextBreaks here rest (length said + 1) fault ⊎ ((fault ≡ BadModes (length said + 1)) × ((listed : Listed) × (more : List ℕ) × (now : ℕ) × Reads here rest (listed ∷ []) now more × (MayTake places listed.mode listed.path → ⊥)))

-- The lines of the listing are taken up to one that breaks in this way, or that may not come.
pub record Stops (before : Places) (text : List ℕ) (fault : ListingFault) : Type 0 where
  pub said : List Listed
  pub here : ℕ
  pub rest : List ℕ
  pub reads : Reads 0 text said here rest
  pub places : Places
  pub takes : TakesAll before said places
  pub breaks : Way places said here rest fault

-- the fault of a text whose next line breaks
as_fault : (before : Places) (text : List ℕ) (fault : ListingFault) (s : Stops before text fault) → IsOwn fault → NextBreaks s.here s.rest (length s.said + 1) fault → IsFault text fault
as_fault before text (BadModes line) s is b = record { lines = s.said; here = s.here; rest = s.rest; reads = s.reads; breaks = b }
as_fault before text (Limit which number) s is b = record { lines = s.said; here = s.here; rest = s.rest; reads = s.reads; breaks = b }
as_fault before text ReadFault s is b = absurd is
as_fault before text Memory s is b = absurd is

-- no lines are taken that go on from there
stops_there : (before other : Places) (text : List ℕ) (fault : ListingFault) (s : Stops before text fault) (listed : Listed) (more : List Listed) (now : Places) (k : ℕ) (y : List ℕ) → AreSame before other → IsOwn fault → Reads s.here s.rest (listed ∷ more) k y → TakesAll other (s.said ++ listed ∷ more) now → ⊥
stops_there before other text fault s listed more now k y same is r takes = by_way s.breaks
  where
    by_way : Way s.places s.said s.here s.rest fault → ⊥
    by_way (inl b) = breaks_none s.here s.rest r.0 r.1 listed (length s.said + 1) fault r.2 r.3 is b
    by_way (inr b) =
        let q = b.1.3 in
        let one : listed ≡ b.1.0 = same_next s.here s.rest r.0 q.0 r.1 q.1 listed b.1.0 r.2 q.2 r.3 q.3 in
        b.1.4 (subst (λ (l : Listed). MayTake s.places l.mode l.path) one (may_come before other s.said more listed s.places now same s.takes takes))

more_of : (before other : Places) (text : List ℕ) (fault : ListingFault) (s : Stops before text fault) (others : List Listed) (now : Places) (k : ℕ) (y : List ℕ) (more : List Listed) → AreSame before other → IsOwn fault → TakesAll other others now → others ≡ s.said ++ more → Reads s.here s.rest more k y → more ≡ []
more_of before other text fault s others now k y [] same is takes cut r = refl
more_of before other text fault s others now k y (m ∷ more) same is takes cut r = absurd (stops_there before other text fault s m more now k y same is r (subst (λ (ls : List Listed). TakesAll other ls now) cut takes))

no_line : (line rest : List ℕ) → [] ≡ line ++ 10 ∷ rest → ⊥
no_line [] rest e = absurd (cc)
no_line (c ∷ line) rest e = absurd (cc)

-- no line is read at the end of a text
none_read : (at k : ℕ) (text y : List ℕ) (listed : Listed) → text ≡ [] → Reads at text (listed ∷ []) k y → ⊥
none_read at k text y listed e r = no_line r.0 r.1 (sym e ∙ r.2.whole.cut)

nil_reads : (at k : ℕ) (y : List ℕ) (more : List Listed) → Reads at [] more k y → y ≡ []
nil_reads at k y [] r = sym r.1
nil_reads at k y (m ∷ more) r = absurd (no_line r.0 r.1 r.2.whole.cut)

reads_none : (at k : ℕ) (text y : List ℕ) (more : List Listed) → more ≡ [] → Reads at text more k y → text ≡ y
reads_none at k text y [] e r = r.1
reads_none at k text y (m ∷ more) e r = absurd (cc)

-- what is taken whole does not stop
pub taken_or_stops : (before other : Places) (text : List ℕ) (fault : ListingFault) (lines : List Listed) (now : Places) → AreSame before other → IsOwn fault → Stops before text fault → IsListing text lines → TakesAll other lines now → ⊥
taken_or_stops before other text fault lines now same is s listing takes = by_way s.breaks
  where
    at_end : GoesFurther s.said s.here s.rest lines listing.0 [] ⊎ GoesFurther lines listing.0 [] s.said s.here s.rest → s.rest ≡ []
    at_end (inl g) = reads_none s.here listing.0 s.rest [] g.0 (more_of before other text fault s lines now listing.0 [] g.0 same is takes g.1 g.2) g.2
    at_end (inr g) = nil_reads listing.0 s.here s.rest g.0 g.2

    by_way : Way s.places s.said s.here s.rest fault → ⊥
    by_way (inl b) = no_fault text lines fault listing (as_fault before text fault s is b)
    by_way (inr b) = none_read s.here b.1.2 s.rest b.1.1 b.1.0 (at_end (both_read 0 text s.said lines s.here listing.0 s.rest [] s.reads listing.1)) b.1.3

-- two that stop at one line stop there in one way
same_stop : (before other : Places) (text : List ℕ) (f g : ListingFault) (s : Stops before text f) (t : Stops other text g) → IsOwn f → IsOwn g → s.said ≡ t.said → s.here ≡ t.here → s.rest ≡ t.rest → f ≡ g
same_stop before other text f g s t is so e h r = by_ways s.breaks t.breaks
  where
    by_ways : Way s.places s.said s.here s.rest f → Way t.places t.said t.here t.rest g → f ≡ g
    by_ways (inl b) (inl c) = one_fault text f g (as_fault before text f s is b) (as_fault other text g t so c)
    by_ways (inl b) (inr c) =
        let q = from_there t.here s.here t.rest s.rest (c.1.0 ∷ []) c.1.2 c.1.1 (sym h) (sym r) c.1.3 in
        absurd (breaks_none s.here s.rest q.0 q.1 c.1.0 (length s.said + 1) f q.2 q.3 is b)
    by_ways (inr b) (inl c) =
        let q = from_there s.here t.here s.rest t.rest (b.1.0 ∷ []) b.1.2 b.1.1 h r b.1.3 in
        absurd (breaks_none t.here t.rest q.0 q.1 b.1.0 (length t.said + 1) g q.2 q.3 so c)
    by_ways (inr b) (inr c) = b.0 ∙ ap (λ (ls : List Listed). BadModes (length ls + 1)) e ∙ sym c.0

-- the lines stop in one way at most
pub one_stop : (before other : Places) (text : List ℕ) (f g : ListingFault) → AreSame before other → IsOwn f → IsOwn g → Stops before text f → Stops other text g → f ≡ g
one_stop before other text f g same is so s t = by_more (both_read 0 text s.said t.said s.here t.here s.rest t.rest s.reads t.reads)
  where
    back : AreSame other before
    back path = sym (same path)

    level : (a b : List Listed) (h k : ℕ) (x y : List ℕ) (more : List Listed) → b ≡ a ++ more → Reads h x more k y → more ≡ [] → (a ≡ b) × (h ≡ k) × (x ≡ y)
    level a b h k x y [] cut r e = (sym (append-nil a) ∙ sym cut, r.0, r.1)
    level a b h k x y (m ∷ more) cut r e = absurd (cc)

    by_more : GoesFurther s.said s.here s.rest t.said t.here t.rest ⊎ GoesFurther t.said t.here t.rest s.said s.here s.rest → f ≡ g
    by_more (inl w) =
        let l = level s.said t.said s.here t.here s.rest t.rest w.0 w.1 w.2 (more_of before other text f s t.said t.places t.here t.rest w.0 same is t.takes w.1 w.2) in
        same_stop before other text f g s t is so l.0 l.1 l.2
    by_more (inr w) =
        let l = level t.said s.said t.here s.here t.rest s.rest w.0 w.1 w.2 (more_of other before text g t s.said s.places s.here s.rest w.0 back so s.takes w.1 w.2) in
        same_stop before other text f g s t is so (sym l.0) (sym l.1) (sym l.2)
