-- A file of refs gives one snapshot at most with a batch's objects, breaks in one way at most, and does not do both.
use Rattle.std.proofs.Common.{◌≡◌, ◌≢◌, ◌⊎◌, ℕ, ◌+◌, ◌≤◌, inl, inr, List, [], ◌∷◌, ◌++◌, length, Contains, refl, sym, ap, ◌∙◌, subst, arith, length-append}
use Rattle.std.specs.List.{AllByRecursion}
use Rattle.std.specs.Ordering.{nat_cmp, ordering_reverse}
use Rattle.std.specs.declared.cmp.Ordering.TheVariants.{Less, Greater}
use Rattle.std.specs.Cmp.Lexicographic.{slice_cmp, nat_list_cmp_total}
use Rattle.std.proofs.lemmas.List.{append-nil, map-append}
use Rattle.swh_base.specs.declared.entry.Entry.{Entry}
use Rattle.swh_base.specs.declared.name.Name.{Name}
use Rattle.swh_base.specs.declared.kind.Kind.TheVariants.{Snapshot}
use Rattle.swh_base.specs.declared.visit.Which.TheVariants.{Stream, Line, Refs}
use Rattle.swh_base.specs.Limits.{line_limit}
use Rattle.swh_base.specs.Snapshot.{SnapshotBranch, BranchIsBefore, AreBranches, snapshot_text}
use Rattle.swh_base.proofs.ItemTexts.{same_front}
use Rattle.swh_fastlex.specs.Line.{IsLine}
use Rattle.swh_base.proofs.Middle.{in_middle}
use Rattle.swh_model.specs.Meaning.{Made}
use Rattle.swh_dedup.specs.Making.{made_from, made, object_of}
use Rattle.swh_dedup.specs.Whole.{names_of, HasChildrenAmong}
use Rattle.swh_dedup.proofs.Elements.{first_or_later, first_is, later_is, none_is, each_is}
use Rattle.swh_batchread.specs.declared.fault.BatchFault.{BatchFault}
use Rattle.swh_batchread.specs.declared.fault.BatchFault.TheVariants.{BadBatch, WrongName, BadRefs, NoObject, Limit, ReadFault, Memory}
use Rattle.swh_batchread.specs.Batch.{input_limit}
use Rattle.swh_batchread.specs.BatchFault.{BeginsWithLine}
use Rattle.swh_batchread.specs.Refs.{RefLine, ref_line, ref_text, refs_text, refs_limit, counted_refs, ref_ids, HasId, IsNewRef, IsRefLine, MayFollowRefs, AreRefLines, AreRefs, AreBranchesOf, AreAllThere, GivesSnapshot, MeansRefs}
use Rattle.swh_batchread.specs.RefsFault.{BeginsWithWhole, HasNoFeed, LineIsLong, PassesInput, PassesLine, LineBreaks, PassesRefs, RefBreaks, RefsBreakHere, ReachesLine, BreaksLines, IsFirstLacking, Lacks, kids_of, SnapshotBreaks, BreaksRefs}
use Rattle.swh_batchread.proofs.Breaking.{whole_line, found_line, front_line}
use Rattle.swh_batchread.proofs.NamesKnown.{all_append}
use Rattle.swh_batchread.proofs.RefLines.{one_ref, ref_no_feed, ref_not_nil}
use Rattle.swh_batchread.proofs.RefsHeld.{same_ref}
use Rattle.swh_batchread.proofs.RefsRead.{line_some, text_push}
use Rattle.swh_batchread.proofs.Unique.{one_first_line, same_limit, past}

-- ## Where a line is to begin

abbrev long_line : BatchFault
long_line = Limit Line (line_limit + 1)

-- the ways in which a line breaks
abbrev Ways : ℕ → ℕ → List ℕ → BatchFault → Type 0
Ways number at text f = ((f ≡ BadRefs number) × HasNoFeed at text) ⊎ (((f ≡ past) × PassesInput at text) ⊎ ((f ≡ long_line) × PassesLine at text))

way_of : (number at : ℕ) (text : List ℕ) (f : BatchFault) → LineBreaks number at text f → Ways number at text f
way_of number at text (BadRefs line) h = inl (ap BadRefs h.0, h.1)
way_of number at text (Limit which count) (inl h) = inr (inl (same_limit which Stream count (input_limit + 1) h.0.0 h.0.1, h.1))
way_of number at text (Limit which count) (inr h) = inr (inr (same_limit which Line count (line_limit + 1) h.0 h.1, h.2))
way_of number at text (BadBatch place) h = absurd h
way_of number at text (WrongName given got) h = absurd h
way_of number at text (NoObject id) h = absurd h
way_of number at text ReadFault h = absurd h
way_of number at text Memory h = absurd h

long_cut : (text : List ℕ) → (l : LineIsLong text) → BeginsWithLine text l.line
long_cut text l = front_line text l.line l.rest l.cut l.no_feed l.long

some_rest : (rest : List ℕ) → rest ≢ [] → 1 ≤ length rest
some_rest [] some = absurd (some refl)
some_rest (c ∷ rest) some = omega arith

-- a text that is all one line is not too long
short_or_long : (at : ℕ) (text : List ℕ) → HasNoFeed at text → LineIsLong text → ⊥
short_or_long at text n l =
    let short = n.short in
    let long = l.long in
    absurd (omega (arith, short, long, some_rest l.rest l.more, ap length l.cut, length-append l.line l.rest))

cut_or_past : (at : ℕ) (text : List ℕ) → HasNoFeed at text → PassesInput at text → ⊥
cut_or_past at text n (inl p) =
    let same = ap length (one_first_line text text p.line (whole_line text n.no_feed n.short) p.first) in
    let low = n.within in
    let high = p.above in
    absurd (omega (arith, same, low, high))
cut_or_past at text n (inr p) = short_or_long at text n p.1

past_or_long : (at : ℕ) (text : List ℕ) → PassesInput at text → PassesLine at text → ⊥
past_or_long at text (inl p) l =
    let same = ap length (one_first_line text p.line l.1.line p.first (long_cut text l.1)) in
    let long = l.1.long in
    let high = p.above in
    let low = l.0 in
    absurd (omega (arith, same, long, low, high))
past_or_long at text (inr p) l = let high = p.0 in let low = l.0 in absurd (omega (arith, low, high))

line_one : (number at : ℕ) (text : List ℕ) (f g : BatchFault) → LineBreaks number at text f → LineBreaks number at text g → f ≡ g
line_one number at text f g h k = both (way_of number at text f h) (way_of number at text g k)
  where
    both : Ways number at text f → Ways number at text g → f ≡ g
    both (inl a) (inl b) = a.0 ∙ sym b.0
    both (inl a) (inr (inl b)) = absurd (cut_or_past at text a.1 b.1)
    both (inl a) (inr (inr b)) = absurd (short_or_long at text a.1 b.1.1)
    both (inr (inl a)) (inl b) = absurd (cut_or_past at text b.1 a.1)
    both (inr (inl a)) (inr (inl b)) = a.0 ∙ sym b.0
    both (inr (inl a)) (inr (inr b)) = absurd (past_or_long at text a.1 b.1)
    both (inr (inr a)) (inl b) = absurd (short_or_long at text b.1 a.1.1)
    both (inr (inr a)) (inr (inl b)) = absurd (past_or_long at text b.1 a.1)
    both (inr (inr a)) (inr (inr b)) = a.0 ∙ sym b.0

-- ## Whole lines

whole_first : (at : ℕ) (text line rest : List ℕ) → BeginsWithWhole at text line rest → BeginsWithLine text line
whole_first at text line rest w = found_line text line rest w.cut w.is w.short

has_feed : (line : List ℕ) → IsLine line → Contains line 10
has_feed line is = subst (λ (t : List ℕ). Contains t 10) (sym is.text) (in_middle is.front [] 10)

whole_not_long : (at : ℕ) (text line rest : List ℕ) → BeginsWithWhole at text line rest → LineIsLong text → ⊥
whole_not_long at text line rest w l = l.no_feed (subst (λ (t : List ℕ). Contains t 10) (one_first_line text line l.line (whole_first at text line rest w) (long_cut text l)) (has_feed line w.is))

whole_not : (number at : ℕ) (text line rest : List ℕ) (f : BatchFault) → BeginsWithWhole at text line rest → LineBreaks number at text f → ⊥
whole_not number at text line rest f w h = by_way (way_of number at text f h)
  where
    by_way : Ways number at text f → ⊥
    by_way (inl a) =
        let n = a.1 in
        let same = one_first_line text line text (whole_first at text line rest w) (whole_line text n.no_feed n.short) in
        n.no_feed (subst (λ (t : List ℕ). Contains t 10) same (has_feed line w.is))
    by_way (inr (inl (e, inl p))) =
        let same = ap length (one_first_line text line p.line (whole_first at text line rest w) p.first) in
        let low = w.within in
        let high = p.above in
        absurd (omega (arith, same, low, high))
    by_way (inr (inl (e, inr p))) = whole_not_long at text line rest w p.1
    by_way (inr (inr a)) = whole_not_long at text line rest w a.1.1

-- what is wrong with a whole line
abbrev Wrongs : List RefLine → ℕ → List ℕ → BatchFault → Type 0
Wrongs before number line f = ((f ≡ BadRefs number) × ((r : RefLine) → IsRefLine r → line ≡ ref_text r → IsNewRef before r → ⊥)) ⊎ ((f ≡ Limit Refs (refs_limit + 1)) × PassesRefs before line)

wrong_of : (before : List RefLine) (number : ℕ) (line : List ℕ) (f : BatchFault) → RefBreaks before number line f → Wrongs before number line f
wrong_of before number line (BadRefs n) h = inl (ap BadRefs h.0, h.1)
wrong_of before number line (Limit which count) h = inr (same_limit which Refs count (refs_limit + 1) h.0 h.1, h.2)
wrong_of before number line (BadBatch place) h = absurd h
wrong_of before number line (WrongName given got) h = absurd h
wrong_of before number line (NoObject id) h = absurd h
wrong_of before number line ReadFault h = absurd h
wrong_of before number line Memory h = absurd h

wrong_one : (before : List RefLine) (number : ℕ) (line : List ℕ) (f g : BatchFault) → RefBreaks before number line f → RefBreaks before number line g → f ≡ g
wrong_one before number line f g h k = both (wrong_of before number line f h) (wrong_of before number line g k)
  where
    both : Wrongs before number line f → Wrongs before number line g → f ≡ g
    both (inl a) (inl b) = a.0 ∙ sym b.0
    both (inl a) (inr b) = let p = b.1 in absurd (a.1 p.ref p.is p.spelled p.new)
    both (inr a) (inl b) = let p = a.1 in absurd (b.1 p.ref p.is p.spelled p.new)
    both (inr a) (inr b) = a.0 ∙ sym b.0

here_one : (before : List RefLine) (at : ℕ) (text : List ℕ) (f g : BatchFault) → RefsBreakHere before at text f → RefsBreakHere before at text g → f ≡ g
here_one before at text f g (inl h) (inl k) = line_one (length before + 1) at text f g h k
here_one before at text f g (inl h) (inr (line, rest, w, b)) = absurd (whole_not (length before + 1) at text line rest f w h)
here_one before at text f g (inr (line, rest, w, b)) (inl k) = absurd (whole_not (length before + 1) at text line rest g w k)
here_one before at text f g (inr (line, rest, w, b)) (inr (other, more, v, c)) =
    let same = one_first_line text line other (whole_first at text line rest w) (whole_first at text other more v) in
    wrong_one before (length before + 1) line f g b (subst (λ (t : List ℕ). RefBreaks before (length before + 1) t g) (sym same) c)

-- ## As far as lines go

-- no line that may follow stands where another breaks
none_follows : (text : List ℕ) (before : List RefLine) (at : ℕ) (rest : List ℕ) (f : BatchFault) → ReachesLine text before at rest → RefsBreakHere before at rest f → (r : RefLine) (more : List ℕ) → rest ≡ ref_text r ++ more → MayFollowRefs before r → ⊥
none_follows text before at rest f reaches breaks r more cut may = by_way breaks
  where
    is : IsRefLine r
    is = may.line

    whole : BeginsWithWhole at rest (ref_text r) more
    whole =
        let within = may.within in
        let here = reaches.here in
        let short = is.short in
        let long = ap length (text_push before r) ∙ length-append (refs_text before) (ref_text r) in
        record { is = record { front = ref_line r; no_feed = ref_no_feed r is; text = refl }; cut = cut; short = short; within = omega (arith, within, here, long) }

    not_wrong : Wrongs before (length before + 1) (ref_text r) f → ⊥
    not_wrong (inl a) = a.1 r is refl may.new
    not_wrong (inr a) =
        let p = a.1 in
        let few = may.few in
        let above = p.above in
        let same = same_ref (ref_text r) r p.ref is p.is refl p.spelled in
        let count = ap (λ (q : RefLine). length (counted_refs (before ++ q ∷ []))) same in
        absurd (omega (arith, few, above, count))

    by_way : RefsBreakHere before at rest f → ⊥
    by_way (inl h) = whole_not (length before + 1) at rest (ref_text r) more f whole h
    by_way (inr (line, after, w, b)) =
        let same = one_first_line rest line (ref_text r) (whole_first at rest line after w) (whole_first at rest (ref_text r) more whole) in
        not_wrong (wrong_of before (length before + 1) (ref_text r) f (subst (λ (t : List ℕ). RefBreaks before (length before + 1) t f) same b))

next_may : (before : List RefLine) (r : RefLine) (more : List RefLine) → AreRefLines (before ++ r ∷ more) → MayFollowRefs before r
next_may before r more are = are before r more refl

may_is : (before : List RefLine) (r : RefLine) → MayFollowRefs before r → IsRefLine r
may_is before r may = may.line

one_end : (xs ys : List RefLine) (r q : List ℕ) → AreRefLines xs → AreRefLines ys → refs_text xs ++ r ≡ refs_text ys ++ q → ((x : RefLine) (rest : List ℕ) → r ≡ ref_text x ++ rest → MayFollowRefs xs x → ⊥) → ((x : RefLine) (rest : List ℕ) → q ≡ ref_text x ++ rest → MayFollowRefs ys x → ⊥) → (xs ≡ ys) × (r ≡ q)
one_end xs ys r q a b e n m = same_front ref_text IsRefLine one_ref AreRefLines MayFollowRefs next_may may_is [] xs ys r q a b e n m

lines_one : (text : List ℕ) (f g : BatchFault) → BreaksLines text f → BreaksLines text g → f ≡ g
lines_one text f g a b =
    let r = a.reaches in
    let s = b.reaches in
    let same = one_end a.before b.before a.rest b.rest r.are s.are (sym r.cut ∙ s.cut) (none_follows text a.before a.at a.rest f r a.breaks) (none_follows text b.before b.at b.rest g s b.breaks) in
    let at : b.at ≡ a.at = s.here ∙ ap (λ (rs : List RefLine). length (refs_text rs)) (sym same.0) ∙ sym r.here in
    here_one a.before a.at a.rest f g a.breaks (subst (λ (n : ℕ). RefsBreakHere a.before n a.rest g) at (subst (λ (t : List ℕ). RefsBreakHere a.before b.at t g) (sym same.1) (subst (λ (rs : List RefLine). RefsBreakHere rs b.at b.rest g) (sym same.0) b.breaks)))

nil_parts : (line rest : List ℕ) → [] ≡ line ++ rest → line ≡ []
nil_parts [] rest e = refl
nil_parts (c ∷ line) rest e = absurd (cc)

-- nothing breaks where the text ends
nothing_here : (before : List RefLine) (at : ℕ) (f : BatchFault) → at ≤ input_limit → RefsBreakHere before at [] f → ⊥
nothing_here before at f low (inl h) = by_way (way_of (length before + 1) at [] f h)
  where
    no_long : LineIsLong [] → ⊥
    no_long l = let long = l.long in absurd (omega (arith, long, ap length (nil_parts l.line l.rest l.cut)))

    by_way : Ways (length before + 1) at [] f → ⊥
    by_way (inl a) = a.1.some refl
    by_way (inr (inl (e, inl p))) =
        let first = p.first in
        let high = p.above in
        absurd (omega (arith, low, high, ap length (nil_parts p.line first.rest first.cut)))
    by_way (inr (inl (e, inr p))) = no_long p.1
    by_way (inr (inr a)) = no_long a.1.1
nothing_here before at f low (inr (line, rest, w, b)) = absurd (omega (arith, line_some line w.is, ap length (nil_parts line rest w.cut)))

no_more : (before : List RefLine) (x : RefLine) (rest : List ℕ) → [] ≡ ref_text x ++ rest → MayFollowRefs before x → ⊥
no_more before x rest e may = ref_not_nil x rest (sym e)

last_or_none : (rs : List RefLine) → (rs ≡ []) ⊎ ((before : List RefLine) × (r : RefLine) × (rs ≡ before ++ r ∷ []))
last_or_none [] = inl refl
last_or_none (r ∷ rs) = elim (last_or_none rs) [
  | inl e ↦ inr ([], r, ap (λ (t : List RefLine). r ∷ t) e)
  | inr h ↦ inr (r ∷ h.0, h.1, ap (λ (t : List RefLine). r ∷ t) h.2)
]

lines_within : (rs : List RefLine) → AreRefLines rs → length (refs_text rs) ≤ input_limit
lines_within rs all = elim (last_or_none rs) [
  | inl e ↦ omega (arith, ap (λ (t : List RefLine). length (refs_text t)) e)
  | inr h ↦ subst (λ (t : List RefLine). length (refs_text t) ≤ input_limit) (sym h.2) (all h.0 h.1 [] h.2).within
]

lines_or_refs : (text : List ℕ) (refs : List RefLine) (f : BatchFault) → AreRefs text refs → BreaksLines text f → ⊥
lines_or_refs text refs f are b =
    let s = b.reaches in
    let same = one_end refs b.before [] b.rest are.are s.are (append-nil (refs_text refs) ∙ sym are.spelled ∙ s.cut) (no_more refs) (none_follows text b.before b.at b.rest f s b.breaks) in
    let here = s.here in
    let long = ap (λ (rs : List RefLine). length (refs_text rs)) (sym same.0) in
    nothing_here b.before b.at f (omega (arith, here, lines_within b.before s.are)) (subst (λ (t : List ℕ). RefsBreakHere b.before b.at t f) (sym same.1) b.breaks)

one_refs : (text : List ℕ) (a b : List RefLine) → AreRefs text a → AreRefs text b → a ≡ b
one_refs text a b x y = (one_end a b [] [] x.are y.are (append-nil (refs_text a) ∙ sym x.spelled ∙ y.spelled ∙ sym (append-nil (refs_text b))) (no_more a) (no_more b)).0

-- ## Branches

self_less : (a : List ℕ) → slice_cmp nat_cmp a a ≡ Less → ⊥
self_less a e =
    let back = nat_list_cmp_total.antisymm a a ∙ ap ordering_reverse e in
    let odd : Less ≡ Greater = sym e ∙ back in
    cc

both_less : (a b : List ℕ) → slice_cmp nat_cmp a b ≡ Less → slice_cmp nat_cmp b a ≡ Less → ⊥
both_less a b e f =
    let back = nat_list_cmp_total.antisymm a b ∙ ap ordering_reverse f in
    let odd : Less ≡ Greater = sym e ∙ back in
    cc

one_list : (bs cs : List SnapshotBranch) → AreBranches bs → AreBranches cs → ((b : SnapshotBranch) → Contains bs b → Contains cs b) → ((b : SnapshotBranch) → Contains cs b → Contains bs b) → bs ≡ cs
one_list [] [] g h f k = refl
one_list [] (c ∷ cs) g h f k = absurd (none_is c (k c (first_is c cs)))
one_list (b ∷ bs) [] g h f k = absurd (none_is b (f b (first_is b bs)))
one_list (b ∷ bs) (c ∷ cs) g h f k = by_heads (one_list bs cs g.2 h.2) (first_or_later c cs b (f b (first_is b bs))) (first_or_later b bs c (k c (first_is c cs)))
  where
    tail_in : (c ≡ b) → (x : SnapshotBranch) → Contains bs x → Contains cs x
    tail_in e x d = by_place (first_or_later c cs x (f x (later_is b bs x d)))
      where
        by_place : (c ≡ x) ⊎ Contains cs x → Contains cs x
        by_place (inl s) = absurd (self_less b.name (subst (λ (y : SnapshotBranch). slice_cmp nat_cmp b.name y.name ≡ Less) (sym s ∙ e) (each_is (BranchIsBefore b) bs x g.1 d)))
        by_place (inr d) = d

    tail_back : (c ≡ b) → (x : SnapshotBranch) → Contains cs x → Contains bs x
    tail_back e x d = by_place (first_or_later b bs x (k x (later_is c cs x d)))
      where
        by_place : (b ≡ x) ⊎ Contains bs x → Contains bs x
        by_place (inl s) = absurd (self_less c.name (subst (λ (y : SnapshotBranch). slice_cmp nat_cmp c.name y.name ≡ Less) (sym s ∙ sym e) (each_is (BranchIsBefore c) cs x h.1 d)))
        by_place (inr d) = d

    joined : b ≡ c → bs ≡ cs → b ∷ bs ≡ c ∷ cs
    joined e r = ap (λ (x : SnapshotBranch). x ∷ bs) e ∙ ap (λ (xs : List SnapshotBranch). c ∷ xs) r

    by_heads : (((x : SnapshotBranch) → Contains bs x → Contains cs x) → ((x : SnapshotBranch) → Contains cs x → Contains bs x) → bs ≡ cs) → (c ≡ b) ⊎ Contains cs b → (b ≡ c) ⊎ Contains bs c → b ∷ bs ≡ c ∷ cs
    by_heads more (inl e) q = joined (sym e) (more (tail_in e) (tail_back e))
    by_heads more (inr d) (inl e) = joined e (more (tail_in (sym e)) (tail_back (sym e)))
    by_heads more (inr d) (inr p) = absurd (both_less b.name c.name (each_is (BranchIsBefore b) bs c g.1 p) (each_is (BranchIsBefore c) cs b h.1 d))

one_branches : (names : List Name) (refs : List RefLine) (a b : List SnapshotBranch) → AreBranchesOf names refs a → AreBranchesOf names refs b → a ≡ b
one_branches names refs a b x y = one_list a b x.good y.good (λ s c. (y.same s).1 ((x.same s).0 c)) (λ s c. (x.same s).1 ((y.same s).0 c))

-- ## What is not there

first_all : {X : Type 0} (P : X → Type 0) (xs : List X) (x : X) → AllByRecursion P xs → IsFirstLacking P xs x → ⊥
first_all {X} P xs x all f = f.none (at_cut f.before (subst (AllByRecursion P) f.cut all))
  where
    at_cut : (before : List X) → AllByRecursion P (before ++ x ∷ f.after) → P x
    at_cut [] h = h.0
    at_cut (b ∷ before) h = at_cut before h.1

first_one : {X : Type 0} (P : X → Type 0) (xs : List X) (x y : X) → IsFirstLacking P xs x → IsFirstLacking P xs y → x ≡ y
first_one {X} P xs x y f g = one f.before g.before f.found g.found (sym f.cut ∙ g.cut)
  where
    one : (a b : List X) → AllByRecursion P a → AllByRecursion P b → a ++ x ∷ f.after ≡ b ++ y ∷ g.after → x ≡ y
    one [] [] p q e = cc
    one [] (c ∷ b) p q e = let s : x ≡ c = cc in absurd (f.none (subst P (sym s) q.0))
    one (c ∷ a) [] p q e = let s : c ≡ y = cc in absurd (g.none (subst P s p.0))
    one (c ∷ a) (d ∷ b) p q e = one a b p.1 q.1 cc

lacks_one : (names : List Name) (ids : List (List ℕ)) (objects : List Entry) (i j : List ℕ) → Lacks names ids objects i → Lacks names ids objects j → i ≡ j
lacks_one names ids objects i j (inl a) (inl b) = first_one (HasId names) ids i j a b
lacks_one names ids objects i j (inl a) (inr b) = absurd (first_all (HasId names) ids i b.0 a)
lacks_one names ids objects i j (inr a) (inl b) = absurd (first_all (HasId names) ids j a.0 b)
lacks_one names ids objects i j (inr a) (inr b) =
    let p = a.1 in
    let q = b.1 in
    p.id_is ∙ ap (λ (n : Name). n.id) (first_one (Contains names) (kids_of objects) p.kid q.kid p.first q.first) ∙ sym q.id_is

kids_all : (names : List Name) (objects : List Entry) → AllByRecursion (HasChildrenAmong names) objects → AllByRecursion (Contains names) (kids_of objects)
kids_all names [] h = tt
kids_all names (o ∷ objects) h = all_append (Contains names) o.kids (kids_of objects) h.0 (kids_all names objects h.1)

there_or_lacks : (refs : List RefLine) (objects : List Entry) (id : List ℕ) → AreAllThere objects refs → Lacks (names_of objects) (ref_ids refs) objects id → ⊥
there_or_lacks refs objects id t (inl a) = first_all (HasId (names_of objects)) (ref_ids refs) id t.refs a
there_or_lacks refs objects id t (inr a) = let p = a.1 in first_all (Contains (names_of objects)) (kids_of objects) p.kid (kids_all (names_of objects) objects t.kids) p.first

snapshot_one : (refs : List RefLine) (objects : List Entry) (f g : BatchFault) → SnapshotBreaks refs objects f → SnapshotBreaks refs objects g → f ≡ g
snapshot_one refs objects (NoObject i) (NoObject j) h k = ap NoObject (lacks_one (names_of objects) (ref_ids refs) objects i j h k)
snapshot_one refs objects (NoObject i) (Limit which number) h k = let l = k.1 in absurd (there_or_lacks refs objects i l.there h)
snapshot_one refs objects (Limit which number) (NoObject j) h k = let l = h.1 in absurd (there_or_lacks refs objects j l.there k)
snapshot_one refs objects (Limit which number) (Limit other count) h k =
    let l = h.1 in
    let m = k.1 in
    let same = one_branches (names_of objects) refs l.branches m.branches l.branches_are m.branches_are in
    same_limit which other number count (h.0 ∙ sym k.0) (l.long ∙ ap (λ (bs : List SnapshotBranch). length (snapshot_text bs)) same ∙ sym m.long)
snapshot_one refs objects (NoObject i) (BadBatch at) h k = absurd k
snapshot_one refs objects (NoObject i) (WrongName given got) h k = absurd k
snapshot_one refs objects (NoObject i) (BadRefs line) h k = absurd k
snapshot_one refs objects (NoObject i) ReadFault h k = absurd k
snapshot_one refs objects (NoObject i) Memory h k = absurd k
snapshot_one refs objects (Limit which number) (BadBatch at) h k = absurd k
snapshot_one refs objects (Limit which number) (WrongName given got) h k = absurd k
snapshot_one refs objects (Limit which number) (BadRefs line) h k = absurd k
snapshot_one refs objects (Limit which number) ReadFault h k = absurd k
snapshot_one refs objects (Limit which number) Memory h k = absurd k
snapshot_one refs objects (BadBatch at) g h k = absurd h
snapshot_one refs objects (WrongName given got) g h k = absurd h
snapshot_one refs objects (BadRefs line) g h k = absurd h
snapshot_one refs objects ReadFault g h k = absurd h
snapshot_one refs objects Memory g h k = absurd h

gives_or_breaks : (refs : List RefLine) (objects given : List Entry) (i : List ℕ) (f : BatchFault) → GivesSnapshot refs objects given i → SnapshotBreaks refs objects f → ⊥
gives_or_breaks refs objects given i (NoObject id) g k = there_or_lacks refs objects id g.there k
gives_or_breaks refs objects given i (Limit which number) g k =
    let l = k.1 in
    let same = one_branches (names_of objects) refs g.branches l.branches g.branches_are l.branches_are in
    let short = g.short in
    let long = l.long in
    let above = l.above in
    absurd (omega (arith, short, long, above, ap (λ (bs : List SnapshotBranch). length (snapshot_text bs)) same))
gives_or_breaks refs objects given i (BadBatch at) g k = k
gives_or_breaks refs objects given i (WrongName a b) g k = k
gives_or_breaks refs objects given i (BadRefs line) g k = k
gives_or_breaks refs objects given i ReadFault g k = k
gives_or_breaks refs objects given i Memory g k = k

-- ## The whole

pub refs_mean_one : (text : List ℕ) (objects a b : List Entry) (i j : List ℕ) → MeansRefs text objects a i → MeansRefs text objects b j → made a ≡ made b
refs_mean_one text objects a b i j x y =
    let refs = one_refs text x.refs y.refs x.are y.are in
    let g = x.gives in
    let h = subst (λ (rs : List RefLine). GivesSnapshot rs objects b j) (sym refs) y.gives in
    let same = one_branches (names_of objects) x.refs g.branches h.branches g.branches_are h.branches_are in
    let last : made_from g.snapshot ≡ made_from h.snapshot = g.made ∙ ap (λ (bs : List SnapshotBranch). object_of Snapshot (snapshot_text bs)) same ∙ sym h.made in
    ap made g.objects_are ∙ map-append made_from objects (g.snapshot ∷ []) ∙ ap (λ (m : Made). made objects ++ m ∷ []) last ∙ sym (map-append made_from objects (h.snapshot ∷ [])) ∙ sym (ap made h.objects_are)

pub refs_break_once : (text : List ℕ) (objects : List Entry) (f g : BatchFault) → BreaksRefs text objects f → BreaksRefs text objects g → f ≡ g
refs_break_once text objects f g (inl a) (inl b) = lines_one text f g a b
refs_break_once text objects f g (inl a) (inr (rs, are, b)) = absurd (lines_or_refs text rs f are a)
refs_break_once text objects f g (inr (rs, are, a)) (inl b) = absurd (lines_or_refs text rs g are b)
refs_break_once text objects f g (inr (rs, are, a)) (inr (qs, these, b)) = snapshot_one rs objects f g a (subst (λ (xs : List RefLine). SnapshotBreaks xs objects g) (one_refs text qs rs these are) b)

pub refs_never_both : (text : List ℕ) (objects given : List Entry) (i : List ℕ) (f : BatchFault) → MeansRefs text objects given i → BreaksRefs text objects f → ⊥
refs_never_both text objects given i f m (inl b) = lines_or_refs text m.refs f m.are b
refs_never_both text objects given i f m (inr (rs, are, b)) = gives_or_breaks m.refs objects given i f m.gives (subst (λ (xs : List RefLine). SnapshotBreaks xs objects f) (one_refs text rs m.refs are m.are) b)
