-- Marks, by the places of names among those that are written.
use Rattle.std.proofs.Common.{◌≡◌, zero, suc, ℕ, ◌+◌, ◌<◌, Bool, true, false, cond, List, [], ◌∷◌, ◌++◌, length, take, get_or, refl, sym, ap, ◌∙◌, subst, arith}
use Rattle.std.specs.Prelude.{Contains}
use Rattle.std.specs.BTreeMap.{is_at}
use Rattle.std.specs.Ordering.{is_eq}
use Rattle.std.specs.Cmp.{Equal-is, tied_itself}
use Rattle.std.proofs.lemmas.List.{take_more}
use Rattle.std.proofs.lemmas.List.Elements.{Contains-append_right}
use Rattle.swh_base.specs.declared.name.Name.{Name}
use Rattle.swh_base.specs.Name.{name_cmp, name_cmp_total, name_cmp-IsAntisymmetric}
use Rattle.swh_postorder.proofs.Preceded.{cut_at}
use Rattle.swh_postorder.proofs.Trips.{first_in, later_in}
use Rattle.swh_marks.specs.Marks.{is_written, written, HasMark, mark_step, mark_of, StandOnce}

-- ---- names that are written, by their places

written_step : (b : Bool) (n : Name) (rest more all : List Name) → all ≡ rest ++ more → cond b (n ∷ all) all ≡ cond b (n ∷ rest) rest ++ more
written_step true n rest more all is = ap (λ (l : List Name). n ∷ l) is
written_step false n rest more all is = is

written_both : (xs ys : List Name) → written (xs ++ ys) ≡ written xs ++ written ys
written_both [] ys = refl
written_both (n ∷ ns) ys = written_step (is_written n) n (written ns) (written ys) (written (ns ++ ys)) (written_both ns ys)

pub written_more : (order : List Name) (i : ℕ) (none : Name) (names new : List Name) → i < length order → names ≡ written (take i order) → new ≡ names ++ written (get_or order i none ∷ []) → new ≡ written (take (i + 1) order)
written_more order i none names new within was is =
    is ∙ ap (λ (l : List Name). l ++ written (get_or order i none ∷ [])) was ∙ sym (ap written (take_more order i none within) ∙ written_both (take i order) (get_or order i none ∷ []))

step_mark : (n : Name) (ns : List Name) (name : Name) (p : ℕ) (d : Name) → (w : Bool) → is_written n ≡ w → ((q : ℕ) → q < length (written ns) → name ≡ get_or (written ns) q d → HasMark ns name (q + 1))
    → p < length (cond w (n ∷ written ns) (written ns)) → name ≡ get_or (cond w (n ∷ written ns) (written ns)) p d → HasMark (n ∷ ns) name (p + 1)
step_mark n ns name zero d true w more less is = record { before = []; behind = ns; cut = ap (λ (m : Name). m ∷ ns) (sym is); number = refl }
step_mark n ns name (suc q) d true w more less is =
    let has = more q (omega (arith, less)) is in
    let number = has.number in
    let longer : length (written (n ∷ has.before)) ≡ length (written has.before) + 1 = ap (λ (b : Bool). length (cond b (n ∷ written has.before) (written has.before))) w ∙ omega arith in
    record { before = n ∷ has.before; behind = has.behind; cut = ap (λ (l : List Name). n ∷ l) has.cut; number = omega (arith, number, longer) }
step_mark n ns name p d false w more less is =
    let has = more p less is in
    let number = has.number in
    let same : length (written (n ∷ has.before)) ≡ length (written has.before) = ap (λ (b : Bool). length (cond b (n ∷ written has.before) (written has.before))) w in
    record { before = n ∷ has.before; behind = has.behind; cut = ap (λ (l : List Name). n ∷ l) has.cut; number = omega (arith, number, same) }

-- the mark of a name is one more than its place among those that are written
pub place_mark : (order : List Name) (p : ℕ) (name d : Name) → p < length (written order) → name ≡ get_or (written order) p d → HasMark order name (p + 1)
place_mark [] p name d less is = absurd (omega (arith, less))
place_mark (n ∷ ns) p name d less is = step_mark n ns name p d (is_written n) refl (λ q l e. place_mark ns q name d l e) less is

-- ---- a mark that is asked for

pub itself : (name : Name) → is_at (name_cmp name) name ≡ true
itself name = ap is_eq (tied_itself name_cmp_total name)

pub same_at : (b name : Name) → is_at (name_cmp b) name ≡ true → b ≡ name
same_at b name e = name_cmp-IsAntisymmetric b name ((Equal-is (name_cmp b name)).0 e)

another : (b name : Name) → (b ≡ name → ⊥) → is_at (name_cmp b) name ≡ false
another b name differ = by (is_at (name_cmp b) name) refl
  where
    by : (x : Bool) → is_at (name_cmp b) name ≡ x → is_at (name_cmp b) name ≡ false
    by true e = absurd (differ (same_at b name e))
    by false e = e

one_step : (w : Bool) (b : Name) (ns : List Name) (n : ℕ) → n ≡ length ns + 1 → mark_step w + n ≡ length (cond w (b ∷ ns) ns) + 1
one_step true b ns n is = omega (arith, is)
one_step false b ns n is = omega (arith, is)

mark_at : (name : Name) (before behind : List Name) → (Contains before name → ⊥) → mark_of (before ++ name ∷ behind) name ≡ length (written before) + 1
mark_at name [] behind fresh = ap (λ (x : Bool). cond x 1 (mark_step (is_written name) + mark_of behind name)) (itself name)
mark_at name (b ∷ bs) behind fresh =
    ap (λ (x : Bool). cond x 1 (mark_step (is_written b) + mark_of (bs ++ name ∷ behind) name)) (another b name (λ same. fresh (subst (λ (n : Name). Contains (b ∷ bs) n) same (first_in b bs))))
    ∙ one_step (is_written b) b (written bs) (mark_of (bs ++ name ∷ behind) name) (mark_at name bs behind (λ there. fresh (later_in b bs name there)))

pub mark_is : (order : List Name) (name : Name) (mark : ℕ) → StandOnce order → HasMark order name mark → mark ≡ mark_of order name
mark_is order name mark once has =
    has.number ∙ sym (ap (λ (l : List Name). mark_of l name) has.cut ∙ mark_at name has.before has.behind (λ there. once name (record { before = has.before; behind = has.behind; cut = has.cut; there = there })))

-- the same by a place that was found
pub place_of : (order names : List Name) (p : ℕ) (name d : Name) → StandOnce order → names ≡ written order → p < length names → name ≡ get_or names p d → p + 1 ≡ mark_of order name
place_of order names p name d once are less is =
    mark_is order name (p + 1) once (place_mark order p name d (subst (λ (l : List Name). p < length l) are less) (is ∙ ap (λ (l : List Name). get_or l p d) are))

-- a name of the order that is written stands among those that are
pub written_there : (order : List Name) (name : Name) → Contains order name → is_written name ≡ true → Contains (written order) name
written_there order name there w =
    let c = cut_at order name there in
    let is : written order ≡ written c.before ++ name ∷ written c.behind =
    ap written c.cut ∙ written_both c.before (name ∷ c.behind) ∙ ap (λ (b : Bool). written c.before ++ cond b (name ∷ written c.behind) (written c.behind)) w in
    subst (λ (l : List Name). Contains l name) (sym is) (Contains-append_right (written c.before) (name ∷ written c.behind) name (first_in name (written c.behind)))
