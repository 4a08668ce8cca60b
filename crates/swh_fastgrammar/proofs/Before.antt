-- The whole commands before a fault are determined too.
use Rattle.std.proofs.Common.{◌≡◌, ℕ, ◌+◌, inl, inr, Bool, true, false, List, [], ◌∷◌, ◌++◌, length, length-append, refl, sym, ap, ◌∙◌, subst, arith, append_assoc}
use Rattle.swh_fastgrammar.specs.declared.command.Command.{Command}
use Rattle.swh_fastgrammar.specs.declared.fault.StreamWhy.{StreamWhy}
use Rattle.swh_fastgrammar.specs.declared.fault.StreamWhy.TheVariants.{Grammar, End, LeftOut, Mark, Branch, Place}
use Rattle.swh_fastgrammar.specs.Fault.{IsUnfinished, Reaches, IsLineFault, IsEndFault, IsFault}
use Rattle.swh_fastgrammar.specs.Grammar.{many, Item, IsItem, commands_of}
use Rattle.swh_fastgrammar.specs.Row.{Row, row_text, text_of, IsRow, AreRows, Placed, placed}
use Rattle.swh_fastgrammar.proofs.Faults.{append_nil, text_of-append, one_fault}
use Rattle.swh_fastgrammar.proofs.Parts.{cons_cut}
use Rattle.swh_fastgrammar.proofs.Rows.{goes_on}
use Rattle.swh_fastgrammar.proofs.Streams.{Stops, shape, span, items_stop, item_one}

pub stops_append : (a b : List Placed) → Stops a → Stops b → Stops (a ++ b)
stops_append [] b h k = k
stops_append (p ∷ a) b h k = h

-- an item that is cut off begins with a line of its own
pub part_stop : (part : List Placed) → IsUnfinished part → Stops part
part_stop [] u = tt
part_stop (p ∷ part) u =
    let s = shape ((p ∷ part) ++ u.more) u.item u.begins in
    subst (λ (x : Placed). Stops (x ∷ part)) (sym (cons_cut p s.first (part ++ u.more) s.others s.rows_are).0) s.starts

-- what is cut off holds no whole item
pub no_item_first : (part front others : List Placed) (i : Item) → IsUnfinished part → IsItem front i → Stops others → part ≡ front ++ others → ⊥
no_item_first part front [] i u h st e = u.none i (subst (λ r. IsItem r i) (sym (e ∙ append_nil front)) h)
no_item_first part front (p ∷ others) i u h st e =
    let s = shape front i h in
    let t = shape (part ++ u.more) u.item u.begins in
    let whole : s.first ∷ (s.others ++ ((p ∷ others) ++ u.more)) ≡ t.first ∷ (t.others ++ []) =
    ap (λ (r : List Placed). r ++ ((p ∷ others) ++ u.more)) (sym s.rows_are) ∙ sym (append_assoc front (p ∷ others) u.more) ∙ ap (λ (r : List Placed). r ++ u.more) (sym e) ∙ t.rows_are ∙ ap (λ (r : List Placed). t.first ∷ r) (sym (append_nil t.others)) in
    let cut = cons_cut s.first t.first (s.others ++ ((p ∷ others) ++ u.more)) (t.others ++ []) whole in
    let none : p ∷ (others ++ u.more) ≡ [] = (span s.others t.others ((p ∷ others) ++ u.more) [] s.inner t.inner st tt cut.1).1 in
    absurd cc

one_whole : (w v part rest : List Placed) (is js : List Item) → many IsItem w is → many IsItem v js → IsUnfinished part → IsUnfinished rest → w ++ part ≡ v ++ rest → is ≡ js
one_whole w v part rest [] [] h k u x e = refl
one_whole w v part rest [] (j ∷ js) h k u x e =
    absurd (no_item_first part k.0 (k.1 ++ rest) j u k.3 (stops_append k.1 rest (items_stop k.1 js k.4) (part_stop rest x)) (ap (λ (r : List Placed). r ++ part) (sym h) ∙ e ∙ ap (λ (r : List Placed). r ++ rest) k.2 ∙ append_assoc k.0 k.1 rest))
one_whole w v part rest (i ∷ is) [] h k u x e =
    absurd (no_item_first rest h.0 (h.1 ++ part) i x h.3 (stops_append h.1 part (items_stop h.1 is h.4) (part_stop part u)) (ap (λ (r : List Placed). r ++ rest) (sym k) ∙ sym e ∙ ap (λ (r : List Placed). r ++ part) h.2 ∙ append_assoc h.0 h.1 part))
one_whole w v part rest (i ∷ is) (j ∷ js) h k u x e =
    let s = shape h.0 i h.3 in
    let t = shape k.0 j k.3 in
    let whole : s.first ∷ (s.others ++ (h.1 ++ part)) ≡ t.first ∷ (t.others ++ (k.1 ++ rest)) =
    ap (λ (r : List Placed). r ++ (h.1 ++ part)) (sym s.rows_are) ∙ sym (append_assoc h.0 h.1 part) ∙ ap (λ (r : List Placed). r ++ part) (sym h.2) ∙ e ∙ ap (λ (r : List Placed). r ++ rest) k.2 ∙ append_assoc k.0 k.1 rest ∙ ap (λ (r : List Placed). r ++ (k.1 ++ rest)) t.rows_are in
    let cut = cons_cut s.first t.first (s.others ++ (h.1 ++ part)) (t.others ++ (k.1 ++ rest)) whole in
    let both = span s.others t.others (h.1 ++ part) (k.1 ++ rest) s.inner t.inner (stops_append h.1 part (items_stop h.1 is h.4) (part_stop part u)) (stops_append k.1 rest (items_stop k.1 js k.4) (part_stop rest x)) cut.1 in
    let fronts : h.0 ≡ k.0 = s.rows_are ∙ ap (λ (r : Placed). r ∷ s.others) cut.0 ∙ ap (λ (r : List Placed). t.first ∷ r) both.0 ∙ sym t.rows_are in
    let head = item_one k.0 i j (subst (λ r. IsItem r i) fronts h.3) k.3 in
    let more = one_whole h.1 k.1 part rest is js h.4 k.4 u x both.1 in
    ap (λ (y : Item). y ∷ is) head ∙ ap (λ (ys : List Item). j ∷ ys) more

pub same_reach : (at : ℕ) (p : Bool) (text : List ℕ) (rows qs : List Row) (x y : List ℕ) (cs ds : List Command) → Reaches at p text rows x cs → Reaches at p text qs y ds → rows ≡ qs → cs ≡ ds
same_reach at p text rows qs x y cs ds f g e =
    f.these ∙ ap commands_of (one_whole f.whole g.whole f.part g.part f.items g.items f.said g.said f.unfinished g.unfinished (sym f.cut ∙ ap (placed at) e ∙ g.cut)) ∙ sym g.these

-- rows that are as long as rows that they go on from are these
no_more : (rows more : List Row) → length (text_of rows) ≡ length (text_of (rows ++ more)) → rows ++ more ≡ rows
no_more rows [] e = append_nil rows
no_more rows (r ∷ m) e = absurd (omega (arith, e, ap length (text_of-append rows (r ∷ m)), length-append (text_of rows) (text_of (r ∷ m)), length-append (row_text r) (text_of m), length-append r.line (10 ∷ r.raw)))

same_lines : (at : ℕ) (p : Bool) (text : List ℕ) (cs ds : List Command) (place other : ℕ) (b c : Bool) → IsLineFault at p text cs place b → IsLineFault at p text ds other c → place ≡ other → cs ≡ ds
same_lines at p text cs ds place other b c f g e =
    let same : at + length (text_of f.rows) ≡ at + length (text_of g.rows) = sym f.here ∙ e ∙ g.here in
    let long : length (text_of f.rows) ≡ length (text_of g.rows) = omega (arith, same) in
    same_reach at p text f.rows g.rows (f.line ++ 10 ∷ f.rest) (g.line ++ 10 ∷ g.rest) cs ds f.before g.before
    (elim (goes_on f.rows g.rows (f.line ++ 10 ∷ f.rest) (g.line ++ 10 ∷ g.rest) f.before.good g.before.good (sym f.before.spelled ∙ g.before.spelled)) [
      | inl h ↦ sym (h.1 ∙ no_more f.rows h.0 (long ∙ ap (λ (r : List Row). length (text_of r)) h.1))
      | inr h ↦ h.2 ∙ no_more g.rows (h.0 ∷ h.1) (sym long ∙ ap (λ (r : List Row). length (text_of r)) h.2)
    ])

same_ends : (at : ℕ) (p : Bool) (text : List ℕ) (cs ds : List Command) (place other : ℕ) → IsEndFault at p text cs place → IsEndFault at p text ds other → cs ≡ ds
same_ends at p text cs ds place other f g =
    same_reach at p text f.rows g.rows f.rest g.rest cs ds f.before g.before
    (elim (goes_on f.rows g.rows f.rest g.rest f.before.good g.before.good (sym f.before.spelled ∙ g.before.spelled)) [
      | inl h ↦ sym (h.1 ∙ none f.rows h.0 f.rest g.rest h.2 h.3 f.cut)
      | inr h ↦ absurd (g.cut h.0 (text_of h.1 ++ f.rest) (h.3 ∙ append_assoc (row_text h.0) (text_of h.1) f.rest) h.4.0)
    ])
  where
    none : (rows more : List Row) (x y : List ℕ) → x ≡ text_of more ++ y → AreRows more y → ((row : Row) (next : List ℕ) → x ≡ row_text row ++ next → IsRow row next → ⊥) → rows ++ more ≡ rows
    none rows [] x y e a c = append_nil rows
    none rows (r ∷ m) x y e a c = absurd (c r (text_of m ++ y) (e ∙ append_assoc (row_text r) (text_of m) y) a.0)

pub same_before : (at : ℕ) (p : Bool) (text : List ℕ) (cs ds : List Command) (place other : ℕ) (why : StreamWhy) → IsFault at p text cs place why → IsFault at p text ds other why → place ≡ other → cs ≡ ds
same_before at p text cs ds place other Grammar f g e = same_lines at p text cs ds place other false false f g e
same_before at p text cs ds place other LeftOut f g e = same_lines at p text cs ds place other true true f g e
same_before at p text cs ds place other End f g e = same_ends at p text cs ds place other f g
same_before at p text cs ds place other Mark f g e = absurd f
same_before at p text cs ds place other Branch f g e = absurd f
same_before at p text cs ds place other Place f g e = absurd f

pub one_fault_whole : (at : ℕ) (p : Bool) (text : List ℕ) (cs ds : List Command) (place other : ℕ) (why because : StreamWhy) → IsFault at p text cs place why → IsFault at p text ds other because → (cs ≡ ds) × (place ≡ other) × (why ≡ because)
one_fault_whole at p text cs ds place other why because f g =
    let same = one_fault at p text cs ds place other why because f g in
    (same_before at p text cs ds place other because (subst (λ (w : StreamWhy). IsFault at p text cs place w) same.1 f) g same.0, same.0, same.1)
