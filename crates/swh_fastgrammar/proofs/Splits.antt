-- Where the items of a stream are cut in two, and where a line goes on with an item.
use Rattle.std.proofs.Common.{◌≡◌, true, false, List, [], ◌∷◌, ◌++◌, refl, sym, ap, ◌∙◌, subst, append_assoc}
use Rattle.swh_fastgrammar.specs.Grammar.{many, Item, IsItem}
use Rattle.swh_fastgrammar.specs.Row.{Placed}
use Rattle.swh_fastgrammar.proofs.Before.{stops_append}
use Rattle.swh_fastgrammar.proofs.Parts.{cons_cut}
use Rattle.swh_fastgrammar.proofs.Streams.{is_inner, AllInner, Stops, shape, span, items_stop, item_one, some_item}

-- Items of rows are the items up to a line that goes on with none, and those from there on.
pub split_items : (rows more : List Placed) (is js : List Item) → many IsItem rows is → Stops more → many IsItem (rows ++ more) js → (ks : List Item) × (js ≡ is ++ ks) × many IsItem more ks
split_items rows more [] js h st k = (js, refl, subst (λ (r : List Placed). many IsItem r js) (ap (λ (t : List Placed). t ++ more) h) k)
split_items rows more (i ∷ is) [] h st k = absurd (some_item h.0 (h.1 ++ more) i h.3 (sym k ∙ ap (λ (r : List Placed). r ++ more) h.2 ∙ append_assoc h.0 h.1 more))
split_items rows more (i ∷ is) (j ∷ js) h st k =
    let s = shape h.0 i h.3 in
    let t = shape k.0 j k.3 in
    let whole : s.first ∷ (s.others ++ (h.1 ++ more)) ≡ t.first ∷ (t.others ++ k.1) =
    ap (λ (r : List Placed). r ++ (h.1 ++ more)) (sym s.rows_are) ∙ sym (append_assoc h.0 h.1 more) ∙ ap (λ (r : List Placed). r ++ more) (sym h.2) ∙ k.2 ∙ ap (λ (r : List Placed). r ++ k.1) t.rows_are in
    let cut = cons_cut s.first t.first (s.others ++ (h.1 ++ more)) (t.others ++ k.1) whole in
    let both = span s.others t.others (h.1 ++ more) k.1 s.inner t.inner (stops_append h.1 more (items_stop h.1 is h.4) st) (items_stop k.1 js k.4) cut.1 in
    let fronts : h.0 ≡ k.0 = s.rows_are ∙ ap (λ (r : Placed). r ∷ s.others) cut.0 ∙ ap (λ (r : List Placed). t.first ∷ r) both.0 ∙ sym t.rows_are in
    let head = item_one k.0 i j (subst (λ r. IsItem r i) fronts h.3) k.3 in
    let rest = split_items h.1 more is js h.4 st (subst (λ (r : List Placed). many IsItem r js) (sym both.1) k.4) in
    (rest.0, ap (λ (x : Item). x ∷ js) (sym head) ∙ ap (λ (xs : List Item). i ∷ xs) rest.1, rest.2)

against : (p x : Placed) → p ≡ x → is_inner p.row.line ≡ true → is_inner x.row.line ≡ false → ⊥
against p x e t f = let d : true ≡ false = sym t ∙ ap (λ (y : Placed). is_inner y.row.line) e ∙ f in absurd cc

-- Inner lines before an inner line, in front of what no item goes on with: it is one of them.
pub span_on : (a b r q : List Placed) (p : Placed) → AllInner a → is_inner p.row.line ≡ true → Stops q → a ++ (p ∷ r) ≡ b ++ q → (m : List Placed) × (b ≡ a ++ (p ∷ m)) × (r ≡ m ++ q)
span_on [] [] r [] p h t st e = absurd cc
span_on [] [] r (x ∷ q) p h t st e = absurd (against p x (cons_cut p x r q e).0 t st)
span_on [] (x ∷ b) r q p h t st e = let cut = cons_cut p x r (b ++ q) e in (b, ap (λ (y : Placed). y ∷ b) (sym cut.0), cut.1)
span_on (y ∷ a) [] r [] p h t st e = absurd cc
span_on (y ∷ a) [] r (x ∷ q) p h t st e = absurd (against y x (cons_cut y x (a ++ (p ∷ r)) q e).0 h.0 st)
span_on (y ∷ a) (x ∷ b) r q p h t st e =
    let cut = cons_cut y x (a ++ (p ∷ r)) (b ++ q) e in
    let more = span_on a b r q p h.1 t st cut.1 in
    (more.0, ap (λ (z : Placed). z ∷ b) (sym cut.0) ∙ ap (λ (zs : List Placed). y ∷ zs) more.1, more.2)

-- The rows of an item, and an inner line after them, begin another item.
pub record GoesOn (rows : List Placed) (p : Placed) : Type 0 where
  pub more : List Placed
  pub item : Item
  pub said : IsItem (rows ++ (p ∷ more)) item

pub item_on : (rows more : List Placed) (p : Placed) (i : Item) (js : List Item) → IsItem rows i → is_inner p.row.line ≡ true → many IsItem (rows ++ (p ∷ more)) js → GoesOn rows p
item_on rows more p i [] h t k = absurd (some_item rows (p ∷ more) i h (sym k))
item_on rows more p i (j ∷ js) h t k =
    let s = shape rows i h in
    let u = shape k.0 j k.3 in
    let whole : s.first ∷ (s.others ++ (p ∷ more)) ≡ u.first ∷ (u.others ++ k.1) =
    ap (λ (r : List Placed). r ++ (p ∷ more)) (sym s.rows_are) ∙ k.2 ∙ ap (λ (r : List Placed). r ++ k.1) u.rows_are in
    let cut = cons_cut s.first u.first (s.others ++ (p ∷ more)) (u.others ++ k.1) whole in
    let on = span_on s.others u.others more k.1 p s.inner t (items_stop k.1 js k.4) cut.1 in
    let front : k.0 ≡ rows ++ (p ∷ on.0) = u.rows_are ∙ ap (λ (y : Placed). y ∷ u.others) (sym cut.0) ∙ ap (λ (ys : List Placed). s.first ∷ ys) on.1 ∙ ap (λ (ys : List Placed). ys ++ (p ∷ on.0)) (sym s.rows_are) in
    record { more = on.0; item = j; said = subst (λ (r : List Placed). IsItem r j) front k.3 }
