-- What fields hold: their bytes say it in one way, and begin with the fields.
use Rattle.std.proofs.Common.{◌≡◌, ℕ, ◌+◌, ◌≤◌, Option, Some, None, List, [], ◌∷◌, ◌++◌, length, refl, sym, ap, ◌∙◌, subst, inl, inr, arith, length-append}
use Rattle.swh_format.specs.declared.kinds.Field.{Field}
use Rattle.swh_format.specs.declared.kinds.Field.TheVariants as field
use Rattle.swh_format.specs.Fields.{coded_snapshot, IsSnapshotId, Content, field_text, Fits, Contents, text, AreFit, IsField, FieldsHold, Spells}
use Rattle.swh_format.proofs.Cuts.{cut, cut_four, cut_eight, same_head, same_tail}

snapshot_same : (s t : Option (List ℕ)) (x y : List ℕ) → IsSnapshotId s → IsSnapshotId t → coded_snapshot s ++ x ≡ coded_snapshot t ++ y → (s ≡ t) × (x ≡ y)
snapshot_same None None x y hs ht e = (refl, same_tail 0 0 x y e)
snapshot_same None (Some id) x y hs ht e = absurd (omega (arith, same_head 0 1 x (id ++ y) e))
snapshot_same (Some id) None x y hs ht e = absurd (omega (arith, same_head 1 0 (id ++ x) y e))
snapshot_same (Some id) (Some jd) x y hs ht e =
    let both = cut id jd x y (hs ∙ sym ht) (same_tail 1 1 (id ++ x) (jd ++ y) e) in
    (ap (λ (l : List ℕ). Some l) both.0, both.1)

one_content : (f : Field) (c d : Content f) (x y : List ℕ) → Fits f c → Fits f d → field_text f c ++ x ≡ field_text f d ++ y → (c ≡ d) × (x ≡ y)
one_content field.Four c d x y hc hd e = cut_four c d x y hc hd e
one_content field.Eight c d x y hc hd e = cut_eight c d x y hc hd e
one_content (field.Byte k) c d x y hc hd e = (same_head c d x y e, same_tail c d x y e)
one_content field.Id c d x y hc hd e = cut c d x y (hc ∙ sym hd) e
one_content field.Snapshot c d x y hc hd e = snapshot_same c d x y hc hd e

-- The same bytes hold the same, and have the same behind the fields.
pub one_text : (fs : List Field) (c d : Contents fs) (x y : List ℕ) → AreFit fs c → AreFit fs d → text fs c x ≡ text fs d y → (c ≡ d) × (x ≡ y)
one_text [] c d x y hc hd e = (refl, e)
one_text (f ∷ fs) c d x y hc hd e =
    let one = one_content f c.0 d.0 (text fs c.1 x) (text fs d.1 y) hc.0 hd.0 e in
    let more = one_text fs c.1 d.1 x y hc.1 hd.1 one.1 in
    ((λ i. (one.0 i, more.0 i)), more.1)

snapshot_field : (s : Option (List ℕ)) → IsSnapshotId s → IsField field.Snapshot (coded_snapshot s)
snapshot_field None h = inl refl
snapshot_field (Some id) h = inr (id, refl, h)

is_field : (f : Field) (c : Content f) → Fits f c → IsField f (field_text f c)
is_field field.Four c h = refl
is_field field.Eight c h = refl
is_field (field.Byte k) c h = (c, refl, h)
is_field field.Id c h = h
is_field field.Snapshot c h = snapshot_field c h

-- Bytes that say what fits the fields begin with them.
pub text_holds : (fs : List Field) (c : Contents fs) (x : List ℕ) → AreFit fs c → FieldsHold fs (text fs c x)
text_holds [] c x h = tt
text_holds (f ∷ fs) c x h = (field_text f c.0, text fs c.1 x, refl, is_field f c.0 h.0, text_holds fs c.1 x h.1)

-- as many bytes as the field has at most
unfoldable pub width : Field → ℕ
width field.Four = 4
width field.Eight = 8
width (field.Byte c) = 1
width field.Id = 20
width field.Snapshot = 21

unfoldable pub widths : List Field → ℕ
widths [] = 0
widths (f ∷ fs) = width f + widths fs

pub field_short : (f : Field) (front : List ℕ) → IsField f front → length front ≤ width f
unfolding width
field_short field.Four front h = omega (arith, h)
field_short field.Eight front h = omega (arith, h)
field_short (field.Byte c) front h = let l : length front ≡ 1 = ap length h.1 in omega (arith, l)
field_short field.Id front h = omega (arith, h)
field_short field.Snapshot front h =
    elim h [ inl e ↦ (let l : length front ≡ 1 = ap length e in omega (arith, l)) | inr i ↦ (let l : length front ≡ length (1 ∷ i.0) = ap length i.1 in let t = i.2 in omega (arith, l, t)) ]

pub text_short : (fs : List Field) (c : Contents fs) (x : List ℕ) → AreFit fs c → length (text fs c x) ≤ widths fs + length x
unfolding widths
text_short [] c x h = omega arith
text_short (f ∷ fs) c x h =
    let one = field_short f (field_text f c.0) (is_field f c.0 h.0) in
    let more = text_short fs c.1 x h.1 in
    omega (arith, one, more, length-append (field_text f c.0) (text fs c.1 x))

-- Bytes that say something in fields begin with them.
pub spells_hold : (fs : List Field) (bytes : List ℕ) → Spells fs bytes → FieldsHold fs bytes
spells_hold fs bytes s = subst (FieldsHold fs) (sym s.says.spelled) (text_holds fs s.holds s.behind s.says.fit)

-- They say one thing.
pub one_spelling : (fs : List Field) (bytes bytes' : List ℕ) (s : Spells fs bytes) (t : Spells fs bytes') → bytes ≡ bytes' → (s.holds ≡ t.holds) × (s.behind ≡ t.behind)
one_spelling fs bytes bytes' s t same = one_text fs s.holds t.holds s.behind t.behind s.says.fit t.says.fit (sym s.says.spelled ∙ same ∙ t.says.spelled)
