-- An object's body behind its head, and what is wrong with it.
use Rattle.std.proofs.Common.{◌≡◌, ℕ, ◌+◌, ◌-◌, ◌≤◌, List, ◌∷◌, ◌++◌, length, take, drop, refl, sym, ap, ◌∙◌, subst, inl, inr, arith, length-append, length-drop, append_assoc}
use Rattle.std.proofs.lemmas.List.{take-append-drop, take-take, length-take-le, drop-take, drop-drop}
use Rattle.std.specs.Int.{w64, to_be_bytes}
use Rattle.swh_base.specs.declared.kind.Kind.{Kind}
use Rattle.swh_base.specs.declared.entry.Entry.{Entry}
use Rattle.swh_base.specs.Name.{kind_number}
use Rattle.swh_base.specs.Limits.{body_limit}
use Rattle.swh_format.specs.StoredObject.{IsCodableEntry}
use Rattle.swh_format.proofs.Cuts.{cut, eight_bytes}
use Rattle.swh_format.proofs.Unique.{entry_then}
use Rattle.swh_recovery.specs.declared.harm.Harm.TheVariants.{Short}
use Rattle.swh_recovery.specs.declared.harm.Found.{Found}
use Rattle.swh_recovery.specs.declared.fault.ReadFault.{ReadFault}
use Rattle.swh_recovery.specs.declared.fault.ReadFault.TheVariants.{DiskFailed, Memory, Harmed}
use Rattle.swh_recovery.specs.declared.object.Head.{Head}
use Rattle.swh_recovery.specs.Fields.{found_at}
use Rattle.swh_recovery.specs.StoreHarm.{BeginsObject, ObjectBreaks}
use Rattle.swh_recovery.proofs.OneObject.{kind_among}
use Rattle.swh_recovery.specs.Reading.{IfHarmed, window, IsHeadOf, BeginsWithHead, BodyHarmsAt, BodyHarms, IsEntryOf, BeginsWith}

pub harmed_map : (fault : ReadFault) (P Q : Found → Type 0) → ((x : Found) → P x → Q x) → IfHarmed fault P → IfHarmed fault Q
harmed_map DiskFailed P Q f h = tt
harmed_map Memory P Q f h = tt
harmed_map (Harmed found) P Q f h = f found h

pub window_length : (seen : List ℕ) (at have : ℕ) → at + have ≤ length seen → length (window seen at have) ≡ have
window_length seen at have inside = length-take-le have (drop at seen) (omega (arith, inside, length-drop at seen))

rest_length : (bytes rest : List ℕ) (h : Head) → IsHeadOf bytes h rest → length bytes ≡ 29 + length rest
rest_length bytes rest h is =
    let l = ap length is.spelled in let t = is.twenty in
    omega (arith, l, t, length-append (to_be_bytes w64 h.size) (h.id ++ rest), length-append h.id rest, eight_bytes h.size)

rest_is : (seen : List ℕ) (at have : ℕ) (h : Head) (rest : List ℕ) → 29 ≤ have → at + have ≤ length seen → IsHeadOf (window seen at have) h rest → rest ≡ window seen (at + 29) (have - 29)
rest_is seen at have h rest head inside is =
    let all = window seen at have in
    let front = kind_number h.kind ∷ (to_be_bytes w64 h.size ++ h.id) in
    let spelled : all ≡ front ++ rest = is.spelled ∙ ap (λ (l : List ℕ). kind_number h.kind ∷ l) (sym (append_assoc (to_be_bytes w64 h.size) h.id rest)) in
    let t = is.twenty in
    let size : length front ≡ 29 = omega (arith, t, length-append (to_be_bytes w64 h.size) h.id, eight_bytes h.size) in
    let w = window_length seen at have inside in
    let taken : length (take 29 all) ≡ 29 = length-take-le 29 all (omega (arith, w, head)) in
    let both = cut front (take 29 all) rest (drop 29 all) (size ∙ sym taken) (sym spelled ∙ sym (take-append-drop 29 all)) in
    let more : have ≡ 29 + (have - 29) = omega (arith, head) in
    both.1 ∙ ap (λ (n : ℕ). drop 29 (take n (drop at seen))) more ∙ drop-take 29 (have - 29) (drop at seen) ∙ ap (λ (l : List ℕ). take (have - 29) l) (drop-drop 29 at seen)

module _ (seen : List ℕ) (at have : ℕ) (h : Head) (head : 29 ≤ have) (inside : at + have ≤ length seen) (b : BeginsWithHead (window seen at have) h) where
  behind_length : length b.rest ≡ have - 29
  behind_length = let w = window_length seen at have inside in let r = rest_length (window seen at have) b.rest h b.is in omega (arith, w, r)

  pub begins_object : h.size ≤ have - 29 → BeginsObject (window seen at have)
  begins_object le = record {
    kind = h.kind;
    id = h.id;
    body = take h.size b.rest;
    rest = drop h.size b.rest;
    spelled =
        let sized : h.size ≡ length (take h.size b.rest) = sym (length-take-le h.size b.rest (let l = behind_length in omega (arith, l, le))) in
        b.is.spelled ∙ (λ i. kind_number h.kind ∷ (to_be_bytes w64 (sized i) ++ (h.id ++ sym (take-append-drop h.size b.rest) i)));
    twenty = b.is.twenty;
    fits = let f = b.is.fits in let s = length-take-le h.size b.rest (let l = behind_length in omega (arith, l, le)) in omega (arith, f, s);
  }

  body_is : h.size ≤ have - 29 → take h.size b.rest ≡ window seen (at + 29) h.size
  body_is le = ap (λ (l : List ℕ). take h.size l) (rest_is seen at have h b.rest head inside b.is) ∙ take-take h.size (have - 29) (drop (at + 29) seen) le

  module _ (id_of : Kind → List ℕ → List ℕ) where
    pub size_harms : (found : Found) → BodyHarmsAt at have h.size found → ObjectBreaks id_of (window seen at have) at found
    unfolding begins_object
    size_harms found harm =
        elim harm [
          | inl x ↦ inr (inl (record {
            head = record { holds = (kind_number h.kind, (h.size, (h.id, tt))); behind = b.rest; says = record { spelled = b.is.spelled; fit = (kind_among h.kind, (b.is.fits, (b.is.twenty, tt))) } };
            cut = record {
              short = let l = behind_length in let less = x.0 in omega (arith, l, less);
              found_is = x.1 ∙ ap (λ (n : ℕ). found_at (at + 29) (Short n h.size)) (sym behind_length);
            };
          }))
          | inr x ↦ inr (inr (inl (record {
            object = begins_object x.0;
            place = body_limit;
            refused = inl ((let s = length-take-le h.size b.rest (let l = behind_length in let le = x.0 in omega (arith, l, le)) in let above = x.1 in omega (arith, s, above)), refl);
            found_is = x.2;
          })))
        ]

    pub body_harms : (body : List ℕ) → body ≡ window seen (at + 29) h.size → 29 + h.size ≤ have → (found : Found) → BodyHarms id_of h body at found → ObjectBreaks id_of (window seen at have) at found
    unfolding begins_object
    body_harms body is fits found harm =
        let le : h.size ≤ have - 29 = omega (arith, fits) in
        let same : body ≡ take h.size b.rest = is ∙ sym (body_is le) in
        let here = subst (λ (l : List ℕ). BodyHarms id_of h l at found) same harm in
        elim here [
          | inl x ↦ inr (inr (inl (record { object = begins_object le; place = x.0; refused = x.1; found_is = x.2 })))
          | inr x ↦ inr (inr (inr (record { object = begins_object le; well_formed = x.0; short = x.1; other = x.2; found_is = x.3 })))
        ]

    pub begins_with : (body : List ℕ) (e : Entry) → body ≡ window seen (at + 29) h.size → 29 + h.size ≤ have → IsEntryOf id_of h body e → IsCodableEntry e → BeginsWith id_of (window seen at have) e
    unfolding begins_object
    begins_with body e is fits entry codable =
        let le : h.size ≤ have - 29 = omega (arith, fits) in
        let o = begins_object le in
        let same : take h.size b.rest ≡ e.body = body_is le ∙ sym is ∙ sym entry.body_is in
        record {
          good = entry.good;
          codable = codable;
          rest = o.rest;
          spelled = o.spelled
              ∙ (λ i. kind_number (sym entry.kind_is i) ∷ (to_be_bytes w64 (length (same i)) ++ (sym entry.id_is i ++ (same i ++ o.rest))))
              ∙ sym (entry_then e o.rest);
        }
