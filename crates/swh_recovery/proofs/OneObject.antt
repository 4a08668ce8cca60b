-- An object breaks in one way at most, and so does a run.
use Rattle.std.proofs.Common.{◌≡◌, ℕ, ◌+◌, ◌-◌, ◌<◌, ◌≤◌, List, [], ◌∷◌, ◌++◌, length, take, drop, refl, sym, ap, ◌∙◌, subst, inl, inr, arith, length-append, append_assoc}
use Rattle.std.proofs.Math.Seq.{take-append-add}
use Rattle.swh_base.specs.declared.kind.Kind.{Kind}
use Rattle.swh_base.specs.declared.kind.Kind.TheVariants.{Content, Directory, Revision, Release, Snapshot}
use Rattle.swh_base.specs.declared.entry.Entry.{Entry}
use Rattle.swh_base.specs.declared.name.Name as names
use Rattle.swh_base.specs.Name.{kind_number, name_key-injective}
use Rattle.swh_base.specs.Limits.{body_limit}
use Rattle.swh_base.specs.Manifest.{IsWellFormed}
use Rattle.swh_dirfmt.proofs.Exact as directory
use Rattle.swh_revfmt.proofs.Faults as revision
use Rattle.swh_snpfmt.proofs.Exact as snapshot
use Rattle.swh_object.specs.Object.{IsObject, IsBadBody}
use Rattle.swh_object.specs.declared.fault.ObjectFault.TheVariants.{BadBody}
use Rattle.swh_object.proofs.Refused.{made_unless}
use Rattle.swh_format.specs.StoredObject.{coded_entry, coded_run, IsCodableEntry}
use Rattle.swh_format.proofs.Contents.{spells_hold, one_spelling}
use Rattle.swh_format.proofs.Cuts.{cut}
use Rattle.swh_format.proofs.Unique.{same_entry, entry_then, length_behind}
use Rattle.swh_format.specs.declared.kinds.Choice.TheVariants as choice
use Rattle.swh_recovery.specs.declared.harm.Harm.TheVariants.{Short, Body, Name}
use Rattle.swh_recovery.specs.declared.harm.Found.{Found}
use Rattle.swh_format.specs.Fields.{IsAmong, Contents, FieldsHold, Spells}
use Rattle.swh_format.specs.Kinds.{choices, head_fields}
use Rattle.swh_recovery.specs.Fields.{found_at}
use Rattle.swh_recovery.specs.StoreHarm.{head_size, BeginsObject, IsRefusedBody, BodyIsCut, ObjectBreaks, AreObjects, HoldsRun, RunBreaks}
use Rattle.swh_recovery.proofs.LadderLaws.{not_both}
use Rattle.swh_recovery.proofs.OneField.{one_fields}

one_kind : (a b : Kind) → kind_number a ≡ kind_number b → a ≡ b
one_kind a b e = ap (λ (n : names.Name). n.kind) (name_key-injective (record { kind = a; id = [] }) (record { kind = b; id = [] }) (let k = e in cc))

pub kind_among : (k : Kind) → IsAmong (kind_number k) (choices choice.Object)
kind_among Content = inl refl
kind_among Directory = inr (inl refl)
kind_among Revision = inr (inr (inl refl))
kind_among Release = inr (inr (inr (inl refl)))
kind_among Snapshot = inr (inr (inr (inr (inl refl))))

-- one place at most at which a body is refused
one_bad : (kind : Kind) (body : List ℕ) (i j : ℕ) → IsBadBody kind body i → IsBadBody kind body j → i ≡ j
one_bad Content body i j a b = absurd a
one_bad Directory body i j a b = (directory.one_fault_lem body i j a.0 b.0 a.1 b.1).0
one_bad Revision body i j a b = revision.one_fault_lem Revision body i j a b
one_bad Release body i j a b = revision.one_fault_lem Release body i j a b
one_bad Snapshot body i j a b = snapshot.one_fault_lem body i j a b

one_refused : (kind : Kind) (body : List ℕ) (i j : ℕ) → IsRefusedBody kind body i → IsRefusedBody kind body j → i ≡ j
one_refused kind body i j a b =
    elim a [
      | inl a ↦ elim b [ inl b ↦ a.1 ∙ sym b.1 | inr b ↦ absurd (let l = a.0 in let m = b.0 in omega (arith, l, m)) ]
      | inr a ↦ elim b [ inl b ↦ absurd (let l = a.0 in let m = b.0 in omega (arith, l, m)) | inr b ↦ one_bad kind body i j a.1 b.1 ]
    ]

not_refused : (kind : Kind) (body : List ℕ) (i : ℕ) → IsRefusedBody kind body i → length body ≤ body_limit → IsWellFormed kind body → ⊥
not_refused kind body i a short well =
    elim a [ inl a ↦ (let l = a.0 in omega (arith, l, short)) | inr a ↦ made_unless kind body (BadBody i) a.1 well ]

head_holds : (bytes : List ℕ) → Spells head_fields bytes → FieldsHold head_fields bytes
head_holds bytes h = spells_hold head_fields bytes h

-- the head of an object
head_of : (bytes : List ℕ) → BeginsObject bytes → Spells head_fields bytes
head_of bytes o = record {
  holds = (kind_number o.kind, (length o.body, (o.id, tt)));
  behind = o.body ++ o.rest;
  says = record { spelled = o.spelled; fit = (kind_among o.kind, (o.fits, (o.twenty, tt))) };
}

-- two readings of an object
record SameObjects (bytes : List ℕ) (o p : BeginsObject bytes) : Type 0 where
  kind : o.kind ≡ p.kind
  id : o.id ≡ p.id
  body : o.body ≡ p.body

same_objects : (bytes : List ℕ) (o p : BeginsObject bytes) → SameObjects bytes o p
unfolding head_of
same_objects bytes o p =
    let same = one_spelling head_fields bytes bytes (head_of bytes o) (head_of bytes p) refl in
    let bodies = cut o.body p.body o.rest p.rest (ap head_size same.0) same.1 in
    record { kind = one_kind o.kind p.kind (ap (λ (c : Contents head_fields). c.0) same.0); id = ap (λ (c : Contents head_fields). c.1.1.0) same.0; body = bodies.0 }

-- an object's body is there
whole_or_cut : (bytes : List ℕ) (at : ℕ) (x : Found) → BeginsObject bytes → BodyIsCut bytes at x → ⊥
unfolding head_of
whole_or_cut bytes at x o c =
    let same = one_spelling head_fields bytes bytes c.head (head_of bytes o) refl in
    let s = c.cut.short in let l = ap length same.1 in let n = ap head_size same.0 in
    omega (arith, s, l, n, length-append o.body o.rest)

module _ (id_of : Kind → List ℕ → List ℕ) where
  broken_or_named : (bytes : List ℕ) (o p : BeginsObject bytes) (place : ℕ) → IsRefusedBody o.kind o.body place → length p.body ≤ body_limit → IsWellFormed p.kind p.body → ⊥
  broken_or_named bytes o p place refused short well =
      let same = same_objects bytes o p in
      not_refused p.kind p.body place (subst (λ (l : List ℕ). IsRefusedBody p.kind l place) same.body (subst (λ (k : Kind). IsRefusedBody k o.body place) same.kind refused)) short well

  one_object : (bytes : List ℕ) (at : ℕ) (x y : Found) → ObjectBreaks id_of bytes at x → ObjectBreaks id_of bytes at y → x ≡ y
  unfolding head_of
  one_object bytes at x y a b =
      elim a [
        | inl a ↦ elim b [
          | inl b ↦ one_fields head_fields bytes at x y a b
          | inr b ↦ absurd (elim b [
            | inl b ↦ not_both head_fields bytes at x (head_holds bytes b.head) a
            | inr b ↦ elim b [ inl b ↦ not_both head_fields bytes at x (head_holds bytes (head_of bytes b.object)) a | inr b ↦ not_both head_fields bytes at x (head_holds bytes (head_of bytes b.object)) a ]
          ])
        ]
        | inr a ↦ elim a [
          | inl a ↦ elim b [
            | inl b ↦ absurd (not_both head_fields bytes at y (head_holds bytes a.head) b)
            | inr b ↦ elim b [
              | inl b ↦
                  (let same = one_spelling head_fields bytes bytes a.head b.head refl in
                  a.cut.found_is ∙ (λ i. found_at (at + 29) (Short (length (same.1 i)) (head_size (same.0 i)))) ∙ sym b.cut.found_is)
              | inr b ↦ absurd (elim b [ inl b ↦ whole_or_cut bytes at x b.object a | inr b ↦ whole_or_cut bytes at x b.object a ])
            ]
          ]
          | inr a ↦ elim a [
            | inl a ↦ elim b [
              | inl b ↦ absurd (not_both head_fields bytes at y (head_holds bytes (head_of bytes a.object)) b)
              | inr b ↦ elim b [
                | inl b ↦ absurd (whole_or_cut bytes at y a.object b)
                | inr b ↦ elim b [
                  | inl b ↦
                      (let same = same_objects bytes a.object b.object in
                      let here = subst (λ (l : List ℕ). IsRefusedBody b.object.kind l a.place) same.body (subst (λ (k : Kind). IsRefusedBody k a.object.body a.place) same.kind a.refused) in
                      a.found_is ∙ ap (λ (n : ℕ). found_at (at + 29) (Body n)) (one_refused b.object.kind b.object.body a.place b.place here b.refused) ∙ sym b.found_is)
                  | inr b ↦ absurd (broken_or_named bytes a.object b.object a.place a.refused b.short b.well_formed)
                ]
              ]
            ]
            | inr a ↦ elim b [
              | inl b ↦ absurd (not_both head_fields bytes at y (head_holds bytes (head_of bytes a.object)) b)
              | inr b ↦ elim b [
                | inl b ↦ absurd (whole_or_cut bytes at y a.object b)
                | inr b ↦ elim b [
                  | inl b ↦ absurd (broken_or_named bytes b.object a.object b.place b.refused a.short a.well_formed)
                  | inr b ↦
                      (let same = same_objects bytes a.object b.object in
                      a.found_is ∙ (λ i. found_at (at + 9) (Name (same.id i) (id_of (same.kind i) (same.body i)))) ∙ sym b.found_is)
                ]
              ]
            ]
          ]
        ]
      ]

  -- an object that stands does not break
  no_object : (bytes x : List ℕ) (e : Entry) (at : ℕ) (found : Found) → IsObject id_of e → IsCodableEntry e → bytes ≡ coded_entry e ++ x → ObjectBreaks id_of bytes at found → ⊥
  unfolding head_of
  no_object bytes x e at found good codable is breaks =
      let o : BeginsObject bytes = record { kind = e.name.kind; id = e.name.id; body = e.body; rest = x; spelled = is ∙ entry_then e x; twenty = codable.id; fits = codable.body } in
      elim breaks [
        | inl b ↦ not_both head_fields bytes at found (head_holds bytes (head_of bytes o)) b
        | inr b ↦ elim b [
          | inl b ↦ whole_or_cut bytes at found o b
          | inr b ↦ elim b [
            | inl b ↦ broken_or_named bytes b.object o b.place b.refused good.short (e.kids, good.kids)
            | inr b ↦
                (let same = same_objects bytes b.object o in
                b.other (same.id ∙ good.named ∙ (λ i. id_of (sym same.kind i) (sym same.body i))))
          ]
        ]
      ]

  -- nor does the front of a run up to a place behind it
  no_object_in : (bytes z : List ℕ) (e : Entry) (at n : ℕ) (found : Found) → IsObject id_of e → IsCodableEntry e → bytes ≡ coded_entry e ++ z → length (coded_entry e) ≤ n → ObjectBreaks id_of (take n bytes) at found → ⊥
  no_object_in bytes z e at n found good codable is le breaks =
      let size : n ≡ length (coded_entry e) + (n - length (coded_entry e)) = omega (arith, le) in
      no_object (take n bytes) (take (n - length (coded_entry e)) z) e at found good codable
      (ap (λ (m : ℕ). take m bytes) size ∙ ap (λ (l : List ℕ). take (length (coded_entry e) + (n - length (coded_entry e))) l) is ∙ take-append-add (coded_entry e) z (n - length (coded_entry e))) breaks

  -- Behind these objects, which begin at a place, the next one breaks, of the bytes up to another place.
  record BreaksBehind (place to : ℕ) (es : List Entry) (bytes : List ℕ) (found : Found) : Type 0 where
    objects : AreObjects id_of es
    rest : List ℕ
    begins : bytes ≡ coded_run es ++ rest
    goes_on : place + length (coded_run es) < to
    breaks : ObjectBreaks id_of (take (to - (place + length (coded_run es))) rest) (place + length (coded_run es)) found

  -- the first object is behind
  behind_one : (place to : ℕ) (e : Entry) (es : List Entry) (bytes more : List ℕ) (found : Found) (b : BreaksBehind place to (e ∷ es) bytes found) → coded_run es ++ b.rest ≡ more → BreaksBehind (place + length (coded_entry e)) to es more found
  behind_one place to e es bytes more found b is =
      let size : place + length (coded_entry e ++ coded_run es) ≡ place + length (coded_entry e) + length (coded_run es) = omega (arith, length-append (coded_entry e) (coded_run es)) in
      record {
        objects = record { good = b.objects.good.1; codable = b.objects.codable.1 };
        rest = b.rest;
        begins = sym is;
        goes_on = subst (λ (n : ℕ). n < to) size b.goes_on;
        breaks = subst (λ (n : ℕ). ObjectBreaks id_of (take (to - n) b.rest) n found) size b.breaks;
      }

  -- where more objects stand up to that place, none breaks
  no_break_behind : (place to : ℕ) (es fs : List Entry) (bytes y : List ℕ) (found : Found) → BreaksBehind place to es bytes found → AreObjects id_of fs → bytes ≡ coded_run fs ++ y → to ≡ place + length (coded_run fs) → ⊥
  no_break_behind place to [] [] bytes y found b fs is ends = let g = b.goes_on in omega (arith, g, ends)
  no_break_behind place to [] (f ∷ fs) bytes y found b are is ends =
      let front : b.rest ≡ coded_entry f ++ (coded_run fs ++ y) = sym b.begins ∙ is ∙ append_assoc (coded_entry f) (coded_run fs) y in
      no_object_in b.rest (coded_run fs ++ y) f (place + 0) (to - (place + 0)) found are.good.0 are.codable.0 front (omega (arith, ends, length-append (coded_entry f) (coded_run fs))) b.breaks
  no_break_behind place to (e ∷ es) [] bytes y found b are is ends = let g = b.goes_on in omega (arith, g, ends)
  no_break_behind place to (e ∷ es) (f ∷ fs) bytes y found b are is ends =
      let joined : coded_entry e ++ (coded_run es ++ b.rest) ≡ coded_entry f ++ (coded_run fs ++ y) = sym (append_assoc (coded_entry e) (coded_run es) b.rest) ∙ sym b.begins ∙ is ∙ append_assoc (coded_entry f) (coded_run fs) y in
      let one = same_entry e f (coded_run es ++ b.rest) (coded_run fs ++ y) b.objects.codable.0 are.codable.0 joined in
      let sizes = length_behind (coded_entry e) (coded_entry f) _ _ joined one.1 in
      no_break_behind (place + length (coded_entry e)) to es fs (coded_run fs ++ y) y found (behind_one place to e es bytes (coded_run fs ++ y) found b one.1)
      (record { good = are.good.1; codable = are.codable.1 }) refl (omega (arith, ends, sizes, length-append (coded_entry f) (coded_run fs)))

  one_break_behind : (place to : ℕ) (es fs : List Entry) (bytes : List ℕ) (x y : Found) → BreaksBehind place to es bytes x → BreaksBehind place to fs bytes y → x ≡ y
  one_break_behind place to [] [] bytes x y a b =
      one_object (take (to - (place + 0)) b.rest) (place + 0) x y (subst (λ (l : List ℕ). ObjectBreaks id_of (take (to - (place + 0)) l) (place + 0) x) (sym a.begins ∙ b.begins) a.breaks) b.breaks
  one_break_behind place to [] (f ∷ fs) bytes x y a b =
      let front : a.rest ≡ coded_entry f ++ (coded_run fs ++ b.rest) = sym a.begins ∙ b.begins ∙ append_assoc (coded_entry f) (coded_run fs) b.rest in
      absurd (no_object_in a.rest (coded_run fs ++ b.rest) f (place + 0) (to - (place + 0)) x b.objects.good.0 b.objects.codable.0 front (let g = b.goes_on in omega (arith, g, length-append (coded_entry f) (coded_run fs))) a.breaks)
  one_break_behind place to (e ∷ es) [] bytes x y a b =
      let front : b.rest ≡ coded_entry e ++ (coded_run es ++ a.rest) = sym b.begins ∙ a.begins ∙ append_assoc (coded_entry e) (coded_run es) a.rest in
      absurd (no_object_in b.rest (coded_run es ++ a.rest) e (place + 0) (to - (place + 0)) y a.objects.good.0 a.objects.codable.0 front (let g = a.goes_on in omega (arith, g, length-append (coded_entry e) (coded_run es))) b.breaks)
  one_break_behind place to (e ∷ es) (f ∷ fs) bytes x y a b =
      let joined : coded_entry e ++ (coded_run es ++ a.rest) ≡ coded_entry f ++ (coded_run fs ++ b.rest) = sym (append_assoc (coded_entry e) (coded_run es) a.rest) ∙ sym a.begins ∙ b.begins ∙ append_assoc (coded_entry f) (coded_run fs) b.rest in
      let one = same_entry e f (coded_run es ++ a.rest) (coded_run fs ++ b.rest) a.objects.codable.0 b.objects.codable.0 joined in
      let sizes = length_behind (coded_entry e) (coded_entry f) _ _ joined one.1 in
      one_break_behind (place + length (coded_entry e)) to es fs (coded_run fs ++ b.rest) x y (behind_one place to e es bytes (coded_run fs ++ b.rest) x a one.1)
      (subst (λ (n : ℕ). BreaksBehind (place + n) to fs (coded_run fs ++ b.rest) y) (sym sizes) (behind_one place to f fs bytes (coded_run fs ++ b.rest) y b refl))

  behind : (from to : ℕ) (store : List ℕ) (x : Found) (b : RunBreaks id_of from to store x) → BreaksBehind from to b.before (drop from store) x
  behind from to store x b = record { objects = b.run.objects; rest = b.run.rest; begins = b.run.begins; goes_on = b.goes_on; breaks = b.breaks }

  pub one_run : (from to : ℕ) (store : List ℕ) (x y : Found) → RunBreaks id_of from to store x → RunBreaks id_of from to store y → x ≡ y
  one_run from to store x y a b = one_break_behind from to a.before b.before (drop from store) x y (behind from to store x a) (behind from to store y b)

  -- a run that is there does not break
  pub no_run : (from to : ℕ) (store y : List ℕ) (es : List Entry) (x : Found) → AreObjects id_of es → drop from store ≡ coded_run es ++ y → to ≡ from + length (coded_run es) → RunBreaks id_of from to store x → ⊥
  no_run from to store y es x are is ends b = no_break_behind from to b.before es (drop from store) y x (behind from to store x b) are is ends

  pub whole_or_broken : (from to : ℕ) (store : List ℕ) (es : List Entry) (x : Found) → HoldsRun id_of from to store es → RunBreaks id_of from to store x → ⊥
  whole_or_broken from to store es x h b =
      no_run from to store h.run.rest es x h.run.objects h.run.begins (let e = h.ends in let g = b.goes_on in omega (arith, e, g)) b
