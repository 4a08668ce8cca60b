use Rattle.std.proofs.Common.{◌≡◌, ℕ, List, [], ◌∷◌, ◌++◌, length, Contains, map, slice_get, Some, None, sym, ap, ◌∙◌, subst, arith}
use Rattle.std.proofs.lemmas.List.{map-append, length-map}
use Rattle.swh_base.specs.declared.entry.Entry.{Entry}
use Rattle.swh_base.specs.declared.name.Name.{Name}
use Rattle.swh_model.specs.Meaning.{Made}
use Rattle.swh_dedup.specs.declared.seen.Kept.{Kept}
use Rattle.swh_dedup.specs.Making.{made_from, object_of}
use Rattle.swh_dedup.specs.Seen.{digest_of, kept_made, slot_at, places_at, GetsPlace, IsIndexed}
use Rattle.swh_dedup.proofs.Seens.{indexed_same, indexed_more, absent, same_object, noted_known, noted_new}
use Rattle.swh_dedup.proofs.seen.Seen.add.Goals as goal

pub invariant_of-self-in_err-note : goal.invariant_of-self-in_err-note
invariant_of-self-in_err-note g c =
    let inside = c.self.inside in
    subst (λ (t : List Kept). IsIndexed g.N.Namer.id_of (map kept_made t) c.note.new.places) (sym c.in_ok-reserve.ensures.items)
    (indexed_same g.N.Namer.id_of (map kept_made inside.made.items) inside.places c.note.new.places c.in_err-note.ensures.err c.self.invariant)

pub invariant_of-self-in-Known : goal.invariant_of-self-in-Known
invariant_of-self-in-Known g c =
    let inside = c.self.inside in
    let same = noted_known (map kept_made c.as_slice-made.result.now) (digest_of c.name-name.result.id) c.len-place.result (object_of c.name-name.result.kind c.body-2.result.now) inside.places c.note.new.places _ c.in-Known.is c.in_ok-note.ensures.noted in
    subst (λ (t : List Kept). IsIndexed g.N.Namer.id_of (map kept_made t) c.note.new.places) (sym c.in_ok-reserve.ensures.items)
    (indexed_same g.N.Namer.id_of (map kept_made inside.made.items) inside.places c.note.new.places same.0 c.self.invariant)

pub invariant_of-self-in-Known-2 : goal.invariant_of-self-in-Known-2
invariant_of-self-in-Known-2 g c =
    let inside = c.self.inside in
    let same = noted_known (map kept_made c.as_slice-made.result.now) (digest_of c.name-name.result.id) c.len-place.result (object_of c.name-name.result.kind c.body-2.result.now) inside.places c.note.new.places _ c.in-Known.is c.in_ok-note.ensures.noted in
    subst (λ (t : List Kept). IsIndexed g.N.Namer.id_of (map kept_made t) c.note.new.places) (sym c.in_ok-reserve.ensures.items)
    (indexed_same g.N.Namer.id_of (map kept_made inside.made.items) inside.places c.note.new.places same.0 c.self.invariant)

pub invariant_of-self-in-New : goal.invariant_of-self-in-New
invariant_of-self-in-New g c =
    let inside = c.self.inside in
    let old = map kept_made inside.made.items in
    let n = made_from c.args.object.now in
    let id : c.name-name.result.id ≡ g.N.Namer.id_of n.kind n.body = ap (λ (n : Name). n.id) c.name-name.ensures.name ∙ c.name-name.ensures.good.named in
    let mapped = length-map inside.made.items kept_made in
    let place : c.len-place.result ≡ length old = omega (arith, c.len-place.ensures, c.in_ok-reserve.ensures.len, inside.made.ok.0, mapped) in
    let noted = noted_new (map kept_made c.as_slice-made.result.now) (digest_of c.name-name.result.id) c.len-place.result (object_of c.name-name.result.kind c.body-2.result.now) inside.places c.note.new.places _ c.in-New.is c.in_ok-note.ensures.noted in
    let gets : GetsPlace (digest_of (g.N.Namer.id_of n.kind n.body)) (length old) inside.places c.note.new.places =
    subst (λ (i : List ℕ). GetsPlace (digest_of i) (length old) inside.places c.note.new.places) id
    (subst (λ (k : ℕ). GetsPlace (digest_of c.name-name.result.id) k inside.places c.note.new.places) place noted.0) in
    let kept : object_of c.name-name.result.kind c.in_ok-body.body ≡ n =
    same_object c.name-name.result.kind n.kind c.in_ok-body.body n.body (ap (λ (n : Name). n.kind) c.name-name.ensures.name) (c.in_ok-body.ensures ∙ ap (λ (e : Entry). e.body) c.entry.ensures.entry) in
    let added : map kept_made c.push_reserved.new.self.items ≡ old ++ n ∷ [] =
    ap (map kept_made) c.push_reserved.ensures.items ∙ map-append kept_made c.reserve.new.self.items _
    ∙ ap (λ (ms : List Made). ms ++ object_of c.name-name.result.kind c.in_ok-body.body ∷ []) (ap (map kept_made) c.in_ok-reserve.ensures.items)
    ∙ ap (λ (m : Made). old ++ m ∷ []) kept in
    subst (λ (t : List Made). IsIndexed g.N.Namer.id_of t c.note.new.places) (sym added)
    (indexed_more g.N.Namer.id_of old inside.places c.note.new.places n gets c.self.invariant)

pub returns-in-New-clause-ok : goal.returns-in-New-clause-ok
returns-in-New-clause-ok g c =
    let inside = c.self.inside in
    let old = map kept_made inside.made.items in
    let n = made_from c.args.object.now in
    let kind : c.name-name.result.kind ≡ n.kind = ap (λ (n : Name). n.kind) c.name-name.ensures.name in
    let id : c.name-name.result.id ≡ g.N.Namer.id_of n.kind n.body = ap (λ (n : Name). n.id) c.name-name.ensures.name ∙ c.name-name.ensures.good.named in
    let kept : object_of c.name-name.result.kind c.in_ok-body.body ≡ n =
    same_object c.name-name.result.kind n.kind c.in_ok-body.body n.body kind (c.in_ok-body.ensures ∙ ap (λ (e : Entry). e.body) c.entry.ensures.entry) in
    let asked : object_of c.name-name.result.kind c.body-2.result.now ≡ n = same_object c.name-name.result.kind n.kind c.body-2.result.now n.body kind c.body-2.ensures in
    let added : map kept_made c.push_reserved.new.self.items ≡ old ++ n ∷ [] =
    ap (map kept_made) c.push_reserved.ensures.items ∙ map-append kept_made c.reserve.new.self.items _
    ∙ ap (λ (ms : List Made). ms ++ object_of c.name-name.result.kind c.in_ok-body.body ∷ []) (ap (map kept_made) c.in_ok-reserve.ensures.items)
    ∙ ap (λ (m : Made). old ++ m ∷ []) kept in
    let noted = noted_new (map kept_made c.as_slice-made.result.now) (digest_of c.name-name.result.id) c.len-place.result (object_of c.name-name.result.kind c.body-2.result.now) inside.places c.note.new.places _ c.in-New.is c.in_ok-note.ensures.noted in
    let fresh = absent g.N.Namer.id_of old inside.places n c.self.invariant
    (λ taken k h e. noted.1 (subst (λ (i : List ℕ). slot_at inside.places.slots.items (digest_of i) ≡ None → ⊥) (sym id) taken) k (subst (λ (i : List ℕ). Contains (places_at inside.places (digest_of i)) k) (sym id) h) (ap (λ (t : List Kept). slice_get (map kept_made t) k) (c.as_slice-made.ensures.value ∙ c.in_ok-reserve.ensures.items) ∙ e ∙ ap Some (sym asked))) in
    (λ h. fresh (subst (λ (t : List Made). Contains t n) (sym c.self.view_is) h), added ∙ ap (λ (t : List Made). t ++ n ∷ []) c.self.view_is)
