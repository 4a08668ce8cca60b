-- Objects that are given once.
use Rattle.std.proofs.Common.{◌≡◌, ℕ, List, [], ◌∷◌, ◌++◌, Contains, sym, ap, ◌∙◌, subst}
use Rattle.std.specs.List.{AllByRecursion}
use Rattle.std.proofs.lemmas.List.{map-append}
use Rattle.swh_base.specs.declared.kind.Kind.{Kind}
use Rattle.swh_base.specs.declared.entry.Entry.{Entry}
use Rattle.swh_object.specs.Object.{IsObject}
use Rattle.swh_model.specs.Meaning.{Made}
use Rattle.swh_dedup.specs.Making.{made_from, made, names_of_made}
use Rattle.swh_dedup.specs.Giving.{AreNew}
use Rattle.swh_dedup.specs.Seen.{Adds}
use Rattle.swh_dedup.specs.declared.seen.Novelty.{Novelty}
use Rattle.swh_dedup.specs.declared.seen.Novelty.TheVariants.{New}
use Rattle.swh_dedup.proofs.Givens.{new_push}

pub given_new : (id : Kind → List ℕ → List ℕ) (objects : List Entry) (object : Entry) (seen seen_now : List Made) (novelty : Novelty) (now : List Entry) → novelty ≡ New → Adds seen (made_from object) seen_now novelty → seen ≡ made objects → AreNew id [] objects → IsObject id object → AllByRecursion (Contains (names_of_made id (made objects))) object.kids → now ≡ objects ++ object ∷ [] → (seen_now ≡ made now) × AreNew id [] now
given_new id objects object seen seen_now novelty now is adds same new good kids added =
    let a : Adds seen (made_from object) seen_now New = subst (λ (n : Novelty). Adds seen (made_from object) seen_now n) is adds in
    let fresh : Contains (made objects) (made_from object) → ⊥ = λ c. a.0 (subst (λ (ms : List Made). Contains ms (made_from object)) (sym same) c) in
    let all : seen_now ≡ made now = a.1 ∙ ap (λ (ms : List Made). ms ++ made_from object ∷ []) same ∙ sym (map-append made_from objects (object ∷ [])) ∙ ap made (sym added) in
    (all, subst (AreNew id []) (sym added) (new_push id [] objects object new fresh good kids))
