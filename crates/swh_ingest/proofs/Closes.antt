-- What is made is closed once all of it is held.
use Rattle.std.proofs.Common.{◌≡◌, ℕ, Option, Some, List, [], ◌∷◌, Contains, subst, inl, arith}
use Rattle.std.specs.List.{AllByRecursion}
use Rattle.swh_base.specs.declared.kind.Kind.{Kind}
use Rattle.swh_base.specs.declared.name.Name.{Name}
use Rattle.swh_base.specs.declared.entry.Entry.{Entry}
use Rattle.swh_base.specs.Manifest.{AreChildren}
use Rattle.swh_base.proofs.Children.{one_list}
use Rattle.swh_model.specs.Archive.{Bodies, body_of, IsHeld, IsChild, IsClosed}
use Rattle.swh_model.specs.Certificate.{Certifies}
use Rattle.swh_model.specs.Step.{HasItsChildrenAndName}
use Rattle.swh_base.specs.Snapshot.{snapshot_name}
use Rattle.swh_model.proofs.Certificates.{certified-closed}
use Rattle.swh_object.specs.Object.{IsObject}
use Rattle.swh_dedup.specs.Whole.{names_of, HasChildrenAmong, AreWhole}
use Rattle.swh_ingest.specs.Parts.{ReachesAll}
use Rattle.swh_ingest.specs.Sending.{AllHeld}
use Rattle.swh_ingest.proofs.Batches.{at_element}

all_names : (P : Name → Type 0) (es : List Entry) → AllByRecursion (λ e. P e.name) es → AllByRecursion P (names_of es)
all_names P [] h = tt
all_names P (e ∷ es) h = (h.0, all_names P es h.1)

names_held : (bodies : Bodies) (es : List Entry) → AllHeld bodies es → AllByRecursion (λ e. IsHeld bodies e.name) es
names_held bodies [] h = tt
names_held bodies (e ∷ es) h = ((e.body, h.0), names_held bodies es h.1)

same_body : (o : Option (List ℕ)) (a b : List ℕ) → o ≡ Some a → o ≡ Some b → a ≡ b
same_body o a b x y = cc

child_there : (id : Kind → List ℕ → List ℕ) (bodies : Bodies) (names : List Name) (e : Entry) → IsObject id e → HasChildrenAmong names e → body_of bodies e.name ≡ Some e.body → (child : Name) → IsChild bodies e.name child → Contains names child
child_there id bodies names e o among held child is =
    let same : is.kids ≡ e.kids = one_list e.name.kind e.body is.kids e.kids (subst (λ (b : List ℕ). AreChildren e.name.kind b is.kids) (same_body (body_of bodies e.name) is.body e.body is.held held) is.are) o.kids in
    at_element (Contains names) e.kids child among (subst (λ (ns : List Name). Contains ns child) same is.one_of)

all_children_there : (id : Kind → List ℕ → List ℕ) (bodies : Bodies) (names : List Name) (es : List Entry) → AllByRecursion (IsObject id) es → AllByRecursion (HasChildrenAmong names) es → AllHeld bodies es → AllByRecursion (λ e. (child : Name) → IsChild bodies e.name child → Contains names child) es
all_children_there id bodies names [] o among held = tt
all_children_there id bodies names (e ∷ es) o among held = (child_there id bodies names e o.0 among.0 held.0, all_children_there id bodies names es o.1 among.1 held.1)

certifies : (id : Kind → List ℕ → List ℕ) (bodies : Bodies) (es : List Entry) (root : Name) → AreWhole id es → AllHeld bodies es → Contains (names_of es) root → Certifies bodies [] (names_of es) root
certifies id bodies es root w held there = record {
  begins = inl there;
  held = λ n listed. at_element (IsHeld bodies) (names_of es) n (all_names (IsHeld bodies) es (names_held bodies es held)) listed;
  kids = λ n child listed is. inl (at_element (λ (m : Name). (k : Name) → IsChild bodies m k → Contains (names_of es) k) (names_of es) n (all_names (λ (m : Name). (k : Name) → IsChild bodies m k → Contains (names_of es) k) es (all_children_there id bodies (names_of es) es w.each w.kids held)) listed child is);
}

pub reaches_closed : (id : Kind → List ℕ → List ℕ) (bodies : Bodies) (objects : List Entry) (snapshot : List ℕ) → ReachesAll id objects snapshot → AllHeld bodies objects → IsClosed bodies (snapshot_name snapshot)
reaches_closed id bodies objects snapshot r held =
    let no_name : (n : Name) → Contains [] n → IsClosed bodies n = λ n c. absurd (no_element n c) in
    certified-closed bodies [] (names_of objects) (snapshot_name snapshot) no_name (certifies id bodies objects (snapshot_name snapshot) r.whole held r.root)
  where
    no_element : (n : Name) → Contains [] n → ⊥
    no_element n (k, less, is) = omega (arith, less)

-- the objects are good and named
pub whole_good : (id : Kind → List ℕ → List ℕ) (es : List Entry) → AllByRecursion (IsObject id) es → AllByRecursion (HasItsChildrenAndName id) es
whole_good id [] h = tt
whole_good id (e ∷ es) h = (record { good = record { kids = h.0.kids }; named = h.0.named }, whole_good id es h.1)
