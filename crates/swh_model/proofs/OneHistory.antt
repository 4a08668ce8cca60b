-- Histories that are the same up to the children are the same, since a body has one list of children.
use Rattle.std.proofs.Common.{◌≡◌, ℕ, List, [], ◌∷◌, map, refl, ap, subst}
use Rattle.std.specs.List.{AllByRecursion}
use Rattle.swh_base.specs.declared.kind.Kind.{Kind}
use Rattle.swh_base.specs.declared.name.Name.{Name}
use Rattle.swh_base.specs.declared.entry.Entry.{Entry}
use Rattle.swh_base.specs.Manifest.{AreChildren}
use Rattle.swh_base.proofs.Children.{one_list}
use Rattle.swh_model.specs.declared.event.Event.{Event}
use Rattle.swh_model.specs.declared.event.EventKind.{EventKind}
use Rattle.swh_model.specs.declared.event.EventKind.TheVariants.{Batch}
use Rattle.swh_model.specs.Archive.{Archive, empty_archive}
use Rattle.swh_model.specs.Alike.{without_children, bare_kind, bare_event, AreAlike}
use Rattle.swh_model.specs.Step.{HasItsChildrenAndName, May_kind, MayAll, IsHistory, after}

module _ (id_of : Kind → List ℕ → List ℕ) where
  one_entry : (e f : Entry) → without_children e ≡ without_children f → HasItsChildrenAndName id_of e → HasItsChildrenAndName id_of f → e ≡ f
  one_entry e f alike he hf =
      let names : e.name ≡ f.name = ap (λ (x : Entry). x.name) alike in
      let bodies : e.body ≡ f.body = ap (λ (x : Entry). x.body) alike in
      let children_of_e : AreChildren f.name.kind f.body e.kids = subst (λ (n : Name). AreChildren n.kind f.body e.kids) names (subst (λ (b : List ℕ). AreChildren e.name.kind b e.kids) bodies he.good.kids) in
      let kids = one_list f.name.kind f.body e.kids f.kids children_of_e hf.good.kids in
      λ i. record { name = names i; body = bodies i; kids = kids i }

  one_batch : (es fs : List Entry) → map without_children es ≡ map without_children fs → AllByRecursion (HasItsChildrenAndName id_of) es → AllByRecursion (HasItsChildrenAndName id_of) fs → es ≡ fs
  one_batch [] [] alike he hf = refl
  one_batch [] (f ∷ fs) alike he hf = let e : [] ≡ without_children f ∷ map without_children fs = alike in absurd (cc)
  one_batch (e ∷ es) [] alike he hf = let f : without_children e ≡ without_children e = refl in let g : without_children e ∷ map without_children es ≡ [] = alike in absurd (cc)
  one_batch (e ∷ es) (f ∷ fs) alike he hf =
      let heads : without_children e ≡ without_children f = cc in
      let tails : map without_children es ≡ map without_children fs = cc in
      let one = one_entry e f heads he.0 hf.0 in
      let more = one_batch es fs tails he.1 hf.1 in
      λ i. one i ∷ more i

  one_kind : (a : Archive) (by : ℕ) (x y : EventKind) → bare_kind x ≡ bare_kind y → May_kind id_of a by x → May_kind id_of a by y → x ≡ y
  one_kind a by (Batch es) (Batch fs) alike hx hy =
      let entries : map without_children es ≡ map without_children fs = cc in
      let one = one_batch es fs entries hx.good hy.good in λ i. Batch (one i)
  one_kind a by (Batch es) y alike hx hy = let e : Batch (map without_children es) ≡ bare_kind y = alike in absurd (cc)
  one_kind a by x (Batch fs) alike hx hy = let e : bare_kind x ≡ Batch (map without_children fs) = alike in absurd (cc)
  one_kind a by x y alike hx hy = alike

  one_from : (a : Archive) (g h : List Event) → AreAlike g h → MayAll id_of a g → MayAll id_of a h → g ≡ h
  one_from a [] [] alike hg hh = refl
  one_from a [] (f ∷ h) alike hg hh = let e : [] ≡ bare_event f ∷ map bare_event h = alike in absurd (cc)
  one_from a (e ∷ g) [] alike hg hh = let f : bare_event e ∷ map bare_event g ≡ [] = alike in absurd (cc)
  one_from a (e ∷ g) (f ∷ h) alike hg hh =
      let heads : bare_event e ≡ bare_event f = cc in
      let tails : map bare_event g ≡ map bare_event h = cc in
      let who : e.by ≡ f.by = ap (λ (x : Event). x.by) heads in
      let what = one_kind a f.by e.what f.what (ap (λ (x : Event). x.what) heads) (subst (λ (n : ℕ). May_kind id_of a n e.what) who hg.0) hh.0 in
      let one : e ≡ f = λ i. record { by = who i; what = what i } in
      let more = one_from (after a f) g h tails (subst (λ (x : Event). MayAll id_of (after a x) g) one hg.1) hh.1 in
      λ i. one i ∷ more i

  pub one_history : (g h : List Event) → AreAlike g h → IsHistory id_of g → IsHistory id_of h → g ≡ h
  one_history g h alike hg hh = one_from empty_archive g h alike hg hh
