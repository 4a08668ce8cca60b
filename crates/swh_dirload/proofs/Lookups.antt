-- Where paths lead, component by component.
use Rattle.std.proofs.Common.{◌≡◌, ℕ, ◌<◌, List, ◌∷◌, ◌++◌, length, Contains, sym, ap, ◌∙◌, subst}
use Rattle.swh_base.specs.Directory.{IsEntryName}
use Rattle.swh_fastlex.specs.Path.{IsComponent}
use Rattle.swh_dirmade.specs.declared.spot.Spot.{Spot}
use Rattle.swh_dirmade.specs.Paths.{child}
use Rattle.swh_dirmade.specs.Spots.{path_to, above_at, name_at, IsTable}
use Rattle.swh_dirload.specs.Index.{IsIn, HasNone, IsCutOff, MayAdd}
use Rattle.swh_dirmade.proofs.Paths.{child_some, child_deeper, child_below}
use Rattle.swh_dirmade.proofs.Trees.{parent}
use Rattle.swh_dirmade.proofs.SpotTables.{tree_of}

pub path_first : (spots : List Spot) (path : List ℕ) → IsTable spots → path ≡ child (path_to spots 0) path
path_first spots path table = sym (ap (λ (dir : List ℕ). child dir path) (tree_of spots table).first)

path_is : (spots : List Spot) (above : ℕ) (name : List ℕ) (number : ℕ) → IsTable spots → IsIn spots above name number → path_to spots number ≡ child (path_to spots above) name
path_is spots above name number table is =
    (tree_of spots table).step number is.behind is.within ∙ ap (λ (a : ℕ). child (path_to spots a) (name_at spots number)) is.inside ∙ ap (λ (n : List ℕ). child (path_to spots above) n) is.called

-- the path goes on below a component
below : (spots : List Spot) (above : ℕ) (path rest component after : List ℕ) → path ≡ child (path_to spots above) rest → rest ≡ component ++ 47 ∷ after → IsComponent component → path ≡ child (path_to spots above) component ++ 47 ∷ after
below spots above path rest component after cut at good = cut ∙ ap (λ (r : List ℕ). child (path_to spots above) r) at ∙ child_deeper (path_to spots above) component after good.some

pub entered : (spots : List Spot) (above : ℕ) (path rest component after : List ℕ) (number : ℕ) → IsTable spots → path ≡ child (path_to spots above) rest → rest ≡ component ++ 47 ∷ after → IsComponent component → IsIn spots above component number → path ≡ child (path_to spots number) after
entered spots above path rest component after number table cut at good is =
    let here = path_is spots above component number table is in
    below spots above path rest component after cut at good ∙ ap (λ (p : List ℕ). p ++ 47 ∷ after) (sym here) ∙ sym (child_below (path_to spots number) after (λ e. child_some (path_to spots above) component good.some (sym here ∙ e)))

pub cut_off : (spots : List Spot) (above : ℕ) (path rest component after : List ℕ) → IsTable spots → above < length spots → path ≡ child (path_to spots above) rest → (Contains component 47 → ⊥) → rest ≡ component ++ 47 ∷ after → IsComponent component → HasNone spots above component → IsCutOff spots path
cut_off spots above path rest component after table within cut plain at good none = record {
  front = child (path_to spots above) component;
  rest = after;
  cut = below spots above path rest component after cut at good;
  free = λ k lt e.
      let h = parent (length spots) (path_to spots) (above_at spots) (name_at spots) (tree_of spots table) k above component lt within plain good.some e in
      none k (record { behind = h.0; within = lt; inside = h.1.0; called = h.1.1 });
}

pub arrived : (spots : List Spot) (above : ℕ) (path rest : List ℕ) (number : ℕ) → IsTable spots → path ≡ child (path_to spots above) rest → IsIn spots above rest number → (number < length spots) × (path_to spots number ≡ path)
arrived spots above path rest number table cut is = (is.within, path_is spots above rest number table is ∙ sym cut)

pub may_add : (spots : List Spot) (above : ℕ) (path rest name : List ℕ) → above < length spots → path ≡ child (path_to spots above) rest → (Contains rest 47 → ⊥) → IsComponent rest → HasNone spots above rest → name ≡ rest → MayAdd spots path above name
may_add spots above path rest name within cut plain good none is =
    let named : IsEntryName rest = record { not_empty = good.some; no_nul = good.no_nul; no_slash = plain } in
    let may : MayAdd spots path above rest = record { within = within; named = named; cut = cut; none = none } in
    subst (λ (n : List ℕ). MayAdd spots path above n) (sym is) may
