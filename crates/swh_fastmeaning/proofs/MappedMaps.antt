-- Finite maps of which keys and values are seen in another form.
use Rattle.std.proofs.Common.{◌≡◌, Bool, true, false, cond, Some, List, [], ◌∷◌, map, refl, ap}
use Rattle.std.specs.Option.{option_map}
use Rattle.std.specs.Map.{lookup, remove_entry}
use Rattle.std.specs.BTreeMap.{insert_entry}
use Rattle.std.specs.Ordering.{match_ordering}
use Rattle.std.specs.declared.cmp.Ordering.{Ordering}
use Rattle.std.specs.declared.cmp.Ordering.TheVariants.{Less, Equal, Greater}

module _ {K L X Y : Type 0} (g : K → L) (h : X → Y) where
  -- an entry in its other form
  abbrev pub entry : K × X → L × Y
  entry e = (g e.0, h e.1)

  pub lookup-mapped : (test : L → Bool) (es : List (K × X)) → lookup test (map entry es) ≡ option_map h (lookup (λ k. test (g k)) es)
  lookup-mapped test [] = refl
  lookup-mapped test (e ∷ es) =
      elim (test (g e.0)) as (λ b. cond b (Some (h e.1)) (lookup test (map entry es)) ≡ option_map h (cond b (Some e.1) (lookup (λ k. test (g k)) es))) [
        | true ↦ refl
        | false ↦ lookup-mapped test es
      ]

  pub remove-mapped : (test : L → Bool) (es : List (K × X)) → remove_entry test (map entry es) ≡ map entry (remove_entry (λ k. test (g k)) es)
  remove-mapped test [] = refl
  remove-mapped test (e ∷ es) =
      elim (test (g e.0)) as (λ b. cond b (map entry es) (entry e ∷ remove_entry test (map entry es)) ≡ map entry (cond b es (e ∷ remove_entry (λ k. test (g k)) es))) [
        | true ↦ refl
        | false ↦ ap (λ (t : List (L × Y)). entry e ∷ t) (remove-mapped test es)
      ]

  pub insert-mapped : (cmp : L → L → Ordering) (es : List (K × X)) (k : K) (v : X) → insert_entry cmp (map entry es) (g k) (h v) ≡ map entry (insert_entry (λ a b. cmp (g a) (g b)) es k v)
  insert-mapped cmp [] k v = refl
  insert-mapped cmp (e ∷ es) k v =
      elim (cmp (g k) (g e.0)) as (λ o. match_ordering o ((g k, h v) ∷ entry e ∷ map entry es) ((g e.0, h v) ∷ map entry es) (entry e ∷ insert_entry cmp (map entry es) (g k) (h v))
      ≡ map entry (match_ordering o ((k, v) ∷ e ∷ es) ((e.0, v) ∷ es) (e ∷ insert_entry (λ a b. cmp (g a) (g b)) es k v))) [
        | Less ↦ refl
        | Equal ↦ refl
        | Greater ↦ ap (λ (t : List (L × Y)). entry e ∷ t) (insert-mapped cmp es k v)
      ]
