-- How long the ways to each directory are, found from the end of the order.
use Rattle.std.proofs.Common.{take, get_or, ◌≡◌, ◌⊎◌, inl, inr, ℕ, ◌+◌, ◌<◌, ◌≤◌, Bool, true, false, cond, Option, Some, None, List, [], ◌∷◌, ◌++◌, length, map, refl, sym, ap, ◌∙◌, subst, arith}
use Rattle.std.specs.Prelude.{Contains}
use Rattle.std.specs.Map.{lookup}
use Rattle.std.specs.BTreeMap.{is_at}
use Rattle.std.specs.Ordering.{is_eq}
use Rattle.std.specs.declared.cmp.Ordering.{Ordering}
use Rattle.std.specs.Cmp.{Equal-is, tied_itself}
use Rattle.std.proofs.lemmas.List.{take_more}
use Rattle.std.proofs.lemmas.List.Elements.{Contains-append_left, Contains-append_right, Contains-append_cases}
use Rattle.swh_base.specs.declared.name.Name.{Name}
use Rattle.swh_base.specs.Name.{name_cmp, name_cmp_total, name_cmp-IsAntisymmetric}
use Rattle.swh_base.specs.contracts.name.NameOrd.TheImpl.{cmp-value}
use Rattle.swh_base.specs.Directory.{DirectoryEntry}
use Rattle.swh_base.specs.Limits.{path_limit}
use Rattle.swh_base.proofs.Elementary.{none_in, only}
use Rattle.swh_closure.proofs.Order.{order_is}
use Rattle.swh_dirfmt.specs.declared.entry.SpelledEntry.{SpelledEntry}
use Rattle.swh_dirfmt.specs.Entries.{entry_of, entries_in_body}
use Rattle.swh_carried.specs.Ways.{Ways, IsStart, Tells, TellAll, OrWays, IsRaised, Raises, RaisesOver, RaisesOverAll}
use Rattle.swh_graph.proofs.Lists.{in_first}

-- ---- what is known of counts

-- the same is known of counts that have the same property
pub tells_same : (Is Was : ℕ → Type 0) → ((c : ℕ) → Is c → Was c) → ((c : ℕ) → Was c → Is c) → (o : Option ℕ) → Tells Is o → Tells Was o
tells_same Is Was on back None is = λ c was. is c (back c was)
tells_same Is Was on back (Some most) is = ((is.0.0, on is.0.0 is.0.1, is.0.2), λ c was. is.1 c (back c was))

pub all_same : (Is Was : Ways) → ((n : Name) (c : ℕ) → Is n c → Was n c) → ((n : Name) (c : ℕ) → Was n c → Is n c) → (entries : List (Name × ℕ)) → TellAll Is entries → TellAll Was entries
all_same Is Was on back entries all n = tells_same (Is n) (Was n) (on n) (back n) (lookup (is_at (name_cmp n)) entries) (all n)

-- the longer of two tells of both
bound_by : (c way most : ℕ) → way ≤ most → (c ≤ way) ⊎ (path_limit < way) → (c ≤ most) ⊎ (path_limit < most)
bound_by c way most less (inl few) = inl (omega (arith, less, few))
bound_by c way most less (inr long) = inr (omega (arith, less, long))

join_at : (Is Q : ℕ → Type 0) (known way most : ℕ) → Tells Is (Some known) → Tells Q (Some way) → way ≤ most → known ≤ most → (most ≡ way) ⊎ (most ≡ known) → Tells (λ c. Is c ⊎ Q c) (Some most)
join_at Is Q known way most is q over above which = (
  elim which [
    | inl e ↦ let less = q.0.2 in (q.0.0, inr q.0.1, omega (arith, e, less))
    | inr e ↦ let less = is.0.2 in (is.0.0, inl is.0.1, omega (arith, e, less))
  ],
  λ c has. elim has [ inl a ↦ bound_by c known most above (is.1 c a) | inr b ↦ bound_by c way most over (q.1 c b) ],
)

pub join : (Is Q : ℕ → Type 0) (o : Option ℕ) (way : ℕ) (p : Option ℕ) → Tells Is o → Tells Q (Some way) → IsRaised o way p → Tells (λ c. Is c ⊎ Q c) p
join Is Q None way p is q e =
    subst (Tells (λ c. Is c ⊎ Q c)) (sym e)
    ((q.0.0, inr q.0.1, q.0.2), λ c has. elim has [ inl a ↦ absurd (is c a) | inr b ↦ q.1 c b ])
join Is Q (Some known) way p is q (most, e, over, above, which) =
    subst (Tells (λ c. Is c ⊎ Q c)) (sym e) (join_at Is Q known way most is q over above which)

same_or_other : (m n : Name) → (m ≡ n) ⊎ (m ≡ n → ⊥)
same_or_other m n = by (is_at (name_cmp m) n) refl
  where
    by : (b : Bool) → is_at (name_cmp m) n ≡ b → (m ≡ n) ⊎ (m ≡ n → ⊥)
    by true e = inl (name_cmp-IsAntisymmetric m n ((Equal-is (name_cmp m n)).0 e))
    by false e = inr (λ same. let f : true ≡ false = sym (ap is_eq (tied_itself name_cmp_total m)) ∙ (ap (λ (k : Name). is_at (name_cmp m) k) same ∙ e) in cc)

-- one more way to a name
pub raised : (Is Q : Ways) (to : Name) (way : ℕ) (old new : List (Name × ℕ)) → TellAll Is old → Raises to way old new → Tells (Q to) (Some way) → ((n : Name) (c : ℕ) → Q n c → to ≡ n) → TellAll (OrWays Is Q) new
raised Is Q to way old new all raises here only n =
    elim (same_or_other to n) [
      | inl same ↦
          subst (λ (m : Name). Tells (OrWays Is Q m) (lookup (is_at (name_cmp m)) new)) same
          (join (Is to) (Q to) (lookup (is_at (name_cmp to)) old) way (lookup (is_at (name_cmp to)) new) (all to) here raises.here)
      | inr other ↦
          subst (Tells (OrWays Is Q n)) (sym (raises.others n other))
          (tells_same (Is n) (OrWays Is Q n) (λ c is. inl is) (λ c has. elim has [ inl is ↦ is | inr q ↦ absurd (other (only n c q)) ]) (lookup (is_at (name_cmp n)) old) (all n))
    ]

module _ (to : Name) (way : ℕ) (old new : List (Name × ℕ)) (updates : (q : Name) → lookup (is_at (cmp-value.it q)) new ≡ cond (is_at (cmp-value.it to) q) (Some way) (lookup (is_at (cmp-value.it q)) old)) where
  by_name : (q : Name) → lookup (is_at (name_cmp q)) new ≡ cond (is_at (name_cmp to) q) (Some way) (lookup (is_at (name_cmp q)) old)
  by_name = subst (λ (R : Name → Name → Ordering). (q : Name) → lookup (is_at (R q)) new ≡ cond (is_at (R to) q) (Some way) (lookup (is_at (R q)) old)) order_is updates

  at_to : lookup (is_at (name_cmp to)) new ≡ Some way
  at_to = by_name to ∙ ap (λ (b : Bool). cond b (Some way) (lookup (is_at (name_cmp to)) old)) (ap is_eq (tied_itself name_cmp_total to))

  elsewhere : (q : Name) → (to ≡ q → ⊥) → (b : Bool) → is_at (name_cmp to) q ≡ b → lookup (is_at (name_cmp q)) new ≡ lookup (is_at (name_cmp q)) old
  elsewhere q other true e = absurd (other (name_cmp-IsAntisymmetric to q ((Equal-is (name_cmp to q)).0 e)))
  elsewhere q other false e = by_name q ∙ ap (λ (b : Bool). cond b (Some way) (lookup (is_at (name_cmp q)) old)) e

  grown : (o : Option ℕ) → ((known : ℕ) → o ≡ Some known → known ≤ way) → IsRaised o way (Some way)
  grown None less = refl
  grown (Some known) less = (way, refl, omega arith, less known refl, inl refl)

  -- a way that is put where none that is as long was
  pub put_raises : ((known : ℕ) → lookup (is_at (name_cmp to)) old ≡ Some known → known ≤ way) → Raises to way old new
  put_raises less = record {
    here = subst (IsRaised (lookup (is_at (name_cmp to)) old) way) (sym at_to) (grown (lookup (is_at (name_cmp to)) old) less);
    others = λ q other. elsewhere q other (is_at (name_cmp to) q) refl;
  }

-- a way that is no longer than the one that is known
pub stays_raised : (to : Name) (way known : ℕ) (old : List (Name × ℕ)) → lookup (is_at (name_cmp to)) old ≡ Some known → way ≤ known → Raises to way old old
stays_raised to way known old is less = record {
  here = subst (λ (o : Option ℕ). IsRaised o way o) (sym is) (known, refl, less, omega arith, inr refl);
  others = λ q other. refl;
}

-- ---- ways over entries

pub over_more : (way : ℕ) (es : List DirectoryEntry) (e : DirectoryEntry) (old middle new : List (Name × ℕ)) → RaisesOverAll way es old middle → RaisesOver way e middle new → RaisesOverAll way (es ++ e ∷ []) old new
over_more way [] e old middle new is last = (new, subst (λ (m : List (Name × ℕ)). RaisesOver way e m new) is last, refl)
over_more way (d ∷ ds) e old middle new (next, first, rest) last = (next, first, over_more way ds e next middle new rest last)

map_push : {X Y : Type 0} (f : X → Y) (xs : List X) (x : X) → map f (xs ++ x ∷ []) ≡ map f xs ++ f x ∷ []
map_push f [] x = refl
map_push {X} {Y} f (y ∷ ys) x = ap (λ (l : List Y). f y ∷ l) (map_push f ys x)

module _ (way : ℕ) (es : List SpelledEntry) (i : ℕ) (none : SpelledEntry) where
  pub over_next : i < length es → (old middle new : List (Name × ℕ)) → RaisesOverAll way (entries_in_body (take i es)) old middle → RaisesOver way (entry_of (get_or es i none)) middle new → RaisesOverAll way (entries_in_body (take (i + 1) es)) old new
  over_next within old middle new is last =
      subst (λ (l : List DirectoryEntry). RaisesOverAll way l old new) (sym (ap entries_in_body (take_more es i none within) ∙ map_push entry_of (take i es) (get_or es i none)))
      (over_more way (entries_in_body (take i es)) (entry_of (get_or es i none)) old middle new is last)

-- ---- where ways start

pub none_start : TellAll (IsStart []) []
none_start n = λ c is. none_in n is.0

pub starts_more : (starts : List Name) (start : Name) (old new : List (Name × ℕ)) → TellAll (IsStart starts) old → Raises start 0 old new → TellAll (IsStart (starts ++ start ∷ [])) new
starts_more starts start old new all raises =
    all_same (OrWays (IsStart starts) (λ n c. (start ≡ n) × (c ≡ 0))) (IsStart (starts ++ start ∷ []))
    (λ n c has. elim has [
      | inl is ↦ (Contains-append_left starts (start ∷ []) n is.0, is.1)
      | inr one ↦ (subst (λ (m : Name). Contains (starts ++ start ∷ []) m) one.0 (Contains-append_right starts (start ∷ []) start (in_first start [])), one.1)
    ])
    (λ n c is. elim (Contains-append_cases starts (start ∷ []) n is.0) [
      | inl was ↦ inl (was, is.1)
      | inr last ↦ inr (only start n last, is.1)
    ])
    new (raised (IsStart starts) (λ n c. (start ≡ n) × (c ≡ 0)) start 0 old new all raises ((0, (refl, refl), omega arith), λ c one. let e = one.1 in inl (omega (arith, e))) (λ n c one. one.0))

pub starts_next : (starts : List Name) (i : ℕ) (none : Name) → i < length starts → (old new : List (Name × ℕ)) → TellAll (IsStart (take i starts)) old → Raises (get_or starts i none) 0 old new → TellAll (IsStart (take (i + 1) starts)) new
starts_next starts i none within old new all raises =
    subst (λ (l : List Name). TellAll (IsStart l) new) (sym (take_more starts i none within)) (starts_more (take i starts) (get_or starts i none) old new all raises)
