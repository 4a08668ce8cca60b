-- Which names are kept after several steps.
use Rattle.std.proofs.Common.{◌≡◌, ◌⊎◌, inl, inr, ℕ, zero, suc, ◌<◌, List, [], ◌∷◌, ◌++◌, length, get_or, Contains, Option, Some, None, sym, subst, ◌∙◌, arith}
use Rattle.std.proofs.lemmas.List.{get_or_default}
use Rattle.std.proofs.lemmas.List.Elements.{Contains-append_left, Contains-append_right, Contains-append_cases}
use Rattle.std.specs.Borrow.{Bor}
use Rattle.std.specs.Global.{Vec}
use Rattle.swh_entries.specs.Keys.{texts}
use Rattle.swh_entries.specs.declared.entry.Child.{Child}
use Rattle.swh_forest.specs.Arena.{parts_of}
use Rattle.swh_forest.specs.Kept.{AreAmong, named}
use Rattle.swh_forest.proofs.Walks.{component-at, length-parts_of}

pub among-self : (xs : List (List ℕ)) → AreAmong xs xs
among-self xs = record { each = λ name h. h }

pub among-none : (ys : List (List ℕ)) → AreAmong [] ys
among-none ys = record { each = λ name h. let lt = h.1 in absurd (omega arith) }

pub among-on : (xs ys zs : List (List ℕ)) → AreAmong xs ys → AreAmong ys zs → AreAmong xs zs
among-on xs ys zs a b = record { each = λ name h. b.each name (a.each name h) }

pub among-left : (xs ys : List (List ℕ)) → AreAmong xs (xs ++ ys)
among-left xs ys = record { each = λ name h. Contains-append_left xs ys name h }

pub among-right : (xs ys : List (List ℕ)) → AreAmong ys (xs ++ ys)
among-right xs ys = record { each = λ name h. Contains-append_right xs ys name h }

either : (zs : List (List ℕ)) (name : List ℕ) (xs ys : List (List ℕ)) → AreAmong xs zs → AreAmong ys zs → Contains xs name ⊎ Contains ys name → Contains zs name
either zs name xs ys a b (inl h) = a.each name h
either zs name xs ys a b (inr h) = b.each name h

pub among-both : (xs ys zs : List (List ℕ)) → AreAmong xs zs → AreAmong ys zs → AreAmong (xs ++ ys) zs
among-both xs ys zs a b = record { each = λ name h. either zs name xs ys a b (Contains-append_cases xs ys name h) }

-- ## Names that were kept, and those that were given

pub kept-same : (old new : List (Vec ℕ)) (given : List (List ℕ)) → new ≡ old → AreAmong (texts new) (texts old ++ given)
kept-same old new given is = subst (λ (n : List (Vec ℕ)). AreAmong (texts n) (texts old ++ given)) (sym is) (among-left (texts old) given)

pub kept-wider : (old new given more : List (List ℕ)) → AreAmong new (old ++ given) → AreAmong given more → AreAmong new (old ++ more)
kept-wider old new given more a b = among-on new (old ++ given) (old ++ more) a
    (among-both old given (old ++ more) (among-left old more) (among-on given more (old ++ more) b (among-right old more)))

-- two steps, of which each was given some of these
pub kept-on : (old mid new given : List (List ℕ)) → AreAmong mid (old ++ given) → AreAmong new (mid ++ given) → AreAmong new (old ++ given)
kept-on old mid new given a b = among-on new (mid ++ given) (old ++ given) b (among-both mid given (old ++ given) a (among-right old given))

-- two steps, each with what it was given
pub kept-then : (old mid new first next : List (List ℕ)) → AreAmong mid (old ++ first) → AreAmong new (mid ++ next) → AreAmong new (old ++ (first ++ next))
kept-then old mid new first next a b = kept-on old mid new (first ++ next) (kept-wider old mid first (first ++ next) a (among-left first next)) (kept-wider mid new next (first ++ next) b (among-right first next))

pub kept-one : (old new : List (Vec ℕ)) (name : List ℕ) → (new ≡ old) ⊎ (texts new ≡ texts old ++ name ∷ []) → AreAmong (texts new) (texts old ++ name ∷ [])
kept-one old new name (inl is) = kept-same old new (name ∷ []) is
kept-one old new name (inr is) = subst (λ (n : List (List ℕ)). AreAmong n (texts old ++ name ∷ [])) (sym is) (among-self (texts old ++ name ∷ []))

one_of : (name : List ℕ) (ys : List (List ℕ)) (other : List ℕ) → Contains ys name → Contains (name ∷ []) other → Contains ys other
one_of name ys other h (zero, lt, e) = subst (Contains ys) e h
one_of name ys other h (suc k, lt, e) = let l = lt in absurd (omega arith)

pub among-one : (name : List ℕ) (ys : List (List ℕ)) → Contains ys name → AreAmong (name ∷ []) ys
among-one name ys h = record { each = λ other k. one_of name ys other h k }

pub component-among : (path : List (Bor (List ℕ))) (i : ℕ) (d : Bor (List ℕ)) → i < length path → AreAmong ((get_or path i d).now ∷ []) (parts_of path)
component-among path i d lt =
    let within : i < length (parts_of path) = rw (length-parts_of path) lt in
    among-one (get_or path i d).now (parts_of path) (i, within, get_or_default (parts_of path) i (get_or path i d).now [] within ∙ component-at path i d lt)

pub named-among : (name : List ℕ) (child : Option Child) (path : List (List ℕ)) → AreAmong (name ∷ []) path → AreAmong (named name child) path
named-among name None path h = among-none path
named-among name (Some child) path h = h

-- nothing was given
pub kept-none : (old new : List (List ℕ)) → AreAmong new (old ++ []) → AreAmong new old
kept-none old new h = among-on new (old ++ []) old h (among-both old [] old (among-self old) (among-none old))

-- ## The folder and the name of a path

pub last-among : (path front : List (List ℕ)) (name : List ℕ) → path ≡ front ++ name ∷ [] → AreAmong (name ∷ []) path
last-among path front name is = subst (AreAmong (name ∷ [])) (sym is) (among-right front (name ∷ []))

pub front-among : (path front : List (List ℕ)) (name : List ℕ) → path ≡ front ++ name ∷ [] → AreAmong front path
front-among path front name is = subst (AreAmong front) (sym is) (among-left front (name ∷ []))

pub path-among : (these others path : List (List ℕ)) → these ≡ others → AreAmong others path → AreAmong these path
path-among these others path is h = subst (λ (p : List (List ℕ)). AreAmong p path) (sym is) h
