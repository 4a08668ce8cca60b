-- The objects that are made and not held yet: a batch that may be added takes its own from them.
use Rattle.std.proofs.Common.{◌≡◌, ◌≢◌, ℕ, zero, suc, ◌+◌, ◌<◌, ◌≤◌, Option, Some, None, List, [], ◌∷◌, length, get_or, Contains, refl, sym, ap, ◌∙◌, subst, arith}
use Rattle.std.specs.Prelude.{sum_by}
use Rattle.std.specs.List.{AllByRecursion}
use Rattle.std.specs.FinMap.{insert}
use Rattle.std.proofs.lemmas.List.Sums.{sum_by-cons}
use Rattle.swh_base.specs.declared.kind.Kind.{Kind}
use Rattle.swh_base.specs.declared.name.Name.{Name}
use Rattle.swh_base.specs.declared.entry.Entry.{Entry}
use Rattle.swh_model.specs.Archive.{Bodies, body_of}
use Rattle.swh_model.specs.Limits.{object_length, run_length}
use Rattle.swh_model.specs.Meaning.{Made}
use Rattle.swh_model.specs.Step.{AreNew, added}
use Rattle.swh_model.proofs.Maps.{body-put, body_cases}
use Rattle.swh_dedup.specs.Making.{made_from}
use Rattle.swh_loader.specs.Room.{batch_record, stored_object}

-- a size where no body is held, and nothing where one is
abbrev unless_held : Option (List ℕ) → ℕ → ℕ
unless_held None size = size
unless_held (Some body) size = 0

module _ (id_of : Kind → List ℕ → List ℕ) where
  -- the name of an object that is made
  abbrev name_of : Made → Name
  name_of o = record { kind = o.kind; id = id_of o.kind o.body }

  -- The entry is made, under its name.
  abbrev pub IsMadeOf : List Made → Entry → Type 0
  IsMadeOf objects e = Contains objects (made_from e) × (e.name.id ≡ id_of e.name.kind e.body)

  -- What is made and not held yet, by a size of each object.
  module _ (size : Made → ℕ) where
    -- the sizes of the objects under whose names nothing is held
    abbrev pub missing : Bodies → List Made → ℕ
    missing bodies [] = 0
    missing bodies (o ∷ os) = unless_held (body_of bodies (name_of o)) (size o) + missing bodies os

    unless_most : (o : Option (List ℕ)) (n : ℕ) → unless_held o n ≤ n
    unless_most None n = omega arith
    unless_most (Some body) n = omega arith

    pub missing-most : (bodies : Bodies) (os : List Made) → missing bodies os ≤ sum_by size os
    missing-most bodies [] = omega arith
    missing-most bodies (o ∷ os) =
        let here = unless_most (body_of bodies (name_of o)) (size o) in
        let rest = missing-most bodies os in
        let all = sum_by-cons size o os in
        omega (arith, here, rest, all)

    -- one body more
    put_one : (bodies : Bodies) (n : Name) (body : List ℕ) (o : Made) → unless_held (body_of (insert bodies n body) (name_of o)) (size o) ≤ unless_held (body_of bodies (name_of o)) (size o)
    put_one bodies n body o =
        body_cases bodies n body (name_of o) (λ b. unless_held b (size o) ≤ unless_held (body_of bodies (name_of o)) (size o)) (λ at. omega arith) (omega arith)

    put_all : (bodies : Bodies) (n : Name) (body : List ℕ) (os : List Made) → missing (insert bodies n body) os ≤ missing bodies os
    put_all bodies n body [] = omega arith
    put_all bodies n body (o ∷ os) = let here = put_one bodies n body o in let rest = put_all bodies n body os in omega (arith, here, rest)

    -- it is missing no longer
    module _ (bodies : Bodies) (e : Entry) (none : body_of bodies e.name ≡ None) (named : e.name.id ≡ id_of e.name.kind e.body) where
      abbrev now : Bodies
      now = insert bodies e.name e.body

      same_name : name_of (made_from e) ≡ e.name
      same_name = ap (λ (id : List ℕ). record { kind = e.name.kind; id = id }) (sym named)

      was_missing : unless_held (body_of bodies (name_of (made_from e))) (size (made_from e)) ≡ size (made_from e)
      was_missing = ap (λ (n : Name). unless_held (body_of bodies n) (size (made_from e))) same_name ∙ ap (λ (o : Option (List ℕ)). unless_held o (size (made_from e))) none

      is_held : unless_held (body_of now (name_of (made_from e))) (size (made_from e)) ≡ 0
      is_held = ap (λ (n : Name). unless_held (body_of now n) (size (made_from e))) same_name ∙ ap (λ (o : Option (List ℕ)). unless_held o (size (made_from e))) (body-put bodies e.name e.body)

      first_put : (os : List Made) → size (made_from e) + missing now (made_from e ∷ os) ≤ missing bodies (made_from e ∷ os)
      first_put os = let a = was_missing in let b = is_held in let rest = put_all bodies e.name e.body os in omega (arith, a, b, rest)

      put_at : (os : List Made) (k : ℕ) → k < length os → get_or os k (made_from e) ≡ made_from e → size (made_from e) + missing now os ≤ missing bodies os
      put_at [] k less is = absurd (omega (arith, less))
      put_at (o ∷ os) zero less is = subst (λ (m : Made). size (made_from e) + missing now (m ∷ os) ≤ missing bodies (m ∷ os)) (sym is) (first_put os)
      put_at (o ∷ os) (suc k) less is =
          let here = put_one bodies e.name e.body o in
          let rest = put_at os k (omega (arith, less)) is in
          omega (arith, here, rest)

    abbrev pub sizes : List Entry → ℕ
    sizes [] = 0
    sizes (e ∷ es) = size (made_from e) + sizes es

    -- entries that are new are missing no longer
    pub added_all : (objects : List Made) (bodies : Bodies) (es : List Entry) → AreNew bodies es → AllByRecursion (IsMadeOf objects) es → sizes es + missing (added bodies es) objects ≤ missing bodies objects
    added_all objects bodies [] new made = omega arith
    added_all objects bodies (e ∷ es) new made =
        let place = made.0.0 in
        let here = put_at bodies e new.0 made.0.1 objects place.0 place.1 place.2 in
        let rest = added_all objects (insert bodies e.name e.body) es new.1 made.1 in
        omega (arith, here, rest)

  entry_size : (e : Entry) → e.name.id ≡ id_of e.name.kind e.body → object_length e ≡ stored_object id_of (made_from e)
  entry_size e named = let same = ap length named in omega (arith, same)

  pub run_size : (objects : List Made) (es : List Entry) → AllByRecursion (IsMadeOf objects) es → run_length es ≡ sizes (stored_object id_of) es
  run_size objects [] made = refl
  run_size objects (e ∷ es) made =
      let here = entry_size e made.0.1 in
      let rest = run_size objects es made.1 in
      omega (arith, here, rest)

  abbrev pub of_batch : Made → ℕ
  of_batch o = batch_record

  pub some_size : (es : List Entry) → es ≢ [] → batch_record ≤ sizes of_batch es
  some_size [] some = absurd (some refl)
  some_size (e ∷ es) some = omega arith
