-- The parents of a commit, found one after another, and in another form of their trees.
use Rattle.std.proofs.Common.{◌≡◌, ℕ, ◌+◌, ◌<◌, ◌≤◌, Option, Some, None, Result, Ok, Err, List, [], ◌∷◌, ◌++◌, length, map, drop, get_or, Contains, refl, sym, ap, ◌∙◌, subst, append_assoc, add-one}
use Rattle.std.specs.List.{AllByRecursion}
use Rattle.std.specs.Option.{option_map}
use Rattle.std.proofs.lemmas.List.{append-nil, map-append, drop_all}
use Rattle.std.proofs.Math.Seq.{drop-cons}
use Rattle.swh_base.specs.declared.kind.Kind.{Kind}
use Rattle.swh_base.specs.declared.kind.Kind.TheVariants.{Revision}
use Rattle.swh_base.specs.declared.name.Name.{Name}
use Rattle.swh_base.specs.Revision.{revision_name}
use Rattle.swh_model.specs.Meaning.{Made}
use Rattle.swh_trees.specs.declared.tree.Tree.{Tree}
use Rattle.swh_fastgrammar.specs.declared.command.At.{At}
use Rattle.swh_fastgrammar.specs.declared.command.Commitish.{Commitish}
use Rattle.swh_fastgrammar.specs.declared.command.Start.{Start}
use Rattle.swh_fastgrammar.specs.declared.command.Start.TheVariants.{Absent, NoTip, Of}
use Rattle.swh_fastmeaning.specs.Aims.{Aim, AllAims, Missing, if_commit, tip_at, commit_at, aim_with, aims_with}
use Rattle.swh_fastmeaning.specs.Changes.{ExplainsChange}
use Rattle.swh_fastmeaning.specs.Commands.{first_parent, commits_at, parents_of, ◌>>=◌}
use Rattle.swh_fastload.specs.Committing.{HasParents}
use Rattle.swh_fastmeaning.specs.Missings.{ExplainsMissing}
use Rattle.swh_dedup.specs.Making.{names_of_made}
use Rattle.swh_fastmeaning.specs.Stock.{IsAimAmong, AreAimsAmong}
use Rattle.swh_fastmeaning.specs.declared.feed_fault.FeedFault.{FeedFault}
use Rattle.swh_fastmeaning.specs.declared.feed_fault.FeedFault.TheVariants.{BadStream, Limit, Memory}
use Rattle.swh_fastmeaning.proofs.AimForms.{ok_map, commit_tip-map, commit_at-map, commit_tip_among, commit_among}

-- the first of the commits that lines name, and what is left of the lines
pub record HasFirst {T : Type 0} (aims : AllAims T) (first : Option (Aim T)) (merges : List (At Commitish)) (i : ℕ) (ids : List (List ℕ)) : Type 0 where
  pub found : List (Aim T)
  pub are : ids ≡ parents_of first found
  pub left : commits_at aims merges ≡ (commits_at aims (drop i merges) >>= λ rest. let o : Result (List (Aim T)) Missing = Ok (found ++ rest) in o)

ok_of : {X : Type 0} (r : Result X Missing) → r ≡ (r >>= λ x. let o : Result X Missing = Ok x in o)
ok_of (Ok x) = refl
ok_of (Err m) = refl

module _ {T : Type 0} (aims : AllAims T) (first : Option (Aim T)) (merges : List (At Commitish)) where
  pub no_first : (ids : List (List ℕ)) → ids ≡ parents_of first [] → HasFirst aims first merges 0 ids
  no_first ids e = record { found = []; are = e; left = ok_of (commits_at aims merges) }

  parents_push : (o : Option (Aim T)) (found : List (Aim T)) (a : Aim T) → parents_of o (found ++ a ∷ []) ≡ parents_of o found ++ a.name.id ∷ []
  parents_push None found a = map-append (λ (x : Aim T). x.name.id) found (a ∷ [])
  parents_push (Some x) found a = ap (λ (t : List (List ℕ)). x.name.id ∷ t) (map-append (λ (x : Aim T). x.name.id) found (a ∷ []))

  bind_push : (r : Result (List (Aim T)) Missing) (found : List (Aim T)) (a : Aim T)
      → ((r >>= λ others. let o : Result (List (Aim T)) Missing = Ok (a ∷ others) in o) >>= λ rest. let o : Result (List (Aim T)) Missing = Ok (found ++ rest) in o)
      ≡ (r >>= λ rest. let o : Result (List (Aim T)) Missing = Ok ((found ++ a ∷ []) ++ rest) in o)
  bind_push (Ok others) found a = ap (λ (t : List (Aim T)). let o : Result (List (Aim T)) Missing = Ok t in o) (sym (append_assoc found (a ∷ []) others))
  bind_push (Err m) found a = refl

  abbrev behind : List (Aim T) → Result (List (Aim T)) Missing → Result (List (Aim T)) Missing
  behind found r = r >>= λ rest. Ok (found ++ rest)

  abbrev in_front : List (At Commitish) → Result (Aim T) Missing → Result (List (Aim T)) Missing
  in_front more r = r >>= λ aim. commits_at aims more >>= λ others. Ok (aim ∷ others)

  goes_on : (i : ℕ) (m : At Commitish) (found : List (Aim T)) → m ≡ get_or merges i m → i < length merges → commits_at aims merges ≡ behind found (commits_at aims (drop i merges))
      → commits_at aims merges ≡ behind found (in_front (drop (i + 1) merges) (commit_at aims m.at m.it))
  goes_on i m found read l e =
      e ∙ ap (λ (t : List (At Commitish)). behind found (commits_at aims t)) (drop-cons merges i m l ∙ ap (λ (k : ℕ). get_or merges i m ∷ drop k merges) (sym (add-one i)))
      ∙ ap (λ (b : At Commitish). behind found (in_front (drop (i + 1) merges) (commit_at aims b.at b.it))) (sym read)

  pub one_found : (i : ℕ) (m : At Commitish) (a : Aim T) (ids after : List (List ℕ)) → m ≡ get_or merges i m → i < length merges → HasFirst aims first merges i ids → commit_at aims m.at m.it ≡ Ok a → after ≡ ids ++ a.name.id ∷ [] → HasFirst aims first merges (i + 1) after
  one_found i m a ids after read l h c e = record {
    found = h.found ++ a ∷ [];
    are = e ∙ ap (λ (t : List (List ℕ)). t ++ a.name.id ∷ []) h.are ∙ sym (parents_push first h.found a);
    left = goes_on i m h.found read l h.left ∙ ap (λ (r : Result (Aim T) Missing). behind h.found (in_front (drop (i + 1) merges) r)) c ∙ bind_push (commits_at aims (drop (i + 1) merges)) h.found a;
  }

  pub one_missing : (i : ℕ) (m : At Commitish) (ids : List (List ℕ)) (fault : FeedFault) → m ≡ get_or merges i m → i < length merges → HasFirst aims first merges i ids → ExplainsMissing (commit_at aims m.at m.it) fault → ExplainsChange (commits_at aims merges) fault
  one_missing i m ids (BadStream at why) read l h e = goes_on i m h.found read l h.left ∙ ap (λ (r : Result (Aim T) Missing). behind h.found (in_front (drop (i + 1) merges) r)) e
  one_missing i m ids (Limit which number) read l h e = absurd e
  one_missing i m ids Memory read l h e = absurd e

  pub all_found : (i : ℕ) (ids : List (List ℕ)) → length merges ≤ i → HasFirst aims first merges i ids → HasParents aims first merges ids
  all_found i ids l h = record {
    others = h.found;
    found = h.left ∙ ap (λ (t : List (At Commitish)). behind h.found (commits_at aims t)) (drop_all i merges l) ∙ ap (λ (t : List (Aim T)). let o : Result (List (Aim T)) Missing = Ok t in o) (append-nil h.found);
    are = h.are;
  }

-- ## In another form

module _ {T U : Type 0} (f : T → U) (aims : AllAims T) where
  pub first_parent-map : (branch : List ℕ) (start : Start) → first_parent (aims_with f aims) branch start ≡ ok_map (option_map (aim_with f)) (first_parent aims branch start)
  first_parent-map branch Absent = ap (λ (o : Option (Aim U)). let r : Result (Option (Aim U)) Missing = Ok o in r) (commit_tip-map f branch aims)
  first_parent-map branch NoTip = refl
  first_parent-map branch (Of a) = ap (λ (r : Result (Aim U) Missing). r >>= λ aim. let o : Result (Option (Aim U)) Missing = Ok (Some aim) in o) (commit_at-map f aims a.at a.it) ∙ by_found (commit_at aims a.at a.it)
    where
      by_found : (r : Result (Aim T) Missing) → (ok_map (aim_with f) r >>= λ aim. let o : Result (Option (Aim U)) Missing = Ok (Some aim) in o) ≡ ok_map (option_map (aim_with f)) (r >>= λ aim. let o : Result (Option (Aim T)) Missing = Ok (Some aim) in o)
      by_found (Ok x) = refl
      by_found (Err m) = refl

  pub commits_at-map : (merges : List (At Commitish)) → commits_at (aims_with f aims) merges ≡ ok_map (map (aim_with f)) (commits_at aims merges)
  commits_at-map [] = refl
  commits_at-map (a ∷ more) =
      ap (λ (r : Result (Aim U) Missing). r >>= λ aim. commits_at (aims_with f aims) more >>= λ others. let o : Result (List (Aim U)) Missing = Ok (aim ∷ others) in o) (commit_at-map f aims a.at a.it)
      ∙ ap (λ (s : Result (List (Aim U)) Missing). ok_map (aim_with f) (commit_at aims a.at a.it) >>= λ aim. s >>= λ others. let o : Result (List (Aim U)) Missing = Ok (aim ∷ others) in o) (commits_at-map more)
      ∙ by_both (commit_at aims a.at a.it) (commits_at aims more)
    where
      by_both : (r : Result (Aim T) Missing) (s : Result (List (Aim T)) Missing) → (ok_map (aim_with f) r >>= λ aim. ok_map (map (aim_with f)) s >>= λ others. let o : Result (List (Aim U)) Missing = Ok (aim ∷ others) in o)
          ≡ ok_map (map (aim_with f)) (r >>= λ aim. s >>= λ others. let o : Result (List (Aim T)) Missing = Ok (aim ∷ others) in o)
      by_both (Ok x) (Ok xs) = refl
      by_both (Ok x) (Err m) = refl
      by_both (Err m) s = refl

  ids_same : (others : List (Aim T)) → map (λ (a : Aim U). a.name.id) (map (aim_with f) others) ≡ map (λ (a : Aim T). a.name.id) others
  ids_same [] = refl
  ids_same (a ∷ others) = ap (λ (t : List (List ℕ)). a.name.id ∷ t) (ids_same others)

  pub parents_of-map : (first : Option (Aim T)) (others : List (Aim T)) → parents_of (option_map (aim_with f) first) (map (aim_with f) others) ≡ parents_of first others
  parents_of-map None others = ids_same others
  parents_of-map (Some a) others = ap (λ (t : List (List ℕ)). a.name.id ∷ t) (ids_same others)

-- ## They were given

module _ (id : Kind → List ℕ → List ℕ) (folders : ℕ) (given : List Made) (aims : AllAims Tree) (among : AreAimsAmong id folders given aims) where
  -- The id is that of a revision that was given.
  abbrev pub IsParentAmong : List ℕ → Type 0
  IsParentAmong i = Contains (names_of_made id given) (revision_name i)

  as_parent : (a : Aim Tree) → IsAimAmong id folders given a × (a.name.kind ≡ Revision) → IsParentAmong a.name.id
  as_parent a h = subst (λ (k : Kind). let n : Name = record { kind = k; id = a.name.id } in Contains (names_of_made id given) n) h.1 h.0.named

  pub first_among : (branch : List ℕ) (start : Start) (a : Aim Tree) → first_parent aims branch start ≡ Ok (Some a) → IsAimAmong id folders given a × (a.name.kind ≡ Revision)
  first_among branch Absent a e = let some : if_commit (tip_at branch aims) ≡ Some a = cc in commit_tip_among id folders given aims branch a among some
  first_among branch NoTip a e = absurd cc
  first_among branch (Of from) a e = by_found (commit_at aims from.at from.it) refl e
    where
      by_found : (r : Result (Aim Tree) Missing) → commit_at aims from.at from.it ≡ r → (r >>= λ aim. let o : Result (Option (Aim Tree)) Missing = Ok (Some aim) in o) ≡ Ok (Some a) → IsAimAmong id folders given a × (a.name.kind ≡ Revision)
      by_found (Err m) q s = absurd cc
      by_found (Ok x) q s = let is : x ≡ a = cc in commit_among id folders given aims from.at from.it a among (q ∙ ap (λ (t : Aim Tree). let o : Result (Aim Tree) Missing = Ok t in o) is)

  pub others_among : (merges : List (At Commitish)) (others : List (Aim Tree)) → commits_at aims merges ≡ Ok others → AllByRecursion IsParentAmong (map (λ (a : Aim Tree). a.name.id) others)
  others_among [] others e = let is : [] ≡ others = cc in subst (λ (t : List (Aim Tree)). AllByRecursion IsParentAmong (map (λ (a : Aim Tree). a.name.id) t)) is tt
  others_among (m ∷ more) others e = by_first (commit_at aims m.at m.it) refl (commits_at aims more) refl e (others_among more)
    where
      by_first : (r : Result (Aim Tree) Missing) → commit_at aims m.at m.it ≡ r → (s : Result (List (Aim Tree)) Missing) → commits_at aims more ≡ s
          → (r >>= λ aim. s >>= λ others. let o : Result (List (Aim Tree)) Missing = Ok (aim ∷ others) in o) ≡ Ok others
          → ((xs : List (Aim Tree)) → commits_at aims more ≡ Ok xs → AllByRecursion IsParentAmong (map (λ (a : Aim Tree). a.name.id) xs)) → AllByRecursion IsParentAmong (map (λ (a : Aim Tree). a.name.id) others)
      by_first (Err x) q s t e k = absurd cc
      by_first (Ok a) q (Err x) t e k = absurd cc
      by_first (Ok a) q (Ok xs) t e k =
          let is : a ∷ xs ≡ others = cc in
          subst (λ (t : List (Aim Tree)). AllByRecursion IsParentAmong (map (λ (a : Aim Tree). a.name.id) t)) is (as_parent a (commit_among id folders given aims m.at m.it a among q), k xs t)

  pub parents_among : (branch : List ℕ) (start : Start) (merges : List (At Commitish)) (first : Option (Aim Tree)) (ids : List (List ℕ)) → first_parent aims branch start ≡ Ok first → HasParents aims first merges ids → AllByRecursion IsParentAmong ids
  parents_among branch start merges first ids e h = subst (AllByRecursion IsParentAmong) (sym h.are) (by_first first e)
    where
      by_first : (o : Option (Aim Tree)) → first_parent aims branch start ≡ Ok o → AllByRecursion IsParentAmong (parents_of o h.others)
      by_first None q = others_among merges h.others h.found
      by_first (Some a) q = (as_parent a (first_among branch start a q), others_among merges h.others h.found)
