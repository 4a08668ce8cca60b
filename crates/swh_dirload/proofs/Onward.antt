-- Tables that go on from old ones.
use Rattle.std.proofs.Common.{◌≡◌, ◌⊎◌, inl, inr, ℕ, ◌<◌, List, [], ◌∷◌, ◌++◌, length, refl, sym, ap, ◌∙◌, subst, arith, length-append}
use Rattle.std.specs.Prelude.{Result, Ok, Err, IfOk, OnOk, slice_set}
use Rattle.std.proofs.lemmas.Bool.{cases_lt}
use Rattle.std.proofs.lemmas.List.{get_or-set_same, get_or-set_other, get_or_append_left}
use Rattle.std.proofs.Math.Seq.{get_or-append_seam}
use Rattle.swh_base.specs.declared.memory.Memory.{Memory}
use Rattle.swh_dirmade.specs.declared.member.Member.{Member}
use Rattle.swh_dirmade.specs.declared.member.Member.TheVariants as stands
use Rattle.swh_dirmade.specs.declared.spot.Spot.{Spot}
use Rattle.swh_dirmade.specs.Spots.{path_at, path_in, paths_of, place_at}
use Rattle.swh_dirmade.proofs.SpotTables.{length_paths, paths_push}
use Rattle.swh_dirload.specs.declared.lookup.Lookup.{Lookup}
use Rattle.swh_dirload.specs.declared.lookup.Lookup.TheVariants.{Here, Free, Lost}
use Rattle.swh_dirload.specs.declared.taking.Taken.{Taken}
use Rattle.swh_dirload.specs.declared.taking.Taken.TheVariants.{Yes, No}
use Rattle.swh_dirload.specs.Index.{LooksUp}
use Rattle.swh_dirload.specs.Lines.{SetsMode, TakesMode, spot_of, AddsProject, GoesOn}

pub same_on : (spots : List Spot) (standing : List Member) → GoesOn spots standing spots standing
same_on spots standing = record { more = omega arith; paths = λ k lt. refl; folders = λ k lt is. (lt, is); stay = λ k lt is. is }

pub then_on : (spots mid spots_now : List Spot) (standing between standing_now : List Member) → GoesOn spots standing mid between → GoesOn mid between spots_now standing_now → GoesOn spots standing spots_now standing_now
then_on spots mid spots_now standing between standing_now f g =
    let m = f.more in
    let n = g.more in
    record {
      more = omega (arith, m, n);
      paths = λ k lt. g.paths k (omega (arith, lt, m)) ∙ f.paths k lt;
      folders = λ k lt is. let h = g.folders k lt is in f.folders k h.0 h.1;
      stay = λ k lt is. g.stay k (omega (arith, lt, m)) (f.stay k lt is);
    }

no_file : (mode : ℕ) (id : List ℕ) → stands.File mode id ≡ stands.Folder → ⊥
no_file mode id e = absurd (cc)

no_project : (id : List ℕ) → stands.Project id ≡ stands.Folder → ⊥
no_project id e = absurd (cc)

cases_same : (x y : ℕ) → (x ≡ y) ⊎ (x ≡ y → ⊥)
cases_same x y = elim (cases_lt x y) [
  | inl lt ↦ inr (λ e. omega (arith, lt, e))
  | inr ge ↦ elim (cases_lt y x) [
    | inl lt ↦ inr (λ e. omega (arith, lt, e))
    | inr le ↦ inl (omega (arith, ge, le))
  ]
]

-- a file got another mode
set_on : (spots : List Spot) (old new : List Member) (n mode : ℕ) (id : List ℕ) → n < length old → place_at old n ≡ stands.File 100644 id → new ≡ slice_set old n (stands.File mode id) → GoesOn spots old spots new
set_on spots old new n mode id lt is e = record {
  more = omega arith;
  paths = λ k within. refl;
  folders = λ k within folder. elim (cases_same k n) [
    | inl same ↦ absurd (no_file mode id (sym here ∙ ap (place_at new) (sym same) ∙ folder))
    | inr ne ↦ (within, sym (other k ne) ∙ folder)
  ];
  stay = λ k within folder. elim (cases_same k n) [
    | inl same ↦ absurd (no_file 100644 id (sym is ∙ ap (place_at old) (sym same) ∙ folder))
    | inr ne ↦ other k ne ∙ folder
  ];
}
  where
    other : (k : ℕ) → (k ≡ n → ⊥) → place_at new k ≡ place_at old k
    other k ne = ap (λ (ps : List Member). place_at ps k) e ∙ get_or-set_other old n k (stands.File mode id) stands.Folder ne

    here : place_at new n ≡ stands.File mode id
    here = ap (λ (ps : List Member). place_at ps n) e ∙ get_or-set_same old n (stands.File mode id) stands.Folder lt

-- a project was added
push_on : (spots : List Spot) (old : List Member) (spot : Spot) (id : List ℕ) → length old ≡ length spots → GoesOn spots old (spots ++ spot ∷ []) (old ++ stands.Project id ∷ [])
push_on spots old spot id count =
    let project = stands.Project id in
    let n = length_paths [] spots in
    let l = length-append spots (spot ∷ []) in
    record {
      more = omega (arith, l);
      paths = λ k lt. ap (λ (ps : List (List ℕ)). path_at ps k) (paths_push [] spots spot) ∙ get_or_append_left (paths_of spots) (path_in (paths_of spots) spot ∷ []) [] k (omega (arith, lt, n));
      folders = λ k lt folder. elim (cases_lt k (length old)) [
        | inl below ↦ (omega (arith, below, count), sym (get_or_append_left old (project ∷ []) stands.Folder k below) ∙ folder)
        | inr ge ↦
            let last : length old ≡ k = omega (arith, ge, lt, l, count) in
            absurd (no_project id (sym (get_or-append_seam old project [] stands.Folder) ∙ ap (place_at (old ++ project ∷ [])) last ∙ folder))
      ];
      stay = λ k lt folder. get_or_append_left old (project ∷ []) stands.Folder k (omega (arith, lt, count)) ∙ folder;
    }

sets_on : (spots : List Spot) (old new : List Member) (n mode : ℕ) (taken : Taken) → n < length old → SetsMode old n mode new taken → GoesOn spots old spots new
sets_on spots old new n mode Yes lt h = set_on spots old new n mode h.0 lt h.1 h.2
sets_on spots old new n mode No lt h = subst (GoesOn spots old spots) (sym h.0) (same_on spots old)

takes_on : (spots : List Spot) (path : List ℕ) (found : Lookup) (old new : List Member) (mode : ℕ) (taken : Taken) → length old ≡ length spots → LooksUp spots path found → TakesMode found old mode new taken → GoesOn spots old spots new
takes_on spots path (Here n) old new mode taken count looks h = let lt = looks.0 in sets_on spots old new n mode taken (omega (arith, lt, count)) h
takes_on spots path (Free above name) old new mode taken count looks h = subst (GoesOn spots old spots) (sym h.1) (same_on spots old)
takes_on spots path Lost old new mode taken count looks h = subst (GoesOn spots old spots) (sym h.1) (same_on spots old)

-- the table after a mode
pub mode_on : (spots : List Spot) (path : List ℕ) (old new : List Member) (mode : ℕ) (r : Result Taken Memory) → length old ≡ length spots → IfOk r (λ taken. (found : Lookup) × LooksUp spots path found × TakesMode found old mode new taken) → OnOk r (GoesOn spots old spots new)
mode_on spots path old new mode (Ok taken) count h = takes_on spots path h.0 old new mode taken count h.1 h.2
mode_on spots path old new mode (Err e) count h = tt

-- the table after a project
pub project_on : (above : ℕ) (name id : List ℕ) (spots spots_now : List Spot) (old new : List Member) (r : Result Taken Memory) → length old ≡ length spots → IfOk r (AddsProject above name id spots old spots_now new) → OnOk r (GoesOn spots old spots_now new)
project_on above name id spots spots_now old new (Ok Yes) count h = subst (λ (ss : List Spot). GoesOn spots old ss new) (sym h.1) (subst (GoesOn spots old (spots ++ spot_of above name ∷ [])) (sym h.2) (push_on spots old (spot_of above name) id count))
project_on above name id spots spots_now old new (Ok No) count h = subst (λ (ss : List Spot). GoesOn spots old ss new) (sym h.0) (subst (GoesOn spots old spots) (sym h.1) (same_on spots old))
project_on above name id spots spots_now old new (Err e) count h = tt
