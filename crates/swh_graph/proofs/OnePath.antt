-- Components lead to one entry, and a path has one list of them.
use Rattle.std.proofs.Common.{◌≡◌, ◌⊎◌, inl, inr, ℕ, ◌+◌, None, List, [], ◌∷◌, ◌++◌, length, refl, sym, ap, ◌∙◌, subst, arith}
use Rattle.std.specs.Prelude.{Contains, ◌≢◌}
use Rattle.std.specs.List.{flat_map, AllByRecursion}
use Rattle.std.proofs.lemmas.List.{append-nil}
use Rattle.swh_base.specs.declared.kind.Kind.TheVariants.{Directory}
use Rattle.swh_base.specs.declared.name.Name.{Name}
use Rattle.swh_base.specs.Directory.{DirectoryEntry, IsDirectory, AreEntries}
use Rattle.swh_base.proofs.DirectoryLemmas.{one_listing_lem}
use Rattle.swh_base.proofs.Splits.{first_split}
use Rattle.swh_base.proofs.Elementary.{none_in}
use Rattle.swh_model.specs.Archive.{Bodies, body_of}
use Rattle.swh_graph.specs.Answer.{GraphAnswer, Found, Missing, Nowhere}
use Rattle.swh_graph.specs.Holding.{HoldsDirectory}
use Rattle.swh_graph.specs.Path.{target_of, AreComponents, HasEntry, Follows, LeadsNowhere, IsEntryAnswer, IsPathAnswer}
use Rattle.swh_graph.proofs.Lists.{in_cases, in_middle, all_of, same_some, not_none}

-- ---- components

abbrev pub slashed : List (List ℕ) → List ℕ
slashed components = flat_map (λ component. 47 ∷ component) components

abbrev pub ArePlain : List (List ℕ) → Type 0
ArePlain components = AllByRecursion (λ component. Contains component 47 → ⊥) components

pub same_slashed : (cs ds : List (List ℕ)) → ArePlain cs → ArePlain ds → slashed cs ≡ slashed ds → cs ≡ ds
same_slashed [] [] p q e = refl
same_slashed [] (d ∷ ds) p q e = absurd (cc)
same_slashed (c ∷ cs) [] p q e = absurd (cc)
same_slashed (c ∷ []) (d ∷ []) p q e =
    let same : c ++ [] ≡ d ++ [] = cc in
    ap (λ (x : List ℕ). x ∷ []) (sym (append-nil c) ∙ same ∙ append-nil d)
same_slashed (c ∷ []) (d ∷ f ∷ ds) p q e =
    let same : c ++ [] ≡ d ++ 47 ∷ (f ++ slashed ds) = cc in
    absurd (p.0 (subst (λ (x : List ℕ). Contains x 47) (sym same ∙ append-nil c) (in_middle d 47 (f ++ slashed ds))))
same_slashed (c ∷ b ∷ cs) (d ∷ []) p q e =
    let same : c ++ 47 ∷ (b ++ slashed cs) ≡ d ++ [] = cc in
    absurd (q.0 (subst (λ (x : List ℕ). Contains x 47) (same ∙ append-nil d) (in_middle c 47 (b ++ slashed cs))))
same_slashed (c ∷ b ∷ cs) (d ∷ f ∷ ds) p q e =
    let same : c ++ 47 ∷ (b ++ slashed cs) ≡ d ++ 47 ∷ (f ++ slashed ds) = cc in
    let cut = first_split 47 c d (b ++ slashed cs) (f ++ slashed ds) p.0 q.0 same in
    let more : slashed (b ∷ cs) ≡ slashed (f ∷ ds) = ap (λ (x : List ℕ). 47 ∷ x) cut.1 in
    ap (λ (x : List ℕ). x ∷ b ∷ cs) cut.0 ∙ ap (λ (xs : List (List ℕ)). d ∷ xs) (same_slashed (b ∷ cs) (f ∷ ds) p.1 q.1 more)

pub same_components : (path : List ℕ) (cs ds : List (List ℕ)) → AreComponents path cs → AreComponents path ds → cs ≡ ds
same_components path cs ds a b = same_slashed cs ds a.plain b.plain (sym a.text ∙ b.text)

-- ---- entries

same_named : (es : List DirectoryEntry) (e f : DirectoryEntry) → AreEntries es → Contains es e → Contains es f → e.name ≡ f.name → e ≡ f
same_named [] e f good h k named = absurd (none_in e h)
same_named (x ∷ xs) e f good h k named =
    elim (in_cases x xs e h) [
      | inl is ↦
          elim (in_cases x xs f k) [
            | inl is' ↦ sym is ∙ is'
            | inr more' ↦ absurd (all_of (λ (o : DirectoryEntry). x.name ≢ o.name) xs f good.1 more' (ap (λ (o : DirectoryEntry). o.name) is ∙ named))
          ]
      | inr more ↦
          elim (in_cases x xs f k) [
            | inl is' ↦ absurd (all_of (λ (o : DirectoryEntry). x.name ≢ o.name) xs e good.1 more (ap (λ (o : DirectoryEntry). o.name) is' ∙ sym named))
            | inr more' ↦ same_named xs e f good.3 more more' named
          ]
    ]

module _ (bodies : Bodies) where
  pub one_held_directory : (n : Name) (es fs : List DirectoryEntry) → HoldsDirectory bodies n es → HoldsDirectory bodies n fs → es ≡ fs
  one_held_directory n es fs a b =
      one_listing_lem b.body es fs (subst (λ (body : List ℕ). IsDirectory body es) (same_some a.body b.body (sym a.held ∙ b.held)) a.is) b.is

  pub one_has : (place : Name) (c : List ℕ) (e f : DirectoryEntry) → HasEntry bodies place c e → HasEntry bodies place c f → e ≡ f
  one_has place c e f a b =
      let same = one_held_directory place a.entries b.entries a.holds b.holds in
      same_named b.entries e f b.holds.is.good (subst (λ (es : List DirectoryEntry). Contains es e) same a.there) b.there (a.named ∙ sym b.named)

  pub one_follows : (cs : List (List ℕ)) (from a b : Name) → Follows bodies from cs a → Follows bodies from cs b → a ≡ b
  one_follows [] from a b x y = sym x ∙ y
  one_follows (c ∷ cs) from a b x y =
      let same : y.0 ≡ x.0 = one_has from c y.0 x.0 y.1.0 x.1.0 in
      one_follows cs (target_of x.0) a b x.1.1 (subst (λ (e : DirectoryEntry). Follows bodies (target_of e) cs b) same y.1.1)

  pub has_held : (place : Name) (c : List ℕ) (e : DirectoryEntry) → HasEntry bodies place c e → body_of bodies place ≡ None → ⊥
  has_held place c e h missing = not_none (body_of bodies place) h.holds.body h.holds.held missing

  pub has_somewhere : (place : Name) (c : List ℕ) (e : DirectoryEntry) → HasEntry bodies place c e → LeadsNowhere bodies place c → ⊥
  has_somewhere place c e h (inl other) = other h.folder
  has_somewhere place c e h (inr none) = none.1 e h

  -- ---- what is answered at a first component

  -- one component more stands in front of the one that leads nowhere
  abbrev later : {A : Type 0} → GraphAnswer A → GraphAnswer A
  later (Found a) = Found a
  later (Missing n) = Missing n
  later (Nowhere k) = Nowhere (k + 1)

  record Gap (root : Name) (answer : GraphAnswer DirectoryEntry) : Type 0 where
    is : answer ≡ Missing root
    folder : root.kind ≡ Directory
    missing : body_of bodies root ≡ None

  record Stop (root : Name) (c : List ℕ) (answer : GraphAnswer DirectoryEntry) : Type 0 where
    is : answer ≡ Nowhere 0
    nowhere : LeadsNowhere bodies root c

  record Last (root : Name) (c : List ℕ) (cs : List (List ℕ)) (answer : GraphAnswer DirectoryEntry) : Type 0 where
    entry : DirectoryEntry
    is : answer ≡ Found entry
    none : cs ≡ []
    has : HasEntry bodies root c entry

  record On (root : Name) (c : List ℕ) (cs : List (List ℕ)) (answer : GraphAnswer DirectoryEntry) : Type 0 where
    entry : DirectoryEntry
    has : HasEntry bodies root c entry
    next : GraphAnswer DirectoryEntry
    is : answer ≡ later next
    answers : IsEntryAnswer bodies (target_of entry) cs next

  abbrev Stands : Name → List ℕ → List (List ℕ) → GraphAnswer DirectoryEntry → Type 0
  Stands root c cs answer = Gap root answer ⊎ (Stop root c answer ⊎ (Last root c cs answer ⊎ On root c cs answer))

  no_cut : (cs before : List (List ℕ)) (c : List ℕ) (behind : List (List ℕ)) → [] ≡ before ++ c ∷ behind → ⊥
  no_cut cs [] c behind e = cc
  no_cut cs (b ∷ before) c behind e = cc

  stands_found : (root : Name) (c : List ℕ) (cs : List (List ℕ)) (entry : DirectoryEntry) (before : List (List ℕ)) (last : List ℕ) (place : Name) → c ∷ cs ≡ before ++ last ∷ []
      → Follows bodies root before place → HasEntry bodies place last entry → Stands root c cs (Found entry)
  stands_found root c cs entry [] last place cut follows has =
      let is : last ≡ c = cc in
      let none : cs ≡ [] = cc in
      inr (inr (inl (record { entry = entry; is = refl; none = none; has = subst (λ (x : List ℕ). HasEntry bodies root x entry) is (subst (λ (n : Name). HasEntry bodies n last entry) (sym follows) has) })))
  stands_found root c cs entry (b ∷ before) last place cut follows has =
      let is : b ≡ c = cc in
      let rest : cs ≡ before ++ last ∷ [] = cc in
      inr (inr (inr (record {
        entry = follows.0;
        has = subst (λ (x : List ℕ). HasEntry bodies root x follows.0) is follows.1.0;
        next = Found entry;
        is = refl;
        answers = record { before = before; last = last; cut = rest; place = place; follows = follows.1.1; is = has };
      })))

  stands_gap : (root : Name) (c : List ℕ) (cs : List (List ℕ)) (name : Name) (before : List (List ℕ)) (next : List ℕ) (behind : List (List ℕ)) → c ∷ cs ≡ before ++ next ∷ behind
      → Follows bodies root before name → name.kind ≡ Directory → body_of bodies name ≡ None → Stands root c cs (Missing name)
  stands_gap root c cs name [] next behind cut follows folder missing =
      inl (record {
        is = ap (λ (n : Name). let a : GraphAnswer DirectoryEntry = Missing n in a) (sym follows);
        folder = ap (λ (n : Name). n.kind) follows ∙ folder;
        missing = ap (body_of bodies) follows ∙ missing;
      })
  stands_gap root c cs name (b ∷ before) next behind cut follows folder missing =
      let is : b ≡ c = cc in
      let rest : cs ≡ before ++ next ∷ behind = cc in
      inr (inr (inr (record {
        entry = follows.0;
        has = subst (λ (x : List ℕ). HasEntry bodies root x follows.0) is follows.1.0;
        next = Missing name;
        is = refl;
        answers = record { before = before; next = next; passes = record { behind = behind; cut = rest; follows = follows.1.1 }; folder = folder; missing = missing };
      })))

  stands_end : (root : Name) (c : List ℕ) (cs : List (List ℕ)) (number : ℕ) (before : List (List ℕ)) (next : List ℕ) (behind : List (List ℕ)) (place : Name) → c ∷ cs ≡ before ++ next ∷ behind
      → Follows bodies root before place → number ≡ length before → LeadsNowhere bodies place next → Stands root c cs (Nowhere number)
  stands_end root c cs number [] next behind place cut follows number_is nowhere =
      let is : next ≡ c = cc in
      inr (inl (record {
        is = ap (λ (k : ℕ). let a : GraphAnswer DirectoryEntry = Nowhere k in a) number_is;
        nowhere = subst (λ (x : List ℕ). LeadsNowhere bodies root x) is (subst (λ (n : Name). LeadsNowhere bodies n next) (sym follows) nowhere);
      }))
  stands_end root c cs number (b ∷ before) next behind place cut follows number_is nowhere =
      let is : b ≡ c = cc in
      let rest : cs ≡ before ++ next ∷ behind = cc in
      let count : number ≡ length before + 1 = omega (arith, number_is) in
      inr (inr (inr (record {
        entry = follows.0;
        has = subst (λ (x : List ℕ). HasEntry bodies root x follows.0) is follows.1.0;
        next = Nowhere (length before);
        is = ap (λ (k : ℕ). let a : GraphAnswer DirectoryEntry = Nowhere k in a) count;
        answers = record { before = before; next = next; place = place; passes = record { behind = behind; cut = rest; follows = follows.1.1 }; number_is = refl; nowhere = nowhere };
      })))

  stands : (root : Name) (c : List ℕ) (cs : List (List ℕ)) (answer : GraphAnswer DirectoryEntry) → IsEntryAnswer bodies root (c ∷ cs) answer → Stands root c cs answer
  stands root c cs (Found entry) x = stands_found root c cs entry x.before x.last x.place x.cut x.follows x.is
  stands root c cs (Missing name) x = stands_gap root c cs name x.before x.next x.passes.behind x.passes.cut x.passes.follows x.folder x.missing
  stands root c cs (Nowhere k) x = stands_end root c cs k x.before x.next x.passes.behind x.place x.passes.cut x.passes.follows x.number_is x.nowhere

  some_components : (root : Name) (answer : GraphAnswer DirectoryEntry) → IsEntryAnswer bodies root [] answer → ⊥
  some_components root (Found entry) x = no_cut [] x.before x.last [] x.cut
  some_components root (Missing name) x = no_cut [] x.before x.next x.passes.behind x.passes.cut
  some_components root (Nowhere k) x = no_cut [] x.before x.next x.passes.behind x.passes.cut

  apart : (root : Name) (c : List ℕ) (cs : List (List ℕ)) (e : DirectoryEntry) (a b : GraphAnswer DirectoryEntry) → HasEntry bodies root c e → Gap root a ⊎ Stop root c a → ⊥
  apart root c cs e a b has (inl gap) = has_held root c e has gap.missing
  apart root c cs e a b has (inr stop) = has_somewhere root c e has stop.nowhere

  gap_stop : (root : Name) (c : List ℕ) (a b : GraphAnswer DirectoryEntry) → Gap root a → Stop root c b → ⊥
  gap_stop root c a b gap stop =
      elim stop.nowhere [
        | inl other ↦ other gap.folder
        | inr none ↦ not_none (body_of bodies root) none.0.0 none.0.1 gap.missing
      ]

  last_on : (root : Name) (c : List ℕ) (cs : List (List ℕ)) (a b : GraphAnswer DirectoryEntry) → Last root c cs a → On root c cs b → ⊥
  last_on root c cs a b last on = some_components (target_of on.entry) on.next (subst (λ (xs : List (List ℕ)). IsEntryAnswer bodies (target_of on.entry) xs on.next) last.none on.answers)

  module _ (root : Name) (c : List ℕ) (cs : List (List ℕ)) (a b : GraphAnswer DirectoryEntry)
      (same : (from : Name) (p q : GraphAnswer DirectoryEntry) → IsEntryAnswer bodies from cs p → IsEntryAnswer bodies from cs q → p ≡ q) where
    meet : Stands root c cs a → Stands root c cs b → a ≡ b
    meet (inl p) (inl q) = p.is ∙ sym q.is
    meet (inl p) (inr (inl q)) = absurd (gap_stop root c a b p q)
    meet (inl p) (inr (inr (inl q))) = absurd (apart root c cs q.entry a b q.has (inl p))
    meet (inl p) (inr (inr (inr q))) = absurd (apart root c cs q.entry a b q.has (inl p))
    meet (inr (inl p)) (inl q) = absurd (gap_stop root c b a q p)
    meet (inr (inl p)) (inr (inl q)) = p.is ∙ sym q.is
    meet (inr (inl p)) (inr (inr (inl q))) = absurd (apart root c cs q.entry a b q.has (inr p))
    meet (inr (inl p)) (inr (inr (inr q))) = absurd (apart root c cs q.entry a b q.has (inr p))
    meet (inr (inr (inl p))) (inl q) = absurd (apart root c cs p.entry b a p.has (inl q))
    meet (inr (inr (inl p))) (inr (inl q)) = absurd (apart root c cs p.entry b a p.has (inr q))
    meet (inr (inr (inl p))) (inr (inr (inl q))) =
        p.is ∙ ap (λ (e : DirectoryEntry). let f : GraphAnswer DirectoryEntry = Found e in f) (one_has root c p.entry q.entry p.has q.has) ∙ sym q.is
    meet (inr (inr (inl p))) (inr (inr (inr q))) = absurd (last_on root c cs a b p q)
    meet (inr (inr (inr p))) (inl q) = absurd (apart root c cs p.entry b a p.has (inl q))
    meet (inr (inr (inr p))) (inr (inl q)) = absurd (apart root c cs p.entry b a p.has (inr q))
    meet (inr (inr (inr p))) (inr (inr (inl q))) = absurd (last_on root c cs b a q p)
    meet (inr (inr (inr p))) (inr (inr (inr q))) =
        let is : q.entry ≡ p.entry = one_has root c q.entry p.entry q.has p.has in
        let answers : IsEntryAnswer bodies (target_of p.entry) cs q.next = subst (λ (e : DirectoryEntry). IsEntryAnswer bodies (target_of e) cs q.next) is q.answers in
        p.is ∙ ap later (same (target_of p.entry) p.next q.next p.answers answers) ∙ sym q.is

  pub one_entry_lem : (cs : List (List ℕ)) (root : Name) (a b : GraphAnswer DirectoryEntry) → IsEntryAnswer bodies root cs a → IsEntryAnswer bodies root cs b → a ≡ b
  one_entry_lem [] root a b x y = absurd (some_components root a x)
  one_entry_lem (c ∷ cs) root a b x y = meet root c cs a b (one_entry_lem cs) (stands root c cs a x) (stands root c cs b y)

  pub one_path_lem : (root : Name) (path : List ℕ) (a b : GraphAnswer DirectoryEntry) → IsPathAnswer bodies root path a → IsPathAnswer bodies root path b → a ≡ b
  one_path_lem root path a b x y =
      one_entry_lem y.components root a b (subst (λ (cs : List (List ℕ)). IsEntryAnswer bodies root cs a) (same_components path x.components y.components x.are y.are) x.is) y.is
