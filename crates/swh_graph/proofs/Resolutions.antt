-- What is answered to a SWHID, from what is known of its names, its anchor's root and its path.
use Rattle.std.proofs.Common.{◌≡◌, ◌⊎◌, inl, inr, ℕ, ◌+◌, Some, List, [], ◌∷◌, refl, sym, ◌∙◌, subst}
use Rattle.std.specs.Prelude.{◌≢◌}
use Rattle.std.specs.List.{AllByRecursion}
use Rattle.swh_base.specs.declared.name.Name.{Name}
use Rattle.swh_model.specs.Archive.{Bodies, IsHeld}
use Rattle.swh_swhid.specs.declared.swhid.Swhid.{Swhid}
use Rattle.swh_graph.specs.Answer.{Found, Nowhere, Refuses}
use Rattle.swh_graph.specs.Path.{target_of, Follows}
use Rattle.swh_graph.specs.Resolve.{names_in, behind_slash, AreComponentsOf, HasWay, LeadsTo, IsResolveAnswer}
use Rattle.swh_graph.specs.Root.{IsRoot, HasNoRoot}
use Rattle.swh_graph.specs.Rounds.{RootFails}
use Rattle.swh_graph.specs.Way.{Arrives, Ends, EndFails, WayAnswers}
use Rattle.swh_base.specs.Directory.{DirectoryEntry}
use Rattle.swh_graph.specs.declared.fault.GraphFault.{GraphFault}
use Rattle.swh_graph.specs.declared.fault.GraphFault.TheVariants.{NotHeld, NoPath, Memory}
use Rattle.swh_graph.proofs.Lists.{same_some}
use Rattle.swh_graph.proofs.OneResolution.{same_components_of}
use Rattle.swh_graph.proofs.Ways.{path_components, entry_leads}

empty_or_not : (text : List ℕ) → (text ≡ []) ⊎ (text ≢ [])
empty_or_not [] = inl refl
empty_or_not (b ∷ text) = inr (λ e. cc)

-- each path has components behind its slash
components_exist : (path : List ℕ) → (components : List (List ℕ)) × AreComponentsOf path components
components_exist path =
    elim (empty_or_not (behind_slash path)) [
      | inl none ↦ ([], inl (none, refl))
      | inr some ↦ let are = path_components (behind_slash path) in (are.0, inr (some, are.1))
    ]

module _ (bodies : Bodies) where
  -- ---- the end of a path

  module _ (root : Name) (path : List ℕ) where
    pub ends_at_entry : (entry : DirectoryEntry) (number : ℕ) → behind_slash path ≢ [] → Arrives bodies root (behind_slash path) entry number
        → Ends bodies root path (target_of entry) (number + 1)
    ends_at_entry entry number some a = record {
      components = a.components;
      are = inr (some, a.are);
      follows = entry_leads bodies root a.components entry a.is;
      number_is = a.number_is;
    }

  -- ---- a way from an anchor

  module _ (anchor : Name) (path : List ℕ) (core : Name) where
    pub way_without_root : HasNoRoot bodies anchor → WayAnswers bodies anchor path core (Nowhere 0)
    way_without_root none = let are = components_exist path in (are.0, (are.1, inl (none, refl)))

    pub way_misses_root : (fault : GraphFault) → RootFails bodies anchor fault → Refuses (WayAnswers bodies anchor path core) fault
    way_misses_root (NotHeld name) why = let are = components_exist path in (are.0, (are.1, inl why))
    way_misses_root (NoPath number) why = absurd why
    way_misses_root Memory why = tt

    module _ (root : Name) (is_root : IsRoot bodies anchor root) where
      pub way_misses_end : (fault : GraphFault) → EndFails bodies root path fault → Refuses (WayAnswers bodies anchor path core) fault
      way_misses_end (NotHeld name) why = (why.0, (why.1.0, inr (root, (is_root, why.1.1))))
      way_misses_end (NoPath number) why = (why.0, (why.1.0, inr (root, (is_root, inl why.1.1))))
      way_misses_end Memory why = tt

      module _ (end : Name) (number : ℕ) (e : Ends bodies root path end number) where
        pub way_leads : end ≡ core → WayAnswers bodies anchor path core (Found core)
        way_leads same =
            (e.components, (e.are, record { root = root; is_root = is_root; follows = subst (Follows bodies root e.components) same e.follows }, refl))

        pub way_ends_elsewhere : end ≢ core → WayAnswers bodies anchor path core (Nowhere number)
        way_ends_elsewhere other =
            (e.components, (e.are, inr (root, (is_root, inr (record { end = end; follows = e.follows; other = other; number_is = e.number_is })))))

  -- ---- a SWHID

  module _ (s : Swhid) where
    module _ (held : AllByRecursion (IsHeld bodies) (names_in s)) (anchor : Name) (path : List ℕ) (anchor_is : s.anchor ≡ Some anchor) (path_is : s.path ≡ Some path) where
      its_way : (components : List (List ℕ)) → AreComponentsOf path components → HasWay s anchor components
      its_way components are = record { anchor_is = anchor_is; path = path; path_is = path_is; are = are }

      pub resolves_on_way : (name : Name) → WayAnswers bodies anchor path s.core (Found name) → IsResolveAnswer bodies s (Found name)
      resolves_on_way name (components, (are, leads, is)) = record { core = is; held = held; leads = λ a cs way. leads_there a cs way }
        where
          leads_there : (a : Name) (cs : List (List ℕ)) → HasWay s a cs → LeadsTo bodies a cs s.core
          leads_there a cs way =
              let same_anchor : anchor ≡ a = same_some anchor a (sym anchor_is ∙ way.anchor_is) in
              let same_path : way.path ≡ path = same_some way.path path (sym way.path_is ∙ path_is) in
              let same : components ≡ cs = same_components_of path components cs are (subst (λ (p : List ℕ). AreComponentsOf p cs) same_path way.are) in
              subst (λ (n : Name). LeadsTo bodies n cs s.core) same_anchor (subst (λ (xs : List (List ℕ)). LeadsTo bodies anchor xs s.core) same leads)

      pub fails_on_way : (fault : GraphFault) → Refuses (WayAnswers bodies anchor path s.core) fault → Refuses (IsResolveAnswer bodies s) fault
      fails_on_way (NotHeld name) (components, (are, gap)) = inr (record { held = held; anchor = anchor; components = components; way = its_way components are; gap = gap })
      fails_on_way (NoPath number) (components, (are, end)) = record { held = held; anchor = anchor; components = components; way = its_way components are; end = end }
      fails_on_way Memory why = tt
