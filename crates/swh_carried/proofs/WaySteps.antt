-- Each step of a way leads from a name that stands behind: what the names behind tell of is all that leads to a name.
use Rattle.std.proofs.Common.{take, drop, get_or, add-one, drop-cons, ◌≡◌, ◌⊎◌, inl, inr, ℕ, ◌+◌, ◌<◌, ◌≤◌, Option, Some, None, List, [], ◌∷◌, ◌++◌, length, refl, sym, ap, ◌∙◌, subst, arith}
use Rattle.std.specs.Prelude.{Contains}
use Rattle.std.specs.Map.{lookup}
use Rattle.std.specs.BTreeMap.{is_at}
use Rattle.std.specs.List.{filter_map, cons_option}
use Rattle.std.proofs.Math.Seq.{drop-length}
use Rattle.std.proofs.lemmas.List.{take-append-drop}
use Rattle.std.proofs.lemmas.List.Elements.{Contains-append_left, Contains-append_right}
use Rattle.swh_base.specs.declared.kind.Kind.{Kind}
use Rattle.swh_base.specs.declared.kind.Kind.TheVariants.{Content, Directory, Revision, Release, Snapshot}
use Rattle.swh_base.specs.declared.name.Name.{Name}
use Rattle.swh_base.specs.Name.{name_cmp}
use Rattle.swh_base.specs.Directory.{DirectoryEntry, IsDirectory, child_of}
use Rattle.swh_base.specs.Manifest.{AreChildren}
use Rattle.swh_base.specs.Reach.{IsChildIn}
use Rattle.swh_base.specs.Limits.{path_limit}
use Rattle.swh_base.proofs.DirectoryLemmas.{one_listing_lem}
use Rattle.swh_base.proofs.Elementary.{none_in}
use Rattle.swh_model.specs.Archive.{Bodies, body_of, IsGraphOf}
use Rattle.swh_graph.specs.Path.{directory_name}
use Rattle.swh_graph.proofs.Lists.{in_first, in_rest, in_cases, same_some, same_or_not}
use Rattle.swh_postorder.specs.Cycle.{ArePreceded}
use Rattle.swh_postorder.specs.Postorder.{Precedes}
use Rattle.swh_postorder.proofs.Orders.{AtOne, Sooner, Later, cuts}
use Rattle.swh_postorder.proofs.Preceded.{cut_at}
use Rattle.swh_carried.specs.Rules.{HasDirectoryEntry, LeadsOver, folder_name, way_length}
use Rattle.swh_carried.specs.Ways.{Ways, IsStart, IsWay, GoesOver, StepsFrom, ComesFrom, GoesOverOne, Tells, TellAll, OrWays, RaisesOver, RaisesOverAll, TellsOfFolders, TellsOf}
use Rattle.swh_carried.proofs.WayCounts.{all_same, tells_same, raised}

-- a folder is a child
child_by : (e : DirectoryEntry) (kids : List Name) → e.mode ≡ 40000 → Contains (cons_option (child_of e) kids) (directory_name e.id)
child_by e kids folder =
    let is : child_of e ≡ Some (directory_name e.id) = ap (λ (m : ℕ). child_of (record { mode = m; name = e.name; id = e.id })) folder in
    subst (λ (o : Option Name). Contains (cons_option o kids) (directory_name e.id)) (sym is) (in_first (directory_name e.id) kids)

child_later : (o : Option Name) (kids : List Name) (n : Name) → Contains kids n → Contains (cons_option o kids) n
child_later None kids n there = there
child_later (Some k) kids n there = in_rest k kids n there

child_in : (entries : List DirectoryEntry) (e : DirectoryEntry) → Contains entries e → e.mode ≡ 40000 → Contains (filter_map child_of entries) (directory_name e.id)
child_in [] e there folder = absurd (none_in e there)
child_in (d ∷ ds) e there folder =
    elim (in_cases d ds e there) [
      | inl same ↦ subst (λ (x : DirectoryEntry). Contains (filter_map child_of (d ∷ ds)) (directory_name x.id)) same (child_by d (filter_map child_of ds) (ap (λ (x : DirectoryEntry). x.mode) same ∙ folder))
      | inr later ↦ child_later (child_of d) (filter_map child_of ds) (directory_name e.id) (child_in ds e later folder)
    ]

module _ (bodies : Bodies) (children_of : Name → Option (List Name)) (graph : IsGraphOf bodies children_of) where
  folder_kids : (name : Name) (body : List ℕ) (entries : List DirectoryEntry) → name.kind ≡ Directory → body_of bodies name ≡ Some body → IsDirectory body entries → (found : Option (List Name)) → children_of name ≡ found → children_of name ≡ Some (filter_map child_of entries)
  folder_kids name body entries folder held is None found = let e : Some body ≡ None = sym held ∙ graph.missing name found in cc
  folder_kids name body entries folder held is (Some kids) found =
      let has = graph.held name kids found in
      let same = same_some has.0 body (sym has.1 ∙ held) in
      let are = subst (λ (kind : Kind). AreChildren kind has.0 kids) folder has.2 in
      let listing = one_listing_lem has.0 are.entries entries are.directory (subst (λ (b : List ℕ). IsDirectory b entries) (sym same) is) in
      found ∙ ap (λ (ns : List Name). Some ns) (are.kids ∙ ap (λ (es : List DirectoryEntry). filter_map child_of es) listing)

  folder_kid : (place : Name) (e : DirectoryEntry) → HasDirectoryEntry bodies place e → e.mode ≡ 40000 → IsChildIn children_of place (folder_name e.id)
  folder_kid place e has folder = record {
    kids = filter_map child_of has.entries;
    held = folder_kids place has.body has.entries has.kind has.held has.is (children_of place) refl;
    one_of = child_in has.entries e has.there folder;
  }

  module _ (starts order : List Name) (preceded : ArePreceded children_of order) (once : (n : Name) → Precedes order n n → ⊥) (among : (n : Name) → Contains starts n → Contains order n) where
    kid_in : (parent child : Name) → Contains order parent → IsChildIn children_of parent child → Contains order child
    kid_in parent child there kid =
        let c = cut_at order parent there in
        subst (λ (ns : List Name). Contains ns child) (sym c.cut) (Contains-append_left c.before (parent ∷ c.behind) child (preceded c.before parent c.behind c.cut child kid))

    -- a parent stands behind its child
    kid_behind : (front behind : List Name) (child parent : Name) → order ≡ front ++ child ∷ behind → Contains order parent → IsChildIn children_of parent child → Contains behind parent
    kid_behind front behind child parent cut there kid =
        let c = cut_at order parent there in
        let early = preceded c.before parent c.behind c.cut child kid in
        elim (cuts front c.before child parent behind c.behind (sym cut ∙ c.cut)) [
          | AtOne same _ _ ↦ absurd (once child (record { before = front; behind = behind; cut = cut; there = subst (λ (l : List Name). Contains l child) (sym same) early }))
          | Sooner more _ long ↦ subst (λ (l : List Name). Contains l parent) (sym long) (Contains-append_right more (parent ∷ c.behind) parent (in_first parent c.behind))
          | Later more long _ ↦
              absurd (once child (record { before = front; behind = behind; cut = cut; there = subst (λ (l : List Name). Contains l child) (sym long) (Contains-append_left c.before (parent ∷ more) child early) }))
        ]

    -- all that a way leads to is among the names
    way_in : (start : Name) (way : List DirectoryEntry) (to : Name) → Contains order start → LeadsOver bodies start way to → Contains order to
    way_in start [] to there leads = subst (Contains order) leads there
    way_in start (e ∷ es) to there (place, leads, is_entry, folder, named) =
        subst (Contains order) (sym named) (kid_in place (folder_name e.id) (way_in start es place there leads) (folder_kid place e is_entry folder))

    -- each way starts where it ends, or has a last step
    to_order : (to : Name) (count : ℕ) → IsWay bodies starts to count → ComesFrom bodies starts order to count
    to_order to count is = by is.way is.leads is.is
      where
        by : (w : List DirectoryEntry) → LeadsOver bodies is.start w to → count ≡ way_length w → ComesFrom bodies starts order to count
        by [] leads e = inl (subst (Contains starts) leads is.starts_there, e)
        by (d ∷ ds) (place, leads, is_entry, folder, named) e = inr (record {
          place = place;
          there = way_in is.start ds place (among is.start is.starts_there) leads;
          step = record {
            entry = d;
            is_entry = is_entry;
            goes = record { before = way_length ds; way = record { start = is.start; starts_there = is.starts_there; way = ds; leads = leads; is = refl }; folder = folder; named = named; is = e };
          };
        })

    -- and each such step makes one
    step_way : (place to : Name) (count : ℕ) → StepsFrom bodies starts place to count → IsWay bodies starts to count
    step_way place to count g =
        let w = g.goes.way in
        record {
          start = w.start;
          starts_there = w.starts_there;
          way = g.entry ∷ w.way;
          leads = (place, w.leads, g.is_entry, g.goes.folder, g.goes.named);
          is = g.goes.is ∙ ap (λ (n : ℕ). n + (length g.entry.name + 1)) w.is;
        }

    from_names : (names : List Name) (to : Name) (count : ℕ) → ComesFrom bodies starts names to count → IsWay bodies starts to count
    from_names names to count (inl (there, none)) = record { start = to; starts_there = there; way = []; leads = refl; is = none }
    from_names names to count (inr s) = step_way s.place to count s.step

    step_kid : (place to : Name) (count : ℕ) → StepsFrom bodies starts place to count → IsChildIn children_of place to
    step_kid place to count g = subst (IsChildIn children_of place) (sym g.goes.named) (folder_kid place g.entry g.is_entry g.goes.folder)

    module _ (front behind : List Name) (name : Name) (cut : order ≡ front ++ name ∷ behind) where
      -- all ways to the name come from behind it
      to_behind : (count : ℕ) → IsWay bodies starts name count → ComesFrom bodies starts behind name count
      to_behind count is =
          elim (to_order name count is) [
            | inl start ↦ inl start
            | inr s ↦ inr (record { place = s.place; there = kid_behind front behind name s.place cut s.there (step_kid s.place name count s.step); step = s.step })
          ]

      module _ (old new : List (Name × ℕ)) (all : TellAll (ComesFrom bodies starts behind) old) where
        ways_here : Tells (IsWay bodies starts name) (lookup (is_at (name_cmp name)) old)
        ways_here = tells_same (ComesFrom bodies starts behind name) (IsWay bodies starts name) (λ c is. from_names behind name c is) to_behind (lookup (is_at (name_cmp name)) old) (all name)

        -- with the steps from the name
        with_steps : TellAll (OrWays (ComesFrom bodies starts behind) (StepsFrom bodies starts name)) new → TellAll (ComesFrom bodies starts (name ∷ behind)) new
        with_steps =
            all_same (OrWays (ComesFrom bodies starts behind) (StepsFrom bodies starts name)) (ComesFrom bodies starts (name ∷ behind))
            (λ n c has. elim has [
              | inl comes ↦ elim comes [ inl start ↦ inl start | inr s ↦ inr (record { place = s.place; there = in_rest name behind s.place s.there; step = s.step }) ]
              | inr step ↦ inr (record { place = name; there = in_first name behind; step = step })
            ])
            (λ n c comes. elim comes [
              | inl start ↦ inl (inl start)
              | inr s ↦
                  elim (in_cases name behind s.place s.there) [
                    | inl same ↦ inr (subst (λ (m : Name). StepsFrom bodies starts m n c) (sym same) s.step)
                    | inr later ↦ inl (inr (record { place = s.place; there = later; step = s.step }))
                  ]
            ])
            new

        -- where no step leads on
        none_on : ((n : Name) (c : ℕ) → StepsFrom bodies starts name n c → ⊥) → new ≡ old → TellAll (ComesFrom bodies starts (name ∷ behind)) new
        none_on none same =
            with_steps
            (all_same (ComesFrom bodies starts behind) (OrWays (ComesFrom bodies starts behind) (StepsFrom bodies starts name)) (λ n c is. inl is)
            (λ n c has. elim has [ inl is ↦ is | inr step ↦ absurd (none n c step) ]) new (subst (TellAll (ComesFrom bodies starts behind)) (sym same) all))

        none_held : body_of bodies name ≡ None → (n : Name) (c : ℕ) → StepsFrom bodies starts name n c → ⊥
        none_held missing n c g = let e : Some g.is_entry.body ≡ None = sym g.is_entry.held ∙ missing in cc

        -- ways over an entry
        over_tells : (d : DirectoryEntry) → d.mode ≡ 40000 → (w v : ℕ) → Tells (IsWay bodies starts name) (Some w) → v ≤ w + (length d.name + 1) → (w + (length d.name + 1) ≤ v) ⊎ (path_limit < v)
            → Tells (GoesOver bodies starts name d (folder_name d.id)) (Some v)
        over_tells d folder w v known least most =
            let longest = known.0 in
            let less = longest.2 in (
              (longest.0 + (length d.name + 1), record { before = longest.0; way = longest.1; folder = folder; named = refl; is = refl }, omega (arith, less, least)),
              λ c g. elim most [ inr long ↦ inr long | inl all ↦ let is = g.is in elim (known.1 g.before g.way) [ inl few ↦ inl (omega (arith, is, few, all)) | inr long ↦ inr (omega (arith, long, all)) ] ],
            )

        -- ways over some entries
        over_entries : (way : ℕ) → Tells (IsWay bodies starts name) (Some way) → (es : List DirectoryEntry) (Is : Ways) (a b : List (Name × ℕ)) → TellAll Is a → RaisesOverAll way es a b → TellAll (OrWays Is (GoesOverOne bodies starts name es)) b
        over_entries way here [] Is a b tells same =
            all_same Is (OrWays Is (GoesOverOne bodies starts name [])) (λ n c is. inl is) (λ n c has. elim has [ inl is ↦ is | inr g ↦ absurd (none_in g.entry g.there) ]) b
            (subst (TellAll Is) (sym same) tells)
        over_entries way here (e ∷ es) Is a b tells (middle, first, rest) =
            all_same (OrWays (OrWays Is (GoesOver bodies starts name e)) (GoesOverOne bodies starts name es)) (OrWays Is (GoesOverOne bodies starts name (e ∷ es)))
            (λ n c has. elim has [
              | inl one ↦ elim one [ inl is ↦ inl is | inr goes ↦ inr (record { entry = e; there = in_first e es; goes = goes }) ]
              | inr g ↦ inr (record { entry = g.entry; there = in_rest e es g.entry g.there; goes = g.goes })
            ])
            (λ n c has. elim has [
              | inl is ↦ inl (inl is)
              | inr g ↦
                  elim (in_cases e es g.entry g.there) [
                    | inl same ↦ inl (inr (subst (λ (d : DirectoryEntry). GoesOver bodies starts name d n c) (sym same) g.goes))
                    | inr later ↦ inr (record { entry = g.entry; there = later; goes = g.goes })
                  ]
            ])
            b (over_entries way here es (OrWays Is (GoesOver bodies starts name e)) middle b (over_one e way here Is a middle tells first) rest)
          where
            over_one : (d : DirectoryEntry) (w : ℕ) → Tells (IsWay bodies starts name) (Some w) → (Was : Ways) (x y : List (Name × ℕ)) → TellAll Was x → RaisesOver w d x y → TellAll (OrWays Was (GoesOver bodies starts name d)) y
            over_one d w known Was x y told over =
                elim (same_or_not d.mode 40000) [
                  | inr file ↦
                      all_same Was (OrWays Was (GoesOver bodies starts name d)) (λ n c is. inl is) (λ n c has. elim has [ inl is ↦ is | inr g ↦ absurd (file g.folder) ]) y
                      (subst (TellAll Was) (sym (over.other file)) told)
                  | inl folder ↦
                      let r = over.folder folder in
                      raised Was (GoesOver bodies starts name d) (folder_name d.id) r.0 x y told r.3
                      (over_tells d folder w r.0 known r.1 r.2) (λ n c g. sym g.named)
                ]

        of_folders : name.kind ≡ Directory → (o : Option ℕ) → lookup (is_at (name_cmp name)) old ≡ o → TellsOfFolders bodies name o old new → TellAll (ComesFrom bodies starts (name ∷ behind)) new
        of_folders kind None e same =
            let none : (c : ℕ) → IsWay bodies starts name c → ⊥ = subst (Tells (IsWay bodies starts name)) e ways_here in
            none_on (λ n c g. none g.goes.before g.goes.way) same
        of_folders kind (Some way) e (inr (missing, same)) = none_on (none_held missing) same
        of_folders kind (Some way) e (inl (entries, holds, over)) =
            with_steps
            (all_same (OrWays (ComesFrom bodies starts behind) (GoesOverOne bodies starts name entries)) (OrWays (ComesFrom bodies starts behind) (StepsFrom bodies starts name))
            (λ n c has. elim has [
              | inl is ↦ inl is
              | inr g ↦ inr (record { entry = g.entry; is_entry = record { kind = kind; body = holds.body; held = holds.held; entries = entries; is = holds.is; there = g.there }; goes = g.goes })
            ])
            (λ n c has. elim has [
              | inl is ↦ inl is
              | inr g ↦ inr (record { entry = g.entry; there = subst (λ (es : List DirectoryEntry). Contains es g.entry) (same_entries g.is_entry) g.is_entry.there; goes = g.goes })
            ])
            new (over_entries way (subst (Tells (IsWay bodies starts name)) e ways_here) entries (ComesFrom bodies starts behind) old new all over))
          where
            same_entries : {d : DirectoryEntry} (has : HasDirectoryEntry bodies name d) → has.entries ≡ entries
            same_entries has =
                one_listing_lem holds.body has.entries entries (subst (λ (b : List ℕ). IsDirectory b has.entries) (same_some has.body holds.body (sym has.held ∙ holds.held)) has.is) holds.is

        -- no step leads from a name of another kind
        other_kind : (name.kind ≡ Directory → ⊥) → new ≡ old → TellAll (ComesFrom bodies starts (name ∷ behind)) new
        other_kind folder same = none_on (λ n c g. folder g.is_entry.kind) same

        pub told : TellsOf bodies name name.kind old new → TellAll (ComesFrom bodies starts (name ∷ behind)) new
        told = by name.kind refl
          where
            by : (k : Kind) → name.kind ≡ k → TellsOf bodies name k old new → TellAll (ComesFrom bodies starts (name ∷ behind)) new
            by Content e same = other_kind (λ f. let g : Content ≡ Directory = sym e ∙ f in cc) same
            by Directory e tells = of_folders e (lookup (is_at (name_cmp name)) old) refl tells
            by Revision e same = other_kind (λ f. let g : Revision ≡ Directory = sym e ∙ f in cc) same
            by Release e same = other_kind (λ f. let g : Release ≡ Directory = sym e ∙ f in cc) same
            by Snapshot e same = other_kind (λ f. let g : Snapshot ≡ Directory = sym e ∙ f in cc) same

    module _ (i : ℕ) (none : Name) (within : i < length order) (old new : List (Name × ℕ)) where
      drop_at : drop i order ≡ get_or order i none ∷ drop (i + 1) order
      drop_at = rw (add-one, drop-cons order i none)

      pub told_at : TellAll (ComesFrom bodies starts (drop (i + 1) order)) old → TellsOf bodies (get_or order i none) ((get_or order i none).kind) old new → TellAll (ComesFrom bodies starts (drop i order)) new
      told_at all tells =
          subst (λ (l : List Name). TellAll (ComesFrom bodies starts l) new) (sym drop_at)
          (told (take i order) (drop (i + 1) order) (get_or order i none) (sym (take-append-drop i order) ∙ ap (λ (l : List Name). take i order ++ l) drop_at) old new all tells)

      -- what is told of the name at the place, once all behind it have told of their steps
      pub here_at : TellAll (ComesFrom bodies starts (drop (i + 1) order)) old → Tells (IsWay bodies starts (get_or order i none)) (lookup (is_at (name_cmp (get_or order i none))) old)
      here_at all = ways_here (take i order) (drop (i + 1) order) (get_or order i none) (sym (take-append-drop i order) ∙ ap (λ (l : List Name). take i order ++ l) drop_at) old new all

    pub all_told : (entries : List (Name × ℕ)) → TellAll (ComesFrom bodies starts order) entries → TellAll (IsWay bodies starts) entries
    all_told entries all = all_same (ComesFrom bodies starts order) (IsWay bodies starts) (λ n c is. from_names order n c is) to_order entries all

-- at first just the starts are told of
pub told_at_last : (bodies : Bodies) (starts order : List Name) (entries : List (Name × ℕ)) → TellAll (IsStart starts) entries → TellAll (ComesFrom bodies starts (drop (length order) order)) entries
told_at_last bodies starts order entries all =
    subst (λ (l : List Name). TellAll (ComesFrom bodies starts l) entries) (sym (drop-length order))
    (all_same (IsStart starts) (ComesFrom bodies starts []) (λ n c is. inl is) (λ n c has. elim has [ inl is ↦ is | inr s ↦ absurd (none_in s.place s.there) ]) entries all)
