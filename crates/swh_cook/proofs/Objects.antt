-- The objects of such a folder: its contents, its directories, each after those in it, and the snapshot.
use Rattle.std.proofs.Common.{◌≡◌, ◌⊎◌, inl, inr, ℕ, ◌≤◌, ◌==◌, Bool, true, false, cond, Option, Some, None, List, [], ◌∷◌, ◌++◌, length, Contains, refl, sym, ap, ◌∙◌, subst}
use Rattle.std.specs.Prelude.{◌↔◌}
use Rattle.std.specs.List.{AllByRecursion, cons_option}
use Rattle.std.proofs.lemmas.Bool.{eqb-true}
use Rattle.std.proofs.lemmas.List.{map-append}
use Rattle.std.proofs.lemmas.List.Elements.{Contains-append_left, Contains-append_right, Contains-append_cases}
use Rattle.swh_base.specs.declared.entry.Entry.{Entry}
use Rattle.swh_base.specs.declared.kind.Kind.{Kind}
use Rattle.swh_base.specs.declared.kind.Kind.TheVariants.{Directory}
use Rattle.swh_base.specs.declared.name.Name.{Name}
use Rattle.swh_base.specs.Directory.{DirectoryEntry, AreEntries, child_of, children_of, directory_text}
use Rattle.swh_base.specs.Limits.{body_limit}
use Rattle.swh_object.specs.Object.{IsObject}
use Rattle.swh_dedup.proofs.Elements.{first_or_later, first_is, later_is, none_is, contains_map}
use Rattle.swh_dedup.proofs.Givens.{new_push}
use Rattle.swh_dedup.specs.Giving.{AreNew}
use Rattle.swh_dedup.specs.Making.{made, made_from, name_of, names_of_made}
use Rattle.swh_model.specs.Archive.{Bodies, body_of}
use Rattle.swh_model.specs.Meaning.{Made, content, directory}
use Rattle.swh_graph.specs.Holding.{HoldsDirectory}
use Rattle.swh_graph.specs.Path.{directory_name}
use Rattle.swh_pathwalk.specs.Tree.{Tree, End, Leaf, Folder, entries_in, AreHeldUnder}
use Rattle.swh_dirmade.specs.Paths.{child}
use Rattle.swh_dircook.specs.Made.{content_name}
use Rattle.swh_cook.specs.FolderBack.{AreGoodBodies}
use Rattle.swh_cook.proofs.Nodes.{Node, node_at, nodes, IsGood}
use Rattle.swh_cook.proofs.Read.{known_or_new}

module _ (id : Kind → List ℕ → List ℕ) where
  -- One object more is given, unless it was.
  pub record GivesMore (old : List Entry) (m : Made) (new : List Entry) : Type 0 where
    pub fresh : AreNew id [] new
    pub each : (x : Made) → Contains (made new) x ↔ (Contains (made old) x ⊎ (m ≡ x))

  pub give : (old : List Entry) (object : Entry) → AreNew id [] old → IsObject id object → AllByRecursion (Contains (names_of_made id (made old))) object.kids → (new : List Entry) × GivesMore old (made_from object) new
  give old object fresh is kids =
      elim (known_or_new (made old) (made_from object)) [
        | inl there ↦ (old, record { fresh = fresh; each = λ x. (λ h. inl h, λ h. elim h [ inl a ↦ a | inr same ↦ subst (Contains (made old)) same there ]) })
        | inr new ↦ (
          old ++ object ∷ [],
          record {
            fresh = new_push id [] old object fresh new is kids;
            each = λ x. (
              λ h.
                  elim (Contains-append_cases (made old) (made_from object ∷ []) x (subst (λ (l : List Made). Contains l x) (map-append made_from old (object ∷ [])) h)) [
                    | inl a ↦ inl a
                    | inr b ↦ elim (first_or_later (made_from object) [] x b) [ inl same ↦ inr same | inr none ↦ absurd (none_is x none) ]
                  ],
              λ h.
                  subst (λ (l : List Made). Contains l x) (sym (map-append made_from old (object ∷ [])))
                  (elim h [
                    | inl a ↦ Contains-append_left (made old) (made_from object ∷ []) x a
                    | inr same ↦ Contains-append_right (made old) (made_from object ∷ []) x (subst (Contains (made_from object ∷ [])) same (first_is (made_from object) []))
                  ]),
            );
          },
        )
      ]

  -- the object of a directory of these entries
  abbrev pub directory_object : List DirectoryEntry → Entry
  directory_object es = record { name = record { kind = Directory; id = id Directory (directory_text es) }; body = directory_text es; kids = children_of es }

  -- What the entry leads to, if it leads to something, is among the objects.
  abbrev LeadsInto : List Made → DirectoryEntry → Type 0
  LeadsInto ms e = (n : Name) → child_of e ≡ Some n → Contains (names_of_made id ms) n

  kids_option : (o : Option Name) (names kids : List Name) → ((n : Name) → o ≡ Some n → Contains names n) → AllByRecursion (Contains names) kids → AllByRecursion (Contains names) (cons_option o kids)
  kids_option None names kids one rest = rest
  kids_option (Some n) names kids one rest = (one n refl, rest)

  kids_there : (ms : List Made) (es : List DirectoryEntry) → ((e : DirectoryEntry) → Contains es e → LeadsInto ms e) → AllByRecursion (Contains (names_of_made id ms)) (children_of es)
  kids_there ms [] each = tt
  kids_there ms (e ∷ es) each = kids_option (child_of e) (names_of_made id ms) (children_of es) (each e (first_is e es)) (kids_there ms es (λ d there. each d (later_is e es d there)))

  pub give_directory : (old : List Entry) (es : List DirectoryEntry) → AreNew id [] old → AreEntries es → length (directory_text es) ≤ body_limit → ((e : DirectoryEntry) → Contains es e → LeadsInto (made old) e)
      → (new : List Entry) × GivesMore old (directory (directory_text es)) new
  give_directory old es fresh good short kids =
      give old (directory_object es) fresh
      (record { kids = record { entries = es; directory = record { text = refl; good = good }; kids = refl }; named = refl; short = short })
      (kids_there (made old) es kids)

  child_by : (p f : Bool) (e : DirectoryEntry) (n : Name) → cond p None (cond f (Some (directory_name e.id)) (Some (content_name e.id))) ≡ Some n → ((f ≡ true) × (n ≡ directory_name e.id)) ⊎ ((f ≡ false) × (p ≡ false) × (n ≡ content_name e.id))
  child_by true f e n is = absurd cc
  child_by false true e n is = inl (refl, cc)
  child_by false false e n is = inr (refl, refl, cc)

  module _ (bodies : Bodies) (are : AreGoodBodies id bodies) where
    -- What is known of the contents of these nodes' files: each is held, and given.
    abbrev pub AreGiven : List Node → List Made → Type 0
    AreGiven ns ms = (n : Node) → Contains ns n → (n.entry.mode == 40000) ≡ false → (n.entry.mode == 160000) ≡ false → (body : List ℕ) × (body_of bodies (content_name n.entry.id) ≡ Some body) × Contains ms (content body)

    named_content : (ms : List Made) (i body : List ℕ) → body_of bodies (content_name i) ≡ Some body → Contains ms (content body) → Contains (names_of_made id ms) (content_name i)
    named_content ms i body held there =
        let same : name_of id (content body) ≡ content_name i = ap (λ (k : List ℕ). content_name k) (sym (are.named (content_name i) body held)) in
        subst (Contains (names_of_made id ms)) same (contains_map (name_of id) ms (content body) there)

    pub text_id : (i : List ℕ) (es : List DirectoryEntry) → HoldsDirectory bodies (directory_name i) es → id Directory (directory_text es) ≡ i
    text_id i es h = ap (λ (b : List ℕ). id Directory b) (sym h.is.text) ∙ sym (are.named (directory_name i) h.body h.held)

    pub text_short : (name : Name) (es : List DirectoryEntry) → HoldsDirectory bodies name es → length (directory_text es) ≤ body_limit
    text_short name es h = subst (λ (b : List ℕ). length b ≤ body_limit) h.is.text (are.short name h.body h.held)

    named_directory : (ms : List Made) (i : List ℕ) (es : List DirectoryEntry) → HoldsDirectory bodies (directory_name i) es → Contains ms (directory (directory_text es)) → Contains (names_of_made id ms) (directory_name i)
    named_directory ms i es h there =
        let same : name_of id (directory (directory_text es)) ≡ directory_name i = ap directory_name (text_id i es h) in
        subst (Contains (names_of_made id ms)) same (contains_map (name_of id) ms (directory (directory_text es)) there)

    -- The directory is one of a folder among the nodes.
    abbrev pub IsFolderIn : List Node → Made → Type 0
    IsFolderIn ns m = (n : Node) × Contains ns n × (n.entry.mode ≡ 40000) × (directory (directory_text (entries_in n.inner)) ≡ m)

    -- what an entry of a tree leads to, where its contents and its folders' directories are given
    pub leads_into : (tree : Tree) (dir : List ℕ) → AreHeldUnder bodies tree → (ms : List Made) → AreGiven (nodes dir tree) ms → ((m : Made) → IsFolderIn (nodes dir tree) m → Contains ms m) → (e : DirectoryEntry) → Contains (entries_in tree) e → LeadsInto ms e
    leads_into End dir held ms given all e there = absurd (none_is e there)
    leads_into (Leaf d rest) dir (leaf, held) ms given all e there =
        elim (first_or_later d (entries_in rest) e there) [
          | inl same ↦
              subst (LeadsInto ms) same
              (λ n is. elim (child_by (d.mode == 160000) (d.mode == 40000) d n is) [
                | inl folder ↦ absurd (leaf (eqb-true d.mode 40000 folder.0))
                | inr file ↦
                    let g = given (node_at dir d End) (first_is (node_at dir d End) (nodes dir rest)) file.0 file.1 in
                    subst (Contains (names_of_made id ms)) (sym file.2) (named_content ms d.id g.0 g.1 g.2)
              ])
          | inr later ↦
              leads_into rest dir held ms (λ n in_it f p. given n (later_is (node_at dir d End) (nodes dir rest) n in_it) f p)
              (λ m h. all m (h.0, later_is (node_at dir d End) (nodes dir rest) h.0 h.1, h.2, h.3)) e later
        ]
    leads_into (Folder d inner rest) dir (is_folder, holds, inside, held) ms given all e there =
        let first = node_at dir d inner in
        let here = nodes (child dir d.name) inner in
        let others = nodes dir rest in
        elim (first_or_later d (entries_in rest) e there) [
          | inl same ↦
              subst (LeadsInto ms) same
              (λ n is. elim (child_by (d.mode == 160000) (d.mode == 40000) d n is) [
                | inl folder ↦
                    subst (Contains (names_of_made id ms)) (sym folder.1)
                    (named_directory ms d.id (entries_in inner) holds (all (directory (directory_text (entries_in inner))) (first, first_is first (here ++ others), is_folder, refl)))
                | inr file ↦ absurd (let f : true ≡ false = sym (ap (λ (k : ℕ). k == 40000) is_folder) ∙ file.0 in cc)
              ])
          | inr later ↦
              leads_into rest dir held ms (λ n in_it f p. given n (later_is first (here ++ others) n (Contains-append_right here others n in_it)) f p)
              (λ m h. all m (h.0, later_is first (here ++ others) h.0 (Contains-append_right here others h.0 h.1), h.2, h.3)) e later
        ]

    -- The directories of all folders among the nodes are given beside what was.
    pub record GivesFolders (ns : List Node) (old new : List Entry) : Type 0 where
      pub fresh : AreNew id [] new
      pub each : (x : Made) → Contains (made new) x ↔ (Contains (made old) x ⊎ IsFolderIn ns x)

    given_more : (ns : List Node) (old new : List Made) → ((m : Made) → Contains old m → Contains new m) → AreGiven ns old → AreGiven ns new
    given_more ns old new stays given n there f p = let g = given n there f p in (g.0, g.1, stays (content g.0) g.2)

    pub give_folders : (tree : Tree) (dir : List ℕ) → IsGood tree → AreHeldUnder bodies tree → (old : List Entry) → AreNew id [] old → AreGiven (nodes dir tree) (made old) → (new : List Entry) × GivesFolders (nodes dir tree) old new
    give_folders End dir good held old fresh given = (old, record { fresh = fresh; each = λ x. (λ h. inl h, λ h. elim h [ inl a ↦ a | inr f ↦ absurd (none_is f.0 f.1) ]) })
    give_folders (Leaf e rest) dir (named, good) (leaf, held) old fresh given =
        let first = node_at dir e End in
        let others = nodes dir rest in
        let r = give_folders rest dir good held old fresh (λ n there f p. given n (later_is first others n there) f p) in (
          r.0,
          record {
            fresh = r.1.fresh;
            each = λ x. (
              λ h. elim ((r.1.each x).0 h) [ inl a ↦ inl a | inr f ↦ inr (f.0, later_is first others f.0 f.1, f.2, f.3) ],
              λ h. elim h [
                | inl a ↦ (r.1.each x).1 (inl a)
                | inr f ↦
                    elim (first_or_later first others f.0 f.1) [
                      | inl same ↦ absurd (leaf (ap (λ (n : Node). n.entry.mode) same ∙ f.2))
                      | inr later ↦ (r.1.each x).1 (inr (f.0, later, f.2, f.3))
                    ]
              ],
            );
          },
        )
    give_folders (Folder e inner rest) dir (named, entries, within, good) (is, holds, inside, held) old fresh given =
        let first = node_at dir e inner in
        let here = nodes (child dir e.name) inner in
        let others = nodes dir rest in
        let own = directory (directory_text (entries_in inner)) in
        let given_here : AreGiven here (made old) = λ n there f p. given n (later_is first (here ++ others) n (Contains-append_left here others n there)) f p in
        let a = give_folders inner (child dir e.name) within inside old fresh given_here in
        let b = give_directory a.0 (entries_in inner) a.1.fresh entries (text_short (directory_name e.id) (entries_in inner) holds)
        (leads_into inner (child dir e.name) inside (made a.0) (given_more here (made old) (made a.0) (λ m h. (a.1.each m).1 (inl h)) given_here) (λ m h. (a.1.each m).1 (inr h))) in
        let c = give_folders rest dir good held b.0 b.1.fresh
        (given_more others (made old) (made b.0) (λ m h. (b.1.each m).1 (inl ((a.1.each m).1 (inl h)))) (λ n there f p. given n (later_is first (here ++ others) n (Contains-append_right here others n there)) f p)) in (
          c.0,
          record {
            fresh = c.1.fresh;
            each = λ x. (
              λ h.
                  elim ((c.1.each x).0 h) [
                    | inl in_b ↦
                        elim ((b.1.each x).0 in_b) [
                          | inl in_a ↦
                              elim ((a.1.each x).0 in_a) [
                                | inl was ↦ inl was
                                | inr f ↦ inr (f.0, later_is first (here ++ others) f.0 (Contains-append_left here others f.0 f.1), f.2, f.3)
                              ]
                          | inr same ↦ inr (first, first_is first (here ++ others), is, same)
                        ]
                    | inr f ↦ inr (f.0, later_is first (here ++ others) f.0 (Contains-append_right here others f.0 f.1), f.2, f.3)
                  ],
              λ h.
                  elim h [
                    | inl was ↦ (c.1.each x).1 (inl ((b.1.each x).1 (inl ((a.1.each x).1 (inl was)))))
                    | inr f ↦
                        elim (first_or_later first (here ++ others) f.0 f.1) [
                          | inl same ↦ (c.1.each x).1 (inl ((b.1.each x).1 (inr (ap (λ (n : Node). directory (directory_text (entries_in n.inner))) same ∙ f.3))))
                          | inr later ↦
                              elim (Contains-append_cases here others f.0 later) [
                                | inl in_it ↦ (c.1.each x).1 (inl ((b.1.each x).1 (inl ((a.1.each x).1 (inr (f.0, in_it, f.2, f.3))))))
                                | inr after ↦ (c.1.each x).1 (inr (f.0, after, f.2, f.3))
                              ]
                        ]
                  ],
            );
          },
        )
