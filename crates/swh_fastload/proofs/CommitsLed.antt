-- What a commit leads to, once its tree is made and its objects are given.
use Rattle.std.proofs.Common.{◌≡◌, ◌⊎◌, inl, inr, ℕ, zero, suc, ◌<◌, ◌≤◌, Option, Some, None, Result, Ok, List, [], ◌∷◌, ◌++◌, Contains, refl, sym, ap, ◌∙◌, subst, arith}
use Rattle.std.specs.List.{AllByRecursion}
use Rattle.std.specs.Option.{option_map}
use Rattle.std.proofs.lemmas.List.Elements.{Contains-append_left, Contains-append_right, Contains-append_cases, Contains-push}
use Rattle.swh_base.specs.declared.kind.Kind.{Kind}
use Rattle.swh_base.specs.declared.kind.Kind.TheVariants.{Content, Directory, Revision, Snapshot}
use Rattle.swh_base.specs.declared.name.Name.{Name}
use Rattle.swh_base.specs.declared.entry.Entry.{Entry}
use Rattle.swh_base.specs.Name.{IsId}
use Rattle.swh_base.specs.Text.{IsRef}
use Rattle.swh_base.specs.Revision.{revision_name}
use Rattle.swh_base.specs.Manifest.{IsWellFormed}
use Rattle.swh_revfmt.specs.Plain.{plain_revision_text}
use Rattle.swh_base.specs.Directory.{directory_text}
use Rattle.swh_base.proofs.Elementary.{all_as}
use Rattle.swh_trees.specs.Directory.{directory_id, directory_of}
use Rattle.swh_model.specs.Meaning.{Made, directory}
use Rattle.swh_trees.specs.declared.tree.Tree.{Tree}
use Rattle.swh_trees.specs.Grove.{Grove, folder_map, map_of}
use Rattle.swh_forest.specs.Roots.{IsBelow, map_of_number}
use Rattle.swh_forest.specs.PathMap.{PathMap, HasFolder, held}
use Rattle.swh_dedup.specs.Making.{made_from, made, name_of, object_of, names_of_made, HaveIds}
use Rattle.swh_dedup.specs.Whole.{content_name}
use Rattle.swh_fastmeaning.specs.Aims.{Aim, AllAims, Missing, with_mark, with_tip, aim_with, aims_with}
use Rattle.swh_fastmeaning.specs.Changes.{IsGivableChange, changed_of}
use Rattle.swh_fastmeaning.specs.Commands.{Changed, Making, Makes, Targets, revision, revision_parts, committed, step, first_parent, starting_tree, aim_of, ◌>>=◌}
use Rattle.swh_fastload.specs.Committing.{IsPrepared, command_of, commit_made, rest_of}
use Rattle.swh_fastmeaning.specs.Feeding.{ExplainsFeed}
use Rattle.swh_fastmeaning.specs.Parting.{ExplainsBody}
use Rattle.swh_fastmeaning.specs.Stock.{Stock, stock, loading_of, IsAimAmong, AreAimsAmong, IsGivenGrove, IsStocked, Leads, folder_made, IsFileAmong, AreFilesAmong, IsFree}
use Rattle.swh_dedup.specs.Giving.{AreReady, Gives}
use Rattle.swh_fastload.specs.declared.commit.Commit.{Commit}
use Rattle.swh_fastload.specs.declared.commit.CommitText.{CommitText}
use Rattle.swh_fastload.specs.declared.commit.Prepared.{Prepared}
use Rattle.swh_fastmeaning.specs.declared.feed_fault.FeedFault.{FeedFault}
use Rattle.swh_dedup.proofs.Elements.{contains_map, first_is, first_or_later, none_is}
use Rattle.swh_dedup.proofs.Givens.{AreAlso, more_names, ready_append}
use Rattle.swh_fastmeaning.proofs.AimForms.{with_mark-map, with_tip-map, aims_same, aims_more, marked_among, tipped_among, blob_among}
use Rattle.swh_fastload.proofs.ParentsFound.{first_among, parents_among}
use Rattle.swh_fastload.proofs.FreePaths.{held_free, none_free}
use Rattle.swh_fastload.proofs.ChangedFiles.{AreBlobsAmong, held_files}
use Rattle.swh_fastload.proofs.ChangedAll.{Ends, all_ends}
use Rattle.swh_fastmeaning.proofs.Tags.{named_id}
use Rattle.swh_fastmeaning.proofs.Leadings.{files_more, gives_also, explains_long}
use Rattle.swh_fastload.proofs.CommitsMade.{step_is}
use Rattle.swh_fastload.proofs.CommitsGiven.{revision_good, revision_ready, contents_ready, directories_ready, directory_there, directory_from}

less_or_not : (a b : ℕ) → (a < b) ⊎ (b ≤ a)
less_or_not zero zero = inr (omega arith)
less_or_not zero (suc b) = inl (omega arith)
less_or_not (suc a) zero = inr (omega arith)
less_or_not (suc a) (suc b) = again (less_or_not a b)
  where
    again : (a < b) ⊎ (b ≤ a) → (suc a < suc b) ⊎ (suc b ≤ suc a)
    again (inl l) = inl (omega (arith, l))
    again (inr l) = inr (omega (arith, l))

module _ (id : Kind → List ℕ → List ℕ) (s : Stock) (h : IsStocked id s) (commit : Commit) (text : CommitText) (new : Grove) {N : Type 0} (p : Prepared N) (made_ready : IsPrepared id s.grove s.aims commit new p)
    (givable : AllByRecursion (λ a. IsGivableChange a.it) commit.changes) where
  abbrev ch : Changed
  ch = made_ready.makes.changed

  abbrev directories : List Entry
  directories = p.made.objects.items

  abbrev contents : List Entry
  contents = p.contents.items

  abbrev old_made : ℕ
  old_made = made_ready.makes.between.made

  from_old : made_ready.makes.between.made ≡ s.grove.made
  from_old = made_ready.makes.keeps.made

  stay : (n : ℕ) → n < s.grove.made → folder_map new n ≡ folder_map s.grove n
  stay n l = made_ready.makes.makes.stay n (let e = from_old in omega (arith, e, l)) ∙ made_ready.makes.keeps.maps n l

  at_start : (P : PathMap → Type 0) → P [] → ((n : ℕ) → n < s.grove.made → P (folder_map s.grove n)) → P (map_of s.grove made_ready.start)
  at_start P none some = subst P (sym made_ready.starts) (by_first made_ready.first made_ready.found)
    where
      by_number : (o : Option ℕ) → IsBelow s.grove.made o → P (map_of_number (folder_map s.grove) o)
      by_number None b = none
      by_number (Some k) b = some k b

      by_first : (o : Option (Aim Tree)) → first_parent s.aims commit.branch commit.parent ≡ Ok o → P (starting_tree (option_map (aim_with (map_of s.grove)) o))
      by_first None e = none
      by_first (Some a) e = by_number a.tree.number (first_among id s.grove.made s.given s.aims h.among commit.branch commit.parent a e).0.tree

  ends : (after : List Made) → AreAlso s.given after → Ends id s.aims (names_of_made id after) (changed_of (map_of s.grove made_ready.start) []) ch
  ends after sub = all_ends id s.aims (names_of_made id after) commit.changes (changed_of (map_of s.grove made_ready.start) []) ch givable blobs made_ready.makes.is
    where
      blobs : AreBlobsAmong (names_of_made id after) id s.aims
      blobs at mark aim e =
          let b = blob_among id s.grove.made s.given s.aims at mark aim h.among e in (
            more_names id s.given after (content_name aim.name.id) sub (subst (λ (k : Kind). let n : Name = record { kind = k; id = aim.name.id } in Contains (names_of_made id s.given) n) b.1 b.0.named),
            named_id id s.given aim.name h.ids b.0.named,
          )

  free_tree : IsFree ch.tree
  free_tree = (ends s.given (λ m c. c)).free (at_start IsFree none_free (λ n l. h.trees.free n l))

  -- the files of the tree are among those that were given and its contents
  tree_files : (after : List Made) → AreAlso (s.given ++ made contents) after → HaveIds id after → AreFilesAmong (names_of_made id after) ch.tree
  tree_files after sub ids =
      let old : AreAlso s.given after = λ m c. sub m (Contains-append_left s.given (made contents) m c) in
      (ends after old).files
      (λ m c. let there = sub m (Contains-append_right s.given (made contents) m (subst (λ (t : List Made). Contains t m) (sym made_ready.makes.holds) c)) in (contains_map (name_of id) after m there, ids m there))
      (at_start (AreFilesAmong (names_of_made id after)) tt (λ n l. all_as (IsFileAmong (names_of_made id s.given)) (IsFileAmong (names_of_made id after))
      (files_more (names_of_made id s.given) (names_of_made id after) (λ m. more_names id s.given after m old)) (folder_map s.grove n) (h.trees.files n l)))

  folder_files : (after : List Made) (n : ℕ) → old_made ≤ n → n < new.made → AreAlso (s.given ++ made contents) after → HaveIds id after → AreFilesAmong (names_of_made id after) (folder_map new n)
  folder_files after n low high sub ids =
      let part = made_ready.makes.makes.parts n low high in
      subst (AreFilesAmong (names_of_made id after)) (sym part.holds) (held_files (names_of_made id after) part.path ch.tree free_tree part.there (tree_files after sub ids))

  lower : (after : List Made) → AreAlso s.given after → (n : ℕ) → n < old_made → Contains after (folder_made id new n)
  lower after sub n l =
      let m : n < s.grove.made = let e = from_old in omega (arith, e, l) in
      subst (λ (t : PathMap). Contains after (directory (directory_text (directory_of id t)))) (sym (stay n m)) (sub (folder_made id s.grove n) (h.trees.folders n m))

  -- each folder's object is among those that were given and the new directories
  folder_there : (n : ℕ) → n < new.made → Contains ((s.given ++ made contents) ++ made directories) (folder_made id new n)
  folder_there n l = by_less (less_or_not n old_made)
    where
      by_less : (n < old_made) ⊎ (old_made ≤ n) → Contains ((s.given ++ made contents) ++ made directories) (folder_made id new n)
      by_less (inl m) = Contains-append_left (s.given ++ made contents) (made directories) (folder_made id new n) (lower (s.given ++ made contents) (λ x c. Contains-append_left s.given (made contents) x c) n m)
      by_less (inr m) = Contains-append_right (s.given ++ made contents) (made directories) (folder_made id new n)
          (directory_there id new old_made directories n made_ready.makes.makes.made m (let e = made_ready.makes.makes.each in omega (arith, e, l)))

  abbrev body : List ℕ
  body = plain_revision_text (revision_parts p.made.id p.parents.items (rest_of text))

  abbrev rev : Made
  rev = object_of Revision body

  parents_given : AllByRecursion (λ i. Contains (names_of_made id s.given) (revision_name i)) p.parents.items
  parents_given = parents_among id s.grove.made s.given s.aims h.among commit.branch commit.parent commit.merges made_ready.first p.parents.items made_ready.found made_ready.parents

  pub body_good : IsId p.made.id → IsWellFormed Revision body
  body_good i =
      revision_good id p.made.id p.parents.items (rest_of text) i
      (all_as (λ (x : List ℕ). Contains (names_of_made id s.given) (revision_name x)) IsId (λ x c. named_id id s.given (revision_name x) h.ids c) p.parents.items parents_given)

  root_there : Contains (names_of_made id ((s.given ++ made contents) ++ made directories)) (record { kind = Directory; id = p.made.id })
  root_there =
      let k = made_ready.makes.makes.whole [] tt in
      let before = (s.given ++ made contents) ++ made directories in
      let there = contains_map (name_of id) before (folder_made id new k.number) (folder_there k.number k.within) in
      subst (λ (i : List ℕ). let n : Name = record { kind = Directory; id = i } in Contains (names_of_made id before) n) (sym made_ready.makes.makes.named)
      (subst (λ (m : PathMap). let n : Name = record { kind = Directory; id = directory_id id (directory_of id m) } in Contains (names_of_made id before) n) k.map there)

  pub all_ready : AreReady id s.given (commit_made contents directories body)
  all_ready =
      let before = s.given ++ made contents in
      let brings = (ends s.given (λ m c. c)).brings in
      let kinds : AllByRecursion (λ m. m.kind ≡ Content) (made contents) = subst (AllByRecursion (λ m. m.kind ≡ Content)) (sym (made_ready.makes.holds ∙ brings.added)) brings.kinds in
      let each = made_ready.makes.makes.each in
      let dirs = directories_ready id new before old_made directories made_ready.makes.makes.made (lower before (λ x c. Contains-append_left s.given (made contents) x c))
      (λ n l c there. made_ready.makes.makes.children n c (omega (arith, each, l)) there)
      (λ after n low l sub ids. folder_files after n low (omega (arith, each, l)) sub ids) in
      let last = revision_ready id (before ++ made directories) p.made.id p.parents.items (rest_of text) root_there
      (all_as (λ (x : List ℕ). Contains (names_of_made id s.given) (revision_name x)) (λ (x : List ℕ). Contains (names_of_made id (before ++ made directories)) (revision_name x))
      (λ x. more_names id s.given (before ++ made directories) (revision_name x) (λ m c. Contains-append_left before (made directories) m (Contains-append_left s.given (made contents) m c))) p.parents.items parents_given) in
      ready_append id s.given (made contents) (made directories ++ rev ∷ []) (contents_ready id s.given (made contents) kinds) (ready_append id before (made directories) (rev ∷ []) dirs (last, tt))

  -- ## What is made

  abbrev known : Targets
  known = (loading_of s).aims

  abbrev its_revision : Made
  its_revision = revision id ch.tree p.parents.items (rest_of text)

  abbrev making : Making
  making = committed id known commit.branch commit.mark ch its_revision

  same_revision : rev ≡ its_revision
  same_revision = ap (λ (r : List ℕ). object_of Revision (plain_revision_text (revision_parts r p.parents.items (rest_of text)))) made_ready.makes.makes.named

  step_made : step id known (command_of commit text) ≡ Ok making
  step_made =
      step_is id s.grove s.aims commit text made_ready.first p.parents.items (map_of s.grove made_ready.start) made_ready.found made_ready.parents made_ready.starts
      ∙ ap (λ (r : Result Changed Missing). (r >>= λ c. let o : Result (List (List ℕ) × Changed) Missing = Ok (p.parents.items, c) in o) >>= λ q. let o : Result Making Missing = Ok (committed id known commit.branch commit.mark q.1 (revision id q.1.tree q.0 (rest_of text))) in o) made_ready.makes.is

  last_made : Makes id making its_revision
  last_made = inl (Contains-append_right ch.contents (its_revision ∷ []) its_revision (first_is its_revision []))

  pub commit_refused : (fault : FeedFault) → ExplainsBody body fault → ExplainsFeed id (step id known (command_of commit text)) fault
  commit_refused fault b =
      explains_long id (step id known (command_of commit text)) making its_revision fault step_made last_made ch.contents [] refl made_ready.makes.short (subst (λ (m : Made). ExplainsBody m.body fault) same_revision b)

  -- what is given is made
  is_made : (m : Made) → Contains (commit_made contents directories body) m → Makes id making m
  is_made m c = by_place (Contains-append_cases (made contents) (made directories ++ rev ∷ []) m c)
    where
      by_last : Contains (made directories) m ⊎ Contains (rev ∷ []) m → Makes id making m
      by_last (inl d) =
          let f = directory_from id new old_made directories m made_ready.makes.makes.made d in
          let part = made_ready.makes.makes.parts f.0 f.1 (let each = made_ready.makes.makes.each in let l = f.2 in omega (arith, each, l)) in
          inr (ch.tree, first_is ch.tree [], record { path = part.path; folder = part.there; is = sym f.3 ∙ ap (λ (t : PathMap). directory (directory_text (directory_of id t))) part.holds })
      by_last (inr d) = by_only (first_or_later rev [] m d)
        where
          by_only : (rev ≡ m) ⊎ Contains [] m → Makes id making m
          by_only (inl e) = subst (Makes id making) (sym same_revision ∙ e) last_made
          by_only (inr n) = absurd (none_is m n)

      by_place : Contains (made contents) m ⊎ Contains (made directories ++ rev ∷ []) m → Makes id making m
      by_place (inl d) = inl (Contains-append_left ch.contents (its_revision ∷ []) m (subst (λ (t : List Made). Contains t m) made_ready.makes.holds d))
      by_place (inr d) = by_last (Contains-append_cases (made directories) (rev ∷ []) m d)

  module _ (given : List Made) (objects : List Entry) (g : Gives id (commit_made contents directories body) s.given given objects) where
    old_given : AreAlso s.given given
    old_given = gives_also id (commit_made contents directories body) s.given given objects g

    in_contents : (m : Made) → Contains (made contents) m → Contains given m
    in_contents m c = g.all m (Contains-append_left (made contents) (made directories ++ rev ∷ []) m c)

    in_directories : (m : Made) → Contains (made directories) m → Contains given m
    in_directories m c = g.all m (Contains-append_right (made contents) (made directories ++ rev ∷ []) m (Contains-append_left (made directories) (rev ∷ []) m c))

    rev_there : Contains (commit_made contents directories body) rev
    rev_there = Contains-append_right (made contents) (made directories ++ rev ∷ []) rev (Contains-push (made directories) rev)

    folder_given : (n : ℕ) → n < new.made → Contains given (folder_made id new n)
    folder_given n l = by_place (Contains-append_cases (s.given ++ made contents) (made directories) (folder_made id new n) (folder_there n l))
      where
        by_old : Contains s.given (folder_made id new n) ⊎ Contains (made contents) (folder_made id new n) → Contains given (folder_made id new n)
        by_old (inl c) = old_given (folder_made id new n) c
        by_old (inr c) = in_contents (folder_made id new n) c

        by_place : Contains (s.given ++ made contents) (folder_made id new n) ⊎ Contains (made directories) (folder_made id new n) → Contains given (folder_made id new n)
        by_place (inl c) = by_old (Contains-append_cases s.given (made contents) (folder_made id new n) c)
        by_place (inr c) = in_directories (folder_made id new n) c

    -- what is made is given
    is_given : (m : Made) → Makes id making m → Contains given m
    is_given m (inl c) = by_place (Contains-append_cases ch.contents (its_revision ∷ []) m c)
      where
        by_only : (its_revision ≡ m) ⊎ Contains [] m → Contains given m
        by_only (inl e) = subst (Contains given) (same_revision ∙ e) (g.all rev rev_there)
        by_only (inr n) = absurd (none_is m n)

        by_place : Contains ch.contents m ⊎ Contains (its_revision ∷ []) m → Contains given m
        by_place (inl d) = in_contents m (subst (λ (t : List Made). Contains t m) (sym made_ready.makes.holds) d)
        by_place (inr d) = by_only (first_or_later its_revision [] m d)
    is_given m (inr (tree, c, d)) = by_tree (first_or_later ch.tree [] tree c)
      where
        by_tree : (ch.tree ≡ tree) ⊎ Contains [] tree → Contains given m
        by_tree (inl e) =
            let k = made_ready.makes.makes.whole d.path (subst (λ (t : PathMap). HasFolder t d.path) (sym e) d.folder) in
            let same : folder_made id new k.number ≡ m =
            ap (λ (t : PathMap). directory (directory_text (directory_of id t))) (k.map ∙ ap (held d.path) e) ∙ sym d.is in
            subst (Contains given) same (folder_given k.number k.within)
        by_tree (inr n) = absurd (none_is tree n)

    contents_also : AreAlso (s.given ++ made contents) given
    contents_also m c = by_place (Contains-append_cases s.given (made contents) m c)
      where
        by_place : Contains s.given m ⊎ Contains (made contents) m → Contains given m
        by_place (inl d) = old_given m d
        by_place (inr d) = in_contents m d

    new_grove : IsGivenGrove id new given
    new_grove = record { whole = made_ready.makes.makes.all; folders = folder_given; files = λ n l. by_files n l (less_or_not n old_made); free = λ n l. by_free n l (less_or_not n old_made) }
      where
        by_files : (n : ℕ) → n < new.made → (n < old_made) ⊎ (old_made ≤ n) → AreFilesAmong (names_of_made id given) (folder_map new n)
        by_files n l (inl m) =
            let k : n < s.grove.made = let e = from_old in omega (arith, e, m) in
            subst (AreFilesAmong (names_of_made id given)) (sym (stay n k)) (all_as (IsFileAmong (names_of_made id s.given)) (IsFileAmong (names_of_made id given))
            (files_more (names_of_made id s.given) (names_of_made id given) (λ x. more_names id s.given given x old_given)) (folder_map s.grove n) (h.trees.files n k))
        by_files n l (inr m) = folder_files given n m l contents_also g.ids

        by_free : (n : ℕ) → n < new.made → (n < old_made) ⊎ (old_made ≤ n) → IsFree (folder_map new n)
        by_free n l (inl m) = let k : n < s.grove.made = let e = from_old in omega (arith, e, m) in subst IsFree (sym (stay n k)) (h.trees.free n k)
        by_free n l (inr m) = let part = made_ready.makes.makes.parts n m l in subst IsFree (sym part.holds) (held_free part.path ch.tree free_tree)

    pub commit_leads : (aims : AllAims Tree) (name : Name) → IsRef commit.branch → name ≡ name_of id rev
        → aims ≡ with_tip commit.branch (record { name = name; tree = p.made.tree }) (with_mark commit.mark (record { name = name; tree = p.made.tree }) s.aims) → Leads id s (command_of commit text) (stock new aims given) objects
    commit_leads aims name ref named aims_is =
        let aim : Aim Tree = record { name = name; tree = p.made.tree } in
        let f = map_of new in
        let grows : s.grove.made ≤ new.made = let e = from_old in let each = made_ready.makes.makes.each in omega (arith, e, each) in
        let own : IsAimAmong id new.made given aim = record {
          tree = subst (λ (n : ℕ). IsBelow n p.made.tree.number) (sym made_ready.makes.makes.all) made_ready.makes.makes.stands.inside;
          named = subst (λ (n : Name). Contains (names_of_made id given) n) (sym named) (contains_map (name_of id) given rev (g.all rev rev_there));
          kind = λ k. by_kind (ap (λ (n : Name). n.kind) (sym named) ∙ k);
        } in
        let marked = marked_among id new.made given s.aims commit.mark aim (aims_more id s.grove.made s.given s.aims new.made given grows old_given h.among) own in
        let among = tipped_among id new.made given (with_mark commit.mark aim s.aims) commit.branch aim marked ref own in
        let same : aims_with f s.aims ≡ known = aims_same id s.grove.made s.given s.aims f (map_of s.grove) h.among (λ t b. by_number t.number b) in
        let form : aim_with f aim ≡ aim_of id its_revision ch.tree =
        ap (λ (n : Name). let a : Aim PathMap = record { name = n; tree = f p.made.tree } in a) (named ∙ ap (name_of id) same_revision) ∙ ap (λ (t : PathMap). let a : Aim PathMap = record { name = name_of id its_revision; tree = t } in a) made_ready.makes.makes.stands.map in
        record {
          feeds = record {
            making = making;
            is = step_made;
            aims = ap (aims_with f) aims_is ∙ with_tip-map f commit.branch aim (with_mark commit.mark aim s.aims) ∙ ap (with_tip commit.branch (aim_with f aim)) (with_mark-map f commit.mark aim s.aims)
                ∙ ap (λ (a : Targets). with_tip commit.branch (aim_with f aim) (with_mark commit.mark (aim_with f aim) a)) same
                ∙ ap (λ (a : Aim PathMap). with_tip commit.branch a (with_mark commit.mark a known)) form;
            given = g.given;
            each = all_as (λ (o : Entry). Contains (commit_made contents directories body) (made_from o)) (λ (o : Entry). Makes id making (made_from o)) (λ o c. is_made (made_from o) c) objects g.each;
            all = is_given;
            fresh = g.fresh;
          };
          stocked = record { ids = g.ids; among = subst (AreAimsAmong id new.made given) (sym aims_is) among; trees = new_grove };
        }
      where
        by_kind : Revision ≡ Snapshot → ⊥
        by_kind e = cc

        by_number : (o : Option ℕ) → IsBelow s.grove.made o → map_of_number (folder_map new) o ≡ map_of_number (folder_map s.grove) o
        by_number None b = refl
        by_number (Some k) b = stay k b
