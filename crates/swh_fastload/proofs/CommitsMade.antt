-- What is refused of a commit, and its parts in the maps' form.
use Rattle.std.proofs.Common.{◌≡◌, ◌⊎◌, inl, inr, ℕ, Option, Some, None, Result, Ok, IfNone, IfSome, List, [], ◌∷◌, ◌++◌, map, Contains, refl, sym, ap, ◌∙◌, subst, arith, append_assoc}
use Rattle.std.proofs.lemmas.List.{append-nil}
use Rattle.std.specs.Option.{option_map}
use Rattle.std.proofs.lemmas.List.Elements.{Contains-append_left, Contains-append_right}
use Rattle.swh_base.specs.declared.kind.Kind.{Kind}
use Rattle.swh_base.specs.declared.entry.Entry.{Entry}
use Rattle.swh_base.specs.declared.visit.Which.TheVariants.{Body}
use Rattle.swh_base.specs.Directory.{directory_text}
use Rattle.swh_model.specs.Meaning.{Made, directory}
use Rattle.swh_trees.specs.declared.tree.Tree.{Tree}
use Rattle.swh_trees.specs.declared.fault.TreeFault.TheVariants.{TooLong}
use Rattle.swh_trees.specs.Grove.{Grove, Keeps, StandsFor, IsTree, map_of}
use Rattle.swh_trees.specs.Makes.{Makes, ExplainsTree}
use Rattle.swh_forest.specs.PathMap.{PathMap, held}
use Rattle.swh_trees.specs.Directory.{directory_of}
use Rattle.swh_dedup.specs.Making.{made}
use Rattle.swh_fastmeaning.specs.Aims.{Aim, AllAims, Missing, aim_with, aims_with}
use Rattle.swh_fastmeaning.specs.Changes.{AreShort, IsChangedTo, ExplainsChange, changed_of}
use Rattle.swh_fastmeaning.specs.Commands.{Changed, IsDirectoryIn, Targets, Making, Makes as MakesObject, committed, revision, step, first_parent, commits_at, parents_of, starting_tree, all_changed, ◌>>=◌}
use Rattle.swh_fastload.specs.Committing.{HasParents, MakesTree, IsOverIn, ExplainsOver, ExplainsTreeMade, command_of, rest_of}
use Rattle.swh_fastmeaning.specs.Feeding.{ExplainsFeed}
use Rattle.swh_fastmeaning.specs.Missings.{ExplainsMissing}
use Rattle.swh_fastmeaning.specs.Tips.{aim_of}
use Rattle.swh_fastmeaning.specs.declared.aims.Target.{Target}
use Rattle.swh_fastload.specs.declared.commit.Commit.{Commit}
use Rattle.swh_fastload.specs.declared.commit.CommitText.{CommitText}
use Rattle.swh_fastmeaning.specs.declared.feed_fault.FeedFault.{FeedFault}
use Rattle.swh_fastmeaning.specs.declared.feed_fault.FeedFault.TheVariants.{BadStream, Limit, Memory}
use Rattle.swh_fastmeaning.proofs.AimForms.{ok_map, all_changed-map}
use Rattle.swh_fastload.proofs.ParentsFound.{first_parent-map, commits_at-map, parents_of-map}

module _ (id : Kind → List ℕ → List ℕ) where
  pub contents_over : (found : Result Changed Missing) (grove : Grove) (tree : Tree) (objects : List Entry) (over : Option ℕ) (fault : FeedFault) (h : IsChangedTo found grove tree objects over) → ExplainsOver h.changed.contents fault → ExplainsTreeMade id found fault
  contents_over found grove tree objects over (BadStream at why) h e = absurd e
  contents_over found grove tree objects over (Limit which number) h e = (e.0, record { changed = h.changed; is = h.is; object = e.1.object; long = e.1.long; above = e.1.above; before = e.1.before; rest = e.1.object ∷ e.1.after; cut = e.1.cut; short = e.1.short; first = inl (e.1.after, refl) })
  contents_over found grove tree objects over Memory h e = tt

  pub tree_over : (found : Result Changed Missing) (grove : Grove) (tree : Tree) (objects : List Entry) (over : Option ℕ) (len : ℕ) (h : IsChangedTo found grove tree objects over) → AreShort h.changed.contents → ExplainsTree id (map_of grove tree) (TooLong len) → (Body ≡ Body) × IsOverIn id found len
  tree_over found grove tree objects over len h short e =
      let f = subst (λ (m : PathMap). ExplainsTree id m (TooLong len)) h.stands.map e in (
        refl,
        record {
          changed = h.changed;
          is = h.is;
          object = directory (directory_text (directory_of id (held f.0 h.changed.tree)));
          long = f.2;
          above = f.3;
          before = h.changed.contents;
          rest = [];
          cut = sym (append-nil h.changed.contents);
          short = short;
          first = inr (refl, record { path = f.0; folder = f.1; is = refl });
        },
      )

  pub tree_made : (found : Result Changed Missing) (old between new : Grove) (here tree : Tree) (root : List ℕ) (objects : List Entry) (over : Option ℕ) (directories contents : List Entry) (h : IsChangedTo found between here objects over)
      → made contents ≡ h.changed.contents → AreShort h.changed.contents → Keeps old between → Makes id between new (map_of between here) tree root directories → MakesTree id found old new tree root directories contents
  tree_made found old between new here tree root objects over directories contents h c short k m = record {
    changed = h.changed;
    between = between;
    is = h.is;
    keeps = k;
    makes = subst (λ (t : PathMap). Makes id between new t tree root directories) h.stands.map m;
    holds = c;
    short = short;
  }

  module _ (grove : Grove) (aims : AllAims Tree) (commit : Commit) (text : CommitText) where
    abbrev known : Targets
    known = aims_with (map_of grove) aims

    abbrev form : Aim Tree → Aim PathMap
    form = aim_with (map_of grove)

    abbrev its_step : Result Making Missing
    its_step = step id known (command_of commit text)

    abbrev whole : List (List ℕ) × Changed → Making
    whole p = committed id known commit.branch commit.mark p.1 (revision id p.1.tree p.0 (rest_of text))

    abbrev ends : Result (List (List ℕ) × Changed) Missing → Result Making Missing
    ends r = r >>= λ p. Ok (whole p)

    abbrev with_changes : List (List ℕ) → Result Changed Missing → Result (List (List ℕ) × Changed) Missing
    with_changes ids r = r >>= λ c. Ok (ids, c)

    abbrev with_others : Option (Aim PathMap) → Result (List (Aim PathMap)) Missing → Result (List (List ℕ) × Changed) Missing
    with_others first r = r >>= λ others. with_changes (parents_of first others) (all_changed id known commit.changes (record { tree = starting_tree first; contents = [] }))

    abbrev with_first : Result (Option (Aim PathMap)) Missing → Result (List (List ℕ) × Changed) Missing
    with_first r = r >>= λ first. with_others first (commits_at known commit.merges)

    -- a commit, once its parents are found
    pub step_is : (first : Option (Aim Tree)) (ids : List (List ℕ)) (start : PathMap) → first_parent aims commit.branch commit.parent ≡ Ok first → HasParents aims first commit.merges ids → start ≡ starting_tree (option_map form first)
        → its_step ≡ ends (with_changes ids (all_changed id aims commit.changes (changed_of start [])))
    step_is first ids start f p s =
        ap (λ (r : Result (Option (Aim PathMap)) Missing). ends (with_first r)) (first_parent-map (map_of grove) aims commit.branch commit.parent ∙ ap (ok_map (option_map form)) f)
        ∙ ap (λ (r : Result (List (Aim PathMap)) Missing). ends (with_others (option_map form first) r)) (commits_at-map (map_of grove) aims commit.merges ∙ ap (ok_map (map form)) p.found)
        ∙ ap (λ (t : List (List ℕ)). ends (with_changes t (all_changed id known commit.changes (record { tree = starting_tree (option_map form first); contents = [] })))) (parents_of-map (map_of grove) aims first p.others ∙ sym p.are)
        ∙ ap (λ (m : PathMap). ends (with_changes ids (all_changed id known commit.changes (changed_of m [])))) (sym s)
        ∙ ap (λ (r : Result Changed Missing). ends (with_changes ids r)) (all_changed-map (map_of grove) id aims commit.changes (changed_of start []))

    pub first_missing : (fault : FeedFault) → ExplainsMissing (first_parent aims commit.branch commit.parent) fault → ExplainsFeed id its_step fault
    first_missing (BadStream at why) e = ap (λ (r : Result (Option (Aim PathMap)) Missing). ends (with_first r)) (first_parent-map (map_of grove) aims commit.branch commit.parent ∙ ap (ok_map (option_map form)) e)
    first_missing (Limit which number) e = absurd e
    first_missing Memory e = absurd e

    pub merge_missing : (first : Option (Aim Tree)) (fault : FeedFault) → first_parent aims commit.branch commit.parent ≡ Ok first → ExplainsChange (commits_at aims commit.merges) fault → ExplainsFeed id its_step fault
    merge_missing first (BadStream at why) f e =
        ap (λ (r : Result (Option (Aim PathMap)) Missing). ends (with_first r)) (first_parent-map (map_of grove) aims commit.branch commit.parent ∙ ap (ok_map (option_map form)) f)
        ∙ ap (λ (r : Result (List (Aim PathMap)) Missing). ends (with_others (option_map form first) r)) (commits_at-map (map_of grove) aims commit.merges ∙ ap (ok_map (map form)) e)
    merge_missing first (Limit which number) f e = absurd e
    merge_missing first Memory f e = tt

    abbrev its_revision : List (List ℕ) → Changed → Made
    its_revision ids c = revision id c.tree ids (rest_of text)

    over_made : (ids : List (List ℕ)) (number : ℕ) (found : Result Changed Missing) (o : IsOverIn id found number) → MakesObject id (whole (ids, o.changed)) o.object
    over_made ids number found o = by_first o.first
      where
        by_first : ((more : List Made) × (o.rest ≡ o.object ∷ more)) ⊎ ((o.rest ≡ []) × IsDirectoryIn id o.changed.tree o.object) → MakesObject id (whole (ids, o.changed)) o.object
        by_first (inl f) =
            let among : Contains (o.before ++ o.object ∷ f.0) o.object = Contains-append_right o.before (o.object ∷ f.0) o.object (0, omega arith, refl) in
            let here : Contains o.changed.contents o.object = subst (λ (ms : List Made). Contains ms o.object) (sym (o.cut ∙ ap (λ (ms : List Made). o.before ++ ms) f.1)) among in
            inl (Contains-append_left o.changed.contents (its_revision ids o.changed ∷ []) o.object here)
        by_first (inr d) = inr (o.changed.tree, (0, omega arith, refl), d.1)

    over_first : (ids : List (List ℕ)) (number : ℕ) (found : Result Changed Missing) (o : IsOverIn id found number) → ((more : List Made) × (o.rest ++ its_revision ids o.changed ∷ [] ≡ o.object ∷ more)) ⊎ ((last : Made) × (o.rest ++ its_revision ids o.changed ∷ [] ≡ last ∷ []))
    over_first ids number found o = elim o.first [
      | inl f ↦ inl (f.0 ++ its_revision ids o.changed ∷ [], ap (λ (ms : List Made). ms ++ its_revision ids o.changed ∷ []) f.1)
      | inr d ↦ inr (its_revision ids o.changed, ap (λ (ms : List Made). ms ++ its_revision ids o.changed ∷ []) d.0)
    ]

    pub tree_refused : (first : Option (Aim Tree)) (ids : List (List ℕ)) (start : PathMap) (fault : FeedFault) → first_parent aims commit.branch commit.parent ≡ Ok first → HasParents aims first commit.merges ids → start ≡ starting_tree (option_map form first)
        → ExplainsTreeMade id (all_changed id aims commit.changes (changed_of start [])) fault → ExplainsFeed id its_step fault
    tree_refused first ids start (BadStream at why) f p s e = step_is first ids start f p s ∙ ap (λ (r : Result Changed Missing). ends (with_changes ids r)) e
    tree_refused first ids start (Limit which number) f p s e = (
      e.0,
      record {
        making = whole (ids, e.1.changed);
        is = step_is first ids start f p s ∙ ap (λ (r : Result Changed Missing). ends (with_changes ids r)) e.1.is;
        object = e.1.object;
        makes = over_made ids number (all_changed id aims commit.changes (changed_of start [])) e.1;
        long = e.1.long;
        above = e.1.above;
        before = e.1.before;
        rest = e.1.rest ++ its_revision ids e.1.changed ∷ [];
        cut = ap (λ (ms : List Made). ms ++ its_revision ids e.1.changed ∷ []) e.1.cut ∙ append_assoc e.1.before e.1.rest (its_revision ids e.1.changed ∷ []);
        short = e.1.short;
        first = over_first ids number (all_changed id aims commit.changes (changed_of start [])) e.1;
      },
    )
    tree_refused first ids start Memory f p s e = tt

pub starts_at : (grove : Grove) (first : Option Target) (start : Tree) → IfNone first ((trees : Grove) → StandsFor trees start []) → IfSome first (λ t. start ≡ t.tree) → map_of grove start ≡ starting_tree (option_map (aim_with (map_of grove)) (option_map aim_of first))
starts_at grove None start n s = (n grove).map
starts_at grove (Some t) start n s = ap (map_of grove) s

pub start_is_tree : (grove : Grove) (first : Option Target) (start : Tree) → ((a : Aim Tree) → option_map aim_of first ≡ Some a → IsTree grove a.tree) → IfNone first ((trees : Grove) → StandsFor trees start []) → IfSome first (λ t. start ≡ t.tree) → IsTree grove start
start_is_tree grove None start k n s = (n grove).inside
start_is_tree grove (Some t) start k n s = subst (IsTree grove) (sym s) (k (aim_of t) refl)

pub ok_is : {X E : Type 0} (a b : X) → a ≡ b → (let r : Result X E = Ok a in r) ≡ Ok b
ok_is {X} {E} a b e = ap (λ (x : X). let r : Result X E = Ok x in r) e
