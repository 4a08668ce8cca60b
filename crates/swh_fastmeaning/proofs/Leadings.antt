-- What a command leads to, from the objects that are given for it.
use Rattle.std.proofs.Common.{◌≡◌, ◌≢◌, ◌⊎◌, inl, inr, ℕ, Option, Some, None, Result, Ok, List, [], ◌∷◌, ◌++◌, Contains, refl, sym, ap, ◌∙◌, subst, arith}
use Rattle.std.proofs.lemmas.List.{append-nil}
use Rattle.std.proofs.lemmas.List.Elements.{Contains-append_left}
use Rattle.swh_base.specs.declared.kind.Kind.{Kind}
use Rattle.swh_base.specs.declared.kind.Kind.TheVariants.{Snapshot}
use Rattle.swh_base.specs.declared.name.Name.{Name}
use Rattle.swh_base.specs.declared.entry.Entry.{Entry}
use Rattle.swh_base.specs.Text.{IsRef}
use Rattle.swh_base.proofs.Elementary.{all_as}
use Rattle.swh_model.specs.Meaning.{Made, content}
use Rattle.swh_trees.specs.declared.tree.Tree.{Tree}
use Rattle.swh_trees.specs.Grove.{Grove, StandsFor, folder_map, map_of, no_trees}
use Rattle.swh_forest.specs.Roots.{IsBelow}
use Rattle.swh_entries.specs.declared.entry.Leaf.{Leaf}
use Rattle.swh_forest.specs.PathMap.{PathMap}
use Rattle.swh_dedup.specs.Making.{made_from, made, name_of, names_of_made}
use Rattle.swh_fastgrammar.specs.declared.command.Command.{Command}
use Rattle.swh_fastgrammar.specs.declared.command.Command.TheVariants.{Blob, Reset}
use Rattle.swh_fastgrammar.specs.declared.command.At.{At}
use Rattle.swh_fastgrammar.specs.declared.command.Commitish.{Commitish}
use Rattle.swh_fastgrammar.specs.declared.command.Start.{Start}
use Rattle.swh_fastgrammar.specs.declared.command.Start.TheVariants.{Absent, NoTip, Of}
use Rattle.swh_fastmeaning.specs.Aims.{Aim, AllAims, Missing, with_mark, with_tip, without_tip, commit_at, aim_with, aims_with}
use Rattle.swh_fastmeaning.specs.Changes.{AreShort}
use Rattle.swh_fastmeaning.specs.Commands.{Making, Makes, Targets, step, marked, only, aim_of, ◌>>=◌}
use Rattle.swh_fastmeaning.specs.Feeding.{ExplainsFeed}
use Rattle.swh_fastmeaning.specs.Missings.{ExplainsMissing}
use Rattle.swh_fastmeaning.specs.Parting.{ExplainsBody}
use Rattle.swh_fastmeaning.specs.Stock.{Stock, stock, loading_of, IsAimAmong, AreAimsAmong, IsGivenGrove, IsStocked, GivesOwn, Leads, IsFileAmong}
use Rattle.swh_dedup.specs.Giving.{Gives}
use Rattle.swh_fastmeaning.specs.declared.feed_fault.FeedFault.{FeedFault}
use Rattle.swh_fastmeaning.specs.declared.feed_fault.FeedFault.TheVariants.{BadStream, Limit, Memory}
use Rattle.swh_dedup.proofs.Elements.{contains_map, first_is}
use Rattle.swh_dedup.proofs.Givens.{AreAlso, more_names}
use Rattle.swh_fastmeaning.proofs.AimForms.{ok_map, with_mark-map, with_tip-map, without_tip-map, commit_at-map, aims_more, marked_among, tipped_among, untipped_among, commit_among}

-- a grove without folders
abbrev no_grove : Grove
no_grove = no_trees

pub below_any : (n : ℕ) (o : Option ℕ) → IsBelow 0 o → IsBelow n o
below_any n None h = tt
below_any n (Some k) h = absurd (omega arith)

pub files_more : (names more : List Name) → ((n : Name) → Contains names n → Contains more n) → (e : List (List ℕ) × Leaf) → IsFileAmong names e → IsFileAmong more e
files_more names more sub e h = record { some = h.some; parts = h.parts; leaf = record { mode = h.leaf.mode; id = h.leaf.id; content = λ n. sub _ (h.leaf.content n) } }

module _ (id : Kind → List ℕ → List ℕ) where
  pub grove_more : (grove : Grove) (before after : List Made) → AreAlso before after → IsGivenGrove id grove before → IsGivenGrove id grove after
  grove_more grove before after sub h = record {
    whole = h.whole;
    folders = λ n l. sub _ (h.folders n l);
    files = λ n l. all_as (IsFileAmong (names_of_made id before)) (IsFileAmong (names_of_made id after)) (files_more (names_of_made id before) (names_of_made id after) (λ m. more_names id before after m sub)) (folder_map grove n) (h.files n l);
    free = h.free;
  }

  pub gives_also : (ms old new : List Made) (objects : List Entry) → Gives id ms old new objects → AreAlso old new
  gives_also ms old new objects g m c = subst (λ (t : List Made). Contains t m) (sym g.given) (Contains-append_left old (made objects) m c)

  -- trees stay, objects more
  pub stocked_more : (s : Stock) (ms new : List Made) (objects : List Entry) (aims : AllAims Tree) → IsStocked id s → Gives id ms s.given new objects → AreAimsAmong id s.grove.made new aims → IsStocked id (stock s.grove aims new)
  stocked_more s ms new objects aims h g a = record { ids = g.ids; among = a; trees = grove_more s.grove s.given new (gives_also ms s.given new objects g) h.trees }

  -- an object that was just given, without a tree
  pub own_aim : (grove : Grove) (ms old new : List Made) (objects : List Entry) (m : Made) (name : Name) (tree : Tree) → Gives id ms old new objects → Contains ms m → name ≡ name_of id m → m.kind ≢ Snapshot → ((g : Grove) → StandsFor g tree [])
      → IsAimAmong id grove.made new (record { name = name; tree = tree })
  own_aim grove ms old new objects m name tree g c e other empty = record {
    tree = below_any grove.made tree.number (empty no_grove).inside;
    named = subst (λ (n : Name). Contains (names_of_made id new) n) (sym e) (contains_map (name_of id) new m (g.all m c));
    kind = λ k. other (ap (λ (n : Name). n.kind) (sym e) ∙ k);
  }

  pub own_form : (grove : Grove) (m : Made) (name : Name) (tree : Tree) → name ≡ name_of id m → StandsFor grove tree [] → aim_with (map_of grove) (record { name = name; tree = tree }) ≡ aim_of id m []
  own_form grove m name tree e s = ap (λ (n : Name). let a : Aim PathMap = record { name = n; tree = map_of grove tree } in a) e ∙ ap (λ (t : PathMap). let a : Aim PathMap = record { name = name_of id m; tree = t } in a) s.map

  pub explains_long : (found : Result Making Missing) (making : Making) (m : Made) (fault : FeedFault) → found ≡ Ok making → Makes id making m → (before more : List Made) → making.objects ≡ before ++ m ∷ more → AreShort before → ExplainsBody m.body fault → ExplainsFeed id found fault
  explains_long found making m (BadStream at why) e h before more cut short b = absurd b
  explains_long found making m (Limit which number) e h before more cut short b = (b.0, record { making = making; is = e; object = m; makes = h; long = b.1; above = b.2; before = before; rest = m ∷ more; cut = cut; short = short; first = inl (more, refl) })
  explains_long found making m Memory e h before more cut short b = tt

  -- what is missing first
  pub explains_missing : {X Y : Type 0} (f : X → Y) (r : Result X Missing) (j : Y → Result Making Missing) (fault : FeedFault) → ExplainsMissing r fault → ExplainsFeed id (ok_map f r >>= j) fault
  explains_missing {X} {Y} f r j (BadStream at why) e = ap (λ (t : Result X Missing). ok_map f t >>= j) e
  explains_missing f r j (Limit which number) e = absurd e
  explains_missing f r j Memory e = absurd e

  module _ (s : Stock) (h : IsStocked id s) where
    abbrev known : Targets
    known = (loading_of s).aims

    abbrev form : Aim Tree → Aim PathMap
    form = aim_with (map_of s.grove)

    pub own_only : (m n : Made) (new : List Made) (x : Making) → x.objects ≡ m ∷ [] → x.trees ≡ [] → ((k : Made) → Contains (m ∷ []) k → Contains new k) → Makes id x n → Contains new n
    own_only m n new x e t g (inl c) = g n (subst (λ (u : List Made). Contains u n) e c)
    own_only m n new x e t g (inr (tree, c, d)) = absurd (none_there tree (subst (λ (u : List PathMap). Contains u tree) t c))
      where
        none_there : (y : PathMap) → Contains [] y → ⊥
        none_there y (k, l, q) = absurd (omega arith)

    pub blob_leads : (mark : Option ℕ) (bytes : List ℕ) (aim : Aim Tree) (new : List Made) (aims : AllAims Tree) (objects : List Entry) → GivesOwn id (content bytes) s.given new aim objects → aims ≡ with_mark mark aim s.aims
        → Leads id s (Blob mark bytes) (stock s.grove aims new) objects
    blob_leads mark bytes aim new aims objects g e =
        let m = content bytes in
        let making = marked id known mark m in
        let among = marked_among id s.grove.made new s.aims mark aim (aims_more id s.grove.made s.given s.aims s.grove.made new (omega arith) (gives_also (m ∷ []) s.given new objects g.gives) h.among)
        (own_aim s.grove (m ∷ []) s.given new objects m aim.name aim.tree g.gives (first_is m []) g.name (λ k. cc) g.empty) in
        record {
          feeds = record {
            making = making;
            is = refl;
            aims = ap (aims_with (map_of s.grove)) e ∙ with_mark-map (map_of s.grove) mark aim s.aims ∙ ap (λ (a : Aim PathMap). with_mark mark a known) (own_form s.grove m aim.name aim.tree g.name (g.empty s.grove));
            given = g.gives.given;
            each = all_as (λ (o : Entry). Contains (m ∷ []) (made_from o)) (λ (o : Entry). Makes id making (made_from o)) (λ o c. inl c) objects g.gives.each;
            all = λ n k. own_only m n new making refl refl g.gives.all k;
            fresh = g.gives.fresh;
          };
          stocked = stocked_more s (m ∷ []) new objects aims h g.gives (subst (AreAimsAmong id s.grove.made new) (sym e) among);
        }

    pub blob_refused : (mark : Option ℕ) (bytes : List ℕ) (fault : FeedFault) → ExplainsBody bytes fault → ExplainsFeed id (step id known (Blob mark bytes)) fault
    blob_refused mark bytes fault b = explains_long (step id known (Blob mark bytes)) (marked id known mark (content bytes)) (content bytes) fault refl (inl (first_is (content bytes) [])) [] [] refl tt b

    reset_leads : (command : Command) (after : Targets) (aims : AllAims Tree) → step id known command ≡ Ok (only id after) → aims_with (map_of s.grove) aims ≡ after → AreAimsAmong id s.grove.made s.given aims → Leads id s command (stock s.grove aims s.given) []
    reset_leads command after aims e a among = record {
      feeds = record {
        making = only id after;
        is = e;
        aims = a;
        given = sym (append-nil s.given);
        each = tt;
        all = λ n k. none_made n k;
        fresh = tt;
      };
      stocked = record { ids = h.ids; among = among; trees = h.trees };
    }
      where
        none_there : {X : Type 0} (y : X) → Contains [] y → ⊥
        none_there y (k, l, q) = absurd (omega arith)

        none_made : (n : Made) → Makes id (only id after) n → Contains s.given n
        none_made n (inl c) = absurd (none_there n c)
        none_made n (inr (tree, c, d)) = absurd (none_there tree c)

    pub reset_absent : (branch : List ℕ) (start : Start) (aims : AllAims Tree) → (start ≡ Absent) ⊎ (start ≡ NoTip) → aims ≡ without_tip branch s.aims → Leads id s (Reset branch start) (stock s.grove aims s.given) []
    reset_absent branch start aims w e =
        reset_leads (Reset branch start) (without_tip branch known) aims (by_start w) (ap (aims_with (map_of s.grove)) e ∙ without_tip-map (map_of s.grove) branch s.aims)
        (subst (AreAimsAmong id s.grove.made s.given) (sym e) (untipped_among id s.grove.made s.given s.aims branch h.among))
      where
        by_start : (start ≡ Absent) ⊎ (start ≡ NoTip) → step id known (Reset branch start) ≡ Ok (only id (without_tip branch known))
        by_start (inl e) = ap (λ (t : Start). step id known (Reset branch t)) e
        by_start (inr e) = ap (λ (t : Start). step id known (Reset branch t)) e

    pub reset_to : (branch : List ℕ) (start : Start) (from : At Commitish) (aim : Aim Tree) (aims : AllAims Tree) → start ≡ Of from → IsRef branch → commit_at s.aims from.at from.it ≡ Ok aim → aims ≡ with_tip branch aim s.aims
        → Leads id s (Reset branch start) (stock s.grove aims s.given) []
    reset_to branch start from aim aims w r c e =
        reset_leads (Reset branch start) (with_tip branch (form aim) known) aims
        (ap (λ (t : Start). step id known (Reset branch t)) w ∙ ap (λ (t : Result (Aim PathMap) Missing). t >>= λ b. Ok (only id (with_tip branch b known))) (commit_at-map (map_of s.grove) s.aims from.at from.it ∙ ap (ok_map form) c))
        (ap (aims_with (map_of s.grove)) e ∙ with_tip-map (map_of s.grove) branch aim s.aims)
        (subst (AreAimsAmong id s.grove.made s.given) (sym e) (tipped_among id s.grove.made s.given s.aims branch aim h.among r (commit_among id s.grove.made s.given s.aims from.at from.it aim h.among c).0))

    pub reset_refused : (branch : List ℕ) (start : Start) (from : At Commitish) (fault : FeedFault) → start ≡ Of from → ExplainsMissing (commit_at s.aims from.at from.it) fault → ExplainsFeed id (step id known (Reset branch start)) fault
    reset_refused branch start from fault w c =
        subst (λ (r : Result Making Missing). ExplainsFeed id r fault)
        (sym (ap (λ (t : Start). step id known (Reset branch t)) w ∙ ap (λ (t : Result (Aim PathMap) Missing). t >>= λ b. Ok (only id (with_tip branch b known))) (commit_at-map (map_of s.grove) s.aims from.at from.it)))
        (explains_missing form (commit_at s.aims from.at from.it) (λ b. Ok (only id (with_tip branch b known))) fault c)
