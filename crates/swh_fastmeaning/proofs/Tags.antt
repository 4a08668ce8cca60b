-- Tags: their refs, and the releases that they make.
use Rattle.std.proofs.Common.{◌≡◌, ◌≢◌, inl, ℕ, zero, suc, Bool, true, false, ◌&&◌, Option, Result, Ok, List, [], ◌∷◌, ◌++◌, codes, Contains, refl, sym, ap, ◌∙◌, subst, arith}
use Rattle.std.specs.List.{AllPass, AllByRecursion}
use Rattle.swh_base.specs.declared.kind.Kind.{Kind}
use Rattle.swh_base.specs.declared.kind.Kind.TheVariants.{Release, Snapshot}
use Rattle.swh_base.specs.declared.name.Name.{Name}
use Rattle.swh_base.specs.declared.entry.Entry.{Entry}
use Rattle.swh_base.specs.Name.{IsId}
use Rattle.swh_base.specs.Text.{IsRef, is_ref_byte}
use Rattle.swh_base.specs.Manifest.{AreChildren, IsWellFormed}
use Rattle.swh_base.proofs.Lacks.{ref-no_feed}
use Rattle.swh_base.proofs.Children.{one_list}
use Rattle.swh_base.proofs.Elementary.{all_as}
use Rattle.swh_revfmt.specs.Plain.{PlainRelease, IsTagName, plain_release_text, release_rest}
use Rattle.swh_model.specs.Meaning.{Made}
use Rattle.swh_trees.specs.declared.tree.Tree.{Tree}
use Rattle.swh_trees.specs.Grove.{map_of}
use Rattle.swh_forest.specs.PathMap.{PathMap}
use Rattle.swh_dedup.specs.Making.{made_from, name_of, object_of, names_of_made, HaveIds}
use Rattle.swh_fastgrammar.specs.declared.command.Command.TheVariants.{Tag}
use Rattle.swh_fastgrammar.specs.declared.command.At.{At}
use Rattle.swh_fastgrammar.specs.declared.command.Commitish.{Commitish}
use Rattle.swh_fastmeaning.specs.Aims.{Aim, AllAims, Missing, with_mark, with_tip, object_at, aim_with, aims_with}
use Rattle.swh_fastmeaning.specs.Commands.{Making, Makes, Targets, step, tagged, release, ◌>>=◌}
use Rattle.swh_fastmeaning.specs.Feeding.{ExplainsFeed}
use Rattle.swh_fastmeaning.specs.Missings.{ExplainsMissing}
use Rattle.swh_fastmeaning.specs.Parting.{ExplainsBody}
use Rattle.swh_fastmeaning.specs.Stock.{Stock, stock, loading_of, AreAimsAmong, IsStocked, GivesOwn, Leads}
use Rattle.swh_dedup.specs.Giving.{IsReady}
use Rattle.swh_fastmeaning.specs.declared.feed_fault.FeedFault.{FeedFault}
use Rattle.swh_dedup.proofs.Elements.{from_map, first_is}
use Rattle.swh_fastmeaning.proofs.AimForms.{ok_map, with_mark-map, with_tip-map, object_at-map, aims_more, marked_among, tipped_among}
use Rattle.swh_fastmeaning.proofs.Leadings.{gives_also, stocked_more, own_aim, own_form, own_only, explains_long, explains_missing}

passes_more : (test : ℕ → Bool) (b : ℕ) (bs : List ℕ) → test b ≡ true → AllPass test bs → AllPass test (b ∷ bs)
passes_more test b bs t h zero d l = t
passes_more test b bs t h (suc i) d l = h i d (omega arith)

abbrev pub pass : (ℕ → Bool) → List ℕ → Bool
pass test [] = true
pass test (b ∷ bs) = test b && pass test bs

both_are : (a b : Bool) → a && b ≡ true → (a ≡ true) × (b ≡ true)
both_are true b h = (refl, h)
both_are false b h = absurd cc

pub passes_behind : (test : ℕ → Bool) (xs ys : List ℕ) → pass test xs ≡ true → AllPass test ys → AllPass test (xs ++ ys)
passes_behind test [] ys t h = h
passes_behind test (x ∷ xs) ys t h = let b = both_are (test x) (pass test xs) t in passes_more test x (xs ++ ys) b.0 (passes_behind test xs ys b.1 h)

pub tag_is_ref : (tag : List ℕ) → IsTagName tag → IsRef (codes "refs/tags/" ++ tag)
tag_is_ref tag h = record { some = omega arith; short = let l = h.short in omega (arith, l); bytes = passes_behind is_ref_byte (codes "refs/tags/") tag refl h.ref.bytes }

module _ (id : Kind → List ℕ → List ℕ) where
  -- a name of an object has an id of twenty bytes
  pub named_id : (given : List Made) (n : Name) → HaveIds id given → Contains (names_of_made id given) n → IsId n.id
  named_id given n ids c = let f = from_map (name_of id) given n c in subst (λ (t : Name). IsId t.id) f.2 (ids f.0 f.1)

  release_kids : (p : PlainRelease) → IsId p.object.id → p.object.kind ≢ Snapshot → IsRef p.tag → AreChildren Release (plain_release_text p) (p.object ∷ [])
  release_kids p i k r = record {
    release = record { object = p.object; tag = p.tag; rest = release_rest p.rest };
    is = record { text = refl; object = i; no_snapshot = k; one_line = ref-no_feed p.tag r };
    kids = refl;
  }

  pub release_good : (p : PlainRelease) → IsId p.object.id → p.object.kind ≢ Snapshot → IsRef p.tag → IsWellFormed Release (plain_release_text p)
  release_good p i k r = (p.object ∷ [], release_kids p i k r)

  pub release_ready : (given : List Made) (p : PlainRelease) → Contains (names_of_made id given) p.object → p.object.kind ≢ Snapshot → IsRef p.tag → IsReady id given (object_of Release (plain_release_text p))
  release_ready given p c k r ids kids h =
      let same = one_list Release (plain_release_text p) (p.object ∷ []) kids (release_kids p (named_id given p.object ids c) k r) h in
      subst (AllByRecursion (Contains (names_of_made id given))) same (c, tt)

  module _ (s : Stock) (h : IsStocked id s) (tag : List ℕ) (mark : Option ℕ) (target : At Commitish) (tagger : Option (List ℕ)) (message : List ℕ) where
    abbrev known : Targets
    known = (loading_of s).aims

    abbrev form : Aim Tree → Aim PathMap
    form = aim_with (map_of s.grove)

    abbrev its_release : Aim PathMap → Made
    its_release aim = release id aim tag tagger message

    abbrev its_step : Result Making Missing
    its_step = step id known (Tag tag mark target tagger message)

    step_is : (found : Aim Tree) → object_at s.aims target.at target.it ≡ Ok found → its_step ≡ Ok (tagged id known mark tag (its_release (form found)))
    step_is found e = ap (λ (t : Result (Aim PathMap) Missing). t >>= λ a. Ok (tagged id known mark tag (its_release a))) (object_at-map (map_of s.grove) s.aims target.at target.it ∙ ap (ok_map form) e)

    pub tag_missing : (fault : FeedFault) → ExplainsMissing (object_at s.aims target.at target.it) fault → ExplainsFeed id its_step fault
    tag_missing fault e =
        subst (λ (r : Result Making Missing). ExplainsFeed id r fault)
        (sym (ap (λ (t : Result (Aim PathMap) Missing). t >>= λ a. Ok (tagged id known mark tag (its_release a))) (object_at-map (map_of s.grove) s.aims target.at target.it)))
        (explains_missing id form (object_at s.aims target.at target.it) (λ a. Ok (tagged id known mark tag (its_release a))) fault e)

    pub tag_refused : (found : Aim Tree) (fault : FeedFault) → object_at s.aims target.at target.it ≡ Ok found → ExplainsBody (its_release (form found)).body fault → ExplainsFeed id its_step fault
    tag_refused found fault e b =
        let m = its_release (form found) in
        explains_long id its_step (tagged id known mark tag m) m fault (step_is found e) (inl (first_is m [])) [] [] refl tt b

    pub tag_leads : (found aim : Aim Tree) (new : List Made) (aims : AllAims Tree) (branch : List ℕ) (objects : List Entry) → IsTagName tag → object_at s.aims target.at target.it ≡ Ok found → GivesOwn id (its_release (form found)) s.given new aim objects
        → branch ≡ codes "refs/tags/" ++ tag → aims ≡ with_tip branch aim (with_mark mark aim s.aims) → Leads id s (Tag tag mark target tagger message) (stock s.grove aims new) objects
    tag_leads found aim new aims branch objects t found_is g b e =
        let m = its_release (form found) in
        let ref = codes "refs/tags/" ++ tag in
        let making = tagged id known mark tag m in
        let aims_is : aims ≡ with_tip ref aim (with_mark mark aim s.aims) = e ∙ ap (λ (r : List ℕ). with_tip r aim (with_mark mark aim s.aims)) b in
        let own = own_aim id s.grove (m ∷ []) s.given new objects m aim.name aim.tree g.gives (first_is m []) g.name (λ k. cc) g.empty in
        let own_is = own_form id s.grove m aim.name aim.tree g.name (g.empty s.grove) in
        let marked = marked_among id s.grove.made new s.aims mark aim (aims_more id s.grove.made s.given s.aims s.grove.made new (omega arith) (gives_also id (m ∷ []) s.given new objects g.gives) h.among) own in
        let among = tipped_among id s.grove.made new (with_mark mark aim s.aims) ref aim marked (tag_is_ref tag t) own in
        record {
          feeds = record {
            making = making;
            is = step_is found found_is;
            aims = ap (aims_with (map_of s.grove)) aims_is ∙ with_tip-map (map_of s.grove) ref aim (with_mark mark aim s.aims)
                ∙ ap (with_tip ref (form aim)) (with_mark-map (map_of s.grove) mark aim s.aims)
                ∙ ap (λ (a : Aim PathMap). with_tip ref a (with_mark mark a known)) own_is;
            given = g.gives.given;
            each = all_as (λ (o : Entry). Contains (m ∷ []) (made_from o)) (λ (o : Entry). Makes id making (made_from o)) (λ o c. inl c) objects g.gives.each;
            all = λ n k. own_only id s h m n new making refl refl g.gives.all k;
            fresh = g.gives.fresh;
          };
          stocked = stocked_more id s (m ∷ []) new objects aims h g.gives (subst (AreAimsAmong id s.grove.made new) (sym aims_is) among);
        }
