-- The texts of objects, one after another.
use Rattle.std.proofs.Common.{◌≡◌, ℕ, Some, List, [], ◌∷◌, ◌++◌, take, drop, get_or, length, ◌+◌, ◌<◌, refl, sym, ap, ◌∙◌, subst, append_assoc, add-one, drop-cons}
use Rattle.std.specs.Prelude.{Result}
use Rattle.std.proofs.lemmas.List.{append-nil, take-append-drop, take_more}
use Rattle.std.proofs.lemmas.Result.{on_ok_weaker, IfErr-weaker}
use Rattle.swh_base.specs.declared.kind.Kind.{Kind}
use Rattle.swh_base.specs.declared.kind.Kind.TheVariants.{Content, Directory, Revision as RevisionKind, Release as ReleaseKind, Snapshot}
use Rattle.swh_base.specs.declared.name.Name.{Name}
use Rattle.swh_base.proofs.Elementary.{same_body}
use Rattle.swh_model.specs.Archive.{Bodies, body_of}
use Rattle.swh_revfmt.specs.Plain.{PlainRevision, IsPlainRevision, PlainRelease, IsPlainRelease}
use Rattle.swh_graph.specs.Path.{directory_name}
use Rattle.swh_pathwalk.specs.Tree.{IsPathWalk}
use Rattle.swh_fastwrite.specs.Text.{blob_text}
use Rattle.swh_fastwrite.specs.Held.{AddsUp, Kept, Goes, Wrote, WroteSome}
use Rattle.swh_fastwrite.proofs.Pieces.{goes_both, front_behind, front_more}
use Rattle.swh_marks.specs.Marks.{mark_of}
use Rattle.swh_fastcook.specs.Files.{IsCommitOf}
use Rattle.swh_fastcook.specs.Stream.{IsBlob, IsCommit, IsTag, IsTextOf, IsObjectText, AreObjectTexts, commit_text, tag_text}
use Rattle.swh_fastcook.proofs.OneText.{one_plain_revision, one_plain_release, one_walk}

module _ (bodies : Bodies) (order : List Name) (name : Name) where
  pub one_blob : (a b : List ℕ) → IsBlob bodies order name a → IsBlob bodies order name b → a ≡ b
  one_blob a b h k = h.is ∙ ap (blob_text (mark_of order name)) (same_body h.body k.body (sym h.held ∙ k.held)) ∙ sym k.is

  pub one_commit : (a b : List ℕ) → IsCommit bodies order name a → IsCommit bodies order name b → a ≡ b
  one_commit a b h k =
      let plain = one_plain_revision k.body h.plain k.plain (subst (λ (t : List ℕ). IsPlainRevision t h.plain) (same_body h.body k.body (sym h.held ∙ k.held)) h.is_plain) k.is_plain in
      let rows = one_walk bodies (directory_name k.plain.directory) h.rows k.rows (subst (λ (p : PlainRevision). IsPathWalk bodies (directory_name p.directory) h.rows) plain h.walk) k.walk in
      h.is ∙ ap (λ (p : PlainRevision). commit_text order name p h.rows) plain ∙ ap (commit_text order name k.plain) rows ∙ sym k.is

  pub one_tag : (a b : List ℕ) → IsTag bodies order name a → IsTag bodies order name b → a ≡ b
  one_tag a b h k =
      let plain = one_plain_release k.body h.plain k.plain (subst (λ (t : List ℕ). IsPlainRelease t h.plain) (same_body h.body k.body (sym h.held ∙ k.held)) h.is_plain) k.is_plain in
      h.is ∙ ap (tag_text order name) plain ∙ sym k.is

  one_by : (kind : Kind) (a b : List ℕ) → IsTextOf bodies order kind name a → IsTextOf bodies order kind name b → a ≡ b
  one_by Content a b h k = one_blob a b h k
  one_by Directory a b h k = h ∙ sym k
  one_by RevisionKind a b h k = one_commit a b h k
  one_by ReleaseKind a b h k = one_tag a b h k
  one_by Snapshot a b h k = h ∙ sym k

  pub one_text : (a b : List ℕ) → IsObjectText bodies order name a → IsObjectText bodies order name b → a ≡ b
  one_text a b h k = one_by name.kind a b h k

module _ (bodies : Bodies) (order : List Name) where
  pub texts_push : (names : List Name) (name : Name) (t a : List ℕ) → AreObjectTexts bodies order names t → IsObjectText bodies order name a → AreObjectTexts bodies order (names ++ name ∷ []) (t ++ a)
  texts_push [] name t a none is = (a, [], ap (λ (l : List ℕ). l ++ a) none ∙ sym (append-nil a), is, refl)
  texts_push (n ∷ ns) name t a (u, v, cut, first, rest) is =
      (u, v ++ a, ap (λ (l : List ℕ). l ++ a) cut ∙ append_assoc u v a, first, texts_push ns name v a rest is)

  -- the text of a front is a front of the text
  pub texts_front : (xs ys : List Name) (t u : List ℕ) → AreObjectTexts bodies order xs t → AreObjectTexts bodies order (xs ++ ys) u → (v : List ℕ) × (u ≡ t ++ v) × AreObjectTexts bodies order ys v
  texts_front [] ys t u none rest = (u, ap (λ (l : List ℕ). l ++ u) (sym none), rest)
  texts_front (n ∷ ns) ys t u (a, b, cut, first, more) (c, d, other, also, rest) =
      join (texts_front ns ys b d more rest)
    where
      join : (v : List ℕ) × (d ≡ b ++ v) × AreObjectTexts bodies order ys v → (v : List ℕ) × (u ≡ t ++ v) × AreObjectTexts bodies order ys v
      join (v, is, left) =
          (v, other ∙ ap (λ (l : List ℕ). l ++ d) (sym (one_text bodies order n a c first also)) ∙ ap (λ (l : List ℕ). a ++ l) is ∙ sym (append_assoc a b v) ∙ ap (λ (l : List ℕ). l ++ v) (sym cut), left)

  module _ {T : Type 0} (takes front : T → List ℕ → T → Type 0) (sums : AddsUp takes front) (names : List Name) (init mid : Kept T) (i : ℕ) (d : Name) (within : i < length names) (t : List ℕ) (are : AreObjectTexts bodies order (take i names) t) (goes : Goes takes front init t mid) where
    next_is : names ≡ take i names ++ (get_or names i d ∷ drop (i + 1) names)
    next_is = sym (take-append-drop i names) ∙ ap (λ (l : List Name). take i names ++ l) (rw (add-one, drop-cons names i d))

    pub texts_more : (new : Kept T) (a : List ℕ) → IsObjectText bodies order (get_or names i d) a → Goes takes front mid a new → AreObjectTexts bodies order (take (i + 1) names) (t ++ a) × Goes takes front init (t ++ a) new
    texts_more new a is g = (
      subst (λ (l : List Name). AreObjectTexts bodies order l (t ++ a)) (sym (take_more names i d within)) (texts_push (take i names) (get_or names i d) t a are is),
      goes_both takes front sums init mid new t a goes g,
    )

    module _ (new : T) (fails : (a : List ℕ) → IsObjectText bodies order (get_or names i d) a → front mid.taker (mid.held ++ a) new) (u : List ℕ) where
      stopped_by : (v : List ℕ) → u ≡ t ++ v → AreObjectTexts bodies order (get_or names i d ∷ drop (i + 1) names) v → front init.taker (init.held ++ u) new
      stopped_by v is (a, b, cut, first, rest) =
          subst (λ (l : List ℕ). front init.taker (init.held ++ l) new) (sym (is ∙ ap (λ (l : List ℕ). t ++ l) cut))
          (front_behind takes front sums init mid new t (a ++ b) goes (front_more takes front sums mid new a b (fails a first)))

      stopped_at : (v : List ℕ) × (u ≡ t ++ v) × AreObjectTexts bodies order (get_or names i d ∷ drop (i + 1) names) v → front init.taker (init.held ++ u) new
      stopped_at (v, is, rest) = stopped_by v is rest

      pub texts_stopped : AreObjectTexts bodies order names u → front init.taker (init.held ++ u) new
      texts_stopped all =
          stopped_at (texts_front (take i names) (get_or names i d ∷ drop (i + 1) names) t u are (subst (λ (l : List Name). AreObjectTexts bodies order l u) next_is all))

-- a text that there is one of
module _ {T A E : Type 0} (takes front : T → List ℕ → T → Type 0) (old new : Kept T) (result : Result A E) (IsText : List ℕ → Type 0) where
  pub wrote_one : (text : List ℕ) → IsText text → ((t : List ℕ) → IsText t → t ≡ text) → Wrote takes front old text new result → WroteSome takes front old IsText new result
  wrote_one text is one w = record {
    ok = on_ok_weaker result (λ (g : Goes takes front old text new). (text, is, g)) w.ok;
    err = IfErr-weaker result (λ _. front old.taker (old.held ++ text) new.taker) (λ _. (t : List ℕ) → IsText t → front old.taker (old.held ++ t) new.taker)
        (λ _ f t has. subst (λ (l : List ℕ). front old.taker (old.held ++ l) new.taker) (sym (one t has)) f) w.err;
  }

  -- texts of one kind are texts of another
  pub wrote_as : (Other : List ℕ → Type 0) → ((t : List ℕ) → Other t → IsText t) → ((t : List ℕ) → IsText t → Other t) → WroteSome takes front old Other new result → WroteSome takes front old IsText new result
  wrote_as Other on back w = record {
    ok = on_ok_weaker result (λ (g : (t : List ℕ) × Other t × Goes takes front old t new). (g.0, on g.0 g.1, g.2)) w.ok;
    err = IfErr-weaker result (λ _. (t : List ℕ) → Other t → front old.taker (old.held ++ t) new.taker) (λ _. (t : List ℕ) → IsText t → front old.taker (old.held ++ t) new.taker)
        (λ _ f t has. f t (back t has)) w.err;
  }

-- ---- the parts that are held

module _ (bodies : Bodies) (order : List Name) (name : Name) (body : List ℕ) (held : body_of bodies name ≡ Some body) where
  module _ (plain : PlainRevision) (is_plain : IsPlainRevision body plain) where
    pub commit_on : (t : List ℕ) → IsCommitOf bodies order name plain t → IsCommit bodies order name t
    commit_on t of = record { body = body; held = held; plain = plain; is_plain = is_plain; rows = of.rows; walk = of.walk; is = of.is }

    pub commit_back : (t : List ℕ) → IsCommit bodies order name t → IsCommitOf bodies order name plain t
    commit_back t is =
        let same = one_plain_revision body is.plain plain (subst (λ (b : List ℕ). IsPlainRevision b is.plain) (same_body is.body body (sym is.held ∙ held)) is.is_plain) is_plain in
        record {
          rows = is.rows;
          walk = subst (λ (p : PlainRevision). IsPathWalk bodies (directory_name p.directory) is.rows) same is.walk;
          is = is.is ∙ ap (λ (p : PlainRevision). commit_text order name p is.rows) same;
        }

  pub tag_is : (plain : PlainRelease) → IsPlainRelease body plain → IsTag bodies order name (tag_text order name plain)
  tag_is plain is_plain = record { body = body; held = held; plain = plain; is_plain = is_plain; is = refl }

-- ---- all objects have one text

module _ (bodies : Bodies) (order : List Name) where
  pub one_texts : (names : List Name) (t u : List ℕ) → AreObjectTexts bodies order names t → AreObjectTexts bodies order names u → t ≡ u
  one_texts [] t u h k = h ∙ sym k
  one_texts (n ∷ ns) t u (a, b, cut, first, rest) (c, d, other, also, more) =
      cut ∙ ap (λ (l : List ℕ). l ++ b) (one_text bodies order n a c first also) ∙ ap (λ (l : List ℕ). c ++ l) (one_texts ns b d rest more) ∙ sym other

-- ---- texts of a kind

module _ (bodies : Bodies) (order : List Name) (name : Name) {T A E : Type 0} (takes front : T → List ℕ → T → Type 0) (old new : Kept T) (result : Result A E) where
  pub wrote_kind : (kind : Kind) → name.kind ≡ kind → WroteSome takes front old (IsTextOf bodies order kind name) new result → WroteSome takes front old (IsObjectText bodies order name) new result
  wrote_kind kind is w = subst (λ (k : Kind). WroteSome takes front old (IsTextOf bodies order k name) new result) (sym is) w
