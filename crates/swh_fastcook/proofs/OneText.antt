-- What is held determines a text.
use Rattle.std.proofs.Common.{◌≡◌, ℕ, Option, Some, None, List, [], ◌∷◌, ◌++◌, IfSome, Contains, refl, sym, ap, ◌∙◌, subst, codes}
use Rattle.swh_base.specs.declared.name.Name.{Name}
use Rattle.swh_base.specs.Directory.{DirectoryEntry, IsDirectory}
use Rattle.swh_base.specs.Revision.{Revision}
use Rattle.swh_base.specs.Release.{Release}
use Rattle.swh_base.proofs.DirectoryLemmas.{one_listing_lem}
use Rattle.swh_base.proofs.RevisionLemmas.{one_revision, one_release}
use Rattle.swh_base.proofs.Lacks.{person-no_feed}
use Rattle.swh_base.proofs.Elementary.{same_body}
use Rattle.swh_model.specs.Archive.{Bodies}
use Rattle.swh_revfmt.specs.Plain.{text_line, optional_line, IsPersonLine, IsEncoding, RevisionRest, IsRevisionRest, PlainRevision, IsPlainRevision, ReleaseRest, IsReleaseRest, PlainRelease, IsPlainRelease}
use Rattle.swh_revfmt.proofs.Rests.{same_line}
use Rattle.swh_graph.specs.Holding.{HoldsDirectory}
use Rattle.swh_graph.specs.Path.{directory_name}
use Rattle.swh_pathwalk.specs.Tree.{Tree, End, Leaf, Folder, Row, entries_in, AreHeldUnder, path_walk, IsPathWalk}
use Rattle.swh_pathwalk.proofs.Steps.{no_entry}

heads : (a b : ℕ) (x y : List ℕ) → a ∷ x ≡ b ∷ y → a ≡ b
heads a b x y e = cc

tails : (a b : ℕ) (x y : List ℕ) → a ∷ x ≡ b ∷ y → x ≡ y
tails a b x y e = cc

-- ---- plain revisions and releases

-- an optional line and a message
module _ (w : ℕ) (ws : List ℕ) (other : w ≡ 10 → ⊥) (P : List ℕ → Type 0) (lines : (text : List ℕ) → P text → Contains text 10 → ⊥) where
  one_tail : (r s : Option (List ℕ)) (m n : List ℕ) → IfSome r P → IfSome s P → optional_line (w ∷ ws) r ++ 10 ∷ m ≡ optional_line (w ∷ ws) s ++ 10 ∷ n → (r ≡ s) × (m ≡ n)
  one_tail None None m n p q e = (refl, tails 10 10 m n e)
  one_tail None (Some b) m n p q e = absurd (other (sym (heads 10 w m ((ws ++ (b ++ 10 ∷ [])) ++ 10 ∷ n) e)))
  one_tail (Some a) None m n p q e = absurd (other (heads w 10 ((ws ++ (a ++ 10 ∷ [])) ++ 10 ∷ m) n e))
  one_tail (Some a) (Some b) m n p q e =
      let same = same_line (w ∷ ws) (text_line (w ∷ ws) a ++ 10 ∷ m) a b (10 ∷ m) (10 ∷ n) (lines a p) (lines b q) refl e in
      (ap (λ (t : List ℕ). Some t) same.text, tails 10 10 m n same.rest)

abbrev rest_of : List ℕ → List ℕ → Option (List ℕ) → List ℕ → RevisionRest
rest_of a c e m = record { author = a; committer = c; encoding = e; message = m }

abbrev tail_of : RevisionRest → List ℕ
tail_of r = optional_line (codes "encoding ") r.encoding ++ 10 ∷ r.message

one_rest : (bytes : List ℕ) (r s : RevisionRest) → IsRevisionRest bytes r → IsRevisionRest bytes s → r ≡ s
one_rest bytes r s h k =
    let first = same_line (codes "author ") bytes r.author s.author (text_line (codes "committer ") r.committer ++ tail_of r) (text_line (codes "committer ") s.committer ++ tail_of s)
    (person-no_feed r.author h.author.person) (person-no_feed s.author k.author.person) h.text k.text in
    let second = same_line (codes "committer ") (text_line (codes "committer ") r.committer ++ tail_of r) r.committer s.committer (tail_of r) (tail_of s)
    (person-no_feed r.committer h.committer.person) (person-no_feed s.committer k.committer.person) refl first.rest in
    let third = one_tail 101 (codes "ncoding ") (λ e. cc) IsEncoding (λ text p. p.one_line) r.encoding s.encoding r.message s.message h.encoding k.encoding second.rest in
    ap (λ (x : List ℕ). rest_of x r.committer r.encoding r.message) first.text
    ∙ ap (λ (x : List ℕ). rest_of s.author x r.encoding r.message) second.text
    ∙ ap (λ (x : Option (List ℕ)). rest_of s.author s.committer x r.message) third.0
    ∙ ap (λ (x : List ℕ). rest_of s.author s.committer s.encoding x) third.1

abbrev revision_with : Revision → RevisionRest → PlainRevision
revision_with x r = record { directory = x.directory; parents = x.parents; rest = r }

pub one_plain_revision : (body : List ℕ) (p q : PlainRevision) → IsPlainRevision body p → IsPlainRevision body q → p ≡ q
one_plain_revision body p q h k =
    let same = one_revision body (record { directory = p.directory; parents = p.parents; rest = h.bytes }) (record { directory = q.directory; parents = q.parents; rest = k.bytes }) h.revision k.revision in
    let rest = one_rest k.bytes p.rest q.rest (subst (λ (t : List ℕ). IsRevisionRest t p.rest) (ap (λ (x : Revision). x.rest) same) h.rest) k.rest in
    ap (λ (x : Revision). revision_with x p.rest) same ∙ ap (λ (r : RevisionRest). record { directory = q.directory; parents = q.parents; rest = r }) rest

abbrev release_rest_of : Option (List ℕ) → List ℕ → ReleaseRest
release_rest_of t m = record { tagger = t; message = m }

one_release_rest : (bytes : List ℕ) (r s : ReleaseRest) → IsReleaseRest bytes r → IsReleaseRest bytes s → r ≡ s
one_release_rest bytes r s h k =
    let tail = one_tail 116 (codes "agger ") (λ e. cc) (IsPersonLine (codes "tagger ")) (λ text p. person-no_feed text p.person) r.tagger s.tagger r.message s.message h.tagger k.tagger (sym h.text ∙ k.text) in
    ap (λ (x : Option (List ℕ)). release_rest_of x r.message) tail.0 ∙ ap (λ (x : List ℕ). release_rest_of s.tagger x) tail.1

abbrev release_with : Release → ReleaseRest → PlainRelease
release_with x r = record { object = x.object; tag = x.tag; rest = r }

pub one_plain_release : (body : List ℕ) (p q : PlainRelease) → IsPlainRelease body p → IsPlainRelease body q → p ≡ q
one_plain_release body p q h k =
    let same = one_release body (record { object = p.object; tag = p.tag; rest = h.bytes }) (record { object = q.object; tag = q.tag; rest = k.bytes }) h.release k.release in
    let rest = one_release_rest k.bytes p.rest q.rest (subst (λ (t : List ℕ). IsReleaseRest t p.rest) (ap (λ (x : Release). x.rest) same) h.rest) k.rest in
    ap (λ (x : Release). release_with x p.rest) same ∙ ap (λ (r : ReleaseRest). record { object = q.object; tag = q.tag; rest = r }) rest

-- ---- walks over paths

first_entry : (d e : DirectoryEntry) (ds es : List DirectoryEntry) → d ∷ ds ≡ e ∷ es → d ≡ e
first_entry d e ds es is = cc

other_entries : (d e : DirectoryEntry) (ds es : List DirectoryEntry) → d ∷ ds ≡ e ∷ es → ds ≡ es
other_entries d e ds es is = cc

module _ (bodies : Bodies) where
  same_listing : (name : Name) (es fs : List DirectoryEntry) → HoldsDirectory bodies name es → HoldsDirectory bodies name fs → es ≡ fs
  same_listing name es fs a b =
      one_listing_lem a.body es fs a.is (subst (λ (body : List ℕ). IsDirectory body fs) (same_body b.body a.body (sym b.held ∙ a.held)) b.is)

  one_tree : (s t : Tree) → entries_in s ≡ entries_in t → AreHeldUnder bodies s → AreHeldUnder bodies t → s ≡ t
  one_tree End End e p q = refl
  one_tree End (Leaf f t) e p q = absurd (no_entry f (entries_in t) (sym e))
  one_tree End (Folder f inner t) e p q = absurd (no_entry f (entries_in t) (sym e))
  one_tree (Leaf d s) End e p q = absurd (no_entry d (entries_in s) e)
  one_tree (Folder d inner s) End e p q = absurd (no_entry d (entries_in s) e)
  one_tree (Leaf d s) (Leaf f t) e (leaf, p) (also, q) =
      ap (λ (x : DirectoryEntry). Leaf x s) (first_entry d f (entries_in s) (entries_in t) e) ∙ ap (Leaf f) (one_tree s t (other_entries d f (entries_in s) (entries_in t) e) p q)
  one_tree (Leaf d s) (Folder f inner t) e (leaf, p) (folder, holds, i, q) =
      absurd (leaf (ap (λ (x : DirectoryEntry). x.mode) (first_entry d f (entries_in s) (entries_in t) e) ∙ folder))
  one_tree (Folder d inner s) (Leaf f t) e (folder, holds, i, p) (leaf, q) =
      absurd (leaf (sym (ap (λ (x : DirectoryEntry). x.mode) (first_entry d f (entries_in s) (entries_in t) e)) ∙ folder))
  one_tree (Folder d inner s) (Folder f under t) e (folder, holds, i, p) (also, its, u, q) =
      let same = first_entry d f (entries_in s) (entries_in t) e in
      let listing = same_listing (directory_name f.id) (entries_in inner) (entries_in under) (subst (λ (x : DirectoryEntry). HoldsDirectory bodies (directory_name x.id) (entries_in inner)) same holds) its in
      ap (λ (x : DirectoryEntry). Folder x inner s) same ∙ ap (λ (x : Tree). Folder f x s) (one_tree inner under listing i u)
      ∙ ap (Folder f under) (one_tree s t (other_entries d f (entries_in s) (entries_in t) e) p q)

  pub one_walk : (name : Name) (a b : List Row) → IsPathWalk bodies name a → IsPathWalk bodies name b → a ≡ b
  one_walk name a b v w =
      v.rows_are ∙ ap (path_walk []) (one_tree v.tree w.tree (same_listing name (entries_in v.tree) (entries_in w.tree) v.is.top w.is.top) v.is.under w.is.under) ∙ sym w.rows_are
