-- The first line of a command, and why a command that is begun is not read on.
use Rattle.std.proofs.Common.{◌≡◌, ℕ, inl, inr, Bool, true, false, List, [], ◌∷◌, ◌++◌, refl, sym, ap, ◌∙◌, subst, arith, codes, Option}
use Rattle.swh_fastgrammar.specs.declared.command.At.{At}
use Rattle.swh_fastgrammar.specs.declared.command.Commitish.{Commitish}
use Rattle.swh_fastgrammar.specs.declared.command.Change.{Change}
use Rattle.swh_fastgrammar.specs.declared.command.Command.TheVariants.{Blob, Commit, Tag, Reset}
use Rattle.swh_fastrows.specs.declared.fail.ReadFail.{ReadFail}
use Rattle.swh_fastrows.specs.declared.fail.ReadFail.TheVariants.{BadStream, ReadFault, Limit, Memory}
use Rattle.swh_fastgrammar.specs.declared.fault.StreamWhy.TheVariants.{Grammar, End, LeftOut, Mark, Branch, Place as Spot}
use Rattle.swh_fastrows.specs.Explains.{PartFails, DataFails, Stops, Explains}
use Rattle.swh_fastgrammar.specs.Grammar.{◌▹◌, ◌▸◌, optional, line_at, line, nothing, contents, mark, oid, start_of, Item, IsItem}
use Rattle.swh_fastgrammar.specs.Grammar.Item.{Says, Promise, Nothing}
use Rattle.swh_fastrows.specs.Places.{ReaderState, Took, Refuses}
use Rattle.swh_fastgrammar.specs.Row.{IsData, Placed}
use Rattle.swh_fastgrammar.specs.Word.{NamesRef, NamesTag}
use Rattle.swh_fastgrammar.proofs.Items.{author}
use Rattle.swh_fastgrammar.proofs.Parts.{Single, cons_cut}
use Rattle.swh_fastgrammar.proofs.Items.{line_single}
use Rattle.swh_fastread.proofs.Places.{from_committer, from_from}
use Rattle.swh_fastread.proofs.Remains.{Within, Wants, break_line, break_end, break_data, break_limit, break_over}
use Rattle.swh_fastlines.proofs.ItemLines.{kind}

-- what follows a first part of one row
pub after_single : {X Y : Type 0} (L : List Placed → X → Type 0) (N : List Placed → Y → Type 0) → Single L → (q : Placed) (more : List Placed) (v : X × Y) → (L ▹ N) (q ∷ more) v → N more v.1
after_single {X} {Y} L N s q more v h =
    let p = s h.0 v.0 h.3 in
    subst (λ (r : List Placed). N r v.1) (sym (cons_cut q p.0 more h.1 (h.2 ∙ ap (λ (r : List Placed). r ++ h.1) p.1)).1) h.4

abbrev pub blob_rest : List Placed → Option ℕ × List ℕ → Type 0
blob_rest = optional mark ▹ optional oid ▸ contents

blob_back : (q : Placed) (more : List Placed) (i : Item) → q.row.line ≡ codes "blob" → IsItem (q ∷ more) i → (v : Option ℕ × List ℕ) × blob_rest more v
blob_back q more (Says (Blob m bytes)) e h = ((m, bytes), after_single (line (codes "blob") nothing) blob_rest (line_single (codes "blob") nothing) q more (h.0, (m, bytes)) h.1)
blob_back q more (Says (Commit b m a c n g p s z)) e h = let t : 1 ≡ 2 = kind q more (Says (Commit b m a c n g p s z)) (codes "blob") e h in absurd (omega (arith, t))
blob_back q more (Says (Tag b m a t g)) e h = let n : 1 ≡ 3 = kind q more (Says (Tag b m a t g)) (codes "blob") e h in absurd (omega (arith, n))
blob_back q more (Says (Reset b p)) e h = let n : 1 ≡ 4 = kind q more (Says (Reset b p)) (codes "blob") e h in absurd (omega (arith, n))
blob_back q more Promise e h = let n : 1 ≡ 5 = kind q more Promise (codes "blob") e h in absurd (omega (arith, n))
blob_back q more Nothing e h = let n : 1 ≡ 6 = kind q more Nothing (codes "blob") e h in absurd (omega (arith, n))

abbrev pub blob_item : Option ℕ × List ℕ → Item
blob_item v = Says (Blob v.0 v.1)

pub blob_begun : (a b : ReaderState) (at : ℕ) → Took a b (line_at at (codes "blob") ∷ []) → Within IsItem a b blob_rest blob_item
blob_begun a b at t = record {
  part = line_at at (codes "blob") ∷ [];
  some = λ e. cc;
  took = t;
  remains = record {
    forth = λ more v h. (tt, (line_at at (codes "blob") ∷ [], more, refl, (at, [], refl, refl), h));
    back = λ more i n h. blob_back (line_at at (codes "blob")) more i refl h;
  };
}

abbrev pub tag_value : Type 0
tag_value = Option ℕ × (At Commitish × (Option (List ℕ) × List ℕ))

abbrev pub tag_after : List Placed → tag_value → Type 0
tag_after = optional mark ▹ from_from

tag_back : (q : Placed) (more : List Placed) (i : Item) (name : List ℕ) → q.row.line ≡ codes "tag " ++ name → IsItem (q ∷ more) i → (v : tag_value) × tag_after more v
tag_back q more (Says (Tag b m a t g)) name e h = ((m, (a, (t, g))), after_single (line (codes "tag ") NamesTag) tag_after (line_single (codes "tag ") NamesTag) q more (b, (m, (a, (t, g)))) h)
tag_back q more (Says (Blob m bytes)) name e h = let n : 3 ≡ 1 = kind q more (Says (Blob m bytes)) (codes "tag " ++ name) e h in absurd (omega (arith, n))
tag_back q more (Says (Commit b m a c n g p s z)) name e h = let t : 3 ≡ 2 = kind q more (Says (Commit b m a c n g p s z)) (codes "tag " ++ name) e h in absurd (omega (arith, t))
tag_back q more (Says (Reset b p)) name e h = let n : 3 ≡ 4 = kind q more (Says (Reset b p)) (codes "tag " ++ name) e h in absurd (omega (arith, n))
tag_back q more Promise name e h = let n : 3 ≡ 5 = kind q more Promise (codes "tag " ++ name) e h in absurd (omega (arith, n))
tag_back q more Nothing name e h = let n : 3 ≡ 6 = kind q more Nothing (codes "tag " ++ name) e h in absurd (omega (arith, n))

abbrev pub tag_item : List ℕ → tag_value → Item
tag_item name v = Says (Tag name v.0 v.1.0 v.1.1.0 v.1.1.1)

pub tag_begun : (a b : ReaderState) (at : ℕ) (name : List ℕ) → Took a b (line_at at (codes "tag " ++ name) ∷ []) → NamesTag name name → Within IsItem a b tag_after (tag_item name)
tag_begun a b at name t r = record {
  part = line_at at (codes "tag " ++ name) ∷ [];
  some = λ e. cc;
  took = t;
  remains = record {
    forth = λ more v h. (line_at at (codes "tag " ++ name) ∷ [], more, refl, (at, name, refl, r), h);
    back = λ more i n h. tag_back (line_at at (codes "tag " ++ name)) more i name refl h;
  };
}

abbrev pub commit_value : Type 0
commit_value = Option ℕ × (Option (List ℕ) × (List ℕ × (Option (List ℕ) × (List ℕ × (Option (At Commitish) × (List (At Commitish) × List (At Change)))))))

abbrev pub commit_after : List Placed → commit_value → Type 0
commit_after = optional mark ▹ optional oid ▸ optional author ▹ from_committer

commit_back : (q : Placed) (more : List Placed) (i : Item) (name : List ℕ) → q.row.line ≡ codes "commit " ++ name → IsItem (q ∷ more) i → (v : commit_value) × commit_after more v
commit_back q more (Says (Commit b m a c n g p s z)) name e h = ((m, (a, (c, (n, (g, (h.0, (s, z))))))), after_single (line (codes "commit ") NamesRef) commit_after (line_single (codes "commit ") NamesRef) q more (b, (m, (a, (c, (n, (g, (h.0, (s, z)))))))) h.2)
commit_back q more (Says (Blob m bytes)) name e h = let n : 2 ≡ 1 = kind q more (Says (Blob m bytes)) (codes "commit " ++ name) e h in absurd (omega (arith, n))
commit_back q more (Says (Tag b m a t g)) name e h = let n : 2 ≡ 3 = kind q more (Says (Tag b m a t g)) (codes "commit " ++ name) e h in absurd (omega (arith, n))
commit_back q more (Says (Reset b p)) name e h = let n : 2 ≡ 4 = kind q more (Says (Reset b p)) (codes "commit " ++ name) e h in absurd (omega (arith, n))
commit_back q more Promise name e h = let n : 2 ≡ 5 = kind q more Promise (codes "commit " ++ name) e h in absurd (omega (arith, n))
commit_back q more Nothing name e h = let n : 2 ≡ 6 = kind q more Nothing (codes "commit " ++ name) e h in absurd (omega (arith, n))

abbrev pub commit_item : List ℕ → commit_value → Item
commit_item name v = Says (Commit name v.0 v.1.0 v.1.1.0 v.1.1.1.0 v.1.1.1.1.0 (start_of v.1.1.1.1.1.0) v.1.1.1.1.1.1.0 v.1.1.1.1.1.1.1)

pub commit_begun : (a b : ReaderState) (at : ℕ) (name : List ℕ) → Took a b (line_at at (codes "commit " ++ name) ∷ []) → NamesRef name name → Within IsItem a b commit_after (commit_item name)
commit_begun a b at name t r = record {
  part = line_at at (codes "commit " ++ name) ∷ [];
  some = λ e. cc;
  took = t;
  remains = record {
    forth = λ more v h. (v.1.1.1.1.1.0, refl, (line_at at (codes "commit " ++ name) ∷ [], more, refl, (at, name, refl, r), h));
    back = λ more i n h. commit_back (line_at at (codes "commit " ++ name)) more i name refl h;
  };
}

-- what stops the reading of a command that is begun
pub stops_explain : {X : Type 0} (a b : ReaderState) (M : List Placed → X → Type 0) (f : X → Item) (fail : ReadFail) → Within IsItem a b M f → Wants M → Stops b fail → (p : Bool) → Explains a p fail
stops_explain a b M f (BadStream at why) w o s p = absurd s
stops_explain a b M f ReadFault w o s p = tt
stops_explain a b M f (Limit which number) w o s p = break_limit a b p M f which number w o s
stops_explain a b M f Memory w o s p = tt

pub part_explains : {X Z : Type 0} (a b : ReaderState) (M : List Placed → X → Type 0) (L : List Placed → Z → Type 0) (f : X → Item) (fail : ReadFail) → Within IsItem a b M f → Wants M → ((text : List ℕ) → Refuses L text → Refuses M text) → PartFails L b fail → (p : Bool) → Explains a p fail
part_explains a b M L f (BadStream at Grammar) w o r d p = break_line a b p M L f at false w o r d
part_explains a b M L f (BadStream at End) w o r d p = break_end a b p M f at w o d
part_explains a b M L f (BadStream at LeftOut) w o r d p = break_line a b p M L f at true w o r d
part_explains a b M L f (BadStream at Mark) w o r d p = absurd d
part_explains a b M L f (BadStream at Branch) w o r d p = absurd d
part_explains a b M L f (BadStream at Spot) w o r d p = absurd d
part_explains a b M L f ReadFault w o r d p = tt
part_explains a b M L f (Limit which number) w o r d p = break_limit a b p M f which number w o d
part_explains a b M L f Memory w o r d p = tt

pub data_explains : {X : Type 0} (a b : ReaderState) (M : List Placed → X → Type 0) (f : X → Item) (fail : ReadFail) → Within IsItem a b M f → Wants M → ((text : List ℕ) → Refuses contents text → Refuses M text) → ((q : Placed) (bytes next : List ℕ) → IsData q.row bytes next → (x : X) × M (q ∷ []) x) → DataFails b fail → (p : Bool) → Explains a p fail
data_explains a b M f (BadStream at Grammar) w o r m d p = break_line a b p M contents f at false w o r d
data_explains a b M f (BadStream at End) w o r m (inl d) p = break_end a b p M f at w o d
data_explains a b M f (BadStream at End) w o r m (inr d) p = break_data a b p M f at w o m d
data_explains a b M f (BadStream at LeftOut) w o r m d p = break_line a b p M contents f at true w o r d
data_explains a b M f (BadStream at Mark) w o r m d p = absurd d
data_explains a b M f (BadStream at Branch) w o r m d p = absurd d
data_explains a b M f (BadStream at Spot) w o r m d p = absurd d
data_explains a b M f ReadFault w o r m d p = tt
data_explains a b M f (Limit which number) w o r m (inl d) p = break_limit a b p M f which number w o d
data_explains a b M f (Limit which number) w o r m (inr d) p = break_over a b p M f which number w o m d
data_explains a b M f Memory w o r m d p = tt

pub data_end : (q : Placed) (bytes next : List ℕ) → IsData q.row bytes next → (x : List ℕ) × contents (q ∷ []) x
data_end q bytes next d = (bytes, (q, next, refl, d))
