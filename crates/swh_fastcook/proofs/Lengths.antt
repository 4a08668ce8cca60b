-- How long the parts of a stream are.
use Rattle.std.proofs.Common.{◌≡◌, ◌⊎◌, inl, inr, ℕ, ◌+◌, ◌<◌, ◌≤◌, Some, List, [], ◌∷◌, ◌++◌, length, take, get_or, refl, sym, ap, ◌∙◌, subst, arith, length-append, codes}
use Rattle.std.specs.Prelude.{Contains}
use Rattle.std.proofs.lemmas.List.{take_more}
use Rattle.swh_base.specs.declared.kind.Kind.{Kind}
use Rattle.swh_base.specs.declared.name.Name.{Name}
use Rattle.swh_model.specs.Archive.{Bodies, IsGraphOf}
use Rattle.swh_revfmt.specs.Plain.{PlainRevision}
use Rattle.swh_fastwrite.specs.Text.{mark_line, data_line, blob_head, blob_text, commit_head, tag_head}
use Rattle.swh_graph.specs.Path.{directory_name}
use Rattle.swh_pathwalk.specs.Tree.{Row, IsPathWalk}
use Rattle.swh_marks.specs.Marks.{mark_of}
use Rattle.swh_pathsums.specs.Lengths.{IsUpTo, rows_length, IsLengthUnder}
use Rattle.swh_pathsums.specs.Sums.{HasLength, length_at}
use Rattle.swh_pathsums.specs.declared.sums.PathSums.{PathSums}
use Rattle.swh_fastwrite.specs.Counts.{Counts}
use Rattle.swh_fastcook.specs.Ends.{IsEnd}
use Rattle.swh_fastcook.specs.Length.{IsLongStream, HasText}
use Rattle.swh_fastcook.specs.Lengths.{HasLengthOf}
use Rattle.swh_fastcook.specs.Stream.{beginning, parents_text, files_text, commit_front, commit_text, IsTextOf, IsObjectText, AreObjectTexts, IsStreamText}
use Rattle.swh_fastcook.specs.Weighed.{file_weight}
use Rattle.swh_fastcook.proofs.CommitTexts.{blob_is, front_is}
use Rattle.swh_fastcook.proofs.FileLengths.{rows_are}
use Rattle.swh_fastcook.proofs.ObjectTexts.{texts_push}
use Rattle.swh_fastcook.proofs.StreamTexts.{first_line, one_stream, of_parts}

-- ---- single objects

pub blob_count : (mark : ℕ) (body : List ℕ) (front : ℕ) → front ≡ length (blob_head mark (length body)) → front + length body + 1 ≡ length (blob_text mark body)
blob_count mark body front is =
    let whole = ap (λ (l : List ℕ). length l) (blob_is mark body) in
    let both = length-append (blob_head mark (length body)) (body ++ 10 ∷ []) in
    let line = length-append body (10 ∷ []) in
    omega (arith, is, whole, both, line)

pub tag_count : (head line message : List ℕ) (front : ℕ) → front ≡ length (head ++ line) → front + length message + 1 ≡ length (head ++ (line ++ (message ++ 10 ∷ [])))
tag_count head line message front is =
    let first = length-append head line in
    let whole = length-append head (line ++ (message ++ 10 ∷ [])) in
    let rest = length-append line (message ++ 10 ∷ []) in
    let end = length-append message (10 ∷ []) in
    omega (arith, is, first, whole, rest, end)

commit_by : (begin head line message behind files : List ℕ) (lines : ℕ) → lines ≡ length ((begin ++ (head ++ line)) ++ behind)
    → (lines + length message + 2) + length files ≡ length ((begin ++ (head ++ ((line ++ (message ++ 10 ∷ [])) ++ behind))) ++ (files ++ 10 ∷ []))
commit_by begin head line message behind files lines is =
    let one = length-append (begin ++ (head ++ line)) behind in
    let front = ap (λ (l : List ℕ). length l) (front_is begin head line (message ++ 10 ∷ []) behind) in
    let two = length-append (begin ++ (head ++ line)) ((message ++ 10 ∷ []) ++ behind) in
    let three = length-append (message ++ 10 ∷ []) behind in
    let four = length-append message (10 ∷ []) in
    let five = length-append (begin ++ (head ++ ((line ++ (message ++ 10 ∷ [])) ++ behind))) (files ++ 10 ∷ []) in
    let six = length-append files (10 ∷ []) in
    omega (arith, is, one, front, two, three, four, five, six)

pub commit_count : (order : List Name) (name : Name) (plain : PlainRevision) (rows : List Row) (lines : ℕ)
    → lines ≡ length ((beginning plain.parents ++ (commit_head (mark_of order name) plain.rest.author plain.rest.committer plain.rest.encoding ++ data_line (length plain.rest.message))) ++ (parents_text order plain.parents ++ codes "deleteall\n"))
    → (lines + length plain.rest.message + 2) + length (files_text order rows) ≡ length (commit_text order name plain rows)
commit_count order name plain rows lines is =
    commit_by (beginning plain.parents) (commit_head (mark_of order name) plain.rest.author plain.rest.committer plain.rest.encoding) (data_line (length plain.rest.message)) plain.rest.message (parents_text order plain.parents ++ codes "deleteall\n")
    (files_text order rows) lines is

same_some : (m n : ℕ) → Some m ≡ Some n → m ≡ n
same_some m n e = cc

-- the lines of the files of a directory, whose length was found
pub files_up : (bodies : Bodies) (order : List Name) (sums : PathSums) (id : List ℕ) (rows : List Row) (files : ℕ) → HasLength bodies (file_weight order) sums id → length_at sums id ≡ Some files → IsPathWalk bodies (directory_name id) rows
    → IsUpTo (length (files_text order rows)) files
files_up bodies order sums id rows files has at walk =
    subst (λ (n : ℕ). IsUpTo n files) (sym (rows_are order rows)) (subst (IsUpTo (rows_length (file_weight order) rows)) (same_some has.found files (sym has.there ∙ at)) (has.is rows walk))

-- ---- objects, one after another

module _ (bodies : Bodies) (order : List Name) where
  pub of_kind : (name : Name) (kind : Kind) (found : ℕ) → name.kind ≡ kind → HasLengthOf (IsTextOf bodies order kind name) found → HasLengthOf (IsObjectText bodies order name) found
  of_kind name kind found is has = subst (λ (k : Kind). HasLengthOf (IsTextOf bodies order k name) found) (sym is) has

  pub none_counted : HasLengthOf (AreObjectTexts bodies order []) 0
  none_counted = record { text = []; is = refl; long = inl refl }

  pub more_counted : (names : List Name) (i : ℕ) (d : Name) (count more new : ℕ) → i < length names → HasLengthOf (AreObjectTexts bodies order (take i names)) count → HasLengthOf (IsObjectText bodies order (get_or names i d)) more
      → ((m n : ℕ) → IsUpTo m count → IsUpTo n more → IsUpTo (m + n) new) → HasLengthOf (AreObjectTexts bodies order (take (i + 1) names)) new
  more_counted names i d count more new less was one both =
      record {
        text = was.text ++ one.text;
        is = subst (λ (ns : List Name). AreObjectTexts bodies order ns (was.text ++ one.text)) (sym (take_more names i d less)) (texts_push bodies order (take i names) (get_or names i d) was.text one.text was.is one.is);
        long = subst (λ (n : ℕ). IsUpTo n new) (sym (length-append was.text one.text)) (both (length was.text) (length one.text) was.long one.long);
      }

-- ---- a whole stream

counted : (count l : ℕ) → (count ≡ 0 + l) ⊎ ((18446744073709551615 ≤ count) × (18446744073709551615 ≤ 0 + l)) → IsUpTo l count
counted count l (inl is) = inl (omega (arith, is))
counted count l (inr (a, b)) = inr (omega (arith, a), omega (arith, b))

pub end_counted : (bodies : Bodies) (order : List Name) (root : Name) (count : ℕ) (text : List ℕ) → IsEnd bodies order root text → Counts 0 text count → HasLengthOf (IsEnd bodies order root) count
end_counted bodies order root count text is counts = record { text = text; is = is; long = counted count (length text) counts }

above : (exact found : ℕ) → IsUpTo exact found → (4294967296 < found → 4294967296 < exact) × (4294967296 < exact → 4294967296 < found)
above exact found (inl is) = (λ h. omega (arith, is, h), λ h. omega (arith, is, h))
above exact found (inr (big, over)) = (λ h. omega (arith, over), λ h. omega (arith, big))

module _ (bodies : Bodies) (order : List Name) (root : Name) where
  pub stream_counted : (objects end first all : ℕ) → HasLengthOf (AreObjectTexts bodies order order) objects → HasLengthOf (IsEnd bodies order root) end
      → ((m n : ℕ) → IsUpTo m 13 → IsUpTo n objects → IsUpTo (m + n) first) → ((m n : ℕ) → IsUpTo m first → IsUpTo n end → IsUpTo (m + n) all) → HasLengthOf (IsStreamText bodies order root) all
  stream_counted objects end first all these last one two =
      let outer = length-append first_line (these.text ++ last.text) in
      let inner = length-append these.text last.text in
      record {
        text = first_line ++ (these.text ++ last.text);
        is = of_parts bodies order root these.text last.text these.is last.is;
        long =
            subst (λ (n : ℕ). IsUpTo n all) (omega (arith, outer, inner))
            (two (13 + length these.text) (length last.text) (one 13 (length these.text) (inl refl) these.long) last.long);
      }

  module _ (count : ℕ) (has : HasLengthOf (IsStreamText bodies order root) count) where
    pub long_by : 4294967296 < count → IsLongStream bodies order root
    long_by more = record { text = has.text; is = has.is; long = (above (length has.text) count has.long).0 more }

    pub by_long : IsLongStream bodies order root → 4294967296 < count
    by_long h = (above (length has.text) count has.long).1 (subst (λ (t : List ℕ). 4294967296 < length t) (one_stream bodies order root h.text has.text h.is has.is) h.long)

    pub text_by : HasText bodies order root
    text_by = record { text = has.text; is = has.is }
