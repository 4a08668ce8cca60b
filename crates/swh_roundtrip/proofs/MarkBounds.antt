-- Marks are numbers that a stream takes.
use Rattle.std.proofs.Common.{◌≡◌, inl, inr, ℕ, ◌+◌, ◌≤◌, Bool, true, false, cond, List, [], ◌∷◌, ◌++◌, length, length-append, Contains, refl, sym, ap, ◌∙◌, subst, arith, codes}
use Rattle.std.specs.BTreeMap.{is_at}
use Rattle.swh_base.specs.declared.kind.Kind.{Kind}
use Rattle.swh_base.specs.declared.kind.Kind.TheVariants.{Content, Directory, Revision as RevisionKind, Release as ReleaseKind, Snapshot}
use Rattle.swh_base.specs.declared.name.Name.{Name}
use Rattle.swh_base.specs.Name.{name_cmp}
use Rattle.swh_base.proofs.Elementary.{none_in}
use Rattle.swh_model.specs.Archive.{Bodies}
use Rattle.swh_graph.proofs.Lists.{in_cases}
use Rattle.swh_revfmt.specs.Plain.{text_line}
use Rattle.swh_fastwrite.specs.Text.{data_text, tag_head}
use Rattle.swh_marks.specs.Marks.{is_written_kind, is_written, written, mark_step, mark_of}
use Rattle.swh_fastcook.specs.Stream.{IsTextOf, AreObjectTexts, IsStreamText, commit_front, files_text}
use Rattle.swh_fastrows.specs.declared.row_source.TheConstants.{STREAM_LIMIT}
use Rattle.swh_roundtrip.proofs.LineKinds.{IsMarkNumber}

some_by : (b : Bool) (step mark : ℕ) → (b ≡ false → 1 ≤ mark) → 1 ≤ cond b 1 (step + mark)
some_by true step mark h = omega arith
some_by false step mark h = let m = h refl in omega (arith, m)

mark_some : (order : List Name) (n : Name) → Contains order n → ((x : Name) → is_at (name_cmp x) x ≡ true) → 1 ≤ mark_of order n
mark_some [] n there self = absurd (none_in n there)
mark_some (x ∷ xs) n there self = some_by (is_at (name_cmp x) n) (mark_step (is_written x)) (mark_of xs n) (λ other. elim (in_cases x xs n there) [
  | inl same ↦ (let t : true ≡ false = sym (self x) ∙ subst (λ (y : Name). is_at (name_cmp x) y ≡ false) (sym same) other in absurd cc)
  | inr later ↦ mark_some xs n later self
])

counted : (b w : Bool) (m : ℕ) (x : Name) (ns : List Name) → m ≤ length ns + 1 → cond b 1 (mark_step w + m) ≤ length (cond w (x ∷ ns) ns) + 1
counted true true m x ns h = omega arith
counted true false m x ns h = omega arith
counted false true m x ns h = omega (arith, h)
counted false false m x ns h = omega (arith, h)

mark_few : (order : List Name) (n : Name) → mark_of order n ≤ length (written order) + 1
mark_few [] n = omega arith
mark_few (x ∷ xs) n = counted (is_at (name_cmp x) n) (is_written x) (mark_of xs n) x (written xs) (mark_few xs n)

-- ## Each object that is written has a byte

more_than : (a b : List ℕ) → 1 ≤ length b → 1 ≤ length (a ++ b)
more_than a b h = omega (arith, h, length-append a b)

object_size : (bodies : Bodies) (order : List Name) (kind : Kind) (name : Name) (text : List ℕ) → IsTextOf bodies order kind name text → mark_step (is_written_kind kind) ≤ length text
object_size bodies order Content name text t = omega (arith, ap length t.is)
object_size bodies order Directory name text t = omega arith
object_size bodies order RevisionKind name text t =
    let some = more_than (commit_front order name t.plain) (files_text order t.rows ++ 10 ∷ []) (more_than (files_text order t.rows) (10 ∷ []) (omega arith)) in
    omega (arith, some, ap length t.is)
object_size bodies order ReleaseKind name text t =
    let line : List ℕ = text_line (codes "tag ") t.plain.tag in
    let some : 1 ≤ length (tag_head t.plain.tag (mark_of order name) (mark_of order t.plain.object) t.plain.rest.tagger ++ data_text t.plain.rest.message) = omega arith in
    omega (arith, some, ap length t.is)
object_size bodies order Snapshot name text t = omega arith

one_more : (w : Bool) (x : Name) (ns : List Name) (a b : ℕ) → mark_step w ≤ a → length ns ≤ b → length (cond w (x ∷ ns) ns) ≤ a + b
one_more true x ns a b h k = omega (arith, h, k)
one_more false x ns a b h k = omega (arith, h, k)

written_few : (bodies : Bodies) (order names : List Name) (text : List ℕ) → AreObjectTexts bodies order names text → length (written names) ≤ length text
written_few bodies order [] text t = omega arith
written_few bodies order (n ∷ ns) text (a, b, is, one, more) =
    let size = one_more (is_written n) n (written ns) (length a) (length b) (object_size bodies order n.kind n a one) (written_few bodies order ns b more) in
    omega (arith, size, ap length is, length-append a b)

-- Where the text is not too long, the mark of each name in the order is one.
pub marks_are : (bodies : Bodies) (order : List Name) (root : Name) (text : List ℕ) → ((x : Name) → is_at (name_cmp x) x ≡ true) → IsStreamText bodies order root text → length text ≤ STREAM_LIMIT → (n : Name) → Contains order n → IsMarkNumber (mark_of order n)
marks_are bodies order root text self t within n there =
    let some = mark_some order n there self in
    let few = mark_few order n in
    let size = written_few bodies order order t.objects t.are_objects in
    let behind : List ℕ = t.tips ++ (t.last ++ codes "done\n") in
    let whole : length text ≡ length (codes "feature done\n") + (length t.objects + length behind) = ap length t.is ∙ length-append (codes "feature done\n") (t.objects ++ behind) ∙ ap (λ (k : ℕ). length (codes "feature done\n") + k) (length-append t.objects behind) in
    record { some = some; small = omega (arith, few, size, whole, within) }
