-- The pieces of a content, a tag and a commit.
use Rattle.std.proofs.Common.{◌≡◌, ℕ, List, [], ◌∷◌, ◌++◌, length, refl, sym, ap, ◌∙◌, subst, append_assoc, codes}
use Rattle.swh_base.specs.declared.name.Name.{Name}
use Rattle.swh_model.specs.Archive.{Bodies}
use Rattle.swh_revfmt.specs.Plain.{PlainRevision}
use Rattle.swh_graph.specs.Path.{directory_name}
use Rattle.swh_pathwalk.specs.Tree.{Row}
use Rattle.swh_fastwrite.specs.Text.{mark_line, data_line, blob_head, blob_text, commit_head}
use Rattle.swh_fastwrite.specs.Held.{AddsUp, Kept, kept, Goes}
use Rattle.swh_fastwrite.proofs.Pieces.{goes_both, front_behind, front_more, front_none}
use Rattle.swh_marks.specs.Marks.{mark_of}
use Rattle.swh_fastcook.specs.Files.{AreFilesOf, IsCommitOf}
use Rattle.swh_fastcook.specs.Stream.{beginning, parents_text, files_text, commit_front}
use Rattle.swh_fastcook.proofs.OneText.{one_walk}
use Rattle.swh_fastcook.proofs.Texts.{pushed}

pub blob_is : (mark : ℕ) (body : List ℕ) → blob_head mark (length body) ++ (body ++ 10 ∷ []) ≡ blob_text mark body
blob_is mark body =
    append_assoc (codes "blob\n") (mark_line mark ++ data_line (length body)) (body ++ 10 ∷ [])
    ∙ ap (λ (l : List ℕ). codes "blob\n" ++ l) (append_assoc (mark_line mark) (data_line (length body)) (body ++ 10 ∷ []))

-- the front of a commit in its pieces
pub front_is : (begin head line message behind : List ℕ) → (begin ++ (head ++ line)) ++ (message ++ behind) ≡ begin ++ (head ++ ((line ++ message) ++ behind))
front_is begin head line message behind =
    append_assoc begin (head ++ line) (message ++ behind)
    ∙ ap (λ (l : List ℕ). begin ++ l) (append_assoc head line (message ++ behind) ∙ ap (λ (l : List ℕ). head ++ l) (sym (append_assoc line message behind)))

-- ---- a commit up to the lines of its files

module _ {T : Type 0} (takes front : T → List ℕ → T → Type 0) (sums : AddsUp takes front) (order : List Name) (name : Name) (plain : PlainRevision) (old : Kept T) (lines : List ℕ) where
  abbrev begin : List ℕ
  begin = beginning plain.parents

  abbrev head : List ℕ
  head = commit_head (mark_of order name) plain.rest.author plain.rest.committer plain.rest.encoding

  abbrev line : List ℕ
  line = data_line (length plain.rest.message)

  abbrev message : List ℕ
  message = plain.rest.message ++ 10 ∷ []

  abbrev behind : List ℕ
  behind = parents_text order plain.parents ++ codes "deleteall\n"

  module _ (first : lines ≡ old.held ++ (begin ++ (head ++ line))) where
    lines_pushed : Goes takes front old (begin ++ (head ++ line)) (kept old.taker lines)
    lines_pushed = pushed takes front sums old.taker old.held (begin ++ (head ++ line)) lines first

    whole : (new : T) → front old.taker (old.held ++ ((begin ++ (head ++ line)) ++ (message ++ behind))) new → front old.taker (old.held ++ commit_front order name plain) new
    whole new f = subst (λ (t : List ℕ). front old.taker (old.held ++ t) new) (front_is begin head line message behind) f

    pub message_broke : (new : T) → front old.taker (lines ++ message) new → front old.taker (old.held ++ commit_front order name plain) new
    message_broke new f =
        whole new
        (front_behind takes front sums old (kept old.taker lines) new (begin ++ (head ++ line)) (message ++ behind) lines_pushed
        (front_more takes front sums (kept old.taker lines) new message behind f))

    module _ (now : Kept T) (second : Goes takes front (kept old.taker lines) message now) where
      pub parents_broke : front old.taker (old.held ++ commit_front order name plain) now.taker
      parents_broke =
          whole now.taker
          (front_behind takes front sums old (kept old.taker lines) now.taker (begin ++ (head ++ line)) (message ++ behind) lines_pushed
          (front_behind takes front sums (kept old.taker lines) now now.taker message behind second (front_none takes front sums now behind)))

      pub front_done : (more : List ℕ) → more ≡ now.held ++ behind → Goes takes front old (commit_front order name plain) (kept now.taker more)
      front_done more third =
          subst (λ (t : List ℕ). Goes takes front old t (kept now.taker more)) (front_is begin head line message behind)
          (goes_both takes front sums old (kept old.taker lines) (kept now.taker more) (begin ++ (head ++ line)) (message ++ behind) lines_pushed
          (goes_both takes front sums (kept old.taker lines) now (kept now.taker more) message behind second (pushed takes front sums now.taker now.held behind more third)))

-- ---- a whole commit

module _ {T : Type 0} (takes front : T → List ℕ → T → Type 0) (sums : AddsUp takes front) (bodies : Bodies) (order : List Name) (name : Name) (plain : PlainRevision) where
  abbrev first : List ℕ
  first = commit_front order name plain

  pub commit_done : (old a b : Kept T) (held files : List ℕ) → Goes takes front old first a → AreFilesOf bodies order plain.directory files → Goes takes front a files b → held ≡ b.held ++ 10 ∷ []
      → (text : List ℕ) × IsCommitOf bodies order name plain text × Goes takes front old text (kept b.taker held)
  commit_done old a b held files f are g is = (
    first ++ (files ++ 10 ∷ []),
    record { rows = are.rows; walk = are.walk; is = ap (λ (l : List ℕ). first ++ (l ++ 10 ∷ [])) are.is },
    goes_both takes front sums old a (kept b.taker held) first (files ++ 10 ∷ []) f
        (goes_both takes front sums a b (kept b.taker held) files (10 ∷ []) g (pushed takes front sums b.taker b.held (10 ∷ []) held is)),
  )

  pub front_stopped : (old : Kept T) (new : T) → front old.taker (old.held ++ first) new → (text : List ℕ) → IsCommitOf bodies order name plain text → front old.taker (old.held ++ text) new
  front_stopped old new f text is =
      subst (λ (l : List ℕ). front old.taker (old.held ++ l) new) (sym is.is)
      (front_more takes front sums old new first (files_text order is.rows ++ 10 ∷ []) f)

  pub files_stopped : (old a : Kept T) (new : T) → Goes takes front old first a → ((t : List ℕ) → AreFilesOf bodies order plain.directory t → front a.taker (a.held ++ t) new) → (text : List ℕ) → IsCommitOf bodies order name plain text
      → front old.taker (old.held ++ text) new
  files_stopped old a new f fails text is =
      subst (λ (l : List ℕ). front old.taker (old.held ++ l) new) (sym is.is)
      (front_behind takes front sums old a new first (files_text order is.rows ++ 10 ∷ []) f
      (front_more takes front sums a new (files_text order is.rows) (10 ∷ []) (fails (files_text order is.rows) (record { rows = is.rows; walk = is.walk; is = refl }))))

  pub end_stopped : (old a b : Kept T) (files : List ℕ) → Goes takes front old first a → AreFilesOf bodies order plain.directory files → Goes takes front a files b → (text : List ℕ) → IsCommitOf bodies order name plain text
      → front old.taker (old.held ++ text) b.taker
  end_stopped old a b files f are g text is =
      subst (λ (l : List ℕ). front old.taker (old.held ++ l) b.taker)
      (sym (is.is ∙ ap (λ (rows : List Row). first ++ (files_text order rows ++ 10 ∷ [])) (one_walk bodies (directory_name plain.directory) is.rows are.rows is.walk are.walk)))
      (front_behind takes front sums old a b.taker first (files_text order are.rows ++ 10 ∷ []) f
      (front_behind takes front sums a b b.taker (files_text order are.rows) (10 ∷ []) (subst (λ (l : List ℕ). Goes takes front a l b) are.is g) (front_none takes front sums b (10 ∷ []))))
