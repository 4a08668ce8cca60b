-- A reply's status and body, and the line that reports a job.
use Rattle.std.specs.Prelude.{ℕ, List, ◌∷◌, [], ◌++◌, decimal}

-- a reply: its HTTP status and its body
pub record ReplyText : Type 0 where
  pub status : ℕ
  pub body : List ℕ

-- a job's report: URL, visit, status and detail, with a TAB between, and an LF
abbrev pub line_of : List ℕ → ℕ → List ℕ → List ℕ → List ℕ
line_of url visit status detail = url ++ 9 ∷ (decimal visit ++ 9 ∷ (status ++ 9 ∷ (detail ++ 10 ∷ [])))
