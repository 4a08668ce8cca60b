-- The texts of the commands of a stream (git-fast-import(1), commands), as an archive writes them.
use Rattle.std.specs.Prelude.{ℕ, Option, List, [], ◌∷◌, ◌++◌, length, decimal, codes}
use Rattle.hex.specs.Hex.{encode_lower}
use Rattle.swh_revfmt.specs.Plain.{text_line, optional_line}
use Rattle.swh_fastwrite.specs.Quoted.{quoted_path}

-- the line that gives an object its mark
abbrev pub mark_line : ℕ → List ℕ
mark_line mark = codes "mark :" ++ (decimal mark ++ 10 ∷ [])

-- the line before so many bytes of data
abbrev pub data_line : ℕ → List ℕ
data_line count = codes "data " ++ (decimal count ++ 10 ∷ [])

-- bytes as data, with an LF after them
abbrev pub data_text : List ℕ → List ℕ
data_text bytes = data_line (length bytes) ++ (bytes ++ 10 ∷ [])

-- a line of this word that names an object by its mark
abbrev pub marked_line : List ℕ → ℕ → List ℕ
marked_line word mark = word ++ (58 ∷ (decimal mark ++ 10 ∷ []))

-- what stands in front of a content's bytes
abbrev pub blob_head : ℕ → ℕ → List ℕ
blob_head mark count = codes "blob\n" ++ (mark_line mark ++ data_line count)

-- a content
abbrev pub blob_text : ℕ → List ℕ → List ℕ
blob_text mark body = codes "blob\n" ++ (mark_line mark ++ data_text body)

-- the branch of all commits
abbrev pub cook_branch : List ℕ
cook_branch = codes "refs/swh/cook"

-- the first lines of a commit, up to its message
abbrev pub commit_head : ℕ → List ℕ → List ℕ → Option (List ℕ) → List ℕ
commit_head mark author committer encoding =
    text_line (codes "commit ") cook_branch ++ (mark_line mark ++ (text_line (codes "author ") author ++ (text_line (codes "committer ") committer ++ optional_line (codes "encoding ") encoding)))

-- the line of a file, by the mark of its content
abbrev pub file_line : ℕ → ℕ → List ℕ → List ℕ
file_line mode mark path = codes "M " ++ (decimal mode ++ (codes " :" ++ (decimal mark ++ 32 ∷ (quoted_path path ++ 10 ∷ []))))

-- the line of a revision of another project
abbrev pub project_line : List ℕ → List ℕ → List ℕ
project_line id path = codes "M 160000 " ++ (encode_lower id ++ 32 ∷ (quoted_path path ++ 10 ∷ []))

-- the first lines of a release, up to its message
abbrev pub tag_head : List ℕ → ℕ → ℕ → Option (List ℕ) → List ℕ
tag_head tag mark object tagger = text_line (codes "tag ") tag ++ (mark_line mark ++ (marked_line (codes "from ") object ++ optional_line (codes "tagger ") tagger))

-- a branch without a tip
abbrev pub begin_text : List ℕ → List ℕ
begin_text branch = text_line (codes "reset ") branch ++ 10 ∷ []

-- a branch with this commit as its tip
abbrev pub tip_text : List ℕ → ℕ → List ℕ
tip_text branch mark = text_line (codes "reset ") branch ++ (marked_line (codes "from ") mark ++ 10 ∷ [])

-- a branch whose tip is taken away
abbrev pub end_text : List ℕ → List ℕ
end_text branch = text_line (codes "reset ") branch ++ codes "from 0000000000000000000000000000000000000000\n\n"
