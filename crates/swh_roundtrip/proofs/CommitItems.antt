-- The text of a revision is a commit of the grammar, with a branch that begins anew in front where it has no parent.
use Rattle.std.proofs.Common.{◌≡◌, ◌≢◌, inl, inr, ℕ, ◌+◌, ◌==◌, ◌≤◌, Bool, true, false, cond, List, [], ◌∷◌, ◌++◌, length, map, Option, Some, None, refl, sym, ap, ◌∙◌, subst, arith, append_assoc, codes}
use Rattle.std.specs.Prelude.{IfSome}
use Rattle.std.specs.List.{AllByRecursion, flat_map}
use Rattle.std.proofs.lemmas.List.{append-nil}
use Rattle.swh_base.specs.Limits.{body_limit}
use Rattle.swh_base.specs.declared.name.Name.{Name}
use Rattle.swh_base.specs.Directory.{IsMode}
use Rattle.swh_base.specs.Name.{IsId}
use Rattle.swh_base.specs.Revision.{revision_name}
use Rattle.swh_revfmt.specs.Plain.{text_line, optional_line, IsPersonLine, IsEncoding, PlainRevision, RevisionRest}
use Rattle.swh_pathwalk.specs.Tree.{Row}
use Rattle.swh_fastwrite.specs.Text.{mark_line, data_text, marked_line, cook_branch, commit_head, file_line, project_line}
use Rattle.swh_marks.specs.Marks.{mark_of}
use Rattle.swh_fastcook.specs.Stream.{content_name, file_text, files_text, parent_line, parents_text, beginning, commit_text}
use Rattle.swh_fastgrammar.specs.declared.command.At.{At}
use Rattle.swh_fastgrammar.specs.declared.command.Commitish.{Commitish}
use Rattle.swh_fastgrammar.specs.declared.command.Commitish.TheVariants.{Mark}
use Rattle.swh_fastgrammar.specs.declared.command.Dataref.TheVariants.{Mark as MarkOf, Hex}
use Rattle.swh_fastgrammar.specs.declared.command.Change.{Change}
use Rattle.swh_fastgrammar.specs.declared.command.Change.TheVariants.{Set, Clear}
use Rattle.swh_fastgrammar.specs.declared.command.Command.{Command}
use Rattle.swh_fastgrammar.specs.declared.command.Command.TheVariants.{Commit}
use Rattle.swh_fastgrammar.specs.Grammar.{◌▹◌, ◌▸◌, optional, many, line, placed_line, contents, oid, mark as mark_part, change, from, start_of}
use Rattle.swh_fastgrammar.specs.Row.{Placed}
use Rattle.swh_fastgrammar.specs.Word.{NamesRef, NamesPerson, NamesEncoding, NamesCommit}
use Rattle.swh_roundtrip.specs.Commands.{said, begin_commands, commit_of, changes_for, StartsFrom, IsCommitOf}
use Rattle.swh_roundtrip.proofs.Spelled.{Spells, spells_then, spells_some, spells_none, spells_without, skips_none, spells_nil, spells_cons, spells_append, spells_as, spells_change, spells_data}
use Rattle.swh_roundtrip.proofs.LineKinds.{IsMarkNumber, other_line, spells_mark, spells_person, spells_encoding, spells_ref, is_cook_branch, spells_from, spells_merge}
use Rattle.swh_roundtrip.proofs.PathLines.{IsGoodPath, IsFileMode, spells_file, spells_project}
use Rattle.swh_roundtrip.proofs.Items.{SpellsCommands, no_commands, commands_append, commands_as, one_command, empty_line, spells_begin}

-- ## Files

-- A row that a stream takes.
pub record IsGoodRow (order : List Name) (row : Row) : Type 0 where
  pub path : IsGoodPath row.path
  pub mode : IsMode row.entry.mode
  pub mark : row.entry.mode ≢ 40000 → row.entry.mode ≢ 160000 → IsMarkNumber (mark_of order (content_name row.entry.id))
  pub id : IsId row.entry.id

-- changes that say these, from this place on
pub record SpellsChanges (at : ℕ) (text : List ℕ) (these : List Change) : Type 0 where
  pub changes : List (At Change)
  pub spells : Spells (many change) at text changes
  pub are : said changes ≡ these

one_change : (at : ℕ) (text : List ℕ) (c : Change) → Spells change at text (record { at = at; it = c }) → SpellsChanges at text (c ∷ [])
one_change at text c s = record {
  changes = record { at = at; it = c } ∷ [];
  spells = spells_as (many change) at (text ++ []) text (record { at = at; it = c } ∷ []) (append-nil text)
      (spells_cons change at text [] (record { at = at; it = c }) [] s (spells_nil change (at + length text)));
  are = refl;
}

file_mode : (mode : ℕ) → IsMode mode → mode ≢ 40000 → mode ≢ 160000 → IsFileMode mode
file_mode mode (inl e) f p = inl e
file_mode mode (inr (inl e)) f p = inr (inl e)
file_mode mode (inr (inr (inl e))) f p = inr (inr e)
file_mode mode (inr (inr (inr (inl e)))) f p = absurd (f e)
file_mode mode (inr (inr (inr (inr e)))) f p = absurd (p e)

pub not_mode : (mode other : ℕ) → (mode == other) ≡ false → mode ≢ other
not_mode mode other e is = let t : (other == other) ≡ false = subst (λ (k : ℕ). (k == other) ≡ false) is e in by_self other t
  where
    by_self : (k : ℕ) → (k == k) ≡ false → ⊥
    by_self k f = grind arith

row_by : (order : List Name) (at : ℕ) (row : Row) → IsGoodRow order row → (b d : Bool) → (row.entry.mode == 40000) ≡ b → (row.entry.mode == 160000) ≡ d
    → SpellsChanges at (cond b [] (cond d (project_line row.entry.id row.path) (file_line row.entry.mode (mark_of order (content_name row.entry.id)) row.path)))
    (cond b [] (cond d (Set 160000 (Hex row.entry.id) row.path ∷ []) (Set row.entry.mode (MarkOf (mark_of order (content_name row.entry.id))) row.path ∷ [])))
row_by order at row h true d e f = record { changes = []; spells = spells_nil change at; are = refl }
row_by order at row h false true e f = one_change at (project_line row.entry.id row.path) (Set 160000 (Hex row.entry.id) row.path) (spells_project at row.entry.id row.path h.id h.path)
row_by order at row h false false e f =
    let no_folder = not_mode row.entry.mode 40000 e in
    let no_project = not_mode row.entry.mode 160000 f in
    let m : ℕ = mark_of order (content_name row.entry.id) in
    one_change at (file_line row.entry.mode m row.path) (Set row.entry.mode (MarkOf m) row.path)
    (spells_file at row.entry.mode m row.path (file_mode row.entry.mode h.mode no_folder no_project) (h.mark no_folder no_project) h.path)

said_append : {X : Type 0} (xs bs : List (At X)) → said (xs ++ bs) ≡ said xs ++ said bs
said_append [] bs = refl
said_append {X} (a ∷ xs) bs = ap (λ (t : List X). a.it ∷ t) (said_append xs bs)

many_append : (at : ℕ) (a b : List ℕ) (xs ys : List Change) → SpellsChanges at a xs → SpellsChanges (at + length a) b ys → SpellsChanges at (a ++ b) (xs ++ ys)
many_append at a b xs ys s t = record {
  changes = s.changes ++ t.changes;
  spells = spells_append change at a b s.changes t.changes s.spells t.spells;
  are = said_append s.changes t.changes ∙ ap (λ (x : List Change). x ++ said t.changes) s.are ∙ ap (λ (y : List Change). xs ++ y) t.are;
}

pub spells_files : (order : List Name) (at : ℕ) (rows : List Row) → AllByRecursion (IsGoodRow order) rows → SpellsChanges at (files_text order rows) (flat_map (changes_for order) rows)
spells_files order at [] h = record { changes = []; spells = spells_nil change at; are = refl }
spells_files order at (row ∷ rows) h =
    many_append at (file_text order row) (files_text order rows) (changes_for order row) (flat_map (changes_for order) rows)
    (row_by order at row h.0 (row.entry.mode == 40000) (row.entry.mode == 160000) refl refl) (spells_files order (at + length (file_text order row)) rows h.1)

pub spells_tree : (order : List Name) (rows : List Row) → AllByRecursion (IsGoodRow order) rows → (at : ℕ) → SpellsChanges at (codes "deleteall\n" ++ files_text order rows) (Clear ∷ flat_map (changes_for order) rows)
spells_tree order rows h at =
    many_append at (codes "deleteall\n") (files_text order rows) (Clear ∷ []) (flat_map (changes_for order) rows)
    (one_change at (codes "deleteall\n") Clear
    (spells_change at Clear [] (other_line (codes "deleteall") [] refl (λ (k, l, e). absurd (omega (arith, l))) (omega arith) refl refl (refl, refl, refl, refl, refl) (refl, refl, refl, refl)) refl refl))
    (spells_files order (at + length (codes "deleteall\n")) rows h)

-- ## Parents

abbrev pub HaveMarks : List Name → List (List ℕ) → Type 0
HaveMarks order ids = AllByRecursion (λ (id : List ℕ). IsMarkNumber (mark_of order (revision_name id))) ids

abbrev merge_part : List Placed → At Commitish → Type 0
merge_part = placed_line (codes "merge ") NamesCommit

record SpellsMerges (order : List Name) (at : ℕ) (text : List ℕ) (ids : List (List ℕ)) : Type 0 where
  merges : List (At Commitish)
  spells : Spells (many merge_part) at text merges
  are : said merges ≡ map (commit_of order) ids

spells_merges : (order : List Name) (at : ℕ) (ids : List (List ℕ)) → HaveMarks order ids → SpellsMerges order at (flat_map (parent_line order (codes "merge ")) ids) ids
spells_merges order at [] h = record { merges = []; spells = spells_nil merge_part at; are = refl }
spells_merges order at (id ∷ ids) h =
    let m : ℕ = mark_of order (revision_name id) in
    let text : List ℕ = marked_line (codes "merge ") m in
    let more = spells_merges order (at + length text) ids h.1 in
    record {
      merges = record { at = at; it = Mark m } ∷ more.merges;
      spells = spells_cons merge_part at text (flat_map (parent_line order (codes "merge ")) ids) (record { at = at; it = Mark m }) more.merges (spells_merge at m h.0) more.spells;
      are = ap (λ (t : List Commitish). Mark m ∷ t) more.are;
    }

-- what stands behind a commit's message
record SpellsTail (order : List Name) (at : ℕ) (text : List ℕ) (parents : List (List ℕ)) (these : List Change) : Type 0 where
  first : Option (At Commitish)
  merges : List (At Commitish)
  changes : List (At Change)
  spells : Spells (optional from ▹ many merge_part ▹ many change) at text (first, (merges, changes))
  starts : StartsFrom order parents (start_of first) merges
  are : said changes ≡ these

spells_tail : (order : List Name) (at : ℕ) (parents : List (List ℕ)) (rest : List ℕ) (these : List Change) → HaveMarks order parents → ((n : ℕ) → SpellsChanges n rest these) → SpellsTail order at (parents_text order parents ++ rest) parents these
spells_tail order at [] rest these h changes =
    let c = changes (at + 0) in
    record {
      first = None;
      merges = [];
      changes = c.changes;
      spells = spells_without from (many merge_part ▹ many change) at rest ([], c.changes) (spells_then (many merge_part) (many change) at [] rest [] c.changes (spells_nil merge_part at) c.spells);
      starts = (refl, refl);
      are = c.are;
    }
spells_tail order at (id ∷ ids) rest these h changes =
    let m : ℕ = mark_of order (revision_name id) in
    let one : List ℕ = marked_line (codes "from ") m in
    let two : List ℕ = flat_map (parent_line order (codes "merge ")) ids in
    let a : At Commitish = record { at = at; it = Mark m } in
    let behind = spells_merges order (at + length one) ids h.1 in
    let c = changes ((at + length one) + length two) in
    let more = spells_then (many merge_part) (many change) (at + length one) two rest behind.merges c.changes behind.spells c.spells in
    let whole = spells_then (optional from) (many merge_part ▹ many change) at one (two ++ rest) (Some a) (behind.merges, c.changes) (spells_some from at one a (spells_from at m h.0)) more in
    record {
      first = Some a;
      merges = behind.merges;
      changes = c.changes;
      spells = spells_as (optional from ▹ many merge_part ▹ many change) at (one ++ (two ++ rest)) ((one ++ two) ++ rest) (Some a, (behind.merges, c.changes)) (sym (append_assoc one two rest)) whole;
      starts = (a, refl, refl, behind.are);
      are = c.are;
    }

-- ## The commit

encoding_line : (at : ℕ) (encoding : Option (List ℕ)) → IfSome encoding IsEncoding → Spells (optional (line (codes "encoding ") NamesEncoding)) at (optional_line (codes "encoding ") encoding) encoding
encoding_line at None h = spells_none (line (codes "encoding ") NamesEncoding) at
encoding_line at (Some text) h = spells_some (line (codes "encoding ") NamesEncoding) at (text_line (codes "encoding ") text) text (spells_encoding at text h)

-- What a stream takes of a revision.
pub record IsGoodCommit (order : List Name) (name : Name) (plain : PlainRevision) (rows : List Row) : Type 0 where
  pub mark : IsMarkNumber (mark_of order name)
  pub author : IsPersonLine (codes "author ") plain.rest.author
  pub committer : IsPersonLine (codes "committer ") plain.rest.committer
  pub encoding : IfSome plain.rest.encoding IsEncoding
  pub message : length plain.rest.message ≤ body_limit
  pub parents : HaveMarks order plain.parents
  pub files : AllByRecursion (IsGoodRow order) rows

commit_parts : (a b c d e f g : List ℕ) → a ++ (b ++ (c ++ (d ++ (e ++ (f ++ g))))) ≡ (a ++ (b ++ (c ++ (d ++ e)))) ++ (f ++ g)
commit_parts a b c d e f g = simp append_assoc

-- a commit of these parts, from this place on
pub record SpellsCommit (order : List Name) (at : ℕ) (text : List ℕ) (name : Name) (plain : PlainRevision) (rows : List Row) : Type 0 where
  pub command : Command
  pub is : IsCommitOf order name plain rows command
  pub spells : SpellsCommands at text (command ∷ [])

spells_commit : (order : List Name) (at : ℕ) (name : Name) (plain : PlainRevision) (rows : List Row) → IsGoodCommit order name plain rows
    → SpellsCommit order at (commit_head (mark_of order name) plain.rest.author plain.rest.committer plain.rest.encoding ++ (data_text plain.rest.message ++ (parents_text order plain.parents ++ (codes "deleteall\n" ++ files_text order rows)))) name plain rows
spells_commit order at name plain rows h =
    let m : ℕ = mark_of order name in
    let r : RevisionRest = plain.rest in
    let one : List ℕ = text_line (codes "commit ") cook_branch in
    let two : List ℕ = mark_line m in
    let three : List ℕ = text_line (codes "author ") r.author in
    let four : List ℕ = text_line (codes "committer ") r.committer in
    let five : List ℕ = optional_line (codes "encoding ") r.encoding in
    let six : List ℕ = data_text r.message in
    let seven : List ℕ = parents_text order plain.parents ++ (codes "deleteall\n" ++ files_text order rows) in
    let at_two : ℕ = at + length one in
    let at_three : ℕ = at_two + length two in
    let at_four : ℕ = at_three + length three in
    let at_five : ℕ = at_four + length four in
    let at_six : ℕ = at_five + length five in
    let at_seven : ℕ = at_six + length six in
    let tail = spells_tail order at_seven plain.parents (codes "deleteall\n" ++ files_text order rows) (Clear ∷ flat_map (changes_for order) rows) h.parents (spells_tree order rows h.files) in
    let sixth = spells_then contents (optional from ▹ many merge_part ▹ many change) at_six six seven r.message (tail.first, (tail.merges, tail.changes)) (spells_data at_six r.message h.message) tail.spells in
    let fifth = spells_then (optional (line (codes "encoding ") NamesEncoding)) (contents ▹ optional from ▹ many merge_part ▹ many change) at_five five (six ++ seven) r.encoding (r.message, (tail.first, (tail.merges, tail.changes))) (encoding_line at_five r.encoding h.encoding) sixth in
    let fourth = spells_then (line (codes "committer ") NamesPerson) (optional (line (codes "encoding ") NamesEncoding) ▹ contents ▹ optional from ▹ many merge_part ▹ many change) at_four four (five ++ (six ++ seven)) r.committer (r.encoding, (r.message, (tail.first, (tail.merges, tail.changes))))
    (spells_person at_four (codes "committer ") r.committer h.committer refl refl refl (refl, refl, refl, refl, refl) (refl, refl, refl, refl)) fifth in
    let third = spells_then (optional (line (codes "author ") NamesPerson)) (line (codes "committer ") NamesPerson ▹ optional (line (codes "encoding ") NamesEncoding) ▹ contents ▹ optional from ▹ many merge_part ▹ many change) at_three three (four ++ (five ++ (six ++ seven))) (Some r.author) (r.committer, (r.encoding, (r.message, (tail.first, (tail.merges, tail.changes)))))
    (spells_some (line (codes "author ") NamesPerson) at_three three r.author (spells_person at_three (codes "author ") r.author h.author refl refl refl (refl, refl, refl, refl, refl) (refl, refl, refl, refl))) fourth in
    let behind = skips_none oid (optional (line (codes "author ") NamesPerson) ▹ line (codes "committer ") NamesPerson ▹ optional (line (codes "encoding ") NamesEncoding) ▹ contents ▹ optional from ▹ many merge_part ▹ many change) at_three (three ++ (four ++ (five ++ (six ++ seven)))) (Some r.author, (r.committer, (r.encoding, (r.message, (tail.first, (tail.merges, tail.changes)))))) third in
    let second = spells_then (optional mark_part) (optional oid ▸ optional (line (codes "author ") NamesPerson) ▹ line (codes "committer ") NamesPerson ▹ optional (line (codes "encoding ") NamesEncoding) ▹ contents ▹ optional from ▹ many merge_part ▹ many change) at_two two (three ++ (four ++ (five ++ (six ++ seven)))) (Some m) (Some r.author, (r.committer, (r.encoding, (r.message, (tail.first, (tail.merges, tail.changes))))))
    (spells_some mark_part at_two two m (spells_mark at_two m h.mark)) behind in
    let first = spells_then (line (codes "commit ") NamesRef) (optional mark_part ▹ optional oid ▸ optional (line (codes "author ") NamesPerson) ▹ line (codes "committer ") NamesPerson ▹ optional (line (codes "encoding ") NamesEncoding) ▹ contents ▹ optional from ▹ many merge_part ▹ many change) at one (two ++ (three ++ (four ++ (five ++ (six ++ seven))))) cook_branch (Some m, (Some r.author, (r.committer, (r.encoding, (r.message, (tail.first, (tail.merges, tail.changes)))))))
    (spells_ref at (codes "commit ") cook_branch (0, omega arith, refl) is_cook_branch (omega arith) refl refl refl (refl, refl, refl, refl)) second in
    let text : List ℕ = one ++ (two ++ (three ++ (four ++ (five ++ (six ++ seven))))) in
    let c : Command = Commit cook_branch (Some m) (Some r.author) r.committer r.encoding r.message (start_of tail.first) tail.merges tail.changes in
    record {
      command = c;
      is = record { start = start_of tail.first; merges = tail.merges; changes = tail.changes; is = refl; starts = tail.starts; files = tail.are };
      spells = commands_as at text (commit_head m r.author r.committer r.encoding ++ (six ++ seven)) (c ∷ []) (commit_parts one two three four five six seven)
          (one_command at text c (record { rows = first.rows; spelled = first.spelled; free = first.free; said = (tail.first, refl, first.said) }));
    }

-- ## The whole

whole_text : (begin head message parents clear files : List ℕ) → begin ++ ((head ++ (message ++ (parents ++ (clear ++ files)))) ++ 10 ∷ []) ≡ (begin ++ (head ++ (message ++ (parents ++ clear)))) ++ (files ++ 10 ∷ [])
whole_text begin head message parents clear files = simp append_assoc

begins : (at : ℕ) (parents : List (List ℕ)) → SpellsCommands at (beginning parents) (begin_commands parents)
begins at [] = spells_begin at cook_branch is_cook_branch
begins at (id ∷ ids) = no_commands at

-- the commands of a revision, from this place on
pub record SpellsRevision (order : List Name) (at : ℕ) (name : Name) (plain : PlainRevision) (rows : List Row) : Type 0 where
  pub command : Command
  pub is : IsCommitOf order name plain rows command
  pub spells : SpellsCommands at (commit_text order name plain rows) (begin_commands plain.parents ++ command ∷ [])

pub spells_revision : (order : List Name) (at : ℕ) (name : Name) (plain : PlainRevision) (rows : List Row) → IsGoodCommit order name plain rows → SpellsRevision order at name plain rows
spells_revision order at name plain rows h =
    let m : ℕ = mark_of order name in
    let r : RevisionRest = plain.rest in
    let begin : List ℕ = beginning plain.parents in
    let head : List ℕ = commit_head m r.author r.committer r.encoding in
    let text : List ℕ = head ++ (data_text r.message ++ (parents_text order plain.parents ++ (codes "deleteall\n" ++ files_text order rows))) in
    let c = spells_commit order (at + length begin) name plain rows h in
    let ended = commands_append (at + length begin) text (10 ∷ []) (c.command ∷ []) [] c.spells (empty_line ((at + length begin) + length text)) in
    let all = commands_append at begin (text ++ 10 ∷ []) (begin_commands plain.parents) (c.command ∷ []) (begins at plain.parents) ended in
    record {
      command = c.command;
      is = c.is;
      spells = commands_as at (begin ++ (text ++ 10 ∷ [])) (commit_text order name plain rows) (begin_commands plain.parents ++ c.command ∷ []) (whole_text begin head (data_text r.message) (parents_text order plain.parents) (codes "deleteall\n") (files_text order rows)) all;
    }
