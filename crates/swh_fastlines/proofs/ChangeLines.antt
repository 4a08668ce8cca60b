-- Lines of changes: what a line of each word says, and when it passes the limit of paths.
use Rattle.std.proofs.Common.{◌≡◌, ◌≢◌, ℕ, ◌-◌, inl, inr, List, [], ◌∷◌, ◌++◌, length, drop, refl, sym, ap, ◌∙◌, subst, arith, append_assoc, codes}
use Rattle.swh_fastlex.specs.Path.{NamesPath, NamesPathBefore, PassesPath}
use Rattle.swh_fastlex.specs.declared.paths.PathBefore.{PathBefore}
use Rattle.swh_fastlex.proofs.Pieces.{left_over, one_spelling}
use Rattle.swh_fastlines.specs.declared.change_lines.ChangeLine.{ChangeLine}
use Rattle.swh_fastlines.specs.declared.change_lines.ChangeLine.TheVariants.{Whole, No}
use Rattle.swh_fastlines.specs.declared.change_lines.Pair.{Pair}
use Rattle.swh_fastgrammar.specs.declared.command.Change.{Change}
use Rattle.swh_fastgrammar.specs.declared.command.Change.TheVariants.{Set, Delete, Copy, Move, Clear}
use Rattle.swh_fastgrammar.specs.declared.command.Dataref.{Dataref}
use Rattle.swh_fastgrammar.specs.declared.command.Dataref.TheVariants as Of
use Rattle.swh_fastgrammar.specs.Grammar.{BeginsSet, SetsTo, IsPair}
use Rattle.swh_fastlines.specs.Limit.{PassesSet, PassesPair, PassesPaths}
use Rattle.swh_fastlines.specs.Reading.{LineSays, IsChangeLine, set_line_of}
use Rattle.swh_fastgrammar.proofs.Parts.{begins_one}
use Rattle.swh_fastgrammar.proofs.Rows.{same_tail}

abbrev first : List ℕ → ℕ
first [] = 0
first (c ∷ cs) = c

-- What a line `M` says, with its text after the word.
abbrev pub SaysSet : List ℕ → Change → Type 0
SaysSet text (Set mode what path) = SetsTo text mode what path
SaysSet text (Delete path) = ⊥
SaysSet text (Copy source path) = ⊥
SaysSet text (Move source path) = ⊥
SaysSet text Clear = ⊥

abbrev pub SaysDelete : List ℕ → Change → Type 0
SaysDelete text (Set mode what path) = ⊥
SaysDelete text (Delete path) = NamesPath text path
SaysDelete text (Copy source path) = ⊥
SaysDelete text (Move source path) = ⊥
SaysDelete text Clear = ⊥

abbrev pub SaysCopy : List ℕ → Change → Type 0
SaysCopy text (Set mode what path) = ⊥
SaysCopy text (Delete path) = ⊥
SaysCopy text (Copy source path) = IsPair text source path
SaysCopy text (Move source path) = ⊥
SaysCopy text Clear = ⊥

abbrev pub SaysMove : List ℕ → Change → Type 0
SaysMove text (Set mode what path) = ⊥
SaysMove text (Delete path) = ⊥
SaysMove text (Copy source path) = ⊥
SaysMove text (Move source path) = IsPair text source path
SaysMove text Clear = ⊥

said_set : (text : List ℕ) (c : Change) → LineSays (codes "M " ++ text) c → SaysSet text c
said_set text (Set m w p) h = subst (λ (t : List ℕ). SetsTo t m w p) (sym (same_tail (codes "M ") text h.0 h.1)) h.2
said_set text (Delete p) h = let n : 77 ≡ 68 = ap first h.1 in absurd (omega (arith, n))
said_set text (Copy s p) h = let n : 77 ≡ 67 = ap first h.1 in absurd (omega (arith, n))
said_set text (Move s p) h = let n : 77 ≡ 82 = ap first h.1 in absurd (omega (arith, n))
said_set text Clear h = let n : 77 ≡ 100 = ap first h.1 in absurd (omega (arith, n))

said_delete : (text : List ℕ) (c : Change) → LineSays (codes "D " ++ text) c → SaysDelete text c
said_delete text (Set m w p) h = let n : 68 ≡ 77 = ap first h.1 in absurd (omega (arith, n))
said_delete text (Delete p) h = subst (λ (t : List ℕ). NamesPath t p) (sym (same_tail (codes "D ") text h.0 h.1)) h.2
said_delete text (Copy s p) h = let n : 68 ≡ 67 = ap first h.1 in absurd (omega (arith, n))
said_delete text (Move s p) h = let n : 68 ≡ 82 = ap first h.1 in absurd (omega (arith, n))
said_delete text Clear h = let n : 68 ≡ 100 = ap first h.1 in absurd (omega (arith, n))

said_copy : (text : List ℕ) (c : Change) → LineSays (codes "C " ++ text) c → SaysCopy text c
said_copy text (Set m w p) h = let n : 67 ≡ 77 = ap first h.1 in absurd (omega (arith, n))
said_copy text (Delete p) h = let n : 67 ≡ 68 = ap first h.1 in absurd (omega (arith, n))
said_copy text (Copy s p) h = subst (λ (t : List ℕ). IsPair t s p) (sym (same_tail (codes "C ") text h.0 h.1)) h.2
said_copy text (Move s p) h = let n : 67 ≡ 82 = ap first h.1 in absurd (omega (arith, n))
said_copy text Clear h = let n : 67 ≡ 100 = ap first h.1 in absurd (omega (arith, n))

said_move : (text : List ℕ) (c : Change) → LineSays (codes "R " ++ text) c → SaysMove text c
said_move text (Set m w p) h = let n : 82 ≡ 77 = ap first h.1 in absurd (omega (arith, n))
said_move text (Delete p) h = let n : 82 ≡ 68 = ap first h.1 in absurd (omega (arith, n))
said_move text (Copy s p) h = let n : 82 ≡ 67 = ap first h.1 in absurd (omega (arith, n))
said_move text (Move s p) h = subst (λ (t : List ℕ). IsPair t s p) (sym (same_tail (codes "R ") text h.0 h.1)) h.2
said_move text Clear h = let n : 82 ≡ 100 = ap first h.1 in absurd (omega (arith, n))

passed_set : (text : List ℕ) (n : ℕ) → PassesPaths (codes "M " ++ text) n → PassesSet text n
passed_set text n (inl h) = let d : 77 ≡ 68 = ap first h.1 in absurd (omega (arith, d))
passed_set text n (inr (inl h)) = subst (λ (t : List ℕ). PassesSet t n) (sym (same_tail (codes "M ") text h.0 h.1)) h.2
passed_set text n (inr (inr (t, inl e, p))) = let d : 77 ≡ 67 = ap first e in absurd (omega (arith, d))
passed_set text n (inr (inr (t, inr e, p))) = let d : 77 ≡ 82 = ap first e in absurd (omega (arith, d))

passed_delete : (text : List ℕ) (n : ℕ) → PassesPaths (codes "D " ++ text) n → PassesPath 10 text n
passed_delete text n (inl h) = subst (λ (t : List ℕ). PassesPath 10 t n) (sym (same_tail (codes "D ") text h.0 h.1)) h.2
passed_delete text n (inr (inl h)) = let d : 68 ≡ 77 = ap first h.1 in absurd (omega (arith, d))
passed_delete text n (inr (inr (t, inl e, p))) = let d : 68 ≡ 67 = ap first e in absurd (omega (arith, d))
passed_delete text n (inr (inr (t, inr e, p))) = let d : 68 ≡ 82 = ap first e in absurd (omega (arith, d))

passed_copy : (text : List ℕ) (n : ℕ) → PassesPaths (codes "C " ++ text) n → PassesPair text n
passed_copy text n (inl h) = let d : 67 ≡ 68 = ap first h.1 in absurd (omega (arith, d))
passed_copy text n (inr (inl h)) = let d : 67 ≡ 77 = ap first h.1 in absurd (omega (arith, d))
passed_copy text n (inr (inr (t, inl e, p))) = subst (λ (u : List ℕ). PassesPair u n) (sym (same_tail (codes "C ") text t e)) p
passed_copy text n (inr (inr (t, inr e, p))) = let d : 67 ≡ 82 = ap first e in absurd (omega (arith, d))

passed_move : (text : List ℕ) (n : ℕ) → PassesPaths (codes "R " ++ text) n → PassesPair text n
passed_move text n (inl h) = let d : 82 ≡ 68 = ap first h.1 in absurd (omega (arith, d))
passed_move text n (inr (inl h)) = let d : 82 ≡ 77 = ap first h.1 in absurd (omega (arith, d))
passed_move text n (inr (inr (t, inl e, p))) = let d : 82 ≡ 67 = ap first e in absurd (omega (arith, d))
passed_move text n (inr (inr (t, inr e, p))) = subst (λ (u : List ℕ). PassesPair u n) (sym (same_tail (codes "R ") text t e)) p

-- the reading of the line of this word
abbrev pub Reads : List ℕ → ChangeLine → Type 0
Reads line found = IsChangeLine (LineSays line) (PassesPaths line) found

-- No path is named, and none is too long.
abbrev pub NoPath : List ℕ → Type 0
NoPath text = ((path : List ℕ) → NamesPath text path → ⊥) × ((number : ℕ) → PassesPath 10 text number → ⊥)

-- the path is named, and is not too long
abbrev pub IsPathOf : List ℕ → List ℕ → Type 0
IsPathOf text path = NamesPath text path × ((number : ℕ) → PassesPath 10 text number → ⊥)

pub delete_is : (text path : List ℕ) → IsPathOf text path → Reads (codes "D " ++ text) (Whole (Delete path))
delete_is text path h = ((text, refl, h.0), refl, λ n p. h.1 n (passed_delete text n p))

delete_none : (text : List ℕ) → ((path : List ℕ) → NamesPath text path → ⊥) → (c : Change) → SaysDelete text c → ⊥
delete_none text none (Set m w p) h = h
delete_none text none (Delete p) h = none p h
delete_none text none (Copy s p) h = h
delete_none text none (Move s p) h = h
delete_none text none Clear h = h

pub delete_no : (text : List ℕ) → NoPath text → Reads (codes "D " ++ text) No
delete_no text h = (λ c says. delete_none text h.0 c (said_delete text c says), λ n p. h.1 n (passed_delete text n p))

set_passes_not : (text : List ℕ) (m : ℕ) (w : Dataref) (rest : List ℕ) → BeginsSet text m w rest → ((number : ℕ) → PassesPath 10 rest number → ⊥) → (n : ℕ) → PassesPaths (codes "M " ++ text) n → ⊥
set_passes_not text m w rest b none n h =
    let p = passed_set text n h in
    let same = begins_one text m p.0 w p.1 rest p.2 b p.3 in
    none n (subst (λ (t : List ℕ). PassesPath 10 t n) (sym same.2) p.4)

pub set_is : (text : List ℕ) (m : ℕ) (w : Dataref) (rest path : List ℕ) → BeginsSet text m w rest → IsPathOf rest path → Reads (codes "M " ++ text) (set_line_of m w path)
set_is text m (Of.Mark x) rest path b h = ((text, refl, (rest, b, h.0)), refl, set_passes_not text m (Of.Mark x) rest b h.1)
set_is text m (Of.Inline x) rest path b h = (λ bytes. (text, refl, (rest, b, h.0)), set_passes_not text m (Of.Inline x) rest b h.1)
set_is text m (Of.Hex x) rest path b h = ((text, refl, (rest, b, h.0)), refl, set_passes_not text m (Of.Hex x) rest b h.1)

set_none : (text : List ℕ) → ((m : ℕ) (w : Dataref) (path : List ℕ) → SetsTo text m w path → ⊥) → (c : Change) → SaysSet text c → ⊥
set_none text none (Set m w p) h = none m w p h
set_none text none (Delete p) h = h
set_none text none (Copy s p) h = h
set_none text none (Move s p) h = h
set_none text none Clear h = h

pub set_no_path : (text : List ℕ) (m : ℕ) (w : Dataref) (rest : List ℕ) → BeginsSet text m w rest → NoPath rest → Reads (codes "M " ++ text) No
set_no_path text m w rest b h = (
  λ c says. set_none text (λ n v p t. h.0 p (subst (λ (u : List ℕ). NamesPath u p) (sym (begins_one text m n w v rest t.0 b t.1).2) t.2)) c (said_set text c says),
  set_passes_not text m w rest b h.1,
)

-- the source is named, is not too long, and this follows it
abbrev pub IsSourceOf : List ℕ → List ℕ → List ℕ → Type 0
IsSourceOf text source rest = NamesPathBefore 32 text source rest × ((number : ℕ) → PassesPath 32 text number → ⊥)

space_is_no_quote : ◌≢◌ {A = ℕ} 32 34
space_is_no_quote e = absurd (omega (arith, e))

same_rest : (text s t x y : List ℕ) → NamesPathBefore 32 text s x → NamesPathBefore 32 text t y → x ≡ y
same_rest text s t x y h k = (one_spelling 32 text s t x y space_is_no_quote h.1 k.1).1

pub pair_passes_not : (text source rest : List ℕ) → IsSourceOf text source rest → ((number : ℕ) → PassesPath 10 rest number → ⊥) → (n : ℕ) → PassesPair text n → ⊥
pair_passes_not text source rest s none n (inl p) = s.1 n p
pair_passes_not text source rest s none n (inr (t, more, names, p)) = none n (subst (λ (u : List ℕ). PassesPath 10 u n) (sym (same_rest text source t rest more s.0 names)) p)

pub pair_no_path : (text source rest : List ℕ) → IsSourceOf text source rest → NoPath rest → (s p : List ℕ) → IsPair text s p → ⊥
pair_no_path text source rest h none s p k = none.0 p (subst (λ (u : List ℕ). NamesPath u p) (sym (same_rest text source s rest k.0 h.0 k.1)) k.2)

-- what follows a source, told by a count of bytes
counted_rest : (text source rest : List ℕ) → NamesPathBefore 32 text source rest → drop (length text - length rest) text ≡ rest
counted_rest text source rest h = left_over (h.1.spelling ++ 32 ∷ []) rest (length text - length rest) text (h.1.cut ∙ sym (append_assoc h.1.spelling (32 ∷ []) rest)) refl

-- No source is named, and none is too long.
abbrev pub NoSource : List ℕ → Type 0
NoSource text = ((x : PathBefore) → NamesPathBefore 32 text x.path (drop x.length text) → ⊥) × ((number : ℕ) → PassesPath 32 text number → ⊥)

no_source : (text : List ℕ) → NoSource text → (source rest : List ℕ) → NamesPathBefore 32 text source rest → ⊥
no_source text none source rest h =
    let x : PathBefore = record { path = source; length = length text - length rest } in
    none.0 x (subst (NamesPathBefore 32 text source) (sym (counted_rest text source rest h)) h)

pub pair_no_source : (text : List ℕ) → NoSource text → (s p : List ℕ) → IsPair text s p → ⊥
pair_no_source text none s p h = no_source text none s h.0 h.1

pub pair_no_long_source : (text : List ℕ) → NoSource text → (n : ℕ) → PassesPair text n → ⊥
pair_no_long_source text none n (inl p) = none.1 n p
pair_no_long_source text none n (inr (s, rest, names, p)) = no_source text none s rest names

pub copy_is : (text source path : List ℕ) → IsPair text source path → ((n : ℕ) → PassesPair text n → ⊥) → Reads (codes "C " ++ text) (Whole (Copy source path))
copy_is text source path h none = ((text, refl, h), refl, λ n p. none n (passed_copy text n p))

-- No pair is said, and no path is too long.
abbrev pub NoPair : List ℕ → Type 0
NoPair text = ((x : Pair) → IsPair text x.source x.path → ⊥) × ((number : ℕ) → PassesPair text number → ⊥)

copy_none : (text : List ℕ) → NoPair text → (c : Change) → SaysCopy text c → ⊥
copy_none text none (Set m w p) h = h
copy_none text none (Delete p) h = h
copy_none text none (Copy s p) h = let x : Pair = record { source = s; path = p } in none.0 x h
copy_none text none (Move s p) h = h
copy_none text none Clear h = h

pub copy_no : (text : List ℕ) → NoPair text → Reads (codes "C " ++ text) No
copy_no text none = (λ c says. copy_none text none c (said_copy text c says), λ n p. none.1 n (passed_copy text n p))

pub move_is : (text source path : List ℕ) → IsPair text source path → ((n : ℕ) → PassesPair text n → ⊥) → Reads (codes "R " ++ text) (Whole (Move source path))
move_is text source path h none = ((text, refl, h), refl, λ n p. none n (passed_move text n p))

move_none : (text : List ℕ) → NoPair text → (c : Change) → SaysMove text c → ⊥
move_none text none (Set m w p) h = h
move_none text none (Delete p) h = h
move_none text none (Copy s p) h = h
move_none text none (Move s p) h = let x : Pair = record { source = s; path = p } in none.0 x h
move_none text none Clear h = h

pub move_no : (text : List ℕ) → NoPair text → Reads (codes "R " ++ text) No
move_no text none = (λ c says. move_none text none c (said_move text c says), λ n p. none.1 n (passed_move text n p))
