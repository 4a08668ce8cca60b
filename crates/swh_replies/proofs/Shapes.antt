-- What is no shape of a path, and that a path has one shape.
use Rattle.std.specs.Str.{bytes_eq}
use Rattle.std.proofs.Common.{◌≡◌, ◌≢◌, ℕ, ◌==◌, true≢false, length, Bool, false, Option, Some, None, IfSome, IfNone, MatchOption, Bor, List, [], ◌∷◌, ◌++◌, Contains, reverse, codes, refl, sym, ap, ◌∙◌, subst}
use Rattle.std.proofs.lemmas.List.{append_cancel_left, append_cancel_right, reverse-append}
use Rattle.swh_base.proofs.Splits.{first_split, absent}
use Rattle.swh_base.proofs.Middle.{in_middle}
use Rattle.swh_replies.specs.Shape.{Shape, Known, Visits, Origin, Revision, Log, Release, Directory, DirectoryEntry, Snapshot, Content, Resolve, Raw, Cook, Load, IsOnePart, IsShape, HasParts, Spells, word_of, tail_of}

word-no_slash : (s : Shape) → Contains (word_of s) 47 → ⊥
word-no_slash Known = absent 47 (codes "known") refl
word-no_slash (Visits url) = absent 47 (codes "origin") refl
word-no_slash (Origin url) = absent 47 (codes "origin") refl
word-no_slash (Revision id) = absent 47 (codes "revision") refl
word-no_slash (Log id) = absent 47 (codes "revision") refl
word-no_slash (Release id) = absent 47 (codes "release") refl
word-no_slash (Directory id) = absent 47 (codes "directory") refl
word-no_slash (DirectoryEntry id path) = absent 47 (codes "directory") refl
word-no_slash (Snapshot id) = absent 47 (codes "snapshot") refl
word-no_slash (Content id) = absent 47 (codes "content") refl
word-no_slash (Resolve swhid) = absent 47 (codes "resolve") refl
word-no_slash (Raw core) = absent 47 (codes "raw") refl
word-no_slash (Cook core) = absent 47 (codes "cook") refl
word-no_slash (Load url) = absent 47 (codes "load") refl

-- ---- what stands before the last bytes

pub some_before : (s p : List ℕ) (r : Option (Bor (List ℕ))) → MatchOption r ((front : List ℕ) → s ≢ front ++ p) (λ x. s ≡ x.now ++ p) → IfSome r (λ x. s ≡ x.now ++ p)
some_before s p None h = tt
some_before s p (Some x) h = h

pub none_before : (s p : List ℕ) (r : Option (Bor (List ℕ))) → MatchOption r ((front : List ℕ) → s ≢ front ++ p) (λ x. s ≡ x.now ++ p) → IfNone r ((front : List ℕ) → s ≡ front ++ p → ⊥)
none_before s p None h = h
none_before s p (Some x) h = tt

pub IfNone-weaker : {A : Type 0} (r : Option A) (P Q : Type 0) → (P → Q) → IfNone r P → IfNone r Q
IfNone-weaker None P Q f h = f h
IfNone-weaker (Some x) P Q f h = tt

-- ---- one part

pub not_empty : (xs : List ℕ) → (length xs == 0) ≡ false → xs ≢ []
not_empty [] e = λ same. absurd (true≢false e)
not_empty (x ∷ xs) e = λ same. absurd cc

-- what stands behind the first slash is the same
behind_part : (tail id rest other behind : List ℕ) → IsOnePart id → IsOnePart other → tail ≡ id ++ 47 ∷ rest → tail ≡ other ++ 47 ∷ behind → rest ≡ behind
behind_part tail id rest other behind one two is is_too = (first_split 47 id other rest behind one two (sym is ∙ is_too)).1

pub not_one_part : (tail id rest : List ℕ) → IsOnePart id → tail ≡ id ++ 47 ∷ rest → rest ≢ [] → (part : List ℕ) → IsOnePart part → tail ≡ part ++ 47 ∷ [] → ⊥
not_one_part tail id rest one is more part other is_too = more (behind_part tail id rest part [] one other is is_too)

-- a text without a slash is none that holds one
without_slash : (tail front behind : List ℕ) → (Contains tail 47 → ⊥) → tail ≡ front ++ 47 ∷ behind → ⊥
without_slash tail front behind none is = none (subst (λ (t : List ℕ). Contains t 47) (sym is) (in_middle front behind 47))

-- ---- revisions

pub no_revision_id : (tail : List ℕ) → (Contains tail 47 → ⊥) → (s : Shape) → HasParts (codes "revision") tail s → ⊥
no_revision_id tail none (Revision id) h = without_slash tail id [] none h.tail_is
no_revision_id tail none (Log id) h = without_slash tail id (codes "log/") none h.tail_is
no_revision_id tail none _ h = absurd (true≢false (ap (bytes_eq (codes "revision")) h.word_is))

pub no_revision : (tail id rest : List ℕ) → IsOnePart id → tail ≡ id ++ 47 ∷ rest → rest ≢ [] → rest ≢ codes "log/" → (s : Shape) → HasParts (codes "revision") tail s → ⊥
no_revision tail id rest one is some other (Revision at) h = some (behind_part tail id rest at [] one h.good is h.tail_is)
no_revision tail id rest one is some other (Log at) h = other (behind_part tail id rest at (codes "log/") one h.good is h.tail_is)
no_revision tail id rest one is some other _ h = absurd (true≢false (ap (bytes_eq (codes "revision")) h.word_is))

-- ---- directories

pub no_directory_id : (tail : List ℕ) → (Contains tail 47 → ⊥) → (s : Shape) → HasParts (codes "directory") tail s → ⊥
no_directory_id tail none (Directory id) h = without_slash tail id [] none h.tail_is
no_directory_id tail none (DirectoryEntry id path) h = without_slash tail id (path ++ codes "/") none h.tail_is
no_directory_id tail none _ h = absurd (true≢false (ap (bytes_eq (codes "directory")) h.word_is))

pub no_directory : (tail id rest : List ℕ) → IsOnePart id → tail ≡ id ++ 47 ∷ rest → rest ≢ [] → ((path : List ℕ) → rest ≡ path ++ codes "/" → ⊥) → (s : Shape) → HasParts (codes "directory") tail s → ⊥
no_directory tail id rest one is some no_path (Directory at) h = some (behind_part tail id rest at [] one h.good is h.tail_is)
no_directory tail id rest one is some no_path (DirectoryEntry at path) h = no_path path (behind_part tail id rest at (path ++ codes "/") one h.good is h.tail_is)
no_directory tail id rest one is some no_path _ h = absurd (true≢false (ap (bytes_eq (codes "directory")) h.word_is))

-- ---- whole paths

below_api : (path below : List ℕ) (s : Shape) → path ≡ codes "/api/1/" ++ below → path ≡ codes "/api/1/" ++ (word_of s ++ 47 ∷ tail_of s) → below ≡ word_of s ++ 47 ∷ tail_of s
below_api path below s is is_too = append_cancel_left (codes "/api/1/") below (word_of s ++ 47 ∷ tail_of s) (sym is ∙ is_too)

pub no_word : (path below : List ℕ) → path ≡ codes "/api/1/" ++ below → (Contains below 47 → ⊥) → (s : Shape) → path ≡ codes "/api/1/" ++ (word_of s ++ 47 ∷ tail_of s) → ⊥
no_word path below is none s is_too = without_slash below (word_of s) (tail_of s) none (below_api path below s is is_too)

-- a path that is cut at its first slash has the parts of its shape
pub parts_of : (path below word tail : List ℕ) → path ≡ codes "/api/1/" ++ below → (Contains word 47 → ⊥) → below ≡ word ++ 47 ∷ tail → (s : Shape) → IsShape s → path ≡ codes "/api/1/" ++ (word_of s ++ 47 ∷ tail_of s) → HasParts word tail s
parts_of path below word tail is none cut s good is_too =
    let both = first_split 47 word (word_of s) tail (tail_of s) none (word-no_slash s) (sym cut ∙ below_api path below s is is_too) in
    record { word_is = both.0; tail_is = both.1; good = good }

-- ---- one shape

abbrev second_is_s : List ℕ → Bool
second_is_s [] = false
second_is_s (c ∷ []) = false
second_is_s (c ∷ d ∷ cs) = d == 115

-- one text of two ends
visits_and_get : (a b : List ℕ) → a ++ codes "/visits/" ≡ b ++ codes "/get/" → ⊥
visits_and_get a b e =
    let turned : reverse (codes "/visits/") ++ reverse a ≡ reverse (codes "/get/") ++ reverse b = sym (reverse-append a (codes "/visits/")) ∙ ap reverse e ∙ reverse-append b (codes "/get/") in
    absurd (true≢false (ap second_is_s turned))

no_end : (x : List ℕ) → [] ≡ x ++ codes "/" → ⊥
no_end [] e = absurd cc
no_end (c ∷ x) e = absurd cc

same_part : (a b x y : List ℕ) → IsOnePart a → IsOnePart b → a ++ 47 ∷ x ≡ b ++ 47 ∷ y → (a ≡ b) × (x ≡ y)
same_part a b x y one two e = first_split 47 a b x y one two e

-- the word and what stands behind it settle the shape
same_shape : (s t : Shape) → IsShape s → IsShape t → word_of s ≡ word_of t → tail_of s ≡ tail_of t → s ≡ t
same_shape Known Known g h w e = refl
same_shape (Visits a) (Visits b) g h w e = ap Visits (append_cancel_right a b (codes "/visits/") e)
same_shape (Origin a) (Origin b) g h w e = ap Origin (append_cancel_right a b (codes "/get/") e)
same_shape (Visits a) (Origin b) g h w e = absurd (visits_and_get a b e)
same_shape (Origin a) (Visits b) g h w e = absurd (visits_and_get b a (sym e))
same_shape (Revision a) (Revision b) g h w e = ap Revision (append_cancel_right a b (codes "/") e)
same_shape (Log a) (Log b) g h w e = ap Log (append_cancel_right a b (codes "/log/") e)
same_shape (Revision a) (Log b) g h w e = let both = same_part a b [] (codes "log/") g h e in let rest = both.1 in absurd cc
same_shape (Log a) (Revision b) g h w e = let both = same_part a b (codes "log/") [] g h e in let rest = both.1 in absurd cc
same_shape (Release a) (Release b) g h w e = ap Release (append_cancel_right a b (codes "/") e)
same_shape (Directory a) (Directory b) g h w e = ap Directory (append_cancel_right a b (codes "/") e)
same_shape (DirectoryEntry a x) (DirectoryEntry b y) g h w e =
    let both = same_part a b (x ++ codes "/") (y ++ codes "/") g h e in
    let ids = both.0 in
    let paths = append_cancel_right x y (codes "/") both.1 in
    cc
same_shape (Directory a) (DirectoryEntry b y) g h w e = absurd (no_end y (same_part a b [] (y ++ codes "/") g h e).1)
same_shape (DirectoryEntry a x) (Directory b) g h w e = absurd (no_end x (sym (same_part a b (x ++ codes "/") [] g h e).1))
same_shape (Snapshot a) (Snapshot b) g h w e = ap Snapshot (append_cancel_right a b (codes "/") e)
same_shape (Content a) (Content b) g h w e = ap Content (append_cancel_right a b (codes "/") (append_cancel_left (codes "sha1_git:") _ _ e))
same_shape (Resolve a) (Resolve b) g h w e = ap Resolve (append_cancel_right a b (codes "/") e)
same_shape (Raw a) (Raw b) g h w e = ap Raw (append_cancel_right a b (codes "/") e)
same_shape (Cook a) (Cook b) g h w e = ap Cook (append_cancel_right a b (codes "/") e)
same_shape (Load a) (Load b) g h w e = ap Load (append_cancel_right a b (codes "/") (append_cancel_left (codes "fast/") _ _ e))
same_shape s t g h w e = absurd (true≢false (ap (bytes_eq (word_of s)) w))

pub one_shape : (path : List ℕ) (s t : Shape) → Spells path s → Spells path t → s ≡ t
one_shape path s t h k =
    let below = append_cancel_left (codes "/api/1/") _ _ (sym h.text ∙ k.text) in
    let both = first_split 47 (word_of s) (word_of t) (tail_of s) (tail_of t) (word-no_slash s) (word-no_slash t) below in
    same_shape s t h.good k.good both.0 both.1
