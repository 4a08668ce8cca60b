-- Commits.
use Rattle.std.proofs.Common.{◌≡◌, ℕ, inl, inr, Bool, true, false, List, [], ◌∷◌, ◌++◌, refl, sym, ap, ◌∙◌, subst, arith, append_assoc, codes, Option, Some, None}
use Rattle.swh_fastgrammar.specs.declared.command.At.{At}
use Rattle.swh_fastgrammar.specs.declared.command.Change.{Change}
use Rattle.swh_fastgrammar.specs.declared.command.Change.TheVariants.{Set, Delete, Copy, Move, Clear}
use Rattle.swh_fastgrammar.specs.declared.command.Command.{Command}
use Rattle.swh_fastgrammar.specs.declared.command.Commitish.{Commitish}
use Rattle.swh_fastgrammar.specs.declared.command.Dataref.TheVariants.{Mark, Inline, Hex}
use Rattle.swh_fastgrammar.specs.declared.command.Command.TheVariants.{Commit}
use Rattle.swh_fastgrammar.specs.declared.command.Start.{Start}
use Rattle.swh_fastgrammar.specs.Grammar.{◌▹◌, ◌▸◌, optional, line_at, contents, mark, oid, from, many, change, change_word, change_brings, BeginsSet, SaysChange, Item, IsItem, IsCommand}
use Rattle.swh_fastgrammar.specs.Grammar.Item.{Says}
use Rattle.swh_fastgrammar.specs.Row.{Placed}
use Rattle.swh_fastgrammar.proofs.Faults.{append_nil}
use Rattle.swh_fastgrammar.specs.Word.{NamesRef}
use Rattle.swh_fastgrammar.proofs.Items.{author, committer, encoding, merge, after_data}
use Rattle.swh_fastgrammar.proofs.Parts.{cons_cut, begins_one}
use Rattle.swh_fastgrammar.proofs.Rows.{same_tail}
use Rattle.swh_fastlines.specs.Reading.{LineSays}
use Rattle.swh_fastrows.specs.declared.fail.ReadFail.{ReadFail}
use Rattle.swh_fastrows.specs.declared.fail.ReadFail.TheVariants.{BadStream, ReadFault, Limit, Memory}
use Rattle.swh_fastrows.specs.Explains.{PartFails, DataFails, Explains, IsClear, Reads, Stops}
use Rattle.swh_fastrows.specs.Places.{ReaderState, left, Took, Part, OptionalPart, FoundPart, position}
use Rattle.swh_fastread.specs.Tail.{IsOutside, IsSure, ReadsFrom, ReadsSome, ReadsAll, ReadsTail, ReadsStart, ChangeFails, TailFails}
use Rattle.swh_fastread.proofs.Begun.{commit_item, commit_begun, commit_after, stops_explain, part_explains, data_explains}
use Rattle.swh_fastread.proofs.Blobs.{found, found_part}
use Rattle.swh_fastread.proofs.Commands.{reads_whole}
use Rattle.swh_fastrows.proofs.Joins.{took_append}
use Rattle.swh_fastread.proofs.Places.{mark_solid, oid_solid, author_solid, committer_solid, encoding_solid, commit_mark, commit_oid, commit_author, commit_encoding, from_committer, from_data, wants_committer, wants_data, from_solid, merge_solid, change_solid, contents_solid, commit_from, commit_merge, end_clash, refuses_then, none_then, completes_data}
use Rattle.swh_fastread.proofs.Remains.{wants_optional, wants_skip, Within, Whole, Next, some_append, Wants, step_then, step_optional, step_skip, step_many, step_some, closing, whole, no_more, took_next}

-- A commit's parent was read, in front of what may follow it.
pub parent_read : (a b c : ReaderState) (next : Bool) (o : Option (At Commitish)) (f : Option (At Commitish) × (List (At Commitish) × List (At Change)) → Item) → Within IsItem a b after_data f → IsSure c next → ReadsFrom b c next o → Within IsItem a c (many merge ▹ many change) (λ y. f (o, y))
parent_read a b c next None f w sure r =
    let s = r.1 sure in
    step_optional IsItem a b c from (many merge ▹ many change) f None from_solid commit_from w (record { took = r.0; refused = s.refused; counts = s.counts })
parent_read a b c next (Some v) f w sure r = step_optional IsItem a b c from (many merge ▹ many change) f (Some v) from_solid commit_from w r

pub merges_read : (a b c : ReaderState) (next : Bool) (ms : List (At Commitish)) (f : List (At Commitish) × List (At Change) → Item) → Within IsItem a b (many merge ▹ many change) f → IsSure c next → ReadsAll merge b c next ms → Within IsItem a c (many change) (λ y. f (ms, y))
merges_read a b c next ms f w sure r =
    let s = r.stopped sure in
    step_many IsItem a b c merge (many change) f ms merge_solid commit_merge w (record { rows = r.some.rows; took = r.some.took; says = r.some.says; refused = s.refused; counts = s.counts })

pub changes_read : (a b c : ReaderState) (cs : List (At Change)) (f : List (At Change) → Item) → Within IsItem a b (many change) f → IsClear (position c false) → ReadsAll change b c false cs → Whole a c (f cs)
changes_read a b c cs f w clear r =
    let s = r.stopped (inr clear) in
    whole a c (λ y. f cs) (step_many IsItem a b c change no_more (λ v. f v.0) cs change_solid (end_clash change change_solid) (closing IsItem a b (many change) f w) (record { rows = r.some.rows; took = r.some.took; says = r.some.says; refused = s.refused; counts = s.counts }))

-- The tail was read as far as no limit is passed.
pub tail_whole : (a b c : ReaderState) (o : Option (At Commitish)) (ms : List (At Commitish)) (cs : List (At Change)) (f : Option (At Commitish) × (List (At Commitish) × List (At Change)) → Item) → Within IsItem a b after_data f → ReadsTail b c o ms cs → IsClear (position c false) → Whole a c (f (o, (ms, cs)))
tail_whole a b c o ms cs f w r clear =
    let second : IsSure r.second r.more = sure r.second r.more (λ e. subst (λ (p : ReaderState). IsClear (position p false)) (r.last e) clear) in
    let first : IsSure r.first r.next = sure r.first r.next (λ e. second_clear e) in
    let w1 = parent_read a b r.first r.next o f w first r.reads_parent in
    let w2 = merges_read a r.first r.second r.more ms (λ y. f (o, y)) w1 second r.reads_merges in
    changes_read a r.second c cs (λ y. f (o, (ms, y))) w2 clear r.reads_changes
  where
    sure : (p : ReaderState) (next : Bool) → (next ≡ false → IsClear (position p false)) → IsSure p next
    sure p true h = inl refl
    sure p false h = inr (h refl)

    second_clear : r.next ≡ false → IsClear (position r.first false)
    second_clear e = subst (λ (p : ReaderState). IsClear (position p false)) (r.same e) (subst (λ (p : ReaderState). IsClear (position p false)) (r.last (r.none e)) clear)

-- the rows of a tail that was read
pub record TailRows (old new : ReaderState) (o : Option (At Commitish)) (ms : List (At Commitish)) (cs : List (At Change)) : Type 0 where
  pub rows : List Placed
  pub took : Took old new rows
  pub says : after_data rows (o, (ms, cs))

pub tail_rows : (b c : ReaderState) (o : Option (At Commitish)) (ms : List (At Commitish)) (cs : List (At Change)) → ReadsTail b c o ms cs → TailRows b c o ms cs
tail_rows b c o ms cs r = by_parent o r.reads_parent
  where
    m : ReadsSome merge r.first r.second ms
    m = r.reads_merges.some

    n : ReadsSome change r.second c cs
    n = r.reads_changes.some

    by_rows : (p : Option (At Commitish)) (rows : List Placed) → Took b r.first rows → optional from rows p → TailRows b c p ms cs
    by_rows p rows t h = record {
      rows = rows ++ (m.rows ++ n.rows);
      took = took_append b r.first c rows (m.rows ++ n.rows) t (took_append r.first r.second c m.rows n.rows m.took n.took);
      says = (rows, m.rows ++ n.rows, refl, h, (m.rows, n.rows, refl, m.says, n.says));
    }

    by_parent : (p : Option (At Commitish)) → ReadsFrom b r.first r.next p → TailRows b c p ms cs
    by_parent None q = by_rows None [] q.0 refl
    by_parent (Some v) q = by_rows (Some v) q.rows q.took q.says

-- A commit was read as far as no limit is passed.
pub commit_reads : (a b c : ReaderState) (o : Option (At Commitish)) (ms : List (At Commitish)) (cs : List (At Change)) (f : Option (At Commitish) × (List (At Commitish) × List (At Change)) → Item) (command : Command) → f (o, (ms, cs)) ≡ Says command → Within IsItem a b after_data f → ReadsTail b c o ms cs → Reads IsCommand a c command
commit_reads a b c o ms cs f command e w r =
    let t = tail_rows b c o ms cs r in
    reads_whole a c (w.part ++ t.rows) (f (o, (ms, cs))) command e (took_append a b c w.part t.rows w.took t.took) (w.remains.forth t.rows (o, (ms, cs)) t.says) (tail_whole a b c o ms cs f w r)

abbrev after_line : List Placed → List ℕ × (List (At Change) × Unit {0}) → Type 0
after_line = contents ▹ many change ▹ no_more

abbrev first : List ℕ → ℕ
first [] = 0
first (c ∷ t) = c

-- what follows the line of an inline change are data
inline_rows : (line : List ℕ) (mode : ℕ) (path : List ℕ) (z : Change) (text : List ℕ) (back : List Placed) → LineSays line (Set mode (Inline []) path) → line ≡ change_word z ++ text → SaysChange text z → change_brings z back → (bytes : List ℕ) × contents back bytes
inline_rows line mode path (Set n (Mark m) p) text back h e s b =
    let same : h.0 ≡ text = same_tail (codes "M ") h.0 text (sym h.1 ∙ e) in
    absurd (begins_one text mode n (Inline []) (Mark m) h.2.0 s.0 (subst (λ (t : List ℕ). BeginsSet t mode (Inline []) h.2.0) same h.2.1) s.1).1
inline_rows line mode path (Set n (Inline bytes) p) text back h e s b = (bytes, b)
inline_rows line mode path (Set n (Hex id) p) text back h e s b =
    let same : h.0 ≡ text = same_tail (codes "M ") h.0 text (sym h.1 ∙ e) in
    absurd (begins_one text mode n (Inline []) (Hex id) h.2.0 s.0 (subst (λ (t : List ℕ). BeginsSet t mode (Inline []) h.2.0) same h.2.1) s.1).1
inline_rows line mode path (Delete p) text back h e s b = let n : 77 ≡ 68 = ap first (sym h.1 ∙ e) in absurd (omega (arith, n))
inline_rows line mode path (Copy d p) text back h e s b = let n : 77 ≡ 67 = ap first (sym h.1 ∙ e) in absurd (omega (arith, n))
inline_rows line mode path (Move d p) text back h e s b = let n : 77 ≡ 82 = ap first (sym h.1 ∙ e) in absurd (omega (arith, n))
inline_rows line mode path Clear text back h e s b = let n : 77 ≡ 100 = ap first (sym h.1 ∙ e) in absurd (omega (arith, n))

-- the line of an inline change, behind which its data and other changes come
pub step_inline : {V : Type 0} (R : List Placed → V → Type 0) (a b c : ReaderState) (line : List ℕ) (mode : ℕ) (path : List ℕ) (f : List (At Change) × Unit {0} → V) → Within R a b (many change ▹ no_more) f → ((bytes : List ℕ) → LineSays line (Set mode (Inline bytes) path)) → Took b c (line_at b.at line ∷ []) → Within R a c after_line (λ v. f (record { at = b.at; it = Set mode (Inline v.0) path } ∷ v.1.0, tt))
step_inline {V} R a b c line mode path f w says t = record {
  part = w.part ++ q ∷ [];
  some = some_append w.part (q ∷ []) w.some;
  took = took_append a b c w.part (q ∷ []) w.took t;
  remains = record { forth = forth; back = back };
}
  where
    q : Placed
    q = line_at b.at line

    shift : (more : List Placed) → (w.part ++ q ∷ []) ++ more ≡ w.part ++ q ∷ more
    shift more = append_assoc w.part (q ∷ []) more

    forth : (more : List Placed) (v : List ℕ × (List (At Change) × Unit {0})) → after_line more v → R ((w.part ++ q ∷ []) ++ more) (f (record { at = b.at; it = Set mode (Inline v.0) path } ∷ v.1.0, tt))
    forth more v h =
        let x : At Change = record { at = b.at; it = Set mode (Inline v.0) path } in
        let s = says v.0 in
        let one : change (q ∷ h.0) x = (s.0, h.0, ap (λ (z : List ℕ). line_at b.at z ∷ h.0) s.1, s.2, h.3) in
        let all : many change (q ∷ more) (x ∷ v.1.0) = (q ∷ h.0, h.1, ap (λ (r : List Placed). q ∷ r) h.2, one, front h.1 v.1.0 h.4) in
        subst (λ (r : List Placed). R r (f (x ∷ v.1.0, tt))) (sym (shift more)) (w.remains.forth (q ∷ more) (x ∷ v.1.0, tt) (q ∷ more, [], sym (append_nil (q ∷ more)), all, refl))
      where
        front : (rows : List Placed) (xs : List (At Change)) → (many change ▹ no_more) rows (xs, tt) → many change rows xs
        front rows xs k = subst (λ (r : List Placed). many change r xs) (sym (k.2 ∙ ap (λ (r : List Placed). k.0 ++ r) k.4 ∙ append_nil k.0)) k.3

    back : (more : List Placed) (i : V) → Next (left c) more → R ((w.part ++ q ∷ []) ++ more) i → (x : List ℕ × (List (At Change) × Unit {0})) × after_line more x
    back more i n h =
        let r = w.remains.back (q ∷ more) i (took_next b c (q ∷ []) t (λ e. absurd cc) more) (subst (λ (z : List Placed). R z i) (shift more) h) in
        by_list r.0.0 r.1.0 r.1.1 r.1.2 r.1.3 r.1.4
      where
        by_list : (zs : List (At Change)) (rows end : List Placed) → q ∷ more ≡ rows ++ end → many change rows zs → end ≡ [] → (x : List ℕ × (List (At Change) × Unit {0})) × after_line more x
        by_list [] rows end e k none = let bad : q ∷ more ≡ [] = e ∙ ap (λ (r : List Placed). r ++ end) k ∙ none in absurd cc
        by_list (z ∷ zs) rows end e k none =
            let z_line : Placed = line_at z.at (change_word z.it ++ k.3.0) in
            let whole : q ∷ more ≡ z_line ∷ (k.3.1 ++ k.1) = e ∙ ap (λ (r : List Placed). rows ++ r) none ∙ append_nil rows ∙ k.2 ∙ ap (λ (r : List Placed). r ++ k.1) k.3.2 in
            let cut = cons_cut q z_line more (k.3.1 ++ k.1) whole in
            let d = inline_rows line mode path z.it k.3.0 k.3.1 (says []) (ap (λ (p : Placed). p.row.line) cut.0) k.3.3 k.3.4 in
            ((d.0, (zs, tt)), (k.3.1, k.1, cut.1, d.1, (k.1, [], sym (append_nil k.1), k.4, refl)))

wants_line : Wants after_line
wants_line = record { none = none_then contents (many change ▹ no_more) contents_solid; complete = completes_data (many change ▹ no_more) ([], tt) ([], [], refl, refl, refl) }

-- a failed source, and want of memory
outside_explains : (a : ReaderState) (fail : ReadFail) → IsOutside fail → (p : Bool) → Explains a p fail
outside_explains a (BadStream at why) s p = absurd s
outside_explains a ReadFault s p = tt
outside_explains a (Limit which number) s p = absurd s
outside_explains a Memory s p = tt

-- what stops a change in a commit that is begun
change_explains : (a b : ReaderState) (f : List (At Change) × Unit {0} → Item) (fail : ReadFail) → Within IsItem a b (many change ▹ no_more) f → ChangeFails b fail → (p : Bool) → Explains a p fail
change_explains a b f fail w (inl s) p = outside_explains a fail s p
change_explains a b f fail w (inr l) p =
    let u = step_inline IsItem a b l.after l.text l.mode l.path f w l.says l.took in
    data_explains a l.after after_line (λ v. f (record { at = b.at; it = Set l.mode (Inline v.0) l.path } ∷ v.1.0, tt)) fail u wants_line (refuses_then contents (many change ▹ no_more) contents_solid) (λ q bytes next d. ((bytes, ([], tt)), (q ∷ [], [], refl, (q, next, refl, d), ([], [], refl, refl, refl)))) l.fails p

pub tail_explains : (a b : ReaderState) (f : Option (At Commitish) × (List (At Commitish) × List (At Change)) → Item) (fail : ReadFail) → Within IsItem a b after_data f → TailFails b fail → (p : Bool) → Explains a p fail
tail_explains a b f fail w (inl s) p = outside_explains a fail s p
tail_explains a b f fail w (inr l) p =
    let w1 = parent_read a b l.first true l.parent f w (inl refl) l.reads_parent in
    let w2 = merges_read a l.first l.second true l.merges (λ y. f (l.parent, y)) w1 (inl refl) l.reads_merges in
    let g : List (At Change) × Unit {0} → Item = λ v. f (l.parent, (l.merges, v.0)) in
    let w3 = closing IsItem a l.second (many change) (λ y. f (l.parent, (l.merges, y))) w2 in
    let k = l.fails in
    let w4 = step_some IsItem a l.second k.before change no_more g k.some.rows k.changes change_solid (end_clash change change_solid) w3 k.some.took k.some.says in
    change_explains a k.before (λ v. g (k.changes ++ v.0, v.1)) fail w4 k.fails p

-- a commit's head, part after part
abbrev pub tail_item : List ℕ → Option ℕ → Option (List ℕ) → List ℕ → Option (List ℕ) → List ℕ → Option (At Commitish) × (List (At Commitish) × List (At Change)) → Item
tail_item name m author committer encoding message v = commit_item name (m, (author, (committer, (encoding, (message, v)))))

pub marked : (a b c : ReaderState) (at : ℕ) (name : List ℕ) (m : Option ℕ) → Took a b (line_at at (codes "commit " ++ name) ∷ []) → NamesRef name name → OptionalPart mark b c m → Within IsItem a c (optional oid ▸ optional author ▹ from_committer) (λ y. commit_item name (m, y))
marked a b c at name m t n p = step_optional IsItem a b c mark (optional oid ▸ optional author ▹ from_committer) (commit_item name) m mark_solid commit_mark (commit_begun a b at name t n) p

pub named : (a b c : ReaderState) (name : List ℕ) (m : Option ℕ) (f : Bool) → Within IsItem a b (optional oid ▸ optional author ▹ from_committer) (λ y. commit_item name (m, y)) → FoundPart oid b c f → Within IsItem a c (optional author ▹ from_committer) (λ y. commit_item name (m, y))
named a b c name m f w p = step_optional IsItem a b c oid (optional author ▹ from_committer) (λ v. commit_item name (m, v.1)) (found f) oid_solid commit_oid (step_skip IsItem a b (optional oid) (optional author ▹ from_committer) (λ y. commit_item name (m, y)) w) (found_part b c f p)

pub authored : (a b c : ReaderState) (name : List ℕ) (m : Option ℕ) (x : Option (List ℕ)) → Within IsItem a b (optional author ▹ from_committer) (λ y. commit_item name (m, y)) → OptionalPart author b c x → Within IsItem a c from_committer (λ y. commit_item name (m, (x, y)))
authored a b c name m x w p = step_optional IsItem a b c author from_committer (λ v. commit_item name (m, v)) x author_solid commit_author w p

pub committed : (a b c : ReaderState) (name : List ℕ) (m : Option ℕ) (x : Option (List ℕ)) (k : List ℕ) → Within IsItem a b from_committer (λ y. commit_item name (m, (x, y))) → Part committer b c k → Within IsItem a c (optional encoding ▹ from_data) (λ y. commit_item name (m, (x, (k, y))))
committed a b c name m x k w p = step_then IsItem a b c committer (optional encoding ▹ from_data) (λ v. commit_item name (m, (x, v))) k committer_solid w p

pub encoded : (a b c : ReaderState) (name : List ℕ) (m : Option ℕ) (x : Option (List ℕ)) (k : List ℕ) (n : Option (List ℕ)) → Within IsItem a b (optional encoding ▹ from_data) (λ y. commit_item name (m, (x, (k, y)))) → OptionalPart encoding b c n → Within IsItem a c from_data (λ y. commit_item name (m, (x, (k, (n, y)))))
encoded a b c name m x k n w p = step_optional IsItem a b c encoding from_data (λ v. commit_item name (m, (x, (k, v)))) n encoding_solid commit_encoding w p

pub at_tail : (a b c : ReaderState) (name : List ℕ) (m : Option ℕ) (x : Option (List ℕ)) (k : List ℕ) (n : Option (List ℕ)) (g : List ℕ) → Within IsItem a b from_data (λ y. commit_item name (m, (x, (k, (n, y))))) → Part contents b c g → Within IsItem a c after_data (tail_item name m x k n g)
at_tail a b c name m x k n g w p = step_then IsItem a b c contents after_data (λ v. commit_item name (m, (x, (k, (n, v))))) g contents_solid w p

wants_author : Wants (optional author ▹ from_committer)
wants_author = wants_optional author from_committer wants_committer

wants_oid : Wants (optional oid ▸ optional author ▹ from_committer)
wants_oid = wants_skip oid (optional author ▹ from_committer) wants_author

pub mark_fails : (a b : ReaderState) (at : ℕ) (name : List ℕ) (fail : ReadFail) → Took a b (line_at at (codes "commit " ++ name) ∷ []) → NamesRef name name → Stops b fail → (p : Bool) → Explains a p fail
mark_fails a b at name fail t n s p = stops_explain a b commit_after (commit_item name) fail (commit_begun a b at name t n) (wants_optional mark (optional oid ▸ optional author ▹ from_committer) wants_oid) s p

pub oid_fails : (a b : ReaderState) (name : List ℕ) (m : Option ℕ) (fail : ReadFail) → Within IsItem a b (optional oid ▸ optional author ▹ from_committer) (λ y. commit_item name (m, y)) → Stops b fail → (p : Bool) → Explains a p fail
oid_fails a b name m fail w s p = stops_explain a b (optional oid ▸ optional author ▹ from_committer) (λ y. commit_item name (m, y)) fail w wants_oid s p

pub author_fails : (a b : ReaderState) (name : List ℕ) (m : Option ℕ) (fail : ReadFail) → Within IsItem a b (optional author ▹ from_committer) (λ y. commit_item name (m, y)) → Stops b fail → (p : Bool) → Explains a p fail
author_fails a b name m fail w s p = stops_explain a b (optional author ▹ from_committer) (λ y. commit_item name (m, y)) fail w wants_author s p

pub encoding_fails : (a b : ReaderState) (name : List ℕ) (m : Option ℕ) (x : Option (List ℕ)) (k : List ℕ) (fail : ReadFail) → Within IsItem a b (optional encoding ▹ from_data) (λ y. commit_item name (m, (x, (k, y)))) → Stops b fail → (p : Bool) → Explains a p fail
encoding_fails a b name m x k fail w s p = stops_explain a b (optional encoding ▹ from_data) (λ y. commit_item name (m, (x, (k, y)))) fail w (wants_optional encoding from_data wants_data) s p

pub committer_fails : (a b : ReaderState) (name : List ℕ) (m : Option ℕ) (x : Option (List ℕ)) (fail : ReadFail) → Within IsItem a b from_committer (λ y. commit_item name (m, (x, y))) → PartFails committer b fail → (p : Bool) → Explains a p fail
committer_fails a b name m x fail w d = part_explains a b from_committer committer (λ y. commit_item name (m, (x, y))) fail w wants_committer (refuses_then committer (optional encoding ▹ from_data) committer_solid) d

pub message_fails : (a b : ReaderState) (name : List ℕ) (m : Option ℕ) (x : Option (List ℕ)) (k : List ℕ) (n : Option (List ℕ)) (fail : ReadFail) → Within IsItem a b from_data (λ y. commit_item name (m, (x, (k, (n, y))))) → DataFails b fail → (p : Bool) → Explains a p fail
message_fails a b name m x k n fail w d =
    data_explains a b from_data (λ y. commit_item name (m, (x, (k, (n, y))))) fail w wants_data (refuses_then contents after_data contents_solid) (λ q bytes next h. ((bytes, (None, ([], []))), (q ∷ [], [], refl, (q, next, refl, h), ([], [], refl, refl, ([], [], refl, refl, refl))))) d

pub commit_whole : (a b c : ReaderState) (name : List ℕ) (m : Option ℕ) (x : Option (List ℕ)) (k : List ℕ) (n : Option (List ℕ)) (g : List ℕ) (s : Start) (ms : List (At Commitish)) (cs : List (At Change)) → Within IsItem a b after_data (tail_item name m x k n g) → ReadsStart b c s ms cs → Reads IsCommand a c (Commit name m x k n g s ms cs)
commit_whole a b c name m x k n g s ms cs w r =
    commit_reads a b c r.0 ms cs (tail_item name m x k n g) (Commit name m x k n g s ms cs) (ap (λ (z : Start). Says (Commit name m x k n g z ms cs)) (sym r.1)) w r.2
