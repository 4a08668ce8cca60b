-- The texts of commands are items of a stream.
use Rattle.std.proofs.Common.{◌≡◌, inl, ℕ, ◌+◌, ◌≤◌, List, [], ◌∷◌, ◌++◌, length, Option, Some, None, refl, sym, ap, ◌∙◌, subst, arith, append_assoc, codes}
use Rattle.std.specs.Prelude.{IfSome}
use Rattle.std.proofs.lemmas.List.Elements.{filter_map-append}
use Rattle.std.proofs.lemmas.List.{append-nil}
use Rattle.swh_base.specs.Limits.{body_limit, tag_limit}
use Rattle.swh_base.specs.Text.{IsRef}
use Rattle.swh_revfmt.specs.Plain.{text_line, optional_line, IsPersonLine}
use Rattle.swh_fastwrite.specs.Text.{mark_line, data_text, marked_line, blob_text, tag_head, begin_text, tip_text, end_text}
use Rattle.swh_fastgrammar.specs.declared.command.At.{At}
use Rattle.swh_fastgrammar.specs.declared.command.Commitish.{Commitish}
use Rattle.swh_fastgrammar.specs.declared.command.Commitish.TheVariants.{Mark}
use Rattle.swh_fastgrammar.specs.declared.command.Start.{Start}
use Rattle.swh_fastgrammar.specs.declared.command.Start.TheVariants.{Absent, NoTip, Of}
use Rattle.swh_fastgrammar.specs.declared.command.Command.{Command}
use Rattle.swh_fastgrammar.specs.declared.command.Command.TheVariants.{Blob, Tag, Reset}
use Rattle.swh_fastgrammar.specs.Grammar.{◌▹◌, ◌▸◌, optional, many, line, contents, oid, mark as mark_part, nothing, zeros, from, target, Item, Says, Promise, Nothing, IsItem, command_of, commands_of}
use Rattle.swh_fastgrammar.specs.Word.{NamesRef, NamesTag, NamesPerson}
use Rattle.swh_roundtrip.proofs.Spelled.{Spells, spells_then, spells_skip, spells_some, spells_none, skips_none, spells_nil, spells_cons, spells_append, spells_as, spells_data}
use Rattle.swh_roundtrip.proofs.LineKinds.{IsMarkNumber, spells_mark, spells_word, spells_person, spells_ref, spells_tag_name, spells_from, spells_aim, spells_zeros}

-- The text is items with these commands, from this place on.
pub record SpellsCommands (at : ℕ) (text : List ℕ) (commands : List Command) : Type 0 where
  pub items : List Item
  pub spells : Spells (many IsItem) at text items
  pub these : commands ≡ commands_of items

pub no_commands : (at : ℕ) → SpellsCommands at [] []
no_commands at = record { items = []; spells = spells_nil IsItem at; these = refl }

pub commands_append : (at : ℕ) (a b : List ℕ) (cs ds : List Command) → SpellsCommands at a cs → SpellsCommands (at + length a) b ds → SpellsCommands at (a ++ b) (cs ++ ds)
commands_append at a b cs ds s t = record {
  items = s.items ++ t.items;
  spells = spells_append IsItem at a b s.items t.items s.spells t.spells;
  these = ap (λ (x : List Command). x ++ ds) s.these ∙ ap (λ (x : List Command). commands_of s.items ++ x) t.these ∙ sym (filter_map-append command_of s.items t.items);
}

pub commands_as : (at : ℕ) (a b : List ℕ) (cs : List Command) → a ≡ b → SpellsCommands at a cs → SpellsCommands at b cs
commands_as at a b cs e s = subst (λ (t : List ℕ). SpellsCommands at t cs) e s

one_item : (at : ℕ) (text : List ℕ) (i : Item) → Spells IsItem at text i → Spells (many IsItem) at text (i ∷ [])
one_item at text i s = spells_as (many IsItem) at (text ++ []) text (i ∷ []) (append-nil text) (spells_cons IsItem at text [] i [] s (spells_nil IsItem (at + length text)))

pub one_command : (at : ℕ) (text : List ℕ) (c : Command) → Spells IsItem at text (Says c) → SpellsCommands at text (c ∷ [])
one_command at text c s = record { items = Says c ∷ []; spells = one_item at text (Says c) s; these = refl }

-- an empty line, which says nothing
pub empty_line : (at : ℕ) → SpellsCommands at (10 ∷ []) []
empty_line at =
    let s = spells_word at [] refl (omega arith) refl refl (refl, refl, refl, refl, refl) (refl, refl, refl, refl) in
    record { items = Nothing ∷ []; spells = one_item at (10 ∷ []) Nothing (record { rows = s.rows; spelled = s.spelled; free = s.free; said = inl s.said }); these = refl }

-- the promise that `done` comes
pub promise_line : (at : ℕ) → SpellsCommands at (codes "feature done\n") []
promise_line at =
    let s = spells_word at (codes "feature done") refl (omega arith) refl refl (refl, refl, refl, refl, refl) (refl, refl, refl, refl) in
    record { items = Promise ∷ []; spells = one_item at (codes "feature done\n") Promise (record { rows = s.rows; spelled = s.spelled; free = s.free; said = s.said }); these = refl }

-- ## Contents

pub spells_blob : (at m : ℕ) (body : List ℕ) → IsMarkNumber m → length body ≤ body_limit → SpellsCommands at (blob_text m body) (Blob (Some m) body ∷ [])
spells_blob at m body h within =
    let here : ℕ = at + length (codes "blob\n") in
    let marked = spells_then (optional mark_part) (optional oid ▸ contents) here (mark_line m) (data_text body) (Some m) body
    (spells_some mark_part here (mark_line m) m (spells_mark here m h))
    (skips_none oid contents (here + length (mark_line m)) (data_text body) body (spells_data (here + length (mark_line m)) body within)) in
    let whole = spells_skip (line (codes "blob") nothing) (optional mark_part ▹ optional oid ▸ contents) at (codes "blob\n") (mark_line m ++ data_text body) tt (Some m, body)
    (spells_word at (codes "blob") refl (omega arith) refl refl (refl, refl, refl, refl, refl) (refl, refl, refl, refl)) marked in
    one_command at (blob_text m body) (Blob (Some m) body) (record { rows = whole.rows; spelled = whole.spelled; free = whole.free; said = whole.said })

-- ## Branches

reset_line : (at : ℕ) (branch : List ℕ) → IsRef branch → Spells (line (codes "reset ") NamesRef) at (text_line (codes "reset ") branch) branch
reset_line at branch h = spells_ref at (codes "reset ") branch (1, omega arith, refl) h (omega arith) refl refl refl (refl, refl, refl, refl)

spells_reset : (at : ℕ) (branch text : List ℕ) (start : Start) → IsRef branch → Spells target (at + length (text_line (codes "reset ") branch)) text start → SpellsCommands at (text_line (codes "reset ") branch ++ text) (Reset branch start ∷ [])
spells_reset at branch text start h t =
    let s = spells_then (line (codes "reset ") NamesRef) target at (text_line (codes "reset ") branch) text branch start (reset_line at branch h) t in
    one_command at (text_line (codes "reset ") branch ++ text) (Reset branch start) (record { rows = s.rows; spelled = s.spelled; free = s.free; said = s.said })

then_empty : (at : ℕ) (a b : List ℕ) (cs : List Command) → SpellsCommands at (a ++ b) cs → SpellsCommands at (a ++ (b ++ 10 ∷ [])) cs
then_empty at a b cs s =
    let t = commands_append at (a ++ b) (10 ∷ []) cs [] s (empty_line (at + length (a ++ b))) in
    let u : SpellsCommands at (a ++ (b ++ 10 ∷ [])) (cs ++ []) = commands_as at ((a ++ b) ++ 10 ∷ []) (a ++ (b ++ 10 ∷ [])) (cs ++ []) (append_assoc a b (10 ∷ [])) t in
    subst (SpellsCommands at (a ++ (b ++ 10 ∷ []))) (none_more cs) u
  where
    none_more : (ds : List Command) → ds ++ [] ≡ ds
    none_more [] = refl
    none_more (d ∷ ds) = ap (λ (x : List Command). d ∷ x) (none_more ds)

pub spells_begin : (at : ℕ) (branch : List ℕ) → IsRef branch → SpellsCommands at (begin_text branch) (Reset branch Absent ∷ [])
spells_begin at branch h = then_empty at (text_line (codes "reset ") branch) [] (Reset branch Absent ∷ []) (spells_reset at branch [] Absent h (record { rows = []; spelled = refl; free = tt; said = refl }))

-- a tip by its mark
pub record SpellsTip (at : ℕ) (text branch : List ℕ) (m : ℕ) : Type 0 where
  pub object : At Commitish
  pub named : object.it ≡ Mark m
  pub spells : SpellsCommands at text (Reset branch (Of object) ∷ [])

pub spells_tip : (at : ℕ) (branch : List ℕ) (m : ℕ) → IsRef branch → IsMarkNumber m → SpellsTip at (tip_text branch m) branch m
spells_tip at branch m h k =
    let here : ℕ = at + length (text_line (codes "reset ") branch) in
    let a : At Commitish = record { at = here; it = Mark m } in
    let s = spells_aim here m k in
    record {
      object = a;
      named = refl;
      spells = then_empty at (text_line (codes "reset ") branch) (marked_line (codes "from ") m) (Reset branch (Of a) ∷ [])
          (spells_reset at branch (marked_line (codes "from ") m) (Of a) h (record { rows = s.rows; spelled = s.spelled; free = s.free; said = s.said }));
    }

pub spells_end : (at : ℕ) (branch : List ℕ) → IsRef branch → SpellsCommands at (end_text branch) (Reset branch NoTip ∷ [])
spells_end at branch h =
    let s = spells_zeros (at + length (text_line (codes "reset ") branch)) in
    then_empty at (text_line (codes "reset ") branch) (text_line (codes "from ") zeros) (Reset branch NoTip ∷ [])
    (spells_reset at branch (text_line (codes "from ") zeros) NoTip h (record { rows = s.rows; spelled = s.spelled; free = s.free; said = s.said }))

-- ## Releases

-- a tag by the mark of its object
pub record SpellsTag (at : ℕ) (text name : List ℕ) (m object : ℕ) (tagger : Option (List ℕ)) (message : List ℕ) : Type 0 where
  pub aim : At Commitish
  pub named : aim.it ≡ Mark object
  pub spells : SpellsCommands at text (Tag name (Some m) aim tagger message ∷ [])

tagger_line : (at : ℕ) (tagger : Option (List ℕ)) → IfSome tagger (λ text. IsPersonLine (codes "tagger ") text) → Spells (optional (line (codes "tagger ") NamesPerson)) at (optional_line (codes "tagger ") tagger) tagger
tagger_line at None h = spells_none (line (codes "tagger ") NamesPerson) at
tagger_line at (Some text) h =
    spells_some (line (codes "tagger ") NamesPerson) at (text_line (codes "tagger ") text) text
    (spells_person at (codes "tagger ") text h refl refl refl (refl, refl, refl, refl, refl) (refl, refl, refl, refl))

tag_parts : (a b c d e : List ℕ) → a ++ (b ++ (c ++ (d ++ e))) ≡ (a ++ (b ++ (c ++ d))) ++ e
tag_parts a b c d e = simp append_assoc

pub spells_tag : (at : ℕ) (name : List ℕ) (m object : ℕ) (tagger : Option (List ℕ)) (message : List ℕ) → IsRef name → length name ≤ tag_limit → IsMarkNumber m → IsMarkNumber object → IfSome tagger (λ text. IsPersonLine (codes "tagger ") text) → length message ≤ body_limit
    → SpellsTag at (tag_head name m object tagger ++ data_text message) name m object tagger message
spells_tag at name m object tagger message h short k l g within =
    let one : List ℕ = text_line (codes "tag ") name in
    let two : List ℕ = mark_line m in
    let three : List ℕ = marked_line (codes "from ") object in
    let four : List ℕ = optional_line (codes "tagger ") tagger in
    let at_two : ℕ = at + length one in
    let at_three : ℕ = at_two + length two in
    let at_four : ℕ = at_three + length three in
    let a : At Commitish = record { at = at_three; it = Mark object } in
    let behind = spells_data (at_four + length four) message within in
    let fourth = spells_then (optional (line (codes "tagger ") NamesPerson)) contents at_four four (data_text message) tagger message (tagger_line at_four tagger g) behind in
    let third = spells_then from (optional oid ▸ optional (line (codes "tagger ") NamesPerson) ▹ contents) at_three three (four ++ data_text message) a (tagger, message) (spells_from at_three object l)
    (skips_none oid (optional (line (codes "tagger ") NamesPerson) ▹ contents) at_four (four ++ data_text message) (tagger, message) fourth) in
    let second = spells_then (optional mark_part) (from ▹ optional oid ▸ optional (line (codes "tagger ") NamesPerson) ▹ contents) at_two two (three ++ (four ++ data_text message)) (Some m) (a, (tagger, message))
    (spells_some mark_part at_two two m (spells_mark at_two m k)) third in
    let first = spells_then (line (codes "tag ") NamesTag) (optional mark_part ▹ from ▹ optional oid ▸ optional (line (codes "tagger ") NamesPerson) ▹ contents) at one (two ++ (three ++ (four ++ data_text message))) name (Some m, (a, (tagger, message)))
    (spells_tag_name at name h short) second in
    record {
      aim = a;
      named = refl;
      spells = commands_as at (one ++ (two ++ (three ++ (four ++ data_text message)))) (tag_head name m object tagger ++ data_text message) (Tag name (Some m) a tagger message ∷ []) (tag_parts one two three four (data_text message))
          (one_command at (one ++ (two ++ (three ++ (four ++ data_text message)))) (Tag name (Some m) a tagger message) (record { rows = first.rows; spelled = first.spelled; free = first.free; said = first.said }));
    }
