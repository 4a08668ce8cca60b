-- What the steps of reading refs find.
use Rattle.std.specs.Prelude.{◌≡◌, ◌≢◌, ◌↔◌, ◌⊎◌, ℕ, ◌+◌, ◌<◌, ◌≤◌, nat_lt, if◌then◌else◌, Option, Some, None, IsSome, List, [], ◌∷◌, ◌++◌, length, map, Contains}
use Rattle.std.specs.List.{AllByRecursion}
use Rattle.std.specs.Global.{Vec}
use Rattle.std.specs.Ordering.{nat_cmp}
use Rattle.std.specs.declared.cmp.Ordering.TheVariants.{Less}
use Rattle.std.specs.BTreeMap.{is_at}
use Rattle.std.specs.Map.{lookup}
use Rattle.std.specs.Cmp.Lexicographic.{slice_cmp}
use Rattle.swh_base.specs.declared.entry.Entry.{Entry}
use Rattle.swh_base.specs.declared.kind.Kind.{Kind}
use Rattle.swh_base.specs.declared.name.Name.{Name}
use Rattle.swh_base.specs.declared.visit.Which.TheVariants.{Body, Stream, Line}
use Rattle.swh_base.specs.Limits.{body_limit, line_limit}
use Rattle.swh_base.specs.Name.{IsId}
use Rattle.swh_base.specs.Snapshot.{snapshot_name}
use Rattle.swh_dedup.specs.Whole.{names_of, AreWhole}
use Rattle.swh_fastlex.specs.Line.{Held, unread}
use Rattle.swh_fastlex.specs.declared.fault.LineFault.{LineFault}
use Rattle.swh_fastlex.specs.declared.fault.LineFault.TheVariants.{Failed, End, Limit as Long, Memory as NoRoom}
use Rattle.swh_batchread.specs.declared.fault.BatchFault.{BatchFault}
use Rattle.swh_batchread.specs.declared.fault.BatchFault.TheVariants.{BadBatch, WrongName, BadRefs, NoObject, Limit, ReadFault, Memory}
use Rattle.swh_batchread.specs.declared.names.Known.{Known}
use Rattle.swh_batchread.specs.declared.names.Names.{Names}
use Rattle.swh_batchread.specs.declared.ref_line.RefIn.{RefIn}
use Rattle.swh_batchread.specs.declared.refs.Refs.{Refs}
use Rattle.swh_batchread.specs.Batch.{input_limit}
use Rattle.swh_batchread.specs.Refs.{RefLine, ref_line, ref_text, refs_text, refs_limit, ref_ids, kind_at, IsRefLine, IsNewRef, AreRefLines, kept_refs, counted_refs}
use Rattle.swh_batchread.specs.RefsFault.{IsFirstLacking, LacksKid, Lacks, kids_of}

-- what is found in a line
abbrev pub line_of : RefIn → RefLine
line_of r = record { id = r.id; name = r.name.now }

-- The line without its LF is an id, a space and a name, or it is none.
abbrev pub IsRefBefore : List ℕ → Option RefIn → Type 0
IsRefBefore line (Some r) = IsId r.id × (r.name.now ≢ []) × (Contains r.name.now 0 → ⊥) × (line ≡ ref_line (line_of r))
IsRefBefore line None = (r : RefLine) → IsRefLine r → line ≡ ref_line r → ⊥

-- The line, with its LF, is that of this ref, or of none.
abbrev pub IsRefIn : List ℕ → Option RefIn → Type 0
IsRefIn line (Some r) = IsRefLine (line_of r) × (line ≡ ref_text (line_of r))
IsRefIn line None = (r : RefLine) → IsRefLine r → line ≡ ref_text r → ⊥

-- a key and its value, as a ref
abbrev pub line_at : Vec ℕ × List ℕ → RefLine
line_at e = record { id = e.1; name = e.0.items }

-- No entry has this name.
abbrev pub HasNone : List (Vec ℕ × List ℕ) → List ℕ → Type 0
HasNone entries name = lookup (λ k. is_at (slice_cmp nat_cmp name) k.items) entries ≡ None

-- What is held of these lines: the refs among them, in their order and by their names, and how many of them count.
pub record Holds (rs : List RefLine) (refs : Refs) : Type 0 where
  pub ids : refs.ids.items ≡ ref_ids rs
  pub names : (r : RefLine) → Contains (map line_at refs.by_name.entries) r ↔ Contains (kept_refs rs) r
  pub counted : refs.counted ≡ length (counted_refs rs)
  pub few : length (counted_refs rs) ≤ refs_limit

-- A ref is added, and so many count.
pub record PutsRef (r : RefLine) (counted : ℕ) (old new : Refs) : Type 0 where
  pub ids : new.ids.items ≡ old.ids.items ++ r.id ∷ []
  pub names : (q : RefLine) → Contains (map line_at new.by_name.entries) q ↔ (Contains (map line_at old.by_name.entries) q ⊎ (r ≡ q))
  pub count : new.counted ≡ counted

-- A line is taken: it may follow those before it, but for the length of the whole, and it is held.
pub record TakesLine (rs : List RefLine) (line : List ℕ) (new : Refs) : Type 0 where
  pub ref : RefLine
  pub is : IsRefLine ref
  pub spelled : line ≡ ref_text ref
  pub fresh : IsNewRef rs ref
  pub held : Holds (rs ++ ref ∷ []) new

-- The text has been read up to here, line by line: these many lines but one, and this is held of them.
pub record HasLines (tells : Type 0) (text : List ℕ) (now : Held) (left_now : List ℕ) (number : ℕ) (refs : Refs) : Type 0 where
  pub lines : List RefLine
  pub are : AreRefLines lines
  pub held : Holds lines refs
  pub here : now.place ≡ length (refs_text lines)
  pub count : number ≡ length lines + 1
  pub cut : tells → text ≡ refs_text lines ++ unread now left_now

-- These are refs of some lines, which are the text's where it is told.
pub record GivesLines (tells : Type 0) (text : List ℕ) (refs : Refs) : Type 0 where
  pub lines : List RefLine
  pub are : AreRefLines lines
  pub held : Holds lines refs
  pub told : tells → text ≡ refs_text lines

-- what is told where no line of this number is given and this many bytes were given out
abbrev pub told : LineFault → ℕ → ℕ → BatchFault
told Failed place number = ReadFault
told End place number = if nat_lt input_limit place then Limit Stream (input_limit + 1) else BadRefs number
told Long place number = if nat_lt place input_limit then Limit Line (line_limit + 1) else Limit Stream (input_limit + 1)
told NoRoom place number = Memory

-- what an id leads to among these entries
abbrev pub kind_in : List (List ℕ × Kind) → List ℕ → Option Kind
kind_in entries id = lookup (is_at (slice_cmp nat_cmp id)) entries

-- An id leads somewhere among these entries.
abbrev pub HasIdIn : List (List ℕ × Kind) → List ℕ → Type 0
HasIdIn entries id = IsSome (kind_in entries id)

-- the first of two, where there is one, and else the second
abbrev pub either : Option Kind → Option Kind → Option Kind
either None other = other
either (Some kind) other = Some kind

-- The id of this name leads to its kind, unless it leads somewhere already.
abbrev pub LeadsFirst : Name → List (List ℕ × Kind) → List (List ℕ × Kind) → Type 0
LeadsFirst name old new = (id : List ℕ) → kind_in new id ≡ either (kind_in old id) (kind_at (name ∷ []) id)

-- These are the names, and each id leads to the kind of the first of them that has it.
pub record KnowsNames (names : List Name) (known : Names) : Type 0 where
  pub first : (id : List ℕ) → kind_in known.first.entries id ≡ kind_at names id
  pub all : (name : Name) → Contains known.all name ↔ Contains names name

-- what is known of objects: where each id leads, all names, and all children
pub record Knowing : Type 0 where
  pub first : List (List ℕ × Kind)
  pub all : List Name
  pub kids : List Name

abbrev pub knowing : Known → Knowing
knowing known = record { first = known.names.first.entries; all = known.names.all; kids = known.kids.items }

-- These are the objects: each id leads to the kind of the first of them that has it, and their names are known, and their children
-- in the order of the objects.
pub record KnowsObjects (objects : List Entry) (k : Knowing) : Type 0 where
  pub first : (id : List ℕ) → kind_in k.first id ≡ kind_at (names_of objects) id
  pub all : (name : Name) → Contains k.all name ↔ Contains (names_of objects) name
  pub kids : k.kids ≡ kids_of objects

-- The first id that no object has, among those of the refs and then of the children.
abbrev pub LacksIn : Names → List (List ℕ) → List Entry → List ℕ → Type 0
LacksIn known ids objects id = IsFirstLacking (HasIdIn known.first.entries) ids id ⊎ (AllByRecursion (HasIdIn known.first.entries) ids × LacksKid known.all objects id)

-- Some id is named, and none of these names has it.
abbrev pub LacksSome : List Name → List (List ℕ) → List Entry → BatchFault → Type 0
LacksSome names ids objects (NoObject id) = Lacks names ids objects id
LacksSome names ids objects (BadBatch at) = ⊥
LacksSome names ids objects (WrongName given got) = ⊥
LacksSome names ids objects (BadRefs line) = ⊥
LacksSome names ids objects (Limit which number) = ⊥
LacksSome names ids objects ReadFault = ⊥
LacksSome names ids objects Memory = ⊥

-- The snapshot is longer than a body may be.
abbrev pub PassesBody : List ℕ → BatchFault → Type 0
PassesBody body (Limit which number) = (which ≡ Body) × (number ≡ length body) × (body_limit < number)
PassesBody body (BadBatch at) = ⊥
PassesBody body (WrongName given got) = ⊥
PassesBody body (BadRefs line) = ⊥
PassesBody body (NoObject id) = ⊥
PassesBody body ReadFault = ⊥
PassesBody body Memory = ⊥

-- These are refs of some lines.
pub record AreHeld (refs : Refs) : Type 0 where
  pub lines : List RefLine
  pub are : AreRefLines lines
  pub held : Holds lines refs

-- The names of these strictly ascend.
abbrev pub Ascend : List RefLine → Type 0
Ascend [] = Unit {0}
Ascend (r ∷ rs) = AllByRecursion (λ q. slice_cmp nat_cmp r.name q.name ≡ Less) rs × Ascend rs

-- The objects have all of their children, and the snapshot of this id is one of them.
pub record IsWholeWith (id : Kind → List ℕ → List ℕ) (objects : List Entry) (snapshot : List ℕ) : Type 0 where
  pub whole : AreWhole id objects
  pub root : Contains (names_of objects) (snapshot_name snapshot)
