-- The files of a folder, read in the order of its walk: their contents, and what stands at each place.
use Rattle.std.specs.Prelude.{◌≡◌, ◌<◌, ◌≤◌, ◌+◌, ℕ, List, [], ◌∷◌, ◌++◌, length, Some}
use Rattle.swh_base.specs.declared.kind.Kind.{Kind}
use Rattle.swh_base.specs.declared.kind.Kind.TheVariants.{Content}
use Rattle.swh_base.specs.declared.entry.Entry.{Entry}
use Rattle.swh_base.specs.declared.visit.Which.{Which}
use Rattle.swh_base.specs.declared.visit.Which.TheVariants.{Body, Objects, Bytes, Store, Ledger, Stream, Line, Path, Ref, Refs}
use Rattle.swh_base.specs.Limits.{body_limit}
use Rattle.swh_outside.specs.Folder.{Tree, bytes_at}
use Rattle.swh_outside.specs.declared.folder.What.{What}
use Rattle.swh_outside.specs.declared.folder.What.TheVariants.{File, Folder, Other}
use Rattle.swh_model.specs.Meaning.{content}
use Rattle.swh_dedup.specs.Making.{made_from}
use Rattle.swh_dirload.specs.declared.fault.DirFault.{DirFault}
use Rattle.swh_dirload.specs.declared.fault.DirFault.TheVariants.{OtherKind, BadModes, Limit, ReadFault, Memory}
use Rattle.swh_dirload.specs.declared.limits.TheConstants.{FILES_LIMIT}
use Rattle.swh_dirmade.specs.declared.member.Member.{Member}
use Rattle.swh_dirmade.specs.declared.member.Member.TheVariants as stands
use Rattle.swh_dirload.specs.Files.{IsTooLong}
use Rattle.swh_dirmade.specs.Giving.{GivesOne}
use Rattle.swh_dirload.specs.Items.{Item}

-- the content of these bytes is given
abbrev pub GivesContent : List Entry → List ℕ → List Entry → Type 0
GivesContent old bytes new = (object : Entry) × (made_from object ≡ content bytes) × GivesOne old object new

-- At this path stands a file of these bytes, which are no more than a body may have.
pub record HasFile (tree : Tree) (path bytes : List ℕ) : Type 0 where
  pub are : bytes_at tree path ≡ Some bytes
  pub short : length bytes ≤ body_limit

module _ (id : Kind → List ℕ → List ℕ) (tree : Tree) where
  -- What is read of an item: so many bytes, whose content is given.
  abbrev pub IsRead : List ℕ → What → ℕ → List Entry → Member → List Entry → Type 0
  IsRead path File count old place new = (bytes : List ℕ) × HasFile tree path bytes × (length bytes ≡ count) × (place ≡ stands.File 100644 (id Content bytes)) × GivesContent old bytes new
  IsRead path Folder count old place new = (count ≡ 0) × (place ≡ stands.Folder) × (new ≡ old)
  IsRead path Other count old place new = ⊥

  -- The items are read, one after another, where so many bytes were read before.
  abbrev pub ReadsAll : ℕ → List Entry → List Item → List Member → ℕ → List Entry → Type 0
  ReadsAll at old [] [] now new = (at ≡ now) × (old ≡ new)
  ReadsAll at old [] (place ∷ places) now new = ⊥
  ReadsAll at old (item ∷ items) [] now new = ⊥
  ReadsAll at old (item ∷ items) (place ∷ places) now new = (count : ℕ) × (next : List Entry) × IsRead item.0 item.1 count old place next × (at + count ≤ FILES_LIMIT) × ReadsAll (at + count) next items places now new

  -- The limit that an item passes, where so many bytes were read before.
  abbrev pub PassesAt : ℕ → List ℕ → Which → ℕ → Type 0
  PassesAt at path Body number = (number ≡ body_limit + 1) × IsTooLong tree path
  PassesAt at path Objects number = ⊥
  PassesAt at path Bytes number = ⊥
  PassesAt at path Store number = ⊥
  PassesAt at path Ledger number = ⊥
  PassesAt at path Stream number = (number ≡ FILES_LIMIT + 1) × ((bytes : List ℕ) × HasFile tree path bytes × (FILES_LIMIT < at + length bytes))
  PassesAt at path Line number = ⊥
  PassesAt at path Path number = ⊥
  PassesAt at path Ref number = ⊥
  PassesAt at path Refs number = ⊥

  -- Why an item is not read. Of a folder that fails and of want of memory nothing is said.
  abbrev pub ExplainsRead : ℕ → List ℕ → What → DirFault → Type 0
  ExplainsRead at path what (OtherKind other) = ⊥
  ExplainsRead at path what (BadModes line) = ⊥
  ExplainsRead at path what (Limit which number) = (what ≡ File) × PassesAt at path which number
  ExplainsRead at path what ReadFault = Unit {0}
  ExplainsRead at path what Memory = Unit {0}

  -- The reading of these items comes to one that passes this limit.
  pub record StopsAt (old : List Entry) (items : List Item) (fault : DirFault) : Type 0 where
    pub before : List Item
    pub path : List ℕ
    pub kind : What
    pub rest : List Item
    pub cut : items ≡ before ++ (path, kind) ∷ rest
    pub places : List Member
    pub at : ℕ
    pub given : List Entry
    pub reads : ReadsAll 0 old before places at given
    pub breaks : ExplainsRead at path kind fault

  -- Why the items are not read: the first that passes a limit. Of a folder that fails and of want of memory nothing is said.
  abbrev pub ExplainsReading : List Entry → List Item → DirFault → Type 0
  ExplainsReading old items (OtherKind other) = ⊥
  ExplainsReading old items (BadModes line) = ⊥
  ExplainsReading old items (Limit which number) = StopsAt old items (Limit which number)
  ExplainsReading old items ReadFault = Unit {0}
  ExplainsReading old items Memory = Unit {0}
