-- A folder with its listing, from its table to what it means.
use Rattle.std.proofs.Common.{◌≡◌, ◌⊎◌, inl, inr, ℕ, Some, List, [], ◌∷◌, Contains, refl, sym, ap, ◌∙◌, subst}
use Rattle.std.proofs.lemmas.List.{map-append}
use Rattle.std.proofs.lemmas.List.Elements.{Contains-push_cases}
use Rattle.swh_base.specs.declared.kind.Kind.{Kind}
use Rattle.swh_base.specs.declared.kind.Kind.TheVariants.{Snapshot}
use Rattle.swh_base.specs.declared.entry.Entry.{Entry}
use Rattle.swh_base.specs.declared.name.Name.{Name}
use Rattle.swh_base.specs.Snapshot.{IsSnapshot, snapshot_name}
use Rattle.swh_outside.specs.Folder.{Tree}
use Rattle.swh_model.specs.Meaning.{Made}
use Rattle.swh_dedup.specs.Giving.{AreNew}
use Rattle.swh_dedup.specs.Making.{made_from, made, name_of, names_of_made, object_of}
use Rattle.swh_dedup.specs.Whole.{names_of}
use Rattle.swh_dedup.proofs.Elements.{contains_map}
use Rattle.swh_dedup.proofs.Wholes.{same_names, new_whole}
use Rattle.swh_dirmade.specs.declared.member.Member.{Member}
use Rattle.swh_dirmade.specs.declared.member.Member.TheVariants as stands
use Rattle.swh_dirmade.specs.declared.spot.Spot.{Spot}
use Rattle.swh_dirmade.specs.Directories.{GivesDirectories}
use Rattle.swh_dirmade.specs.Giving.{GivesOne}
use Rattle.swh_dirmade.specs.Sizes as sizes
use Rattle.swh_dirmade.specs.Snapshots.{head, GivesSnapshot}
use Rattle.swh_dirmade.specs.Spots.{Places, IsTable}
use Rattle.swh_dirmade.proofs.Built.{grows, given_there}
use Rattle.swh_dirload.specs.declared.fault.DirFault.{DirFault}
use Rattle.swh_dirload.specs.declared.fault.DirFault.TheVariants.{OtherKind, BadModes, Limit, ReadFault, Memory}
use Rattle.swh_dirload.specs.Items.{Item}
use Rattle.swh_dirload.specs.Lines.{GoesOn, AreTaken, ExplainsLines}
use Rattle.swh_dirload.specs.Loading.{HasTable, ExplainsLength, IsLongAfter, MakesAll}
use Rattle.swh_dirload.specs.Meaning.{ReadsFolder, HasFolder, ReadsBoth, MeansFolder, ExplainsFolder}
use Rattle.swh_dirload.specs.Places.{places_of}
use Rattle.swh_dirload.specs.Reading.{ExplainsReading}
use Rattle.swh_dirload.specs.Root.{HasRoot}
use Rattle.swh_dirload.specs.Walk.{IsWalk, ExplainsWalk}
use Rattle.swh_dirload.proofs.Long.{kinds, all_short, first_long, root_stands}
use Rattle.swh_dirload.proofs.Onward.{same_on}

pub given_only : (old new : List Entry) (object : Entry) → GivesOne old object new → (m : Made) → Contains (made new) m → Contains (made old) m ⊎ (made_from object ≡ m)
given_only old new object (inl h) m c = inl (subst (λ (es : List Entry). Contains (made es) m) h.0 c)
given_only old new object (inr e) m c = Contains-push_cases (made old) (made_from object) m (subst (λ (ms : List Made). Contains ms m) (ap made e ∙ map-append made_from old (object ∷ [])) c)

module _ (id : Kind → List ℕ → List ℕ) where
  -- what the directories and the snapshot make
  pub makes_all : (places : Places) (old mid new : List Entry) (root own : List ℕ) → GivesDirectories id places old mid root → GivesSnapshot id root mid new own → MakesAll id places old new own
  makes_all places old mid new root own g s = record {
    entries = g.entries;
    directories = g.directories;
    body = s.body;
    is_snapshot = subst (λ (r : List ℕ). IsSnapshot s.body (head r ∷ [])) g.named s.is;
    named = s.named;
    each = λ m. (
      λ c. elim (given_only mid new s.object s.gives m c) [
        | inl d ↦ elim (((g.each m).0) d) [
          | inl o ↦ inl o
          | inr dir ↦ inr (inl dir)
        ]
        | inr e ↦ inr (inr (sym e ∙ s.made))
      ],
      λ c. elim c [
        | inl o ↦ grows mid new s.object s.gives m (((g.each m).1) (inl o))
        | inr more ↦ elim more [
          | inl dir ↦ grows mid new s.object s.gives m (((g.each m).1) (inr dir))
          | inr e ↦ subst (Contains (made new)) (s.made ∙ sym e) (given_there mid new s.object s.gives)
        ]
      ],
    );
  }

  -- the snapshot is among the objects
  pub has_snapshot : (mid new : List Entry) (root own : List ℕ) → AreNew id [] new → GivesSnapshot id root mid new own → Contains (names_of new) (snapshot_name own)
  has_snapshot mid new root own fresh s =
      let there : Contains (made new) (object_of Snapshot s.body) = subst (Contains (made new)) s.made (given_there mid new s.object s.gives) in
      let named : Contains (names_of_made id (made new)) (snapshot_name (id Snapshot s.body)) = contains_map (name_of id) (made new) (object_of Snapshot s.body) there in
      subst (λ (ns : List Name). Contains ns (snapshot_name own)) (same_names id new (new_whole id new fresh).each) (subst (λ (i : List ℕ). Contains (names_of_made id (made new)) (snapshot_name i)) (sym s.named) named)

  module _ (tree : Tree) where
    pub walk_breaks : (text : List ℕ) (fault : DirFault) → ExplainsWalk tree fault → ExplainsFolder id tree text fault
    walk_breaks text (OtherKind path) h = h
    walk_breaks text (BadModes line) h = absurd h
    walk_breaks text (Limit which number) h = inl (inl h)
    walk_breaks text ReadFault h = tt
    walk_breaks text Memory h = tt

    pub read_breaks : (text : List ℕ) (items : List Item) (fault : DirFault) → IsWalk tree items → ExplainsReading id tree [] items fault → ExplainsFolder id tree text fault
    read_breaks text items (OtherKind path) walk h = absurd h
    read_breaks text items (BadModes line) walk h = absurd h
    read_breaks text items (Limit which number) walk h = inl (inr (inl (record { items = items; walk = walk; stops = h })))
    read_breaks text items ReadFault walk h = tt
    read_breaks text items Memory walk h = tt

    module _ (spots : List Spot) (standing : List Member) (contents : List Entry) (table : IsTable spots) (has : HasTable id tree spots standing contents) where
      reads_of : ReadsFolder id tree has.items (places_of has.items standing) contents
      reads_of = record { found = standing; total = has.total; walk = has.walk; reads = has.reads; are = λ path. refl }

      pub length_breaks : (text : List ℕ) (fault : DirFault) → ExplainsLength spots standing fault → ExplainsFolder id tree text fault
      length_breaks text (OtherKind path) h = absurd h
      length_breaks text (BadModes line) h = absurd h
      length_breaks text (Limit which number) h = inl (inr (inr (
        h.0,
        record {
          items = has.items;
          places = places_of has.items standing;
          contents = contents;
          reads = reads_of;
          first = first_long has.items spots standing spots standing (places_of has.items standing) table has.stand has.paths has.count (kinds id tree 0 [] has.items standing has.total contents has.reads) (same_on spots standing) tree number has.walk h.1;
        },
      )))
      length_breaks text ReadFault h = tt
      length_breaks text Memory h = tt

      module _ (short : sizes.AreShort spots standing) where
        has_folder : HasFolder id tree has.items (places_of has.items standing) contents
        has_folder = record {
          reads = reads_of;
          short = all_short has.items spots standing spots standing (places_of has.items standing) table has.stand has.paths has.count (kinds id tree 0 [] has.items standing has.total contents has.reads) (same_on spots standing) short;
        }

        reads_both : (text : List ℕ) (spots_now : List Spot) (standing_now : List Member) → (taken : AreTaken (places_of has.items standing) text spots_now standing_now) → ReadsBoth id tree text has.items taken.places contents
        reads_both text spots_now standing_now taken = record { before = places_of has.items standing; folder = has_folder; said = taken.said; listing = taken.listing; takes = taken.takes }

        lines_break : (text : List ℕ) (fault : DirFault) → ExplainsLines (places_of has.items standing) text fault → ExplainsFolder id tree text fault
        lines_break text (OtherKind path) h = absurd h
        lines_break text (BadModes line) h = record { items = has.items; before = places_of has.items standing; contents = contents; folder = has_folder; breaks = h }
        lines_break text (Limit which number) h = inr (inl (record { items = has.items; before = places_of has.items standing; contents = contents; folder = has_folder; passes = h }))
        lines_break text ReadFault h = tt
        lines_break text Memory h = tt

        long_breaks : (text : List ℕ) (spots_now : List Spot) (standing_now : List Member) (fault : DirFault) → AreTaken (places_of has.items standing) text spots_now standing_now → GoesOn spots standing spots_now standing_now → IsTable spots_now → ExplainsLength spots_now standing_now fault → ExplainsFolder id tree text fault
        long_breaks text spots_now standing_now (OtherKind path) taken goes now h = absurd h
        long_breaks text spots_now standing_now (BadModes line) taken goes now h = absurd h
        long_breaks text spots_now standing_now (Limit which number) taken goes now h = inr (inr (
          h.0,
          record {
            items = has.items;
            places = taken.places;
            contents = contents;
            reads = reads_both text spots_now standing_now taken;
            first = first_long has.items spots standing spots_now standing_now taken.places now taken.stand has.paths has.count (kinds id tree 0 [] has.items standing has.total contents has.reads) goes tree number has.walk h.1;
          },
        ))
        long_breaks text spots_now standing_now ReadFault taken goes now h = tt
        long_breaks text spots_now standing_now Memory taken goes now h = tt

        pub listing_breaks : (text : List ℕ) (spots_now : List Spot) (standing_now : List Member) (fault : DirFault) → ExplainsLines (places_of has.items standing) text fault ⊎ IsLongAfter (places_of has.items standing) text spots standing spots_now standing_now fault → ExplainsFolder id tree text fault
        listing_breaks text spots_now standing_now fault (inl h) = lines_break text fault h
        listing_breaks text spots_now standing_now fault (inr h) = long_breaks text spots_now standing_now fault h.taken h.goes h.table h.long

        pub root_listed : (text : List ℕ) (spots_now : List Spot) (standing_now : List Member) → (taken : AreTaken (places_of has.items standing) text spots_now standing_now) → GoesOn spots standing spots_now standing_now → IsTable spots_now → taken.places [] ≡ Some stands.Folder
        root_listed text spots_now standing_now taken goes now = root_stands has.items spots standing spots_now standing_now taken.places now taken.stand has.paths has.count (kinds id tree 0 [] has.items standing has.total contents has.reads) goes tree has.walk.all

        pub means_listed : (text : List ℕ) (spots_now : List Spot) (standing_now : List Member) (objects : List Entry) (snapshot : List ℕ) → (taken : AreTaken (places_of has.items standing) text spots_now standing_now) → GoesOn spots standing spots_now standing_now → IsTable spots_now → sizes.AreShort spots_now standing_now → MakesAll id taken.places contents objects snapshot → AreNew id [] objects → MeansFolder id tree text objects snapshot
        means_listed text spots_now standing_now objects snapshot taken goes now fits makes fresh = record {
          items = has.items;
          places = taken.places;
          contents = contents;
          reads = reads_both text spots_now standing_now taken;
          short = all_short has.items spots standing spots_now standing_now taken.places now taken.stand has.paths has.count (kinds id tree 0 [] has.items standing has.total contents has.reads) goes fits;
          entries = makes.entries;
          directories = makes.directories;
          body = makes.body;
          is_snapshot = makes.is_snapshot;
          named = makes.named;
          each = makes.each;
          once = fresh;
        }

        -- the folder's own directory
        pub root_of : (text : List ℕ) (spots_now : List Spot) (standing_now : List Member) (mid : List Entry) (root : List ℕ) → (taken : AreTaken (places_of has.items standing) text spots_now standing_now) → GoesOn spots standing spots_now standing_now → IsTable spots_now → sizes.AreShort spots_now standing_now → GivesDirectories id taken.places contents mid root → HasRoot id tree text root
        root_of text spots_now standing_now mid root taken goes now fits gives = record {
          items = has.items;
          places = taken.places;
          contents = contents;
          reads = reads_both text spots_now standing_now taken;
          short = all_short has.items spots standing spots_now standing_now taken.places now taken.stand has.paths has.count (kinds id tree 0 [] has.items standing has.total contents has.reads) goes fits;
          entries = gives.entries;
          directories = gives.directories;
          named = gives.named;
        }

        -- no listing is one of no lines
        pub taken_none : AreTaken (places_of has.items standing) [] spots standing
        taken_none = record { said = []; listing = (0, (refl, refl)); places = places_of has.items standing; takes = λ path. refl; stand = has.stand }
