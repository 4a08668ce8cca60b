-- A folder with its listing means one snapshot at most, breaks in one way at most, and does not do both.
use Rattle.std.proofs.Common.{◌≡◌, ◌⊎◌, inl, inr, ℕ, ◌<◌, ◌≤◌, Bool, cond, Some, List, [], ◌∷◌, ◌++◌, length, Contains, refl, sym, ap, ◌∙◌, subst, arith}
use Rattle.std.specs.Prelude.{◌↔◌}
use Rattle.std.proofs.lemmas.Slice.Eq.{bytes_eq-Decides}
use Rattle.swh_base.specs.declared.kind.Kind.{Kind}
use Rattle.swh_base.specs.declared.kind.Kind.TheVariants.{Snapshot}
use Rattle.swh_base.specs.declared.entry.Entry.{Entry}
use Rattle.swh_base.specs.declared.visit.Which.{Which}
use Rattle.swh_base.specs.declared.visit.Which.TheVariants.{Body, Path}
use Rattle.swh_base.specs.Limits.{body_limit, path_limit}
use Rattle.swh_base.specs.Directory.{DirectoryEntry, directory_text}
use Rattle.swh_base.specs.Snapshot.{IsSnapshot, snapshot_text}
use Rattle.swh_outside.specs.Folder.{Tree}
use Rattle.swh_outside.specs.declared.folder.What.{What}
use Rattle.swh_outside.specs.declared.folder.What.TheVariants as item
use Rattle.swh_model.specs.Meaning.{Made, directory}
use Rattle.swh_dedup.specs.Making.{made, object_of}
use Rattle.swh_listing.specs.declared.fault.ListingFault.{ListingFault}
use Rattle.swh_listing.specs.declared.fault.ListingFault.TheVariants as listing
use Rattle.swh_listing.specs.declared.listed.Listed.{Listed}
use Rattle.swh_listing.specs.Listing.{Reads}
use Rattle.swh_listing.specs.Fault.{NextBreaks}
use Rattle.swh_listing.proofs.Faults.{one_listing}
use Rattle.swh_dirmade.specs.declared.member.Member.{Member}
use Rattle.swh_dirmade.specs.declared.member.Member.TheVariants as stands
use Rattle.swh_dirmade.specs.Spots.{Places}
use Rattle.swh_dirmade.specs.Directories.{IsDirectoryOf, HasSize, directory_id}
use Rattle.swh_dirmade.specs.Snapshots.{head}
use Rattle.swh_dirload.specs.declared.fault.DirFault.{DirFault}
use Rattle.swh_dirload.specs.declared.fault.DirFault.TheVariants.{OtherKind, BadModes, Limit, ReadFault, Memory}
use Rattle.swh_dirload.specs.Faults.{listing_fault}
use Rattle.swh_dirload.specs.Items.{Item, Fits}
use Rattle.swh_dirload.specs.Lines.{BreaksAfter}
use Rattle.swh_dirload.specs.Meaning.{AreShort, IsFirstLong, ReadsFolder, HasFolder, ReadsBoth, MeansFolder, HasLong, BreaksAt, HasLongListed, BreaksFolder}
use Rattle.swh_dirload.specs.Places.{places_of, MayTake, TakesAll}
use Rattle.swh_dirload.specs.Reading.{IsRead, ReadsAll, StopsAt}
use Rattle.swh_dirload.specs.Root.{HasRoot}
use Rattle.swh_dirload.specs.Walk.{root, Takes, IsWalk, ComesTo}
use Rattle.swh_dirload.proofs.OneWalk.{one_walk, comes_to_none, comes_to_one}
use Rattle.swh_dirload.proofs.OneReading.{Cuts, two_cuts, same_reading, same_contents, reads_or_stops}
use Rattle.swh_dirload.proofs.OneReading.Cuts.{Same, Second, First}
use Rattle.swh_dirload.proofs.OneReading as reading
use Rattle.swh_dirload.proofs.OneSize.{one_size}
use Rattle.swh_dirload.proofs.OneTaking.{AreSame, one_taking}
use Rattle.swh_dirload.proofs.OneStop.{Stops, Way, IsOwn, taken_or_stops, one_stop}
use Rattle.swh_dirload.proofs.OneDirectory.{was_folder, stays_folder, short_path, one_directory}

-- ## Sizes

short_at : (places : Places) (before : List Item) (dir : List ℕ) (rest : List Item) → AreShort places (before ++ (dir, item.Folder) ∷ rest) → (size : ℕ) × HasSize places dir size × (size ≤ body_limit)
short_at places [] dir rest h = h.0 refl
short_at places (b ∷ before) dir rest h = short_at places before dir rest h.1

not_short : (places others : Places) (before : List Item) (dir : List ℕ) (rest all : List Item) (size : ℕ) → AreSame places others → all ≡ before ++ (dir, item.Folder) ∷ rest → AreShort others all → HasSize places dir size → body_limit < size → ⊥
not_short places others before dir rest all size same cut short is long =
    let h = short_at others before dir rest (subst (AreShort others) cut short) in
    let e = one_size places others dir size h.0 same is h.1 in
    let le = h.2 in
    omega (arith, e, le, long)

-- where no directory is too long, none is the first
long_or_short : (places others : Places) (items : List Item) (size : ℕ) → AreSame places others → IsFirstLong places items size → AreShort others items → ⊥
long_or_short places others items size same f short = not_short places others f.before f.dir f.rest items size same f.cut short f.is f.long

one_long : (places others : Places) (items : List Item) (a b : ℕ) → AreSame places others → IsFirstLong places items a → IsFirstLong others items b → a ≡ b
one_long places others items a b same f g = by_cuts (two_cuts f.before g.before (f.dir, item.Folder) (g.dir, item.Folder) f.rest g.rest (sym f.cut ∙ g.cut))
  where
    by_cuts : Cuts f.before g.before (f.dir, item.Folder) (g.dir, item.Folder) → a ≡ b
    by_cuts (Same e x) = one_size places others g.dir a b same (subst (λ (d : List ℕ). HasSize places d a) (ap (λ (i : Item). i.0) x) f.is) g.is
    by_cuts (Second more e) = absurd (not_short places others f.before f.dir more g.before a same e g.short f.is f.long)
    by_cuts (First more e) = absurd (not_short others places g.before g.dir more f.before b (λ path. sym (same path)) e f.short g.is g.long)

module _ (id : Kind → List ℕ → List ℕ) (tree : Tree) where
  -- ## What stands in the folder

  one_found : (items : List Item) (places others : Places) (a b : List Entry) → ReadsFolder id tree items places a → ReadsFolder id tree items others b → AreSame places others
  one_found items places others a b h k path =
      h.are path ∙ ap (λ (found : List Member). places_of items found path) (same_reading id tree 0 [] [] items h.found k.found h.total k.total a b h.reads k.reads).0 ∙ sym (k.are path)

  moved : (items others : List Item) (places : Places) (contents : List Entry) → items ≡ others → ReadsFolder id tree items places contents → ReadsFolder id tree others places contents
  moved items others places contents e h = subst (λ (xs : List Item). ReadsFolder id tree xs places contents) e h

  -- two readings of the folder have the same items and places
  same_folder : (items others : List Item) (places stood : Places) (a b : List Entry) → ReadsFolder id tree items places a → ReadsFolder id tree others stood b → (items ≡ others) × AreSame places stood
  same_folder items others places stood a b h k =
      let e = one_walk tree items others h.walk k.walk in
      (e, one_found others places stood a b (moved items others places a e h) k)

  same_contents_of : (items others : List Item) (places stood : Places) (a b : List Entry) → ReadsFolder id tree items places a → ReadsFolder id tree others stood b → (m : Made) → Contains (made a) m → Contains (made b) m
  same_contents_of items others places stood a b h k m c =
      let e = one_walk tree items others h.walk k.walk in
      let r = moved items others places a e h in
      same_contents id tree 0 0 [] [] others r.found k.found r.total k.total a b (λ n d. d) r.reads k.reads m c

  -- the same with the listing
  same_listed : (text : List ℕ) (items others : List Item) (places stood : Places) (a b : List Entry) → ReadsBoth id tree text items places a → ReadsBoth id tree text others stood b → AreSame places stood
  same_listed text items others places stood a b h k =
      let f = same_folder items others h.before k.before a b h.folder.reads k.folder.reads in
      let said = one_listing text h.said k.said h.listing k.listing in
      one_taking h.before k.before k.said places stood f.1 (subst (λ (ls : List Listed). TakesAll h.before ls places) said h.takes) k.takes

  -- ## One meaning

  -- the folder itself stands at the empty path
  root_found : (items : List Item) (found : List Member) (now : ℕ) (new : List Entry) → Takes tree (root ∷ []) items [] → ReadsAll id tree 0 [] items found now new → places_of items found [] ≡ Some stands.Folder
  root_found [] found now new takes h = absurd (cc)
  root_found (i ∷ items) [] now new takes h = absurd h
  root_found (i ∷ items) (p ∷ found) now new takes h =
      let t = takes.2 in
      let e : root ≡ i = cc in
      let here : p ≡ stands.Folder = (subst (λ (x : Item). IsRead id tree x.0 x.1 h.0 [] p h.1) (sym e) h.2).1 in
      ap (λ (b : Bool). cond b (Some p) (places_of items found [])) ((bytes_eq-Decides [] i.0).1 (ap (λ (x : Item). x.0) e)) ∙ ap (λ (q : Member). Some q) here

  root_folder : (text : List ℕ) (items : List Item) (places : Places) (contents : List Entry) → ReadsBoth id tree text items places contents → places [] ≡ Some stands.Folder
  root_folder text items places contents h =
      let f = h.folder.reads in
      stays_folder h.before places h.said [] h.takes (f.are [] ∙ root_found items f.found f.total contents f.walk.all f.reads)

  -- no folder's path is too long
  short_folders : (text : List ℕ) (items : List Item) (places : Places) (contents : List Entry) → ReadsBoth id tree text items places contents → (dir : List ℕ) → places dir ≡ Some stands.Folder → length dir ≤ path_limit
  short_folders text items places contents h dir is =
      let f = h.folder.reads in
      short_path items f.found dir stands.Folder f.walk.fit (sym (f.are dir) ∙ was_folder h.before places h.said dir h.takes is)

  one_body : (a b : List ℕ) (x y : List ℕ) → x ≡ y → IsSnapshot a (head x ∷ []) → IsSnapshot b (head y ∷ []) → a ≡ b
  one_body a b x y e h k = h.text ∙ ap (λ (r : List ℕ). snapshot_text (head r ∷ [])) e ∙ sym k.text

  module _ (text : List ℕ) (objects others : List Entry) (snapshot other : List ℕ) (a : MeansFolder id tree text objects snapshot) (b : MeansFolder id tree text others other) where
    stand : AreSame a.places b.places
    stand = same_listed text a.items b.items a.places b.places a.contents b.contents a.reads b.reads

    directories_are : (dir : List ℕ) → a.places dir ≡ Some stands.Folder → a.entries dir ≡ b.entries dir
    directories_are = one_directory id a.places b.places a.entries b.entries stand (short_folders text a.items a.places a.contents a.reads) a.directories b.directories

    body_is : a.body ≡ b.body
    body_is = one_body a.body b.body (directory_id id (a.entries [])) (directory_id id (b.entries [])) (ap (directory_id id) (directories_are [] (root_folder text a.items a.places a.contents a.reads))) a.is_snapshot b.is_snapshot

    pub one_snapshot : snapshot ≡ other
    one_snapshot = a.named ∙ ap (id Snapshot) body_is ∙ sym b.named

    is_directory : (m : Made) → IsDirectoryOf id a.places a.entries m → IsDirectoryOf id b.places b.entries m
    is_directory m h = record { dir = h.dir; folder = sym (stand h.dir) ∙ h.folder; is = h.is ∙ ap (λ (es : List DirectoryEntry). directory (directory_text es)) (directories_are h.dir h.folder) }

    pub all_made : (m : Made) → Contains (made objects) m → Contains (made others) m
    all_made m c = ((b.each m).1) (elim (((a.each m).0) c) [
      | inl o ↦ inl (same_contents_of a.items b.items a.reads.before b.reads.before a.contents b.contents a.reads.folder.reads b.reads.folder.reads m o)
      | inr more ↦ elim more [
        | inl d ↦ inr (inl (is_directory m d))
        | inr s ↦ inr (inr (s ∙ ap (object_of Snapshot) body_is))
      ]
    ])

  pub one_meaning : (text : List ℕ) (objects others : List Entry) (snapshot other : List ℕ) → MeansFolder id tree text objects snapshot → MeansFolder id tree text others other → (snapshot ≡ other) × ((m : Made) → Contains (made objects) m ↔ Contains (made others) m)
  one_meaning text objects others snapshot other a b =
      (one_snapshot text objects others snapshot other a b, λ m. (all_made text objects others snapshot other a b m, all_made text others objects other snapshot b a m))

  -- ## One way to break

  -- How an item that may not stand in a folder is told.
  abbrev IsToldAs : List ℕ → DirFault → Type 0
  IsToldAs path fault = ((path_limit < length path) × (fault ≡ Limit Path (length path))) ⊎ ((length path ≤ path_limit) × (fault ≡ OtherKind path))

  -- The ways in which a folder with its listing breaks, in their order.
  data Form (text : List ℕ) (fault : DirFault) : Type 0 where
    AtItem : (path : List ℕ) (what : What) → ComesTo tree path what → (Fits path what → ⊥) → IsToldAs path fault → Form text fault
    AtFile : (items : List Item) (which : Which) (number : ℕ) → IsWalk tree items → StopsAt id tree [] items (Limit which number) → fault ≡ Limit which number → Form text fault
    AtDirectory : (size : ℕ) → HasLong id tree size → fault ≡ Limit Body size → Form text fault
    AtLine : (items : List Item) (before : Places) (contents : List Entry) (own : ListingFault) → HasFolder id tree items before contents → IsOwn own → Stops before text own → fault ≡ listing_fault own → Form text fault
    AtListed : (size : ℕ) → HasLongListed id tree text size → fault ≡ Limit Body size → Form text fault

  limit_is : (which other : Which) (m n : ℕ) → which ≡ other → m ≡ n → Limit which m ≡ Limit other n
  limit_is which other m n e f = ap (λ (w : Which). Limit w m) e ∙ ap (Limit other) f

  form_of_line : (text : List ℕ) (line : ℕ) → BreaksAt id tree text line → Form text (BadModes line)
  form_of_line text line h =
      let b = h.breaks in
      AtLine h.items h.before h.contents (listing.BadModes line) h.folder tt (record { said = b.said; here = b.here; rest = b.rest; reads = b.reads; places = b.places; takes = b.takes; breaks = way b }) refl
    where
      way : (b : BreaksAfter h.before text line) → Way b.places b.said b.here b.rest (listing.BadModes line)
      way b = by_sum b.breaks
        where
          by_sum : NextBreaks b.here b.rest line (listing.BadModes line) ⊎ ((listed : Listed) × (more : List ℕ) × (now : ℕ) × Reads b.here b.rest (listed ∷ []) now more × (MayTake b.places listed.mode listed.path → ⊥)) → Way b.places b.said b.here b.rest (listing.BadModes line)
          by_sum (inl n) = inl (subst (λ (k : ℕ). NextBreaks b.here b.rest k (listing.BadModes line)) b.number n)
          by_sum (inr n) = inr (ap listing.BadModes b.number, n)

  form_of : (text : List ℕ) (fault : DirFault) → BreaksFolder id tree text fault → Form text fault
  form_of text (OtherKind path) h = AtItem path item.Other h.0 (λ fits. fits.0 refl) (inr (h.1, refl))
  form_of text (BadModes line) h = form_of_line text line h
  form_of text (Limit which number) (inl (inl h)) =
      let e = h.3 in
      let n = e.1 in
      let long = e.2 in
      AtItem h.0 h.1 h.2 (λ fits. let le = fits.1 in omega (arith, le, long, n)) (inl (omega (arith, long, n), limit_is which Path number (length h.0) e.0 n))
  form_of text (Limit which number) (inl (inr (inl h))) = AtFile h.items which number h.walk h.stops refl
  form_of text (Limit which number) (inl (inr (inr h))) = AtDirectory number h.1 (ap (λ (w : Which). Limit w number) h.0)
  form_of text (Limit which number) (inr (inl h)) =
      let p = h.passes in
      AtLine h.items h.before h.contents (listing.Limit which number) h.folder tt (record { said = p.said; here = p.here; rest = p.rest; reads = p.reads; places = p.places; takes = p.takes; breaks = inl p.breaks }) refl
  form_of text (Limit which number) (inr (inr h)) = AtListed number h.1 (ap (λ (w : Which). Limit w number) h.0)
  form_of text ReadFault h = absurd h
  form_of text Memory h = absurd h

  -- ## Each way leaves no other

  file_not : (items others : List Item) (which : Which) (number : ℕ) (places : Places) (contents : List Entry) → IsWalk tree items → StopsAt id tree [] items (Limit which number) → ReadsFolder id tree others places contents → ⊥
  file_not items others which number places contents walk stops reads =
      let e = one_walk tree items others walk reads.walk in
      reads_or_stops id tree others reads.found reads.total contents which number reads.reads (subst (λ (xs : List Item). StopsAt id tree [] xs (Limit which number)) e stops)

  directory_not : (size : ℕ) (items : List Item) (places : Places) (contents : List Entry) → HasLong id tree size → HasFolder id tree items places contents → ⊥
  directory_not size items places contents h folder =
      let f = same_folder h.items items h.places places h.contents contents h.reads folder.reads in
      long_or_short h.places places items size f.1 (subst (λ (xs : List Item). IsFirstLong h.places xs size) f.0 h.first) folder.short

  line_not : (text : List ℕ) (items others : List Item) (before places : Places) (a b : List Entry) (own : ListingFault) → HasFolder id tree items before a → IsOwn own → Stops before text own → ReadsBoth id tree text others places b → ⊥
  line_not text items others before places a b own folder is stops both =
      let f = same_folder items others before both.before a b folder.reads both.folder.reads in
      taken_or_stops before both.before text own both.said places f.1 is stops both.listing both.takes

  listed_not : (text : List ℕ) (size : ℕ) (items : List Item) (places : Places) (contents : List Entry) → HasLongListed id tree text size → ReadsBoth id tree text items places contents → AreShort places items → ⊥
  listed_not text size items places contents h both short =
      let f = same_folder h.items items h.reads.before both.before h.contents contents h.reads.folder.reads both.folder.reads in
      let stand = same_listed text h.items items h.places places h.contents contents h.reads both in
      long_or_short h.places places items size stand (subst (λ (xs : List Item). IsFirstLong h.places xs size) f.0 h.first) short

  two_items : (path other : List ℕ) (what kind : What) (f g : DirFault) → (Fits path what → ⊥) → (Fits other kind → ⊥) → ComesTo tree path what → ComesTo tree other kind → IsToldAs path f → IsToldAs other g → f ≡ g
  two_items path other what kind f g unfit misfit a b = by_told
    where
      same : path ≡ other
      same = (comes_to_one tree path other what kind unfit misfit a b).0

      by_told : IsToldAs path f → IsToldAs other g → f ≡ g
      by_told (inl x) (inl y) = x.1 ∙ ap (λ (p : List ℕ). Limit Path (length p)) same ∙ sym y.1
      by_told (inl x) (inr y) = let long = x.0 in let short = y.0 in let n = ap length same in absurd (omega (arith, long, short, n))
      by_told (inr x) (inl y) = let short = x.0 in let long = y.0 in let n = ap length same in absurd (omega (arith, long, short, n))
      by_told (inr x) (inr y) = x.1 ∙ ap OtherKind same ∙ sym y.1

  two_files : (items others : List Item) (which other : Which) (m n : ℕ) → IsWalk tree items → IsWalk tree others → StopsAt id tree [] items (Limit which m) → StopsAt id tree [] others (Limit other n) → Limit which m ≡ Limit other n
  two_files items others which other m n walk walked s t =
      let e = one_walk tree items others walk walked in
      reading.one_stop id tree others which other m n (subst (λ (xs : List Item). StopsAt id tree [] xs (Limit which m)) e s) t

  two_directories : (a b : ℕ) → HasLong id tree a → HasLong id tree b → Limit Body a ≡ Limit Body b
  two_directories a b h k =
      let f = same_folder h.items k.items h.places k.places h.contents k.contents h.reads k.reads in
      ap (Limit Body) (one_long h.places k.places k.items a b f.1 (subst (λ (xs : List Item). IsFirstLong h.places xs a) f.0 h.first) k.first)

  two_lines : (text : List ℕ) (items others : List Item) (before stood : Places) (a b : List Entry) (own other : ListingFault) → HasFolder id tree items before a → HasFolder id tree others stood b → IsOwn own → IsOwn other → Stops before text own → Stops stood text other → listing_fault own ≡ listing_fault other
  two_lines text items others before stood a b own other h k is so s t =
      let f = same_folder items others before stood a b h.reads k.reads in
      ap listing_fault (one_stop before stood text own other f.1 is so s t)

  two_listed : (text : List ℕ) (a b : ℕ) → HasLongListed id tree text a → HasLongListed id tree text b → Limit Body a ≡ Limit Body b
  two_listed text a b h k =
      let f = same_folder h.items k.items h.reads.before k.reads.before h.contents k.contents h.reads.folder.reads k.reads.folder.reads in
      let stand = same_listed text h.items k.items h.places k.places h.contents k.contents h.reads k.reads in
      ap (Limit Body) (one_long h.places k.places k.items a b stand (subst (λ (xs : List Item). IsFirstLong h.places xs a) f.0 h.first) k.first)

  -- the folder has a walk of items that may all stand in one
  walk_not : (path : List ℕ) (what : What) (items : List Item) → (Fits path what → ⊥) → ComesTo tree path what → IsWalk tree items → ⊥
  walk_not path what items unfit comes walk = unfit (comes_to_none tree items path what walk comes)

  -- a way of a later part leaves none of an earlier one
  one_form : (text : List ℕ) (f g : DirFault) → Form text f → Form text g → f ≡ g
  one_form text f g (AtItem p w c u e) (AtItem q v d x i) = two_items p q w v f g u x c d e i
  one_form text f g (AtItem p w c u e) (AtFile items which n walk stops i) = absurd (walk_not p w items u c walk)
  one_form text f g (AtItem p w c u e) (AtDirectory size h i) = absurd (walk_not p w h.items u c h.reads.walk)
  one_form text f g (AtItem p w c u e) (AtLine items before contents own h is s i) = absurd (walk_not p w items u c h.reads.walk)
  one_form text f g (AtItem p w c u e) (AtListed size h i) = absurd (walk_not p w h.items u c h.reads.folder.reads.walk)
  one_form text f g (AtFile items which n walk stops i) (AtItem p w c u e) = absurd (walk_not p w items u c walk)
  one_form text f g (AtFile items which n walk stops e) (AtFile others other m walked stopped i) = e ∙ two_files items others which other n m walk walked stops stopped ∙ sym i
  one_form text f g (AtFile items which n walk stops e) (AtDirectory size h i) = absurd (file_not items h.items which n h.places h.contents walk stops h.reads)
  one_form text f g (AtFile items which n walk stops e) (AtLine others before contents own h is s i) = absurd (file_not items others which n before contents walk stops h.reads)
  one_form text f g (AtFile items which n walk stops e) (AtListed size h i) = absurd (file_not items h.items which n h.reads.before h.contents walk stops h.reads.folder.reads)
  one_form text f g (AtDirectory size h i) (AtItem p w c u e) = absurd (walk_not p w h.items u c h.reads.walk)
  one_form text f g (AtDirectory size h e) (AtFile items which n walk stops i) = absurd (file_not items h.items which n h.places h.contents walk stops h.reads)
  one_form text f g (AtDirectory size h e) (AtDirectory other k i) = e ∙ two_directories size other h k ∙ sym i
  one_form text f g (AtDirectory size h e) (AtLine items before contents own k is s i) = absurd (directory_not size items before contents h k)
  one_form text f g (AtDirectory size h e) (AtListed other k i) = absurd (directory_not size k.items k.reads.before k.contents h k.reads.folder)
  one_form text f g (AtLine items before contents own h is s i) (AtItem p w c u e) = absurd (walk_not p w items u c h.reads.walk)
  one_form text f g (AtLine items before contents own h is s i) (AtFile others which n walk stops e) = absurd (file_not others items which n before contents walk stops h.reads)
  one_form text f g (AtLine items before contents own h is s i) (AtDirectory size k e) = absurd (directory_not size items before contents k h)
  one_form text f g (AtLine items before contents own h is s e) (AtLine others stood more other k so t i) = e ∙ two_lines text items others before stood contents more own other h k is so s t ∙ sym i
  one_form text f g (AtLine items before contents own h is s e) (AtListed size k i) = absurd (line_not text items k.items before k.places contents k.contents own h is s k.reads)
  one_form text f g (AtListed size h i) (AtItem p w c u e) = absurd (walk_not p w h.items u c h.reads.folder.reads.walk)
  one_form text f g (AtListed size h i) (AtFile items which n walk stops e) = absurd (file_not items h.items which n h.reads.before h.contents walk stops h.reads.folder.reads)
  one_form text f g (AtListed size h i) (AtDirectory other k e) = absurd (directory_not other h.items h.reads.before h.contents k h.reads.folder)
  one_form text f g (AtListed size h i) (AtLine items before contents own k is s e) = absurd (line_not text items h.items before h.places contents h.contents own k is s h.reads)
  one_form text f g (AtListed size h e) (AtListed other k i) = e ∙ two_listed text size other h k ∙ sym i

  pub one_fault : (text : List ℕ) (fault other : DirFault) → BreaksFolder id tree text fault → BreaksFolder id tree text other → fault ≡ other
  one_fault text fault other h k = one_form text fault other (form_of text fault h) (form_of text other k)

  root_or : (text root : List ℕ) (fault : DirFault) → HasRoot id tree text root → Form text fault → ⊥
  root_or text itself fault a (AtItem p w c u e) = walk_not p w a.items u c a.reads.folder.reads.walk
  root_or text itself fault a (AtFile items which n walk stops e) = file_not items a.items which n a.reads.before a.contents walk stops a.reads.folder.reads
  root_or text itself fault a (AtDirectory size h e) = directory_not size a.items a.reads.before a.contents h a.reads.folder
  root_or text itself fault a (AtLine items before contents own h is s e) = line_not text items a.items before a.places contents a.contents own h is s a.reads
  root_or text itself fault a (AtListed size h e) = listed_not text size a.items a.places a.contents h a.reads a.short

  -- ## The folder's own directory

  -- the branch of its snapshot leads to it
  means_root : (text : List ℕ) (objects : List Entry) (snapshot : List ℕ) → (a : MeansFolder id tree text objects snapshot) → HasRoot id tree text (directory_id id (a.entries []))
  means_root text objects snapshot a = record { items = a.items; places = a.places; contents = a.contents; reads = a.reads; short = a.short; entries = a.entries; directories = a.directories; named = refl }

  pub one_root : (text root other : List ℕ) → HasRoot id tree text root → HasRoot id tree text other → root ≡ other
  one_root text own other a b =
      let stand = same_listed text a.items b.items a.places b.places a.contents b.contents a.reads b.reads in
      let same = one_directory id a.places b.places a.entries b.entries stand (short_folders text a.items a.places a.contents a.reads) a.directories b.directories in
      a.named ∙ ap (directory_id id) (same [] (root_folder text a.items a.places a.contents a.reads)) ∙ sym b.named

  pub root_head : (text root : List ℕ) (objects : List Entry) (snapshot : List ℕ) → HasRoot id tree text root → MeansFolder id tree text objects snapshot → (body : List ℕ) × IsSnapshot body (head root ∷ []) × (snapshot ≡ id Snapshot body)
  root_head text own objects snapshot a b =
      let same = one_root text (directory_id id (b.entries [])) own (means_root text objects snapshot b) a in
      (b.body, subst (λ (r : List ℕ). IsSnapshot b.body (head r ∷ [])) same b.is_snapshot, b.named)

  pub root_unbroken : (text root : List ℕ) (fault : DirFault) → HasRoot id tree text root → BreaksFolder id tree text fault → ⊥
  root_unbroken text own fault a h = root_or text own fault a (form_of text fault h)

  pub never_both : (text : List ℕ) (objects : List Entry) (snapshot : List ℕ) (fault : DirFault) → MeansFolder id tree text objects snapshot → BreaksFolder id tree text fault → ⊥
  never_both text objects snapshot fault a h = root_unbroken text (directory_id id (a.entries [])) fault (means_root text objects snapshot a) h
