-- The files of a folder are read in one way, or stop at one of them.
use Rattle.std.proofs.Common.{◌≡◌, ◌⊎◌, inl, inr, ℕ, ◌+◌, ◌<◌, ◌≤◌, Some, List, [], ◌∷◌, ◌++◌, length, Contains, refl, sym, ap, ◌∙◌, subst, arith}
use Rattle.swh_base.specs.declared.kind.Kind.{Kind}
use Rattle.swh_base.specs.declared.kind.Kind.TheVariants.{Content}
use Rattle.swh_base.specs.declared.entry.Entry.{Entry}
use Rattle.swh_base.specs.declared.visit.Which.{Which}
use Rattle.swh_base.specs.declared.visit.Which.TheVariants.{Body, Objects, Bytes, Store, Ledger, Stream, Line, Path, Ref, Refs}
use Rattle.swh_base.specs.Limits.{body_limit}
use Rattle.swh_outside.specs.Folder.{Tree}
use Rattle.swh_outside.specs.declared.folder.What.{What}
use Rattle.swh_outside.specs.declared.folder.What.TheVariants.{File, Folder, Other}
use Rattle.swh_model.specs.Meaning.{Made, content}
use Rattle.swh_dedup.specs.Making.{made}
use Rattle.swh_dirload.specs.declared.fault.DirFault.TheVariants.{Limit}
use Rattle.swh_dirload.specs.declared.limits.TheConstants.{FILES_LIMIT}
use Rattle.swh_dirmade.specs.declared.member.Member.{Member}
use Rattle.swh_dirmade.specs.declared.member.Member.TheVariants as stands
use Rattle.swh_dirmade.proofs.Built.{grows, given_there}
use Rattle.swh_dirload.specs.Files.{IsTooLong}
use Rattle.swh_dirload.specs.Items.{Item}
use Rattle.swh_dirload.specs.Reading.{GivesContent, HasFile, IsRead, ReadsAll, PassesAt, ExplainsRead, StopsAt}
use Rattle.swh_dirload.proofs.Loadings.{given_only}

same_bytes : (a b : List ℕ) → Some a ≡ Some b → a ≡ b
same_bytes a b e = cc

one_file : (tree : Tree) (path a b : List ℕ) → HasFile tree path a → HasFile tree path b → a ≡ b
one_file tree path a b h k = same_bytes a b (sym h.are ∙ k.are)

-- ## Two ways of cutting one list

-- Two fronts of a list are one, with what is behind them, or one goes on behind the other.
pub data Cuts (a b : List Item) (x y : Item) : Type 0 where
  Same : a ≡ b → x ≡ y → Cuts a b x y
  Second : (more : List Item) → b ≡ a ++ x ∷ more → Cuts a b x y
  First : (more : List Item) → a ≡ b ++ y ∷ more → Cuts a b x y

more_cuts : (i j : Item) (a b : List Item) (x y : Item) → i ≡ j → Cuts a b x y → Cuts (i ∷ a) (j ∷ b) x y
more_cuts i j a b x y e (Same s t) = Same (ap (λ (k : Item). k ∷ a) e ∙ ap (λ (ks : List Item). j ∷ ks) s) t
more_cuts i j a b x y e (Second more s) = Second more (ap (λ (k : Item). k ∷ b) (sym e) ∙ ap (λ (ks : List Item). i ∷ ks) s)
more_cuts i j a b x y e (First more s) = First more (ap (λ (k : Item). k ∷ a) e ∙ ap (λ (ks : List Item). j ∷ ks) s)

pub two_cuts : (a b : List Item) (x y : Item) (m n : List Item) → a ++ x ∷ m ≡ b ++ y ∷ n → Cuts a b x y
two_cuts [] [] x y m n e = Same refl (cc)
two_cuts [] (j ∷ b) x y m n e = let first : j ≡ x = cc in Second b (ap (λ (k : Item). k ∷ b) first)
two_cuts (i ∷ a) [] x y m n e = let first : i ≡ y = cc in First a (ap (λ (k : Item). k ∷ a) first)
two_cuts (i ∷ a) (j ∷ b) x y m n e = let first : i ≡ j = cc in more_cuts i j a b x y first (two_cuts a b x y m n (cc))

module _ (id : Kind → List ℕ → List ℕ) (tree : Tree) where
  same_read : (path : List ℕ) (what : What) (count other : ℕ) (old lower : List Entry) (place stood : Member) (new later : List Entry) → IsRead id tree path what count old place new → IsRead id tree path what other lower stood later → (count ≡ other) × (place ≡ stood)
  same_read path File count other old lower place stood new later h k =
      let e = one_file tree path h.0 k.0 h.1 k.1 in
      (sym h.2 ∙ ap length e ∙ k.2, h.3 ∙ ap (λ (bytes : List ℕ). stands.File 100644 (id Content bytes)) e ∙ sym k.3)
  same_read path Folder count other old lower place stood new later h k = (h.0 ∙ sym k.0, h.1 ∙ sym k.1)
  same_read path Other count other old lower place stood new later h k = absurd h

  same_places : (p q : Member) (ps qs : List Member) → p ≡ q → ps ≡ qs → p ∷ ps ≡ q ∷ qs
  same_places p q ps qs e f = ap (λ (x : Member). x ∷ ps) e ∙ ap (λ (xs : List Member). q ∷ xs) f

  -- what stands there, and how many bytes are read, are one
  pub same_reading : (at : ℕ) (old lower : List Entry) (items : List Item) (places others : List Member) (now then : ℕ) (new later : List Entry) → ReadsAll id tree at old items places now new → ReadsAll id tree at lower items others then later → (places ≡ others) × (now ≡ then)
  same_reading at old lower [] [] [] now then new later h k = (refl, sym h.0 ∙ k.0)
  same_reading at old lower [] [] (q ∷ others) now then new later h k = absurd k
  same_reading at old lower [] (p ∷ places) others now then new later h k = absurd h
  same_reading at old lower (i ∷ items) [] others now then new later h k = absurd h
  same_reading at old lower (i ∷ items) (p ∷ places) [] now then new later h k = absurd k
  same_reading at old lower (i ∷ items) (p ∷ places) (q ∷ others) now then new later h k =
      let first = same_read i.0 i.1 h.0 k.0 old lower p q h.1 k.1 h.2 k.2 in
      let rest = same_reading (at + h.0) h.1 k.1 items places others now then new later h.4 (subst (λ (n : ℕ). ReadsAll id tree (at + n) k.1 items others then later) (sym first.0) k.4) in
      (same_places p q places others first.1 rest.0, rest.1)

  gives_more : (bytes : List ℕ) (old new : List Entry) → GivesContent old bytes new → (m : Made) → Contains (made new) m → Contains (made old) m ⊎ (m ≡ content bytes)
  gives_more bytes old new g m c = elim (given_only old new g.0 g.2 m c) [
    | inl o ↦ inl o
    | inr e ↦ inr (sym e ∙ g.1)
  ]

  gives_all : (bytes : List ℕ) (old new : List Entry) → GivesContent old bytes new → (m : Made) → Contains (made old) m ⊎ (m ≡ content bytes) → Contains (made new) m
  gives_all bytes old new g m (inl o) = grows old new g.0 g.2 m o
  gives_all bytes old new g m (inr e) = subst (Contains (made new)) (g.1 ∙ sym e) (given_there old new g.0 g.2)

  one_content : (a b : List ℕ) (old lower new later : List Entry) → a ≡ b → ((m : Made) → Contains (made old) m → Contains (made lower) m) → GivesContent old a new → GivesContent lower b later → (m : Made) → Contains (made new) m → Contains (made later) m
  one_content a b old lower new later e same g k m c = elim (gives_more a old new g m c) [
    | inl o ↦ gives_all b lower later k m (inl (same m o))
    | inr is ↦ gives_all b lower later k m (inr (is ∙ ap content e))
  ]

  same_content : (path : List ℕ) (what : What) (count other : ℕ) (old lower : List Entry) (place stood : Member) (new later : List Entry) → ((m : Made) → Contains (made old) m → Contains (made lower) m) → IsRead id tree path what count old place new → IsRead id tree path what other lower stood later → (m : Made) → Contains (made new) m → Contains (made later) m
  same_content path File count other old lower place stood new later same h k m c = one_content h.0 k.0 old lower new later (one_file tree path h.0 k.0 h.1 k.1) same h.4 k.4 m c
  same_content path Folder count other old lower place stood new later same h k m c = subst (λ (es : List Entry). Contains (made es) m) (sym k.2) (same m (subst (λ (es : List Entry). Contains (made es) m) h.2 c))
  same_content path Other count other old lower place stood new later same h k m c = absurd h

  -- the contents that are given are the same
  pub same_contents : (at from : ℕ) (old lower : List Entry) (items : List Item) (places others : List Member) (now then : ℕ) (new later : List Entry) → ((m : Made) → Contains (made old) m → Contains (made lower) m) → ReadsAll id tree at old items places now new → ReadsAll id tree from lower items others then later → (m : Made) → Contains (made new) m → Contains (made later) m
  same_contents at from old lower [] [] [] now then new later same h k m c = subst (λ (es : List Entry). Contains (made es) m) k.1 (same m (subst (λ (es : List Entry). Contains (made es) m) (sym h.1) c))
  same_contents at from old lower [] [] (q ∷ others) now then new later same h k m c = absurd k
  same_contents at from old lower [] (p ∷ places) others now then new later same h k m c = absurd h
  same_contents at from old lower (i ∷ items) [] others now then new later same h k m c = absurd h
  same_contents at from old lower (i ∷ items) (p ∷ places) [] now then new later same h k m c = absurd k
  same_contents at from old lower (i ∷ items) (p ∷ places) (q ∷ others) now then new later same h k m c =
      same_contents (at + h.0) (from + k.0) h.1 k.1 items places others now then new later (same_content i.0 i.1 h.0 k.0 old lower p q h.1 k.1 same h.2 k.2) h.4 k.4 m c

  -- The reading comes to an item where so many bytes were read, and reads it.
  pub record ReadsOne (before : List Item) (item : Item) : Type 0 where
    pub places : List Member
    pub at : ℕ
    pub given : List Entry
    pub reads : ReadsAll id tree 0 [] before places at given
    pub count : ℕ
    pub place : Member
    pub new : List Entry
    pub is : IsRead id tree item.0 item.1 count given place new
    pub within : at + count ≤ FILES_LIMIT

  -- the same behind items that were read
  abbrev ReadsBehind : ℕ → List Entry → List Item → Item → Type 0
  ReadsBehind at old before item = (places : List Member) × (here : ℕ) × (given : List Entry) × ReadsAll id tree at old before places here given × ((count : ℕ) × (place : Member) × (new : List Entry) × IsRead id tree item.0 item.1 count given place new × (here + count ≤ FILES_LIMIT))

  reads_behind : (at : ℕ) (old : List Entry) (before : List Item) (item : Item) (rest : List Item) (places : List Member) (now : ℕ) (new : List Entry) → ReadsAll id tree at old (before ++ item ∷ rest) places now new → ReadsBehind at old before item
  reads_behind at old [] item rest [] now new h = absurd h
  reads_behind at old [] item rest (p ∷ places) now new h = ([], at, old, (refl, refl), (h.0, p, h.1, h.2, h.3))
  reads_behind at old (b ∷ before) item rest [] now new h = absurd h
  reads_behind at old (b ∷ before) item rest (p ∷ places) now new h =
      let r = reads_behind (at + h.0) h.1 before item rest places now new h.4 in
      (p ∷ r.0, r.1, r.2, (h.0, h.1, h.2, h.3, r.3), r.4)

  pub reads_one : (all before : List Item) (item : Item) (rest : List Item) (places : List Member) (now : ℕ) (new : List Entry) → all ≡ before ++ item ∷ rest → ReadsAll id tree 0 [] all places now new → ReadsOne before item
  reads_one all before item rest places now new cut h =
      let r = reads_behind 0 [] before item rest places now new (subst (λ (xs : List Item). ReadsAll id tree 0 [] xs places now new) cut h) in
      record { places = r.0; at = r.1; given = r.2; reads = r.3; count = r.4.0; place = r.4.1; new = r.4.2; is = r.4.3; within = r.4.4 }

  -- an item that is read passes no limit
  not_long : (path : List ℕ) (what : What) (count : ℕ) (old : List Entry) (place : Member) (new : List Entry) → what ≡ File → IsRead id tree path what count old place new → IsTooLong tree path → ⊥
  not_long path File count old place new e h t =
      let same : t.bytes ≡ h.0 = same_bytes t.bytes h.0 (sym t.are ∙ h.1.are) in
      let n = ap length same in
      let short = h.1.short in
      let long = t.long in
      omega (arith, n, short, long)
  not_long path Folder count old place new e h t = absurd (cc)
  not_long path Other count old place new e h t = absurd h

  not_over : (at : ℕ) (path bytes : List ℕ) (what : What) (count : ℕ) (old : List Entry) (place : Member) (new : List Entry) → what ≡ File → at + count ≤ FILES_LIMIT → IsRead id tree path what count old place new → HasFile tree path bytes → FILES_LIMIT < at + length bytes → ⊥
  not_over at path bytes File count old place new e within h f long =
      let n = ap length (one_file tree path bytes h.0 f h.1) in
      let m = h.2 in
      omega (arith, n, m, within, long)
  not_over at path bytes Folder count old place new e within h f long = absurd (cc)
  not_over at path bytes Other count old place new e within h f long = absurd h

  not_passed : (at : ℕ) (path : List ℕ) (what : What) (count : ℕ) (old : List Entry) (place : Member) (new : List Entry) (which : Which) (number : ℕ) → what ≡ File → at + count ≤ FILES_LIMIT → IsRead id tree path what count old place new → PassesAt id tree at path which number → ⊥
  not_passed at path what count old place new Body number e within h p = not_long path what count old place new e h p.1
  not_passed at path what count old place new Objects number e within h p = p
  not_passed at path what count old place new Bytes number e within h p = p
  not_passed at path what count old place new Store number e within h p = p
  not_passed at path what count old place new Ledger number e within h p = p
  not_passed at path what count old place new Stream number e within h p = not_over at path p.1.0 what count old place new e within h p.1.1 p.1.2
  not_passed at path what count old place new Line number e within h p = p
  not_passed at path what count old place new Path number e within h p = p
  not_passed at path what count old place new Ref number e within h p = p
  not_passed at path what count old place new Refs number e within h p = p

  -- what is read does not stop there
  stops_not : (which : Which) (number : ℕ) (before : List Item) (path : List ℕ) (kind : What) (places : List Member) (at : ℕ) (given : List Entry) → ReadsAll id tree 0 [] before places at given → ExplainsRead id tree at path kind (Limit which number) → ReadsOne before (path, kind) → ⊥
  stops_not which number before path kind places at given reads breaks one =
      let same = same_reading 0 [] [] before one.places places one.at at one.given given one.reads reads in
      not_passed at path kind one.count one.given one.place one.new which number breaks.0 (subst (λ (n : ℕ). n + one.count ≤ FILES_LIMIT) same.1 one.within) one.is breaks.1

  -- a folder whose files are read has no limit that they pass
  pub reads_or_stops : (items : List Item) (places : List Member) (now : ℕ) (new : List Entry) (which : Which) (number : ℕ) → ReadsAll id tree 0 [] items places now new → StopsAt id tree [] items (Limit which number) → ⊥
  reads_or_stops items places now new which number h s =
      stops_not which number s.before s.path s.kind s.places s.at s.given s.reads s.breaks (reads_one items s.before (s.path, s.kind) s.rest places now new s.cut h)

  -- of one file one limit is passed
  long_or_over : (at : ℕ) (path bytes : List ℕ) → IsTooLong tree path → HasFile tree path bytes → ⊥
  long_or_over at path bytes t f =
      let n = ap length (same_bytes t.bytes bytes (sym t.are ∙ f.are)) in
      let short = f.short in
      let long = t.long in
      omega (arith, n, short, long)

  of_body : (at : ℕ) (path : List ℕ) (which : Which) (m n : ℕ) → m ≡ body_limit + 1 → IsTooLong tree path → PassesAt id tree at path which n → Limit Body m ≡ Limit which n
  of_body at path Body m n e t p = ap (Limit Body) (e ∙ sym p.0)
  of_body at path Objects m n e t p = absurd p
  of_body at path Bytes m n e t p = absurd p
  of_body at path Store m n e t p = absurd p
  of_body at path Ledger m n e t p = absurd p
  of_body at path Stream m n e t p = absurd (long_or_over at path p.1.0 t p.1.1)
  of_body at path Line m n e t p = absurd p
  of_body at path Path m n e t p = absurd p
  of_body at path Ref m n e t p = absurd p
  of_body at path Refs m n e t p = absurd p

  of_stream : (at : ℕ) (path bytes : List ℕ) (which : Which) (m n : ℕ) → m ≡ FILES_LIMIT + 1 → HasFile tree path bytes → PassesAt id tree at path which n → Limit Stream m ≡ Limit which n
  of_stream at path bytes Body m n e f p = absurd (long_or_over at path bytes p.1 f)
  of_stream at path bytes Objects m n e f p = absurd p
  of_stream at path bytes Bytes m n e f p = absurd p
  of_stream at path bytes Store m n e f p = absurd p
  of_stream at path bytes Ledger m n e f p = absurd p
  of_stream at path bytes Stream m n e f p = ap (Limit Stream) (e ∙ sym p.0)
  of_stream at path bytes Line m n e f p = absurd p
  of_stream at path bytes Path m n e f p = absurd p
  of_stream at path bytes Ref m n e f p = absurd p
  of_stream at path bytes Refs m n e f p = absurd p

  one_passed : (at : ℕ) (path : List ℕ) (which other : Which) (m n : ℕ) → PassesAt id tree at path which m → PassesAt id tree at path other n → Limit which m ≡ Limit other n
  one_passed at path Body other m n p q = of_body at path other m n p.0 p.1 q
  one_passed at path Objects other m n p q = absurd p
  one_passed at path Bytes other m n p q = absurd p
  one_passed at path Store other m n p q = absurd p
  one_passed at path Ledger other m n p q = absurd p
  one_passed at path Stream other m n p q = of_stream at path p.1.0 other m n p.0 p.1.1 q
  one_passed at path Line other m n p q = absurd p
  one_passed at path Path other m n p q = absurd p
  one_passed at path Ref other m n p q = absurd p
  one_passed at path Refs other m n p q = absurd p

  -- an item of this kind
  abbrev at_path : List ℕ → What → Item
  at_path path kind = (path, kind)

  same_stop : (which other : Which) (m n : ℕ) (a b : List Item) (p q : List ℕ) (k l : What) (ps qs : List Member) (at to : ℕ) (es fs : List Entry) → a ≡ b → at_path p k ≡ at_path q l → ReadsAll id tree 0 [] a ps at es → ReadsAll id tree 0 [] b qs to fs → ExplainsRead id tree at p k (Limit which m) → ExplainsRead id tree to q l (Limit other n) → Limit which m ≡ Limit other n
  same_stop which other m n a b p q k l ps qs at to es fs e f r s x y =
      let moved : ReadsAll id tree 0 [] b ps at es = subst (λ (xs : List Item). ReadsAll id tree 0 [] xs ps at es) e r in
      let same = same_reading 0 [] [] b ps qs at to es fs moved s in
      let path : p ≡ q = ap (λ (i : Item). i.0) f in
      let here : PassesAt id tree to q which m = subst (λ (i : ℕ). PassesAt id tree i q which m) same.1 (subst (λ (t : List ℕ). PassesAt id tree at t which m) path x.1) in
      one_passed to q which other m n here y.1

  -- the files pass one limit at most
  pub one_stop : (items : List Item) (which other : Which) (m n : ℕ) → StopsAt id tree [] items (Limit which m) → StopsAt id tree [] items (Limit other n) → Limit which m ≡ Limit other n
  one_stop items which other m n s t = by_cuts (two_cuts s.before t.before (s.path, s.kind) (t.path, t.kind) s.rest t.rest (sym s.cut ∙ t.cut))
    where
      by_cuts : Cuts s.before t.before (s.path, s.kind) (t.path, t.kind) → Limit which m ≡ Limit other n
      by_cuts (Same a x) = same_stop which other m n s.before t.before s.path t.path s.kind t.kind s.places t.places s.at t.at s.given t.given a x s.reads t.reads s.breaks t.breaks
      by_cuts (Second more b) = absurd (stops_not which m s.before s.path s.kind s.places s.at s.given s.reads s.breaks (reads_one t.before s.before (s.path, s.kind) more t.places t.at t.given b t.reads))
      by_cuts (First more a) = absurd (stops_not other n t.before t.path t.kind t.places t.at t.given t.reads t.breaks (reads_one s.before t.before (t.path, t.kind) more s.places s.at s.given a s.reads))
