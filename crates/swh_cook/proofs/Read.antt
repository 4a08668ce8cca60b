-- The files of a folder in which what was made of a directory stands, as they are read.
use Rattle.std.proofs.Common.{◌≡◌, ◌⊎◌, inl, inr, ℕ, ◌+◌, ◌≤◌, ◌==◌, Bool, true, false, cond, Option, Some, None, List, [], ◌∷◌, ◌++◌, length, map, Contains, refl, sym, ap, ◌∙◌, subst, arith}
use Rattle.std.specs.Prelude.{◌||◌}
use Rattle.std.specs.List.{filter_map, cons_option}
use Rattle.swh_base.specs.declared.entry.Entry.{Entry}
use Rattle.swh_base.specs.declared.kind.Kind.{Kind}
use Rattle.swh_base.specs.declared.kind.Kind.TheVariants.{Content}
use Rattle.swh_base.specs.declared.name.Name.{Name}
use Rattle.swh_base.specs.Directory.{DirectoryEntry}
use Rattle.swh_base.specs.Limits.{body_limit}
use Rattle.swh_base.specs.Name.{name_cmp, name_cmp_total, name_cmp-IsAntisymmetric}
use Rattle.std.specs.BTreeMap.{is_at}
use Rattle.std.specs.Ordering.{is_eq}
use Rattle.std.specs.Cmp.{Equal-is, tied_itself}
use Rattle.swh_dedup.proofs.Elements.{first_or_later, first_is, later_is, none_is}
use Rattle.std.proofs.lemmas.List.{map-append}
use Rattle.std.proofs.lemmas.List.Elements.{Contains-append_left, Contains-append_right}
use Rattle.swh_dedup.specs.Giving.{AreNew}
use Rattle.swh_dedup.specs.Making.{made, made_from}
use Rattle.swh_dedup.proofs.Givens.{new_push}
use Rattle.swh_object.specs.Object.{IsObject}
use Rattle.swh_model.specs.Archive.{Bodies, body_of}
use Rattle.swh_model.specs.Meaning.{Made, content}
use Rattle.swh_outside.specs.Folder.{Tree as Held, bytes_at}
use Rattle.swh_outside.specs.declared.folder.What.TheVariants.{File, Folder as FolderHere}
use Rattle.swh_dirload.specs.declared.limits.TheConstants.{FILES_LIMIT}
use Rattle.swh_dirload.specs.Items.{Item}
use Rattle.swh_dirload.specs.Reading.{IsRead, ReadsAll}
use Rattle.swh_dirmade.specs.Giving.{GivesOne}
use Rattle.swh_dirmade.specs.declared.member.Member.{Member}
use Rattle.swh_dirmade.specs.declared.member.Member.TheVariants as stands
use Rattle.swh_dircook.specs.Made.{content_name, bytes_or_none}
use Rattle.swh_dircook.specs.Rules.{file_length, files_length}
use Rattle.swh_cook.specs.FolderBack.{AreGoodBodies}
use Rattle.swh_cook.proofs.Nodes.{Node, row_of}
use Rattle.swh_cook.proofs.Walked.{item_of, items_of}

-- what is found of an entry before a listing says more: nothing for a revision of another project
abbrev pub found_of : DirectoryEntry → Option Member
found_of e = cond (e.mode == 160000) None (Some (cond (e.mode == 40000) stands.Folder (stands.File 100644 e.id)))

abbrev pub founds_of : List Node → List Member
founds_of ns = filter_map (λ (n : Node). found_of n.entry) ns

-- ---- objects that are known

same_or_other : (m n : Name) → (m ≡ n) ⊎ (m ≡ n → ⊥)
same_or_other m n = by (is_at (name_cmp m) n) refl
  where
    by : (b : Bool) → is_at (name_cmp m) n ≡ b → (m ≡ n) ⊎ (m ≡ n → ⊥)
    by true e = inl (name_cmp-IsAntisymmetric m n ((Equal-is (name_cmp m n)).0 e))
    by false e = inr (λ same. let f : true ≡ false = sym (ap is_eq (tied_itself name_cmp_total m)) ∙ (ap (λ (k : Name). is_at (name_cmp m) k) same ∙ e) in cc)

-- kind and body, compared as a name is
abbrev as_name : Made → Name
as_name m = record { kind = m.kind; id = m.body }

from_name : (m n : Made) → as_name m ≡ as_name n → m ≡ n
from_name m n e = ap (λ (k : Name). let x : Made = record { kind = k.kind; body = k.id } in x) e

pub one_or_other : (m n : Made) → (m ≡ n) ⊎ (m ≡ n → ⊥)
one_or_other m n = elim (same_or_other (as_name m) (as_name n)) [ inl same ↦ inl (from_name m n same) | inr other ↦ inr (λ e. other (ap as_name e)) ]

pub known_or_new : (ms : List Made) (m : Made) → Contains ms m ⊎ (Contains ms m → ⊥)
known_or_new [] m = inr (λ there. none_is m there)
known_or_new (n ∷ ms) m =
    elim (one_or_other n m) [
      | inl same ↦ inl (subst (Contains (n ∷ ms)) same (first_is n ms))
      | inr other ↦
          elim (known_or_new ms m) [
            | inl there ↦ inl (later_is n ms m there)
            | inr new ↦ inr (λ there. elim (first_or_later n ms m there) [ inl same ↦ other same | inr later ↦ new later ])
          ]
    ]

-- ---- reading

module _ (id : Kind → List ℕ → List ℕ) (bodies : Bodies) (are : AreGoodBodies id bodies) (fs : Held) where
  -- the content of these bytes
  abbrev content_of : List ℕ → Entry
  content_of bytes = record { name = record { kind = Content; id = id Content bytes }; body = bytes; kids = [] }

  -- What is known of a file of the folder.
  pub record IsFileNode (n : Node) : Type 0 where
    pub body : List ℕ
    pub held : body_of bodies (content_name n.entry.id) ≡ Some body
    pub there : bytes_at fs n.path ≡ Some body

  abbrev AreFiles : List Node → Type 0
  AreFiles ns = (n : Node) → Contains ns n → (n.entry.mode == 40000) ≡ false → (n.entry.mode == 160000) ≡ false → IsFileNode n

  -- one node after what was read before
  abbrev ReadsOne : ℕ → List Entry → Option Item → Option Member → ℕ → List Entry → Type 0
  ReadsOne at old None None now new = (now ≡ at) × (new ≡ old)
  ReadsOne at old None (Some place) now new = ⊥
  ReadsOne at old (Some item) None now new = ⊥
  ReadsOne at old (Some item) (Some place) now new = (count : ℕ) × (now ≡ at + count) × IsRead id fs item.0 item.1 count old place new

  -- What is known of what was read: it is new, what was given stays, and the contents of these files are given.
  pub record IsReading (ns : List Node) (at : ℕ) (old new : List Entry) : Type 0 where
    pub reads : ReadsAll id fs at old (items_of ns) (founds_of ns) (at + files_length bodies (map row_of ns)) new
    pub fresh : AreNew id [] new
    pub stays : (m : Made) → Contains (made old) m → Contains (made new) m
    pub has : (n : Node) → Contains ns n → (n.entry.mode == 40000) ≡ false → (n.entry.mode == 160000) ≡ false → Contains (made new) (content (bytes_or_none (body_of bodies (content_name n.entry.id))))

  given_fresh : (old : List Entry) (bytes : List ℕ) → AreNew id [] old → length bytes ≤ body_limit → (new : List Entry) × GivesOne old (content_of bytes) new × AreNew id [] new × ((m : Made) → Contains (made old) m → Contains (made new) m) × Contains (made new) (content bytes)
  given_fresh old bytes fresh short =
      elim (known_or_new (made old) (content bytes)) [
        | inl there ↦ (old, inl (refl, there), fresh, λ m is. is, there)
        | inr new ↦
            let object = content_of bytes in
            let is : IsObject id object = record { kids = refl; named = refl; short = short } in (
              old ++ object ∷ [],
              inr refl,
              new_push id [] old object fresh new is tt,
              λ m there. subst (λ (l : List Made). Contains l m) (sym (map-append made_from old (object ∷ []))) (Contains-append_left (made old) (content bytes ∷ []) m there),
              subst (λ (l : List Made). Contains l (content bytes)) (sym (map-append made_from old (object ∷ []))) (Contains-append_right (made old) (content bytes ∷ []) (content bytes) (first_is (content bytes) [])),
            )
      ]

  one_read : (n : Node) (p f : Bool) → (n.entry.mode == 160000) ≡ p → (n.entry.mode == 40000) ≡ f → (f ≡ false → p ≡ false → IsFileNode n) → (at : ℕ) (old : List Entry) → AreNew id [] old
      → (new : List Entry) × ReadsOne at old (cond p None (Some (n.path, cond f FolderHere File))) (cond p None (Some (cond f stands.Folder (stands.File 100644 n.entry.id))))
      (at + cond (f || p) 0 (length (bytes_or_none (body_of bodies (content_name n.entry.id))))) new
      × AreNew id [] new × ((m : Made) → Contains (made old) m → Contains (made new) m) × (f ≡ false → p ≡ false → Contains (made new) (content (bytes_or_none (body_of bodies (content_name n.entry.id)))))
  one_read n true true a b file at old fresh = (old, (omega arith, refl), fresh, λ m is. is, λ e. absurd cc)
  one_read n true false a b file at old fresh = (old, (omega arith, refl), fresh, λ m is. is, λ _ e. absurd cc)
  one_read n false true a b file at old fresh = (old, (0, refl, (refl, refl, refl)), fresh, λ m is. is, λ e. absurd cc)
  one_read n false false a b file at old fresh =
      let f = file refl refl in
      let given = given_fresh old f.body fresh (are.short (content_name n.entry.id) f.body f.held) in
      let same : bytes_or_none (body_of bodies (content_name n.entry.id)) ≡ f.body = ap bytes_or_none f.held in
      let named : id Content f.body ≡ n.entry.id = sym (are.named (content_name n.entry.id) f.body f.held) in (
        given.0,
        (
          length f.body,
          ap (λ (b : List ℕ). at + length b) same,
          (f.body, record { are = f.there; short = are.short (content_name n.entry.id) f.body f.held }, refl, ap (λ (i : List ℕ). stands.File 100644 i) (sym named), (content_of f.body, refl, given.1)),
        ),
        given.2,
        given.3,
        λ _ _. subst (λ (b : List ℕ). Contains (made given.0) (content b)) (sym same) given.4,
      )

  reads_on : (o : Option Item) (q : Option Member) (items : List Item) (places : List Member) (at mid now : ℕ) (old given new : List Entry) → ReadsOne at old o q mid given → mid ≤ FILES_LIMIT → ReadsAll id fs mid given items places now new
      → ReadsAll id fs at old (cons_option o items) (cons_option q places) now new
  reads_on None None items places at mid now old given new (same, also) within rest =
      subst (λ (k : ℕ). ReadsAll id fs k old items places now new) same (subst (λ (l : List Entry). ReadsAll id fs mid l items places now new) also rest)
  reads_on None (Some place) items places at mid now old given new one within rest = absurd one
  reads_on (Some item) None items places at mid now old given new one within rest = absurd one
  reads_on (Some item) (Some place) items places at mid now old given new (count, is, read) within rest =
      (count, given, read, subst (λ (k : ℕ). k ≤ FILES_LIMIT) is within, subst (λ (k : ℕ). ReadsAll id fs k given items places now new) is rest)

  -- all files are read, and what is given of them
  pub all_read : (ns : List Node) → AreFiles ns → (at : ℕ) (old : List Entry) → AreNew id [] old → at + files_length bodies (map row_of ns) ≤ FILES_LIMIT → (new : List Entry) × IsReading ns at old new
  all_read [] files at old fresh within = (old, record { reads = (omega arith, refl); fresh = fresh; stays = λ m is. is; has = λ n there. absurd (none_is n there) })
  all_read (n ∷ ns) files at old fresh within =
      let one = one_read n (n.entry.mode == 160000) (n.entry.mode == 40000) refl refl (λ f p. files n (first_is n ns) f p) at old fresh in
      let mid = at + file_length bodies n.entry in
      let rest = all_read ns (λ m there f p. files m (later_is n ns m there) f p) mid one.0 one.2 (omega (arith, within)) in
      let sum : mid + files_length bodies (map row_of ns) ≡ at + files_length bodies (map row_of (n ∷ ns)) = omega arith in (
        rest.0,
        record {
          reads =
              subst (λ (k : ℕ). ReadsAll id fs at old (items_of (n ∷ ns)) (founds_of (n ∷ ns)) k rest.0) sum
              (reads_on (item_of n) (found_of n.entry) (items_of ns) (founds_of ns) at mid (mid + files_length bodies (map row_of ns)) old one.0 rest.0 one.1 (omega (arith, within)) rest.1.reads);
          fresh = rest.1.fresh;
          stays = λ m there. rest.1.stays m (one.3 m there);
          has = λ k there f p.
              elim (first_or_later n ns k there) [
                | inl same ↦
                    subst (λ (x : Node). Contains (made rest.0) (content (bytes_or_none (body_of bodies (content_name x.entry.id))))) same
                    (rest.1.stays (content (bytes_or_none (body_of bodies (content_name n.entry.id)))) (one.4 (ap (λ (x : Node). x.entry.mode == 40000) same ∙ f) (ap (λ (x : Node). x.entry.mode == 160000) same ∙ p)))
                | inr later ↦ rest.1.has k later f p
              ];
        },
      )
