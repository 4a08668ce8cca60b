-- Objects that are new from nothing on are whole: each child of one is the name of one.
use Rattle.std.proofs.Common.{◌≡◌, ℕ, List, [], ◌∷◌, ◌++◌, map, Contains, refl, sym, ap, ◌∙◌, subst, append_assoc}
use Rattle.std.specs.List.{AllByRecursion}
use Rattle.std.proofs.lemmas.List.{map-append, append-nil}
use Rattle.std.proofs.lemmas.List.Elements.{Contains-append_left}
use Rattle.swh_base.specs.declared.kind.Kind.{Kind}
use Rattle.swh_base.specs.declared.name.Name.{Name}
use Rattle.swh_base.specs.declared.entry.Entry.{Entry}
use Rattle.swh_base.proofs.Elementary.{all_as}
use Rattle.swh_object.specs.Object.{IsObject}
use Rattle.swh_model.specs.Meaning.{Made}
use Rattle.swh_model.proofs.Entries.{all-append}
use Rattle.swh_dedup.specs.Making.{made_from, made, name_of}
use Rattle.swh_dedup.specs.Giving.{AreNew}
use Rattle.swh_dedup.specs.Whole.{names_of, HasChildrenAmong, AreWhole}

module _ (id : Kind → List ℕ → List ℕ) where
  -- The names of objects are those of what they were made from.
  pub same_names : (es : List Entry) → AllByRecursion (IsObject id) es → map (name_of id) (made es) ≡ names_of es
  same_names [] h = refl
  same_names (e ∷ es) h =
      let one : name_of id (made_from e) ≡ e.name = ap (λ (i : List ℕ). let n : Name = record { kind = e.name.kind; id = i } in n) (sym h.0.named) in
      ap (λ (n : Name). n ∷ map (name_of id) (made es)) one ∙ ap (λ (ns : List Name). e.name ∷ ns) (same_names es h.1)

  more_names : (names more : List Name) (e : Entry) → HasChildrenAmong names e → HasChildrenAmong (names ++ more) e
  more_names names more e h = all_as (Contains names) (Contains (names ++ more)) (λ n. Contains-append_left names more n) e.kids h

  -- An object more, whose children are there.
  pub whole_one : (es : List Entry) (e : Entry) → AreWhole id es → IsObject id e → AllByRecursion (Contains (names_of es)) e.kids → AreWhole id (es ++ e ∷ [])
  whole_one es e w o k =
      let names : names_of (es ++ e ∷ []) ≡ names_of es ++ e.name ∷ [] = map-append (λ (x : Entry). x.name) es (e ∷ []) in
      let more = e.name ∷ [] in
      let kids : AllByRecursion (HasChildrenAmong (names_of es ++ more)) (es ++ e ∷ []) =
      all-append (HasChildrenAmong (names_of es ++ more)) es (e ∷ []) (all_as (HasChildrenAmong (names_of es)) (HasChildrenAmong (names_of es ++ more)) (more_names (names_of es) more) es w.kids) (more_names (names_of es) more e k, tt) in
      record {
        each = all-append (IsObject id) es (e ∷ []) w.each (o, tt);
        kids = subst (λ (ns : List Name). AllByRecursion (HasChildrenAmong ns) (es ++ e ∷ [])) (sym names) kids;
      }

  -- New objects more, each with its children before it.
  pub whole_more : (es more : List Entry) → AreWhole id es → AreNew id (made es) more → AreWhole id (es ++ more)
  whole_more es [] w n = subst (AreWhole id) (sym (append-nil es)) w
  whole_more es (e ∷ more) w n =
      let kids : AllByRecursion (Contains (names_of es)) e.kids = subst (λ (ns : List Name). AllByRecursion (Contains ns) e.kids) (same_names es w.each) n.2 in
      let one = whole_one es e w n.1 kids in
      let rest : AreNew id (made (es ++ e ∷ [])) more = subst (λ (ms : List Made). AreNew id ms more) (sym (map-append made_from es (e ∷ []))) n.3 in
      subst (AreWhole id) (append_assoc es (e ∷ []) more) (whole_more (es ++ e ∷ []) more one rest)

  pub new_whole : (es : List Entry) → AreNew id [] es → AreWhole id es
  new_whole es n = whole_more [] es (record { each = tt; kids = tt }) n

  -- New objects, and then more of them.
  pub new_append : (before : List Made) (es more : List Entry) → AreNew id before es → AreNew id (before ++ made es) more → AreNew id before (es ++ more)
  new_append before [] more h k = subst (λ (ms : List Made). AreNew id ms more) (append-nil before) k
  new_append before (e ∷ es) more h k =
      (h.0, h.1, h.2, new_append (before ++ made_from e ∷ []) es more h.3 (subst (λ (ms : List Made). AreNew id ms more) (sym (append_assoc before (made_from e ∷ []) (made es))) k))
