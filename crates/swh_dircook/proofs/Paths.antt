-- What is known of the rows of a directory that a folder carries: their paths are UTF-8, and their contents are held.
use Rattle.std.proofs.Common.{◌≡◌, ℕ, arith, ◌==◌, Bool, true, false, cond, Option, Some, None, List, [], ◌∷◌, ◌++◌, refl, sym, ◌∙◌, subst}
use Rattle.std.specs.Prelude.{Contains}
use Rattle.std.specs.List.{filter_map}
use Rattle.std.specs.Str.{IsUtf8, is_utf8}
use Rattle.std.proofs.lemmas.Str.{IsUtf8-nil, IsUtf8-append, IsUtf8-from_ascii, IsUtf8-from_is_utf8, is_utf8-from_IsUtf8}
use Rattle.std.proofs.lemmas.Str.Ascii.{IsAscii-nil, IsAscii-cons}
use Rattle.std.proofs.lemmas.Bool.{eqb-true}
use Rattle.std.proofs.lemmas.List.Elements.{Contains-append_left, Contains-append_right}
use Rattle.swh_base.specs.declared.name.Name.{Name}
use Rattle.swh_base.specs.Directory.{DirectoryEntry, child_of}
use Rattle.swh_model.specs.Archive.{Bodies, IsGraphOf}
use Rattle.swh_graph.specs.Holding.{HoldsDirectory}
use Rattle.swh_graph.specs.Path.{directory_name}
use Rattle.swh_postorder.specs.Postorder.{IsPostorder}
use Rattle.swh_postorder.proofs.Preceded.{cut_at, held_in}
use Rattle.swh_postorder.proofs.Trips.{first_in}
use Rattle.swh_postorder.proofs.Orders.{order_are}
use Rattle.swh_pathwalk.specs.Tree.{Row, row_at, IsPathWalk}
use Rattle.swh_pathwalk.proofs.Weights.{kids_are, leads}
use Rattle.swh_pathwalk.specs.Held.{IsHeldOrder}
use Rattle.swh_pathwalk.proofs.Preceding.{all_preceded}
use Rattle.swh_pathwalk.proofs.Trees.{mapped_in}
use Rattle.swh_pathwalk.proofs.Rows.{each_row}
use Rattle.swh_carried.specs.Uncarried.{AreCarried, HasNoCycle}
use Rattle.swh_carried.specs.declared.fault.Why.TheVariants.{Text}
use Rattle.swh_dircook.specs.Made.{content_name, IsFileHeld}
use Rattle.swh_dircook.specs.Rules.{BreaksInFolder}

text_by : (name : List ℕ) (b : Bool) → is_utf8 name ≡ b → ((IsUtf8 name → ⊥) → ⊥) → IsUtf8 name
text_by name true is twice = IsUtf8-from_is_utf8 name is
text_by name false is twice = absurd (twice (λ text. let e : true ≡ false = sym (is_utf8-from_IsUtf8 name text) ∙ is in cc))

is_text : (name : List ℕ) → ((IsUtf8 name → ⊥) → ⊥) → IsUtf8 name
is_text name twice = text_by name (is_utf8 name) refl twice

slash_text : IsUtf8 (47 ∷ [])
slash_text = IsUtf8-from_ascii (47 ∷ []) (IsAscii-cons 47 [] (omega arith) IsAscii-nil)

content_by : (e : DirectoryEntry) (p f : Bool) → (e.mode == 160000) ≡ p → (e.mode == 40000) ≡ f → (e.mode ≡ 40000 → ⊥) → (e.mode ≡ 160000 → ⊥) → cond p None (cond f (Some (directory_name e.id)) (Some (content_name e.id))) ≡ Some (content_name e.id)
content_by e true f is _ folder project = absurd (project (eqb-true e.mode 160000 is))
content_by e false true _ is folder project = absurd (folder (eqb-true e.mode 40000 is))
content_by e false false _ _ folder project = refl

content_is : (e : DirectoryEntry) → (e.mode ≡ 40000 → ⊥) → (e.mode ≡ 160000 → ⊥) → child_of e ≡ Some (content_name e.id)
content_is e folder project = content_by e (e.mode == 160000) (e.mode == 40000) refl refl folder project

-- ---- orders

module _ (children_of : Name → Option (List Name)) (root : Name) (order : List Name) (is : IsPostorder children_of root order) where
  pub root_there : Contains order root
  root_there = (order_are children_of root order is root).1 ([], refl)

  pub held_order : HasNoCycle children_of order → IsHeldOrder children_of order
  held_order acyclic = record { some = record { root = root; is = is }; preceded = all_preceded children_of root order is acyclic }

-- ---- rows

-- what is known of a row
pub record IsFineRow (bodies : Bodies) (row : Row) : Type 0 where
  pub text : IsUtf8 row.path
  pub file : IsFileHeld bodies row.entry

module _
    (bodies : Bodies)
    (children_of : Name → Option (List Name))
    (graph : IsGraphOf bodies children_of)
    (directory : List ℕ)
    (order : List Name)
    (is : IsPostorder children_of (directory_name directory) order)
    (carried : AreCarried children_of (BreaksInFolder bodies (directory_name directory)) order)
  where
    pub held : IsHeldOrder children_of order
    held = held_order children_of (directory_name directory) order is carried.acyclic

    -- text leads to a directory in the order
    record LeadsBy (front : List ℕ) (place : Name) : Type 0 where
      pub text : IsUtf8 front
      pub id : List ℕ
      pub named : place ≡ directory_name id
      pub there : Contains order (directory_name id)

    plain_name : (id : List ℕ) (entries : List DirectoryEntry) (e : DirectoryEntry) → Contains order (directory_name id) → HoldsDirectory bodies (directory_name id) entries → Contains entries e → IsUtf8 e.name
    plain_name id entries e there holds in_it =
        is_text e.name (λ other. carried.none (directory_name id) there Text
        (record { entry = e; is_entry = record { kind = refl; body = holds.body; held = holds.held; entries = entries; is = holds.is; there = in_it }; is = other }))

    file_held : (id : List ℕ) (entries : List DirectoryEntry) (e : DirectoryEntry) → Contains order (directory_name id) → HoldsDirectory bodies (directory_name id) entries → Contains entries e → IsFileHeld bodies e
    file_held id entries e there holds in_it folder project =
        let name = content_name e.id in
        let c = cut_at order (directory_name id) there in
        let early = held.preceded c.before (directory_name id) c.behind c.cut name
        (record { kids = filter_map child_of entries; held = kids_are bodies children_of graph id entries holds; one_of = mapped_in child_of entries e name in_it (content_is e folder project) }) in
        let in_order = subst (λ (ns : List Name). Contains ns name) (sym c.cut) (Contains-append_left c.before (directory_name id ∷ c.behind) name early) in
        let kids = held_in children_of order held.some name in_order in
        let has = graph.held name kids.0 kids.1 in
        (has.0, has.1)

    fine_here : (front : List ℕ) (place : Name) (entries : List DirectoryEntry) (e : DirectoryEntry) → LeadsBy front place → HoldsDirectory bodies place entries → Contains entries e → IsFineRow bodies (row_at front e)
    fine_here front place entries e by holds in_it =
        let at = subst (λ (n : Name). HoldsDirectory bodies n entries) by.named holds in
        record { text = IsUtf8-append front e.name by.text (plain_name by.id entries e by.there at in_it); file = file_held by.id entries e by.there at in_it }

    fine_onward : (front : List ℕ) (place : Name) (entries : List DirectoryEntry) (e : DirectoryEntry) → LeadsBy front place → HoldsDirectory bodies place entries → Contains entries e → e.mode ≡ 40000 → LeadsBy ((front ++ e.name) ++ 47 ∷ []) (directory_name e.id)
    fine_onward front place entries e by holds in_it folder =
        let at = subst (λ (n : Name). HoldsDirectory bodies n entries) by.named holds in
        record {
          text = IsUtf8-append (front ++ e.name) (47 ∷ []) (IsUtf8-append front e.name by.text (plain_name by.id entries e by.there at in_it)) slash_text;
          id = e.id;
          named = refl;
          there = leads bodies children_of graph order held.preceded by.id entries e by.there at in_it folder;
        }

    pub fine_row : (rows : List Row) → IsPathWalk bodies (directory_name directory) rows → (row : Row) → Contains rows row → IsFineRow bodies row
    fine_row rows walk row there =
        each_row bodies LeadsBy (IsFineRow bodies) fine_here fine_onward (directory_name directory) rows
        (record { text = IsUtf8-nil; id = directory; named = refl; there = root_there children_of (directory_name directory) order is }) walk row there

    -- the row that is given next
    pub fine_next : (rows given : List Row) (row : Row) (rest : List Row) → IsPathWalk bodies (directory_name directory) rows → rows ≡ given ++ row ∷ rest → IsFineRow bodies row
    fine_next rows given row rest walk cut =
        fine_row rows walk row (subst (λ (l : List Row). Contains l row) (sym cut) (Contains-append_right given (row ∷ rest) row (first_in row rest)))
