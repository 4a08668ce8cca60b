-- How far one has come on a path, and what is answered there.
use Rattle.std.proofs.Common.{◌≡◌, inl, inr, ℕ, ◌+◌, ◌<◌, ◌≤◌, ◌^◌, List, [], ◌∷◌, ◌++◌, length, refl, sym, ap, ◌∙◌, subst, arith, append_assoc, length-append}
use Rattle.std.specs.Prelude.{Contains, ◌≢◌}
use Rattle.std.proofs.lemmas.List.{append-nil}
use Rattle.swh_base.specs.declared.name.Name.{Name}
use Rattle.swh_base.specs.Directory.{DirectoryEntry}
use Rattle.swh_base.proofs.Elementary.{none_in}
use Rattle.swh_model.specs.Archive.{Bodies}
use Rattle.swh_graph.specs.Answer.{Refuses}
use Rattle.swh_graph.specs.Path.{target_of, AreComponents, HasEntry, Follows, Passes, IsEntryAt, IsPathGap, LeadsNowhere, IsPathAnswer}
use Rattle.swh_graph.specs.Way.{StepFails, Arrives}
use Rattle.swh_graph.specs.declared.fault.GraphFault.{GraphFault}
use Rattle.swh_graph.specs.declared.fault.GraphFault.TheVariants.{NotHeld, NoPath, Memory}
use Rattle.swh_graph.proofs.Lists.{in_cases, same_or_not}
use Rattle.swh_graph.specs.Holding.{HoldsDirectory}
use Rattle.swh_graph.proofs.OnePath.{slashed, ArePlain, one_held_directory}

-- ---- components

abbrev IsPlain : List ℕ → Type 0
IsPlain component = Contains component 47 → ⊥

slashed_push : (cs : List (List ℕ)) (c : List ℕ) → slashed (cs ++ c ∷ []) ≡ slashed cs ++ 47 ∷ c
slashed_push [] c = ap (λ (x : List ℕ). 47 ∷ x) (append-nil c)
slashed_push (b ∷ cs) c = ap (λ (x : List ℕ). (47 ∷ b) ++ x) (slashed_push cs c) ∙ sym (append_assoc (47 ∷ b) (slashed cs) (47 ∷ c))

slashed_append : (cs ds : List (List ℕ)) → slashed (cs ++ ds) ≡ slashed cs ++ slashed ds
slashed_append [] ds = refl
slashed_append (b ∷ cs) ds = ap (λ (x : List ℕ). (47 ∷ b) ++ x) (slashed_append cs ds) ∙ sym (append_assoc (47 ∷ b) (slashed cs) (slashed ds))

plain_append : (cs ds : List (List ℕ)) → ArePlain cs → ArePlain ds → ArePlain (cs ++ ds)
plain_append [] ds p q = q
plain_append (c ∷ cs) ds p q = (p.0, plain_append cs ds p.1 q)

-- a text, cut at each of its slashes
record IsCut (text first : List ℕ) (more : List (List ℕ)) : Type 0 where
  text_is : text ≡ first ++ slashed more
  first_plain : IsPlain first
  more_plain : ArePlain more

one_more : (b : ℕ) → (b ≡ 47 → ⊥) → (first : List ℕ) → IsPlain first → IsPlain (b ∷ first)
one_more b other first plain h = elim (in_cases b first 47 h) [ inl is ↦ other is | inr more ↦ plain more ]

cut : (text : List ℕ) → (first : List ℕ) × ((more : List (List ℕ)) × IsCut text first more)
cut [] = ([], ([], record { text_is = refl; first_plain = λ h. none_in 47 h; more_plain = tt }))
cut (b ∷ text) =
    let rest = cut text in
    elim (same_or_not b 47) [
      | inl is ↦ (
        [],
        (
          rest.0 ∷ rest.1.0,
          record {
            text_is = ap (λ (x : ℕ). x ∷ text) is ∙ ap (λ (x : List ℕ). 47 ∷ x) rest.1.1.text_is;
            first_plain = λ h. none_in 47 h;
            more_plain = (rest.1.1.first_plain, rest.1.1.more_plain);
          },
        ),
      )
      | inr other ↦ (
        b ∷ rest.0,
        (
          rest.1.0,
          record {
            text_is = ap (λ (x : List ℕ). b ∷ x) rest.1.1.text_is;
            first_plain = one_more b other rest.0 rest.1.1.first_plain;
            more_plain = rest.1.1.more_plain;
          },
        ),
      )
    ]

-- each path has components
pub path_components : (path : List ℕ) → (components : List (List ℕ)) × AreComponents path components
path_components path =
    let c = cut path in
    (c.0 ∷ c.1.0, record { text = ap (λ (x : List ℕ). 47 ∷ x) c.1.1.text_is; plain = (c.1.1.first_plain, c.1.1.more_plain) })

-- ---- a way

follows_push : (bodies : Bodies) (cs : List (List ℕ)) (from place : Name) (c : List ℕ) (entry : DirectoryEntry) → Follows bodies from cs place → HasEntry bodies place c entry
    → Follows bodies from (cs ++ c ∷ []) (target_of entry)
follows_push bodies [] from place c entry f has = (entry, (subst (λ (n : Name). HasEntry bodies n c entry) (sym f) has, refl))
follows_push bodies (b ∷ cs) from place c entry f has = (f.0, (f.1.0, follows_push bodies cs (target_of f.0) place c entry f.1.1 has))

-- an entry leads on to what it is the entry of
pub entry_leads : (bodies : Bodies) (root : Name) (cs : List (List ℕ)) (entry : DirectoryEntry) → IsEntryAt bodies root cs entry → Follows bodies root cs (target_of entry)
entry_leads bodies root cs entry is =
    subst (λ (xs : List (List ℕ)). Follows bodies root xs (target_of entry)) (sym is.cut) (follows_push bodies is.before root is.place is.last entry is.follows is.is)

-- a directory without an entry of the name
pub nowhere_in : (bodies : Bodies) (place : Name) (component : List ℕ) (entries : List DirectoryEntry) → HoldsDirectory bodies place entries
    → ((entry : DirectoryEntry) → Contains entries entry → entry.name ≢ component) → LeadsNowhere bodies place component
nowhere_in bodies place component entries holds none = inr (
  (holds.body, holds.held),
  λ entry has. none entry (subst (λ (es : List DirectoryEntry). Contains es entry) (one_held_directory bodies place has.entries entries has.holds holds) has.there) has.named,
)

module _ (bodies : Bodies) (root : Name) (path : List ℕ) where
  -- So many components lead to this place, and this is left of the path.
  pub record IsOnWay (place : Name) (number : ℕ) (rest : List ℕ) : Type 0 where
    pub before : List (List ℕ)
    pub text : 47 ∷ path ≡ slashed before ++ 47 ∷ rest
    pub plain : ArePlain before
    pub follows : Follows bodies root before place
    pub number_is : number ≡ length before
    pub room : number + length rest ≤ length path

  module _ (place : Name) (number : ℕ) (rest : List ℕ) (w : IsOnWay place number rest) where
    pub way_goes_on : (component behind : List ℕ) (entry : DirectoryEntry) → IsPlain component → rest ≡ component ++ 47 ∷ behind → HasEntry bodies place component entry
        → IsOnWay (target_of entry) (number + 1) behind
    way_goes_on component behind entry plain is has = record {
      before = w.before ++ component ∷ [];
      text = w.text ∙ ap (λ (x : List ℕ). slashed w.before ++ 47 ∷ x) is ∙ sym (append_assoc (slashed w.before) (47 ∷ component) (47 ∷ behind)) ∙ ap (λ (x : List ℕ). x ++ 47 ∷ behind) (sym (slashed_push w.before component));
      plain = plain_append w.before (component ∷ []) w.plain (plain, tt);
      follows = follows_push bodies w.before root place component entry w.follows has;
      number_is = let n = w.number_is in let long = length-append w.before (component ∷ []) in omega (arith, n, long);
      room = let r = w.room in let long = ap length is in omega (arith, r, long, length-append component (47 ∷ behind));
    }

    pub way_arrives : (entry : DirectoryEntry) → IsPlain rest → HasEntry bodies place rest entry → length path < 2 ^ 63 → Arrives bodies root path entry number
    way_arrives entry plain has short = record {
      components = w.before ++ rest ∷ [];
      are = record { text = w.text ∙ sym (slashed_push w.before rest); plain = plain_append w.before (rest ∷ []) w.plain (plain, tt) };
      is = record { before = w.before; last = rest; cut = refl; place = place; follows = w.follows; is = has };
      number_is = let n = w.number_is in let long = length-append w.before (rest ∷ []) in omega (arith, n, long);
      small = let r = w.room in omega (arith, r, short);
    }

    -- the path's components, of which this is the next
    module _ (component : List ℕ) (behind : List (List ℕ)) (plain : IsPlain component) (plain_behind : ArePlain behind) (is : rest ≡ component ++ slashed behind) where
      are_components : AreComponents path (w.before ++ component ∷ behind)
      are_components = record {
        text = w.text ∙ ap (λ (x : List ℕ). slashed w.before ++ 47 ∷ x) is ∙ sym (slashed_append w.before (component ∷ behind));
        plain = plain_append w.before (component ∷ behind) w.plain (plain, plain_behind);
      }

      passes : Passes bodies root (w.before ++ component ∷ behind) w.before place component
      passes = record { behind = behind; cut = refl; follows = w.follows }

      pub way_fails : (fault : GraphFault) → StepFails bodies place component number fault → Refuses (IsPathAnswer bodies root path) fault
      way_fails (NotHeld name) why = record {
        components = w.before ++ component ∷ behind;
        are = are_components;
        is = subst (IsPathGap bodies root (w.before ++ component ∷ behind)) (sym why.0) (record { before = w.before; next = component; passes = passes; folder = why.1; missing = why.2 });
      }
      way_fails (NoPath found) why = record {
        components = w.before ++ component ∷ behind;
        are = are_components;
        is = record { before = w.before; next = component; place = place; passes = passes; number_is = why.0 ∙ w.number_is; nowhere = why.1 };
      }
      way_fails Memory why = tt

    -- the component before a slash leads nowhere
    pub fails_within : (component behind : List ℕ) → IsPlain component → rest ≡ component ++ 47 ∷ behind → (fault : GraphFault) → StepFails bodies place component number fault
        → Refuses (IsPathAnswer bodies root path) fault
    fails_within component behind plain is fault why =
        let c = cut behind in
        way_fails component (c.0 ∷ c.1.0) plain (c.1.1.first_plain, c.1.1.more_plain) (is ∙ ap (λ (x : List ℕ). component ++ 47 ∷ x) c.1.1.text_is) fault why

    -- the last component leads nowhere
    pub fails_at_end : IsPlain rest → (fault : GraphFault) → StepFails bodies place rest number fault → Refuses (IsPathAnswer bodies root path) fault
    fails_at_end plain fault why = way_fails rest [] plain tt (sym (append-nil rest)) fault why
