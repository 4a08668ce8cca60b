-- The lines of a listing, one after another.
use Rattle.std.proofs.Common.{◌≡◌, inr, ℕ, List, [], ◌∷◌, ◌++◌, Option, Some, None, length, take, Result, refl, sym, ap, ◌∙◌, subst}
use Rattle.std.specs.Prelude.{IsErr, ⊤}
use Rattle.std.specs.List.{cons_option}
use Rattle.std.proofs.Math.Seq.{take-append_seam}
use Rattle.std.proofs.lemmas.List.{append-nil}
use Rattle.std.proofs.lemmas.List.Elements.{filter_map-append}
use Rattle.std.proofs.lemmas.Grind.{flat_map-append}
use Rattle.std.proofs.lemmas.Result.{IfOk-from_err, MatchResult-from_err}
use Rattle.swh_model.specs.Archive.{Bodies}
use Rattle.swh_listing.specs.declared.listed.Listed.{Listed}
use Rattle.swh_outside.specs.Sink.{Begun, FileAt}
use Rattle.swh_pathwalk.specs.Tree.{Row}
use Rattle.swh_pathwalk.specs.Walk.{Coming}
use Rattle.swh_pathwalk.specs.Held.{IsAt}
use Rattle.swh_fastwrite.specs.Held.{AddsUp, Kept, kept, Goes, Wrote}
use Rattle.swh_fastwrite.specs.Sinks.{IntoSink, FrontIntoSink}
use Rattle.swh_fastwrite.proofs.Pieces.{goes_appended, goes_both, front_behind, front_more, front_none}
use Rattle.swh_dircook.specs.Listing.{listed_of, all_listed, listed_line, line_or_none, lines_text, listing_text}
use Rattle.swh_dircook.specs.Made.{FileMade, yarded, after_made, MakesSome}
use Rattle.swh_dircook.proofs.YardParts.{same_yarded}

-- the line of a row
abbrev pub line_of : Row → List ℕ
line_of row = line_or_none (listed_of row)

pub listing_both : (xs ys : List Row) → listing_text (xs ++ ys) ≡ listing_text xs ++ listing_text ys
listing_both xs ys = ap lines_text (filter_map-append listed_of xs ys) ∙ flat_map-append listed_line (all_listed xs) (all_listed ys)

one_by : (o : Option Listed) → lines_text (cons_option o []) ≡ line_or_none o
one_by None = refl
one_by (Some l) = append-nil (listed_line l)

pub one_line : (row : Row) → listing_text (row ∷ []) ≡ line_of row
one_line row = one_by (listed_of row)

pub listing_next : (given : List Row) (row : Row) → listing_text (given ++ row ∷ []) ≡ listing_text given ++ line_of row
listing_next given row = listing_both given (row ∷ []) ∙ ap (λ (l : List ℕ). listing_text given ++ l) (one_line row)

pub listing_cut : (given : List Row) (row : Row) (rest : List Row) → listing_text (given ++ row ∷ rest) ≡ listing_text given ++ (line_of row ++ listing_text rest)
listing_cut given row rest =
    listing_both given (row ∷ rest)
    ∙ ap (λ (l : List ℕ). listing_text given ++ l) (listing_both (row ∷ []) rest ∙ ap (λ (l : List ℕ). l ++ listing_text rest) (one_line row))

module _ {T : Type 0} (takes front : T → List ℕ → T → Type 0) where
  -- a text was broken off
  pub wrote_front : {A E : Type 0} (old : Kept T) (text : List ℕ) (new : Kept T) (result : Result A E) → IsErr result → front old.taker (old.held ++ text) new.taker → Wrote takes front old text new result
  wrote_front old text new result is_err f = record {
    ok = IfOk-from_err result (λ _. Goes takes front old text new) is_err;
    err = MatchResult-from_err result (λ _. ⊤) (λ _. front old.taker (old.held ++ text) new.taker) is_err (λ _. f);
  }

  -- what was appended to what is held, and taken where it is enough
  module _ (sums : AddsUp takes front) (t : T) (held line more : List ℕ) (is : more ≡ held ++ line) where
    appended : Goes takes front (kept t held) line (kept t more)
    appended = subst (λ (l : List ℕ). Goes takes front (kept t held) line (kept t l)) (sym is) (goes_appended takes front sums t held line)

    settled : (new : Kept T) → Goes takes front (kept t more) [] new → Goes takes front (kept t held) line new
    settled new goes =
        subst (λ (l : List ℕ). Goes takes front (kept t held) l new) (append-nil line)
        (goes_both takes front sums (kept t held) (kept t more) new line [] appended goes)

    unsettled : (behind : List ℕ) (new : T) → front t (more ++ []) new → front t (held ++ (line ++ behind)) new
    unsettled behind new f =
        front_more takes front sums (kept t held) new line behind
        (subst (λ (l : List ℕ). front t (held ++ l) new) (append-nil line)
        (front_behind takes front sums (kept t held) (kept t more) new line [] appended f))

  module _ (sums : AddsUp takes front) (bodies : Bodies) (init : Kept T) (t : T) (held : List ℕ) (all given : List Row) (levels : List Coming) (at : IsAt bodies all given levels) (goes : Goes takes front init (listing_text given) (kept t held)) where
    -- nothing more was taken
    pub listing_at : front init.taker (init.held ++ listing_text all) t
    listing_at =
        subst (λ (l : List ℕ). front init.taker (init.held ++ l) t) (sym (ap listing_text at.cut ∙ listing_both given at.rest))
        (front_behind takes front sums init (kept t held) t (listing_text given) (listing_text at.rest) goes (front_none takes front sums (kept t held) (listing_text at.rest)))

    -- a front was taken with a line behind
    pub listing_some : (row : Row) (rest : List Row) (more : List ℕ) (new : T) → all ≡ given ++ row ∷ rest → more ≡ held ++ line_of row → front t (more ++ []) new → front init.taker (init.held ++ listing_text all) new
    listing_some row rest more new cut is f =
        subst (λ (l : List ℕ). front init.taker (init.held ++ l) new) (sym (ap listing_text cut ∙ listing_cut given row rest))
        (front_behind takes front sums init (kept t held) new (listing_text given) (line_of row ++ listing_text rest) goes (unsettled sums t held (line_of row) more is (listing_text rest) new f))

    -- a line was written
    pub listing_more : (row : Row) (more : List ℕ) (new : Kept T) → more ≡ held ++ line_of row → Goes takes front (kept t more) [] new → Goes takes front init (listing_text (given ++ row ∷ [])) new
    listing_more row more new is g =
        subst (λ (l : List ℕ). Goes takes front init l new) (sym (listing_next given row))
        (goes_both takes front sums init (kept t held) new (listing_text given) (line_of row) goes (settled sums t held (line_of row) more is new g))

-- ---- the listing in a yard

taken_all : (text taken : List ℕ) → [] ++ text ≡ taken ++ [] → taken ≡ text
taken_all text taken is = sym (append-nil taken) ∙ sym is

front_is : (taken rest text : List ℕ) → text ≡ taken ++ rest → taken ≡ take (length taken) text
front_is taken rest text is = sym (ap (λ (l : List ℕ). take (length taken) l) is ∙ take-append_seam taken rest)

module _ {Y H : Type 0} (tells : Type 0) (taken_of : Y → List ℕ) (begun_of : Y → List Begun) (heard_of : Y → H) (sums : AddsUp (IntoSink tells taken_of begun_of heard_of) (FrontIntoSink tells taken_of begun_of heard_of)) where
  abbrev Into : Y → List ℕ → Y → Type 0
  Into = IntoSink tells taken_of begun_of heard_of

  abbrev Front : Y → List ℕ → Y → Type 0
  Front = FrontIntoSink tells taken_of begun_of heard_of

  -- a yard after all of a text, where nothing was held and nothing is held any more
  pub into_whole : (a b c : Y) (text none held left : List ℕ) → none ≡ [] → Goes Into Front (kept a none) text (kept b held) → Goes Into Front (kept b held) [] (kept c left) → left ≡ [] → Into a text c
  into_whole a b c text none held left nothing first last empty =
      let both = goes_both Into Front sums (kept a none) (kept b held) (kept c left) text [] first last in
      let is : [] ++ (text ++ []) ≡ both.taken ++ [] = ap (λ (l : List ℕ). l ++ (text ++ [])) (sym nothing) ∙ both.is ∙ ap (λ (l : List ℕ). both.taken ++ l) empty in
      subst (λ (l : List ℕ). Into a l c) (taken_all (text ++ []) both.taken is ∙ append-nil text) both.took

  -- a front of a text that was not yet taken whole
  pub into_front : (a b c : Y) (text none held : List ℕ) → none ≡ [] → Goes Into Front (kept a none) text (kept b held) → Front b (held ++ []) c → Front a text c
  into_front a b c text none held nothing first last =
      subst (λ (l : List ℕ). Front a l c) (ap (λ (l : List ℕ). l ++ (text ++ [])) nothing ∙ append-nil text) (front_behind Into Front sums (kept a none) (kept b held) c text [] first last)

  pub front_at : (a c : Y) (text none : List ℕ) → none ≡ [] → Front a (none ++ text) c → Front a text c
  front_at a c text none nothing f = subst (λ (l : List ℕ). Front a l c) (ap (λ (l : List ℕ). l ++ text) nothing) f

  module _ (place text : List ℕ) (old begun new : Y) (told : tells) (made : begun_of begun ≡ begun_of old ++ FileAt place (length (taken_of old)) ∷ []) (same : taken_of begun ≡ taken_of old) where
    pub listing_made : Into begun text new → yarded (begun_of new) (taken_of new) ≡ after_made (yarded (begun_of old) (taken_of old)) (FileMade place text ∷ [])
    listing_made into =
        same_yarded (begun_of new) (begun_of old ++ FileAt place (length (taken_of old)) ∷ []) (taken_of new) (taken_of old ++ text) (into.begun_same ∙ made)
        (into.bytes told ∙ ap (λ (l : List ℕ). l ++ text) same)

    pub listing_part : Front begun text new → MakesSome (yarded (begun_of old) (taken_of old)) (FileMade place text ∷ []) (yarded (begun_of new) (taken_of new))
    listing_part into =
        let f = into.bytes told in
        let count = length f.taken in
        record {
          some = FileMade place (take count text) ∷ [];
          front = record { before = []; behind = FileMade place text ∷ []; cut = refl; is = inr (place, text, count, [], refl, refl) };
          is =
              same_yarded (begun_of new) (begun_of old ++ FileAt place (length (taken_of old)) ∷ []) (taken_of new) (taken_of old ++ take count text) (into.begun_same ∙ made)
              (f.is ∙ ap (λ (l : List ℕ). l ++ f.taken) same ∙ ap (λ (l : List ℕ). taken_of old ++ l) (front_is f.taken f.front.rest text f.front.is));
        }
