-- The bytes that the front of a text spells: there is one list of them, and what follows it tells whether it is a path.
use Rattle.std.proofs.Common.{◌≡◌, ◌≢◌, ◌⊎◌, ℕ, ◌-◌, ◌<◌, ◌≤◌, Bool, true, false, MatchBool, inl, inr, List, [], ◌∷◌, ◌++◌, length, drop, map, Contains, refl, sym, ap, ◌∙◌, subst, arith, append_assoc}
use Rattle.std.specs.List.{flat_map}
use Rattle.swh_base.proofs.Middle.{in_middle}
use Rattle.swh_base.proofs.Splits.{first_split}
use Rattle.swh_base.specs.Limits.{path_limit}
use Rattle.swh_base.proofs.Elementary.{append_nil}
use Rattle.swh_fastlex.specs.Path.{piece_text, piece_byte, IsQuoted, IsPlain, Spells, SpellsPath, RunsQuoted, RunsPlain, RunsPath, PassesPath}
use Rattle.swh_fastlex.proofs.Pieces.{NoPiece, no_quote_piece, same_pieces, left_over, plain_no_quote}

one_plain : (stop : ℕ) (p q x y : List ℕ) → (Contains p stop → ⊥) → (Contains q stop → ⊥) → p ++ x ≡ q ++ y → ((x ≡ []) ⊎ ((more : List ℕ) × (x ≡ stop ∷ more))) → ((y ≡ []) ⊎ ((more : List ℕ) × (y ≡ stop ∷ more))) → (p ≡ q) × (x ≡ y)
one_plain stop p q x y np nq e (inl a) (inl b) =
    (sym (append_nil p) ∙ ap (λ (t : List ℕ). p ++ t) (sym a) ∙ e ∙ ap (λ (t : List ℕ). q ++ t) b ∙ append_nil q, a ∙ sym b)
one_plain stop p q x y np nq e (inl a) (inr (more, b)) =
    let whole : p ≡ q ++ stop ∷ more = sym (append_nil p) ∙ ap (λ (t : List ℕ). p ++ t) (sym a) ∙ e ∙ ap (λ (t : List ℕ). q ++ t) b in
    absurd (np (subst (λ (t : List ℕ). Contains t stop) (sym whole) (in_middle q more stop)))
one_plain stop p q x y np nq e (inr (more, a)) (inl b) =
    let whole : q ≡ p ++ stop ∷ more = sym (append_nil q) ∙ ap (λ (t : List ℕ). q ++ t) (sym b) ∙ sym e ∙ ap (λ (t : List ℕ). p ++ t) a in
    absurd (nq (subst (λ (t : List ℕ). Contains t stop) (sym whole) (in_middle p more stop)))
one_plain stop p q x y np nq e (inr (more, a)) (inr (rest, b)) =
    let both = first_split stop p q more rest np nq (ap (λ (t : List ℕ). p ++ t) (sym a) ∙ e ∙ ap (λ (t : List ℕ). q ++ t) b) in
    (both.0, a ∙ ap (λ (t : List ℕ). stop ∷ t) both.1 ∙ sym b)

-- A text has one run, up to one place.
pub one_run : (stop : ℕ) (text p q x y : List ℕ) → RunsPath stop text p x → RunsPath stop text q y → (p ≡ q) × (x ≡ y)
one_run stop text p q x y (inl a) (inl b) =
    let both : 34 ∷ (flat_map piece_text a.pieces ++ x) ≡ 34 ∷ (flat_map piece_text b.pieces ++ y) = sym a.cut ∙ b.cut in
    let same = same_pieces a.pieces b.pieces x y a.are b.are a.ends b.ends (cc) in
    (a.means ∙ ap (map piece_byte) same.0 ∙ sym b.means, same.1)
one_run stop text p q x y (inl a) (inr b) = absurd (b.no_quote _ a.cut)
one_run stop text p q x y (inr a) (inl b) = absurd (a.no_quote _ b.cut)
one_run stop text p q x y (inr a) (inr b) = one_plain stop p q x y a.no_stop b.no_stop (sym a.cut ∙ b.cut) a.ends b.ends

-- a run told by whether the text begins with a quote
abbrev pub Run : Bool → ℕ → List ℕ → List ℕ → List ℕ → Type 0
Run quoted stop text path rest = MatchBool quoted (RunsQuoted text path rest) (RunsPlain stop text path rest)

as_run : (quoted : Bool) (stop : ℕ) (text path rest : List ℕ) → Run quoted stop text path rest → RunsPath stop text path rest
as_run true stop text path rest r = inl r
as_run false stop text path rest r = inr r

pub passes_not : (quoted : Bool) (stop : ℕ) (text path rest : List ℕ) → Run quoted stop text path rest → length path ≤ path_limit → (number : ℕ) → PassesPath stop text number → ⊥
passes_not quoted stop text path rest r le number h =
    let same = one_run stop text path h.path rest h.rest (as_run quoted stop text path rest r) h.runs in
    let count = h.count in
    let above = h.above in
    let long = ap length same.0 in
    omega (arith, count, above, long, le)

no_piece_quote : (rest : List ℕ) → NoPiece (34 ∷ rest)
no_piece_quote rest = λ piece more is e. no_quote_piece piece more rest is (sym e)

-- What a text in quotes spells is its run, up to the closing quote.
quoted_run : (text path : List ℕ) → IsQuoted text path → RunsQuoted text path (34 ∷ [])
quoted_run text path q = record { pieces = q.pieces; are = q.are; cut = q.spelled; means = q.means; ends = no_piece_quote [] }

plain_run : (stop : ℕ) (text path : List ℕ) → IsPlain stop text path → RunsPlain stop text path []
plain_run stop text path p = record {
  cut = sym p.same ∙ sym (append_nil path);
  no_stop = subst (λ (t : List ℕ). Contains t stop → ⊥) (sym p.same) p.no_stop;
  no_quote = p.no_quote;
  ends = inl refl;
}

-- what follows the run of a text that is a whole spelling
abbrev pub Ends : Bool → List ℕ → Type 0
Ends quoted rest = MatchBool quoted (rest ≡ 34 ∷ []) (rest ≡ [])

pub run_whole : (quoted : Bool) (stop : ℕ) (text path rest : List ℕ) → Run quoted stop text path rest → Ends quoted rest → Spells stop text path
run_whole true stop text path rest r e = inl (record { pieces = r.pieces; are = r.are; spelled = r.cut ∙ ap (λ (t : List ℕ). 34 ∷ (flat_map piece_text r.pieces ++ t)) e; means = r.means })
run_whole false stop text path rest r e =
    let same : text ≡ path = r.cut ∙ ap (λ (t : List ℕ). path ++ t) e ∙ append_nil path in
    inr (record { same = sym same; no_stop = subst (λ (t : List ℕ). Contains t stop → ⊥) (sym same) r.no_stop; no_quote = r.no_quote })

pub whole_run : (quoted : Bool) (stop : ℕ) (text path rest other : List ℕ) → Run quoted stop text path rest → Spells stop text other → (path ≡ other) × Ends quoted rest
whole_run true stop text path rest other r (inl q) = one_run stop text path other rest (34 ∷ []) (inl r) (inl (quoted_run text other q))
whole_run true stop text path rest other r (inr p) = absurd (p.no_quote _ r.cut)
whole_run false stop text path rest other r (inl q) = absurd (r.no_quote _ q.spelled)
whole_run false stop text path rest other r (inr p) = one_run stop text path other rest [] (inr r) (inr (plain_run stop text other p))

-- what follows the run of a text whose spelling the byte `stop` ends
abbrev pub EndsBefore : Bool → ℕ → List ℕ → List ℕ → Type 0
EndsBefore quoted stop rest after = MatchBool quoted (rest ≡ 34 ∷ stop ∷ after) (rest ≡ stop ∷ after)

front_quote : (spelling more text rest : List ℕ) (stop : ℕ) → text ≡ spelling ++ stop ∷ more → spelling ≡ 34 ∷ rest → text ≡ 34 ∷ (rest ++ stop ∷ more)
front_quote spelling more text rest stop cut e = cut ∙ ap (λ (t : List ℕ). t ++ stop ∷ more) e

spelled_before : (stop : ℕ) (text path spelling after : List ℕ) (n : ℕ) → text ≡ spelling ++ stop ∷ after → Spells stop spelling path → n ≡ length text - length after → SpellsPath stop text path (drop n text)
spelled_before stop text path spelling after n cut form count =
    let left = left_over (spelling ++ stop ∷ []) after n text (cut ∙ sym (append_assoc spelling (stop ∷ []) after)) count in
    record { spelling = spelling; cut = cut ∙ ap (λ (t : List ℕ). spelling ++ stop ∷ t) (sym left); form = form }

pub run_before : (quoted : Bool) (stop : ℕ) (text path rest after : List ℕ) (n : ℕ) → Run quoted stop text path rest → EndsBefore quoted stop rest after → n ≡ length text - length after → SpellsPath stop text path (drop n text)
run_before true stop text path rest after n r e count =
    let spelling : List ℕ = 34 ∷ (flat_map piece_text r.pieces ++ 34 ∷ []) in
    let cut : text ≡ spelling ++ stop ∷ after = r.cut ∙ ap (λ (t : List ℕ). 34 ∷ (flat_map piece_text r.pieces ++ t)) e ∙ ap (λ (t : List ℕ). 34 ∷ t) (sym (append_assoc (flat_map piece_text r.pieces) (34 ∷ []) (stop ∷ after))) in
    spelled_before stop text path spelling after n cut (inl (record { pieces = r.pieces; are = r.are; spelled = refl; means = r.means })) count
run_before false stop text path rest after n r e count =
    let cut : text ≡ path ++ stop ∷ after = r.cut ∙ ap (λ (t : List ℕ). path ++ t) e in
    spelled_before stop text path path after n cut (inr (record { same = refl; no_stop = r.no_stop; no_quote = λ more f. r.no_quote _ (front_quote path after text more stop cut f) })) count

quoted_before : (stop : ℕ) (text path spelling after : List ℕ) → text ≡ spelling ++ stop ∷ after → IsQuoted spelling path → RunsQuoted text path (34 ∷ stop ∷ after)
quoted_before stop text path spelling after cut q = record {
  pieces = q.pieces;
  are = q.are;
  cut = cut ∙ ap (λ (t : List ℕ). t ++ stop ∷ after) q.spelled ∙ ap (λ (t : List ℕ). 34 ∷ t) (append_assoc (flat_map piece_text q.pieces) (34 ∷ []) (stop ∷ after));
  means = q.means;
  ends = no_piece_quote (stop ∷ after);
}

plain_before : (stop : ℕ) (text path spelling after : List ℕ) → stop ≢ 34 → text ≡ spelling ++ stop ∷ after → IsPlain stop spelling path → RunsPlain stop text path (stop ∷ after)
plain_before stop text path spelling after n cut p = record {
  cut = cut ∙ ap (λ (t : List ℕ). t ++ stop ∷ after) (sym p.same);
  no_stop = subst (λ (t : List ℕ). Contains t stop → ⊥) (sym p.same) p.no_stop;
  no_quote = λ more e. plain_no_quote stop spelling path after more n p (sym cut ∙ e);
  ends = inr (after, refl);
}

pub before_run : (quoted : Bool) (stop : ℕ) (text path rest other after : List ℕ) → stop ≢ 34 → Run quoted stop text path rest → SpellsPath stop text other after → (path ≡ other) × EndsBefore quoted stop rest after
before_run true stop text path rest other after n r h =
    elim h.form [
      | inl q ↦ one_run stop text path other rest (34 ∷ stop ∷ after) (inl r) (inl (quoted_before stop text other h.spelling after h.cut q))
      | inr p ↦ absurd (plain_no_quote stop h.spelling other after _ n p (sym h.cut ∙ r.cut))
    ]
before_run false stop text path rest other after n r h =
    elim h.form [
      | inl q ↦ absurd (r.no_quote _ (quoted_before stop text other h.spelling after h.cut q).cut)
      | inr p ↦ one_run stop text path other rest (stop ∷ after) (inr r) (inr (plain_before stop text other h.spelling after n h.cut p))
    ]
