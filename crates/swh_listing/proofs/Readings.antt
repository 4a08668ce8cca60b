-- Lines that were read, and one more.
use Rattle.std.proofs.Common.{◌≡◌, ℕ, ◌+◌, List, [], ◌∷◌, ◌++◌, refl, sym, ap, subst}
use Rattle.swh_listing.specs.declared.listed.Listed.{Listed}
use Rattle.swh_listing.specs.Line.{SaysListed}
use Rattle.swh_listing.specs.Listing.{TakesLine, behind, Reads}

pub one_more : (at : ℕ) (text : List ℕ) (lines : List Listed) (here : ℕ) (rest line next : List ℕ) (listed : Listed) → Reads at text lines here rest → TakesLine here rest line next → SaysListed line listed → Reads at text (lines ++ listed ∷ []) (behind here line) next
one_more at text [] here rest line next listed r takes says =
    let moved = subst (λ (n : ℕ). TakesLine n rest line next) (sym r.0) takes in
    (line, next, subst (λ (t : List ℕ). TakesLine at t line next) (sym r.1) moved, says, (ap (λ (n : ℕ). behind n line) r.0, refl))
one_more at text (l ∷ lines) here rest line next listed r takes says = (r.0, r.1, r.2, r.3, one_more (behind at r.0) r.1 lines here rest line next listed r.4 takes says)

pub none_left : (held left : List ℕ) → held ++ left ≡ [] → left ≡ []
none_left [] left e = e
none_left (c ∷ held) left e = absurd cc
