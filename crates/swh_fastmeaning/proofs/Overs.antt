-- Contents that are added behind one that is above the limit.
use Rattle.std.proofs.Common.{◌≡◌, ℕ, true, false, List, [], ◌∷◌, ◌++◌, Option, Some, None, ap, ◌∙◌, append_assoc}
use Rattle.std.specs.Option.{is_some}
use Rattle.swh_base.specs.declared.entry.Entry.{Entry}
use Rattle.swh_model.specs.Meaning.{Made}
use Rattle.swh_fastmeaning.specs.Changes.{HoldsContents}

-- The first that is above the limit stays the first.
pub still_over : (ms : List Made) (m : Made) (objects : List Entry) (over : Option ℕ) → is_some over ≡ true → HoldsContents ms objects over → HoldsContents (ms ++ m ∷ []) objects over
still_over ms m objects None e h = let n : false ≡ true = e in absurd cc
still_over ms m objects (Some number) e h = record {
  before = h.before;
  object = h.object;
  after = h.after ++ m ∷ [];
  cut = ap (λ (t : List Made). t ++ m ∷ []) h.cut ∙ append_assoc h.before (h.object ∷ h.after) (m ∷ []);
  short = h.short;
  long = h.long;
  above = h.above;
}
