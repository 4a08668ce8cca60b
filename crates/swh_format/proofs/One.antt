-- A file stands for one list of records.
use Rattle.std.proofs.Common.{◌≡◌, ◌≢◌, ℕ, ◌<◌, ◌^◌, List, [], ◌∷◌, ◌++◌, length, drop, refl, sym, ◌∙◌, ap, append_assoc}
use Rattle.swh_format.specs.Record.{Record, body, coded, front, Stands, HaveCodableLengths}
use Rattle.swh_format.proofs.Cuts.{same_head}
use Rattle.swh_format.proofs.Unique.{same_frame}

-- two bodies with anything after them
same_body : (r s : Record) (x y : List ℕ) → length r.payload < 2 ^ 32 → length s.payload < 2 ^ 32 → body r ++ x ≡ body s ++ y → (r ≡ s) × (x ≡ y)
same_body r s x y short short' same =
    let frames = same_frame r.kind s.kind r.payload s.payload x y short short' same in
    ((λ i. record { kind = frames.0 i; payload = frames.1 i }), frames.2)

same_coded : (rs ss : List Record) (g h : ℕ) (x y : List ℕ) → HaveCodableLengths rs → HaveCodableLengths ss → g ≢ 1 → h ≢ 1 → coded rs ++ g ∷ x ≡ coded ss ++ h ∷ y → rs ≡ ss
same_coded [] [] g h x y short short' shut shut' same = refl
same_coded [] (s ∷ ss) g h x y short short' shut shut' same = absurd (shut (same_head g 1 _ _ same))
same_coded (r ∷ rs) [] g h x y short short' shut shut' same = absurd (shut' (same_head h 1 _ _ (sym same)))
same_coded (r ∷ rs) (s ∷ ss) g h x y short short' shut shut' same =
    let tails : body r ++ (coded rs ++ g ∷ x) ≡ body s ++ (coded ss ++ h ∷ y) = sym (append_assoc (body r) (coded rs) (g ∷ x)) ∙ ap (drop 1) same ∙ append_assoc (body s) (coded ss) (h ∷ y) in
    let both = same_body r s (coded rs ++ g ∷ x) (coded ss ++ h ∷ y) short.0 short'.0 tails in
    let rest = same_coded rs ss g h x y short.1 short'.1 shut shut' both.1 in
    (λ i. both.0 i ∷ rest i)

-- a file stands for at most one list of records
pub stands_once : (file : List ℕ) (rs ss : List Record) → HaveCodableLengths rs → HaveCodableLengths ss → Stands file rs → Stands file ss → rs ≡ ss
stands_once file rs ss short short' a b =
    let same : front rs ++ a.gate ∷ a.rest ≡ front ss ++ b.gate ∷ b.rest = sym a.split ∙ b.split in
    same_coded rs ss a.gate b.gate a.rest b.rest short short' a.closed b.closed (ap (drop 8) same)
