-- What the line of a load says, and the reply that tells it.
use Rattle.std.proofs.Common.{◌≡◌, ℕ, ◌+◌, ◌-◌, ◌≤◌, Result, Ok, Err, IfOk, List, [], ◌∷◌, ◌++◌, length, take, drop, refl, sym, ap, ◌∙◌, subst, arith, append_assoc}
use Rattle.std.specs.Prelude.{decimal}
use Rattle.std.proofs.lemmas.Grind.{common_steps}
use Rattle.std.proofs.Math.Seq.{take-append_seam, drop-append_seam}
use Rattle.std.proofs.lemmas.List.{length-append}
use Rattle.swh_base.specs.declared.memory.Memory.{Memory}
use Rattle.swh_base.specs.declared.request.Reply.{Reply}
use Rattle.swh_model.specs.Answer.{line_of}
use Rattle.swh_loader.specs.declared.end.Loaded.{Loaded}
use Rattle.swh_loader.specs.Report.{end_word, end_detail}
use Rattle.swh_api.specs.Load.{load_reply}
use Rattle.swh_desk.specs.Outcome.{loaded_reply}

room : (front detail : List ℕ) → length (front ++ (detail ++ 10 ∷ [])) ≡ length front + (length detail + 1)
room front detail = length-append front (detail ++ 10 ∷ []) ∙ ap (λ (n : ℕ). length front + n) (length-append detail (10 ∷ []))

pub fits : (front detail : List ℕ) (n : ℕ) → n ≡ length (front ++ (detail ++ 10 ∷ [])) → length front + 1 ≤ n
fits front detail n is = omega (arith, is, room front detail)

pub cut : (front detail : List ℕ) → take (length (front ++ (detail ++ 10 ∷ [])) - 1 - length front) (drop (length front) (front ++ (detail ++ 10 ∷ []))) ≡ detail
cut front detail =
    let n : length (front ++ (detail ++ 10 ∷ [])) - 1 - length front ≡ length detail = omega (arith, room front detail) in
    ap (λ (k : ℕ). take k (drop (length front) (front ++ (detail ++ 10 ∷ [])))) n
    ∙ ap (take (length detail)) (drop-append_seam front (detail ++ 10 ∷ []))
    ∙ take-append_seam detail (10 ∷ [])

-- ---- of the line of a job

-- the origin, the visit and the status, with a TAB after each
abbrev front_of : List ℕ → ℕ → List ℕ → List ℕ
front_of url visit status = url ++ 9 ∷ (decimal visit ++ 9 ∷ (status ++ 9 ∷ []))

split : (url status detail : List ℕ) (visit : ℕ) → line_of url visit status detail ≡ front_of url visit status ++ (detail ++ 10 ∷ [])
split url status detail visit = grind (arith, common_steps)

long : (url status : List ℕ) (visit : ℕ) → length (front_of url visit status) ≡ length url + 1 + (length (decimal visit) + 1 + (length status + 1))
long url status visit = grind (arith, common_steps)

module _ (url status detail line : List ℕ) (visit front : ℕ) (is : line ≡ line_of url visit status detail) (count : front ≡ length url + 1 + (length (decimal visit) + 1 + (length status + 1))) where
  same : line ≡ front_of url visit status ++ (detail ++ 10 ∷ [])
  same = is ∙ split url status detail visit

  counted : front ≡ length (front_of url visit status)
  counted = count ∙ sym (long url status visit)

  pub detail_fits : front + 1 ≤ length line
  detail_fits = subst (λ (n : ℕ). n + 1 ≤ length line) (sym counted) (fits (front_of url visit status) detail (length line) (ap length same))

  pub detail_cut : take (length line - 1 - front) (drop front line) ≡ detail
  detail_cut =
      ap (λ (n : ℕ). take (length line - 1 - n) (drop n line)) counted
      ∙ ap (λ (l : List ℕ). take (length l - 1 - length (front_of url visit status)) (drop (length (front_of url visit status)) l)) same
      ∙ cut (front_of url visit status) detail

-- ---- of a load

-- the reply to a load, by the texts that tell how its visit ended
pub reply_of : (url status detail : List ℕ) (loaded : Loaded) (result : Result Reply Memory) → status ≡ end_word loaded.end → detail ≡ end_detail loaded.end → IfOk result (λ reply. reply ≡ load_reply url loaded.visit status detail)
    → IfOk result (λ reply. reply ≡ loaded_reply url loaded)
reply_of url status detail loaded (Err e) word text is = tt
reply_of url status detail loaded (Ok reply) word text is =
    is ∙ ap (λ (w : List ℕ). load_reply url loaded.visit w detail) word ∙ ap (load_reply url loaded.visit (end_word loaded.end)) text
