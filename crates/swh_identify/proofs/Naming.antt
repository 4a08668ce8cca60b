-- How `identify` ends, and where nothing stands against it.
use Rattle.std.proofs.Common.{◌≡◌, ◌≢◌, ◌⊎◌, inl, inr, ℕ, ◌<◌, ◌≤◌, codes, Option, Some, None, List, refl, sym, ◌∙◌, subst, arith}
use Rattle.std.specs.Prelude.{replicate}
use Rattle.std.proofs.lemmas.List.{append-nil, length-replicate}
use Rattle.swh_base.specs.Limits.{body_limit}
use Rattle.swh_base.specs.declared.kind.Kind.{Kind}
use Rattle.swh_exit.specs.Answers.{status_of, TellsLine}
use Rattle.swh_exit.specs.Run.{IsExactly}
use Rattle.swh_exit.specs.Refusal.{refusal}
use Rattle.swh_identify.specs.IdentifyCommand.{name_of_bytes, name_line, IsBody, IsAboveBodyLimit, RefusesBytes, HasNoBody, TellsFile, IsIdentifyAnswer, IdentifyEnds}
use Rattle.swh_exit.specs.declared.answer.Ending.{Ending}
use Rattle.swh_exit.specs.declared.answer.Ending.TheVariants as ending
use Rattle.swh_exit.specs.declared.answer.Answer.{Answer}
use Rattle.swh_exit.specs.declared.answer.Answer.TheVariants.{Made, Told, Words, NoJobFile, BadJob, AlreadyMade, NotMade, Damaged, OutsideDisk, OutsideSource, OutsideFolder, OutsideYard, OutsideClock, Memory}
use Rattle.swh_exit.proofs.Statuses.{Tells, stopped, told_status}

module _ (id_of : Kind → List ℕ → List ℕ) (kind : Kind) where
  -- a line is told of what stands at the path
  pub told_file : (found : Option (List ℕ)) (line : List ℕ) (end : Ending) (answer : Answer) → TellsFile id_of kind found end line → TellsLine line end answer → IdentifyEnds id_of kind found answer
  told_file found line end Made tells told = absurd told
  told_file found line end (Told text e) tells told = subst (λ (f : Ending). TellsFile id_of kind found f text) (sym told.1) (subst (λ (t : List ℕ). TellsFile id_of kind found end t) (sym told.0) tells)
  told_file found line end Words tells told = absurd told
  told_file found line end NoJobFile tells told = absurd told
  told_file found line end (BadJob text) tells told = absurd told
  told_file found line end AlreadyMade tells told = absurd told
  told_file found line end NotMade tells told = absurd told
  told_file found line end (Damaged text) tells told = absurd told
  told_file found line end OutsideDisk tells told = absurd told
  told_file found line end OutsideSource tells told = absurd told
  told_file found line end OutsideFolder tells told = absurd told
  told_file found line end OutsideYard tells told = absurd told
  told_file found line end OutsideClock tells told = absurd told
  told_file found line end Memory tells told = tt

  -- what is told of a file is one of the answers
  pub ends_one : (found : Option (List ℕ)) (answer : Answer) → IdentifyEnds id_of kind found answer → IsIdentifyAnswer id_of kind answer
  ends_one found (Told text end) ends = (found, ends)
  ends_one found _ ends = ends

  -- a file above the limit is told of, whatever its bytes
  pub limit_one : (n : ℕ) → body_limit < n → (answer : Answer) → TellsLine (refusal (codes "limit body")) ending.Wanting answer → IsIdentifyAnswer id_of kind answer
  limit_one n more answer told =
      let long : IsAboveBodyLimit (replicate n 0) (refusal (codes "limit body")) = record { long = subst (λ (m : ℕ). body_limit < m) (sym (length-replicate n 0)) more; text_is = refl } in
      ends_one (Some (replicate n 0)) answer (told_file (Some (replicate n 0)) (refusal (codes "limit body")) ending.Wanting answer (inl long) told)

  -- it is never refused for words, a job or an archive
  pub identify_statuses : (answer : Answer) → IsIdentifyAnswer id_of kind answer → (status_of answer < 2) ⊎ (4 ≤ status_of answer)
  identify_statuses (Told text end) is = told_status end
  identify_statuses OutsideSource is = inr (omega arith)
  identify_statuses Memory is = inr (omega arith)
  identify_statuses _ is = absurd is

  no_body : (bytes text : List ℕ) → IsAboveBodyLimit bytes text ⊎ RefusesBytes kind bytes text → IsBody kind bytes → ⊥
  no_body bytes text (inl long) body = let short = body.short in let more = long.long in omega (arith, short, more)
  no_body bytes text (inr refused) body = refused.unformed body.formed

  told_exactly : (found : Option (List ℕ)) (text : List ℕ) (end : Ending) → TellsFile id_of kind found end text → IsExactly 1 (HasNoBody kind found) (status_of (Told text end))
  told_exactly None text ending.Done tells = absurd tells
  told_exactly (Some bytes) text ending.Done tells = record { only = λ e. absurd (omega (arith, e)); there = λ none. absurd (none tells.body) }
  told_exactly None text ending.Wanting tells = record { only = λ e. tt; there = λ none. inl refl }
  told_exactly (Some bytes) text ending.Wanting tells = record { only = λ e. no_body bytes text tells; there = λ none. inl refl }
  told_exactly found text ending.OutsideDisk tells = absurd tells
  told_exactly found text ending.Memory tells = absurd tells

  -- 1 exactly where no body of the kind stands at the path
  pub identify_exactly : (found : Option (List ℕ)) (answer : Answer) → IdentifyEnds id_of kind found answer → IsExactly 1 (HasNoBody kind found) (status_of answer)
  identify_exactly found (Told text end) ends = told_exactly found text end ends
  identify_exactly found OutsideSource ends = stopped 1 4 (HasNoBody kind found) (λ e. omega (arith, e)) (inr (inl refl))
  identify_exactly found Memory ends = stopped 1 5 (HasNoBody kind found) (λ e. omega (arith, e)) (inr (inr refl))
  identify_exactly found _ ends = absurd ends

  -- a body of the kind is named, or memory runs out, where the desk did not fail
  module _ (bytes : List ℕ) (body : IsBody kind bytes) where
    told_name : (text : List ℕ) (end : Ending) → TellsFile id_of kind (Some bytes) end text → Tells (name_line (name_of_bytes id_of kind bytes)) 0 (Told text end)
    told_name text ending.Done tells = inr (refl, append-nil text ∙ tells.text_is)
    told_name text ending.Wanting tells = absurd (no_body bytes text tells body)
    told_name text ending.OutsideDisk tells = absurd tells
    told_name text ending.Memory tells = absurd tells

    body_named : (answer : Answer) → answer ≢ OutsideSource → IdentifyEnds id_of kind (Some bytes) answer → Tells (name_line (name_of_bytes id_of kind bytes)) 0 answer
    body_named (Told text end) no_source ends = told_name text end ends
    body_named OutsideSource no_source ends = absurd (no_source refl)
    body_named Memory no_source ends = inl refl
    body_named _ no_source ends = absurd ends

    pub named : (found : Option (List ℕ)) (answer : Answer) → found ≡ Some bytes → answer ≢ OutsideSource → IdentifyEnds id_of kind found answer → Tells (name_line (name_of_bytes id_of kind bytes)) 0 answer
    named found answer is no_source ends = body_named answer no_source (subst (λ (f : Option (List ℕ)). IdentifyEnds id_of kind f answer) is ends)
