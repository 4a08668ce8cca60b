-- What the replies of an archive mean for `ask`.
use Rattle.std.specs.Prelude.{if◌then◌else◌, ◌&&◌}
use Rattle.std.specs.List.{flat_map, list_all}
use Rattle.std.proofs.Common.{◌≡◌, ◌≢◌, ◌==◌, ◌⊎◌, inl, inr, ⊎_elim, ℕ, Bool, true, false, List, [], ◌∷◌, ◌++◌, refl, sym, ap, ◌∙◌, subst, arith}
use Rattle.std.proofs.lemmas.List.{append-nil}
use Rattle.std.proofs.lemmas.Bool.{eq-eqb, eqb-true}
use Rattle.swh_model.specs.Archive.{Archive}
use Rattle.swh_model.specs.Answer.{ReplyText}
use Rattle.swh_model.specs.Step.{replay}
use Rattle.swh_exit.specs.Seen.{Span}
use Rattle.swh_exit.specs.Archives.{old_archive, new_archive}
use Rattle.swh_exit.specs.Answers.{status_of, status_for, last_line_for}
use Rattle.swh_program.specs.AskCommand.{reply_line, AreReplies, AreFound, HasShortReply, IsEndingOf, TellsReplies, asking, DoesAsk, replies_status}
use Rattle.swh_program.specs.Reading.{Reads}
use Rattle.swh_exit.specs.Run.{IsExactly, IsTold}
use Rattle.swh_exit.specs.declared.answer.Ending.{Ending}
use Rattle.swh_exit.specs.declared.answer.Ending.TheVariants as ending
use Rattle.swh_exit.specs.declared.answer.Answer.{Answer}
use Rattle.swh_exit.specs.declared.answer.Answer.TheVariants.{Told, OutsideDisk, Memory}
use Rattle.swh_exit.proofs.Statuses.{Tells, stopped}
use Rattle.swh_program.proofs.Completes.{told_with}
use Rattle.swh_program.proofs.ReadOnly.{IsSettled, Settles, Says, read_done, does_read}
use Rattle.swh_program.proofs.Replies.{same_replies, none_short}
use Rattle.swh_program.proofs.Statuses.{run_exactly}

ending_settled : (replies : List ReplyText) (end : Ending) → IsEndingOf replies end → IsSettled end
ending_settled replies end (inl found) = inl found.1
ending_settled replies end (inr short) = inr short.1

pub ask_settles : (paths : List (List ℕ)) → Settles (asking paths)
ask_settles paths a text end told = ending_settled told.replies end told.tells.end_is

abbrev status_by : Bool → ℕ
status_by found = if found then 0 else 1

abbrev is_found : ReplyText → Bool
is_found reply = reply.status == 200

found_all : (replies : List ReplyText) → AreFound replies → list_all is_found replies ≡ true
found_all [] found = refl
found_all (r ∷ rs) found = rw (eq-eqb r.status 200 found.0) (found_all rs found.1)

found_both : (r : ReplyText) (rs : List ReplyText) (b : Bool) → is_found r ≡ b → (list_all is_found rs ≡ true → AreFound rs) → (b && list_all is_found rs) ≡ true → AreFound (r ∷ rs)
found_both r rs true is rest all = (eqb-true r.status 200 is, rest all)
found_both r rs false is rest all = absurd (let e : false ≡ true = all in cc)

all_found : (replies : List ReplyText) → list_all is_found replies ≡ true → AreFound replies
all_found [] all = tt
all_found (r ∷ rs) all = found_both r rs (is_found r) refl (all_found rs) all

short_status : (replies : List ReplyText) (b : Bool) → list_all is_found replies ≡ b → HasShortReply replies → status_by b ≡ 1
short_status replies true all short = absurd (none_short replies (all_found replies all) short)
short_status replies false all short = refl

replies_ending : (replies : List ReplyText) (text : List ℕ) (end : Ending) → TellsReplies replies text end → Tells (flat_map reply_line replies) (replies_status replies) (Told text end)
replies_ending replies text end tells = ⊎_elim
    (λ (found : AreFound replies × (end ≡ ending.Done)).
    inr (ap status_for found.1 ∙ sym (ap status_by (found_all replies found.0)), ap (λ (e : Ending). text ++ last_line_for e) found.1 ∙ append-nil text ∙ tells.text_is))
    (λ (short : HasShortReply replies × (end ≡ ending.Wanting)).
    inr (ap status_for short.1 ∙ sym (short_status replies (list_all is_found replies) refl short.0), ap (λ (e : Ending). text ++ last_line_for e) short.1 ∙ append-nil text ∙ tells.text_is))
    tells.end_is

module _ (paths : List (List ℕ)) (a : Archive) (replies : List ReplyText) (are : AreReplies a paths replies) where
  -- the replies that are told are these
  these : (answer : Answer) (says : Says (asking paths) a answer) → TellsReplies replies says.text says.end
  these answer says =
      subst (λ (rs : List ReplyText). TellsReplies rs says.text says.end) (same_replies a paths says.told.replies replies says.told.are_replies are) says.told.tells

  exact_ending : (end : Ending) → IsEndingOf replies end → IsExactly 1 (HasShortReply replies) (status_for end)
  exact_ending end (inl found) =
      let s = ap status_for found.1 in
      record { only = λ e. absurd (omega (arith, s, e)); there = λ short. absurd (none_short replies found.0 short) }
  exact_ending end (inr short) = record { only = λ e. short.0; there = λ other. inl (ap status_for short.1) }

  -- 1
  pub ask_exactly : (answer : Answer) → (answer ≡ OutsideDisk) ⊎ (answer ≡ Memory) ⊎ Says (asking paths) a answer → IsExactly 1 (HasShortReply replies) (status_of answer)
  ask_exactly answer (inl disk) = subst (λ (b : Answer). IsExactly 1 (HasShortReply replies) (status_of b)) (sym disk) (stopped 1 4 (HasShortReply replies) (λ e. omega (arith, e)) (inr (inl refl)))
  ask_exactly answer (inr (inl memory)) = subst (λ (b : Answer). IsExactly 1 (HasShortReply replies) (status_of b)) (sym memory) (stopped 1 5 (HasShortReply replies) (λ e. omega (arith, e)) (inr (inr refl)))
  ask_exactly answer (inr (inr says)) = subst (λ (b : Answer). IsExactly 1 (HasShortReply replies) (status_of b)) (sym says.is) (exact_ending says.end (these answer says).end_is)

  -- the replies are told, or memory ran out
  pub ask_done : (answer : Answer) → answer ≢ OutsideDisk → (answer ≡ OutsideDisk) ⊎ (answer ≡ Memory) ⊎ Says (asking paths) a answer → Tells (flat_map reply_line replies) (replies_status replies) answer
  ask_done answer no_disk (inl disk) = absurd (no_disk disk)
  ask_done answer no_disk (inr (inl memory)) = inl (ap status_of memory)
  ask_done answer no_disk (inr (inr says)) = subst (Tells (flat_map reply_line replies) (replies_status replies)) (sym says.is) (replies_ending replies says.text says.end (these answer says))

pub does_ask : (dir : List ℕ) (paths : List (List ℕ)) (s : Span) (answer : Answer) (status : ℕ) → IsTold answer s status → Reads (asking paths) dir s answer → DoesAsk dir paths s status
does_ask dir paths s answer status told r =
    let old = old_archive dir s in
    let new = new_archive dir s in
    record {
      reads = does_read (asking paths) (ask_settles paths) s answer status dir told r;
      short_reply = λ h replies k archive are.
          run_exactly answer s status 1 (HasShortReply replies) (omega arith) (ask_exactly paths (replay h) replies are answer (read_done s.id_of (asking paths) (ask_settles paths) old new h archive (λ a broke. broke) answer (r.ends k))) told;
      complete = λ h replies k archive are no_disk no_sink.
          told_with (flat_map reply_line replies) (replies_status replies) answer s status
          (ask_done paths (replay h) replies are answer (λ failed. no_disk (r.cause failed)) (read_done s.id_of (asking paths) (ask_settles paths) old new h archive (λ a broke. broke) answer (r.ends k))) no_sink told;
    }
