-- There is one reply to a path, and replies to more paths.
use Rattle.std.specs.List.{flat_map}
use Rattle.std.proofs.Common.{◌≡◌, ◌≢◌, ◌⊎◌, inl, inr, ℕ, zero, suc, ◌<◌, List, [], ◌∷◌, ◌++◌, length, get_or, refl, sym, ap, ◌∙◌, arith, length-append}
use Rattle.std.proofs.Math.ListN.{get_or-append}
use Rattle.std.proofs.lemmas.Grind.{flat_map-append}
use Rattle.std.proofs.lemmas.List.{append-nil}
use Rattle.std.proofs.lemmas.List.Quantifiers.{Any-push}
use Rattle.swh_model.specs.Archive.{Archive}
use Rattle.swh_model.specs.Answer.{ReplyText}
use Rattle.swh_model.proofs.Entries.{all-append}
use Rattle.swh_api.specs.Get.{IsReplyToGet}
use Rattle.swh_api.proofs.Unique.{one_reply_to_get}
use Rattle.swh_program.specs.AskCommand.{reply_line, AreReplies, AreFound, HasShortReply, IsEndingOf, TellsArchive}
use Rattle.swh_exit.specs.declared.answer.Ending.{Ending}
use Rattle.swh_exit.specs.declared.answer.Ending.TheVariants.{Wanting}

-- there is one list of replies to paths
pub same_replies : (a : Archive) (paths : List (List ℕ)) (rs ss : List ReplyText) → AreReplies a paths rs → AreReplies a paths ss → rs ≡ ss
same_replies a [] [] [] are_r are_s = refl
same_replies a [] [] (s ∷ ss) are_r are_s = absurd are_s
same_replies a [] (r ∷ rs) ss are_r are_s = absurd are_r
same_replies a (path ∷ paths) [] ss are_r are_s = absurd are_r
same_replies a (path ∷ paths) (r ∷ rs) [] are_r are_s = absurd are_s
same_replies a (path ∷ paths) (r ∷ rs) (s ∷ ss) are_r are_s =
    let head = one_reply_to_get a path r s are_r.0 are_s.0 in
    let rest = same_replies a paths rs ss are_r.1 are_s.1 in
    (λ i. head i ∷ rest i)

-- one more path, and its reply
more_replies : (a : Archive) (paths : List (List ℕ)) (replies : List ReplyText) (path : List ℕ) (reply : ReplyText) → AreReplies a paths replies → IsReplyToGet a path reply → AreReplies a (paths ++ path ∷ []) (replies ++ reply ∷ [])
more_replies a [] [] path reply are is = (is, tt)
more_replies a [] (r ∷ rs) path reply are is = absurd are
more_replies a (p ∷ ps) [] path reply are is = absurd are
more_replies a (p ∷ ps) (r ∷ rs) path reply are is = (are.0, more_replies a ps rs path reply are.1 is)

-- a short reply stays one of them
still_short : (replies : List ReplyText) (reply : ReplyText) → HasShortReply replies → HasShortReply (replies ++ reply ∷ [])
still_short replies reply short =
    let less = short.2 in
    let long = length-append replies (reply ∷ []) in
    (short.0, short.1, omega (arith, less, long), get_or-append replies (reply ∷ []) short.1 short.0 less ∙ short.3, short.4)

-- how a run ends that has one more reply
more_ending : (replies : List ReplyText) (reply : ReplyText) (end now : Ending) → IsEndingOf replies end → ((reply.status ≡ 200) × (now ≡ end)) ⊎ ((reply.status ≢ 200) × (now ≡ Wanting)) → IsEndingOf (replies ++ reply ∷ []) now
more_ending replies reply end now (inl done) (inl found) = inl (all-append (λ r. r.status ≡ 200) replies (reply ∷ []) done.0 (found.0, tt), found.1 ∙ done.1)
more_ending replies reply end now (inr wanting) (inl found) = inr (still_short replies reply wanting.0, found.1 ∙ wanting.1)
more_ending replies reply end now is (inr other) = inr (Any-push (λ r. r.status ≢ 200) replies reply other.0, other.1)

-- one more reply is told
pub told_more : (a : Archive) (paths : List (List ℕ)) (path : List ℕ) (reply : ReplyText) (text text_now : List ℕ) (end now : Ending) → TellsArchive paths a text end → IsReplyToGet a path reply → text_now ≡ text ++ reply_line reply
    → ((reply.status ≡ 200) × (now ≡ end)) ⊎ ((reply.status ≢ 200) × (now ≡ Wanting)) → TellsArchive (paths ++ path ∷ []) a text_now now
told_more a paths path reply text text_now end now told is appended ends =
    let line = reply_line reply in
    let whole : flat_map reply_line (told.replies ++ reply ∷ []) ≡ flat_map reply_line told.replies ++ line = flat_map-append reply_line told.replies (reply ∷ []) ∙ ap (λ (l : List ℕ). flat_map reply_line told.replies ++ l) (append-nil line) in
    record {
      replies = told.replies ++ reply ∷ [];
      are_replies = more_replies a paths told.replies path reply told.are_replies is;
      tells = record { text_is = appended ∙ ap (λ (l : List ℕ). l ++ line) told.tells.text_is ∙ sym whole; end_is = more_ending told.replies reply end now told.tells.end_is ends };
    }

-- the reply at a place of those that are all found
found_at : (replies : List ReplyText) (k : ℕ) (reply : ReplyText) → AreFound replies → k < length replies → get_or replies k reply ≡ reply → reply.status ≡ 200
found_at [] k reply found less at = absurd (omega (arith, less))
found_at (r ∷ rs) zero reply found less at = ap (λ (x : ReplyText). x.status) (sym at) ∙ found.0
found_at (r ∷ rs) (suc k) reply found less at = found_at rs k reply found.1 (omega (arith, less)) at

-- not each is found where one is short
pub none_short : (replies : List ReplyText) → AreFound replies → HasShortReply replies → ⊥
none_short replies found short = short.4 (found_at replies short.0 short.1 found short.2 short.3)
