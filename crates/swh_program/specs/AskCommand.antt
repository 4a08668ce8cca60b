-- What `ask` does.
use Rattle.std.specs.Prelude.{◌≡◌, ◌≢◌, ◌⊎◌, ◌==◌, ◌++◌, ◌∷◌, [], ℕ, if◌then◌else◌, List, Any, length, decimal, flat_map}
use Rattle.std.specs.List.{AllByRecursion, AllZip, list_all}
use Rattle.swh_model.specs.declared.event.Event.{Event}
use Rattle.swh_model.specs.Archive.{Archive}
use Rattle.swh_model.specs.Step.{replay}
use Rattle.swh_model.specs.Answer.{ReplyText}
use Rattle.swh_api.specs.Get.{IsReplyToGet}
use Rattle.swh_exit.specs.Seen.{Span, DepotFailed, SinkFailed}
use Rattle.swh_exit.specs.Archives.{old_archive}
use Rattle.swh_exit.specs.Opening.{IsArchive}
use Rattle.swh_program.specs.Reading.{Telling, DoesRead}
use Rattle.swh_exit.specs.Run.{IsExactly, IsPrintedWith}
use Rattle.swh_exit.specs.declared.answer.Ending.{Ending}
use Rattle.swh_exit.specs.declared.answer.Ending.TheVariants.{Done, Wanting}

-- a reply as it is printed: its status, the length of its body, and the body
abbrev pub reply_line : ReplyText → List ℕ
reply_line r = decimal r.status ++ 32 ∷ (decimal (length r.body) ++ 10 ∷ (r.body ++ 10 ∷ []))

-- The replies of an archive, one to a GET of each path, in the order of the paths.
abbrev pub AreReplies : Archive → List (List ℕ) → List ReplyText → Type 0
AreReplies a paths replies = AllZip (IsReplyToGet a) paths replies

-- Each reply's status is 200.
abbrev pub AreFound : List ReplyText → Type 0
AreFound replies = AllByRecursion (λ r. r.status ≡ 200) replies

-- Some reply's status is not 200.
abbrev pub HasShortReply : List ReplyText → Type 0
HasShortReply replies = Any (λ r. r.status ≢ 200) replies

-- 0 where each reply is 200, else 1
abbrev pub replies_status : List ReplyText → ℕ
replies_status replies = if list_all (λ r. r.status == 200) replies then 0 else 1

-- done exactly where each status is 200
abbrev pub IsEndingOf : List ReplyText → Ending → Type 0
IsEndingOf replies end = (AreFound replies × (end ≡ Done)) ⊎ (HasShortReply replies × (end ≡ Wanting))

-- The text tells the replies, and the run ends by their statuses.
pub record TellsReplies (replies : List ReplyText) (text : List ℕ) (end : Ending) : Type 0 where
  pub text_is : text ≡ flat_map reply_line replies
  pub end_is : IsEndingOf replies end

-- The text tells the replies of an archive to paths.
pub record TellsArchive (paths : List (List ℕ)) (a : Archive) (text : List ℕ) (end : Ending) : Type 0 where
  pub replies : List ReplyText
  pub are_replies : AreReplies a paths replies
  pub tells : TellsReplies replies text end

-- What `ask` has to tell of an archive: its replies to the paths. It finds no damage, and has
-- no use for the yard.
abbrev pub asking : List (List ℕ) → Telling
asking paths = record { tells = λ a text end. TellsArchive paths a text end; finds = λ a text. ⊥; breaks = λ a. ⊥ }

-- What a run of `ask` does.
pub record DoesAsk (dir : List ℕ) (paths : List (List ℕ)) (s : Span) (status : ℕ) : Type 0 where
  pub reads : DoesRead (asking paths) dir s status
  -- 1: a reply is not 200.
  pub short_reply : (h : List Event) (replies : List ReplyText) → s.told.depot → IsArchive s.id_of (old_archive dir s) h
      → AreReplies (replay h) paths replies → IsExactly 1 (HasShortReply replies) status
  -- The replies of the archive to the paths are printed with their status, unless memory runs out, where no part of the
  -- outside failed.
  pub complete : (h : List Event) (replies : List ReplyText) → s.told.depot → IsArchive s.id_of (old_archive dir s) h
      → AreReplies (replay h) paths replies → (DepotFailed s → ⊥) → (SinkFailed s → ⊥)
      → IsPrintedWith (flat_map reply_line replies) (replies_status replies) s status
