use Rattle.std.proofs.Common.{◌≡◌, ◌+◌, List, [], ◌∷◌, ◌++◌, ℕ, map, take, sym, ap, ◌∙◌, subst}
use Rattle.std.proofs.lemmas.List.{take_more, map-append}
use Rattle.swh_api.specs.Get.{text_of, IsReplyToGet}
use Rattle.swh_replay.specs.Replay.{archive_of}
use Rattle.swh_program.specs.AskCommand.{TellsArchive}
use Rattle.swh_program.proofs.Replies.{told_more}
use Rattle.swh_program.proofs.ask_command.replies.Goals as goal

pub loop-path-preserved : goal.loop-path-preserved
loop-path-preserved g c =
    let a = archive_of c.args.replayed.now in
    let text = g.W.AsStr.text in
    let paths = c.args.paths.now in
    let i = c.loop-path.path-index in
    let path = c.path-item.result in
    let reply = text_of c.in_ok-reply.reply in
    let same : c.as_bytes.result.now ≡ text path = c.as_bytes.ensures.value ∙ c.as_str.ensures in
    let more : map text (take (i + 1) paths) ≡ map text (take i paths) ++ text path ∷ [] =
    ap (map text) (take_more paths i path c.loop-path-test.true ∙ ap (λ p. take i paths ++ p ∷ []) (sym c.path-item.is)) ∙ map-append text (take i paths) (path ∷ []) in
    let told = told_more a (map text (take i paths)) (text path) reply c.loop-path.text c.write_reply.new.text c.loop-path.ending c.ending_with-ending.result c.loop-path.invariant
    (subst (λ (p : List ℕ). IsReplyToGet a p reply) same c.in_ok-reply.ensures.text) c.in_ok-write_reply.ensures c.ending_with-ending.ensures in
    subst (λ (l : List (List ℕ)). TellsArchive l a c.write_reply.new.text c.ending_with-ending.result) (sym more) told
