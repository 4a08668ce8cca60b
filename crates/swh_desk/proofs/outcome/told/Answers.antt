use Rattle.std.proofs.Common.{rules, ◌≡◌, ℕ, ◌+◌, List, length, decimal, ◌∙◌, subst}
use Rattle.swh_loader.specs.Report.{end_word, end_detail}
use Rattle.swh_desk.proofs.Details.{detail_cut, reply_of}
use Rattle.swh_desk.proofs.outcome.told.Goals as goal

pub returns : goal.returns
returns c =
    let url = c.args.origin.now in
    let loaded = c.args.loaded.now in
    let front = c.length_of_front.result in
    let count : front ≡ length url + 1 + (length (decimal loaded.visit) + 1 + (length (end_word loaded.end) + 1)) =
    subst (λ (w : List ℕ). front ≡ length url + 1 + (length (decimal loaded.visit) + 1 + (length w + 1))) c.word_of_end-status.ensures.is c.length_of_front.ensures in
    let text : c.in-Ok.detail.now ≡ c.detail_behind-detail.result.now = search rules in
    let detail : c.in-Ok.detail.now ≡ end_detail loaded.end =
    text ∙ c.detail_behind-detail.ensures ∙ detail_cut url (end_word loaded.end) (end_detail loaded.end) c.args.line.now loaded.visit front c.requires count in
    reply_of url c.word_of_end-status.result.now c.in-Ok.detail.now loaded c.load_reply.result c.word_of_end-status.ensures.is detail c.load_reply.ensures
