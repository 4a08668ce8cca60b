use Rattle.swh_batchread.proofs.RefLines.{has_nul}
use Rattle.swh_batchread.proofs.ref_line.is_name.Goals as goal

pub returns-in-Some : goal.returns-in-Some
returns-in-Some c =
    let cut = c.in-Some.ensures.some in
    (λ t. absurd (cc), λ h. absurd (h.1 (has_nul c.args.name.now c.in-Some._front.now c.in-Some._rest.now cut.1)))
