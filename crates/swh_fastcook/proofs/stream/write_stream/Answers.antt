use Rattle.std.proofs.Common.{List, ℕ, subst}
use Rattle.std.specs.Prelude.{⊤}
use Rattle.std.proofs.lemmas.Result.{MatchResult-from_err}
use Rattle.swh_fastwrite.specs.Held.{kept}
use Rattle.swh_fastcook.specs.Stream.{IsStreamText}
use Rattle.swh_fastcook.proofs.StreamTexts.{one_stream, all_taken, rest_broke}
use Rattle.swh_fastcook.proofs.stream.write_stream.Goals as goal

pub returns-in_err-write_all-clause-err : goal.returns-in_err-write_all-clause-err
returns-in_err-write_all-clause-err g c =
    let bodies = (g.L.Look.archive c.args.look.now).bodies in
    let fails = rw c.new-held.ensures.items at c.in_err-write_all.ensures.bytes.err in
    MatchResult-from_err c.from_residual.result (λ _. ⊤) (λ _. (text : List ℕ) → IsStreamText bodies c.args.marks.now c.args.root text → g.T.Taker.takes_front c.args.taker.now text c.write_all.new.taker) c.from_residual.ensures.0
    (λ _ text is. fails text is)

pub returns-in_err-flush-clause-err : goal.returns-in_err-flush-clause-err
returns-in_err-flush-clause-err g c =
    let bodies = (g.L.Look.archive c.args.look.now).bodies in
    let mid = kept c.write_all.new.taker c.write_all.new.held.items in
    let done = rw c.new-held.ensures.items at c.in_ok-write_all.ensures.bytes.ok in
    MatchResult-from_err c.from_residual-in_err-flush.result (λ _. ⊤) (λ _. (text : List ℕ) → IsStreamText bodies c.args.marks.now c.args.root text → g.T.Taker.takes_front c.args.taker.now text c.flush.new.taker)
    c.from_residual-in_err-flush.ensures.0
    (λ _ text is.
    subst (λ (t : List ℕ). g.T.Taker.takes_front c.args.taker.now t c.flush.new.taker) (one_stream bodies c.args.marks.now c.args.root done.0 text done.1 is)
    (rest_broke g.T.Taker.takes g.T.Taker.takes_front g.met.T.Taker.adds_up c.args.taker.now mid done.0 done.2 c.flush.new.taker c.in_err-flush.ensures.bytes.err))

pub returns-clause-ok : goal.returns-clause-ok
returns-clause-ok g c =
    let mid = kept c.write_all.new.taker c.write_all.new.held.items in
    let done = rw c.new-held.ensures.items at c.in_ok-write_all.ensures.bytes.ok in (
      done.0,
      done.1,
      all_taken g.T.Taker.takes g.T.Taker.takes_front g.met.T.Taker.adds_up c.args.taker.now mid done.0 done.2 (kept c.flush.new.taker c.flush.new.held.items) c.in_ok-flush.ensures.bytes.ok c.in_ok-flush.ensures.emptied,
    )
