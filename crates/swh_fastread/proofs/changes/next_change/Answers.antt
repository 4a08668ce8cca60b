use Rattle.std.proofs.Common.{inr, [], refl, sym, subst}
use Rattle.std.proofs.lemmas.Result.{err_from_is_err_and}
use Rattle.swh_fastgrammar.specs.declared.command.At.{At}
use Rattle.swh_fastgrammar.specs.declared.command.Change.{Change}
use Rattle.swh_fastgrammar.specs.declared.command.Change.TheVariants.{Set}
use Rattle.swh_fastgrammar.specs.declared.command.Dataref.TheVariants.{Inline}
use Rattle.swh_fastgrammar.specs.Grammar.{contents, change}
use Rattle.swh_fastgrammar.proofs.Givable.{change_givable}
use Rattle.swh_fastrows.specs.Explains.{DataFails}
use Rattle.swh_fastrows.specs.Places.{ReaderState, Part}
use Rattle.swh_fastrows.proofs.HeldLines.{taken}
use Rattle.swh_fastread.proofs.ReadChanges.{change_taken, whole_change, inline_change, stopped_change, clear_path}
use Rattle.swh_fastread.proofs.changes.next_change.Goals as goal

pub returns-in_err-bytes-in-Inline-clause-fails : goal.returns-in_err-bytes-in-Inline-clause-fails
returns-in_err-bytes-in-Inline-clause-fails g c = λ told.
    let q = err_from_is_err_and c.from_residual-in_err-bytes-in-Inline.result c.from_residual-in_err-bytes-in-Inline.ensures.1 in
    let is = rw c.in-Inline.is at c.in_ok-change.ensures in
    let a = c.args.rows.now in
    rw (q.1, q.2) (inr (record {
      mode = c.in-Inline.mode;
      path = c.in-Inline.path;
      text = c.line.result.now;
      after = taken a;
      says = is.0;
      took = change_taken a c.line.result.now (Set c.in-Inline.mode (Inline []) c.in-Inline.path) c.requires.next c.line.ensures (is.0 []);
      fails = subst (λ (p : ReaderState). DataFails p c.in_err-bytes-in-Inline.field-0.0) c.take-in-Inline.ensures (c.in_err-bytes-in-Inline.ensures.fails told);
    }))

pub returns-in-Whole-clause-change : goal.returns-in-Whole-clause-change
returns-in-Whole-clause-change g c = λ told.
    let is = rw c.in-Whole.is at c.in_ok-change.ensures in
    let v : At Change = record { at = c.at-at.result; it = c.in-Whole.change } in
    subst (λ (p : ReaderState). Part change c.args.rows.now p v) (sym c.take.ensures)
    (whole_change c.args.rows.now c.line.result.now c.in-Whole.change v c.requires.next c.line.ensures is.0 is.1 c.at-at.ensures refl)

pub returns-in_ok-bytes-in-Inline-clause-change : goal.returns-in_ok-bytes-in-Inline-clause-change
returns-in_ok-bytes-in-Inline-clause-change g c = λ told.
    let is = rw c.in-Inline.is at c.in_ok-change.ensures in
    let it : Change = Set c.in-Inline.mode (Inline c.in_ok-bytes-in-Inline.bytes) c.in-Inline.path in
    let v : At Change = record { at = c.at-at.result; it = it } in
    let p = subst (λ (p : ReaderState). Part contents p c.data.new.rows c.in_ok-bytes-in-Inline.bytes) c.take-in-Inline.ensures (c.in_ok-bytes-in-Inline.ensures.data told) in
    inline_change c.args.rows.now c.data.new.rows c.line.result.now c.in-Inline.mode c.in-Inline.path c.in_ok-bytes-in-Inline.bytes v c.requires.next c.line.ensures (is.0 c.in_ok-bytes-in-Inline.bytes) c.at-at.ensures refl p

pub returns-in-Over-clause-change : goal.returns-in-Over-clause-change
returns-in-Over-clause-change g c = λ told.
    let is = rw c.in-Over.is at c.in_ok-change.ensures in
    (refl, λ clear. absurd (clear_path c.args.rows.now c.line.result.now c.in-Over.field-0 c.requires.next c.line.ensures is clear))

pub returns-in-No-clause-change : goal.returns-in-No-clause-change
returns-in-No-clause-change g c = λ told.
    let is = rw c.in-No.is at c.in_ok-change.ensures in
    (refl, λ clear. stopped_change c.args.rows.now c.line.result.now c.requires.next c.line.ensures is.0)

pub returns-in-Whole-clause-givable : goal.returns-in-Whole-clause-givable
returns-in-Whole-clause-givable g c =
    let is = rw c.in-Whole.is at c.in_ok-change.ensures in
    change_givable is.0.0 c.in-Whole.change is.0.2

pub returns-in_ok-bytes-in-Inline-clause-givable : goal.returns-in_ok-bytes-in-Inline-clause-givable
returns-in_ok-bytes-in-Inline-clause-givable g c =
    let is = rw c.in-Inline.is at c.in_ok-change.ensures in
    let says = is.0 c.in_ok-bytes-in-Inline.bytes in
    change_givable says.0 (Set c.in-Inline.mode (Inline c.in_ok-bytes-in-Inline.bytes) c.in-Inline.path) says.2
