-- What may be told of a stream.
use Rattle.std.proofs.Common.{◌≢◌, ℕ, ◌+◌, if◌then◌else◌, inl, inr, Bool, true, false, List, arith}
use Rattle.swh_base.specs.declared.visit.Which.{Which}
use Rattle.swh_base.specs.declared.visit.Which.TheVariants.{Body, Objects, Bytes, Store, Ledger, Stream, Line, Path, Ref, Refs}
use Rattle.swh_fastlex.specs.declared.fault.DataFault.TheVariants as Data
use Rattle.swh_fastgrammar.specs.declared.fault.StreamWhy.TheVariants.{LeftOut, Grammar}
use Rattle.swh_fastgrammar.specs.Fault.{is_left_out}
use Rattle.swh_fastlines.specs.Limit.{PassesWords, PassesRefs}
use Rattle.swh_fastlines.proofs.WordLimits.{least_limit}
use Rattle.swh_fastrows.specs.declared.fail.ReadFail.TheVariants.{BadStream}
use Rattle.swh_fastrows.specs.Explains.{line_refusal}
use Rattle.swh_fastrows.specs.Failing.{MayPass, MayFail}
use Rattle.swh_fastrows.specs.Within.{LinePasses, DataPasses}

pub refs_may : (line : List ℕ) (number : ℕ) → PassesRefs line number → MayPass Ref number
refs_may line number r =
    let least = least_limit r.word r.limit r.one in
    let above = r.passes.above in
    omega (arith, least, above)

-- a word of a line that passes a limit
pub words_may : (line : List ℕ) (which : Which) (number : ℕ) → PassesWords line which number → MayPass which number
words_may line Body number (digits, spelled, is, above) = above
words_may line Objects number p = p
words_may line Bytes number p = p
words_may line Store number p = p
words_may line Ledger number p = p
words_may line Stream number p = absurd p
words_may line Line number p = absurd p
words_may line Path number (inl (text, spelled, path)) = path.above
words_may line Path number (inr (inl (text, spelled, (mode, what, rest, begins, path)))) = path.above
words_may line Path number (inr (inr (text, spelled, inl path))) = path.above
words_may line Path number (inr (inr (text, spelled, inr (source, rest, names, path)))) = path.above
words_may line Ref number p = refs_may line number p
words_may line Refs number p = p

-- a line that is refused
pub refusal_may : (line : List ℕ) (at : ℕ) → MayFail (line_refusal line at)
refusal_may line at = by_out (is_left_out line)
  where
    by_out : (out : Bool) → MayFail (if out then BadStream at LeftOut else BadStream at Grammar)
    by_out true = tt
    by_out false = tt

-- a line that passes a limit by itself
pub line_may : (at : ℕ) (text : List ℕ) (which : Which) (number : ℕ) → LinePasses at text which number → MayPass which number
line_may at text Body number p = words_may p.line Body number p.passes
line_may at text Objects number p = p
line_may at text Bytes number p = p
line_may at text Store number p = p
line_may at text Ledger number p = p
line_may at text Stream number p = p.count
line_may at text Line number p = p.0
line_may at text Path number p = words_may p.line Path number p.passes
line_may at text Ref number p = words_may p.line Ref number p.passes
line_may at text Refs number p = p

-- data that pass one
pub inside_may : (at : ℕ) (text : List ℕ) (which : Which) (number : ℕ) → DataPasses at text which number → MayPass which number
inside_may at text Body number p = let count = p.count in omega (arith, count)
inside_may at text Objects number p = p
inside_may at text Bytes number p = p
inside_may at text Store number p = p
inside_may at text Ledger number p = p
inside_may at text Stream number p = p.count
inside_may at text Line number p = p.count
inside_may at text Path number p = absurd p
inside_may at text Ref number p = absurd p
inside_may at text Refs number p = p
