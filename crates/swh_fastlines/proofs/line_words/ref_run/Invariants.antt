use Rattle.std.proofs.Common.{◌≡◌, ◌≤◌, ◌<◌, ◌-◌, ℕ, true, length, get_or}
use Rattle.swh_base.specs.Text.{is_ref_byte}
use Rattle.swh_fastlines.proofs.line_words.ref_run.Given as goal

-- the bytes so far may stand in a ref
abbrev pub invariant-bytes : goal.invariant-bytes
invariant-bytes l = record {
  within : l.count ≤ length l.text;
  all : (k : ℕ) → k < l.count → is_ref_byte (get_or l.text k 0) ≡ true;
}

abbrev pub decreases-bytes : goal.decreases-bytes
decreases-bytes l = length l.text - l.count
