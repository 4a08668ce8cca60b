use Rattle.std.proofs.Common.{◌≡◌, true, false, IsUtf8, List, ℕ, Bool, refl, sym}
use Rattle.std.specs.Str.{is_utf8}
use Rattle.std.proofs.lemmas.Str.{is_utf8-from_IsUtf8, IsUtf8-from_is_utf8}
use Rattle.swh_http.proofs.head_state.is_text.Goals as goal

no-text : (bytes : List ℕ) (b : Bool) → is_utf8 bytes ≡ b → (IsUtf8 bytes → ⊥) → b ≡ false
no-text bytes true is none = absurd (none (IsUtf8-from_is_utf8 bytes is))
no-text bytes false is none = cc

pub returns-in-Ok : goal.returns-in-Ok
returns-in-Ok c = let is = is_utf8-from_IsUtf8 _ c.in-Ok.ensures.cases.1 in cc

pub returns-in-Err : goal.returns-in-Err
returns-in-Err c = sym (no-text c.args.bytes.now (is_utf8 c.args.bytes.now) refl c.in-Err.ensures.cases.0)
