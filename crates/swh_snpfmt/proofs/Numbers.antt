-- Decimal numbers are parsed as what they are.
use Rattle.std.proofs.Common.{◌≡◌, ℕ, ◌<◌, ◌^◌, List, decimal, Result, Ok, Err}
use Rattle.std.specs.Result.{result_unwrap_or}
use Rattle.std.specs.Str.Parse.{ParsesUnsigned}
use Rattle.std.proofs.lemmas.Fmt.{parse-decimal}
use Rattle.std.proofs.Common.{ap}

pub not_refused : {E : Type 0} (n : ℕ) (text : List ℕ) (e : E) → n < 2 ^ 64 → text ≡ decimal n → ParsesUnsigned 64 10 text (Err e) → ⊥
not_refused n text e small is parsed = let same = parse-decimal 64 n text (Err e) small small is parsed in cc

pub parsed_as : (n m : ℕ) (text : List ℕ) → n < 2 ^ 64 → text ≡ decimal n → ParsesUnsigned {E = Unit {0}} 64 10 text (Ok m) → m ≡ n
parsed_as n m text small is parsed = ap (λ (r : Result ℕ (Unit {0})). result_unwrap_or r 0) (parse-decimal 64 n text (Ok m) small small is parsed)
