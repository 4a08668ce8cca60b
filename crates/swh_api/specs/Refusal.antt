-- Why a session refuses what it reads, and why a request is not answered.
use Rattle.std.specs.Prelude.{ℕ, ◌==◌, if◌then◌else◌, List, codes}

-- the word for the status of a refusal: the bytes begin no request, or its body, its fields or how it is sent are refused, or
-- there is no memory for the reply
abbrev pub refusal_word : ℕ → List ℕ
refusal_word status =
    if status == 413 then codes "length"
    else if status == 431 then codes "fields"
    else if status == 501 then codes "transfer"
    else if status == 503 then codes "memory"
    else codes "request"
