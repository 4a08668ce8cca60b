-- What a yard has of a file where its bytes could not all be put.
use Rattle.std.proofs.Common.{◌≡◌, inr, ℕ, List, [], ◌∷◌, ◌++◌, length, take, Err, refl, ap, ◌∙◌}
use Rattle.swh_outside.specs.Sink.{Begun, FileAt, TakesSome}
use Rattle.swh_dircook.specs.Made.{FileMade, yarded, Makes, MakesSome}

pub same_yarded : (b c : List Begun) (s t : List ℕ) → b ≡ c → s ≡ t → yarded b s ≡ yarded c t
same_yarded b c s t e f = λ k. record { begun = e k; taken = f k }

some_of_file : (begun begun_now after : List Begun) (taken taken_now put path bytes : List ℕ) → begun_now ≡ begun ++ FileAt path (length taken) ∷ [] → taken_now ≡ taken → after ≡ begun_now → TakesSome taken_now bytes put
    → MakesSome (yarded begun taken) (FileMade path bytes ∷ []) (yarded after put)
some_of_file begun begun_now after taken taken_now put path bytes made same still some = record {
  some = FileMade path (take some.count bytes) ∷ [];
  front = record { before = []; behind = FileMade path bytes ∷ []; cut = refl; is = inr (path, bytes, some.count, [], refl, refl) };
  is = same_yarded after (begun ++ FileAt path (length taken) ∷ []) put (taken ++ take some.count bytes) (still ∙ made) (some.is ∙ ap (λ (t : List ℕ). t ++ take some.count bytes) same);
}

pub part_of_file : {T E : Type 0} (tells : Type 0) (begun begun_now after : List Begun) (taken taken_now put path bytes : List ℕ) (fault : E) → (tells → begun_now ≡ begun ++ FileAt path (length taken) ∷ []) → (tells → taken_now ≡ taken)
    → after ≡ begun_now → (tells → TakesSome taken_now bytes put) → Makes {T = T} {E = E} tells (yarded begun taken) (FileMade path bytes ∷ []) (yarded after put) (Err fault)
part_of_file tells begun begun_now after taken taken_now put path bytes fault made same still some = record {
  ok = λ told. tt;
  err = λ told. some_of_file begun begun_now after taken taken_now put path bytes (made told) (same told) still (some told);
}
