-- What was begun at a path is found there.
use Rattle.std.proofs.Common.{◌≡◌, ℕ, Bool, true, ◌||◌, List, [], ◌∷◌, map, Result, Ok, Err, IsErr, refl, sym, ap, ◌∙◌, string_bytes}
use Rattle.std.specs.List.{list_any, Any}
use Rattle.std.specs.Str.{bytes_eq}
use Rattle.std.proofs.lemmas.List.Folds.{list_any-from_Any}
use Rattle.std.proofs.lemmas.Slice.Eq.{bytes_eq-Decides}
use Rattle.std.proofs.lemmas.Bool.{or_right as or_true}
use Rattle.swh_outside.specs.Sink.{Begun, path_of, IsBegunAt}
use Rattle.swh_outside.specs.declared.fault.OutFault.{OutFault}
use Rattle.swh_outside.specs.declared.fault.OutFault.TheVariants as fault
use Rattle.swh_memory_failures.specs.Answers.{has_failed}
use Rattle.swh_memory_input.specs.Yards.{begins_at, begun_of, is_making_at}
use Rattle.swh_memory_input.specs.declared.making.Begins.{Begins}
use Rattle.swh_memory_input.specs.declared.making.Begins.TheVariants.{Folder, File}
use Rattle.swh_memory_input.specs.declared.making.Making.{Making}

path-begins : (begins : Begins) (path : List ℕ) → path_of (begins_at begins path) ≡ path
path-begins Folder path = refl
path-begins (File from) path = refl

is_begun_at : List ℕ → Begun → Bool
is_begun_at path b = bytes_eq (path_of b) path

same_test : (path : List ℕ) (m : Making) → is_begun_at path (begun_of m) ≡ is_making_at path m
unfolding is_begun_at
same_test path m = ap (λ (p : List ℕ). bytes_eq p path) (path-begins m.begins (string_bytes m.path))

same_tests : (path : List ℕ) (makings : List Making) → list_any (is_begun_at path) (map begun_of makings) ≡ list_any (is_making_at path) makings
same_tests path [] = refl
same_tests path (m ∷ makings) =
    ap (λ (b : Bool). b || list_any (is_begun_at path) (map begun_of makings)) (same_test path m)
    ∙ ap (λ (b : Bool). is_making_at path m || b) (same_tests path makings)

passes : (path : List ℕ) (begun : List Begun) → IsBegunAt path begun → Any (λ b. is_begun_at path b ≡ true) begun
unfolding is_begun_at
passes path begun any = (any.0, any.1, any.2, any.3, (bytes_eq-Decides (path_of any.1) path).1 any.4)

failed-is_err : {T : Type 0} (r : Result T OutFault) → has_failed r ≡ true → IsErr r
failed-is_err (Ok x) e = cc
failed-is_err (Err fault.Failed) e = refl
failed-is_err (Err fault.Memory) e = refl

pub begun-fails : {T : Type 0} (listed : Bool) (path : List ℕ) (makings : List Making) (r : Result T OutFault) → has_failed r ≡ (listed || list_any (is_making_at path) makings) → IsBegunAt path (map begun_of makings) → IsErr r
begun-fails listed path makings r e at =
    failed-is_err r (e ∙ or_true listed (list_any (is_making_at path) makings) (sym (same_tests path makings) ∙ list_any-from_Any (is_begun_at path) (map begun_of makings) (passes path (map begun_of makings) at)))
