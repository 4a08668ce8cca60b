-- What words ask for is one command at most.
use Rattle.std.proofs.Common.{◌≡◌, ◌∙◌, ℕ, List, [], refl, sym, ap, Option, Some, None, Result, Ok, Err, IfErr, length, get_or, true≢false, ◌≢◌}
use Rattle.std.specs.Prelude.{codes, if◌then◌else◌, ◌==◌, unwrap_or, IsSomeAnd, Bool, true, false}
use Rattle.clap.specs.Words.{Row, Text, all_of, first_of, subcommand_of}
use Rattle.swh_base.specs.declared.kind.Kind.{Kind}
use Rattle.swh_base.specs.declared.kind.Kind.TheVariants.{Content, Directory, Revision, Release, Snapshot}
use Rattle.swh_words.specs.Definition.{program_app}
use Rattle.swh_words.specs.Words.{Wanted, ToInit, ToLoad, ToAsk, ToCheck, ToCook, ToIdentify, ToIdentifyFolder, AsksFor, IsCommand, IsGiven, IsOffered}
use Rattle.swh_base.specs.Kind.{kind_letters}
use Rattle.swh_words.specs.declared.command.Command.{Command}
use Rattle.swh_words.specs.declared.command.WordsFault.{WordsFault}
use Rattle.swh_words.specs.declared.command.WordsFault.TheVariants.{Words, Memory}
use Rattle.swh_words.specs.Commands.{Answers}

-- the last letter tells the kinds apart
abbrev pub kind_from : List ℕ → Kind
kind_from letters =
    if get_or letters 2 0 == 116 then Content
    else if get_or letters 2 0 == 114 then Directory
    else if get_or letters 2 0 == 118 then Revision
    else if get_or letters 2 0 == 108 then Release
    else Snapshot

kind_from-kind_letters : (kind : Kind) → kind_from (kind_letters kind) ≡ kind
kind_from-kind_letters Content = refl
kind_from-kind_letters Directory = refl
kind_from-kind_letters Revision = refl
kind_from-kind_letters Release = refl
kind_from-kind_letters Snapshot = refl

-- what a kind and a path ask `identify` for
abbrev pub identified : Kind → Text → Wanted
identified Content path = ToIdentify Content path
identified Directory path = ToIdentifyFolder path
identified Revision path = ToIdentify Revision path
identified Release path = ToIdentify Release path
identified Snapshot path = ToIdentify Snapshot path

identified_file : (kind : Kind) (path : Text) → kind ≢ Directory → identified kind path ≡ ToIdentify kind path
identified_file Content path file = refl
identified_file Directory path file = absurd (file refl)
identified_file Revision path file = refl
identified_file Release path file = refl
identified_file Snapshot path file = refl

-- the length and the first letter tell the subcommands apart
abbrev wanted_from : Text → Option Text → Option Text → Option Text → Option (List Text) → Option Text → Option Text → Option Text → Wanted
wanted_from name dir jobs kind paths path swhid out =
    if length name == 8 then identified (kind_from (unwrap_or kind [])) (unwrap_or path [])
    else if get_or name 0 0 == 105 then ToInit (unwrap_or dir [])
    else if get_or name 0 0 == 108 then ToLoad (unwrap_or dir []) (unwrap_or jobs [])
    else if get_or name 0 0 == 97 then ToAsk (unwrap_or dir []) (unwrap_or paths [])
    else if length name == 5 then ToCheck (unwrap_or dir [])
    else ToCook (unwrap_or dir []) (unwrap_or swhid []) (unwrap_or out [])

abbrev pub read : Text × List Row → Wanted
read given = wanted_from given.0 (first_of (codes "dir") given.1) (first_of (codes "jobs") given.1) (first_of (codes "kind") given.1)
    (all_of (codes "path") given.1) (first_of (codes "path") given.1) (first_of (codes "swhid") given.1) (first_of (codes "out") given.1)

pub read-given : (given : Text × List Row) (wanted : Wanted) → IsGiven given wanted → IsOffered wanted → read given ≡ wanted
read-given given (ToInit dir) h offered =
    (λ i. wanted_from (h.0 i) (h.1 i) (first_of (codes "jobs") given.1) (first_of (codes "kind") given.1) (all_of (codes "path") given.1) (first_of (codes "path") given.1)
    (first_of (codes "swhid") given.1) (first_of (codes "out") given.1))
read-given given (ToLoad dir jobs) h offered =
    (λ i. wanted_from (h.0 i) (h.1 i) (h.2 i) (first_of (codes "kind") given.1) (all_of (codes "path") given.1) (first_of (codes "path") given.1)
    (first_of (codes "swhid") given.1) (first_of (codes "out") given.1))
read-given given (ToAsk dir paths) h offered =
    (λ i. wanted_from (h.0 i) (h.1 i) (first_of (codes "jobs") given.1) (first_of (codes "kind") given.1) (h.2 i) (first_of (codes "path") given.1)
    (first_of (codes "swhid") given.1) (first_of (codes "out") given.1))
read-given given (ToCheck dir) h offered =
    (λ i. wanted_from (h.0 i) (h.1 i) (first_of (codes "jobs") given.1) (first_of (codes "kind") given.1) (all_of (codes "path") given.1) (first_of (codes "path") given.1)
    (first_of (codes "swhid") given.1) (first_of (codes "out") given.1))
read-given given (ToCook dir swhid out) h offered =
    (λ i. wanted_from (h.0 i) (h.1 i) (first_of (codes "jobs") given.1) (first_of (codes "kind") given.1) (all_of (codes "path") given.1) (first_of (codes "path") given.1)
    (h.2 i) (h.3 i))
read-given given (ToIdentify kind path) h offered =
    (λ i. wanted_from (h.0 i) (first_of (codes "dir") given.1) (first_of (codes "jobs") given.1) (h.1 i) (all_of (codes "path") given.1) (h.2 i)
    (first_of (codes "swhid") given.1) (first_of (codes "out") given.1))
    ∙ ap (λ k. identified k path) (kind_from-kind_letters kind)
    ∙ identified_file kind path offered
read-given given (ToIdentifyFolder path) h offered =
    (λ i. wanted_from (h.0 i) (first_of (codes "dir") given.1) (first_of (codes "jobs") given.1) (h.1 i) (all_of (codes "path") given.1) (h.2 i)
    (first_of (codes "swhid") given.1) (first_of (codes "out") given.1))

one_asked : (o : Option (Text × List Row)) (a b : Wanted) → IsSomeAnd o (λ given. AsksFor given a) → IsSomeAnd o (λ given. AsksFor given b) → a ≡ b
one_asked None a b is_a is_b = absurd is_a
one_asked (Some given) a b is_a is_b = sym (read-given given a is_a.is_given is_a.offered) ∙ read-given given b is_b.is_given is_b.offered

pub one_command : (words : List (List ℕ)) (a b : Wanted) → IsCommand words a → IsCommand words b → a ≡ b
one_command words a b is_a is_b = one_asked (subcommand_of program_app words) a b is_a.asked is_b.asked

offered_of : (o : Option (Text × List Row)) (wanted : Wanted) → IsSomeAnd o (λ given. AsksFor given wanted) → IsOffered wanted
offered_of None wanted is = absurd is
offered_of (Some given) wanted is = is.offered

-- what is a command is offered
pub offered : (words : List (List ℕ)) (wanted : Wanted) → IsCommand words wanted → IsOffered wanted
offered words wanted is = offered_of (subcommand_of program_app words) wanted is.asked

is_memory : WordsFault → Bool
is_memory Words = false
is_memory Memory = true

memory≢words : Memory ≡ Words → ⊥
unfolding is_memory
memory≢words e = true≢false (ap is_memory e)

-- an answer to one question is an answer to another that asks for no more
pub none_of_answer : (r : Result Command WordsFault) (IsAskedFor IsWanted : Wanted → Type 0) → ((w : Wanted) → IsWanted w → IsAskedFor w)
    → Answers IsAskedFor r → IfErr r (λ fault. fault ≡ Words → (w : Wanted) → IsWanted w → ⊥)
none_of_answer (Ok command) IsAskedFor IsWanted same h = tt
none_of_answer (Err Words) IsAskedFor IsWanted same h = λ words w is. h w (same w is)
none_of_answer (Err Memory) IsAskedFor IsWanted same h = λ words w is. memory≢words words
