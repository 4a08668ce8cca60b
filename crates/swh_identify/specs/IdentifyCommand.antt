-- What `identify` does.
use Rattle.std.specs.Prelude.{◌≡◌, ◌≢◌, ◌⊎◌, ℕ, ◌<◌, ◌≤◌, Option, Some, None, IsSomeAnd, List, [], ◌∷◌, ◌++◌, length, codes, decimal}
use Rattle.swh_base.specs.declared.kind.Kind.{Kind}
use Rattle.swh_base.specs.declared.name.Name.{Name}
use Rattle.swh_base.specs.Limits.{body_limit}
use Rattle.swh_base.specs.Manifest.{IsWellFormed}
use Rattle.swh_object.specs.Object.{IsBadBody}
use Rattle.swh_swhid.specs.Core.{core_text}
use Rattle.swh_exit.specs.Seen.{Span, DeskFailed, SinkFailed}
use Rattle.swh_exit.specs.LeftAlone.{IsOnDesk}
use Rattle.swh_exit.specs.Refusal.{refusal}
use Rattle.swh_exit.specs.Run.{IsExactly, Ends, IsPrintedWith}
use Rattle.swh_base.specs.Kind.{kind_letters}
use Rattle.swh_exit.specs.declared.answer.Ending.{Ending}
use Rattle.swh_exit.specs.declared.answer.Ending.TheVariants as ending
use Rattle.swh_exit.specs.declared.answer.Answer.{Answer}
use Rattle.swh_exit.specs.declared.answer.Answer.TheVariants.{Told, OutsideSource, Memory}

-- the name of bytes as a body of this kind
abbrev pub name_of_bytes : (Kind → List ℕ → List ℕ) → Kind → List ℕ → Name
name_of_bytes id_of kind bytes = record { kind = kind; id = id_of kind bytes }

-- a name as it is printed: its core identifier
abbrev pub name_line : Name → List ℕ
name_line name = core_text name ++ 10 ∷ []

-- what is printed of bytes that are no body of this kind: the place where its reader refuses them
abbrev pub bad_line : Kind → ℕ → List ℕ
bad_line kind at = refusal (codes "bad " ++ (kind_letters kind ++ 32 ∷ decimal at))

-- The bytes are a body of the kind.
pub record IsBody (kind : Kind) (bytes : List ℕ) : Type 0 where
  pub short : length bytes ≤ body_limit
  pub formed : IsWellFormed kind bytes

-- The text is the name of these bytes, which are a body of the kind.
pub record TellsName (id_of : Kind → List ℕ → List ℕ) (kind : Kind) (bytes text : List ℕ) : Type 0 where
  pub body : IsBody kind bytes
  pub text_is : text ≡ name_line (name_of_bytes id_of kind bytes)

-- The text refuses these bytes, which are no body of the kind, at the place that its reader names.
pub record RefusesBytes (kind : Kind) (bytes text : List ℕ) : Type 0 where
  pub short : length bytes ≤ body_limit
  pub unformed : IsWellFormed kind bytes → ⊥
  pub at : ℕ
  pub bad : IsBadBody kind bytes at
  pub text_is : text ≡ bad_line kind at

-- The bytes are more than a body may have.
pub record IsAboveBodyLimit (bytes text : List ℕ) : Type 0 where
  pub long : body_limit < length bytes
  pub text_is : text ≡ refusal (codes "limit body")

-- The text says why no body of the kind stands at a path.
abbrev pub IsRefusedFile : Kind → Option (List ℕ) → List ℕ → Type 0
IsRefusedFile kind None text = text ≡ refusal (codes "not found")
IsRefusedFile kind (Some bytes) text = IsAboveBodyLimit bytes text ⊎ RefusesBytes kind bytes text

-- No body of the kind stands at a path.
abbrev pub HasNoBody : Kind → Option (List ℕ) → Type 0
HasNoBody kind None = Unit {0}
HasNoBody kind (Some bytes) = IsBody kind bytes → ⊥

module _ (id_of : Kind → List ℕ → List ℕ) (kind : Kind) where
  -- What is told of what stands at a path: a name, or why there is none.
  abbrev pub TellsFile : Option (List ℕ) → Ending → List ℕ → Type 0
  TellsFile found ending.Done text = IsSomeAnd found (λ bytes. TellsName id_of kind bytes text)
  TellsFile found ending.Wanting text = IsRefusedFile kind found text
  TellsFile found _ text = ⊥

  -- `identify` has no other answers, whether the desk tells its content or not.
  abbrev pub IsIdentifyAnswer : Answer → Type 0
  IsIdentifyAnswer (Told text end) = (found : Option (List ℕ)) × TellsFile found end text
  IsIdentifyAnswer OutsideSource = Unit {0}
  IsIdentifyAnswer Memory = Unit {0}
  IsIdentifyAnswer _ = ⊥

  -- What stands at the path comes to this answer.
  abbrev pub IdentifyEnds : Option (List ℕ) → Answer → Type 0
  IdentifyEnds found (Told text end) = TellsFile found end text
  IdentifyEnds found OutsideSource = Unit {0}
  IdentifyEnds found Memory = Unit {0}
  IdentifyEnds found _ = ⊥

-- This answer came of `identify`, by what stands at each path of the desk.
pub record Identifies (kind : Kind) (path : List ℕ) (s : Span) (answer : Answer) : Type 0 where
  pub one_of : IsIdentifyAnswer s.id_of kind answer
  pub ends : s.told.origins → IdentifyEnds s.id_of kind (s.old.desk.file_at path) answer
  pub cause : answer ≡ OutsideSource → DeskFailed s
  pub left : IsOnDesk s

-- What a run of `identify` does.
pub record DoesIdentify (kind : Kind) (path : List ℕ) (s : Span) (status : ℕ) : Type 0 where
  pub ends : Ends (Identifies kind path s) s status
  -- It refuses no job, and needs no archive.
  pub not_refused : status ≢ 2
  pub no_archive : status ≢ 3
  -- 1: no body of the kind stands at the path.
  pub no_body : s.told.origins → IsExactly 1 (HasNoBody kind (s.old.desk.file_at path)) status
  -- The name of a file that is a body of the kind is printed, unless memory runs out, where no part of the outside
  -- failed.
  pub complete : (bytes : List ℕ) → s.told.origins → s.old.desk.file_at path ≡ Some bytes → IsBody kind bytes
      → (DeskFailed s → ⊥) → (SinkFailed s → ⊥) → IsPrintedWith (name_line (name_of_bytes s.id_of kind bytes)) 0 s status
