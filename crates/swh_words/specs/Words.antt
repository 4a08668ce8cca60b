-- The words of a run: which command they are, by the program's definition for clap.
use Rattle.std.specs.Prelude.{◌≡◌, ◌≢◌, ◌<◌, ℕ, List, [], ◌∷◌, Some, IsSomeAnd, length, map, codes}
use Rattle.clap.specs.Words.{Row, Text, all_of, fault_of, first_of, subcommand_of}
use Rattle.swh_base.specs.declared.kind.Kind.{Kind}
use Rattle.swh_base.specs.Kind.{kind_letters}
use Rattle.swh_base.specs.declared.kind.Kind.TheVariants.{Directory}
use Rattle.swh_words.specs.Definition.{program_app}
use Rattle.swh_words.specs.declared.command.Command.{Command}
use Rattle.swh_words.specs.declared.command.Command.TheVariants.{Init, Load, Ask, Check, Cook, Identify, IdentifyFolder}

-- what a run may be asked to do
pub data Wanted : Type 0 where
  -- to make an archive in a folder
  ToInit : List ℕ → Wanted
  -- to load the jobs of a file into the archive in a folder
  ToLoad : List ℕ → List ℕ → Wanted
  -- to ask the archive in a folder by paths
  ToAsk : List ℕ → List (List ℕ) → Wanted
  -- to check the archive in a folder
  ToCheck : List ℕ → Wanted
  -- to cook the name of a SWHID, which the archive in a folder holds, at a path
  ToCook : List ℕ → List ℕ → List ℕ → Wanted
  -- to name the bytes of a file as a body of a kind
  ToIdentify : Kind → List ℕ → Wanted
  -- to name a folder as a directory
  ToIdentifyFolder : List ℕ → Wanted

-- what a command asks for
abbrev pub wanted_by : Command → Wanted
wanted_by (Init dir) = ToInit dir.now
wanted_by (Load dir jobs) = ToLoad dir.now jobs.now
wanted_by (Ask dir paths) = ToAsk dir.now (map (λ path. path.now) paths.items)
wanted_by (Check dir) = ToCheck dir.now
wanted_by (Cook dir swhid out) = ToCook dir.now swhid.now out.now
wanted_by (Identify kind path) = ToIdentify kind path.now
wanted_by (IdentifyFolder path) = ToIdentifyFolder path.now

-- the subcommand and the values that ask for this
abbrev pub spelled_command : Wanted → List (List ℕ)
spelled_command (ToInit dir) = codes "init" ∷ dir ∷ []
spelled_command (ToLoad dir jobs) = codes "load" ∷ dir ∷ jobs ∷ []
spelled_command (ToAsk dir paths) = codes "ask" ∷ dir ∷ paths
spelled_command (ToCheck dir) = codes "check" ∷ dir ∷ []
spelled_command (ToCook dir swhid out) = codes "cook" ∷ dir ∷ swhid ∷ out ∷ []
spelled_command (ToIdentify kind path) = codes "identify" ∷ kind_letters kind ∷ path ∷ []
spelled_command (ToIdentifyFolder path) = codes "identify" ∷ kind_letters Directory ∷ path ∷ []

-- A subcommand's name and clap's values for it are what is wanted.
abbrev pub IsGiven : Text × List Row → Wanted → Type 0
IsGiven given (ToInit dir) = (given.0 ≡ codes "init") × (first_of (codes "dir") given.1 ≡ Some dir)
IsGiven given (ToLoad dir jobs) =
    (given.0 ≡ codes "load") × (first_of (codes "dir") given.1 ≡ Some dir) × (first_of (codes "jobs") given.1 ≡ Some jobs)
IsGiven given (ToAsk dir paths) =
    (given.0 ≡ codes "ask") × (first_of (codes "dir") given.1 ≡ Some dir) × (all_of (codes "path") given.1 ≡ Some paths)
IsGiven given (ToCheck dir) = (given.0 ≡ codes "check") × (first_of (codes "dir") given.1 ≡ Some dir)
IsGiven given (ToCook dir swhid out) =
    (given.0 ≡ codes "cook") × (first_of (codes "dir") given.1 ≡ Some dir) × (first_of (codes "swhid") given.1 ≡ Some swhid)
    × (first_of (codes "out") given.1 ≡ Some out)
IsGiven given (ToIdentify kind path) =
    (given.0 ≡ codes "identify") × (first_of (codes "kind") given.1 ≡ Some (kind_letters kind)) × (first_of (codes "path") given.1 ≡ Some path)
IsGiven given (ToIdentifyFolder path) =
    (given.0 ≡ codes "identify") × (first_of (codes "kind") given.1 ≡ Some (kind_letters Directory)) × (first_of (codes "path") given.1 ≡ Some path)

-- One path or more is asked, and a directory is no file.
abbrev pub IsOffered : Wanted → Type 0
IsOffered (ToInit dir) = Unit {0}
IsOffered (ToLoad dir jobs) = Unit {0}
IsOffered (ToAsk dir paths) = 0 < length paths
IsOffered (ToCheck dir) = Unit {0}
IsOffered (ToCook dir swhid out) = Unit {0}
IsOffered (ToIdentify kind path) = kind ≢ Directory
IsOffered (ToIdentifyFolder path) = Unit {0}

-- A subcommand's name and clap's values for it ask for this, which is offered.
pub record AsksFor (given : Text × List Row) (wanted : Wanted) : Type 0 where
  pub is_given : IsGiven given wanted
  pub offered : IsOffered wanted

-- Clap takes the words by the program's definition, and what it gives for them asks for this.
pub record IsCommand (words : List (List ℕ)) (wanted : Wanted) : Type 0 where
  pub taken : fault_of program_app words ≡ []
  pub asked : IsSomeAnd (subcommand_of program_app words) (λ given. AsksFor given wanted)
