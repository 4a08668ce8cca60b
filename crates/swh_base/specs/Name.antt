-- The texts of ids, and the order of names: by kind, then by id.
use Rattle.std.specs.Prelude.{◌≡◌, ℕ, ◌<◌, ◌==◌, Bool, ◌&&◌, ◌||◌, nat_le, if◌then◌else◌, List, [], ◌∷◌, length, refl}
use Rattle.std.specs.List.{AllPass, AllByRecursion}
use Rattle.std.proofs.Common.{ap, sym, ◌∙◌}
use Rattle.std.specs.declared.cmp.Ordering.{Ordering}
use Rattle.std.specs.Ordering.{nat_cmp, on}
use Rattle.std.specs.Cmp.{IsTotalOrder, on_total}
use Rattle.std.specs.Cmp.Lexicographic.{slice_cmp, nat_list_cmp_total}
use Rattle.std.specs.FinMap.{IsAntisymmetric, nat_cmp-IsAntisymmetric, slice_cmp-IsAntisymmetric}
use Rattle.swh_base.specs.declared.kind.Kind.{Kind}
use Rattle.swh_base.specs.declared.kind.Kind.TheVariants.{Content, Directory, Revision, Release, Snapshot}
use Rattle.swh_base.specs.declared.name.Name.{Name}

-- `0` to `9` are 48 to 57, and `a` to `f` are 97 to 102
abbrev pub is_lower_hex_digit : ℕ → Bool
is_lower_hex_digit c = (nat_le 48 c && nat_le c 57) || (nat_le 97 c && nat_le c 102)

-- forty lower-case hexadecimal digits
abbrev pub IsIdText : List ℕ → Type 0
IsIdText text = (length text ≡ 40) × AllPass is_lower_hex_digit text

-- A number below 256.
abbrev pub IsByte : ℕ → Type 0
IsByte b = b < 256

-- twenty bytes
abbrev pub IsId : List ℕ → Type 0
IsId id = (length id ≡ 20) × AllByRecursion IsByte id

-- The id has twenty bytes.
abbrev pub IsName : Name → Type 0
IsName n = IsId n.id

-- the number of a kind, by which names are ordered and by which a kind is coded
abbrev pub kind_number : Kind → ℕ
kind_number Content = 1
kind_number Directory = 2
kind_number Revision = 3
kind_number Release = 4
kind_number Snapshot = 5

-- the kind's number, then the id
abbrev pub name_key : Name → List ℕ
name_key n = kind_number n.kind ∷ n.id

-- Names are compared by the kind, then by the id, byte by byte.
abbrev pub name_cmp : Name → Name → Ordering
name_cmp = on name_key (slice_cmp nat_cmp)

pub name_cmp_total : IsTotalOrder name_cmp
name_cmp_total = on_total name_key nat_list_cmp_total

abbrev kind_of : ℕ → Kind
kind_of k = if k == 1 then Content else if k == 2 then Directory else if k == 3 then Revision else if k == 4 then Release else Snapshot

kind_of-number : (kind : Kind) → kind_of (kind_number kind) ≡ kind
kind_of-number Content = refl
kind_of-number Directory = refl
kind_of-number Revision = refl
kind_of-number Release = refl
kind_of-number Snapshot = refl

abbrev name_of : List ℕ → Name
name_of [] = record { kind = Content; id = [] }
name_of (k ∷ id) = record { kind = kind_of k; id = id }

name_of-key : (n : Name) → name_of (name_key n) ≡ n
name_of-key n = ap (λ (k : Kind). record { kind = k; id = n.id }) (kind_of-number n.kind)

pub name_key-injective : (n m : Name) → name_key n ≡ name_key m → n ≡ m
name_key-injective n m e = sym (name_of-key n) ∙ ap name_of e ∙ name_of-key m

pub name_cmp-IsAntisymmetric : IsAntisymmetric name_cmp
name_cmp-IsAntisymmetric n m e = name_key-injective n m (slice_cmp-IsAntisymmetric nat_cmp-IsAntisymmetric (name_key n) (name_key m) e)
