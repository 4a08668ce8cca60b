-- Persons, cut at their first `<` and `>`, and dates, cut at their spaces.
use Rattle.std.proofs.Common.{◌≡◌, ℕ, List, [], ◌∷◌, ◌++◌, Option, Some, None, Contains, refl, sym, ap, ◌∙◌, subst}
use Rattle.std.specs.List.{AllPass}
use Rattle.swh_base.specs.Text.{IsPerson, is_person_byte, is_digit, named}
use Rattle.swh_base.proofs.Lacks.{lacks}
use Rattle.swh_base.proofs.Splits.{first_split, not_nil}
use Rattle.swh_base.proofs.Middle.{in_middle}
use Rattle.swh_base.specs.Text.{IsNamed, IsZone, IsSeconds, IsDate}

-- a date's parts are what stands before and after its space
pub record DateParts (seconds zone : List ℕ) : Type 0 where
  pub are_seconds : IsSeconds seconds
  pub is_zone : IsZone zone

date_rest : (text rest : List ℕ) → text ≡ 32 ∷ rest → (h : IsDate text) → rest ≡ h.seconds ++ 32 ∷ h.zone
date_rest text rest cut h = let both : 32 ∷ rest ≡ 32 ∷ (h.seconds ++ 32 ∷ h.zone) = sym cut ∙ h.spelled in cc

pub date-no_space : (text rest : List ℕ) → text ≡ 32 ∷ rest → (Contains rest 32 → ⊥) → IsDate text → ⊥
date-no_space text rest cut none h = none (subst (λ (t : List ℕ). Contains t 32) (sym (date_rest text rest cut h)) (in_middle h.seconds h.zone 32))

pub date_parts : (text rest seconds zone : List ℕ) → text ≡ 32 ∷ rest → (Contains seconds 32 → ⊥) → rest ≡ seconds ++ 32 ∷ zone → IsDate text → DateParts seconds zone
date_parts text rest seconds zone cut none e h =
    let same = first_split 32 seconds h.seconds zone h.zone none (lacks is_digit h.seconds 32 refl h.are_seconds.digits) (sym e ∙ date_rest text rest cut h) in
    record { are_seconds = subst IsSeconds (sym same.0) h.are_seconds; is_zone = subst IsZone (sym same.1) h.is_zone }

pub whole_date : (text rest seconds zone : List ℕ) → text ≡ 32 ∷ rest → rest ≡ seconds ++ 32 ∷ zone → IsSeconds seconds → IsZone zone → IsDate text
whole_date text rest seconds zone cut e s z = record { seconds = seconds; zone = zone; spelled = cut ∙ ap (λ (t : List ℕ). 32 ∷ t) e; are_seconds = s; is_zone = z }

-- a person's parts are what stands before its `<`, between the two, and after its `>`
pub record PersonParts (name email date : List ℕ) : Type 0 where
  pub is_named : IsNamed name
  pub email_bytes : AllPass is_person_byte email
  pub is_date : IsDate date

IsDate-date_of : (text : List ℕ) (h : IsPerson text) → IsDate (32 ∷ (h.seconds ++ 32 ∷ h.sign ∷ h.zone))
IsDate-date_of text h = record {
  seconds = h.seconds;
  zone = h.sign ∷ h.zone;
  spelled = refl;
  are_seconds = record { some = h.some_seconds; few = h.few_seconds; digits = h.seconds_digits };
  is_zone = record { sign = h.sign; digits = h.zone; spelled = refl; is_sign = h.is_sign; four = h.four; zone_digits = h.zone_digits };
}

pub person-no_open : (text : List ℕ) → (Contains text 60 → ⊥) → IsPerson text → ⊥
person-no_open text none h = none (subst (λ (t : List ℕ). Contains t 60) (sym h.spelled) (in_middle (named h.name) _ 60))

record AtOpen (name rest : List ℕ) (text : List ℕ) (h : IsPerson text) : Type 0 where
  same : name ≡ named h.name
  behind : rest ≡ h.email ++ 62 ∷ 32 ∷ (h.seconds ++ 32 ∷ h.sign ∷ h.zone)

at_open : (text name rest : List ℕ) → (Contains name 60 → ⊥) → text ≡ name ++ 60 ∷ rest → (h : IsPerson text) → AtOpen name rest text h
at_open text name rest none e h =
    let cut = first_split 60 name (named h.name) rest _ none (lacks is_person_byte (named h.name) 60 refl h.name_bytes) (sym e ∙ h.spelled) in
    record { same = cut.0; behind = cut.1 }

pub person-no_close : (text name rest : List ℕ) → (Contains name 60 → ⊥) → text ≡ name ++ 60 ∷ rest → (Contains rest 62 → ⊥) → IsPerson text → ⊥
person-no_close text name rest none e never h = never (subst (λ (t : List ℕ). Contains t 62) (sym (at_open text name rest none e h).behind) (in_middle h.email _ 62))

pub person_parts : (text name rest email date : List ℕ) → (Contains name 60 → ⊥) → text ≡ name ++ 60 ∷ rest → (Contains email 62 → ⊥) → rest ≡ email ++ 62 ∷ date → IsPerson text → PersonParts name email date
person_parts text name rest email date none e never f h =
    let front = at_open text name rest none e h in
    let back = first_split 62 email h.email date (32 ∷ (h.seconds ++ 32 ∷ h.sign ∷ h.zone)) never (lacks is_person_byte h.email 62 refl h.email_bytes) (sym f ∙ front.behind) in
    record {
      is_named = record { name = h.name; spelled = front.same; bytes = subst (AllPass is_person_byte) (sym front.same) h.name_bytes };
      email_bytes = subst (AllPass is_person_byte) (sym back.0) h.email_bytes;
      is_date = subst IsDate (sym back.1) (IsDate-date_of text h);
    }

pub whole_person : (text name rest email date : List ℕ) → text ≡ name ++ 60 ∷ rest → rest ≡ email ++ 62 ∷ date → IsNamed name → AllPass is_person_byte email → IsDate date → IsPerson text
whole_person text name rest email date e f n b d = record {
  name = n.name;
  email = email;
  seconds = d.seconds;
  sign = d.is_zone.sign;
  zone = d.is_zone.digits;
  spelled = e ∙ ap (λ (t : List ℕ). t ++ 60 ∷ rest) n.spelled ∙ ap (λ (t : List ℕ). named n.name ++ 60 ∷ t) (f ∙ ap (λ (t : List ℕ). email ++ 62 ∷ t) (d.spelled ∙ ap (λ (t : List ℕ). 32 ∷ (d.seconds ++ 32 ∷ t)) d.is_zone.spelled));
  name_bytes = subst (AllPass is_person_byte) n.spelled n.bytes;
  email_bytes = b;
  some_seconds = d.are_seconds.some;
  few_seconds = d.are_seconds.few;
  seconds_digits = d.are_seconds.digits;
  is_sign = d.is_zone.is_sign;
  four = d.is_zone.four;
  zone_digits = d.is_zone.zone_digits;
}

same_last : (a b : List ℕ) (x y : ℕ) → a ++ x ∷ [] ≡ b ++ y ∷ [] → x ≡ y
same_last [] [] x y e = cc
same_last [] (d ∷ b) x y e = let tails : [] ≡ b ++ y ∷ [] = cc in absurd (not_nil b [] y (sym tails))
same_last (c ∷ a) [] x y e = let tails : a ++ x ∷ [] ≡ [] = cc in absurd (not_nil a [] x tails)
same_last (c ∷ a) (d ∷ b) x y e = let tails : a ++ x ∷ [] ≡ b ++ y ∷ [] = cc in same_last a b x y tails

ends_in_space : (text rest : List ℕ) (last : ℕ) (name : Option (List ℕ)) → text ≡ rest ++ last ∷ [] → text ≡ named name → last ≡ 32
ends_in_space text rest last None cut e = absurd (not_nil rest [] last (sym cut ∙ e))
ends_in_space text rest last (Some name) cut e = same_last rest name last 32 (sym cut ∙ e)

-- what stands before an email ends in a space, if it is not empty
pub named-last : (text rest : List ℕ) (last : ℕ) → text ≡ rest ++ last ∷ [] → IsNamed text → last ≡ 32
named-last text rest last cut h = ends_in_space text rest last h.name cut h.spelled

pub named_from : (text rest : List ℕ) (last : ℕ) → text ≡ rest ++ last ∷ [] → last ≡ 32 → AllPass is_person_byte text → IsNamed text
named_from text rest last cut is bytes = record { name = Some rest; spelled = cut ∙ ap (λ (c : ℕ). rest ++ c ∷ []) is; bytes = bytes }
