-- The first harm of two files is one, and with it they stand for no history.
use Rattle.std.proofs.Common.{◌≡◌, ℕ, ◌+◌, ◌-◌, ◌<◌, ◌≤◌, List, [], ◌∷◌, ◌++◌, length, take, sym, ap, ◌∙◌, subst, inl, inr, arith, length-append, append_assoc}
use Rattle.std.proofs.lemmas.Bool.{cases_lt}
use Rattle.std.proofs.lemmas.List.{append-nil}
use Rattle.std.proofs.Math.Seq.{take-append_seam}
use Rattle.std.specs.List.{AllByRecursion}
use Rattle.swh_base.specs.declared.kind.Kind.{Kind}
use Rattle.swh_base.specs.declared.entry.Entry.{Entry}
use Rattle.swh_model.specs.declared.event.Event.{Event}
use Rattle.swh_model.specs.Entries.{entries_of}
use Rattle.swh_model.specs.Archive.{empty_archive}
use Rattle.swh_model.specs.Limits.{ledger_length}
use Rattle.swh_model.specs.Step.{HasItsChildrenAndName, May, IsHistory, replay}
use Rattle.swh_model.specs.Happens.{IsNamedEvent}
use Rattle.swh_model.proofs.Histories as histories
use Rattle.swh_object.specs.Object.{IsObject}
use Rattle.swh_format.specs.Record.{magic}
use Rattle.swh_format.specs.Stands.{coded_records, StandsFor}
use Rattle.swh_format.proofs.Lengths.{ledger-length}
use Rattle.swh_format.proofs.StandsFrom.{behind_magic}
use Rattle.swh_segment.specs.Making.{IsMade}
use Rattle.swh_recovery.specs.declared.harm.Harm.{Harm}
use Rattle.swh_recovery.specs.declared.harm.Harm.TheVariants.{Refused}
use Rattle.swh_recovery.specs.declared.harm.Found.{Found}
use Rattle.swh_recovery.specs.Fields.{found_at}
use Rattle.swh_recovery.specs.Harms.{Begin}
use Rattle.swh_recovery.specs.Records.{AreWhole, IsHarm}
use Rattle.swh_recovery.proofs.OneHarm.{history_good, no_magic_break, no_history, same_harm, from_magic, begins_from, front_of_standing, shorter_is_front, no_more_events}
use Rattle.swh_replay.specs.Replay.{IsFirstRefused}
use Rattle.swh_keeper.specs.declared.opening.OpenWhy.{OpenWhy}
use Rattle.swh_keeper.specs.declared.opening.OpenWhy.TheVariants.{Made, NotMade, Damaged, DiskFault, Memory}
use Rattle.swh_keeper.specs.Opening.{IsDamaged}
use Rattle.swh_keeper.specs.Damage.{IfDamagedAt, IsGateOf, IsRefusedEvent, RefusesEvent, BreaksHistory, IsDamagedAt, IsHarmBehind}

pub damaged_map : (why : OpenWhy) (P Q : ℕ → ℕ → Harm → Type 0) → ((file at : ℕ) (harm : Harm) → P file at harm → Q file at harm) → IfDamagedAt why P → IfDamagedAt why Q
damaged_map Made P Q f h = tt
damaged_map NotMade P Q f h = tt
damaged_map (Damaged file at harm) P Q f h = f file at harm h
damaged_map DiskFault P Q f h = tt
damaged_map Memory P Q f h = tt

-- one front of a list goes on in the other, or they are one
record GoesOn (a : List Event) (x : Event) (b : List Event) : Type 0 where
  more : List Event
  is : b ≡ a ++ x ∷ more

goes_on : (a b m n : List Event) (x : Event) → a ++ x ∷ m ≡ b ++ n → length a < length b → GoesOn a x b
goes_on a [] m n x same less = absurd (omega (arith, less))
goes_on [] (y ∷ b) m n x same less =
    let e : x ∷ m ≡ y ∷ (b ++ n) = same in
    let heads : y ≡ x = cc in
    record { more = b; is = ap (λ (z : Event). z ∷ b) heads }
goes_on (c ∷ a) (y ∷ b) m n x same less =
    let e : c ∷ (a ++ x ∷ m) ≡ y ∷ (b ++ n) = same in
    let heads : y ≡ c = cc in
    let tails : a ++ x ∷ m ≡ b ++ n = cc in
    let rest = goes_on a b m n x tails (omega (arith, less)) in
    record { more = rest.more; is = (λ i. heads i ∷ rest.is i) }

one_length : (a b m n : List Event) → a ++ m ≡ b ++ n → length a ≡ length b → a ≡ b
one_length a b m n same size = sym (take-append_seam a m) ∙ (λ i. take (size i) (same i)) ∙ take-append_seam b n

module _ (id_of : Kind → List ℕ → List ℕ) where
  -- the event behind a front of a history may happen
  may_next : (h before more : List Event) (e : Event) → IsHistory id_of h → h ≡ before ++ e ∷ more → May id_of (replay before) e
  may_next h before more e history is = (histories.fronts id_of empty_archive before (e ∷ more) (subst (IsHistory id_of) is history)).1.0

  entries_named : (es : List Entry) → AllByRecursion (IsObject id_of) es → AllByRecursion (HasItsChildrenAndName id_of) es
  entries_named [] good = tt
  entries_named (e ∷ es) good = (record { good = record { kids = good.0.kids }; named = good.0.named }, entries_named es good.1)

  pub events_named : (h : List Event) → AllByRecursion (λ e. AllByRecursion (IsObject id_of) (entries_of e.what)) h → AllByRecursion (IsNamedEvent id_of) h
  events_named [] good = tt
  events_named (e ∷ h) good = (entries_named (entries_of e.what) good.0, events_named h good.1)

  pub first_some : (h : List Event) (number : ℕ) → IsFirstRefused id_of h number → 0 < number
  first_some h number r = let n = r.number_is in omega (arith, n)

  pub first_among : (h : List Event) (number : ℕ) → IsFirstRefused id_of h number → number ≤ length h
  first_among h number r = let n = r.number_is in let l = ap length r.are in omega (arith, n, l, length-append r.before (r.event ∷ r.more))

  -- the gate of the event that is refused
  pub refused_at : (h : List Event) (number : ℕ) (why : OpenWhy) → IsFirstRefused id_of h number → IfDamagedAt why (IsGateOf h number) → IfDamagedAt why (IsRefusedEvent id_of h)
  refused_at h number why r is = damaged_map why (IsGateOf h number) (IsRefusedEvent id_of h) (λ file at harm g. here file at harm g) is
    where
      here : (file at : ℕ) (harm : Harm) → IsGateOf h number file at harm → IsRefusedEvent id_of h file at harm
      here file at harm g =
          let n = r.number_is in
          let count : number - 1 ≡ length r.before = omega (arith, n) in
          let front : take (number - 1) h ≡ r.before = (λ i. take (count i) (r.are i)) ∙ take-append_seam r.before (r.event ∷ r.more) in
          let gate : at + 1 ≡ ledger_length r.before = g.at_is ∙ ap ledger_length front in
          let all = ledger-length r.before in
          record {
            before = r.before;
            event = r.event;
            more = r.more;
            are = r.are;
            history = r.history;
            may_not = r.may_not;
            file_is = g.file_is;
            at_is = omega (arith, gate, all, length-append magic (coded_records 0 r.before));
            harm_is = g.harm_is ∙ ap (λ (k : ℕ). Refused k) r.number_is;
          }

  begin_of : (ledger store : List ℕ) (records : List Event) → AreWhole id_of records → StandsFor ledger store records → Begin id_of ledger store records
  begin_of ledger store records whole stands =
      let s = behind_magic ledger store records stands in
      record {
        records = s.stands.gate ∷ s.stands.behind;
        ledger_begins = s.begins ∙ ap (λ (l : List ℕ). magic ++ l) s.stands.records;
        store_rest = s.stands.beyond;
        store_begins = s.stands.runs;
        codable = whole.codable;
        good = whole.good;
      }

  -- what is damaged among records that are read
  pub damaged_among : (ledger store : List ℕ) (records : List Event) (why : OpenWhy) → IsMade ledger → AreWhole id_of records → StandsFor ledger store records → IfDamagedAt why (IsRefusedEvent id_of records) → IfDamagedAt why (IsDamagedAt id_of ledger store)
  damaged_among ledger store records why made whole stands is =
      damaged_map why (IsRefusedEvent id_of records) (IsDamagedAt id_of ledger store)
      (λ file at harm r. record { made = made; first = inl (record { events = records; fronts = begin_of ledger store records whole stands; refused = r }) }) is

  none_refused : (h : List Event) (file at : ℕ) (harm : Harm) → h ≡ [] → IsRefusedEvent id_of h file at harm → ⊥
  none_refused h file at harm none r =
      let l : length h ≡ 0 = ap length none in let m = ap length r.are in omega (arith, l, m, length-append r.before (r.event ∷ r.more))

  -- what is damaged behind them or among them
  pub damaged_behind : (ledger store : List ℕ) (file at : ℕ) (harm : Harm) (before : List Event) (why : OpenWhy) → IsMade ledger → IsHarm id_of ledger store file at harm before → IfDamagedAt why (IsHarmBehind id_of before file at harm) → IfDamagedAt why (IsDamagedAt id_of ledger store)
  damaged_behind ledger store file at harm before why made harmed is = damaged_map why (IsHarmBehind id_of before file at harm) (IsDamagedAt id_of ledger store) (λ k p x b. here k p x b) is
    where
      among : (k p : ℕ) (x : Harm) → IsRefusedEvent id_of before k p x → RefusesEvent id_of ledger store k p x
      among k p x r =
          elim harmed [
            | inl m ↦ absurd (none_refused before k p x m.1 r)
            | inr b ↦ record { events = before; fronts = b.fronts; refused = r }
          ]

      here : (k p : ℕ) (x : Harm) → IsHarmBehind id_of before file at harm k p x → IsDamagedAt id_of ledger store k p x
      here k p x b = record {
        made = made;
        first =
            elim b [
              | inl r ↦ inl (among k p x r)
              | inr s ↦ inr (record {
                before = before;
                harmed =
                    subst (λ (n : ℕ). IsHarm id_of ledger store n p x before) (sym s.1)
                    (subst (λ (n : ℕ). IsHarm id_of ledger store file n x before) (sym s.2) (subst (λ (y : Harm). IsHarm id_of ledger store file at y before) (sym s.3) harmed));
                history = s.0;
              })
            ];
      }

  -- no history
  refuses_none : (ledger store : List ℕ) (file at : ℕ) (harm : Harm) (h : List Event) → RefusesEvent id_of ledger store file at harm → StandsFor ledger store h → IsHistory id_of h → ⊥
  refuses_none ledger store file at harm h d stands history =
      let s = behind_magic ledger store h stands in
      let r = d.refused in
      let front = front_of_standing id_of store 0 s.rest d.events h (begins_from id_of ledger store s.rest d.events s.begins d.fronts) s.stands (history_good id_of empty_archive h history) in
      let is : h ≡ r.before ++ r.event ∷ (r.more ++ front.more) = sym front.is ∙ ap (λ (l : List Event). l ++ front.more) r.are ∙ append_assoc r.before (r.event ∷ r.more) front.more in
      r.may_not (may_next h r.before (r.more ++ front.more) r.event history is)

  pub damage_is_damaged : (ledger store : List ℕ) (file at : ℕ) (harm : Harm) → IsDamagedAt id_of ledger store file at harm → IsDamaged id_of ledger store
  damage_is_damaged ledger store file at harm d = record {
    made = d.made;
    none = λ h stands history. elim d.first [ inl r ↦ refuses_none ledger store file at harm h r stands history | inr b ↦ no_history id_of ledger store file at harm b.before h b.harmed stands history ];
  }

  -- of two lists with which the files begin one goes on where the other does
  record Joined (g h : List Event) : Type 0 where
    all : List Event
    more : List Event
    more' : List Event
    one : all ≡ g ++ more
    other : all ≡ h ++ more'

  joined : (ledger store : List ℕ) (g h : List Event) → Begin id_of ledger store g → Begin id_of ledger store h → Joined g h
  joined ledger store g h a b =
      let rest = coded_records 0 g ++ a.records in
      let x = begins_from id_of ledger store rest g a.ledger_begins a in
      let y = begins_from id_of ledger store rest h a.ledger_begins b in
      elim (cases_lt (length h) (length g)) [
        | inl less ↦
            (let f = shorter_is_front id_of store 0 rest h g y x (omega (arith, less)) in
            record { all = g; more = []; more' = f.more; one = sym (append-nil g); other = sym f.is })
        | inr le ↦
            (let f = shorter_is_front id_of store 0 rest g h x y le in
            record { all = h; more = f.more; more' = []; one = sym f.is; other = sym (append-nil h) })
      ]

  record SameDamage (file at file' at' : ℕ) (harm harm' : Harm) : Type 0 where
    same_file : file ≡ file'
    same_at : at ≡ at'
    same_harm : harm ≡ harm'

  -- the refused event of one is not within the history of the other
  not_within : (all a m b n : List Event) (x : Event) → all ≡ a ++ x ∷ m → all ≡ b ++ n → length a < length b → IsHistory id_of b → (May id_of (replay a) x → ⊥) → ⊥
  not_within all a m b n x is is' less history may_not =
      let g = goes_on a b m n x (sym is ∙ is') less in
      may_not (may_next b a g.more x history g.is)

  refused_twice : (ledger store : List ℕ) (file at file' at' : ℕ) (harm harm' : Harm) → RefusesEvent id_of ledger store file at harm → RefusesEvent id_of ledger store file' at' harm' → SameDamage file at file' at' harm harm'
  refused_twice ledger store file at file' at' harm harm' a b =
      let j = joined ledger store a.events b.events a.fronts b.fronts in
      let r = a.refused in
      let s = b.refused in
      let one : j.all ≡ r.before ++ r.event ∷ (r.more ++ j.more) = j.one ∙ ap (λ (l : List Event). l ++ j.more) r.are ∙ append_assoc r.before (r.event ∷ r.more) j.more in
      let other : j.all ≡ s.before ++ s.event ∷ (s.more ++ j.more') = j.other ∙ ap (λ (l : List Event). l ++ j.more') s.are ∙ append_assoc s.before (s.event ∷ s.more) j.more' in
      elim (cases_lt (length r.before) (length s.before)) [
        | inl less ↦ absurd (not_within j.all r.before (r.more ++ j.more) s.before (s.event ∷ (s.more ++ j.more')) r.event one other less s.history r.may_not)
        | inr upto ↦ elim (cases_lt (length s.before) (length r.before)) [
          | inl less ↦ absurd (not_within j.all s.before (s.more ++ j.more') r.before (r.event ∷ (r.more ++ j.more)) s.event other one less r.history s.may_not)
          | inr over ↦
              (let same = one_length r.before s.before (r.event ∷ (r.more ++ j.more)) (s.event ∷ (s.more ++ j.more')) (sym one ∙ other) (omega (arith, upto, over)) in
              record {
                same_file = r.file_is ∙ sym s.file_is;
                same_at = r.at_is ∙ ap (λ (l : List Event). 8 + length (coded_records 0 l)) same ∙ sym s.at_is;
                same_harm = r.harm_is ∙ ap (λ (l : List Event). Refused (length l + 1)) same ∙ sym s.harm_is;
              })
        ]
      ]

  refused_or_broken : (ledger store : List ℕ) (file at file' at' : ℕ) (harm harm' : Harm) → RefusesEvent id_of ledger store file at harm → BreaksHistory id_of ledger store file' at' harm' → ⊥
  refused_or_broken ledger store file at file' at' harm harm' a b =
      let r = a.refused in
      let rest = coded_records 0 a.events ++ a.fronts.records in
      elim b.harmed [
        | inl m ↦ no_magic_break ledger rest file' (found_at at' harm') a.fronts.ledger_begins m.0
        | inr x ↦
            (let h = b.before in
            let fronts = begins_from id_of ledger store rest a.events a.fronts.ledger_begins a.fronts in
            elim (cases_lt (length h) (length a.events)) [
              | inl less ↦ no_more_events id_of store 1 0 8 rest h a.events file' (found_at at' harm') (from_magic id_of ledger store rest h file' (found_at at' harm') a.fronts.ledger_begins x) fronts less
              | inr le ↦
                  (let f = shorter_is_front id_of store 0 rest a.events h fronts (begins_from id_of ledger store rest h a.fronts.ledger_begins x.fronts) le in
                  let is : h ≡ r.before ++ r.event ∷ (r.more ++ f.more) = sym f.is ∙ ap (λ (l : List Event). l ++ f.more) r.are ∙ append_assoc r.before (r.event ∷ r.more) f.more in
                  r.may_not (may_next h r.before (r.more ++ f.more) r.event b.history is))
            ])
      ]

  broken_twice : (ledger store : List ℕ) (file at file' at' : ℕ) (harm harm' : Harm) → BreaksHistory id_of ledger store file at harm → BreaksHistory id_of ledger store file' at' harm' → SameDamage file at file' at' harm harm'
  broken_twice ledger store file at file' at' harm harm' a b =
      let one = same_harm id_of ledger store file at harm a.before file' at' harm' b.before a.harmed b.harmed in
      record { same_file = one.same_file; same_at = ap (λ (f : Found). f.at) one.same_found; same_harm = ap (λ (f : Found). f.harm) one.same_found }

  same_damage : (ledger store : List ℕ) (file at file' at' : ℕ) (harm harm' : Harm) → IsDamagedAt id_of ledger store file at harm → IsDamagedAt id_of ledger store file' at' harm' → SameDamage file at file' at' harm harm'
  same_damage ledger store file at file' at' harm harm' a b =
      elim a.first [
        | inl x ↦ elim b.first [ inl y ↦ refused_twice ledger store file at file' at' harm harm' x y | inr y ↦ absurd (refused_or_broken ledger store file at file' at' harm harm' x y) ]
        | inr x ↦ elim b.first [ inl y ↦ absurd (refused_or_broken ledger store file' at' file at harm' harm y x) | inr y ↦ broken_twice ledger store file at file' at' harm harm' x y ]
      ]

  pub one_damage : (ledger store : List ℕ) (file at file' at' : ℕ) (harm harm' : Harm) → IsDamagedAt id_of ledger store file at harm → IsDamagedAt id_of ledger store file' at' harm' → (file ≡ file') × (at ≡ at') × (harm ≡ harm')
  one_damage ledger store file at file' at' harm harm' a b = let s = same_damage ledger store file at file' at' harm harm' a b in (s.same_file, s.same_at, s.same_harm)
