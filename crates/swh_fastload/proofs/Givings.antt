-- A stream that is given part by part.
use Rattle.std.proofs.Common.{◌≡◌, ℕ, inl, inr, List, [], ◌∷◌, ◌++◌, Option, Contains, refl, sym, ap, ◌∙◌, subst}
use Rattle.std.specs.Prelude.{Result, Ok, Err, IfOk, IfErr}
use Rattle.swh_base.specs.declared.kind.Kind.{Kind}
use Rattle.swh_base.specs.declared.entry.Entry.{Entry}
use Rattle.swh_model.specs.Meaning.{Made, StreamMeaning}
use Rattle.swh_dedup.specs.declared.objects.Objects.{Objects}
use Rattle.swh_dedup.specs.Making.{made}
use Rattle.swh_fastgrammar.specs.declared.command.Command.{Command}
use Rattle.swh_fastlex.specs.ReadOn.{IsQuietBut}
use Rattle.swh_fastrows.specs.Places.{HoldsFront, position}
use Rattle.swh_fastread.proofs.Afterwards.{stream_after_start}
use Rattle.swh_fastmeaning.specs.Aims.{Missing}
use Rattle.swh_fastmeaning.specs.Commands.{◌>>=◌, Making, no_making, steps}
use Rattle.swh_fastload.specs.declared.bad.InputFault.{InputFault}
use Rattle.swh_fastload.specs.declared.bad.InputFault.TheVariants.{Bad, ReadFault, Memory}
use Rattle.swh_fastload.specs.declared.parts.StreamPart.{StreamPart}
use Rattle.swh_fastload.specs.declared.parts.StreamPart.TheVariants.{More, Last}
use Rattle.swh_fastload.specs.Giving.{MakesFirst, AreMeant, MayGive, StreamState, AreWholeAndNew, EndsStream, GivesNext, IfLast, IfMore, IsLast, BreaksOff, meaning_of}
use Rattle.swh_fastload.specs.Input.{beginning, MeansStream, Means}
use Rattle.swh_fastload.specs.Loaded.{making_of}
use Rattle.swh_fastload.specs.Reading.{HasCome, ReadsUpTo, StopsAtEnd, FailsSo, BreaksSo, IsQuiet}
use Rattle.swh_fastload.proofs.InputLaws.{one_making, steps_append, steps_keep}
use Rattle.swh_fastload.proofs.Progresses.{carried}
use Rattle.swh_fastload.proofs.Readings.{reads_up_to}

module _ (id : Kind → List ℕ → List ℕ) where
  -- what was given so far is what whole commands make
  pub come_first : (text : List ℕ) (s : StreamState) (given : List Entry) → HasCome id text (position s.standing.place s.standing.promised) s.loading given → MakesFirst id text (made given)
  come_first text s given h = record {
    commands = h.loaded.commands;
    making = h.loaded.making;
    rest = position s.standing.place s.standing.promised;
    starts = h.loaded.starts;
    carried = carried id text (position s.standing.place s.standing.promised) h.loading given h.loaded;
    makes = λ m c. h.loaded.stands.sound m (subst (λ (ms : List Made). Contains ms m) (sym h.loaded.stands.given) c);
  }

  -- what the first commands of a stream make is made by all of them
  goes_on : (m n : Making) (cs more all : List Command) → steps id no_making cs ≡ Ok m → all ≡ cs ++ more → steps id no_making all ≡ Ok n → steps id m more ≡ Ok n
  goes_on m n cs more all first is whole =
      ap (λ (r : Result Making Missing). r >>= λ x. steps id x more) (sym first) ∙ sym (steps_append id no_making cs more) ∙ ap (steps id no_making) (sym is) ∙ whole

  pub first_meant : (head : Option (List ℕ)) (text : List ℕ) (objects : List Made) (meaning : StreamMeaning) → MakesFirst id text objects → MeansStream id head text meaning → (m : Made) → Contains objects m → Contains meaning.objects m
  first_meant head text objects meaning f h m c =
      let on = stream_after_start (beginning text) f.rest f.commands h.commands f.starts h.stream in
      (h.meant.objects m).1 (inl (steps_keep id f.making h.making on.commands m (goes_on f.making h.making f.commands on.commands h.commands f.carried.makes on.these h.carried.makes) (f.makes m c)))

  -- the last part
  pub last_ends : {N : Type 0} (tells : Type 0) (head : Option (List ℕ)) (text : List ℕ) (faults : ℕ) (path : List ℕ) (given : List Entry) (s : StreamState) (part : StreamPart N)
      → (tells → IfLast (λ (last : Objects N). Means id head text (meaning_of (given ++ last.objects.items) last.snapshot)) part)
      → IfLast (λ (last : Objects N). AreWholeAndNew id (given ++ last.objects.items) last.snapshot) part
      → (tells → StopsAtEnd text s.standing.place) → s.standing.place.path ≡ path → s.standing.place.faults ≡ faults → IsLast part → GivesNext id tells head text faults path given s part
  last_ends tells head text faults path given s (More objects) means all stops same_path quiet is = absurd is
  last_ends tells head text faults path given s (Last last) means all stops same_path quiet is = record { means = means; all = all; stops = stops; same_path = same_path; quiet = quiet }

  pub ends_part : {N E : Type 0} (tells : Type 0) (head : Option (List ℕ)) (text : List ℕ) (faults : ℕ) (path : List ℕ) (given : List Entry) (s : StreamState) (r : Result (StreamPart N) E)
      → (tells → IfOk r (IfLast (λ (last : Objects N). Means id head text (meaning_of (given ++ last.objects.items) last.snapshot))))
      → IfOk r (IfLast (λ (last : Objects N). AreWholeAndNew id (given ++ last.objects.items) last.snapshot))
      → (tells → StopsAtEnd text s.standing.place) → s.standing.place.path ≡ path → s.standing.place.faults ≡ faults → IfOk r IsLast → IfOk r (GivesNext id tells head text faults path given s)
  ends_part tells head text faults path given s (Ok part) means all stops same_path quiet is = last_ends tells head text faults path given s part means all stops same_path quiet is
  ends_part tells head text faults path given s (Err e) means all stops same_path quiet is = tt

  -- why nothing comes any more
  pub fails_off : (tells : Type 0) (head : Option (List ℕ)) (text : List ℕ) (old new : ℕ) (fault : InputFault) → FailsSo id tells text old new fault → BreaksOff id tells head text old new fault
  fails_off tells head text old new (Bad bad) f = (f.0, λ told. f.1 told head)
  fails_off tells head text old new ReadFault f = f
  fails_off tells head text old new Memory f = tt

  pub ends_off : {T : Type 0} (tells : Type 0) (head : Option (List ℕ)) (text : List ℕ) (old new : ℕ) (r : Result T InputFault) → (tells → IfErr r (BreaksSo id head text)) → IfErr r IsQuiet → IfErr r (BreaksOff id tells head text old new)
  ends_off tells head text old new (Ok t) f q = tt
  ends_off tells head text old new (Err (Bad bad)) f q = (q, f)
  ends_off tells head text old new (Err ReadFault) f q = absurd q
  ends_off tells head text old new (Err Memory) f q = tt

-- All parts of a stream.
module _ {N : Type 0} (id : Kind → List ℕ → List ℕ) (tells : Type 0) (head : Option (List ℕ)) (text : List ℕ) (faults : ℕ) (path : List ℕ) (s : StreamState) where
  pub all_ended : (front : List Entry) (last all : Objects N) → all.objects.items ≡ front ++ last.objects.items → all.snapshot ≡ last.snapshot → EndsStream id tells head text faults path front s last → EndsStream id tells head text faults path [] s all
  all_ended front last all items root e = record {
    means = λ told. subst (λ (m : StreamMeaning). Means id head text m) (sym (ap (λ (es : List Entry). meaning_of es all.snapshot) items ∙ ap (λ (i : List ℕ). meaning_of (front ++ last.objects.items) i) root)) (e.means told);
    all = subst (λ (i : List ℕ). AreWholeAndNew id all.objects.items i) (sym root) (subst (λ (es : List Entry). AreWholeAndNew id es last.snapshot) (sym items) e.all);
    stops = e.stops;
    same_path = e.same_path;
    quiet = e.quiet;
  }

module _ {N E : Type 0} (id : Kind → List ℕ → List ℕ) (tells : Type 0) (head : Option (List ℕ)) (text : List ℕ) (faults : ℕ) (path : List ℕ) (s : StreamState) where
  pub meant_all : (r : Result (Objects N) E) → IfOk r (EndsStream id tells head text faults path [] s) → tells → IfOk r (λ (all : Objects N). Means id head text (making_of all))
  meant_all (Ok all) e told = e.means told
  meant_all (Err fault) e told = tt

  pub whole_all : (r : Result (Objects N) E) → IfOk r (EndsStream id tells head text faults path [] s) → IfOk r (λ (all : Objects N). AreWholeAndNew id all.objects.items all.snapshot)
  whole_all (Ok all) e = e.all
  whole_all (Err fault) e = tt

  pub stops_all : (r : Result (Objects N) E) → IfOk r (EndsStream id tells head text faults path [] s) → (now : List ℕ) → HoldsFront s.standing.place.buffered s.standing.place.rest now → tells → IfOk r (λ _. ReadsUpTo text now)
  stops_all (Ok all) e now held told = reads_up_to text text s.standing.place now refl (e.stops told) held
  stops_all (Err fault) e now held told = tt

-- all that an input may give belongs to what it means
pub given_meant : (id : Kind → List ℕ → List ℕ) (head : Option (List ℕ)) (text : List ℕ) (objects : List Made) (meaning : StreamMeaning) → MayGive id head text objects → Means id head text meaning → (m : Made) → Contains objects m → Contains meaning.objects m
unfolding MayGive Means
given_meant id head text objects meaning (inl f) h m c = first_meant id head text objects meaning f h m c
given_meant id head text objects meaning (inr a) h m c = ((one_making id head text a.meaning meaning a.means h).objects m).0 (a.among m c)

pub gives_first : (id : Kind → List ℕ → List ℕ) (head : Option (List ℕ)) (text : List ℕ) (objects : List Made) → MakesFirst id text objects → MayGive id head text objects
unfolding MayGive
gives_first id head text objects f = inl f

pub gives_meant : (id : Kind → List ℕ → List ℕ) (head : Option (List ℕ)) (text : List ℕ) (objects : List Made) → AreMeant id head text objects → MayGive id head text objects
unfolding MayGive
gives_meant id head text objects a = inr a

-- the one last object
pub one_last : (given old new : List Entry) (o : Entry) → old ≡ [] → new ≡ old ++ o ∷ [] → given ++ new ≡ given ++ o ∷ []
one_last given old new o none is = ap (λ (t : List Entry). given ++ t) (is ∙ ap (λ (t : List Entry). t ++ o ∷ []) none)

-- nothing comes after the last part
pub last_still : {N E : Type 0} (P : Type 0) (r : Result (StreamPart N) E) → IfOk r IsLast → IfOk r (λ (part : StreamPart N). IfMore part P)
last_still P (Ok (More objects)) is = absurd is
last_still P (Ok (Last last)) is = tt
last_still P (Err e) is = tt

-- A failure that is handed on was heard where it is the source's.
pub quiet_fault : {T U : Type 0} (r : Result T InputFault) (fault : InputFault) (old new : ℕ) → r ≡ Err fault → IsQuietBut old new ReadFault r → IsQuietBut {T = U} old new ReadFault (Err fault)
quiet_fault r fault old new is quiet = λ other. quiet (λ e. other (let same : fault ≡ ReadFault = cc in ap Err same))
