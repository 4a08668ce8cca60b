-- What becomes of a stream that is read and fed.
use Rattle.std.proofs.Common.{◌≡◌, ◌⊎◌, ℕ, ◌<◌, ◌≤◌, ◌+◌, inl, inr, Bool, false, List, [], ◌∷◌, ◌++◌, length, length-append, Option, Contains, refl, sym, ap, ◌∙◌, subst, arith, append_assoc}
use Rattle.std.specs.Prelude.{◌≢◌, Result, Ok, Err, Some, None, IfOk}
use Rattle.std.specs.List.{AllByRecursion}
use Rattle.std.proofs.lemmas.List.{map-append, append-nil}
use Rattle.swh_outside.specs.Faults.{Rose}
use Rattle.swh_base.specs.declared.kind.Kind.{Kind}
use Rattle.swh_base.specs.declared.kind.Kind.TheVariants.{Snapshot}
use Rattle.swh_base.specs.declared.entry.Entry.{Entry}
use Rattle.swh_base.specs.declared.visit.Which.{Which}
use Rattle.swh_base.specs.declared.visit.Which.TheVariants.{Body}
use Rattle.swh_base.specs.Limits.{body_limit}
use Rattle.swh_base.proofs.Elementary.{all_as}
use Rattle.swh_model.specs.Meaning.{Made}
use Rattle.swh_model.proofs.Entries.{all-append}
use Rattle.swh_fastgrammar.specs.declared.command.Command.{Command}
use Rattle.swh_fastgrammar.specs.declared.fault.StreamWhy.{StreamWhy}
use Rattle.swh_fastrows.specs.declared.fail.ReadFail.{ReadFail}
use Rattle.swh_fastrows.specs.declared.fail.ReadFail.TheVariants.{BadStream as BadRead, ReadFault as SourceFailed, Limit as PassesLimit, Memory as ReadMemory}
use Rattle.swh_fastread.specs.declared.reader.Ending.{Ending}
use Rattle.swh_fastread.specs.declared.reader.Ending.TheVariants.{Open, Refused}
use Rattle.swh_fastrows.specs.Explains.{Explains}
use Rattle.swh_fastrows.specs.Outcome.{IsFaultWithin, PassesFirst, StartsWith}
use Rattle.swh_fastlex.specs.ReadOn.{IsQuietBut}
use Rattle.swh_fastlex.specs.declared.source.TheConstants.{WINDOW}
use Rattle.swh_fastrows.specs.Failing.{MayPass, MayFail}
use Rattle.swh_fastrows.specs.Places.{ReaderState, Position, HoldsFront, left, position}
use Rattle.swh_fastread.specs.Steps.{IsStreamBefore, EndsHere, done_line}
use Rattle.swh_fastread.specs.Standing.{Standing, LeadsOn, Answers, ending_of}
use Rattle.swh_fastread.proofs.Outcomes.{before_carries, fault_carries, limit_carries, carries_with, starts_join}
use Rattle.swh_fastmeaning.specs.declared.feed_fault.FeedFault.{FeedFault}
use Rattle.swh_fastmeaning.specs.declared.feed_fault.FeedFault.TheVariants.{BadStream as BadFeed, Limit as PassesBody, Memory as FeedMemory}
use Rattle.swh_fastmeaning.specs.Aims.{Missing}
use Rattle.swh_fastmeaning.specs.Commands.{Making, no_making, Makes, step}
use Rattle.swh_fastmeaning.specs.Feeding.{Loading, IsTooLong, ExplainsFeed}
use Rattle.swh_dedup.specs.Giving.{AreNew}
use Rattle.swh_fastload.specs.declared.bad.InputFault.{InputFault}
use Rattle.swh_fastload.specs.declared.bad.InputFault.TheVariants.{ReadFault}
use Rattle.swh_fastload.specs.Input.{beginning, BreaksAt, PassesAt, StopsAt, Breaks, MayBreak}
use Rattle.swh_fastload.specs.Loads.{no_loading, FeedsTo}
use Rattle.swh_dedup.specs.Making.{made_from, made}
use Rattle.swh_fastload.specs.Progress.{StandsFor, HasLoaded}
use Rattle.swh_fastload.specs.Reading.{read_fault, feed_fault, HasGiven, HasCome, HasRead, StopsAtEnd, ReadsUpTo, FailsSo}
use Rattle.swh_dedup.proofs.Elements.{none_is}
use Rattle.swh_fastload.proofs.MadeKinds.{no_snapshot}
use Rattle.swh_dedup.proofs.Wholes.{new_append}
use Rattle.swh_fastload.proofs.Progresses.{loaded_more, carried}

-- Where a count rose since later, it rose since earlier.
pub rose_since : (ending : Ending) (a b c : ℕ) → ending ≡ Open → a ≤ b → (ending ≡ Refused SourceFailed) ⊎ Rose b c → Rose a c
rose_since ending a b c o l (inl e) = let n : Open ≡ Refused SourceFailed = sym o ∙ e in absurd cc
rose_since ending a b c o l (inr r) = omega (arith, l, r)

-- Where a reader's failure is told as another one than the source's, none was heard.
pub quiet_read : {T U : Type 0} (r : Result T ReadFail) (fail : ReadFail) (told : InputFault) (old new : ℕ) → r ≡ Err fail → told ≡ read_fault fail → IsQuietBut old new SourceFailed r → IsQuietBut {T = U} old new ReadFault (Err told)
quiet_read r fail told old new is gives heard = λ other. heard (λ e. other (let same : fail ≡ SourceFailed = cc in ap Err (gives ∙ ap read_fault same)))

-- a body above the limit
pub body_may : (which : Which) (number : ℕ) → which ≡ Body → body_limit < number → MayPass which number
body_may which number e above = subst (λ (w : Which). MayPass w number) (sym e) above

-- What is left of a source whose reader was closed.
pub reads_up_to : (text other : List ℕ) (place : ReaderState) (now : List ℕ) → text ≡ other → StopsAtEnd text place → HoldsFront place.buffered place.rest now → ReadsUpTo other now
reads_up_to text other place now same s h = record {
  commands = s.commands;
  ending = left place;
  stream = subst (λ (t : List ℕ). IsStreamBefore 0 false t s.commands (left place)) same s.stream;
  front = place.held ++ h.front;
  cut = ap (λ (t : List ℕ). place.held ++ t) h.cut ∙ sym (append_assoc place.held h.front now);
  within = by_held s.held;
}
  where
    by_held : (left place ≡ []) ⊎ (place.held ≡ done_line) → length (place.held ++ h.front) ≤ length done_line + WINDOW
    by_held (inl e) = let within = h.within in omega (arith, within, ap length e, length-append place.held place.rest, length-append place.held h.front)
    by_held (inr e) = let within = h.within in omega (arith, within, ap length e, length-append place.held h.front)

module _ (id : Kind → List ℕ → List ℕ) where
  pub has_read : (text : List ℕ) (old new : ReaderState) (promised : Bool) (state : Result Loading FeedFault) (es : List Entry) → HasCome id text (position old promised) state es → EndsHere old new promised → HasRead id text state es
  has_read text old new promised state es h e = record { rest = position old promised; come = h; ends = e.stream.stream }

  -- The stream ends where its reader stands.
  pub stops_at_end : (text : List ℕ) (old new : ReaderState) (promised : Bool) (state : Result Loading FeedFault) (es : List Entry) → HasCome id text (position old promised) state es → EndsHere old new promised → StopsAtEnd text new
  stops_at_end text old new promised state es h e = record {
    commands = h.loaded.commands ++ [];
    stream = carries_with (λ n cs. IsStreamBefore n.at n.promised n.left cs (left new)) (before_carries (left new)) (beginning text) (position old promised) h.loaded.commands [] h.loaded.starts e.stream;
    held = e.held;
  }

  -- Nothing was read yet.
  pub nothing_given : (state : Result Loading FeedFault) (es : List Entry) → state ≡ Ok no_loading → es ≡ [] → HasGiven id state es
  nothing_given state es e n = record {
    loading = no_loading;
    is = e;
    given = ap made (sym n);
    fresh = subst (AreNew id []) (sym n) tt;
    kinds = subst (AllByRecursion (λ (e : Entry). e.name.kind ≢ Snapshot)) (sym n) tt;
  }

  none_made : (o : Made) → Makes id no_making o → Contains [] o
  none_made o (inl h) = h
  none_made o (inr h) = absurd (none_is h.0 h.1)

  nothing_stands : StandsFor id no_loading [] no_making
  nothing_stands = record { aims = refl; given = refl; sound = λ o h. absurd (none_is o h); full = none_made; whole = record { each = tt; kids = tt } }

  pub nothing_come : (place : ReaderState) (promised : Bool) (state : Result Loading FeedFault) (es : List Entry) → place.at ≡ 0 → promised ≡ false → state ≡ Ok no_loading → es ≡ [] → HasCome id (left place) (position place promised) state es
  nothing_come place promised state es a p e n =
      let here : beginning (left place) ≡ position place promised =
      ap (λ (k : ℕ). let q : Position = record { at = k; promised = false; left = left place } in q) (sym a) ∙ ap (λ (b : Bool). let q : Position = record { at = place.at; promised = b; left = left place } in q) (sym p) in
      record {
        loading = no_loading;
        is = e;
        loaded = record { commands = []; making = no_making; starts = record { items = []; starts = here; these = refl }; makes = refl; stands = subst (λ (xs : List Entry). StandsFor id no_loading xs no_making) (sym n) nothing_stands };
      }

  -- A command more was carried out.
  pub given_more : (state new : Result Loading FeedFault) (es more all : List Entry) (c : Command) (h : HasGiven id state es) → FeedsTo id h.loading c new more → all ≡ es ++ more → HasGiven id new all
  given_more state new es more all c h f e =
      let more_kinds : AllByRecursion (λ (x : Entry). x.name.kind ≢ Snapshot) more =
      all_as (λ (x : Entry). Makes id f.feeds.making (made_from x)) (λ (x : Entry). x.name.kind ≢ Snapshot) (λ x m. no_snapshot id h.loading.aims c f.feeds.making (made_from x) f.feeds.is m) more f.feeds.each in
      let given : f.new.given ≡ made (es ++ more) = f.feeds.given ∙ ap (λ (ms : List Made). ms ++ made more) h.given ∙ sym (map-append made_from es more) in
      record {
        loading = f.new;
        is = f.is;
        given = given ∙ ap made (sym e);
        fresh = subst (AreNew id []) (sym e) (new_append id [] es more h.fresh (subst (λ (ms : List Made). AreNew id ms more) h.given f.feeds.fresh));
        kinds = subst (AllByRecursion (λ (x : Entry). x.name.kind ≢ Snapshot)) (sym e) (all-append (λ (x : Entry). x.name.kind ≢ Snapshot) es more h.kinds more_kinds);
      }

  pub come_more : (text : List ℕ) (rest next : Position) (state new : Result Loading FeedFault) (es more all : List Entry) (c : Command) (h : HasCome id text rest state es) → StartsWith rest next (c ∷ []) → FeedsTo id h.loading c new more → all ≡ es ++ more → HasCome id text next new all
  come_more text rest next state new es more all c h s f e = record {
    loading = f.new;
    is = f.is;
    loaded = subst (HasLoaded id text next f.new) (sym e) (loaded_more id text rest next h.loading f.new es more c h.loaded s f.feeds);
  }

  -- The stream is not read on.
  fault_breaks : (text : List ℕ) (rest : Position) (state : Result Loading FeedFault) (es : List Entry) (at : ℕ) (why : StreamWhy) (h : HasCome id text rest state es) → IsFaultWithin rest.at rest.promised rest.left [] at why → BreaksAt id text at why
  fault_breaks text rest state es at why h f = record {
    commands = h.loaded.commands;
    making = h.loaded.making;
    fault = subst (λ (cs : List Command). IsFaultWithin 0 false text cs at why) (append-nil h.loaded.commands) (carries_with (λ n cs. IsFaultWithin n.at n.promised n.left cs at why) (fault_carries at why) (beginning text) rest h.loaded.commands [] h.loaded.starts f);
    carried = carried id text rest h.loading es h.loaded;
  }

  limit_breaks : (text : List ℕ) (rest : Position) (state : Result Loading FeedFault) (es : List Entry) (which : Which) (number : ℕ) (h : HasCome id text rest state es) → PassesFirst rest.at rest.promised rest.left [] which number → PassesAt id text which number
  limit_breaks text rest state es which number h f = record {
    commands = h.loaded.commands;
    making = h.loaded.making;
    passes = subst (λ (cs : List Command). PassesFirst 0 false text cs which number) (append-nil h.loaded.commands) (carries_with (λ n cs. PassesFirst n.at n.promised n.left cs which number) (limit_carries which number) (beginning text) rest h.loaded.commands [] h.loaded.starts f);
    carried = carried id text rest h.loading es h.loaded;
  }

  -- The command that comes next is not carried out.
  stops : (text : List ℕ) (rest next : Position) (state : Result Loading FeedFault) (es : List Entry) (c : Command) (P : Result Making Missing → Type 0) (h : HasCome id text rest state es) → StartsWith rest next (c ∷ []) → P (step id h.loading.aims c) → StopsAt id text P
  stops text rest next state es c P h s p = record {
    commands = h.loaded.commands;
    command = c;
    making = h.loaded.making;
    rest = next;
    starts = starts_join (beginning text) rest next h.loaded.commands (c ∷ []) h.loaded.starts s;
    carried = carried id text rest h.loading es h.loaded;
    stops = subst (λ a. P (step id a c)) h.loaded.stands.aims p;
  }

  pub read_fails : (tells : Type 0) (place : ReaderState) (promised : Bool) (text : List ℕ) (state : Result Loading FeedFault) (es : List Entry) (before after : ℕ) (fail : ReadFail) → (tells → HasCome id text (position place promised) state es) → (tells → Explains place promised fail) → (fail ≡ SourceFailed → Rose before after) → MayFail fail → FailsSo id tells text before after (read_fault fail)
  unfolding Breaks MayBreak
  read_fails tells place promised text state es before after (BadRead at why) h e r may = (tt, λ told head. inl (fault_breaks text (position place promised) state es at why (h told) (e told)))
  read_fails tells place promised text state es before after SourceFailed h e r may = r refl
  read_fails tells place promised text state es before after (PassesLimit which number) h e r may = (inl may, λ told head. inl (limit_breaks text (position place promised) state es which number (h told) (e told)))
  read_fails tells place promised text state es before after ReadMemory h e r may = tt

  pub feed_fails : (tells : Type 0) (text : List ℕ) (rest next : Position) (state : Result Loading FeedFault) (es : List Entry) (c : Command) (before after : ℕ) (fault : FeedFault) → (tells → (h : HasCome id text rest state es) × StartsWith rest next (c ∷ []) × ExplainsFeed id (step id h.loading.aims c) fault) → (found : Result Making Missing) → ExplainsFeed id found fault → FailsSo id tells text before after (feed_fault fault)
  unfolding Breaks MayBreak
  feed_fails tells text rest next state es c before after (BadFeed at why) h found may = (tt, λ told head. let k = h told in inr (stops text rest next state es c (λ found. found ≡ Err (record { at = at; why = why })) k.0 k.1 k.2))
  feed_fails tells text rest next state es c before after (PassesBody which number) h found may = (inl (body_may which number may.0 may.1.above), λ told head. let k = h told in inr (inl (k.2.0, stops text rest next state es c (λ found. IsTooLong id found number) k.0 k.1 k.2.1)))
  feed_fails tells text rest next state es c before after FeedMemory h found may = tt

-- what a reader answers without one
pub ended : (old new : Standing) (result : Result (Option Command) ReadFail) → result ≡ Ok None → IfOk result (Answers old new) → EndsHere old.place new.place old.promised
ended old new result e h = subst (λ (r : Result (Option Command) ReadFail). IfOk r (Answers old new)) e h

-- what a reader answers with a command
pub led : (old new : Standing) (result : Result (Option Command) ReadFail) (c : Command) → result ≡ Ok (Some c) → IfOk result (Answers old new) → LeadsOn old new c
led old new result c e h = subst (λ (r : Result (Option Command) ReadFail). IfOk r (Answers old new)) e h

pub still_open : (new : Standing) (result : Result (Option Command) ReadFail) (c : Command) → result ≡ Ok (Some c) → new.ending ≡ ending_of result → new.ending ≡ Open
still_open new result c e h = h ∙ ap ending_of e
