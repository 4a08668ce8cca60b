-- Connections, one after another.
use Rattle.std.proofs.Common.{◌≡◌, ◌<◌, ◌≤◌, Bool, ℕ, zero, suc, ◌+◌, List, [], ◌∷◌, ◌++◌, length, refl, sym, ap, ◌∙◌, arith, subst, append_assoc, Result, Ok, Err}
use Rattle.std.proofs.lemmas.List.{append-nil}
use Rattle.swh_base.specs.declared.kind.Kind.{Kind}
use Rattle.swh_outside.specs.Link.{LinkNote}
use Rattle.swh_outside.specs.Views.{Disks}
use Rattle.swh_keeper.specs.Kept.{Kept}
use Rattle.swh_serve.specs.Served.{Seen}
use Rattle.swh_desk.specs.declared.tally.Ended.{Ended}
use Rattle.swh_desk.specs.declared.tally.Ended.TheVariants.{Whole, Broken, Starved}
use Rattle.swh_desk.specs.declared.tally.Tally.{Tally}
use Rattle.swh_desk.specs.declared.tally.ServeStop.{ServeStop}
use Rattle.swh_desk.specs.declared.tally.ServeStop.TheVariants.{Door, Clock}
use Rattle.swh_desk.specs.Links.{Connection, ServedAt, NotLetIn, Hall, Telling, end_of, nothing_noted, notes_of, notes, one_if_broken, one_if_starved, broken_among, starved_among, GoesOnBy, AreDated, IsClockBehind, AreConnections, IsTurnEnd, IsEnd, AreServedFrom}

abbrev note_of : List ℕ → Bool → List ℕ → ℕ → LinkNote
note_of given ended taken faults = record { given = given; ended = ended; taken = taken; faults = faults }

abbrev link_of : List ℕ → Bool → List ℕ → Seen
link_of given ended taken = record { given = given; ended = ended; taken = taken }

-- notes and links of which the same is said
pub note-same : (given given' : List ℕ) (ended ended' : Bool) (taken taken' : List ℕ) (faults faults' : ℕ) → given ≡ given' → ended ≡ ended'
    → taken ≡ taken' → faults ≡ faults'
    → note_of given ended taken faults ≡ note_of given' ended' taken' faults'
note-same given given' ended ended' taken taken' faults faults' by_given by_ended by_taken by_faults =
    ap (λ (x : List ℕ). note_of x ended taken faults) by_given ∙ ap (λ (x : Bool). note_of given' x taken faults) by_ended
    ∙ ap (λ (x : List ℕ). note_of given' ended' x faults) by_taken ∙ ap (λ (x : ℕ). note_of given' ended' taken' x) by_faults

pub seen-same : (given given' : List ℕ) (ended ended' : Bool) (taken taken' : List ℕ) → given ≡ given' → ended ≡ ended' → taken ≡ taken'
    → link_of given ended taken ≡ link_of given' ended' taken'
seen-same given given' ended ended' taken taken' by_given by_ended by_taken =
    ap (λ (x : List ℕ). link_of x ended taken) by_given ∙ ap (λ (x : Bool). link_of given' x taken) by_ended
    ∙ ap (λ (x : List ℕ). link_of given' ended' x) by_taken

-- dates by clocks that say the same
pub dated-same : (t u : ℕ → ℕ) → ((k : ℕ) → u k ≡ t k) → (connections : List Connection) → AreDated u connections → AreDated t connections
dated-same t u same [] dated = tt
dated-same t u same (ServedAt date note result ∷ connections) dated =
    (dated.0 ∙ same 0, dated-same (λ k. t (k + 1)) (λ k. u (k + 1)) (λ k. same (k + 1)) connections dated.1)
dated-same t u same (NotLetIn ∷ connections) dated = dated-same t u same connections dated

-- one connection before others
pub dated-further : (time mid : ℕ → ℕ) (connection : Connection) (connections : List Connection) → IsClockBehind connection time mid
    → AreDated mid connections → AreDated time (connection ∷ connections)
dated-further time mid (ServedAt date note result) connections behind dated =
    (behind.0, dated-same (λ k. time (k + 1)) mid behind.1 connections dated)
dated-further time mid NotLetIn connections behind dated = dated-same time mid behind connections dated

-- a connection counts once at most
pub broken-once : (ended : Ended) → one_if_broken ended ≤ 1
broken-once Whole = omega arith
broken-once Broken = omega arith
broken-once Starved = omega arith

pub starved-once : (ended : Ended) → one_if_starved ended ≤ 1
starved-once Whole = omega arith
starved-once Broken = omega arith
starved-once Starved = omega arith

-- what is counted of one and of others
pub counted-further : (connection : Connection) (connections : List Connection) (old mid new : Tally) → mid.served ≡ old.served + 1
    → mid.broken ≡ old.broken + one_if_broken (end_of connection) → mid.starved ≡ old.starved + one_if_starved (end_of connection)
    → GoesOnBy connections mid new → GoesOnBy (connection ∷ connections) old new
counted-further connection connections old mid new served broken starved counts = record {
  served = omega (arith, served, counts.served);
  broken = omega (arith, broken, counts.broken);
  starved = omega (arith, starved, counts.starved);
}

-- nothing behind what is counted
pub counted-none : (tally : Tally) → GoesOnBy [] tally tally
counted-none tally = record {
  served = omega arith;
  broken = omega arith;
  starved = omega arith;
}

-- the notes of one and of others, and what stands behind them
pub notes-further : (connection : Connection) (connections : List Connection) (before mid now more : List LinkNote)
    → mid ≡ before ++ notes_of connection → now ≡ mid ++ notes connections ++ more → now ≡ before ++ notes (connection ∷ connections) ++ more
notes-further connection connections before mid now more first second =
    second ∙ ap (λ (l : List LinkNote). l ++ notes connections ++ more) first
    ∙ ap (λ (l : List LinkNote). l ++ more) (append_assoc before (notes_of connection) (notes connections))

pub notes-next : (connection : Connection) (connections : List Connection) (before mid now : List LinkNote)
    → mid ≡ before ++ notes_of connection → now ≡ mid ++ notes connections → now ≡ before ++ notes (connection ∷ connections)
notes-next connection connections before mid now first second =
    second ∙ ap (λ (l : List LinkNote). l ++ notes connections) first ∙ append_assoc before (notes_of connection) (notes connections)

module _ {D : Type 0} (id : Kind → List ℕ → List ℕ) (disks : Disks D) (t : Telling) where
  -- one connection, and those behind it
  pub further-end : (count : ℕ) (counted mid_counted : Tally) (connection : Connection) (connections : List Connection) (old mid new : Hall D)
      (result : Result Tally ServeStop)
      → mid_counted.served ≡ counted.served + 1 → mid_counted.broken ≡ counted.broken + one_if_broken (end_of connection)
      → mid_counted.starved ≡ counted.starved + one_if_starved (end_of connection)
      → (t.doors → mid.back ≡ old.back ++ notes_of connection)
      → IsEnd id disks t count mid_counted connections mid new result → IsEnd id disks t (count + 1) counted (connection ∷ connections) old new result
  further-end count counted mid_counted connection connections old mid new (Ok tally) served broken starved back end = (
    (let same : length connections ≡ count = end.0 in omega (arith, same)),
    counted-further connection connections counted mid_counted tally served broken starved end.1,
    λ tells. notes-next connection connections old.back mid.back new.back (back tells) (end.2 tells),
  )
  further-end count counted mid_counted connection connections old mid new (Err Door) served broken starved back end = (
    (let less : length connections < count = end.0 in omega (arith, less)),
    λ tells. notes-next connection connections old.back mid.back new.back (back tells) (end.1 tells),
  )
  further-end count counted mid_counted connection connections old mid new (Err Clock) served broken starved back end = (
    (let less : length connections < count = end.0 in omega (arith, less)),
    λ tells. notes-further connection connections old.back mid.back new.back (nothing_noted ∷ []) (back tells) (end.1 tells),
  )

  -- one turn that came to a connection, and what comes of those behind it
  pub one-further : (count : ℕ) (counted mid_counted : Tally) (end : Ended) (old mid new : Hall D) (result : Result Tally ServeStop)
      → mid_counted.served ≡ counted.served + 1 → mid_counted.broken ≡ counted.broken + one_if_broken end
      → mid_counted.starved ≡ counted.starved + one_if_starved end
      → IsTurnEnd id disks t old mid (Ok end) → AreServedFrom id disks t count mid_counted mid new result
      → AreServedFrom id disks t (count + 1) counted old new result
  one-further count counted mid_counted end old mid new result served broken starved turn rest =
      let connection = turn.0 in
      let is : end ≡ end_of connection = turn.1 in
      record {
        connections = connection ∷ rest.connections;
        are = (mid.keeper, turn.2, rest.are);
        dated = λ tells. dated-further old.time mid.time connection rest.connections (turn.4 tells) (rest.dated tells);
        end =
            further-end count counted mid_counted connection rest.connections old mid new result served
            (broken ∙ ap (λ (e : Ended). counted.broken + one_if_broken e) is) (starved ∙ ap (λ (e : Ended). counted.starved + one_if_starved e) is)
            turn.3 rest.end;
      }

  -- no connection is left
  pub none-left : (counted : Tally) (hall : Hall D) → AreServedFrom id disks t 0 counted hall hall (Ok counted)
  none-left counted hall = record {
    connections = [];
    are = refl;
    dated = λ tells. tt;
    end = (refl, counted-none counted, λ tells. sym (append-nil hall.back));
  }

  -- a turn that came to no connection
  pub stopped-at : (count : ℕ) (counted : Tally) (old new : Hall D) (stop : ServeStop) → 0 < count → IsTurnEnd id disks t old new (Err stop)
      → AreServedFrom id disks t count counted old new (Err stop)
  stopped-at count counted old new Door some turn = record {
    connections = [];
    are = turn.0;
    dated = λ tells. tt;
    end = (some, λ tells. turn.1 tells ∙ sym (append-nil old.back));
  }
  stopped-at count counted old new Clock some turn = record {
    connections = [];
    are = turn.0;
    dated = λ tells. tt;
    end = (some, λ tells. turn.1 tells ∙ ap (λ (l : List LinkNote). l ++ nothing_noted ∷ []) (sym (append-nil old.back)));
  }
