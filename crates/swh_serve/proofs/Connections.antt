-- A connection, piece by piece.
use Rattle.std.proofs.Common.{◌≡◌, ℕ, zero, suc, ◌+◌, ◌-◌, ◌*◌, ◌<◌, ◌≤◌, Bool, true, false, List, [], ◌∷◌, ◌++◌, length, refl, sym, ap, ◌∙◌, arith, subst, inl, inr, append_assoc, mul-le-mul_right, suc-mul, Option, Some, None, Result, Ok, Err}
use Rattle.std.specs.Prelude.{◌≢◌, ◌⊎◌}
use Rattle.swh_base.specs.Limits.{body_limit}
use Rattle.std.proofs.lemmas.List.{append-nil, length-append}
use Rattle.swh_http.specs.declared.ask.Ask.{Ask}
use Rattle.swh_http.specs.Wire.{AreAsks, AwaitsBytes, held_length, head_limit}
use Rattle.swh_serve.specs.declared.fault.PutFault.{PutFault}
use Rattle.swh_serve.specs.declared.fault.PutFault.TheVariants as put
use Rattle.swh_serve.specs.declared.fault.ServeFault.{ServeFault}
use Rattle.swh_serve.specs.declared.fault.ServeFault.TheVariants.{Read, Write, Short, Memory}
use Rattle.swh_serve.specs.declared.progress.Progress.{Progress}
use Rattle.swh_serve.specs.declared.progress.Progress.TheVariants.{Open, Closed}
use Rattle.swh_serve.specs.declared.serving.Served.{Served}
use Rattle.swh_serve.specs.Causes.{serve_fault, Failed, IsPutCause, IsServeCause}
use Rattle.swh_serve.specs.Desk.{Protocol}
use Rattle.swh_serve.specs.Turns.{Turn, asks_of, texts_of, AreTurns, AreKept, LastCloses, PutsPart, LacksLast, requests_limit}
use Rattle.swh_serve.specs.Asks.{AreReplied}
use Rattle.swh_serve.specs.Served.{Seen, StaysOpen, PutsAll, AllReplied, ClosesLast, Ends, IsEnd, IsServedFrom, IsServed}
use Rattle.swh_serve.specs.Pieces.{IsWaiting, Gives, IsRead, IsProgressOf, IsSessionEnd, GoesOn, IsPieceEnd}
use Rattle.swh_serve.proofs.TurnLists.{asks_of-append, kept-append, put-append, last-append, part-append, lacks-append, more-turns}
use Rattle.swh_serve.proofs.Readings.{request_limit, asks-bound, left-waits, waits-alone, kept-waits}

-- pieces ask one after the other what their bytes ask together
abbrev pub AnyPieces : Type 0
AnyPieces = (bytes piece : List ℕ) (asks more : List Ask) (held : List ℕ) (left : Option (List ℕ)) → AreAsks bytes asks (Some held)
    → AreAsks (held ++ piece) more left → AreAsks (bytes ++ piece) (asks ++ more) left

-- a session that waits holds some bytes, or none
pub waits-some : (session : Option (List ℕ)) → IsWaiting session → (held : List ℕ) × (session ≡ Some held)
waits-some (Some held) waits = (held, refl)
waits-some None waits = absurd waits

-- a session that holds nothing waits
pub waits-fresh : (session : Option (List ℕ)) → session ≡ Some [] → AwaitsBytes [] → IsWaiting session
waits-fresh session is waits = let P : Option (List ℕ) → Type 0 = λ x. IsWaiting x in subst P (sym is) waits

-- ---- causes

failed-so : (before mid now : ℕ) → mid ≡ before → Failed mid now → Failed before now
failed-so before mid now same failed = let P : ℕ → Type 0 = λ m. Failed m now in subst P same failed

err-cause : (before mid now : ℕ) (fault : PutFault) → mid ≡ before → IsPutCause {T = Progress} mid now (Err fault)
    → IsServeCause {T = Progress} before now (Err (serve_fault fault))
err-cause before mid now put.Write same cause = failed-so before mid now same cause
err-cause before mid now put.Memory same cause = cause ∙ same

pub err-served : (before mid now : ℕ) (fault : ServeFault) → mid ≡ before → IsServeCause {T = Progress} mid now (Err fault)
    → IsServeCause {T = Served} before now (Err fault)
err-served before mid now Read same cause = failed-so before mid now same cause
err-served before mid now Write same cause = failed-so before mid now same cause
err-served before mid now (Short held) same cause = cause ∙ same
err-served before mid now Memory same cause = cause ∙ same

-- replies change the one count of the link only where one could not be put
pub replied-cause : (before mid at now : ℕ) (replied : Result Progress PutFault) (result : Result Progress ServeFault)
    → IsProgressOf replied result → mid ≡ before → now ≡ at → IsPutCause mid at replied → IsServeCause before now result
replied-cause before mid at now (Ok progress) result is same last cause =
    let P : Result Progress ServeFault → Type 0 = λ r. IsServeCause before now r in
    subst P (sym is) (last ∙ cause ∙ same)
replied-cause before mid at now (Err fault) result is same last cause =
    let P : Result Progress ServeFault → Type 0 = λ r. IsServeCause before now r in
    let Q : ℕ → Type 0 = λ m. IsServeCause {T = Progress} before m (Err (serve_fault fault)) in
    subst P (sym is) (subst Q (sym last) (err-cause before mid at fault same cause))

-- ---- ends

module _ (Tells : Type 0) where
  put-none : (old new : Seen) → new.taken ≡ old.taken → PutsAll Tells [] old new
  put-none old new same tells = same ∙ sym (append-nil old.taken)

  all-more : (xs ys : List Turn) (more : List Ask) (unread : List ℕ) (old mid new : Seen) → AreKept xs → PutsAll Tells xs old mid
      → AllReplied Tells ys more unread mid new → AllReplied Tells (xs ++ ys) more unread old new
  all-more xs ys more unread old mid new kept first all = record {
    kept = kept-append xs ys kept all.kept;
    none_left = all.none_left;
    all_read = all.all_read;
    put = λ tells. put-append old.taken mid.taken new.taken xs ys (first tells) (all.put tells);
  }

  ends-more : (xs ys : List Turn) (more : List Ask) (unread : List ℕ) (old mid new : Seen) → AreKept xs → PutsAll Tells xs old mid
      → Ends Tells ys more unread mid new → Ends Tells (xs ++ ys) more unread old new
  ends-more xs ys more unread old mid new kept first ends =
      record { replied = all-more xs ys more unread old mid new kept first ends.replied; ended = ends.ended }

  -- how a connection ends is how it ends behind some turns more
  end-more : (n k : ℕ) (xs ys : List Turn) (more : List Ask) (left : Option (List ℕ)) (unread : List ℕ) (old mid new : Seen)
      (result : Result Served ServeFault) → k ≡ n + length xs → AreKept xs → PutsAll Tells xs old mid → StaysOpen Tells old mid
      → IsEnd Tells k ys more left unread mid new result → IsEnd Tells n (xs ++ ys) more left unread old new result
  end-more n k xs ys more left unread old mid new (Ok served) count kept first stays (number, inl closes) = (
    omega (arith, length-append xs ys),
    inl (record {
      last = last-append xs ys closes.last;
      all_read = closes.all_read;
      put = λ tells. put-append old.taken mid.taken new.taken xs ys (first tells) (closes.put tells);
      stays = λ tells. closes.stays tells ∙ stays tells;
    }),
  )
  end-more n k xs ys more left unread old mid new (Ok served) count kept first stays (number, inr (ends, none)) =
      (omega (arith, length-append xs ys), inr (ends-more xs ys more unread old mid new kept first ends, none))
  end-more n k xs ys more left unread old mid new (Err (Short held)) count kept first stays (ends, waits) =
      (ends-more xs ys more unread old mid new kept first ends, waits)
  end-more n k xs ys more left unread old mid new (Err Read) count kept first stays (all, same) =
      (all-more xs ys more unread old mid new kept first all, λ tells. same tells ∙ stays tells)
  end-more n k xs ys more left unread old mid new (Err Write) count kept first stays (none, same, part) = (
    none,
    λ tells. same tells ∙ stays tells,
    λ tells. part-append old.taken mid.taken new.taken xs ys (first tells) (part tells),
  )
  end-more n k xs ys more left unread old mid new (Err Memory) count kept first stays (same, inl (rest, all)) = (
    λ tells. same tells ∙ stays tells,
    inl (kept-append xs ys kept rest, λ tells. put-append old.taken mid.taken new.taken xs ys (first tells) (all tells)),
  )
  end-more n k xs ys more left unread old mid new (Err Memory) count kept first stays (same, inr (none, lacks)) = (
    λ tells. same tells ∙ stays tells,
    inr (none, λ tells. lacks-append old.taken mid.taken new.taken xs ys (first tells) (lacks tells)),
  )

-- ---- pieces

module _ {S : Type 0} (p : Protocol S) (Tells : Type 0) where
  -- what is served from behind a piece is what is served from before it
  pub goes-on : AnyPieces → (n k : ℕ) (held now_held : List ℕ) (s mid s' : S) (old at new : Seen) (result : Result Served ServeFault)
      → GoesOn p Tells n held s mid old at k now_held → IsServedFrom p Tells k now_held mid s' at new result
      → IsServedFrom p Tells n held s s' old new result
  goes-on any n k held now_held s mid s' old at new result goes served =
      let turns : List Turn = goes.turns ++ served.turns in
      let asked : asks_of goes.turns ++ (asks_of served.turns ++ served.more) ≡ asks_of turns ++ served.more =
      sym (append_assoc (asks_of goes.turns) (asks_of served.turns) served.more)
      ∙ ap (λ (l : List Ask). l ++ served.more) (sym (asks_of-append goes.turns served.turns)) in
      let A : List ℕ → Type 0 = λ bytes. AreAsks bytes (asks_of goes.turns ++ (asks_of served.turns ++ served.more)) served.left in
      let B : List Ask → Type 0 = λ asks. AreAsks (held ++ (goes.piece ++ served.read)) asks served.left in
      let Q : ℕ → Type 0 = λ m. AreTurns p m served.turns mid s' in
      record {
        read = goes.piece ++ served.read;
        unread = served.unread;
        turns = turns;
        more = served.more;
        left = served.left;
        asks =
            subst B asked (subst A (append_assoc held goes.piece served.read)
            (any (held ++ goes.piece) served.read (asks_of goes.turns) (asks_of served.turns ++ served.more) now_held served.left goes.asks served.asks));
        answered = more-turns p n goes.turns served.turns s mid s' goes.kept goes.answered (subst Q goes.count served.answered);
        given = λ tells.
            served.given tells ∙ ap (λ (l : List ℕ). l ++ served.read ++ served.unread) (goes.given tells)
            ∙ ap (λ (l : List ℕ). l ++ served.unread) (append_assoc old.given goes.piece served.read);
        end = end-more Tells n k goes.turns served.turns served.more served.left served.unread old at new result goes.count goes.kept goes.put goes.stays served.end;
      }

  -- nothing was read that was looked at
  nothing : (n : ℕ) (held unread : List ℕ) (s : S) (old new : Seen) (result : Result Served ServeFault) → AwaitsBytes held
      → Gives Tells unread old new → IsEnd Tells n [] [] (Some held) unread old new result → IsServedFrom p Tells n held s s old new result
  nothing n held unread s old new result waits gives end =
      let A : List ℕ → Type 0 = λ bytes. AreAsks bytes [] (Some held) in
      record {
        read = [];
        unread = unread;
        turns = [];
        more = [];
        left = Some held;
        asks = subst A (sym (append-nil held)) (waits-alone held waits);
        answered = refl;
        given = λ tells. gives tells ∙ ap (λ (l : List ℕ). l ++ unread) (sym (append-nil old.given));
        end = end;
      }

  none-replied : (old new : Seen) → new.taken ≡ old.taken → AllReplied Tells [] [] [] old new
  none-replied old new same = record { kept = tt; none_left = refl; all_read = refl; put = put-none Tells old new same }

  -- the link could not be read
  pub read-fails : (n : ℕ) (held : List ℕ) (s : S) (old new : Seen) → AwaitsBytes held → new.taken ≡ old.taken → Gives Tells [] old new
      → StaysOpen Tells old new → IsServedFrom p Tells n held s s old new (Err Read)
  read-fails n held s old new waits same gives stays =
      nothing n held [] s old new (Err Read) waits gives (none-replied old new same, stays)

  -- there was no memory for what a piece asks
  pub read-starves : (n : ℕ) (held piece : List ℕ) (s : S) (old new : Seen) → AwaitsBytes held → new.taken ≡ old.taken
      → Gives Tells piece old new → StaysOpen Tells old new → IsServedFrom p Tells n held s s old new (Err Memory)
  read-starves n held piece s old new waits same gives stays =
      nothing n held piece s old new (Err Memory) waits gives (stays, inl (tt, put-none Tells old new same))

  -- there was no memory to begin with
  pub none-begun : (s : S) (now : Seen) → AwaitsBytes [] → IsServed p Tells s s now now (Err Memory)
  none-begun s now waits = read-starves 0 [] [] s now now waits refl (λ tells. sym (append-nil now.given)) (λ tells. refl)

  -- a connection begins with no bytes that wait
  pub from-start : (session : Option (List ℕ)) (held : List ℕ) (s s' : S) (old new : Seen) (result : Result Served ServeFault)
      → session ≡ Some [] → session ≡ Some held → IsServedFrom p Tells 0 held s s' old new result → IsServed p Tells s s' old new result
  from-start session held s s' old new result fresh is served =
      let same : held ≡ [] = cc (sym is ∙ fresh) in
      let P : List ℕ → Type 0 = λ l. IsServedFrom p Tells 0 l s s' old new result in
      subst P same served

  -- nothing was read that may be replied to
  pub read-stops : (n : ℕ) (held : List ℕ) (s : S) (old new : Seen) (session : Option (List ℕ)) (fault : ServeFault) → AwaitsBytes held
      → new.taken ≡ old.taken → IsRead Tells held old new session (Err fault) → IsServedFrom p Tells n held s s old new (Err fault)
  read-stops n held s old new session Read waits same (gives, stays) = read-fails n held s old new waits same gives stays
  read-stops n held s old new session Memory waits same (piece, gives, stays) = read-starves n held piece s old new waits same gives stays
  read-stops n held s old new session Write waits same none = absurd none
  read-stops n held s old new session (Short bytes) waits same none = absurd none

  -- the link has ended
  pub link-ends : (n : ℕ) (held : List ℕ) (s : S) (old new : Seen) (session : Option (List ℕ)) (result : Result Progress ServeFault)
      → AwaitsBytes held → new.taken ≡ old.taken → Gives Tells [] old new → (Tells → new.ended ≡ true)
      → IsSessionEnd (Some held) n result → IsPieceEnd p Tells n held s s old new session result
  link-ends n held s old new session (Ok (Open requests)) waits same gives ended is = absurd is
  link-ends n held s old new session (Ok (Closed requests)) waits same gives ended is =
      nothing n held [] s old new (Ok (record { requests = requests })) waits gives (
        let e : requests ≡ n + 0 = omega arith in e,
        inr (record { replied = none-replied old new same; ended = ended }, ap Some (empty held is.1)),
      )
    where
      empty : (bytes : List ℕ) → length bytes ≡ 0 → bytes ≡ []
      empty [] none = refl
      empty (b ∷ bytes) none = absurd (omega arith)
  link-ends n held s old new session (Err Read) waits same gives ended is = absurd is
  link-ends n held s old new session (Err Write) waits same gives ended is = absurd is
  link-ends n held s old new session (Err Memory) waits same gives ended is = absurd is
  link-ends n held s old new session (Err (Short bytes)) waits same gives ended is =
      nothing n held [] s old new (Err (Short bytes)) waits gives (
        record { replied = none-replied old new same; ended = ended },
        (held, refl, is.0, λ (e : held ≡ []). let none : length held ≡ 0 = ap length e in omega arith),
      )

module _ {S : Type 0} (p : Protocol S) (Tells Told : Type 0) (both : Tells → Told) where
  -- ---- a piece that asks something; the sink and the source tell alike
  given-so : (piece : List ℕ) (old mid new : Seen) → Gives Tells piece old mid → new.given ≡ mid.given → Gives Tells piece old new
  given-so piece old mid new gives same tells = same ∙ gives tells

  put-so : (turns : List Turn) (old mid new : Seen) → mid.taken ≡ old.taken → (Told → new.taken ≡ mid.taken ++ texts_of turns)
      → PutsAll Tells turns old new
  put-so turns old mid new same put tells = put (both tells) ∙ ap (λ (l : List ℕ). l ++ texts_of turns) same

  -- the whole piece was looked at
  looked-at : (n : ℕ) (held piece : List ℕ) (asks : List Ask) (session : Option (List ℕ)) (s s' : S) (old mid new : Seen)
      (turns : List Turn) (more : List Ask) (result : Result Served ServeFault) → AreAsks (held ++ piece) asks session
      → Gives Tells piece old mid → new.given ≡ mid.given → asks ≡ asks_of turns ++ more → AreTurns p n turns s s'
      → IsEnd Tells n turns more session [] old new result → IsServedFrom p Tells n held s s' old new result
  looked-at n held piece asks session s s' old mid new turns more result are gives same cut answered end =
      let A : List Ask → Type 0 = λ l. AreAsks (held ++ piece) l session in
      record {
        read = piece;
        unread = [];
        turns = turns;
        more = more;
        left = session;
        asks = subst A cut are;
        answered = answered;
        given = λ tells. given-so piece old mid new gives same tells ∙ sym (append-nil (old.given ++ piece));
        end = end;
      }

  pub asked-ok : (n : ℕ) (held piece : List ℕ) (asks : List Ask) (session : Option (List ℕ)) (s s' : S) (old mid new : Seen)
      (progress : Progress) → piece ≢ [] → AreAsks (held ++ piece) asks session → Gives Tells piece old mid → StaysOpen Tells old mid
      → mid.taken ≡ old.taken → new.given ≡ mid.given → new.ended ≡ mid.ended
      → AreReplied p Told n asks s s' mid.taken new.taken (Ok progress) → IsPieceEnd p Tells n held s s' old new session (Ok progress)
  asked-ok n held piece asks session s s' old mid new (Open requests) some are gives stays same_taken same_given same_end replied =
      let cut : asks ≡ asks_of replied.turns =
      replied.are ∙ ap (λ (l : List Ask). asks_of replied.turns ++ l) replied.end.3 ∙ append-nil (asks_of replied.turns) in
      let A : List Ask → Type 0 = λ l. AreAsks (held ++ piece) l session in
      let asked : AreAsks (held ++ piece) (asks_of replied.turns) session = subst A cut are in
      let waits = kept-waits p n (held ++ piece) replied.turns session s s' asked replied.answered replied.end.2 in
      let B : Option (List ℕ) → Type 0 = λ x. AreAsks (held ++ piece) (asks_of replied.turns) x in (
        waits.0,
        waits.1,
        record {
          piece = piece;
          some = some;
          turns = replied.turns;
          asks = subst B waits.1 asked;
          answered = replied.answered;
          kept = replied.end.2;
          count = replied.end.0;
          few = replied.end.1;
          given = given-so piece old mid new gives same_given;
          put = put-so replied.turns old mid new same_taken replied.end.4;
          stays = λ tells. same_end ∙ stays tells;
        },
      )
  asked-ok n held piece asks session s s' old mid new (Closed requests) some are gives stays same_taken same_given same_end replied =
      looked-at n held piece asks session s s' old mid new replied.turns replied.more (Ok (record { requests = requests })) are gives same_given replied.are replied.answered (
        replied.end.0,
        inl (record {
          last = replied.end.1;
          all_read = refl;
          put = put-so replied.turns old mid new same_taken replied.end.2;
          stays = λ tells. same_end ∙ stays tells;
        }),
      )

  part-so : (turns : List Turn) (before mid now : List ℕ) → mid ≡ before → PutsPart turns mid now → PutsPart turns before now
  part-so turns before mid now same part = let P : List ℕ → Type 0 = λ l. PutsPart turns l now in subst P same part

  lacks-so : (turns : List Turn) (before mid now : List ℕ) → mid ≡ before → LacksLast turns mid now → LacksLast turns before now
  lacks-so turns before mid now same lacks = let P : List ℕ → Type 0 = λ l. LacksLast turns l now in subst P same lacks

  pub asked-err : (n : ℕ) (held piece : List ℕ) (asks : List Ask) (session : Option (List ℕ)) (s s' : S) (old mid new : Seen)
      (fault : PutFault) → AreAsks (held ++ piece) asks session → Gives Tells piece old mid → StaysOpen Tells old mid
      → mid.taken ≡ old.taken → new.given ≡ mid.given → new.ended ≡ mid.ended
      → AreReplied p Told n asks s s' mid.taken new.taken (Err fault) → IsServedFrom p Tells n held s s' old new (Err (serve_fault fault))
  asked-err n held piece asks session s s' old mid new put.Write are gives stays same_taken same_given same_end replied =
      looked-at n held piece asks session s s' old mid new replied.turns replied.more (Err Write) are gives same_given replied.are replied.answered (
        refl,
        λ tells. same_end ∙ stays tells,
        λ tells. part-so replied.turns old.taken mid.taken new.taken same_taken (replied.end (both tells)),
      )
  asked-err n held piece asks session s s' old mid new put.Memory are gives stays same_taken same_given same_end replied =
      looked-at n held piece asks session s s' old mid new replied.turns replied.more (Err Memory) are gives same_given replied.are replied.answered (
        λ tells. same_end ∙ stays tells,
        starved replied.end,
      )
    where
      starved : (AreKept replied.turns × (Told → new.taken ≡ mid.taken ++ texts_of replied.turns)) ⊎ (Told → LacksLast replied.turns mid.taken new.taken)
          → (AreKept replied.turns × PutsAll Tells replied.turns old new) ⊎ ((◌≡◌ {A = List ℕ} [] []) × (Tells → LacksLast replied.turns old.taken new.taken))
      starved (inl (kept, all)) = inl (kept, put-so replied.turns old mid new same_taken all)
      starved (inr lacks) = inr (refl, λ tells. lacks-so replied.turns old.taken mid.taken new.taken same_taken (lacks (both tells)))

  -- whatever came of the replies
  pub asked-so : (n : ℕ) (held piece : List ℕ) (asks : List Ask) (session : Option (List ℕ)) (s s' : S) (old mid new : Seen)
      (replied : Result Progress PutFault) (result : Result Progress ServeFault) → IsProgressOf replied result → piece ≢ []
      → AreAsks (held ++ piece) asks session → Gives Tells piece old mid → StaysOpen Tells old mid
      → mid.taken ≡ old.taken → new.given ≡ mid.given → new.ended ≡ mid.ended
      → AreReplied p Told n asks s s' mid.taken new.taken replied → IsPieceEnd p Tells n held s s' old new session result
  asked-so n held piece asks session s s' old mid new (Ok progress) result is some are gives stays same_taken same_given same_end replied =
      let P : Result Progress ServeFault → Type 0 = λ r. IsPieceEnd p Tells n held s s' old new session r in
      subst P (sym is) (asked-ok n held piece asks session s s' old mid new progress some are gives stays same_taken same_given same_end replied)
  asked-so n held piece asks session s s' old mid new (Err fault) result is some are gives stays same_taken same_given same_end replied =
      let P : Result Progress ServeFault → Type 0 = λ r. IsPieceEnd p Tells n held s s' old new session r in
      subst P (sym is) (asked-err n held piece asks session s s' old mid new fault are gives stays same_taken same_given same_end replied)

-- ---- how far a connection can go

-- what was replied to and what waits, in bytes at most
abbrev pub so_far : ℕ → Option (List ℕ) → ℕ
so_far requests session = requests * request_limit + held_length session

-- more than a connection can come to
abbrev pub far : ℕ
far = requests_limit * request_limit + 1

room-left : (n m size h : ℕ) → n < m → h ≤ size → n * size + h ≤ m * size
room-left n m size h few within =
    let next : suc n ≤ m = omega arith in
    let most : suc n * size ≤ m * size = mul-le-mul_right size next in
    omega (arith, suc-mul n size)

under : (a m : ℕ) → a ≤ m → a < m + 1
under a m within = omega arith

nearer : (most a b : ℕ) → a < b → a < most → most - b < most - a
nearer most a b more below = omega arith

parts-bound : (held text rest : List ℕ) (n : ℕ) → held ≡ text ++ rest → length text ≤ head_limit → n ≤ body_limit → length rest < n
    → length held ≤ request_limit
parts-bound held text rest n whole short small few =
    let long : length held ≡ length text + length rest = ap length whole ∙ length-append text rest in
    omega arith

-- what waits is no longer than a request
held-bound : (held : List ℕ) → AwaitsBytes held → length held ≤ request_limit
held-bound held (inl short) = omega (arith, short.0)
held-bound held (inr whole) = parts-bound held _ whole.1 whole.2 whole.3.reads.1 whole.3.short whole.4.short whole.5

module _ {S : Type 0} (p : Protocol S) (Tells : Type 0) where
  some-bytes : (piece : List ℕ) → piece ≢ [] → 0 < length piece
  some-bytes [] some = absurd (some refl)
  some-bytes (b ∷ piece) some = omega arith

  -- each piece takes a connection further
  pub goes-further : (n k : ℕ) (held now_held : List ℕ) (s s' : S) (old new : Seen) → GoesOn p Tells n held s s' old new k now_held
      → so_far n (Some held) < so_far k (Some now_held)
  goes-further n k held now_held s s' old new goes =
      let bound = asks-bound (held ++ goes.piece) (asks_of goes.turns) now_held goes.asks in
      omega (arith, goes.count, bound, some-bytes goes.piece goes.some, length-append held goes.piece, asks_of-length goes.turns)
    where
      asks_of-length : (turns : List Turn) → length (asks_of turns) ≡ length turns
      asks_of-length [] = refl
      asks_of-length (t ∷ turns) = ap suc (asks_of-length turns)

  -- its bytes wait
  pub goes-waits : (n k : ℕ) (held now_held : List ℕ) (s s' : S) (old new : Seen) → GoesOn p Tells n held s s' old new k now_held
      → AwaitsBytes now_held
  goes-waits n k held now_held s s' old new goes = left-waits (held ++ goes.piece) (asks_of goes.turns) now_held goes.asks

  smaller : (n k : ℕ) (held now_held : List ℕ) (s s' : S) (old new : Seen) → n < requests_limit → AwaitsBytes held
      → GoesOn p Tells n held s s' old new k now_held → far - so_far k (Some now_held) < far - so_far n (Some held)
  smaller n k held now_held s s' old new few waits goes =
      nearer far (so_far n (Some held)) (so_far k (Some now_held)) (goes-further n k held now_held s s' old new goes)
      (under (so_far n (Some held)) (requests_limit * request_limit) (room-left n requests_limit request_limit (length held) few (held-bound held waits)))

  -- What a piece came to, whatever bytes waited before it.
  abbrev pub Goes : ℕ → ℕ → Option (List ℕ) → Option (List ℕ) → S → S → Seen → Seen → Type 0
  Goes n k session now_session s s' old new =
      (held : List ℕ) → session ≡ Some held → IsPieceEnd p Tells n held s s' old new now_session (Ok (Open k))

  pub piece-further : (n k : ℕ) (session now_session : Option (List ℕ)) (s s' : S) (old new : Seen) → n < requests_limit
      → IsWaiting session → Goes n k session now_session s s' old new → far - so_far k now_session < far - so_far n session
  piece-further n k None now_session s s' old new few waits goes = absurd waits
  piece-further n k (Some held) now_session s s' old new few waits goes =
      let went = goes held refl in
      let P : Option (List ℕ) → Type 0 = λ x. far - so_far k x < far - so_far n (Some held) in
      subst P (sym went.1) (smaller n k held went.0 s s' old new few waits went.2)

  pub piece-waits : (n k : ℕ) (session now_session : Option (List ℕ)) (s s' : S) (old new : Seen) → IsWaiting session
      → Goes n k session now_session s s' old new → IsWaiting now_session × (k < requests_limit)
  piece-waits n k session now_session s s' old new waits goes =
      let some = waits-some session waits in
      let went = goes some.0 some.1 in
      let P : Option (List ℕ) → Type 0 = λ x. IsWaiting x in
      (subst P (sym went.1) (goes-waits n k some.0 went.0 s s' old new went.2), went.2.few)

  pub piece-goes : AnyPieces → (n k : ℕ) (session now_session : Option (List ℕ)) (s mid s' : S) (old at new : Seen) (held : List ℕ)
      (result : Result Served ServeFault) → IsWaiting session → Goes n k session now_session s mid old at → now_session ≡ Some held
      → IsServedFrom p Tells k held mid s' at new result
      → (h : List ℕ) × (session ≡ Some h) × IsServedFrom p Tells n h s s' old new result
  piece-goes any n k session now_session s mid s' old at new held result waits goes is served =
      let some = waits-some session waits in
      let went = goes some.0 some.1 in
      let same : held ≡ went.0 = cc (sym is ∙ went.1) in
      let P : List ℕ → Type 0 = λ l. IsServedFrom p Tells k l mid s' at new result in
      (some.0, some.1, goes-on p Tells any n k some.0 went.0 s mid s' old at new result went.2 (subst P same served))
