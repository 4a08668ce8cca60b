-- A batch that is read object by object.
use Rattle.std.proofs.Common.{◌≡◌, ℕ, ◌+◌, ◌≤◌, inl, inr, List, [], ◌∷◌, ◌++◌, length, map, Contains, sym, ap, ◌∙◌, subst, arith, append_assoc, length-append}
use Rattle.std.specs.Prelude.{Result, IfErr}
use Rattle.std.specs.Result.{IsErrAnd}
use Rattle.std.proofs.lemmas.Result.{err_from_is_err_and}
use Rattle.std.proofs.lemmas.List.{append-nil, map-append}
use Rattle.std.proofs.lemmas.List.Concat.{flat_map-append}
use Rattle.swh_base.specs.declared.entry.Entry.{Entry}
use Rattle.swh_base.specs.declared.kind.Kind.{Kind}
use Rattle.swh_base.specs.Limits.{body_limit}
use Rattle.swh_base.specs.Manifest.{IsWellFormed}
use Rattle.swh_base.proofs.DirectoryLemmas.{all-push}
use Rattle.swh_outside.specs.Faults.{Rose}
use Rattle.swh_object.specs.Object.{IsObject}
use Rattle.swh_model.specs.Meaning.{Made}
use Rattle.swh_fastlex.specs.Line.{Held, unread, Takes}
use Rattle.swh_dedup.specs.Making.{made_from}
use Rattle.swh_batchread.specs.declared.fault.BatchFault.{BatchFault}
use Rattle.swh_batchread.specs.declared.fault.BatchFault.TheVariants.{BadBatch, WrongName, BadRefs, NoObject, Limit, ReadFault, Memory}
use Rattle.swh_batchread.specs.declared.header.Header.{Header}
use Rattle.swh_batchread.specs.Batch.{Given, IsHeader, IsGiven, KeepsFirst, header_text, given_text, batch_text, input_limit}
use Rattle.swh_batchread.specs.BatchFault.{ObjectBreaks, BreaksBehind, BreaksHere, Reaches}
use Rattle.swh_batchread.specs.Failing.{Fails}
use Rattle.swh_batchread.specs.Parts.{Keeps, TakesObject, HasRead}
use Rattle.swh_batchread.proofs.Breaking.{takes_both}

-- the error with which a `?` leaves
pub exits : {T E : Type 0} → (r : Result T E) (P : E → Type 0) (x : E) → IsErrAnd r (λ y. y ≡ x) → P x → IfErr r P
exits r P x h p = let e = err_from_is_err_and r h in rw (e.1, e.2) p

rose_not : Rose 0 0 → ⊥
rose_not h = absurd (omega arith)

-- A part that reads nothing breaks as its input does.
pub object_fails : (tells : Type 0) (May B C : BatchFault → Type 0) (old new : ℕ) (fault : BatchFault) → (tells → (f : BatchFault) → B f → C f) → ((n : ℕ) → Fails (Unit {0}) May B n n fault) → Fails tells May C old new fault
object_fails tells May B C old new ReadFault so h = absurd (rose_not (h 0))
object_fails tells May B C old new Memory so h = tt
object_fails tells May B C old new (BadBatch at) so h = let x = h 0 in record { possible = x.possible; told = λ t. so t (BadBatch at) (x.told tt) }
object_fails tells May B C old new (WrongName given got) so h = let x = h 0 in record { possible = x.possible; told = λ t. so t (WrongName given got) (x.told tt) }
object_fails tells May B C old new (BadRefs line) so h = let x = h 0 in record { possible = x.possible; told = λ t. so t (BadRefs line) (x.told tt) }
object_fails tells May B C old new (NoObject id) so h = let x = h 0 in record { possible = x.possible; told = λ t. so t (NoObject id) (x.told tt) }
object_fails tells May B C old new (Limit which number) so h = let x = h 0 in record { possible = x.possible; told = λ t. so t (Limit which number) (x.told tt) }

pub keeps_more : (before ms all new : List Made) (m : Made) → KeepsFirst before ms all → Keeps all m new → KeepsFirst before (ms ++ m ∷ []) new
keeps_more before [] all new m e (inl k) = inl (subst (λ (x : List Made). Contains x m) e k.0, k.1 ∙ e)
keeps_more before [] all new m e (inr k) = inr ((λ c. k.0 (subst (λ (x : List Made). Contains x m) (sym e) c)), k.1 ∙ ap (λ (x : List Made). x ++ m ∷ []) e)
keeps_more before (n ∷ ms) all new m (inl k) h = inl (k.0, keeps_more before ms all new m k.1 h)
keeps_more before (n ∷ ms) all new m (inr k) h = inr (k.0, keeps_more (before ++ n ∷ []) ms all new m k.1 h)

-- the object of a header and a body
abbrev pub given_of : List ℕ → Kind → List ℕ → Given
given_of id kind body = record { id = id; made = record { kind = kind; body = body } }

abbrev sized : Header → ℕ → Header
sized h size = record { id = h.id; kind = h.kind; size = size }

pub takes_given : (a b c : Held) (la lb lc : List ℕ) (h : Header) (body : List ℕ) → length body ≡ h.size → Takes a b la lb (header_text h) → Takes b c lb lc (body ++ 10 ∷ []) → Takes a c la lc (given_text (given_of h.id h.kind body))
takes_given a b c la lb lc h body l t s = subst (λ (n : ℕ). Takes a c la lc (header_text (sized h n) ++ (body ++ 10 ∷ []))) (sym l) (takes_both a b c la lb lc (header_text h) (body ++ 10 ∷ []) t s)

module _ (id : Kind → List ℕ → List ℕ) where
  -- what breaks behind a header
  pub here_behind : (a b : Held) (la lb : List ℕ) (h : Header) (fault : BatchFault) → IsHeader h → Takes a b la lb (header_text h) → b.place ≤ input_limit → BreaksBehind id a.place h b.place (unread b lb) fault → BreaksHere id a.place (unread a la) fault
  here_behind a b la lb h fault is took low breaks =
      inr (h, unread b lb, record { is = is; cut = took.cut; within = omega (arith, took.counted, low) }, subst (λ (at : ℕ). BreaksBehind id a.place h at (unread b lb) fault) took.counted breaks)

  -- what is wrong with a whole object
  pub here_object : (start : ℕ) (h : Header) (b c : Held) (lb lc body : List ℕ) (fault : BatchFault) → length body ≡ h.size → h.size ≤ body_limit → Takes b c lb lc (body ++ 10 ∷ []) → c.place ≤ input_limit → ObjectBreaks id start h body fault → BreaksBehind id start h b.place (unread b lb) fault
  here_object start h b c lb lc body fault l small took low breaks =
      inr (body, unread c lc, record { short = small; length_is = l; cut = took.cut ∙ append_assoc body (10 ∷ []) (unread c lc); within = omega (arith, took.counted, length-append body (10 ∷ []), l, low) }, breaks)

  pub is_given : (h : Header) (body : List ℕ) (o : Entry) → IsHeader h → length body ≡ h.size → h.size ≤ body_limit → made_from o ≡ record { kind = h.kind; body = body } → IsObject id o → h.id ≡ id h.kind body → IsGiven id (given_of h.id h.kind body)
  is_given h body o is l small same object named =
      record {
        header = record { id = is.id; kind = is.kind; size = omega (arith, l, small) };
        short = omega (arith, l, small);
        good = subst (λ (m : Made). IsWellFormed m.kind m.body) same (o.kids, object.kids);
        named = named;
      }

  pub takes_object : (a b c : Held) (la lb lc : List ℕ) (h : Header) (body : List ℕ) (o : Entry) → IsHeader h → length body ≡ h.size → h.size ≤ body_limit → Takes a b la lb (header_text h) → Takes b c lb lc (body ++ 10 ∷ [])
      → made_from o ≡ record { kind = h.kind; body = body } → IsObject id o → h.id ≡ id h.kind body → TakesObject id a c la lc (made_from o)
  takes_object a b c la lb lc h body o is l small t s same object named =
      record { given = given_of h.id h.kind body; is = is_given h body o is l small same object named; made = sym same; taken = takes_given a b c la lb lc h body l t s }

  reaches_more : (text : List ℕ) (given : List Given) (at : ℕ) (rest : List ℕ) (g : Given) (more : List ℕ) → Reaches id text given at rest → IsGiven id g → rest ≡ given_text g ++ more → at + length (given_text g) ≤ input_limit → Reaches id text (given ++ g ∷ []) (at + length (given_text g)) more
  reaches_more text given at rest g more r is cut low =
      let pushed : batch_text (given ++ g ∷ []) ≡ batch_text given ++ given_text g = flat_map-append given_text given (g ∷ []) ∙ ap (λ (t : List ℕ). batch_text given ++ t) (append-nil (given_text g)) in
      let long : length (batch_text (given ++ g ∷ [])) ≡ at + length (given_text g) = ap length pushed ∙ length-append (batch_text given) (given_text g) ∙ ap (λ (n : ℕ). n + length (given_text g)) (sym r.here) in
      record {
        are = record { each = all-push (IsGiven id) given g r.are.each is; within = omega (arith, long, low) };
        cut = r.cut ∙ ap (λ (t : List ℕ). batch_text given ++ t) cut ∙ sym (append_assoc (batch_text given) (given_text g) more) ∙ ap (λ (t : List ℕ). t ++ more) (sym pushed);
        here = sym long;
      }

  -- one object more
  pub read_more : (text : List ℕ) (a b : Held) (la lb : List ℕ) (kept new : List Made) (m : Made) → HasRead id text a la kept → TakesObject id a b la lb m → b.place ≤ input_limit → Keeps kept m new → HasRead id text b lb new
  read_more text a b la lb kept new m r t low k =
      let took = t.taken in
      record {
        given = r.given ++ t.given ∷ [];
        reaches = subst (λ (at : ℕ). Reaches id text (r.given ++ t.given ∷ []) at (unread b lb)) (sym took.counted) (reaches_more text r.given a.place (unread a la) t.given (unread b lb) r.reaches t.is took.cut (omega (arith, took.counted, low)));
        keeps = subst (λ (ms : List Made). KeepsFirst [] ms new) (sym (map-append (λ (g : Given). g.made) r.given (t.given ∷ []) ∙ ap (λ (n : Made). map (λ (g : Given). g.made) r.given ++ n ∷ []) t.made)) (keeps_more [] (map (λ (g : Given). g.made) r.given) kept new m r.keeps k);
      }

pub nothing_left : (bytes left : List ℕ) → bytes ++ left ≡ [] → left ≡ []
nothing_left [] left e = e
nothing_left (c ∷ bytes) left e = cc
