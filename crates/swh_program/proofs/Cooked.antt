-- What a cook means for `cook`.
use Rattle.std.proofs.Common.{◌≡◌, ◌≢◌, ◌⊎◌, inl, inr, ℕ, ◌<◌, ◌≤◌, Option, List, [], ◌++◌, refl, sym, ap, ◌∙◌, subst, arith}
use Rattle.std.proofs.lemmas.List.{append-nil}
use Rattle.swh_base.specs.declared.kind.Kind.{Kind}
use Rattle.swh_base.specs.declared.name.Name.{Name}
use Rattle.swh_base.specs.Name.{IsName}
use Rattle.swh_outside.specs.Faults.{Rose}
use Rattle.swh_outside.specs.Files.{Files}
use Rattle.swh_model.specs.declared.event.Event.{Event}
use Rattle.swh_model.specs.Archive.{Archive, IsGraphOf}
use Rattle.swh_model.specs.Step.{IsHistory, replay}
use Rattle.swh_segment.specs.Making.{IsNotMade}
use Rattle.swh_keeper.specs.Own.{AreOwn}
use Rattle.swh_swhid.specs.Front.{BreaksAt}
use Rattle.swh_swhid.specs.Qualifier.{IsSwhid, HasSwhid}
use Rattle.swh_swhid.specs.declared.swhid.Swhid.{Swhid}
use Rattle.swh_swhid.proofs.Fronts.{one_break}
use Rattle.swh_swhid.proofs.Values.{one_value, read_value}
use Rattle.swh_carried.specs.Cause.{CookBreaks}
use Rattle.swh_carried.proofs.Graphs.{one_graph}
use Rattle.swh_carried.specs.declared.fault.CookFault.{CookFault}
use Rattle.swh_carried.specs.declared.fault.CookFault.TheVariants as fault
use Rattle.swh_dircook.specs.Made.{Made, Yarded, IsFrontOfMade}
use Rattle.swh_cook.specs.Back.{IsAgain}
use Rattle.swh_cook.specs.Cook.{IsCarried, IsCooked, IsBrokenOff, ExplainsUncooked, MakesAll, MakesFront}
use Rattle.swh_cook.proofs.Again.{made_again}
use Rattle.swh_cook.proofs.Ends.{carried_held, carried_or}
use Rattle.swh_exit.specs.Seen.{Folders, Span}
use Rattle.swh_exit.specs.Answers.{TellsLine, TellsDisk, status_of, status_for, printed_by, IsPrinted}
use Rattle.swh_exit.specs.Archives.{archive_at, old_archive, new_archive}
use Rattle.swh_program.specs.CookCommand.{cook_line, not_held_line, uncarried_line, no_swhid_line, TellsMissing, TellsUncarried, TellsUncooked, IsRefused, TellsCooked, RefusesCook, TellsCook, BreaksOff, LeavesYard, LeavesCook, cooking, RefusesSwhid, EndsUnread, CooksName, Cooks, IsUncooked, CannotCook, PrintsCooked, DoesCook}
use Rattle.swh_program.specs.Commands.{telling, LooksLeave, ReadsLeave}
use Rattle.swh_exit.specs.Damage.{damaged_line, IsUndamaged}
use Rattle.swh_exit.specs.Opening.{IsUnusable, IsOpenRefusal}
use Rattle.swh_program.specs.Reading.{Telling, IsOfArchive, OfHistory, OfArchive, IsReadAnswer, ReadEnds, Prints, DoesRead}
use Rattle.swh_exit.specs.Run.{ComesTo, IsExactly, IsTold, IsPrintedUnlessFailed}
use Rattle.swh_program.specs.Run.{NamesFailed}
use Rattle.swh_program.specs.Yards.{Yards, yards_of}
use Rattle.swh_exit.specs.declared.answer.Ending.{Ending}
use Rattle.swh_exit.specs.declared.answer.Ending.TheVariants as ending
use Rattle.swh_exit.specs.declared.answer.Answer.{Answer}
use Rattle.swh_exit.specs.declared.answer.Answer.TheVariants.{Told, NotMade, Damaged, OutsideDisk, OutsideSource, OutsideFolder, OutsideYard, OutsideClock, Memory}
use Rattle.swh_program.specs.declared.reading.Reading.{Reading}
use Rattle.swh_program.specs.declared.reading.Reading.TheVariants.{Ask, Check, Cook}
use Rattle.swh_program.proofs.Archived.{usable, one_archive, harmed}
use Rattle.swh_exit.proofs.Statuses.{Tells}
use Rattle.swh_program.proofs.Completes.{told_unless}
use Rattle.swh_program.proofs.ReadOnly.{Settles, does_read, read_names}
use Rattle.swh_program.proofs.Statuses.{run_comes, run_exactly}

-- ---- what is told of a name

module _ (y : Yards) (a : Archive) (name : Name) (out : List ℕ) where
  -- a line is told of it
  told_cook : (line : List ℕ) (end : Ending) (answer : Answer) → TellsCook y a name out line end → TellsLine line end answer → IsOfArchive (cooking y name out) a answer
  told_cook line end (Told text e) tells told = subst (λ (f : Ending). TellsCook y a name out text f) (sym told.1) (subst (λ (t : List ℕ). TellsCook y a name out t end) (sym told.0) tells)
  told_cook line end Memory tells told = tt
  told_cook line end _ tells told = absurd told

  -- and the yard is left as it says, or as it was left before memory ran out
  line_leaves : (line : List ℕ) (end : Ending) (answer : Answer) → y.same ⊎ BreaksOff y a name out → TellsLine line end answer → LeavesYard y a name out answer
  line_leaves line end (Told text e) left told = tt
  line_leaves line end Memory left told = left
  line_leaves line end _ left told = absurd told

  -- all of it is a front of it
  whole_front : (made : List Made) → IsFrontOfMade made made
  whole_front made = record { before = made; behind = []; cut = sym (append-nil made); is = inl refl }

  all_front : (old new : Yarded) (children_of : Name → Option (List Name)) → MakesAll a.bodies children_of name out old new → MakesFront a.bodies children_of name out old new
  all_front old new children_of m = record { made = m.made; are = m.are; front = record { some = m.made; front = whole_front m.made; is = m.is } }

  cooked_off : (children_of : Name → Option (List Name)) (head : Option (List ℕ)) → IsGraphOf a.bodies children_of → IsCooked a.bodies children_of name out y.tells y.old y.new head → BreaksOff y a name out
  cooked_off children_of head graph c = record {
    children_of = children_of;
    graph = graph;
    front = record { carried = c.carried; made = λ t. all_front y.old y.new children_of (c.made t) };
  }

-- a line names no disk, and no damage
pub line_inside : (line : List ℕ) (end : Ending) (answer : Answer) → TellsLine line end answer → answer ≢ OutsideDisk
line_inside line end answer told e = subst (TellsLine line end) e told

pub line_undamaged : (line : List ℕ) (end : Ending) (answer : Answer) → TellsLine line end answer → IsUndamaged answer
line_undamaged line end (Damaged text) told = told
line_undamaged line end _ told = tt

-- ---- what is told of a name, by how its cooking ended

module _ (y : Yards) (a : Archive) (name : Name) (out : List ℕ) (children_of : Name → Option (List Name)) (graph : IsGraphOf a.bodies children_of) where
  abbrev Explains : CookFault → Type 0
  Explains why = ExplainsUncooked a.bodies children_of name out y.tells y.same y.old y.new why

  broken_off : IsBrokenOff a.bodies children_of name out y.tells y.old y.new → BreaksOff y a name out
  broken_off front = record { children_of = children_of; graph = graph; front = front }

  refuses : (text : List ℕ) → TellsMissing a name children_of text ⊎ TellsUncarried a name children_of text → y.same → RefusesCook y a name out text
  refuses text tells same = record { children_of = children_of; graph = graph; tells = tells; same = same }

  pub told_cooked : (head : Option (List ℕ)) (answer : Answer) → IsCooked a.bodies children_of name out y.tells y.old y.new head → TellsLine (cook_line name head) ending.Done answer → IsOfArchive (cooking y name out) a answer
  told_cooked head answer cooked told =
      told_cook y a name out (cook_line name head) ending.Done answer
      (record { children_of = children_of; graph = graph; head = head; cooked = cooked; text_is = refl }) told

  pub leaves_cooked : (head : Option (List ℕ)) (answer : Answer) → IsCooked a.bodies children_of name out y.tells y.old y.new head → TellsLine (cook_line name head) ending.Done answer → LeavesYard y a name out answer
  leaves_cooked head answer cooked told =
      line_leaves y a name out (cook_line name head) ending.Done answer (inr (cooked_off y a name out children_of head graph cooked)) told

  pub told_uncooked : (before now : ℕ) → (Rose before now → y.failed) → (f : CookFault) (answer : Answer) → CookBreaks before now f → Explains f → TellsUncooked f answer → IsOfArchive (cooking y name out) a answer
  told_uncooked before now rose (fault.NotHeld missing) answer breaks why told =
      told_cook y a name out (not_held_line missing) ending.Wanting answer
      (refuses (not_held_line missing) (inl (record { missing = missing; is = why.0; text_is = refl })) why.1) told
  told_uncooked before now rose (fault.Uncarried first rule) answer breaks why told =
      told_cook y a name out (uncarried_line first rule) ending.Wanting answer
      (refuses (uncarried_line first rule) (inr (record { first = first; why = rule; is = why.0; text_is = refl })) why.1) told
  told_uncooked before now rose fault.WriteFault answer breaks why told =
      subst (IsOfArchive (cooking y name out) a) (sym told) (record { left = broken_off why; failed = rose breaks })
  told_uncooked before now rose fault.Memory answer breaks why told = subst (IsOfArchive (cooking y name out) a) (sym told) tt

  pub leaves_uncooked : (f : CookFault) (answer : Answer) → Explains f → TellsUncooked f answer → LeavesYard y a name out answer
  leaves_uncooked (fault.NotHeld missing) answer why told = line_leaves y a name out (not_held_line missing) ending.Wanting answer (inl why.1) told
  leaves_uncooked (fault.Uncarried first rule) answer why told = line_leaves y a name out (uncarried_line first rule) ending.Wanting answer (inl why.1) told
  leaves_uncooked fault.WriteFault answer why told = subst (LeavesYard y a name out) (sym told) tt
  leaves_uncooked fault.Memory answer (inl same) told = subst (LeavesYard y a name out) (sym told) (inl same)
  leaves_uncooked fault.Memory answer (inr front) told = subst (LeavesYard y a name out) (sym told) (inr (broken_off front))

pub uncooked_inside : (f : CookFault) (answer : Answer) → TellsUncooked f answer → answer ≢ OutsideDisk
uncooked_inside (fault.NotHeld missing) answer told = line_inside (not_held_line missing) ending.Wanting answer told
uncooked_inside (fault.Uncarried first why) answer told = line_inside (uncarried_line first why) ending.Wanting answer told
uncooked_inside fault.WriteFault answer told = λ e. let f : OutsideYard ≡ OutsideDisk = sym told ∙ e in cc
uncooked_inside fault.Memory answer told = λ e. let f : Memory ≡ OutsideDisk = sym told ∙ e in cc

pub uncooked_undamaged : (f : CookFault) (answer : Answer) → TellsUncooked f answer → IsUndamaged answer
uncooked_undamaged (fault.NotHeld missing) answer told = line_undamaged (not_held_line missing) ending.Wanting answer told
uncooked_undamaged (fault.Uncarried first why) answer told = line_undamaged (uncarried_line first why) ending.Wanting answer told
uncooked_undamaged fault.WriteFault answer told = subst IsUndamaged (sym told) tt
uncooked_undamaged fault.Memory answer told = subst IsUndamaged (sym told) tt

pub cook_settles : (y : Yards) (name : Name) (out : List ℕ) → Settles (cooking y name out)
cook_settles y name out a text ending.Done told = inl refl
cook_settles y name out a text ending.Wanting told = inr refl
cook_settles y name out a text ending.OutsideDisk told = absurd told
cook_settles y name out a text ending.Memory told = absurd told

-- ---- how the yard is left

pub told_as : (id_of : Kind → List ℕ → List ℕ) (y : Yards) (reading other : Reading) → reading ≡ other → (a : Archive) (answer : Answer) → IsOfArchive (telling id_of y other) a answer → IsOfArchive (telling id_of y reading) a answer
told_as id_of y reading other e a answer = subst (λ (r : Reading). IsOfArchive (telling id_of y r) a answer) (sym e)

pub leaves_as : (y : Yards) (reading other : Reading) → reading ≡ other → (a : Archive) (answer : Answer) → LooksLeave y other a answer → LooksLeave y reading a answer
leaves_as y reading other e a answer = subst (λ (r : Reading). LooksLeave y r a answer) (sym e)

module _ (Of : (Archive → Type 0) → Type 0) (y : Yards) where
  -- an opening that is refused leaves it as it was
  cook_refused : (name : Name) (out : List ℕ) (answer : Answer) → y.same → IsOpenRefusal answer → LeavesCook Of y name out answer
  cook_refused name out NotMade same is = same
  cook_refused name out (Damaged text) same is = same
  cook_refused name out OutsideDisk same is = same
  cook_refused name out Memory same is = inl same
  cook_refused name out _ same is = absurd is

  pub leaves_refused : (reading : Reading) (answer : Answer) → y.same → IsOpenRefusal answer → ReadsLeave Of y reading answer
  leaves_refused (Ask paths) answer same is = same
  leaves_refused Check answer same is = same
  leaves_refused (Cook name out) answer same is = cook_refused name out.now answer same is

  module _ (a : Archive) (of : (Is : Archive → Type 0) → Is a → Of Is) where
    cook_looked : (name : Name) (out : List ℕ) (answer : Answer) → LeavesYard y a name out answer → LeavesCook Of y name out answer
    cook_looked name out (Told text end) left = tt
    cook_looked name out OutsideYard left = tt
    cook_looked name out Memory left = elim left [
      | inl same ↦ inl same
      | inr off ↦ inr (of (λ (b : Archive). BreaksOff y b name out) off)
    ]
    cook_looked name out _ left = absurd left

    -- and so does a look
    pub leaves_looked : (reading : Reading) (answer : Answer) → LooksLeave y reading a answer → ReadsLeave Of y reading answer
    leaves_looked (Ask paths) answer left = left
    leaves_looked Check answer left = left
    leaves_looked (Cook name out) answer left = cook_looked name out.now answer left

-- ---- a name that cannot be cooked

-- a name that is carried is not refused, whatever graph tells it
carried_unrefused : (a : Archive) (name : Name) (f g : Name → Option (List Name)) → IsGraphOf a.bodies f → IsGraphOf a.bodies g → IsCarried a.bodies f name → IsRefused a name g → ⊥
carried_unrefused a name f g is_f is_g carried refused = elim refused [
  | inl missing ↦ carried_held a.bodies g name missing.0 here missing.1
  | inr uncarried ↦ carried_or a.bodies g name uncarried.0 uncarried.1 here uncarried.2
]
  where
    here : IsCarried a.bodies g name
    here = subst (λ (h : Name → Option (List Name)). IsCarried a.bodies h name) (one_graph a.bodies f g is_f is_g) carried

-- what is told of a refusal
refusal_of : (y : Yards) (a : Archive) (name : Name) (out text : List ℕ) → (r : RefusesCook y a name out text) → IsRefused a name r.children_of
refusal_of y a name out text r = elim r.tells [
  | inl missing ↦ inl (missing.missing, missing.is)
  | inr uncarried ↦ inr (uncarried.first, uncarried.why, uncarried.is)
]

module _ (id_of : Kind → List ℕ → List ℕ) (y : Yards) (swhid : List ℕ) (value : Swhid) (is : IsSwhid swhid value) (out : List ℕ) (old new : Files) where
  abbrev cooks : Telling
  cooks = cooking y value.core out

  cannot : (u : IsUncooked id_of old value.core) → CannotCook id_of old swhid
  cannot u = inr (value, is, u)

  told_only : (text : List ℕ) (end : Ending) → ReadEnds id_of cooks old new (Told text end) → status_for end ≡ 1 → CannotCook id_of old swhid
  told_only text ending.Done ends e = absurd (omega (arith, e))
  told_only text ending.Wanting ends e =
      let r = ends.told in
      cannot (record { history = ends.history; archive = ends.archive; children_of = r.children_of; graph = r.graph; refused = refusal_of y (replay ends.history) value.core out text r })
  told_only text ending.OutsideDisk ends e = absurd ends.told
  told_only text ending.Memory ends e = absurd ends.told

  pub cook_only : (answer : Answer) → ReadEnds id_of cooks old new answer → status_of answer ≡ 1 → CannotCook id_of old swhid
  cook_only (Told text end) ends e = told_only text end ends e
  cook_only NotMade ends e = absurd (omega (arith, e))
  cook_only (Damaged text) ends e = absurd (omega (arith, e))
  cook_only OutsideDisk ends e = absurd (omega (arith, e))
  cook_only OutsideYard ends e = absurd (omega (arith, e))
  cook_only Memory ends e = absurd (omega (arith, e))
  cook_only _ ends e = absurd ends

  module _ (u : IsUncooked id_of old value.core) where
    told_there : (text : List ℕ) (end : Ending) → ReadEnds id_of cooks old new (Told text end) → ComesTo 1 (status_for end)
    told_there text ending.Done ends =
        let c = ends.told in
        let same = one_archive id_of old ends.history u.history ends.archive u.archive in
        let a = replay u.history in
        let graph : IsGraphOf a.bodies c.children_of = subst (λ (h : List Event). IsGraphOf (replay h).bodies c.children_of) same c.graph in
        let carried : IsCarried a.bodies c.children_of value.core = subst (λ (h : List Event). IsCarried (replay h).bodies c.children_of value.core) same c.cooked.carried in
        absurd (carried_unrefused a value.core c.children_of u.children_of graph u.graph carried u.refused)
    told_there text ending.Wanting ends = inl refl
    told_there text ending.OutsideDisk ends = absurd ends.told
    told_there text ending.Memory ends = absurd ends.told

    pub cook_there : (answer : Answer) → ReadEnds id_of cooks old new answer → ComesTo 1 (status_of answer)
    cook_there (Told text end) ends = told_there text end ends
    cook_there NotMade ends = absurd (usable id_of old u.history u.archive (inl ends.0))
    cook_there (Damaged text) ends = absurd (usable id_of old u.history u.archive (inr (harmed id_of old text ends.0)))
    cook_there OutsideDisk ends = inr (inl refl)
    cook_there OutsideYard ends = inr (inl refl)
    cook_there Memory ends = inr (inr refl)
    cook_there _ ends = absurd ends

  -- 1
  pub cook_exactly : (answer : Answer) → ReadEnds id_of cooks old new answer → IsExactly 1 (CannotCook id_of old swhid) (status_of answer)
  cook_exactly answer ends = record {
    only = cook_only answer ends;
    there = λ cause. elim cause [
      | inl none ↦ absurd (none (record { swhid = value; is = is }))
      | inr c ↦ cook_there (subst (λ (v : Swhid). IsUncooked id_of old v.core) (one_value swhid c.0 value c.1 is) c.2) answer ends
    ];
  }

-- ---- a name that was cooked

module _ (s : Span) (name : Name) (is_name : IsName name) (out : List ℕ) (status : ℕ) (zero : status ≡ 0) where
  -- what was made is the name again
  module _ (h : List Event) (happens : IsHistory s.id_of h) (text : List ℕ) (c : TellsCooked (yards_of s) (replay h) name out text) where
    is_again : (told : s.told.yard) → IsAgain s.id_of (replay h).bodies c.children_of name out (c.cooked.made told).made c.head
    is_again told =
        let made = c.cooked.made told in
        made_again s.id_of h c.children_of name out made.made c.head happens c.graph is_name (λ n reached body directory held. c.cooked.of_bytes n body held) c.cooked.is_head c.cooked.carried made.are

    pub prints_cooked : (s.told.sink → s.new.sink.taken ≡ s.old.sink.taken ++ text) → PrintsCooked (replay h) name out s status
    prints_cooked printed = record { text = text; cooked = c; again = is_again; printed = printed; status_is = zero }

  -- the line is all that was printed
  line_printed : (text : List ℕ) → IsPrinted (Told text ending.Done) s.told.sink s.old.sink.taken s.new.sink.taken status → s.told.sink → s.new.sink.taken ≡ s.old.sink.taken ++ text
  line_printed text p k = p.printed k ∙ ap (λ (l : List ℕ). s.old.sink.taken ++ l) (append-nil text)

  abbrev IsAllPrinted : Answer → Type 0
  IsAllPrinted answer = IsPrinted answer s.told.sink s.old.sink.taken s.new.sink.taken status

  not_zero : (answer : Answer) → 1 ≤ status_of answer → IsAllPrinted answer → ⊥
  not_zero answer some p = omega (arith, p.status_is, zero, some)

  -- out of which archive, by the answer that was printed
  out_of_history : (answer : Answer) → IsReadAnswer s.id_of (cooking (yards_of s) name out) answer → IsAllPrinted answer → OfHistory s.id_of (λ a. PrintsCooked a name out s status)
  out_of_history (Told text ending.Done) one p = record { history = one.history; happens = one.happens; is = prints_cooked one.history one.happens text one.is (line_printed text p) }
  out_of_history (Told text ending.Wanting) one p = absurd (not_zero (Told text ending.Wanting) (omega arith) p)
  out_of_history (Told text ending.OutsideDisk) one p = absurd one.is
  out_of_history (Told text ending.Memory) one p = absurd one.is
  out_of_history NotMade one p = absurd (not_zero NotMade (omega arith) p)
  out_of_history (Damaged text) one p = absurd (not_zero (Damaged text) (omega arith) p)
  out_of_history OutsideDisk one p = absurd (not_zero OutsideDisk (omega arith) p)
  out_of_history OutsideYard one p = absurd (not_zero OutsideYard (omega arith) p)
  out_of_history Memory one p = absurd (not_zero Memory (omega arith) p)
  out_of_history _ one p = absurd one

  module _ (old new : Files) where
    out_of_files : (answer : Answer) → ReadEnds s.id_of (cooking (yards_of s) name out) old new answer → IsAllPrinted answer → OfArchive s.id_of old (λ a. PrintsCooked a name out s status)
    out_of_files (Told text ending.Done) ends p = record { history = ends.history; archive = ends.archive; is = prints_cooked ends.history ends.archive.history text ends.told (line_printed text p) }
    out_of_files (Told text ending.Wanting) ends p = absurd (not_zero (Told text ending.Wanting) (omega arith) p)
    out_of_files (Told text ending.OutsideDisk) ends p = absurd ends.told
    out_of_files (Told text ending.Memory) ends p = absurd ends.told
    out_of_files NotMade ends p = absurd (not_zero NotMade (omega arith) p)
    out_of_files (Damaged text) ends p = absurd (not_zero (Damaged text) (omega arith) p)
    out_of_files OutsideDisk ends p = absurd (not_zero OutsideDisk (omega arith) p)
    out_of_files OutsideYard ends p = absurd (not_zero OutsideYard (omega arith) p)
    out_of_files Memory ends p = absurd (not_zero Memory (omega arith) p)
    out_of_files _ ends p = absurd ends

  -- with 0 the answer was printed whole
  whole_answer : (answer : Answer) → IsTold answer s status → IsAllPrinted answer
  whole_answer answer (inl printed) = printed
  whole_answer answer (inr cut) = absurd (omega (arith, cut.status_is, zero))

-- ---- the command

-- a line that tells a word that is no SWHID
line_status : (line : List ℕ) (answer : Answer) → TellsLine line ending.Wanting answer → Tells line 1 answer
line_status line (Told text end) told = inr (ap status_for told.1, ap (λ (e : Ending). printed_by (Told text e)) told.1 ∙ append-nil text ∙ told.0)
line_status line Memory told = inl refl
line_status line _ told = absurd told

line_comes : (line : List ℕ) (answer : Answer) → TellsLine line ending.Wanting answer → ComesTo 1 (status_of answer)
line_comes line answer told = elim (line_status line answer told) [
  | inl memory ↦ inr (inr memory)
  | inr one ↦ inl one.0
]

-- which part such an answer names
line_names : (s : Span) (line : List ℕ) (answer : Answer) → TellsLine line ending.Wanting answer → NamesFailed s answer
line_names s line answer told = record {
  disk = λ tells. absurd (line_disk answer told tells);
  source = λ e. absurd (subst (TellsLine line ending.Wanting) e told);
  folder = λ e. absurd (subst (TellsLine line ending.Wanting) e told);
  yard = λ e. absurd (subst (TellsLine line ending.Wanting) e told);
  clock = λ e. absurd (subst (TellsLine line ending.Wanting) e told);
}
  where
    line_disk : (a : Answer) → TellsLine line ending.Wanting a → TellsDisk a → ⊥
    line_disk (Told text end) is tells = let e : ending.Wanting ≡ ending.OutsideDisk = sym is.1 ∙ tells in cc
    line_disk Memory is tells = let e : Memory ≡ OutsideDisk = tells in cc
    line_disk _ is tells = is

memory_names : (s : Span) → NamesFailed s Memory
memory_names s = record {
  disk = λ tells. absurd (let e : Memory ≡ OutsideDisk = tells in cc);
  source = λ e. absurd (let f : Memory ≡ OutsideSource = e in cc);
  folder = λ e. absurd (let f : Memory ≡ OutsideFolder = e in cc);
  yard = λ e. absurd (let f : Memory ≡ OutsideYard = e in cc);
  clock = λ e. absurd (let f : Memory ≡ OutsideClock = e in cc);
}

pub cook_names : (dir swhid out : List ℕ) (s : Span) (answer : Answer) → Cooks dir swhid out s answer → NamesFailed s answer
cook_names dir swhid out s answer (inl r) = line_names s (no_swhid_line r.at) answer r.tells
cook_names dir swhid out s answer (inr (inl u)) = subst (NamesFailed s) (sym u.is) (memory_names s)
cook_names dir swhid out s answer (inr (inr c)) =
    read_names (cooking (yards_of s) c.value.core out) (cook_settles (yards_of s) c.value.core out) dir s (λ a broke. broke.failed) answer c.reads

exactly_with : (P Cause : Type 0) (expected status : ℕ) → P → IsExactly expected Cause status → IsExactly expected (P × Cause) status
exactly_with P Cause expected status holds exact = record { only = λ e. (holds, exact.only e); there = λ cause. exact.there cause.1 }

module _ (dir swhid out : List ℕ) (s : Span) (answer : Answer) (status : ℕ) (told : IsTold answer s status) where
  abbrev old : Files
  old = old_archive dir s

  abbrev new : Files
  new = new_archive dir s

  still_own : s.new.depot.files ≡ s.old.depot.files → AreOwn s.id_of old → AreOwn s.id_of new
  still_own same = subst (λ (f : Folders). AreOwn s.id_of (archive_at f dir)) (sym same)

  -- the word is no SWHID
  module _ (r : RefusesSwhid swhid s answer) where
    comes_short : ComesTo 1 status
    comes_short = run_comes answer s status 1 (line_comes (no_swhid_line r.at) answer r.tells) told

    -- a status that it does not have
    other_status : (k : ℕ) → 2 ≤ k → k < 4 → status ≡ k → ⊥
    other_status k more less is = elim comes_short [
      | inl one ↦ omega (arith, one, is, more)
      | inr rest ↦ elim rest [
        | inl four ↦ omega (arith, four, is, less)
        | inr five ↦ omega (arith, five, is, less)
      ]
    ]

    not_done : status ≡ 0 → ⊥
    not_done is = elim comes_short [
      | inl one ↦ omega (arith, one, is)
      | inr rest ↦ elim rest [
        | inl four ↦ omega (arith, four, is)
        | inr five ↦ omega (arith, five, is)
      ]
    ]

    place_told : (at : ℕ) → BreaksAt HasSwhid swhid at → IsPrintedUnlessFailed (no_swhid_line at) 1 s status
    place_told at breaks =
        let same = ap no_swhid_line (one_break HasSwhid swhid r.at at r.breaks breaks) in
        told_unless (no_swhid_line at) 1 answer s status (inr (subst (λ (l : List ℕ). Tells l 1 answer) same (line_status (no_swhid_line r.at) answer r.tells))) told

    does_refuse : DoesCook dir swhid out s status
    does_refuse = record {
      ends = record { answer = answer; is_one = inl r; told = told };
      not_refused = other_status 2 (omega arith) (omega arith);
      cooked = λ e. absurd (not_done e);
      cooked_there = λ k e. absurd (not_done e);
      no_swhid = place_told;
      wanting = λ k. record { only = λ e. inl r.breaks.refused; there = λ cause. comes_short };
      unusable = λ k. record { only = λ e. absurd (other_status 3 (omega arith) (omega arith) e); there = λ cause. absurd (r.breaks.refused cause.0) };
      first_harm = λ file at k has harm. absurd (r.breaks.refused has);
      undamaged = λ k own. record { only = λ e. absurd (other_status 3 (omega arith) (omega arith) e); there = λ cause. absurd (r.breaks.refused cause.0) };
      own = λ k has. absurd (r.breaks.refused has);
      own_still = λ k. still_own r.files;
      complete = λ h value children_of k is archive graph carried no_disk no_yard no_sink. absurd (r.breaks.refused (record { swhid = value; is = is }));
    }

  -- memory ran out before it was read
  module _ (u : EndsUnread s answer) where
    memory : status_of answer ≡ 5
    memory = ap status_of u.is

    no_status : (k : ℕ) → k < 4 → status ≡ k → ⊥
    no_status k less is = elim (run_comes answer s status 5 (inl memory) told) [
      | inl five ↦ omega (arith, five, is, less)
      | inr rest ↦ elim rest [
        | inl four ↦ omega (arith, four, is, less)
        | inr five ↦ omega (arith, five, is, less)
      ]
    ]

    never : (expected : ℕ) (Cause : Type 0) → expected < 4 → IsExactly expected Cause status
    never expected Cause less = record { only = λ e. absurd (no_status expected less e); there = λ cause. run_comes answer s status expected (inr (inr memory)) told }

    no_line : (line : List ℕ) (expected : ℕ) → IsPrintedUnlessFailed line expected s status
    no_line line expected = told_unless line expected answer s status (inr (inl memory)) told

    does_end : DoesCook dir swhid out s status
    does_end = record {
      ends = record { answer = answer; is_one = inr (inl u); told = told };
      not_refused = no_status 2 (omega arith);
      cooked = λ e. absurd (no_status 0 (omega arith) e);
      cooked_there = λ k e. absurd (no_status 0 (omega arith) e);
      no_swhid = λ at breaks. no_line (no_swhid_line at) 1;
      wanting = λ k. never 1 (CannotCook s.id_of old swhid) (omega arith);
      unusable = λ k. never 3 (HasSwhid swhid × IsUnusable s.id_of old) (omega arith);
      first_harm = λ file at k has harm. no_line (damaged_line file at) 3;
      undamaged = λ k own. never 3 (HasSwhid swhid × IsNotMade (old 0).seen) (omega arith);
      own = λ k has. record { own = still_own u.files; told = λ less. absurd (no_status status (omega (arith, less)) refl) };
      own_still = λ k. still_own u.files;
      complete = λ h value children_of k is archive graph carried no_disk no_yard no_sink. elim told [
        | inl printed ↦ inl (printed.status_is ∙ memory)
        | inr cut ↦ absurd (no_sink cut.rose)
      ];
    }

  -- the archive was looked at for its name
  module _ (c : CooksName dir swhid out s answer) where
    abbrev y : Yards
    y = yards_of s

    has : HasSwhid swhid
    has = record { swhid = c.value; is = c.is }

    does : DoesRead (cooking y c.value.core out) dir s status
    does = does_read (cooking y c.value.core out) (cook_settles y c.value.core out) s answer status dir told c.reads

    is_name : IsName c.value.core
    is_name = (read_value swhid c.value c.is).named

    module _ (h : List Event) (happens : IsHistory s.id_of h) (children_of : Name → Option (List Name)) (graph : IsGraphOf (replay h).bodies children_of) (carried : IsCarried (replay h).bodies children_of c.value.core) where
      by_ending : (text : List ℕ) (end : Ending) → TellsCook y (replay h) c.value.core out text end → (s.told.sink → s.new.sink.taken ≡ s.old.sink.taken ++ text) → status ≡ status_for end → PrintsCooked (replay h) c.value.core out s status
      by_ending text ending.Done cooked printed is = prints_cooked s c.value.core is_name out status is h happens text cooked printed
      by_ending text ending.Wanting r printed is =
          absurd (carried_unrefused (replay h) c.value.core children_of r.children_of graph r.graph carried (refusal_of y (replay h) c.value.core out text r))
      by_ending text ending.OutsideDisk tells printed is = absurd tells
      by_ending text ending.Memory tells printed is = absurd tells

      cooked : (status ≡ 5) ⊎ Prints (cooking y c.value.core out) (replay h) s status → (status ≡ 5) ⊎ PrintsCooked (replay h) c.value.core out s status
      cooked (inl five) = inl five
      cooked (inr p) = inr (by_ending p.text p.end p.told p.printed p.status_is)

    does_name : DoesCook dir swhid out s status
    does_name = record {
      ends = record { answer = answer; is_one = inr (inr c); told = told };
      not_refused = does.not_refused;
      cooked = λ e. record { value = c.value; is = c.is; prints = out_of_history s c.value.core is_name out status e answer c.reads.one_of (whole_answer s c.value.core is_name out status e answer told) };
      cooked_there = λ k e. record {
        value = c.value;
        is = c.is;
        prints = out_of_files s c.value.core is_name out status e old new answer (c.reads.ends k) (whole_answer s c.value.core is_name out status e answer told);
      };
      no_swhid = λ at breaks. absurd (breaks.refused has);
      wanting = λ k. run_exactly answer s status 1 (CannotCook s.id_of old swhid) (omega arith) (cook_exactly s.id_of y swhid c.value c.is out old new answer (c.reads.ends k)) told;
      unusable = λ k. exactly_with (HasSwhid swhid) (IsUnusable s.id_of old) 3 status has (does.unusable k);
      first_harm = λ file at k swhid_there harm. does.first_harm file at k harm;
      undamaged = λ k own. exactly_with (HasSwhid swhid) (IsNotMade (old 0).seen) 3 status has (does.undamaged k own);
      own = λ k swhid_there. does.own k;
      own_still = λ k. (does.own k).own;
      complete = λ h value children_of k is archive graph carried no_disk no_yard no_sink.
          let same = one_value swhid value c.value is c.is in
          let here : IsCarried (replay h).bodies children_of c.value.core = subst (λ (v : Swhid). IsCarried (replay h).bodies children_of v.core) same carried in
          let ended = cooked h archive.history children_of graph here (does.complete h k archive no_disk (λ a broke. no_yard broke.failed) no_sink) in
          subst (λ (v : Swhid). (status ≡ 5) ⊎ PrintsCooked (replay h) v.core out s status) (sym same) ended;
    }

pub does_cook : (dir swhid out : List ℕ) (s : Span) (answer : Answer) (status : ℕ) → IsTold answer s status → Cooks dir swhid out s answer → DoesCook dir swhid out s status
does_cook dir swhid out s answer status told (inl r) = does_refuse dir swhid out s answer status told r
does_cook dir swhid out s answer status told (inr (inl u)) = does_end dir swhid out s answer status told u
does_cook dir swhid out s answer status told (inr (inr c)) = does_name dir swhid out s answer status told c
