-- Each step keeps what every world keeps, and forgets nothing.
use Rattle.std.proofs.Common.{◌≡◌, ℕ, Option, Some, None, Result, Ok, Err, List, length, take, refl, sym, ◌∙◌, subst}
use Rattle.swh_base.specs.declared.kind.Kind.{Kind}
use Rattle.swh_outside.specs.Files.{EachImages}
use Rattle.swh_model.specs.declared.event.Event.{Event}
use Rattle.swh_model.specs.declared.event.Wish.{Wish}
use Rattle.swh_model.specs.declared.event.Outcome.{Outcome}
use Rattle.swh_model.specs.Step.{May, replay}
use Rattle.swh_model.specs.Judge.{IsWish}
use Rattle.swh_model.proofs.Verdicts.{wish_may}
use Rattle.swh_core.specs.declared.step.Held.{Held}
use Rattle.swh_core.specs.declared.step.Step.{Step}
use Rattle.swh_core.specs.declared.step.Step.TheVariants.{Apply, Look, Fault, Crash}
use Rattle.swh_core.specs.declared.step.Told.{Told}
use Rattle.swh_core.specs.declared.step.Told.TheVariants as told
use Rattle.swh_core.specs.declared.step.StepFault.{StepFault}
use Rattle.swh_core.specs.declared.step.StepFault.TheVariants.{NotImage, Memory}
use Rattle.swh_segment.specs.Standing.{WithOrWithout}
use Rattle.swh_core.specs.declared.disk.Disks.{Disks}
use Rattle.swh_core.specs.declared.parts.Parts.{Parts as World}
use Rattle.swh_core.specs.World.{files_on, all_shown, sees_all, joined, in_doubt}
use Rattle.swh_core.specs.Step.{Lets, Applies, Faults, IsCaught, Crashes, IsWorldStep, IsMeant}
use Rattle.swh_core.specs.Kept.{MayStand, IsWorld, IsLater}
use Rattle.swh_core.proofs.Files.{two_images, are_two}
use Rattle.swh_core.proofs.Worlds.{front_itself, front_then, whole_taken, shown_kept, sees_kept, sees_later, joined_kept, joined_later, doubt_kept, doubt_later, shown_later, stands_at, front_of_stood, reopened_kept, reopened_later}

pub same_later : (w : World) → IsLater w w
same_later w = record { history = front_itself w.history; kept = front_itself w.kept; actors = refl }

pub later_then : (u v w : World) → IsLater u v → IsLater v w → IsLater u w
later_then u v w a b = record {
  history = front_then u.history v.history w.history a.history b.history;
  kept = front_then u.kept v.kept w.kept a.kept b.kept;
  actors = b.actors ∙ a.actors;
}

module _ (id_of : Kind → List ℕ → List ℕ) where
  -- what a step makes
  pub record Goes (old new : World) : Type 0 where
    pub kept : IsWorld id_of new
    pub later : IsLater old new

  stays : (w w' : World) → IsWorld id_of w → w' ≡ w → Goes w w'
  stays w w' k is = subst (Goes w) (sym is) (record { kept = k; later = same_later w })

  may_of : (w : World) (actor : ℕ) (wish : Wish) (e : Event) (o : Outcome) → IsWish id_of wish → Lets w.history actor wish e o → May id_of (replay w.history) e
  may_of w actor wish e o good lets = subst (λ (x : Event). May id_of (replay w.history) x) (sym lets.verdict.1) (wish_may id_of w.history actor wish good lets.verdict.0)

  -- once all is shown the actor sees all
  all_seen : (w : World) (actor : ℕ) → IsWorld id_of w → Goes w (sees_all actor w)
  all_seen w actor k =
      let shown = shown_kept id_of w k in
      record {
        kept = sees_kept id_of (all_shown w) shown actor w.history (sym (whole_taken w.history));
        later = later_then w (all_shown w) (sees_all actor w) (shown_later id_of w k) (sees_later id_of (all_shown w) shown actor w.history (sym (whole_taken w.history)));
      }

  applied : (actor : ℕ) (wish : Wish) (h : Held) (t : Told) (w w' : World) → IsWorld id_of w → IsWish id_of wish → Applies actor wish h w t w' → Goes w w'
  applied actor wish h told.Wounded w w' k good s = stays w w' k s.1
  applied actor wish h told.Untaken w w' k good s = stays w w' k s.3
  applied actor wish h (told.No cause) w w' k good s = subst (Goes w) (sym s.2) (all_seen w actor k)
  applied actor wish h (told.Done outcome) w w' k good s =
      let none = s.0.0 in
      let e = s.2 in
      let lets = s.3 in
      let may = may_of w actor wish e outcome good lets in
      let next = joined_kept id_of w k none e may lets.fits in
      let all = all_seen (joined e w) actor next in
      subst (Goes w) (sym s.4) (record { kept = all.kept; later = later_then w (joined e w) (sees_all actor (joined e w)) (joined_later id_of w k none e may lets.fits) all.later })
  applied actor wish h (told.Waits number) w w' k good s =
      let none = s.0.0 in
      let e = s.2 in
      let lets = s.4 in
      let may = may_of w actor wish e s.3 good lets in
      let shown = shown_kept id_of w k in
      subst (Goes w) (sym s.6) (record { kept = joined_kept id_of (all_shown w) shown none e may lets.fits; later = later_then w (all_shown w) (joined e (all_shown w)) (shown_later id_of w k) (joined_later id_of (all_shown w) shown none e may lets.fits) })
  applied actor wish h (told.Front n) w w' k good s = absurd s
  applied actor wish h (told.Doubt n) w w' k good s = absurd s
  applied actor wish h (told.Opened n) w w' k good s = absurd s

  faulted : (actor : ℕ) (wish : Wish) (call : ℕ) (t : Told) (w w' : World) → IsWorld id_of w → IsWish id_of wish → Faults actor wish call w t w' → Goes w w'
  faulted actor wish call told.Wounded w w' k good s = stays w w' k s.1
  faulted actor wish call (told.No cause) w w' k good s = subst (Goes w) (sym s.2) (record { kept = shown_kept id_of w k; later = shown_later id_of w k })
  faulted actor wish call (told.Doubt number) w w' k good s =
      let lets = s.3 in
      let may = may_of w actor wish s.1 s.2 good lets in
      let shown = shown_kept id_of w k in
      let left = in_doubt s.1 call (all_shown w) in
      subst (Goes w) (sym s.5) (record { kept = doubt_kept id_of (all_shown w) shown s.0 s.1 may lets.fits call; later = later_then w (all_shown w) left (shown_later id_of w k) (doubt_later id_of (all_shown w) shown s.0 s.1 may lets.fits call) })
  faulted actor wish call told.Untaken w w' k good s = absurd s
  faulted actor wish call (told.Done o) w w' k good s = absurd s
  faulted actor wish call (told.Waits n) w w' k good s = absurd s
  faulted actor wish call (told.Front n) w w' k good s = absurd s
  faulted actor wish call (told.Opened n) w w' k good s = absurd s

  as_before : (w : World) (disks : Disks) (more : Option Event) → IsWorld id_of w → disks ≡ w.disks → w.doubt ≡ more → EachImages (files_on disks) (MayStand w.history more)
  as_before w disks more k same doubt =
      subst (λ (d : Disks). EachImages (files_on d) (MayStand w.history more)) (sym same)
      (subst (λ (m : Option Event). EachImages (files_on w.disks) (MayStand w.history m)) doubt k.images)

  -- what a crash catches stands for the history, with the event or without, and the event may be next
  pub caught_stands : (w : World) (d : Option Event) (flight : Option (ℕ × Wish × ℕ)) (disks : Disks) (more : Option Event) (actors : ℕ) (ledger store : List ℕ) → IsWorld id_of w → w.doubt ≡ d → IsMeant id_of actors (Crash flight store ledger)
      → IsCaught d flight w disks more → EachImages (files_on disks) (MayStand w.history more)
  caught_stands w (Some e) flight disks more actors ledger store k is meant caught = as_before w disks more k caught.0 (is ∙ sym caught.1)
  caught_stands w None None disks more actors ledger store k is meant caught = as_before w disks more k caught.0 (is ∙ sym caught.1)
  caught_stands w None (Some f) disks None actors ledger store k is meant caught = as_before w disks None k caught.0 is
  caught_stands w None (Some f) disks (Some e) actors ledger store k is meant caught =
      subst (λ (d : Disks). EachImages (files_on d) (WithOrWithout w.history e)) (sym caught.0)
      (stands_at id_of w k is e (may_of w f.0 f.1 e caught.1 meant.1 caught.2) caught.2.fits f.2)

  pub caught_may : (w : World) (d : Option Event) (flight : Option (ℕ × Wish × ℕ)) (disks : Disks) (more : Option Event) (actors : ℕ) (ledger store : List ℕ) → IsWorld id_of w → w.doubt ≡ d → IsMeant id_of actors (Crash flight store ledger)
      → IsCaught d flight w disks more → (e : Event) → more ≡ Some e → May id_of (replay w.history) e
  caught_may w (Some e) flight disks more actors ledger store k is meant caught g same = k.doubt g (is ∙ sym caught.1 ∙ same)
  caught_may w None None disks more actors ledger store k is meant caught g same = absurd (let f : None ≡ Some g = sym caught.1 ∙ same in cc)
  caught_may w None (Some f) disks None actors ledger store k is meant caught g same = absurd (let e : None ≡ Some g = same in cc)
  caught_may w None (Some f) disks (Some e) actors ledger store k is meant caught g same =
      subst (May id_of (replay w.history)) (let both : Some e ≡ Some g = same in let one : e ≡ g = cc in one) (may_of w f.0 f.1 e caught.1 meant.1 caught.2)

  crashed : (flight : Option (ℕ × Wish × ℕ)) (store ledger : List ℕ) (w : World) (events : ℕ) (w' : World) → IsWorld id_of w → IsMeant id_of (length w.seen) (Crash flight store ledger) → Crashes id_of flight store ledger w events w' → Goes w w'
  crashed flight store ledger w events w' k meant s =
      let may = caught_may w w.doubt flight s.disks s.more (length w.seen) ledger store k refl meant s.caught in
      let each = caught_stands w w.doubt flight s.disks s.more (length w.seen) ledger store k refl meant s.caught in
      let stands = each.has (two_images ledger store) (are_two s.disks ledger store s.ledger_is s.store_is) in
      let front = front_of_stood id_of w k s.more s.h ledger store may stands s.stands s.history in
      subst (Goes w) (sym s.reopens) (record { kept = reopened_kept id_of w k s.h ledger store front s.history s.stands; later = reopened_later id_of w k s.h ledger store front s.history s.stands })

  pub stepped : (step : Step) (r : Result Told StepFault) (w w' : World) → IsWorld id_of w → IsMeant id_of (length w.seen) step → IsWorldStep id_of w step r w' → Goes w w'
  stepped (Apply actor wish h) (Ok t) w w' k m s = applied actor wish h t w w' k m.1 s
  stepped (Apply actor wish h) (Err (NotImage file)) w w' k m s = absurd s
  stepped (Apply actor wish h) (Err Memory) w w' k m s = stays w w' k s
  stepped (Look actor) (Ok t) w w' k m s = subst (Goes w) (sym s.1) (record { kept = sees_kept id_of w k actor (take w.shown w.history) refl; later = sees_later id_of w k actor (take w.shown w.history) refl })
  stepped (Look actor) (Err (NotImage file)) w w' k m s = absurd s
  stepped (Look actor) (Err Memory) w w' k m s = stays w w' k s
  stepped (Fault actor wish call) (Ok t) w w' k m s = faulted actor wish call t w w' k m.1 s
  stepped (Fault actor wish call) (Err (NotImage file)) w w' k m s = absurd s
  stepped (Fault actor wish call) (Err Memory) w w' k m s = stays w w' k s
  stepped (Crash flight store ledger) (Ok (told.Opened n)) w w' k m s = crashed flight store ledger w n w' k m s
  stepped (Crash flight store ledger) (Ok (told.Done o)) w w' k m s = absurd s
  stepped (Crash flight store ledger) (Ok (told.Waits n)) w w' k m s = absurd s
  stepped (Crash flight store ledger) (Ok told.Untaken) w w' k m s = absurd s
  stepped (Crash flight store ledger) (Ok (told.No c)) w w' k m s = absurd s
  stepped (Crash flight store ledger) (Ok told.Wounded) w w' k m s = absurd s
  stepped (Crash flight store ledger) (Ok (told.Front n)) w w' k m s = absurd s
  stepped (Crash flight store ledger) (Ok (told.Doubt n)) w w' k m s = absurd s
  stepped (Crash flight store ledger) (Err (NotImage file)) w w' k m s = stays w w' k s.4
  stepped (Crash flight store ledger) (Err Memory) w w' k m s = stays w w' k s
