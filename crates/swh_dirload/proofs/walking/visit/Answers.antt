use Rattle.std.proofs.Common.{◌≡◌, ◌+◌, [], ◌∷◌, ◌++◌, List, length, map, sym, ap, ◌∙◌, subst, arith, length-append, rules}
use Rattle.swh_outside.specs.Listing.{listed}
use Rattle.swh_outside.specs.declared.folder.What.{What}
use Rattle.swh_dirload.specs.declared.found.Found.{Found}
use Rattle.swh_dirload.specs.Found.{path_in, paths_of, AreBelow, AreNamedBehind, found_in, items_under}
use Rattle.swh_dirload.specs.Walk.{Visits}
use Rattle.swh_dirload.proofs.Naming.{names_in_order, named_pass, named_enter}
use Rattle.swh_dirload.proofs.Tables.{below_more, below_append}
use Rattle.swh_dirload.proofs.Walks.{found_below, visits_folder, visits_file}
use Rattle.swh_dirload.proofs.walking.visit.Goals as goal
use Rattle.swh_dirload.proofs.walking.visit.Goals.{in-Folder+in_ok-items+in_ok-wait_first, in_default}

pub returns-clause-below : goal.returns-clause-below
returns-clause-below g c =
    let found = c.args.found.now.items in
    let now = c.push.new.self.items in
    let n : length now ≡ length found + 1 = ap length c.in_ok-push.ensures.items ∙ length-append found (c.args.next ∷ []) in
    let old : AreBelow (length now) c.args.waiting.now.items = below_more (length found) (length now) c.args.waiting.now.items (omega (arith, n)) c.requires.waiting in
    elim c.match-what.branch [
      | in-Folder+in_ok-items+in_ok-wait_first w ↦
          let items = w.in_ok-items.items.items in
          let waits : c.match-what.waiting.items ≡ map (found_in (length found)) items ++ c.args.waiting.now.items = search rules in
          subst (AreBelow (length now)) (sym waits) (below_append (length now) (map (found_in (length found)) items) c.args.waiting.now.items (found_below (length found) (length now) items (omega (arith, n))) old)
      | in_default w ↦
          let waits : c.match-what.waiting.items ≡ c.args.waiting.now.items = search rules in
          subst (AreBelow (length now)) (sym waits) old
    ]

pub returns-clause-visits : goal.returns-clause-visits
returns-clause-visits g c = λ tells.
    let found = c.args.found.now.items in
    let waiting = c.args.waiting.now.items in
    let tree = g.F.Folder.holds c.args.folder.now in
    elim c.match-what.branch [
      | in-Folder+in_ok-items+in_ok-wait_first w ↦
          let items = w.in_ok-items.items.items in
          let waits : c.match-what.waiting.items ≡ map (found_in (length found)) items ++ waiting = search rules in
          let named : w.as_str.result.now ≡ path_in (paths_of found) c.args.next = search rules in
          subst (λ (what : What). Visits tree (path_in (paths_of found) c.args.next) what (items_under (paths_of found) waiting) (items_under (paths_of c.push.new.self.items) c.match-what.waiting.items)) (sym w.in-Folder.is)
          (visits_folder tree found c.args.next items waiting c.push.new.self.items c.match-what.waiting.items w.as_str.result.now c.requires.waiting c.in_ok-push.ensures.items waits named (w.in_ok-items.ensures.items tells))
      | in_default w ↦
          let waits : c.match-what.waiting.items ≡ waiting = search rules in
          visits_file tree found c.args.next waiting c.push.new.self.items c.match-what.waiting.items c.requires.waiting c.in_ok-push.ensures.items waits w.in_default.not-Folder c.in_ok-path.ensures.ok.1.0
    ]

pub returns-clause-named : goal.returns-clause-named
returns-clause-named g c =
    let found = c.args.found.now.items in
    let waiting = c.args.waiting.now.items in
    let pushed = c.in_ok-push.ensures.items in
    elim c.match-what.branch [
      | in-Folder+in_ok-items+in_ok-wait_first w ↦
          let items = w.in_ok-items.items.items in
          let waits : c.match-what.waiting.items ≡ map (found_in (length found)) items ++ waiting = search rules in
          let now = named_enter found c.args.next waiting items c.requires.placed c.requires.next c.requires.waiting c.requires.named (names_in_order (map listed items) w.in_ok-items.ensures.order) in
          subst (λ (fs : List Found). AreNamedBehind (fs ++ c.match-what.waiting.items)) (sym pushed) (subst (λ (ws : List Found). AreNamedBehind ((found ++ c.args.next ∷ []) ++ ws)) (sym waits) now)
      | in_default w ↦
          let waits : c.match-what.waiting.items ≡ waiting = search rules in
          subst (λ (fs : List Found). AreNamedBehind (fs ++ c.match-what.waiting.items)) (sym pushed) (subst (λ (ws : List Found). AreNamedBehind ((found ++ c.args.next ∷ []) ++ ws)) (sym waits) (named_pass found c.args.next waiting c.requires.named))
    ]
