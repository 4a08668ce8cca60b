use Rattle.std.proofs.Common.{◌≡◌, ℕ, ◌+◌, List, [], ◌∷◌, ◌++◌, length, sym, ap, ◌∙◌, subst, arith, length-append, rules}
use Rattle.swh_dirload.specs.declared.found.Found.{Found}
use Rattle.swh_dirload.specs.Found.{path_in, paths_of, items_of, ArePlaced, AreBelow, items_under, IsPlaced}
use Rattle.swh_dirload.specs.Walk.{root, Visits, Takes, AllFit, ExplainsWalk}
use Rattle.swh_dirload.proofs.Tables.{placed_push}
use Rattle.swh_dirload.proofs.Walks.{takes_found, fit_found, below_placed, explains_walk}
use Rattle.swh_dirload.proofs.walking.walk.Goals as goal

pub items-preserved : goal.items-preserved
items-preserved g c =
    let inv = c.items.invariant in
    let found = c.items.found.items in
    let next = c.in-Some.next in
    let left = c.pop_front.new.self.items in
    let now = c.visit-in-items.new.found.items in
    let tree = g.F.Folder.holds c.args.folder.now in
    let popped : c.items.waiting.items ≡ next ∷ left = c.in-Some.ensures.items in
    let below : AreBelow (length found) (next ∷ left) = subst (AreBelow (length found)) popped inv.below in
    let pushed : now ≡ found ++ next ∷ [] = c.in_ok-visit-2.ensures.found in
    let zeroed : 0 + length found ≡ length found = omega arith in
    let counted = inv.count in
    record {
      count = omega (arith, counted, ap length pushed, length-append found (next ∷ []));
      placed = subst (ArePlaced 0) (sym pushed) (placed_push 0 found next inv.placed (subst (λ (k : ℕ). IsPlaced k next) (sym zeroed) (below_placed (length found) next below.0)));
      below = c.in_ok-visit-2.ensures.below;
      named = c.in_ok-visit-2.ensures.named;
      fit = subst (λ (fs : List Found). AllFit (items_of fs)) (sym pushed) (fit_found found next inv.fit c.in_ok-visit-2.ensures.fits);
      same = λ tells. c.in_ok-visit-2.ensures.same tells ∙ inv.same tells;
      takes = λ tells.
          let waits : Takes tree (root ∷ []) (items_of found) (items_under (paths_of found) (next ∷ left)) = subst (λ (ws : List Found). Takes tree (root ∷ []) (items_of found) (items_under (paths_of found) ws)) popped (inv.takes tells) in
          let later = items_under (paths_of now) c.visit-in-items.new.waiting.items in
          let visits : Visits tree (path_in (paths_of found) next) next.what (items_under (paths_of found) left) later = subst (λ t. Visits t (path_in (paths_of found) next) next.what (items_under (paths_of found) left) later) (inv.same tells) (c.in_ok-visit-2.ensures.visits tells) in
          subst (λ (fs : List Found). Takes tree (root ∷ []) (items_of fs) later) (sym pushed) (takes_found tree found next left later waits visits);
      same_path = c.in_ok-visit-2.ensures.on.same_path ∙ inv.same_path;
      quiet = c.in_ok-visit-2.ensures.on.quiet (λ h. cc) ∙ inv.quiet;
    }

pub returns-in_err-visit-2-clause-err : goal.returns-in_err-visit-2-clause-err
returns-in_err-visit-2-clause-err g c = λ tells.
    let inv = c.items.invariant in
    let found = c.items.found.items in
    let next = c.in-Some.next in
    let left = c.pop_front.new.self.items in
    let tree = g.F.Folder.holds c.args.folder.now in
    let waits : Takes tree (root ∷ []) (items_of found) (items_under (paths_of found) (next ∷ left)) = subst (λ (ws : List Found). Takes tree (root ∷ []) (items_of found) (items_under (paths_of found) ws)) c.in-Some.ensures.items (inv.takes tells) in
    let explained : ExplainsWalk tree c.in_err-visit-2.field-0.0 = explains_walk tree (path_in (paths_of found) next) next.what (items_of found) (items_under (paths_of found) left) c.in_err-visit-2.field-0.0 waits inv.fit c.in_err-visit-2.ensures.err in
    search rules
