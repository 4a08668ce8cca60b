use Rattle.std.proofs.Common.{◌≡◌, ◌+◌, ◌<◌, ℕ, Bool, false, List, [], ◌∷◌, ◌++◌, Ok, Err, refl, sym, ap, ◌∙◌, arith, subst}
use Rattle.swh_outside.specs.Link.{LinkNote}
use Rattle.swh_outside.specs.Source.{Heard}
use Rattle.swh_serve.specs.Causes.{IsServeCause}
use Rattle.swh_serve.specs.Served.{Seen, seen}
use Rattle.swh_desk.specs.Links.{ServedAt, note_by, seen_of, nothing_noted}
use Rattle.swh_desk.proofs.InTurn.{note-same, seen-same}
use Rattle.swh_desk.proofs.links.serve_next.Goals as goal

pub returns-clause-turn : goal.returns-clause-turn
returns-clause-turn g c =
    let L : Type 0 = g.row.E-L.Denot in
    let law = g.met.E.L.Link g.world.𝓛 g.world.𝓜 g.world.𝓡 ((λ s x. x), (λ x. x), (λ x. x), λ x. x) in
    let note : L → LinkNote = note_by g.E.L.Source.given g.E.L.Source.ended g.E.L.Sink.taken g.E.L.Source.faults in
    let before : L = c.in-Ok.link in
    let served : L = c.serve_at_keeper-served.new.link in
    let left : L = c.finish.new.self in
    let H : L → Heard = λ l. record { left = g.E.L.Source.left l; given = g.E.L.Source.given l; ended = g.E.L.Source.ended l } in
    let heard : H left ≡ H served = sym (law.gets_stay left) ∙ c.finish.ensures.same_heard ∙ law.gets_stay served in
    let noted : note left ≡ note served =
    note-same (g.E.L.Source.given left) (g.E.L.Source.given served) (g.E.L.Source.ended left) (g.E.L.Source.ended served)
    (g.E.L.Sink.taken left) (g.E.L.Sink.taken served) (g.E.L.Source.faults left) (g.E.L.Source.faults served)
    (ap (λ (h : Heard). h.given) heard) (ap (λ (h : Heard). h.ended) heard) c.finish.ensures.same_taken c.finish.ensures.same_faults in
    let C : ℕ → Type 0 = λ n. IsServeCause n (g.E.L.Source.faults served) c.serve_at_keeper-served.result in (
      ServedAt c.in-Ok-now.date (note served) c.serve_at_keeper-served.result,
      c.ended_by.ensures,
      record {
        fresh = seen g.E.L.Source.given g.E.L.Source.ended g.E.L.Sink.taken before;
        nothing = λ tells.
            seen-same (g.E.L.Source.given before) [] (g.E.L.Source.ended before) false (g.E.L.Sink.taken before) []
            (c.in-Ok.ensures.nothing_given tells) (c.in-Ok.ensures.nothing_ended tells) (c.in-Ok.ensures.nothing_taken tells);
        served = c.serve_at_keeper-served.ensures.served;
        cause = subst C c.in-Ok.ensures.no_fault c.serve_at_keeper-served.ensures.cause;
      },
      λ tells.
          (let some : 0 < g.E.Doors.places c.accept.new.self = let place = c.in-Ok.ensures.place tells in omega (arith, place) in
          c.back-2.ensures.noted tells some ∙ ap (λ (l : List LinkNote). l ++ note left ∷ []) (c.in-Ok.ensures.same_back tells)
          ∙ ap (λ (n : LinkNote). g.E.Doors.given_back c.args.doors.now ++ n ∷ []) noted),
      λ tells. (c.in-Ok-now.ensures.value tells, c.now.ensures.next tells),
    )
