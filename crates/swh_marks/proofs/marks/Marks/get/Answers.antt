use Rattle.std.proofs.Common.{◌≡◌, ◌+◌, ◌∙◌, List, sym, subst}
use Rattle.std.specs.Prelude.{Contains}
use Rattle.swh_base.specs.declared.name.Name.{Name}
use Rattle.swh_marks.specs.Marks.{mark_of}
use Rattle.swh_marks.specs.Others.{AreOthers}
use Rattle.swh_marks.proofs.Marked.{place_of, written_there}
use Rattle.swh_marks.proofs.marks.Marks.get.Goals as goal

pub place_among-requires-clause-there : goal.place_among-requires-clause-there
place_among-requires-clause-there c =
    let m = c.self.inside in
    let name = c.args.name.now in
    subst (λ (names : List Name). Contains names name) (sym (c.as_slice-marked.ensures.value ∙ c.self.invariant.1))
    (written_there m.order.items name (subst (λ (order : List Name). Contains order name) (sym c.self.view_is) c.requires.there) c.requires.written)

pub place_among-requires-clause-others : goal.place_among-requires-clause-others
place_among-requires-clause-others c =
    let m = c.self.inside in
    subst (λ (names : List Name). AreOthers m.places names names m.others) (sym c.as_slice-marked.ensures.value) c.self.invariant.2

pub returns : goal.returns
returns c =
    let m = c.self.inside in
    let name = c.args.name.now in
    let less = rw c.as_slice-marked.ensures.value at c.place_among.ensures.less in
    let there = rw c.as_slice-marked.ensures.value at c.place_among.ensures.there in
    subst (λ (order : List Name). c.place_among.result + 1 ≡ mark_of order name) c.self.view_is
    (place_of m.order.items m.marked.items c.place_among.result name name c.self.invariant.0 c.self.invariant.1 less there)
