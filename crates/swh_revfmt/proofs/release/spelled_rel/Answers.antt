use Rattle.std.proofs.Common.{◌≡◌, ◌+◌, ◌-◌, ◌++◌, ℕ, List, length, codes, sym, ap, ◌∙◌, subst, arith, length-append}
use Rattle.swh_base.specs.declared.kind.Kind.TheVariants.{Release}
use Rattle.swh_base.specs.Revision.{id_line}
use Rattle.swh_revfmt.specs.Fault.{IsRevFault}
use Rattle.swh_revfmt.specs.Reading.{type_text}
use Rattle.swh_revfmt.proofs.Faults.{release_fault, type_fault, tag_fault}
use Rattle.swh_revfmt.proofs.release.spelled_rel.Goals as goal

pub returns-in_default-clause-err : goal.returns-in_default-clause-err
returns-in_default-clause-err c = release_fault c.args.body.now c.line_place-at.result c.in_default.ensures.none c.line_place-at.ensures

pub returns-in-Err-clause-err : goal.returns-in-Err-clause-err
returns-in-Err-clause-err c =
    let line = c.in-Some.ensures.some in
    let front : List ℕ = id_line (codes "object ") c.in-Some.line.id in
    let size : length front + c.in-Err.place ≡ length c.args.body.now - length c.in-Some.line.rest.now + c.in-Err.place = omega (arith, ap length line.1, length-append front c.in-Some.line.rest.now) in
    let fault = type_fault c.in-Some.line.id c.in-Some.line.rest.now c.in-Err.place line.0 c.in-Err.ensures.err in
    subst (λ (n : ℕ). IsRevFault Release c.args.body.now n) size (subst (λ (body : List ℕ). IsRevFault Release body (length front + c.in-Err.place)) (sym line.1) fault)

pub returns-in_default-split_at_byte-clause-err : goal.returns-in_default-split_at_byte-clause-err
returns-in_default-split_at_byte-clause-err c =
    let line = c.in-Some.ensures.some in
    let front : List ℕ = id_line (codes "object ") c.in-Some.line.id in
    let whole : c.args.body.now ≡ front ++ (type_text c.in-Ok.found.0 ++ c.in-Ok.found.1.now) = line.1 ∙ ap (λ (t : List ℕ). front ++ t) c.in-Ok.ensures.text in
    tag_fault c.args.body.now c.in-Some.line.id c.in-Ok.found.1.now c.in-Ok.found.0 line.0 c.in-Ok.ensures.kind whole c.in_default-split_at_byte.ensures.none
