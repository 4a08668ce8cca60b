use Rattle.std.proofs.Common.{List, ℕ, sym, ◌∙◌, subst}
use Rattle.std.proofs.lemmas.Result.{err_from_is_err_and}
use Rattle.swh_base.specs.declared.kind.Kind.TheVariants.{Release}
use Rattle.swh_base.specs.Manifest.{IsWellFormed}
use Rattle.swh_fastmeaning.specs.Commands.{release_parts}
use Rattle.swh_dedup.specs.Making.{object_of}
use Rattle.swh_fastmeaning.specs.Stock.{GivesOwn}
use Rattle.swh_dedup.specs.Giving.{IsReady}
use Rattle.swh_fastmeaning.specs.Tips.{aim_of}
use Rattle.swh_fastmeaning.specs.Parting.{stock_of, ExplainsBody}
use Rattle.swh_fastmeaning.proofs.AimForms.{object_among}
use Rattle.swh_fastmeaning.proofs.Tags.{named_id, release_good, release_ready, tag_missing, tag_refused, tag_leads}
use Rattle.swh_fastload.proofs.feeding.feed_tag.Goals as goal

pub returns-in_err-found-clause-err : goal.returns-in_err-found-clause-err
returns-in_err-found-clause-err g c =
    let p = err_from_is_err_and c.from_residual.result c.from_residual.ensures.1 in
    rw (p.1, p.2) (tag_missing g.N.Namer.id_of (stock_of c.args.parts.now) c.requires.stocked c.args.tag.now c.args.mark c.args.target.now c.args.tagger c.args.message c.in_err-found.field-0.0 c.in_err-found.ensures.err)

pub release_body-requires : goal.release_body-requires
release_body-requires g c =
    let s = stock_of c.args.parts.now in
    (object_among g.N.Namer.id_of s.grove.made s.given s.aims c.args.target.now.at c.args.target.now.it (aim_of c.in_ok-found.found) c.requires.stocked.among c.in_ok-found.ensures.ok).kind

pub give_own-requires-clause-body : goal.give_own-requires-clause-body
give_own-requires-clause-body g c κs within =
    let s = stock_of c.args.parts.now in
    let i = object_among g.N.Namer.id_of s.grove.made s.given s.aims c.args.target.now.at c.args.target.now.it (aim_of c.in_ok-found.found) c.requires.stocked.among c.in_ok-found.ensures.ok in
    let p = release_parts c.in_ok-found.found.name c.args.tag.now c.args.tagger c.args.message in
    subst (IsWellFormed Release) (sym c.in_ok-body.ensures) (release_good g.N.Namer.id_of p (named_id g.N.Namer.id_of s.given p.object c.requires.stocked.ids i.named) i.kind c.requires.name.ref)

pub give_own-requires-clause-ready : goal.give_own-requires-clause-ready
give_own-requires-clause-ready g c κs within =
    let s = stock_of c.args.parts.now in
    let i = object_among g.N.Namer.id_of s.grove.made s.given s.aims c.args.target.now.at c.args.target.now.it (aim_of c.in_ok-found.found) c.requires.stocked.among c.in_ok-found.ensures.ok in
    let p = release_parts c.in_ok-found.found.name c.args.tag.now c.args.tagger c.args.message in
    subst (λ (b : List ℕ). IsReady g.N.Namer.id_of s.given (object_of Release b)) (sym c.in_ok-body.ensures) (release_ready g.N.Namer.id_of s.given p i.named i.kind c.requires.name.ref)

pub returns-in_err-own-clause-err : goal.returns-in_err-own-clause-err
returns-in_err-own-clause-err g c =
    let p = err_from_is_err_and c.from_residual-in_err-own.result c.from_residual-in_err-own.ensures.1 in
    let b = subst (λ (t : List ℕ). ExplainsBody t c.in_err-own.field-0.0) c.in_ok-body.ensures c.in_err-own.ensures.err in
    rw (p.1, p.2) (tag_refused g.N.Namer.id_of (stock_of c.args.parts.now) c.requires.stocked c.args.tag.now c.args.mark c.args.target.now c.args.tagger c.args.message (aim_of c.in_ok-found.found) c.in_err-own.field-0.0 c.in_ok-found.ensures.ok b)

pub returns-clause-ok : goal.returns-clause-ok
returns-clause-ok g c =
    let own = subst (λ (t : List ℕ). GivesOwn g.N.Namer.id_of (object_of Release t) c.args.parts.now.seen c.give_own.new.seen (aim_of c.in_ok-own.own) c.in_ok-own.objects.items) c.in_ok-body.ensures c.in_ok-own.ensures.ok in
    tag_leads g.N.Namer.id_of (stock_of c.args.parts.now) c.requires.stocked c.args.tag.now c.args.mark c.args.target.now c.args.tagger c.args.message (aim_of c.in_ok-found.found) (aim_of c.in_ok-own.own) c.give_own.new.seen c.set_both.new.self _ c.in_ok-own.objects.items
    c.requires.name c.in_ok-found.ensures.ok own (c.as_slice.ensures.value ∙ c.in_ok-branch.ensures) c.in_ok-set_both.ensures
