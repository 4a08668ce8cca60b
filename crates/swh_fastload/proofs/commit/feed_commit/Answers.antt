use Rattle.std.proofs.Common.{ℕ, List, ap, sym, ◌∙◌, subst}
use Rattle.std.proofs.lemmas.Result.{err_from_is_err_and}
use Rattle.swh_base.specs.declared.kind.Kind.TheVariants.{Revision}
use Rattle.swh_base.specs.Name.{IsId}
use Rattle.swh_base.specs.Manifest.{IsWellFormed}
use Rattle.swh_revfmt.specs.Plain.{plain_revision_text}
use Rattle.swh_forest.specs.Roots.{IsBelow}
use Rattle.swh_fastmeaning.specs.Commands.{revision_parts}
use Rattle.swh_fastload.specs.Committing.{GivesCommit, commit_made, rest_of}
use Rattle.swh_fastmeaning.specs.Parting.{stock_of, ExplainsBody}
use Rattle.swh_dedup.specs.Giving.{AreReady}
use Rattle.swh_fastload.proofs.ParentsFound.{first_among}
use Rattle.swh_fastload.proofs.CommitsLed.{body_good, all_ready, commit_refused, commit_leads}
use Rattle.swh_fastload.proofs.commit.feed_commit.Goals as goal

pub prepare-requires-clause-aims : goal.prepare-requires-clause-aims
prepare-requires-clause-aims g c κs within a e =
    let s = stock_of c.args.parts.now in
    subst (λ (n : ℕ). IsBelow n a.tree.number) c.requires.stocked.trees.whole (first_among g.N.Namer.id_of s.grove.made s.given s.aims c.requires.stocked.among c.args.commit.now.branch c.args.commit.now.parent a e).0.tree

pub returns-in_err-prepared-clause-err : goal.returns-in_err-prepared-clause-err
returns-in_err-prepared-clause-err g c =
    let p = err_from_is_err_and c.from_residual.result c.from_residual.ensures.1 in
    rw (p.1, p.2) (c.in_err-prepared.ensures.err c.args.text)

pub give_commit-requires-clause-body : goal.give_commit-requires-clause-body
give_commit-requires-clause-body g c κs within =
    let p = c.in_ok-prepared.prepared in
    let e = c.in_ok-body.ensures ∙ ap (λ (r : List ℕ). plain_revision_text (revision_parts r p.parents.items (rest_of c.args.text))) c.whole_id-root.ensures.same in
    subst (IsWellFormed Revision) (sym e) (body_good g.N.Namer.id_of (stock_of c.args.parts.now) c.requires.stocked c.args.commit.now c.args.text c.prepare.new.trees p c.in_ok-prepared.ensures.ok c.requires.changes (subst IsId c.whole_id-root.ensures.same c.whole_id-root.ensures.id))

pub give_commit-requires-clause-ready : goal.give_commit-requires-clause-ready
give_commit-requires-clause-ready g c κs within =
    let p = c.in_ok-prepared.prepared in
    let e = c.in_ok-body.ensures ∙ ap (λ (r : List ℕ). plain_revision_text (revision_parts r p.parents.items (rest_of c.args.text))) c.whole_id-root.ensures.same in
    subst (λ (b : List ℕ). AreReady g.N.Namer.id_of c.args.parts.now.seen (commit_made p.contents.items p.made.objects.items b)) (sym e)
    (all_ready g.N.Namer.id_of (stock_of c.args.parts.now) c.requires.stocked c.args.commit.now c.args.text c.prepare.new.trees p c.in_ok-prepared.ensures.ok c.requires.changes)

pub returns-in_err-name-clause-err : goal.returns-in_err-name-clause-err
returns-in_err-name-clause-err g c =
    let q = err_from_is_err_and c.from_residual-in_err-name.result c.from_residual-in_err-name.ensures.1 in
    let p = c.in_ok-prepared.prepared in
    let e = c.in_ok-body.ensures ∙ ap (λ (r : List ℕ). plain_revision_text (revision_parts r p.parents.items (rest_of c.args.text))) c.whole_id-root.ensures.same in
    rw (q.1, q.2) (commit_refused g.N.Namer.id_of (stock_of c.args.parts.now) c.requires.stocked c.args.commit.now c.args.text c.prepare.new.trees p c.in_ok-prepared.ensures.ok c.requires.changes c.in_err-name.field-0.0
    (subst (λ (b : List ℕ). ExplainsBody b c.in_err-name.field-0.0) e c.in_err-name.ensures.err))

pub returns-clause-ok : goal.returns-clause-ok
returns-clause-ok g c =
    let p = c.in_ok-prepared.prepared in
    let e = c.in_ok-body.ensures ∙ ap (λ (r : List ℕ). plain_revision_text (revision_parts r p.parents.items (rest_of c.args.text))) c.whole_id-root.ensures.same in
    let gives = subst (λ (b : List ℕ). GivesCommit g.N.Namer.id_of (commit_made p.contents.items p.made.objects.items b) b c.args.parts.now.seen c.give_commit.new.seen c.in_ok-name.name c.in_ok-name.objects.items) e c.in_ok-name.ensures.ok in
    let aims = rw c.as_slice.ensures at c.in_ok-set_both.ensures in
    commit_leads g.N.Namer.id_of (stock_of c.args.parts.now) c.requires.stocked c.args.commit.now c.args.text c.prepare.new.trees p c.in_ok-prepared.ensures.ok c.requires.changes c.give_commit.new.seen c.in_ok-name.objects.items gives.gives c.set_both.new.self c.in_ok-name.name
    c.requires.branch gives.named aims
