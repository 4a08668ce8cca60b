use Rattle.std.proofs.Common.{rules}
use Rattle.swh_revfmt.specs.Reading.{release_spelled}
use Rattle.swh_revfmt.proofs.Plains.{no_release, of_directory, other_tag, other_release_rest}
use Rattle.swh_revfmt.proofs.plain.plain_rel.Goals as goal

pub returns-in_default-clause-none : goal.returns-in_default-clause-none
returns-in_default-clause-none c = no_release c.args.body.now c.in_default.ensures.err.broken

pub returns-then-is_directory-clause-none : goal.returns-then-is_directory-clause-none
returns-then-is_directory-clause-none c = of_directory c.args.body.now (release_spelled c.in-Ok.rel) c.in-Ok.ensures.ok (c.if-is_directory.ensures.0 (search rules))

pub returns-then-not-is_tag_name-clause-none : goal.returns-then-not-is_tag_name-clause-none
returns-then-not-is_tag_name-clause-none c =
    let told = c.if-not-is_tag_name.ensures in
    other_tag c.args.body.now (release_spelled c.in-Ok.rel) c.in-Ok.ensures.ok (λ h. let yes = told.1 h in let no = c.if-not-is_tag_name.true in cc)

pub returns-in_default-release_rest-clause-none : goal.returns-in_default-release_rest-clause-none
returns-in_default-release_rest-clause-none c = other_release_rest c.args.body.now (release_spelled c.in-Ok.rel) c.in-Ok.ensures.ok c.in_default-release_rest.ensures.none
