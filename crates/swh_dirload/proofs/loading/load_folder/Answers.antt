use Rattle.swh_dirload.proofs.loading.load_folder.Goals as goal

pub returns-in-Some-clause-listing : goal.returns-in-Some-clause-listing
returns-in-Some-clause-listing g c = rw c.in-Some.is (c.load_listed.ensures.same_source, c.load_listed.ensures.later_source)

pub returns-in-Some-clause-cause : goal.returns-in-Some-clause-cause
returns-in-Some-clause-cause g c = rw c.in-Some.is c.load_listed.ensures.cause

pub returns-in-Some-clause-quiet_listing : goal.returns-in-Some-clause-quiet_listing
returns-in-Some-clause-quiet_listing g c = rw c.in-Some.is c.load_listed.ensures.quiet_source
