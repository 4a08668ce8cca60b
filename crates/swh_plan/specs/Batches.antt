-- What is new of a batch.
use Rattle.std.specs.Prelude.{◌≡◌, ◌⊎◌, Option, Some, None, List}
use Rattle.swh_base.specs.declared.name.Name.{Name}
use Rattle.swh_base.specs.declared.entry.Entry.{Entry}
use Rattle.swh_model.specs.Archive.{Bodies, body_of}
use Rattle.swh_store.specs.Entries.{bodies_in, IsPutIn}
use Rattle.swh_store.specs.Adding.{HasOther}
use Rattle.swh_store.specs.declared.adding.Standing.{Standing}
use Rattle.swh_store.specs.declared.adding.Standing.TheVariants.{New, Known, Other}

-- How an entry stands to what is held and to what is new before it: where it is new it joins the latter, and else nothing
-- changes.
abbrev pub TakesUp : Bodies → List Entry → List Entry → Entry → Standing → Type 0
TakesUp bodies before now e New = (body_of bodies e.name ≡ None) × IsPutIn before now e
TakesUp bodies before now e Known = ((body_of bodies e.name ≡ Some e.body) ⊎ (body_of (bodies_in before) e.name ≡ Some e.body)) × (now ≡ before)
TakesUp bodies before now e Other = (HasOther bodies e ⊎ HasOther (bodies_in before) e) × (now ≡ before)

-- the name that was found to have two bodies, or else that of an entry that stands so
abbrev pub first_collision : Option Name → Name → Standing → Option Name
first_collision (Some found) name standing = Some found
first_collision None name New = None
first_collision None name Known = None
first_collision None name Other = Some name
