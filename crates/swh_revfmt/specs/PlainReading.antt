-- The parts of plain manifests without where they lie in memory.
use Rattle.swh_revfmt.specs.declared.plain.PlainRev.{PlainRev}
use Rattle.swh_revfmt.specs.declared.plain.PlainRel.{PlainRel}
use Rattle.swh_revfmt.specs.declared.rest.RevRest.{RevRest}
use Rattle.swh_revfmt.specs.declared.rest.RelRest.{RelRest}
use Rattle.swh_revfmt.specs.Plain.{RevisionRest, PlainRevision, ReleaseRest, PlainRelease}
use Rattle.std.specs.Option.{option_copied}

-- the parts of a plain revision, as the grammar's
abbrev pub plain_revision : PlainRev → PlainRevision
plain_revision p = record { directory = p.directory; parents = p.parents; rest = record { author = p.author; committer = p.committer; encoding = p.encoding; message = p.message } }

-- the parts of a plain release, as the grammar's
abbrev pub plain_release : PlainRel → PlainRelease
plain_release p = record { object = p.object; tag = p.tag; rest = record { tagger = p.tagger; message = p.message } }

-- the rest of a plain revision that stands in a body, as the grammar's
abbrev pub rev_rest : RevRest → RevisionRest
rev_rest r = record { author = r.author.now; committer = r.committer.now; encoding = option_copied r.encoding; message = r.message.now }

-- the rest of a plain release that stands in a body, as the grammar's
abbrev pub rel_rest : RelRest → ReleaseRest
rel_rest r = record { tagger = option_copied r.tagger; message = r.message.now }
