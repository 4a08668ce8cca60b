use Rattle.swh_dirfmt.specs.Entries.{entry_of}
use Rattle.swh_fastcook.proofs.FileLengths.{line_folder, line_project, line_file}
use Rattle.swh_fastcook.proofs.weighed.line_bytes.Goals as goal

pub returns-then-entry-eq40000 : goal.returns-then-entry-eq40000
returns-then-entry-eq40000 c = line_folder c.args.marks.now (entry_of c.args.entry.now) c.if-entry-eq40000.true

pub returns-then-entry-eq160000 : goal.returns-then-entry-eq160000
returns-then-entry-eq160000 c = line_project c.args.marks.now (entry_of c.args.entry.now) c.project_bytes.result c.if-entry-eq40000.false c.if-entry-eq160000.true c.project_bytes.ensures

pub returns : goal.returns
returns c = line_file c.args.marks.now (entry_of c.args.entry.now) c.file_bytes.result c.get.result c.if-entry-eq40000.false c.if-entry-eq160000.false c.get.ensures c.file_bytes.ensures
