use Rattle.std.proofs.Common.{◌≡◌, ◌+◌, refl, arith}
use Rattle.swh_dirload.proofs.reading.name_item.Goals as goal

pub returns-in-File-clause-read : goal.returns-in-File-clause-read
returns-in-File-clause-read g c = λ tells old. rw c.in-File.is (c.name_content.ensures.read tells old)

pub returns-in-Folder-clause-read : goal.returns-in-Folder-clause-read
returns-in-Folder-clause-read g c = λ tells old.
    let none : c.args.total ≡ c.args.total + 0 = omega arith in
    rw c.in-Folder.is (old, 0, none, (refl, refl, refl))

pub returns-in-Folder-clause-held : goal.returns-in-Folder-clause-held
returns-in-Folder-clause-held g c = λ old. (old, λ m given. given, tt)
