use Rattle.std.proofs.Common.{sym, ap, ◌∙◌, subst}
use Rattle.swh_folder_names.specs.Names.{names_of}
use Rattle.swh_outside.specs.Folder.{AreNames}
use Rattle.swh_memory_input.proofs.Trees.{names-equal}
use Rattle.swh_memory_input.proofs.folder.good_items.Goals as goal

pub returns-else-branch-clause-none : goal.returns-else-branch-clause-none
returns-else-branch-clause-none c = λ are.
    let same = sym (names-equal c.in_ok-copy.copy.items c.args.items.now c.in_ok-copy.ensures) ∙ ap names_of (sym c.deref.ensures.value) in
    let told = c.in_ok-are_names.ensures.1 (subst AreNames same are) in
    absurd (cc (told, c.if-branch.false))
