use Rattle.std.proofs.Common.{◌≡◌, ℕ, List, ◌++◌, ap, ◌∙◌, subst, append_assoc, codes}
use Rattle.std.specs.Prelude.{◌↔◌, IsTrue}
use Rattle.std.proofs.lemmas.Result.{on_ok_weaker}
use Rattle.swh_base.specs.declared.name.Name.{Name}
use Rattle.swh_fastcook.specs.Ends.{HasRevision, end_or_none, main_tip}
use Rattle.swh_fastcook.proofs.ends.push_object_end.Goals as goal

pub returns : goal.returns
returns c =
    let leaves = c.has_revision-leaves.result in
    let last = end_or_none leaves ++ codes "done\n" in
    on_ok_weaker c.push_last.result
    (λ (is : c.push_last.new.held.items ≡ c.push_main.new.held.items ++ last). (
      leaves,
      subst (λ (ns : List Name). IsTrue leaves ↔ HasRevision ns) c.order.ensures c.has_revision-leaves.ensures,
      is ∙ ap (λ (l : List ℕ). l ++ last) c.in_ok-push_main.ensures ∙ append_assoc c.args.held.now.items (main_tip c.args.marks.now c.args.root c.args.root.kind) last,
    ))
    c.push_last.ensures
