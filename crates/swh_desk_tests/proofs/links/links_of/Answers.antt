use Rattle.std.proofs.Common.{rules, ◌≡◌, List, [], ◌∷◌, ◌++◌, sym, subst}
use Rattle.std.specs.List.{All}
use Rattle.std.proofs.lemmas.List.Elements.{All-push}
use Rattle.swh_memory_input.specs.declared.link.MemoryLink.{MemoryLink}
use Rattle.swh_memory_input.specs.Links.{IsUnused}
use Rattle.swh_desk_tests.proofs.links.links_of.Goals as goal

pub texts-preserved : goal.texts-preserved
texts-preserved c =
    let P : List MemoryLink → Type 0 = λ links. All IsUnused links in
    let unused : IsUnused c.in_ok-link.link = search rules in
    let pushed : c.push.new.self.items ≡ c.texts.links.items ++ c.in_ok-link.link ∷ [] = search rules in
    subst P (sym pushed) (All-push IsUnused c.texts.links.items c.in_ok-link.link c.texts.invariant unused)
