-- That bodies have one graph.
use Rattle.std.proofs.Common.{◌≡◌, ℕ, Option, Some, None, List, refl, sym, ap, ◌∙◌, subst}
use Rattle.swh_base.specs.declared.name.Name.{Name}
use Rattle.swh_base.specs.Manifest.{AreChildren}
use Rattle.swh_base.proofs.Children.{one_list}
use Rattle.swh_model.specs.Archive.{Bodies, IsGraphOf}

some_same : (x z : List ℕ) → Some x ≡ Some z → x ≡ z
some_same x z e = cc

module _ (bodies : Bodies) (f g : Name → Option (List Name)) (is_f : IsGraphOf bodies f) (is_g : IsGraphOf bodies g) where
  held_or : (n : Name) (kids : List Name) → f n ≡ Some kids → g n ≡ None → ⊥
  held_or n kids has none = let held = is_f.held n kids has in let e : Some held.0 ≡ None = sym held.1 ∙ is_g.missing n none in cc

  or_held : (n : Name) (kids : List Name) → g n ≡ Some kids → f n ≡ None → ⊥
  or_held n kids has none = let held = is_g.held n kids has in let e : Some held.0 ≡ None = sym held.1 ∙ is_f.missing n none in cc

  same_kids : (n : Name) (kids others : List Name) → f n ≡ Some kids → g n ≡ Some others → kids ≡ others
  same_kids n kids others has also =
      let a = is_f.held n kids has in
      let b = is_g.held n others also in
      let body : a.0 ≡ b.0 = some_same a.0 b.0 (sym a.1 ∙ b.1) in
      one_list n.kind b.0 kids others (subst (λ (x : List ℕ). AreChildren n.kind x kids) body a.2) b.2

  same_at : (n : Name) (a b : Option (List Name)) → f n ≡ a → g n ≡ b → f n ≡ g n
  same_at n None None x z = x ∙ sym z
  same_at n None (Some others) x z = absurd (or_held n others z x)
  same_at n (Some kids) None x z = absurd (held_or n kids x z)
  same_at n (Some kids) (Some others) x z = x ∙ ap (λ (ns : List Name). Some ns) (same_kids n kids others x z) ∙ sym z

  pub one_graph : f ≡ g
  one_graph = λ i n. same_at n (f n) (g n) refl refl i
