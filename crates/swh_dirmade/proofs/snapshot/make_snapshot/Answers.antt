use Rattle.std.proofs.Common.{◌∷◌, [], ℕ, List, length, Contains, refl, sym, ap, ◌∙◌, subst, arith}
use Rattle.std.specs.List.{filter_map}
use Rattle.swh_base.specs.declared.name.Name.{Name}
use Rattle.swh_base.specs.Manifest.{AreChildren}
use Rattle.swh_base.specs.Snapshot.{AreBranches, IsSnapshot, branch_child}
use Rattle.swh_model.specs.Meaning.{Made}
use Rattle.swh_dedup.specs.Making.{made, names_of_made}
use Rattle.swh_dirmade.specs.Making.{directory_name}
use Rattle.swh_dirmade.specs.Snapshots.{head}
use Rattle.swh_dirmade.proofs.Heads.{head_good, head_short, head_kids}
use Rattle.swh_dirmade.proofs.snapshot.make_snapshot.Goals as goal

pub of-requires : goal.of-requires
of-requires g c = subst AreBranches (sym c.in_ok-list.ensures) (head_good c.whole_id-root.result c.whole_id-root.ensures.id.0)

pub make_object-requires-after_bounds : goal.make_object-requires-after_bounds
make_object-requires-after_bounds g c κs within =
    let branches = head c.whole_id-root.result ∷ [] in
    (filter_map branch_child branches, record { branches = branches; is = subst (IsSnapshot c.in_ok-body.body.items) (c.of.ensures ∙ c.in_ok-list.ensures) c.in_ok-body.ensures.snapshot; kids = refl })

pub give-requires-after_bounds : goal.give-requires-after_bounds
give-requires-after_bounds g c κs within =
    let root = c.whole_id-root.result in
    let names = names_of_made g.N.Namer.id_of (made c.args.given.now) in
    head_kids names c.in-Ok.object.kids c.in_ok-body.body.items root (subst (IsSnapshot c.in_ok-body.body.items) (c.of.ensures ∙ c.in_ok-list.ensures) c.in_ok-body.ensures.snapshot)
    (subst (λ (k : List ℕ). Contains names (directory_name k)) (sym c.whole_id-root.ensures.same) c.requires)
    (subst (λ (m : Made). AreChildren m.kind m.body c.in-Ok.object.kids) c.in-Ok.ensures.ok c.in-Ok.ensures.object.kids)

pub unreachable-requires : goal.unreachable-requires
unreachable-requires g c =
    let root = c.whole_id-root.result in
    let is : IsSnapshot c.in_ok-body.body.items (head root ∷ []) = subst (IsSnapshot c.in_ok-body.body.items) (c.of.ensures ∙ c.in_ok-list.ensures) c.in_ok-body.ensures.snapshot in
    let short = head_short root c.whole_id-root.ensures.id.0 in
    let long = ap length is.text in
    let h = rw c.in-Err-TooLong.field-0-is at c.in-Err-TooLong.ensures.err in
    let count = h.0 in
    let above = h.1 in
    absurd (omega (arith, short, long, count, above))

pub returns-in_ok-give-in-Ok : goal.returns-in_ok-give-in-Ok
returns-in_ok-give-in-Ok g c =
    let id = g.N.Namer.id_of in
    let root = c.whole_id-root.result in
    record {
      body = c.in_ok-body.body.items;
      is = subst (λ (k : List ℕ). IsSnapshot c.in_ok-body.body.items (head k ∷ [])) c.whole_id-root.ensures.same (subst (IsSnapshot c.in_ok-body.body.items) (c.of.ensures ∙ c.in_ok-list.ensures) c.in_ok-body.ensures.snapshot);
      named = c.whole_id-id.ensures.same ∙ ap (λ (n : Name). n.id) c.name.ensures.name ∙ c.in-Ok.ensures.object.named ∙ ap (λ (m : Made). id m.kind m.body) c.in-Ok.ensures.ok;
      object = c.in-Ok.object;
      made = c.in-Ok.ensures.ok;
      gives = c.in_ok-give-in-Ok.ensures;
    }
