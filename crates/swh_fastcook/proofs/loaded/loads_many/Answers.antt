use Rattle.std.proofs.Common.{◌≡◌, inl, inr, length, arith}
use Rattle.swh_fastcook.proofs.Loads.{content_few, directory_few, revision_few}
use Rattle.swh_fastcook.proofs.loaded.loads_many.Goals as goal

pub returns-in-Content : goal.returns-in-Content
returns-in-Content g c =
    let bodies = (g.L.Look.archive c.args.look.now).bodies in
    let twenty : length c.args.root.id ≡ 20 = omega arith in (
      λ told. cc,
      λ h. absurd (elim c.in-Content.is [
        | inl content ↦ content_few bodies c.args.order.now c.args.root content h
        | inr other ↦ elim other [
          | inl directory ↦ directory_few bodies c.args.order.now c.args.root directory h
          | inr revision ↦ revision_few bodies c.args.order.now c.args.root twenty revision h
        ]
      ]),
    )
