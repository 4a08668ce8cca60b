use Rattle.std.proofs.Common.{ℕ, max, sym, ap, ◌∙◌, subst}
use Rattle.swh_revfmt.specs.Reading.{IsTypePlace}
use Rattle.swh_revfmt.proofs.TypePlaces.{type_place}
use Rattle.swh_revfmt.proofs.release.kind_from.Goals as goal

pub returns-clause-err : goal.returns-clause-err
returns-clause-err c =
    let revision = c.in-Err.ensures.err in
    let directory = c.in-Err-behind_type.ensures.err in
    let content = c.in-Err-behind_type-2.ensures.err in
    let release = c.in-Err-behind_type-3.ensures.err in
    let most = c.max-3.ensures ∙ ap (λ (n : ℕ). max n c.max-2.result) c.max.ensures ∙ ap (λ (n : ℕ). max (max c.in-Err.place c.in-Err-behind_type.place) n) c.max-2.ensures in
    subst (IsTypePlace c.args.bytes.now) (sym most)
    (type_place c.args.bytes.now c.in-Err.place c.in-Err-behind_type.place c.in-Err-behind_type-2.place c.in-Err-behind_type-3.place
    (record { common = revision.0; part = revision.1 }) (record { common = directory.0; part = directory.1 }) (record { common = content.0; part = content.1 }) (record { common = release.0; part = release.1 }))
