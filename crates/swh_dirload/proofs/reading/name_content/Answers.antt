use Rattle.std.proofs.Common.{◌≡◌, ◌∷◌, [], ◌++◌, inr, length, refl, ap, ◌∙◌, rules}
use Rattle.swh_base.specs.declared.kind.Kind.TheVariants.{Content}
use Rattle.swh_dirmade.proofs.Built.{grows}
use Rattle.swh_dirmade.specs.declared.member.Member.TheVariants as stands
use Rattle.swh_outside.specs.declared.folder.What.TheVariants.{File}
use Rattle.swh_dirload.specs.Reading.{ExplainsRead}
use Rattle.swh_dirload.proofs.Helds.{content_entry, gives_content, holds_content}
use Rattle.swh_dirload.proofs.reading.name_content.Goals as goal

pub returns-in_err-bytes-clause-err : goal.returns-in_err-bytes-clause-err
returns-in_err-bytes-clause-err g c = λ tells.
    let id = g.N.Namer.id_of in
    let broken : ExplainsRead id (g.F.Folder.holds c.args.folder.now) c.args.total c.args.path.now File c.in_err-bytes.field-0.0 = c.in_err-bytes.ensures.err tells id in
    search rules

pub returns-clause-read : goal.returns-clause-read
returns-clause-read g c = λ tells old.
    let id = g.N.Namer.id_of in
    let bytes = c.in_ok-bytes.bytes.items in
    let read = c.in_ok-bytes.ensures in
    let own : c.id-id.result ≡ id Content bytes = c.id-id.ensures ∙ ap (id Content) c.as_slice.ensures.value in
    (old ++ content_entry id bytes ∷ [], length bytes, read.count, (bytes, read.has tells, refl, ap (stands.File 100644) own, gives_content id old bytes))

pub returns-clause-held : goal.returns-clause-held
returns-clause-held g c = λ old.
    let id = g.N.Namer.id_of in
    let bytes = c.in_ok-bytes.bytes.items in
    let object = content_entry id bytes in
    let own : c.id-id.result ≡ id Content bytes = c.id-id.ensures ∙ ap (id Content) c.as_slice.ensures.value in
    (old ++ object ∷ [], λ m k. grows old (old ++ object ∷ []) object (inr refl) m k, holds_content id old bytes (old ++ object ∷ []) c.id-id.result own (gives_content id old bytes))
