use Rattle.std.proofs.Common.{refl, sym, subst}
use Rattle.swh_base.specs.Name.{IsIdText}
use Rattle.swh_base.proofs.Ids.{IsId-from_text, IsIdText-encode}
use Rattle.swh_fastlines.proofs.line_words.id_of.Goals as goal

pub returns-in-Some-clause-some : goal.returns-in-Some-clause-some
returns-in-Some-clause-some c =
    let named = c.in-Some.ensures.some in
    (named.1, IsId-from_text c.args.text.now c.in-Some.name.id (c.in-Some.ensures.found.0 refl) named.1)

pub returns-in-None-clause-none : goal.returns-in-None-clause-none
returns-in-None-clause-none c = λ id h. let yes = c.in-None.ensures.found.1 (subst IsIdText (sym h.0) (IsIdText-encode id h.1)) in cc
