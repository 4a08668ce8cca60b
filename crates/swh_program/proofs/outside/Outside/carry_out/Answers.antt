use Rattle.std.proofs.Common.{rules, ◌≡◌, ℕ, List, Bor, sym, subst, ◌∙◌, ap, map, refl}
use Rattle.swh_words.specs.Words.{ToInit, ToAsk, ToCheck, wanted_by}
use Rattle.swh_program.specs.Commands.{NeedsNoYard}
use Rattle.swh_program.proofs.Does.{came}
use Rattle.swh_program.proofs.Ends.{safe}
use Rattle.swh_program.proofs.outside.Outside.carry_out.Goals as goal

pub returns-in-Init-clause-comes : goal.returns-in-Init-clause-comes
returns-in-Init-clause-comes g c =
    let i = c.init.ensures in
    came (ToInit c.in-Init.dir.now) _ _ _ (ap wanted_by (sym c.in-Init.is))
    (record {
      one_of = i.one_of;
      ends = i.ends;
      elsewhere = i.elsewhere;
      crash = λ told. safe g.N.Namer.id_of _ _ _ (i.ends told);
      spared = i.spared;
      own = λ told. i.own told g.N.Namer.id_of;
      cause = i.cause;
      left = record { desk = refl; origins = refl; clock = refl };
    })

pub returns-in-Check-clause-comes : goal.returns-in-Check-clause-comes
returns-in-Check-clause-comes g c =
    let r = c.read_archive-in-Check.ensures in
    came (ToCheck c.in-Check.dir.now) _ _ _ (ap wanted_by (sym c.in-Check.is))
    (record { one_of = r.one_of; ends = r.ends; elsewhere = r.elsewhere; own = r.own; cause = r.cause; left = record { desk = refl; origins = refl; clock = refl } })

pub returns-in-Ask-clause-comes : goal.returns-in-Ask-clause-comes
returns-in-Ask-clause-comes g c =
    let r = c.read_archive.ensures in
    let slice : c.as_slice.result.now ≡ c.in-Ask.paths.items = search rules in
    came (ToAsk c.in-Ask.dir.now (map (λ path. path.now) c.as_slice.result.now)) _ _ _
    (ap (λ (l : List (Bor (List ℕ))). ToAsk c.in-Ask.dir.now (map (λ path. path.now) l)) slice ∙ ap wanted_by (sym c.in-Ask.is))
    (record { one_of = r.one_of; ends = r.ends; elsewhere = r.elsewhere; own = r.own; cause = r.cause; left = record { desk = refl; origins = refl; clock = refl } })

pub returns-in-Cook-clause-yard : goal.returns-in-Cook-clause-yard
returns-in-Cook-clause-yard g c needs = absurd (subst NeedsNoYard (ap wanted_by c.in-Cook.is) needs)
