use Rattle.std.proofs.Common.{ℕ, List, [], refl, ap, subst}
use Rattle.swh_fastrows.specs.Places.{ReaderState, left, position}
use Rattle.swh_fastload.specs.Reading.{HasCome}
use Rattle.swh_fastload.proofs.Readings.{nothing_given, nothing_come}
use Rattle.swh_fastload.proofs.parts.StreamParts.new.Goals as goal

pub returns : goal.returns
returns g c =
    let place = c.new-reader.ensures.place in
    record {
      are = nothing_given g.N.Namer.id_of c.new-load.result [] c.new-load.ensures refl;
      come = λ told. subst (λ (t : List ℕ). HasCome g.N.Namer.id_of t (position c.new-reader.result.place c.new-reader.result.promised) c.new-load.result []) (ap left place) (nothing_come g.N.Namer.id_of c.new-reader.result.place c.new-reader.result.promised c.new-load.result [] (ap (λ (p : ReaderState). p.at) place) c.new-reader.ensures.promised c.new-load.ensures refl);
      still = c.new-reader.ensures.open;
      same_path = ap (λ (p : ReaderState). p.path) place;
      quiet = ap (λ (p : ReaderState). p.faults) place;
    }
