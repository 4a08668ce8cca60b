use Rattle.std.proofs.Common.{◌≡◌, ◌^◌, ◌-◌, ℕ, List, []}
use Rattle.swh_fastload.specs.Giving.{GoesOn}
use Rattle.swh_fastload.proofs.input.load_all.Given as goal

-- the objects so far are those of the parts so far
abbrev pub invariant-stream : goal.invariant-stream
invariant-stream g l = record {
  goes : (text : List ℕ) (faults : ℕ) (path : List ℕ) → GoesOn g.N.Namer.id_of g.S.Source.tells text faults path [] l.fn.parts → GoesOn g.N.Namer.id_of g.S.Source.tells text faults path l.objects.items l.parts;
  same_path : l.parts.standing.place.path ≡ l.fn.parts.standing.place.path;
  quiet : l.parts.standing.place.faults ≡ l.fn.parts.standing.place.faults;
}

abbrev pub decreases-stream : goal.decreases-stream
decreases-stream g l = 2 ^ 34 - l.parts.standing.place.at
