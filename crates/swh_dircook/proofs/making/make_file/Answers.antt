use Rattle.swh_outside.specs.declared.fault.OutFault.TheVariants.{Failed}
use Rattle.swh_dircook.proofs.YardParts.{part_of_file}
use Rattle.swh_dircook.proofs.making.make_file.Goals as goal

pub returns-in-Err-clause-made : goal.returns-in-Err-clause-made
returns-in-Err-clause-made g c =
    part_of_file g.Y.Sink.tells (g.Y.Sink.begun c.args.yard.now) (g.Y.Sink.begun c.file.new.self) (g.Y.Sink.begun c.put.new.self) (g.Y.Sink.taken c.args.yard.now) (g.Y.Sink.taken c.file.new.self) (g.Y.Sink.taken c.put.new.self) c.args.path.now c.args.bytes.now Failed
    c.in_ok-file.ensures.made c.in_ok-file.ensures.same_taken c.in-Err.ensures.same_begun (λ told. (c.in-Err.ensures.bytes told).err)
