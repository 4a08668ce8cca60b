use Rattle.swh_fastwrite.proofs.Pieces.{put_front}
use Rattle.swh_fastwrite.proofs.sinks.AnyTaker.take.Goals as goal

pub returns-clause-err : goal.returns-clause-err
returns-clause-err g c =
    let e = c.put.ensures in
    put_front g.K.Sink.tells g.K.Sink.taken g.K.Sink.begun g.K.Sink.heard c.args.self.now c.put.new.self c.args.bytes.now e.same_begun
    e.same_heard c.put.result e.bytes
