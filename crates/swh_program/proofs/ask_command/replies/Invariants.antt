use Rattle.std.proofs.Common.{map, take}
use Rattle.swh_replay.specs.Replay.{archive_of}
use Rattle.swh_program.specs.AskCommand.{TellsArchive}
use Rattle.swh_program.proofs.ask_command.replies.Given as goal

abbrev pub invariant-loop-path : goal.invariant-loop-path
invariant-loop-path g l = TellsArchive (map g.W.AsStr.text (take l.path-index l.paths)) (archive_of l.replayed) l.text l.ending
