use Rattle.swh_fastgrammar.proofs.Examples.{blob_alone}
use Rattle.swh_fastgrammar.proofs.worked.one_blob.Goals as goal

pub returns : goal.returns
returns c = blob_alone
