use Rattle.swh_words.proofs.Spelling as spelling
use Rattle.swh_words.proofs.laws.spelled_words.Goals as goal

pub returns : goal.returns
returns c = spelling.spelled_words
