use Rattle.swh_words.proofs.Spelling as spelling
use Rattle.swh_words.proofs.laws.refused_words.Goals as goal

pub returns : goal.returns
returns c = spelling.refused_words
