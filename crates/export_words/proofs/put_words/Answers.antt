-- `export_words::put_words` meets its contract: the words are stored as they are.
-- Assumes nothing.
use Rattle.export_words.proofs.Rows.{stored_numbers}
use Rattle.export_words.proofs.put_words.Goals as goal

pub returns : goal.returns
returns c = stored_numbers c.put.ensures
