-- `export_words::put_bytes` meets its contract: the words are stored as they are.
-- Assumes nothing.
use Rattle.export_words.proofs.Rows.{stored_numbers}
use Rattle.export_words.proofs.put_bytes.Goals as goal

pub returns : goal.returns
returns c = stored_numbers c.put.ensures
