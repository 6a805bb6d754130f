-- `answers_lines::answer_job` meets its contract: by what stands behind the profile, and a bad job has no line.
-- Assumes nothing.
use mathlib.Core.Path.{◌≡◌}
use borrow.Author.Rules.{rules}
use Rattle.std.proofs.Common.{Some}
use Rattle.answers_jobs.specs.declared.StreamTail.{StreamTail}
use Rattle.answers_lines.proofs.Laws.{asks, asks_pixel, no_line, line_of_reader, line_of_pixel}
use Rattle.answers_lines.proofs.answer_job.Goals as goal

pub answer_reader-requires : goal.answer_reader-requires
answer_reader-requires c = search (rules, asks)

pub answer_pixel-requires : goal.answer_pixel-requires
answer_pixel-requires c = search (rules, asks_pixel)

pub returns-in-Some-Index : goal.returns-in-Some-Index
returns-in-Some-Index c = let e : c.read_tail.result ≡ Some (StreamTail.Index c.in-Some-Index.index) = rw c.in-Some-Index.field-0-is at c.in-Some-Index.is in search (rules, line_of_reader)

pub returns-in-Some-Pixel : goal.returns-in-Some-Pixel
returns-in-Some-Pixel c = let e : c.read_tail.result ≡ Some (StreamTail.Pixel c.in-Some-Pixel.coordinates c.in-Some-Pixel.room) = rw c.in-Some-Pixel.field-0-is at c.in-Some-Pixel.is in search (rules, line_of_pixel)

pub returns-in-None : goal.returns-in-None
returns-in-None c = search (rules, no_line)
