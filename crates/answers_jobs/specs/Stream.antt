-- A job of the program `answers`: its head, which stands before its profile,
--
--    0        reader
--    1 to  4  the tag's offset
--    5 to  8  the tag's size
--    9 to 16  limit of curve entries
--   17 to 24  limit of grid points
--   25 to 28  words lent, at most 8,192
--   29 to 32  length of the profile, at most 1,048,576
--
-- and, of a job of reader 13, the table view, what stands behind its profile.
--
--    0        the number of coordinates
--    1 to 16  the coordinates
--   17        the output channel
--
-- Behind the profile of a job of reader 14, the evaluation, stands this.
--
--    0        the number of coordinates, of which eight at most count
--    1 to 16  eight coordinates, two bytes each
--   17 to 18  how many numbers the lent buffer has, at most 512
use Rattle.std.specs.Prelude.{ℕ, ◌+◌, ◌*◌, ◌^◌, ◌≡◌, ◌<◌, cond, List, ltb, eqb, length, get_or, Option, Some, None, Result, MatchResult}
use Rattle.std.specs.Prelude.{◌⊎◌}
use Rattle.fields.specs.Bytes.{u16_at, u32_at}
use Rattle.answers_jobs.specs.declared.StreamJob.{StreamJob}
use Rattle.answers_jobs.specs.declared.BadJob.{BadJob}
use Rattle.answers_jobs.specs.declared.Reader.{Reader}
use Rattle.answers_jobs.specs.declared.Reader.TheVariants.{LookupTable, ToneCurve, String, Chad, Tech, DateTime, Meas, View, Xyz, Cicp, LookupTableByBook, ToneCurveByBook, TableView, Evaluation}
use Rattle.answers_jobs.specs.declared.StreamIndex.{StreamIndex}
use Rattle.answers_jobs.specs.declared.StreamTail.{StreamTail}

-- uInt64Number
abbrev pub u64_at : List ℕ → ℕ → ℕ
u64_at s i = u32_at s i * 2 ^ 32 + u32_at s (i + 4)

abbrev pub job_of : List ℕ → StreamJob
job_of h =
    record {
      reader = get_or h 0 0;
      offset = u32_at h 1;
      size = u32_at h 5;
      entries = u64_at h 9;
      points = u64_at h 17;
      words = u32_at h 25;
      length = u32_at h 29;
    }

-- the number of each reader
abbrev pub reader_number : Reader → ℕ
reader_number LookupTable = 1
reader_number ToneCurve = 2
reader_number String = 3
reader_number Chad = 4
reader_number Tech = 5
reader_number DateTime = 6
reader_number Meas = 7
reader_number View = 8
reader_number Xyz = 9
reader_number Cicp = 10
reader_number LookupTableByBook = 11
reader_number ToneCurveByBook = 12
reader_number TableView = 13
reader_number Evaluation = 14

-- a number from 1 to 14 names the reader that has it, and any other none
abbrev pub Names : ℕ → Result Reader BadJob → Type 0
Names n r = MatchResult r (λ reader. n ≡ reader_number reader) (λ _. (n < 1) ⊎ (14 < n))

-- a head that is cut short or passes a bound is none
unfoldable pub head_of : List ℕ → Option StreamJob
head_of h =
    cond (ltb (length h) 33) None (
    cond (ltb 8192 (u32_at h 25)) None (
    cond (ltb 1048576 (u32_at h 29)) None (
    Some (job_of h))))

-- how many bytes stand behind the profile
unfoldable pub bytes_behind : ℕ → ℕ
bytes_behind reader = cond (eqb reader 13) 18 (cond (eqb reader 14) 19 0)

-- what an evaluation is asked for
abbrev pub at_most_eight : ℕ → ℕ
at_most_eight n = cond (ltb 8 n) 8 n

unfoldable pub pixel_in : List ℕ → Option StreamTail
pixel_in b = cond (ltb 512 (u16_at b 17)) None (Some (StreamTail.Pixel (at_most_eight (get_or b 0 0)) (u16_at b 17)))

-- what a table view is asked for
unfoldable pub index_in : List ℕ → StreamIndex
index_in b = cond (ltb 16 (get_or b 0 0)) StreamIndex.TooMany (StreamIndex.At (get_or b 0 0) (get_or b 17 0))

-- what stands behind the profile; there are readers 1 to 14, of which 13 has a grid index and 14 coordinates
unfoldable pub tail_of : ℕ → List ℕ → Option StreamTail
tail_of reader b =
    cond (ltb reader 1) None (
    cond (ltb 14 reader) None (
    cond (ltb reader 13) (Some (StreamTail.Index StreamIndex.Nothing)) (
    cond (ltb (length b) (bytes_behind reader)) None (
    cond (eqb reader 14) (pixel_in b) (
    Some (StreamTail.Index (index_in b)))))))
