-- The fields of a reader of lines.
use Rattle.std.specs.Prelude.{◌≢◌, ◌+◌, ◌<◌, ◌≤◌, ℕ, drop, vec_len, slice_index}
use Rattle.cert_read.specs.declared.reader.LineReader.TheInside.{Inside}
use Rattle.cert_read.specs.State.{Reading}

-- the bytes that are not answered yet
abbrev pub reading_of : Inside → Reading
reading_of r = record { unread = drop r.at r.bytes.items; ended = r.ended }

-- some of them are known to be no line feeds
pub record IsHeld (r : Inside) : Type 0 where
  pub within : r.at + r.searched ≤ vec_len r.bytes
  pub searched : (k : ℕ) → k < r.searched → slice_index (drop r.at r.bytes.items) k ≢ 10
