-- The edition of a record, as code tests it. Assumes nothing: these are definitions.
use Rattle.std.specs.Prelude.{Bool, not, ◌&&◌, take, drop}
use Rattle.base.specs.Lists.{same, is_none}
use Rattle.base.specs.Le.{Bytes}
use Rattle.record_spec.specs.Record.{edition_bytes, read_time, edition_of}

-- the three bytes of the edition, and its time
unfoldable pub edition_right : Bytes → Bool
edition_right s = same (take 3 (drop 53 s)) (edition_bytes (edition_of s)) && not (is_none (read_time (edition_of s) (drop 56 s)))
