-- What reading the file of stakes gave. Assumes nothing: these are definitions.
use Rattle.std.specs.Prelude.{ℕ, ◌≤◌, take}
use Rattle.base.specs.Le.{Bytes}
use Rattle.listing_input.specs.declared.FileRead.{FileRead}
use Rattle.listing_input.specs.declared.FileRead.TheVariants.{Absent, Of, Failed}
use Rattle.listing_input.specs.Input.{StakesFile, absent, holding, unreadable}

-- the file that was read to the front of some bytes
unfoldable pub as_file : FileRead → Bytes → StakesFile
as_file Absent b = absent
as_file (Of n) b = holding (take n b)
as_file Failed b = unreadable

-- machinery for the contracts of inner functions: at most m bytes were read
abbrev pub read_at_most : ℕ → FileRead → Type 0
read_at_most m Absent = 0 ≤ m
read_at_most m (Of n) = n ≤ m
read_at_most m Failed = 0 ≤ m
