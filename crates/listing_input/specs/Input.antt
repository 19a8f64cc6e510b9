-- The input of `listing`. Assumes nothing: these are definitions.
use Rattle.std.specs.Prelude.{ℕ, ◌*◌, ◌||◌, [], ltb, eqb, length}
use Rattle.base.specs.Lists.{pick}
use Rattle.base.specs.Checks.{Answer, refused, checked}
use Rattle.base.specs.Le.{Bytes, le_at}
use Rattle.committee.specs.Committee.{Committee, committee_checks}
use Rattle.stakes_file.specs.Load.{load}
use Rattle.words.specs.Words.{words_in}
use Rattle.listing_input.specs.declared.Size.{Size}
use Rattle.listing_input.specs.declared.Size.TheVariants.{End, Broken, Of}

-- how many bytes of stakes follow a member count
unfoldable pub stake_bytes : ℕ → ℕ
stake_bytes count = pick (eqb count 255) 0 (8 * count)

-- what the folder has for a file of stakes
pub data StakesFile : Type 0 where
  absent : StakesFile
  holding : Bytes → StakesFile
  unreadable : StakesFile

-- 02: "Load it from the file `stakes` (absent counts as empty; ..)"; one that cannot be read is broken
unfoldable pub file_stakes : StakesFile → Answer Committee
file_stakes absent = load []
file_stakes (holding f) = load f
file_stakes unreadable = refused 56

-- 01: "a member count byte (255: ..), 8-byte stakes, missing bytes zero", and "Setting a committee checks 1 to 4"; 02: "`listing` with count 255 uses the
-- loaded table, or the course committee if the file is empty": s is what was read after the count, f the file of stakes
unfoldable pub listed_stakes : ℕ → Bytes → StakesFile → Answer Committee
listed_stakes count s f = pick (eqb count 255) (file_stakes f) (checked (committee_checks (words_in count s)) (words_in count s))

-- 01: "records, each after a 4-byte length. A length over 8,192 .. or one to three stray bytes give 20 and end the reading": what the up to
-- four bytes say that stand next
unfoldable pub size_of : Bytes → Size
size_of s =
    pick (eqb (length s) 0) End
    (pick (ltb (length s) 4 || ltb 8192 (le_at 4 s 0)) Broken
    (Of (le_at 4 s 0)))

-- 01: "one past the end": a record of n bytes of which so many are there
unfoldable pub whole_size : ℕ → ℕ → Size
whole_size n got = pick (ltb got n) Broken (Of n)
