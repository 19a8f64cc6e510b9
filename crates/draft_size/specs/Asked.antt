-- What is asked of the writer. Assumes nothing: these are definitions.
use Rattle.std.specs.Prelude.{ℕ}
use Rattle.base.specs.Le.{Bytes}
use Rattle.draft_spec.specs.Draft.{Request}

-- 02: "author, round, digest, mark, includes and a list of shares, accepts, rejects and ranges", as lent
unfoldable pub requested : ℕ → ℕ → Bytes → ℕ → Bytes → Bytes → Request
requested author round digest mark includes statements =
    record { author = author; round = round; digest = digest; mark = mark; includes = includes; statements = statements }
