-- What the code's values mean: for each declared type its one conversion. Assumes nothing: these are definitions.
use Rattle.std.specs.Prelude.{ℕ, ◌+◌, Bool, true, false, ◌&&◌, List, [], ◌∷◌, eqb, get_or}
use Rattle.std.proofs.Math.Option.{Option, none, some}
use Rattle.base.specs.Le.{Bytes}
use Rattle.types.specs.Values.{as_reference}
use Rattle.index_spec.specs.Runs as runs
use Rattle.index_spec.specs.Walk as walk
use Rattle.index_runs.specs.declared.Run as run
use Rattle.index_runs.specs.declared.Place.{Place}
use Rattle.index_runs.specs.declared.Place.TheVariants.{Anywhere, Beyond}
use Rattle.std.specs.Prelude.{None, Some}
use Rattle.std.specs.declared.option.Option as code

unfoldable pub as_run : run.Run → runs.Run
as_run x = runs.run (as_reference x.block) x.start x.end x.votes

unfoldable pub as_maybe : code.Option run.Run → Option runs.Run
as_maybe (Some x) = some (as_run x)
as_maybe None = none

unfoldable pub as_place : Place → walk.Place
as_place Anywhere = walk.anywhere
as_place (Beyond r o) = walk.beyond (as_reference r) o

-- the digest in the four words at p
unfoldable pub digest_at : List ℕ → ℕ → Bytes
digest_at ix p = walk.digest_of (get_or ix p 0) (get_or ix (p + 1) 0) (get_or ix (p + 2) 0) (get_or ix (p + 3) 0)

-- some words begin with these
unfoldable pub starts_with : List ℕ → List ℕ → Bool
starts_with [] ws = true
starts_with (v ∷ vs) [] = false
starts_with (v ∷ vs) (w ∷ ws) = eqb w v && starts_with vs ws
