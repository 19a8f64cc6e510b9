-- What is known of what was read. Assumes nothing: these are definitions.
use Rattle.std.specs.Prelude.{ℕ, ◌≤◌, Result, Ok, Err}
use Rattle.listing_input.specs.declared.Size.{Size}
use Rattle.listing_input.specs.declared.Size.TheVariants.{End, Broken, Of}

-- a record of at most n bytes, or none
abbrev pub size_at_most : ℕ → Size → Type 0
size_at_most n End = 0 ≤ n
size_at_most n Broken = 0 ≤ n
size_at_most n (Of k) = k ≤ n

-- at most n bytes, or a read failed
abbrev pub filled_at_most : {E : Type 0} → ℕ → Result ℕ E → Type 0
filled_at_most n (Ok k) = k ≤ n
filled_at_most n (Err e) = 0 ≤ n
