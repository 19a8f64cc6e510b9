-- The small files, loaded by evaluation. Assumes nothing.
use mathlib.Core.Path.{refl}
use Rattle.stakes_file.specs.Examples.{entry, file, Examples}
use Rattle.stakes_file.proofs.Computing.{computing}

pub evaluated : Examples
unfolding computing entry file
evaluated =
    record {
      chain_order = refl;
      past_the_end = refl;
      again = refl;
      stray = refl;
      cut = refl;
      broken_first = refl;
      nameless = refl;
      not_padded = refl;
      twice = refl;
      names_first = refl;
      nobody = refl;
      no_stake = refl;
    }
