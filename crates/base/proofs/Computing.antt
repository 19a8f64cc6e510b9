-- Every definition of the crate and of those below it at once, for evaluated examples: `unfolding computing`. Assumes nothing.
use mathlib.Core.List.{Option-to_list, flatten}
use Rattle.base.specs.Lists.{is_empty, any_of, all_of, pairwise, first_is, adjacent, keep, find, holds, is_none, sum_of, count_from, same, before}
use Rattle.base.specs.Checks.{refusal, passes, checked}
use Rattle.base.specs.Le.{le_number, le_bytes, le_at}
use Rattle.base.specs.Read.{give, fail, onward, ◌>>=◌, items, number, given, repeated, complete, and_others, up_to, to_end}

unfoldable pub computing : Unit {0}
unfolding is_empty any_of all_of pairwise first_is adjacent keep find holds Option-to_list is_none flatten sum_of count_from same before refusal passes checked
    le_number le_bytes le_at give fail onward ◌>>=◌ items number given repeated complete and_others up_to to_end
computing = tt
