-- Who rejects a locator in a block's inclusive ancestry. Assumes nothing: these are definitions.
use Rattle.std.specs.Prelude.{Bool}
use mathlib.Core.List.{List, [], ◌∷◌, map, flatten}
use Rattle.base.specs.Lists.{pick, any_of}
use Rattle.committee_set.specs.AuthoritySet.{AuthoritySet, nobody, inserted}
use Rattle.record_spec.specs.Reference.{BlockReference, TransactionLocator, same_locator}
use Rattle.record_spec.specs.Block.{Statement, share, accept, reject, vote_range, Block, author}
use Rattle.final_spec.specs.Voters.{Speech, spoken}

-- 02: "a reject by an owner for a locator (its first)": the second one does not count
unfoldable pub rejected_in : Statement → List TransactionLocator
rejected_in (share payload) = []
rejected_in (accept l) = []
rejected_in (reject l other) = l ∷ []
rejected_in (vote_range r) = []

-- the locators that a block rejects
unfoldable pub rejections : Block → List TransactionLocator
rejections b = flatten (map rejected_in b.statements)

unfoldable pub rejects : Block → TransactionLocator → Bool
rejects b l = any_of (same_locator l) (rejections b)

-- the author of a block that rejects
unfoldable pub own_reject : Speech
own_reject b l = pick (rejects b l) (inserted nobody (author b)) nobody

-- 02: "in a block's inclusive ancestry, a reject by an owner for a locator (its first)": the owners with such a reject
abbrev pub rejecters : List Block → TransactionLocator → BlockReference → AuthoritySet
rejecters bs l r = spoken own_reject bs l r
