-- What a note says of an author's vote. Assumes nothing.
use mathlib.Core.Path.{◌≡◌}
use mathlib.Core.Bool.{false}
use mathlib.Core.List.{List}
use Prim.Native.Nat.{ℕ, ◌<◌}
use lib.Dec.{eqb}
use lib.ListN.{get_or}
use borrow.Author.Tests.{eq-eqb, ne_eqb}
use Rattle.base.specs.Le.{Bytes}
use Rattle.base.proofs.Tests.{flag_back}
use Rattle.committee.specs.Committee.{AuthorityIndex}
use Rattle.record_spec.specs.Reference.{TransactionLocator}
use Rattle.record_spec.specs.Block.{Block, author}
use Rattle.final_spec.specs.Voters.{votes_for}
use Rattle.slip_spec.specs.Reading.{votes_as}
use Rattle.slip_read_records.specs.Places.{block_at_place}
use Rattle.slip_read_paths.specs.Walk.{Noted}

-- what is noted, with the author
pub vote_noted : (q : Bytes) (order votes : List ℕ) (l : TransactionLocator) (n j : ℕ) (a : AuthorityIndex) → Noted q order l n votes → j < n → author
    (block_at_place q order j) ≡ a
    → eqb (get_or votes j 0) 1 ≡ votes_as l a (block_at_place q order j)
unfolding votes_as
vote_noted q order votes l n j a k h e = rw (k.at j h, eq-eqb _ _ e) (flag_back (votes_for (block_at_place q order j) l))

pub other_author : (l : TransactionLocator) (a : AuthorityIndex) (b : Block) → (author b ≡ a → ⊥) → false ≡ votes_as l a b
unfolding votes_as
other_author l a b f = rw (ne_eqb (author b) a f)
