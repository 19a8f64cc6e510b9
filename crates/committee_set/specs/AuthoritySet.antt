-- 01: "A vote set is 128 bits in two words" (types.rs). Assumes nothing: these are definitions.
use Rattle.std.specs.Prelude.{ℕ, ◌+◌, ◌-◌, ◌/◌, ◌%◌, ◌^◌, Bool, List, [], ◌∷◌, ltb, eqb, length}
use Rattle.std.specs.Int.Bits.{bit_and, bit_or, bit_xor}
use Rattle.base.specs.Lists.{pick, keep, count_from}
use Rattle.committee_set.specs.declared.AuthoritySet as declared
use Rattle.committee.specs.Committee.{AuthorityIndex, Stake, Committee}

abbrev pub AuthoritySet : Type 0
AuthoritySet = declared.AuthoritySet

abbrev pub nobody : AuthoritySet
nobody = record { low = 0; high = 0 }

-- the bit i of a word is set
unfoldable pub bit : ℕ → ℕ → Bool
bit w i = eqb (w / 2 ^ i % 2) 1

unfoldable pub member : AuthoritySet → AuthorityIndex → Bool
member v a = pick (ltb a 64) (bit v.low a) (bit v.high (a - 64))

unfoldable pub inserted : AuthoritySet → AuthorityIndex → AuthoritySet
inserted v a =
    pick (ltb a 64)
    (record { low = bit_or v.low (2 ^ a); high = v.high })
    (record { low = v.low; high = bit_or v.high (2 ^ (a - 64)) })

unfoldable pub united : AuthoritySet → AuthoritySet → AuthoritySet
united v w = record { low = bit_or v.low w.low; high = bit_or v.high w.high }

-- the members of the first set that are not in the second
unfoldable pub without : AuthoritySet → AuthoritySet → AuthoritySet
without v w = record { low = bit_xor v.low (bit_and v.low w.low); high = bit_xor v.high (bit_and v.high w.high) }

-- the set of the authors in a list
unfoldable pub set_of : List AuthorityIndex → AuthoritySet
set_of [] = nobody
set_of (a ∷ as') = inserted (set_of as') a

-- the members, ascending
unfoldable pub members : AuthoritySet → List AuthorityIndex
members v = keep (member v) (count_from 0 128)

unfoldable pub number_of_voters : AuthoritySet → ℕ
number_of_voters v = length (members v)

-- the stakes of the authors from a on that are in the set, each author once
unfoldable pub stake_from : AuthorityIndex → Committee → AuthoritySet → Stake
stake_from a [] v = 0
stake_from a (s ∷ c) v = pick (member v a) s 0 + stake_from (a + 1) c v

-- the stake of a set
unfoldable pub stake_of : Committee → AuthoritySet → Stake
stake_of c v = stake_from 0 c v
