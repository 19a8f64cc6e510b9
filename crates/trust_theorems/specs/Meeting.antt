-- Two certificates always meet. Assumes nothing: these are definitions.
use Rattle.std.specs.Prelude.{◌*◌, ◌<◌, ◌≡◌, true, false, List, [], ◌∷◌, map}
use Rattle.std.specs.Int.Bits.{bit_and}
use Rattle.base.specs.Lists.{sum_of, ◌∈◌, Once}
use Rattle.committee.specs.Committee.{AuthorityIndex, Committee, total_stake, get_stake, is_valid}
use Rattle.committee_set.specs.AuthoritySet.{AuthoritySet, set_of, stake_of}
use Rattle.record_spec.specs.Reference.{TransactionLocator}
use Rattle.record_spec.specs.Block.{Block}
use Rattle.final_readings_spec.specs.Readings.{Reading, voters_in, certifies_in}
use Rattle.final_readings_spec.specs.Withdrawing.{VoterIn, CertificateIn}

-- 02: "hold stake s with 3s > T": owners of the set, each once, whose stakes sum to s
pub record HoldValid (c : Committee) (In : AuthorityIndex → Type 0) : Type 0 where
  pub owners : List AuthorityIndex
  pub once : Once owners
  pub in_set : (a : AuthorityIndex) → a ∈ owners → In a
  pub valid : total_stake c < 3 * sum_of (map (get_stake c) owners)

-- those in both sets
unfoldable pub common : AuthoritySet → AuthoritySet → AuthoritySet
common v w = record { low = bit_and v.low w.low; high = bit_and v.high w.high }

-- 02: "for any two certificates under one committee, the owners voting in both hold stake s with 3s > T": of any two lists of blocks, any two
-- locators, and either reading each
pub record CertificatesMeet : Type 0 where
  -- of what a certificate is
  pub owners : (c : Committee) (r q : Reading) (bs cs : List Block) (l m : TransactionLocator) (a d : AuthorityIndex)
      (x : CertificateIn r c bs l a) (y : CertificateIn q c cs m d)
      → HoldValid c (λ o. VoterIn r bs x.block l o × VoterIn q cs y.block m o)
  -- of the two vote sets that the engine counts: s is the stake of those in both
  pub counted : (c : Committee) (r q : Reading) (bs cs : List Block) (l m : TransactionLocator) (b d : Block)
      → certifies_in r c bs l b ≡ true → certifies_in q c cs m d ≡ true
      → is_valid c (stake_of c (common (voters_in r bs l b.reference) (voters_in q cs m d.reference))) ≡ true
  -- two thirds exactly would not do: of three owners with stake 1, those who vote twice among 0, 1 and 1, 2 hold 1, and 3 is not above 3
  pub sharp : is_valid (1 ∷ 1 ∷ 1 ∷ []) (stake_of (1 ∷ 1 ∷ 1 ∷ []) (common (set_of (0 ∷ 1 ∷ [])) (set_of (1 ∷ 2 ∷ [])))) ≡ false
