-- Machinery for the contracts of inner functions: voters that were read from a position on. Assumes nothing: these are definitions.
use Rattle.std.specs.Prelude.{ℕ, ◌+◌, ◌-◌, ◌≤◌, ◌<◌, ◌≡◌, true, false, List, map, eqb, length, take, drop}
use Rattle.std.proofs.Math.Option.{Option, none, some}
use Rattle.base.specs.Lists.{any_of, all_of}
use Rattle.base.specs.Le.{Bytes}
use Rattle.base.specs.Read.{Part, repeated}
use Rattle.committee.specs.Committee.{AuthorityIndex}
use Rattle.committee_set.specs.AuthoritySet.{AuthoritySet, member}
use Rattle.record_spec.specs.Reference.{TransactionLocator}
use Rattle.record_spec.specs.Block.{Block}
use Rattle.slip_spec.specs.Slip.{SlipVoter, voters_ascend, read_voter}
use Rattle.slip_spec.specs.Supplied.{supplied_blocks}
use Rattle.slip_spec.specs.Paths.{to_block, on_from, leads}
use Rattle.slip_spec.specs.Reading.{is_not_given, ends_at_vote}
use Rattle.slip_read_verdicts.specs.Verdict.{verdict}
use Rattle.slip_read_paths.specs.Walk.{Noted, LedTo}
use Rattle.slip_read_paths.specs.declared.Led as code
use Rattle.std.specs.Prelude.{Some, None}
use Rattle.std.specs.declared.option.Option as taken

-- the voter that ends at a position
unfoldable pub voter_at : Bytes → ℕ → AuthorityIndex → ℕ → SlipVoter
voter_at s p a end = record { author = a; path = take (end - (p + 10)) (drop (p + 10) s) }

-- what was taken at a position is the voter that is read there, and ends where the rest begins; or none is read there
unfoldable pub TookVoter : Bytes → ℕ → taken.Option (AuthorityIndex × ℕ) → Type 0
TookVoter s p (Some (a, end)) =
    (read_voter (drop p s) ≡ some (record { value = voter_at s p a end; rest = drop end s }))
    × ((p + 10 ≤ end) × (end ≤ length s))
TookVoter s p None = read_voter (drop p s) ≡ none

-- the set has exactly the authors of the list, of those that a committee can have
unfoldable pub Speak : AuthoritySet → List AuthorityIndex → Type 0
Speak v as' = (a : AuthorityIndex) → a < 128 → member v a ≡ any_of (eqb a) as'

-- what the voters of a certifier show together
unfoldable pub voters_verdict : List Block → TransactionLocator → Option Block → List SlipVoter → ℕ
voters_verdict bs l o vs =
    verdict (any_of (λ v. is_not_given (on_from (leads bs v.path) o)) vs) (all_of (λ v. ends_at_vote l v.author (on_from (leads bs v.path) o)) vs)

-- the voters that were read, with their authors and what they show
pub record Read (s : Bytes) (p n : ℕ) (q : Bytes) (order votes : List ℕ) (certifier : code.Led) (end : ℕ) (authors : AuthoritySet) (shown : ℕ) : Type 0 where
  pub voters : List SlipVoter
  pub reads : repeated n read_voter (drop p s) ≡ some (record { value = voters; rest = drop end s })
  pub inside : end ≤ length s
  pub ascend : voters_ascend voters ≡ true
  pub speak : Speak authors (map (λ v. v.author) voters)
  pub shows : (l : TransactionLocator) → Noted q order l (length order) votes → (o : Option Block) → LedTo q order certifier (on_from to_block o)
      → shown ≡ voters_verdict (supplied_blocks q) l o voters

-- voters that are not read, or do not ascend
unfoldable pub TookVoters : Bytes → ℕ → ℕ → Bytes → List ℕ → List ℕ → code.Led → taken.Option (ℕ × AuthoritySet × ℕ) → Type 0
TookVoters s p n q order votes certifier (Some (end, authors, shown)) = Read s p n q order votes certifier end authors shown
TookVoters s p n q order votes certifier None = (r : Part (List SlipVoter)) → repeated n read_voter (drop p s) ≡ some r → voters_ascend r.value ≡
    false
