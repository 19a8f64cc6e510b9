-- Blocks, their statements and their runs of shares (types.rs). Assumes nothing: these are definitions.
use Rattle.std.specs.Prelude.{ℕ, ◌+◌, ◌-◌, ◌*◌, Bool, true, false, eqb}
use mathlib.Core.List.{List, [], ◌∷◌, ◌++◌, map, Option-to_list}
use Rattle.std.proofs.Math.Option.{Option, none, some}
use Rattle.std.proofs.Math.ListN.{get_elem?}
use Rattle.base.specs.Lists.{pick, holds, sum_of}
use Rattle.base.specs.Le.{Bytes}
use Rattle.committee.specs.Committee.{AuthorityIndex, RoundNumber}
use Rattle.record_spec.specs.Reference.{BlockReference, TransactionLocator, TransactionLocatorRange, locator, new_range, one_range}

-- 01: "0 share ..; 1 accept vote, locator; 2 reject vote, locator, .. after 1 a second locator; 3 vote range"
pub data Statement : Type 0 where
  share : Bytes → Statement
  accept : TransactionLocator → Statement
  reject : TransactionLocator → Option TransactionLocator → Statement
  vote_range : TransactionLocatorRange → Statement

pub record Block : Type 0 where
  pub reference : BlockReference
  pub marked : Bool
  pub includes : List BlockReference
  pub statements : List Statement

abbrev pub author : Block → AuthorityIndex
author b = b.reference.authority

abbrev pub round : Block → RoundNumber
round b = b.reference.round

unfoldable pub is_share : Statement → Bool
is_share (share payload) = true
is_share (accept l) = false
is_share (reject l other) = false
is_share (vote_range r) = false

-- 01: "The share at statement index i has offset i"
unfoldable pub is_share_at : Block → ℕ → Bool
is_share_at b o = holds is_share (get_elem? b.statements o)

-- the locators for which an accept or a range votes; none for a share or a reject
unfoldable pub voted_range : Statement → Option TransactionLocatorRange
voted_range (share payload) = none
voted_range (accept l) = some (one_range l)
voted_range (reject l other) = none
voted_range (vote_range r) = some r

-- the locators for which the statements from offset o on vote: each share for itself, each accept and each range
unfoldable pub spans_from : BlockReference → ℕ → List Statement → List TransactionLocatorRange
spans_from r o [] = []
spans_from r o (s ∷ ss) = pick (is_share s) (one_range (locator r o) ∷ []) (Option-to_list (voted_range s)) ++ spans_from r (o + 1) ss

-- the ranges of locators for which a block votes
unfoldable pub spans : Block → List TransactionLocatorRange
spans b = spans_from b.reference 0 b.statements

-- how many offsets a vote counts
unfoldable pub counted_offsets : Option TransactionLocatorRange → ℕ
counted_offsets none = 0
counted_offsets (some r) = r.end - r.start

-- 01: "3 words for each accept and each offset of each range"
unfoldable pub event_room : Block → ℕ
event_room b = 3 * sum_of (map (λ s. counted_offsets (voted_range s)) b.statements)

-- a share at offset o joins the run of shares that begins just after it, or is a run of its own
unfoldable pub joined : BlockReference → ℕ → List TransactionLocatorRange → List TransactionLocatorRange
joined r o [] = new_range r o (o + 1) ∷ []
joined r o (x ∷ xs) = pick (eqb (o + 1) x.start) (new_range r o x.end ∷ xs) (new_range r o (o + 1) ∷ x ∷ xs)

-- the runs of shares among statements of which the first has offset o
unfoldable pub runs_from : BlockReference → ℕ → List Statement → List TransactionLocatorRange
runs_from r o [] = []
runs_from r o (s ∷ ss) = pick (is_share s) (joined r o (runs_from r (o + 1) ss)) (runs_from r (o + 1) ss)

-- 01: "Runs of neighbouring shares form ranges as `shared_ranges` does"
unfoldable pub shared_ranges : Block → List TransactionLocatorRange
shared_ranges b = runs_from b.reference 0 b.statements
