-- Statements checked, references compared, records read and written, the clock: worked examples. Assumes nothing: these are definitions.
use Rattle.std.specs.Prelude.{ℕ, ◌≡◌, true, false, List, [], ◌∷◌, ◌++◌, length, replicate, set, take}
use Rattle.std.proofs.Math.Option.{none, some}
use Rattle.base.specs.Checks.{refusal}
use Rattle.record_spec.specs.Reference.{BlockReference, TransactionLocator, new_range, reference_before, locator_before}
use Rattle.record_spec.specs.Block.{Statement, share, accept, reject, vote_range, Block}
use Rattle.record_spec.specs.Record.{Timed, timed_of, block_of, timed_bytes, block_bytes}
use Rattle.record_spec.specs.Verify.{body_checks, statement_checks, clock_valid}

abbrev pub ref : ℕ → ℕ → ℕ → BlockReference
ref a r k = record { authority = a; round = r; digest = replicate 31 0 ++ (k ∷ []) }

abbrev pub at : ℕ → TransactionLocator
at o = record { block = ref 0 1 5; offset = o }

abbrev pub block : List BlockReference → List Statement → Block
block is ss = record { reference = ref 0 1 5; marked = false; includes = is; statements = ss }

-- a record with every kind of statement, read back; one byte more, one less, a mark of 2 and a byte that is not zero are malformed
abbrev pub full : Block
full =
    record {
      reference = ref 3 513 7;
      marked = true;
      includes = ref 0 512 1 ∷ ref 1 512 2 ∷ [];
      statements = share (1 ∷ 2 ∷ 3 ∷ []) ∷ accept (at 4) ∷ reject (at 1) none ∷ reject (at 1) (some (at 2)) ∷ vote_range (new_range (ref 2 1 3) 4 300) ∷ [];
    }

abbrev pub at_time : ℕ → Timed
at_time x = record { block = full; time = some x }

pub record Examples : Type 0 where
  -- an empty range is checked too
  pub empty_far : refusal (statement_checks (vote_range (new_range (ref 0 1 5) 1048576 1048576))) ≡ 27
  -- 26 comes before 27
  pub backwards_far : refusal (statement_checks (vote_range (new_range (ref 0 1 5) 1048578 1048577))) ≡ 26
  -- accept at 2^64 - 2 taken, at 2^64 - 1 gives 28
  pub last_taken : refusal (statement_checks (accept (at 18446744073709551614))) ≡ 0
  pub last_not : refusal (statement_checks (accept (at 18446744073709551615))) ≡ 28
  -- by round, then author, then digest bytes; then offset
  pub by_round : reference_before (ref 9 1 9) (ref 0 2 0) ≡ true
  pub by_author : reference_before (ref 0 2 9) (ref 1 2 0) ≡ true
  pub by_digest : reference_before (ref 1 2 0) (ref 1 2 1) ≡ true
  pub by_offset_lem : locator_before (at 0) (at 1) ≡ true
  pub not_itself : locator_before (at 1) (at 1) ≡ false
  pub read_back : block_of (block_bytes full) ≡ some full
  pub full_length : length (block_bytes full) ≡ 452
  pub one_more : block_of (block_bytes full ++ (0 ∷ [])) ≡ none
  pub one_less : block_of (take 451 (block_bytes full)) ≡ none
  pub mark_two : block_of (set (block_bytes full) 48 2) ≡ none
  pub not_zero : block_of (set (block_bytes full) 55 1) ≡ none
  -- the same with the latest time, and one nanosecond later
  pub timed_back : timed_of (timed_bytes (at_time 18446744073709551615)) ≡ some (at_time 18446744073709551615)
  pub timed_length : length (timed_bytes (at_time 0)) ≡ 468
  pub too_late : timed_of (timed_bytes (at_time 18446744073709551616)) ≡ none
  -- there is no edition 1; the second of the three bytes is zero; a 2 without a time; a time after a 0
  pub edition_one : block_of (set (block_bytes full) 53 1) ≡ none
  pub second_byte : block_of (set (timed_bytes (at_time 5)) 54 2) ≡ none
  pub no_time : block_of (set (block_bytes full) 53 2) ≡ none
  pub not_announced : block_of (set (timed_bytes (at_time 5)) 53 0) ≡ none
  -- the clock counts an author once, and only round - 1
  pub clock_once : clock_valid (1 ∷ 1 ∷ 1 ∷ 1 ∷ []) (block (ref 0 0 1 ∷ ref 0 0 2 ∷ ref 1 0 3 ∷ []) []) ≡ false
  pub clock_three : clock_valid (1 ∷ 1 ∷ 1 ∷ 1 ∷ []) (block (ref 0 0 1 ∷ ref 2 0 2 ∷ ref 1 0 3 ∷ []) []) ≡ true
  -- it counts stake, not heads
  pub clock_stake : clock_valid (7 ∷ 1 ∷ 1 ∷ []) (block (ref 0 0 1 ∷ []) []) ≡ true
  pub clock_heads : clock_valid (7 ∷ 1 ∷ 1 ∷ []) (block (ref 1 0 1 ∷ ref 2 0 1 ∷ []) []) ≡ false
  -- 24 and 25 go include by include: the first include's 25 comes before the second's 24
  pub by_include : refusal (body_checks (1 ∷ []) (block (ref 0 1 1 ∷ ref 7 0 2 ∷ []) [])) ≡ 25
  -- 26 to 28 statement by statement
  pub by_statement : refusal (body_checks (1 ∷ []) (block [] (accept (at 18446744073709551615) ∷ vote_range (new_range (ref 0 1 5) 5 4) ∷ []))) ≡ 28
