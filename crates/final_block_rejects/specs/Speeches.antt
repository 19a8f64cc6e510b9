-- Machinery for the contracts of private functions: what one statement rejects, and which of a block's two speeches is asked for. Assumes nothing:
-- these are definitions.
use Rattle.std.specs.Prelude.{Bool, true, false}
use Rattle.base.specs.Lists.{any_of}
use Rattle.record_spec.specs.Reference.{TransactionLocator, same_locator}
use Rattle.record_spec.specs.Block.{Statement, Block}
use Rattle.final_spec.specs.Voters.{votes_for, Speech, own_vote}
use Rattle.final_readings_spec.specs.Rejecting.{rejected_in, rejects, own_reject}

-- 02: "a reject by an owner for a locator (its first)", of one statement
unfoldable pub statement_rejects : Statement → TransactionLocator → Bool
statement_rejects s l = any_of (same_locator l) (rejected_in s)

-- whether a block rejects the locator, or votes for it
abbrev pub says : Bool → Block → TransactionLocator → Bool
says true b l = rejects b l
says false b l = votes_for b l

-- a block's rejects, or its votes
abbrev pub speech_of : Bool → Speech
speech_of true = own_reject
speech_of false = own_vote
