-- The numbers of the refusals, and what a call answers. Assumes nothing: these are definitions.
use Rattle.std.specs.Prelude.{ℕ, Result, Ok, Err}
use Rattle.base.specs.Checks.{Answer, refused, answered}
use Rattle.base.specs.declared.refusal.Refusal.{Refusal}
use Rattle.base.specs.declared.refusal.Refusal.TheVariants as refusals

-- the number of a refusal, as the documents and the host know it
abbrev pub refusal_number : Refusal → ℕ
refusal_number refusals.NoStakes = 1
refusal_number refusals.ZeroStake = 2
refusal_number refusals.TooManyMembers = 3
refusal_number refusals.TotalTooLarge = 4
refusal_number refusals.BrokenCommittee = 5
refusal_number refusals.BrokenAggregator = 6
refusal_number refusals.StoreNotInOrder = 10
refusal_number refusals.TableNotInOrder = 11
refusal_number refusals.WorkTooShort = 12
refusal_number refusals.StoreFull = 13
refusal_number refusals.TableFull = 14
refusal_number refusals.EventsTooShort = 15
refusal_number refusals.Malformed = 20
refusal_number refusals.UnknownAuthor = 21
refusal_number refusals.RoundZeroNotEmpty = 22
refusal_number refusals.StoredAlready = 23
refusal_number refusals.UnknownIncludeAuthor = 24
refusal_number refusals.IncludeRoundNotLower = 25
refusal_number refusals.RangeEndBelowStart = 26
refusal_number refusals.RangeEndTooLarge = 27
refusal_number refusals.AcceptOffsetTooLarge = 28
refusal_number refusals.ClockNotMet = 29
refusal_number refusals.IncludeNotStored = 30
refusal_number refusals.AnswerSlice = 40
refusal_number refusals.NoSuchShare = 41
refusal_number refusals.NotPending = 42
refusal_number refusals.TooShortToWrite = 50
refusal_number refusals.NotWritable = 51
refusal_number refusals.SlipNotHeld = 52
refusal_number refusals.SlipRecordMissing = 53
refusal_number refusals.IndexDisagrees = 54
refusal_number refusals.IndexTooShort = 55
refusal_number refusals.StakesFileBroken = 56
refusal_number refusals.StakesFileName = 57
refusal_number refusals.PlacesTooShort = 58
refusal_number refusals.BrokenCalendar = 59
refusal_number refusals.QuorumOutOfReach = 60
refusal_number refusals.SlipReadingUnknown = 61
refusal_number refusals.LocatorsNotSorted = 62
refusal_number refusals.RepliesTooShort = 63
refusal_number refusals.OutcomesTooShort = 64

-- the number of a call's refusal; 0 where it is not refused
abbrev pub refusal_in : {A : Type 0} → Result A Refusal → ℕ
refusal_in (Ok a) = 0
refusal_in (Err r) = refusal_number r

-- what a call answers, by what its value says
abbrev pub as_answer : {A B : Type 0} → (A → B) → Result A Refusal → Answer B
as_answer says (Ok a) = answered (says a)
as_answer says (Err r) = refused (refusal_number r)
