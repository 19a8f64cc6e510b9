-- The calls of a host: how an answer crosses as one word, and what stands for the stakes that it sends. Assumes nothing: these are definitions.
use Rattle.std.specs.Prelude.{ℕ, ◌+◌, ◌/◌, Bool, ◌&&◌, [], leb, length}
use Rattle.base.specs.Lists.{pick}
use Rattle.base.specs.Le.{Bytes}
use Rattle.base.specs.Checks.{Answer, refused, answered}
use Rattle.committee.specs.Committee.{Stake, Committee, new_committee}
use Rattle.words.specs.Words.{whole_words, words_of}

-- one word: the answer, below 2^63 in every call, or 2^63 + n for refusal n
unfoldable pub encoded : Answer ℕ → ℕ
encoded (answered n) = n
encoded (refused n) = 9223372036854775808 + n

-- yes as 1, no as 0
unfoldable pub flag : Bool → ℕ
flag t = pick t 1 0

-- 01: "Stakes and words cross as 8 bytes each; broken stakes are 5": bytes that are not whole words, or more words than a committee has
-- members, are no committee; and a call with no committee is refused with 5
unfoldable pub committee_of : Bytes → Committee
committee_of s = pick (whole_words s && leb (length s / 8) 128) (words_of s) []

-- setting a committee: 1 to 4 for any number of words, 5 where the bytes are not whole words
unfoldable pub new_committee_call : Bytes → Answer Stake
new_committee_call s = pick (whole_words s) (new_committee (words_of s)) (refused 5)
