-- What is checked of a block by itself: 21, 22, 24 to 28 and the clock, 29 (types.rs, threshold_clock.rs). Assumes nothing: these are definitions.
use Rattle.std.specs.Prelude.{◌+◌, Bool, not, ◌&&◌, ltb, leb, eqb}
use mathlib.Core.List.{List, [], ◌∷◌, ◌++◌, map, flatten}
use Rattle.base.specs.Lists.{is_empty, keep}
use Rattle.base.specs.Checks.{Check, ◌⇒◌}
use Rattle.committee.specs.Committee.{Committee, is_quorum, known}
use Rattle.committee_set.specs.AuthoritySet.{AuthoritySet, set_of, stake_of}
use Rattle.record_spec.specs.Reference.{BlockReference, max_len}
use Rattle.record_spec.specs.Block.{Statement, share, accept, reject, vote_range, Block, author, round}

-- 01: "21 author unknown; 22 round 0 with includes or statements"
unfoldable pub head_checks : Committee → Block → List Check
head_checks c b =
    (not (known c (author b)) ⇒ 21)
    ∷ (eqb (round b) 0 && not (is_empty b.includes && is_empty b.statements) ⇒ 22)
    ∷ []

-- 01: "24 include's author unknown; 25 include's round not lower"
unfoldable pub include_checks : Committee → Block → BlockReference → List Check
include_checks c b i =
    (not (known c i.authority) ⇒ 24)
    ∷ (leb (round b) i.round ⇒ 25)
    ∷ []

-- 01: "26 range end below start; 27 range end 1,048,576 or more; 28 accept at offset 2^64 - 1"
unfoldable pub statement_checks : Statement → List Check
statement_checks (share payload) = []
statement_checks (accept l) = (eqb l.offset 18446744073709551615 ⇒ 28) ∷ []
statement_checks (reject l other) = []
statement_checks (vote_range r) = (ltb r.end r.start ⇒ 26) ∷ (leb max_len r.end ⇒ 27) ∷ []

-- 01: "Authors of includes at round - 1", each once
unfoldable pub previous_authors : Block → List BlockReference → AuthoritySet
previous_authors b is = set_of (map (λ i. i.authority) (keep (λ i. eqb (i.round + 1) (round b)) is))

-- 01: "Authors of includes at round - 1 hold quorum"
unfoldable pub clock_valid : Committee → Block → Bool
clock_valid c b = is_quorum c (stake_of c (previous_authors b b.includes))

-- 01: "24 and 25 go include by include, 26 to 28 statement by statement"; "29 clock"; "Round 0 skips 29"
unfoldable pub body_checks : Committee → Block → List Check
body_checks c b =
    flatten (map (include_checks c b) b.includes)
    ++ (flatten (map statement_checks b.statements)
    ++ ((not (eqb (round b) 0) && not (clock_valid c b) ⇒ 29) ∷ []))
