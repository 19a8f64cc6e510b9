-- What was found, joined. Assumes nothing.
use mathlib.Core.Path.{◌≡◌, refl}
use mathlib.Core.Bool.{Bool, true, false, ◌&&◌, ◌||◌}
use mathlib.Core.List.{List}
use mathlib.Core.Option.{none, some}
use Prim.Native.Nat.{ℕ}
use Rattle.base.specs.Lists.{pick}
use Rattle.committee.specs.Committee.{AuthorityIndex}
use Rattle.record_spec.specs.Reference.{TransactionLocator}
use Rattle.record_spec.specs.Block.{Block}
use Rattle.slip_spec.specs.Paths.{to_block, nowhere, not_given, on_from, leads}
use Rattle.slip_spec.specs.Reading.{is_not_given, votes_as, ends_at_vote}
use Rattle.slip_read_verdicts.specs.Verdict.{verdict, worse, voter_verdict}

-- the worse of two says of both
pub worse_both : (m n h k : Bool) → worse (verdict m h) (verdict n k) ≡ verdict (m || n) (h && k)
unfolding worse verdict
worse_both true true true true = refl
worse_both true true true false = refl
worse_both true true false true = refl
worse_both true true false false = refl
worse_both true false true true = refl
worse_both true false true false = refl
worse_both true false false true = refl
worse_both true false false false = refl
worse_both false true true true = refl
worse_both false true true false = refl
worse_both false true false true = refl
worse_both false true false false = refl
worse_both false false true true = refl
worse_both false false true false = refl
worse_both false false false true = refl
worse_both false false false false = refl

-- ---- a voter, by where its path leads

module _ (bs : List Block) (l : TransactionLocator) (a : AuthorityIndex) (ps : List ℕ) where
  module _ (b : Block) where
    pub shows_block : (d : Block) (t : Bool) → leads bs ps b ≡ to_block d → t ≡ votes_as l a d → pick t 0 1 ≡ voter_verdict bs l a ps (some b)
    unfolding voter_verdict verdict on_from is_not_given ends_at_vote
    shows_block d t e h = rw (e, h)

    pub shows_nowhere : leads bs ps b ≡ nowhere → 1 ≡ voter_verdict bs l a ps (some b)
    unfolding voter_verdict verdict on_from is_not_given ends_at_vote
    shows_nowhere e = rw e

    pub shows_missing : leads bs ps b ≡ not_given → 2 ≡ voter_verdict bs l a ps (some b)
    unfolding voter_verdict verdict on_from is_not_given ends_at_vote
    shows_missing e = rw e

  pub no_certifier : 2 ≡ voter_verdict bs l a ps none
  unfolding voter_verdict verdict on_from is_not_given
  no_certifier = refl
