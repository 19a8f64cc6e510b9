-- The witnesses: evaluated, and by the third statement. Assumes nothing.
use mathlib.Core.Path.{◌≡◌, refl, sym, ap, ◌∙◌, subst}
use mathlib.Core.Bool.{false}
use mathlib.Core.List.{List, [], ◌∷◌, ◌++◌}
use Prim.Native.Nat.{ℕ}
use native.Mathlib.Omega.{arith}
use lib.ListN.{length, drop, take, get_or, replicate, length-replicate, take-append-drop}
use lib.Seq.{drop-cons}
use Rattle.base.specs.Lists.{◌∈◌, here}
use Rattle.base.proofs.Lists.{none_of, and, every_in}
use Rattle.base.proofs.Members.{in_empty}
use Rattle.record_spec.specs.Block.{Statement, accept, vote_range, Block}
use Rattle.record_spec.specs.Record.{no_block}
use Rattle.store_spec.specs.Store.{record_in}
use Rattle.final_spec.specs.Ancestry.{VoteIn, by_accept, by_range}
use Rattle.mission_theorems.specs.Feeds.{Feed, run, Accepted, accepted, stored_blocks}
use Rattle.mission_theorems.specs.FirstStatement.{KeepsRules}
use Rattle.mission_theorems.specs.ThirdStatement.{ShareStands, VotedOnlySince, Start}
use Rattle.mission_theorems.proofs.ThirdStatement.{third_statement}
use Rattle.mission_theorems.proofs.Computing.{computing}
use Rattle.course_theorems.specs.Course.{four, ref, the, feeds, start, after}
use Rattle.course_theorems.specs.Exclusions.{sole, own}
use Rattle.course_theorems.specs.Witnesses.{fifth, lent, nine, small, three, Witnesses}

kept : KeepsRules four lent fifth.bytes
unfolding computing record_in
kept =
    record {
      rec = record_in fifth.bytes;
      formed = refl;
      rules = refl;
      memory = record { committee = refl; store = refl; table = refl; work = omega arith; events = omega arith; bytes = refl; items = omega arith };
    }

-- ---- shares, by the third statement

abbrev from : List Feed → Start
from fs = record { past = replicate 2288 0; allowed = omega (arith, length-replicate {A = ℕ} 2288 0); words = 13; feeds = fs }

gone_stands : ShareStands four after (accepted four start feeds) the
unfolding computing
gone_stands = (third_statement.every four refl (from feeds)).shares the refl

pending_stands : ShareStands four (run four start nine) (accepted four start nine) the
unfolding computing
pending_stands = (third_statement.every four refl (from nine)).shares the refl

-- ---- a share that got its votes since it was stored

abbrev all : List Accepted
all = accepted sole small three

-- a block without statements has no vote
quiet : (b : Block) → b.statements ≡ [] → VoteIn b own → ⊥
quiet b e (by_accept m) = in_empty (subst (λ (ss : List Statement). accept own ∈ ss) e m)
quiet b e (by_range r m f s u) = in_empty (subst (λ (ss : List Statement). vote_range r ∈ ss) e m)

nothing : Accepted
nothing = record { bytes = []; block = no_block; events = [] }

all_three : length all ≡ 3
unfolding computing
all_three = refl

in_parts : (xs : List Accepted) → length xs ≡ 3 → xs ≡ take 1 xs ++ get_or xs 1 nothing ∷ drop 2 xs
in_parts xs h = sym (take-append-drop 1 xs) ∙ ap (λ (ys : List Accepted). take 1 xs ++ ys) (drop-cons xs 1 nothing (omega arith))

voted_since : VotedOnlySince all own
unfolding computing
voted_since =
    record {
      own = get_or all 1 nothing;
      since = take 1 all;
      earlier = drop 2 all;
      splits = in_parts all all_three;
      its_own = refl;
      voted = (voting, here, by_accept here);
      none_before = λ b m. quiet b (only b m);
    }
  where
    voting : Block
    voting = record { reference = ref 0 2 3; marked = false; includes = ref 0 1 2 ∷ []; statements = accept own ∷ [] }

    only : (b : Block) → b ∈ stored_blocks (drop 2 all) → b.statements ≡ []
    only b m = every_in {P = λ (x : Block). x.statements ≡ []} (stored_blocks (drop 2 all)) b (and refl none_of) m

pub witnesses : Witnesses
unfolding computing
witnesses = record { kept = kept; pending_stands = pending_stands; pending_two = refl; gone_stands = gone_stands; voted_since = voted_since }
