-- The least final locator of both readings stands where a vote begins, just after the given one, or just after a rejected one. Assumes nothing.
use mathlib.Core.Path.{◌≡◌, refl, sym, ◌∙◌, subst}
use mathlib.Core.Bool.{true, ◌&&◌}
use mathlib.Core.List.{List, map, flatten}
use mathlib.Core.Option.{Option, some, some-injective, none-ne-some}
use Prim.Native.Nat.{ℕ, suc, ◌+◌}
use native.Mathlib.Omega.{arith}
use Rattle.base.specs.Lists.{keep, ◌∈◌}
use Rattle.base.proofs.Members.{in_left, in_right, in_flatten, in_map, keep_in}
use Rattle.committee.specs.Committee.{Committee}
use Rattle.record_spec.specs.Reference.{TransactionLocator, locator}
use Rattle.record_spec.specs.Block.{Block}
use Rattle.final_spec.specs.Voters.{certifies, certifiers, is_final}
use Rattle.final_spec.specs.NextFinal.{is_after, just_after, candidates, least_final}
use Rattle.final_spec.proofs.Candidates.{starts, votes_below, least_final_lem}
use Rattle.final_spec.proofs.Growing.{VoteAmong, final_votes}
use Rattle.final_spec.proofs.Least.{Least, one_of, no_one, least_locator_lem}
use Rattle.final_spec.proofs.LeastOf.{after_below, JustBefore, least_among, least_once}
use Rattle.final_readings_spec.specs.Rejecting.{rejects}
use Rattle.final_readings_spec.specs.Readings.{Reading, old, withdrawing, voters_in, certifies_in, certifiers_in, is_final_in}
use Rattle.final_readings_spec.specs.NextFinal.{LeastFinalIn, after_rejections, candidates_in, least_final_in}
use Rattle.final_readings_spec.proofs.Rejecting.{listed}
use Rattle.final_readings_spec.proofs.FinalsIn.{final_in_old, final_in_mono}

-- ---- the old reading is the project's

pub final_is_old : (c : Committee) (bs : List Block) (l : TransactionLocator) → is_final_in old c bs l ≡ is_final c bs l
unfolding is_final_in certifiers_in certifies_in voters_in is_final certifiers certifies
final_is_old c bs l = refl

-- a final locator has a vote, so none is final past the end of every vote
pub final_in_votes : (reading : Reading) (c : Committee) (bs : List Block) (l : TransactionLocator) → is_final_in reading c bs l ≡ true → VoteAmong bs l
final_in_votes reading c bs l h = final_votes c bs l (sym (final_is_old c bs l) ∙ final_in_old reading c bs l h)

-- ---- a final locator at which no vote begins and before which none is rejected has a final one just before it

-- just after a rejected locator
pub after_rejected : (d : Block) (l : TransactionLocator) (o : ℕ) → suc o ≡ l.offset → rejects d (locator l.block o) ≡ true → l ∈ after_rejections d
unfolding after_rejections locator
after_rejected d l o e h =
    let f : o + 1 ≡ l.offset = omega arith in
    let own : locator l.block (o + 1) ≡ l = λ i. record { block = l.block; offset = f i } in
    subst (λ (x : TransactionLocator). x ∈ after_rejections d) own
    (in_map (λ (x : TransactionLocator). locator x.block (x.offset + 1)) (listed d (locator l.block o) h))

pub final_just_before : (reading : Reading) (c : Committee) (bs : List Block) (l : TransactionLocator) → ((d : Block) → d ∈ bs → l ∈ starts d → ⊥)
    → ((d : Block) → d ∈ bs → l ∈ after_rejections d → ⊥) → is_final_in reading c bs l ≡ true
    → (o : ℕ) × (suc o ≡ l.offset) × (is_final_in reading c bs (locator l.block o) ≡ true)
final_just_before reading c bs l no_start no-reject q =
    let r = votes_below bs l no_start (final_in_votes reading c bs l q) in
    (r.0, r.1, final_in_mono reading c bs l (locator l.block r.0) r.2 (λ d m k. absurd (no-reject d m (after_rejected d l r.0 r.1 k))) q)

-- ---- the least final locator

module _ (c : Committee) (bs : List Block) (after : Option TransactionLocator) where
  just_candidate : {l : TransactionLocator} → l ∈ just_after after → l ∈ candidates_in withdrawing bs after
  unfolding candidates_in candidates
  just_candidate k = in_left (flatten (map after_rejections bs)) (in_left (flatten (map starts bs)) k)

  start_candidate : {l : TransactionLocator} (d : Block) → d ∈ bs → l ∈ starts d → l ∈ candidates_in withdrawing bs after
  unfolding candidates_in candidates
  start_candidate d m k = in_left (flatten (map after_rejections bs)) (in_right (just_after after) (in_flatten k (in_map starts m)))

  reject_candidate : {l : TransactionLocator} (d : Block) → d ∈ bs → l ∈ after_rejections d → l ∈ candidates_in withdrawing bs after
  unfolding candidates_in
  reject_candidate d m k = in_right (candidates bs after) (in_flatten k (in_map after_rejections m))

  stepped : (l : TransactionLocator) → (l ∈ candidates_in withdrawing bs after → ⊥) → is_final_in withdrawing c bs l ≡ true → is_after after l ≡ true
      → JustBefore
      (is_final_in withdrawing c bs) after l
  stepped l none_there f h =
      let r = final_just_before withdrawing c bs l (λ d m k. none_there (start_candidate d m k)) (λ d m k. none_there (reject_candidate d m k)) f in
      record { offset = r.0; next = r.1; holds = r.2; later = after_below after l r.0 r.1 (λ k. none_there (just_candidate k)) h }

-- what is computed is the least final locator after the given one, in both readings
pub least_final_in_lem : (reading : Reading) (c : Committee) (bs : List Block) (after : Option TransactionLocator) → LeastFinalIn reading c bs after
    (least_final_in reading c bs after)
unfolding least_final_in candidates_in least_final is_final_in certifiers_in certifies_in voters_in is_final certifiers certifies
least_final_in_lem old c bs after = least_final_lem c bs after
least_final_in_lem withdrawing c bs after = least_among (is_final_in withdrawing c bs) after (candidates_in withdrawing bs after) (stepped c bs after)

-- the least one stands at one of the places
pub least_stands : (reading : Reading) (c : Committee) (bs : List Block) (after : Option TransactionLocator) (l : TransactionLocator)
    → LeastFinalIn reading c bs after (some l) → l ∈ candidates_in reading bs after
unfolding least_final_in
least_stands reading c bs after l h =
    stood (least_locator_lem (keep (λ x. is_after after x && is_final_in reading c bs x) (candidates_in reading bs after)))
    (least_once (is_final_in reading c bs) (is_final_in reading c bs) (λ x. refl) after (least_final_in_lem reading c bs after) h)
  where
    stood : {o : Option TransactionLocator} → Least (keep (λ x. is_after after x && is_final_in reading c bs x) (candidates_in reading bs after)) o → o ≡ some l
        →
        l ∈ candidates_in reading bs after
    stood (one_of x m f) e =
        subst (λ (y : TransactionLocator). y ∈ candidates_in reading bs after) (some-injective x l e)
        (keep_in (λ y. is_after after y && is_final_in reading c bs y) (candidates_in reading bs after) m).0
    stood (no_one f) e = absurd (none-ne-some l e)
