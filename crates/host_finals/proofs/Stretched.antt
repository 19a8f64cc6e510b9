-- A list in bulk, for a host. Assumes nothing.
use mathlib.Core.Path.{◌≡◌, sym, ap}
use mathlib.Core.Bool.{Bool, true, false}
use mathlib.Core.List.{List, ◌∷◌}
use mathlib.Core.Option.{Option, none, some}
use Prim.Native.Nat.{ℕ, zero, suc, ◌^◌, ◌≤◌, ◌<◌}
use native.Mathlib.Omega.{arith}
use lib.ListN.{length}
use Rattle.base.specs.Lists.{pick}
use Rattle.base.specs.Checks.{refusal, passes, Answer, refused, answered, checked}
use Rattle.committee.specs.Committee.{Committee}
use Rattle.record_spec.specs.Reference.{TransactionLocator}
use Rattle.record_spec.specs.Block.{Block}
use Rattle.final_spec.specs.Finality.{blocks_of}
use Rattle.final_spec.specs.NextFinal.{next_final_checks}
use Rattle.list_stretch_bytes.specs.Answers.{as_stretches}
use Rattle.list_stretches_spec.specs.Stretches.{Listing, last_locator, stretch_at, from_found, stretches}
use Rattle.list_stretches_spec.specs.Bulk.{Given, given_after, stretch_room, list_stretches}
use Rattle.host_locators.specs.Locators.{refusal_before}
use Rattle.host_finals.specs.Stretches.{stretches_in, asked_stretches}
use Rattle.host_final_answers.specs.Answers.{whole_stretches, counts_fit}
use Rattle.std.specs.Prelude.{Err, Ok, Result}
use Rattle.base.specs.declared.refusal.Refusal.{Refusal}
use Rattle.list_stretch_bytes.specs.declared.Stretches as stretches-answer
use Rattle.list_stretch_bytes.specs.declared.Stretches.TheVariants.{Last, More}

-- no more stretches than asked for
pub few_stretches : (c : Committee) (bs : List Block) (k : Listing) (n : ℕ) (after : Option TransactionLocator) → length (stretches c bs k n after) ≤ n
unfolding stretches from_found
few_stretches c bs k zero after = omega arith
few_stretches c bs k (suc n) after = go (k.next after) (few_stretches c bs k n)
  where
    go : (o : Option TransactionLocator) → ((b : Option TransactionLocator) → length (stretches c bs k n b) ≤ n)
        → length (from_found o λ l. stretch_at c bs k l ∷ stretches c bs k n (some (last_locator (stretch_at c bs k l)))) ≤ suc n
    go none h = omega arith
    go (some l) h = omega (arith, h (some (last_locator (stretch_at c bs k l))))

-- so the answer leaves room for the word
given_few : (c : Committee) (s ws : List ℕ) (k : Listing) (after : Option TransactionLocator) (g : Given) → (list_stretches c s k ws after).answer ≡ answered g
    → g.stretches ≤ stretch_room ws
unfolding list_stretches checked given_after
given_few c s ws k after g e = by (passes (next_final_checks c s)) e
  where
    told : Given
    told = given_after k after (stretches c (blocks_of s) k (stretch_room ws) after)

    by : (t : Bool) → ◌≡◌ {A = Answer Given} (pick t (answered told) (refused (refusal (next_final_checks c s)))) (answered g) → g.stretches ≤ stretch_room ws
    by true e = let z : told ≡ g = cc in omega (arith, ap (λ (x : Given). x.stretches) z, few_stretches c (blocks_of s) k (stretch_room ws) after)
    by false e = let z : ◌≡◌ {A = ℕ} 0 1 = cc in absurd (omega arith)

pub counts_fit_lem : (c : Committee) (s ws : List ℕ) (k : Listing) (after : Option TransactionLocator) (r : Result stretches-answer.Stretches Refusal)
    → length ws < 2 ^ 64
    → as_stretches r ≡ (list_stretches c s k ws after).answer → counts_fit r
unfolding as_stretches
counts_fit_lem c s ws k after (Ok (Last n)) h e = omega (arith, given_few c s ws k after _ (sym e))
counts_fit_lem c s ws k after (Ok (More n)) h e = omega (arith, given_few c s ws k after _ (sym e))
counts_fit_lem c s ws k after (Err r) h e = tt

module _ (c : Committee) (s : List ℕ) (k : Listing) (o : Option (Option TransactionLocator)) (out : List ℕ) where
  pub stretches_malformed : o ≡ none → asked_stretches c s k o out ≡ record { answer = refused (refusal_before 20 c s); stretches = out }
  unfolding asked_stretches
  stretches_malformed e = rw e

  pub stretches_unsized : (after : Option TransactionLocator) → o ≡ some after → whole_stretches out ≡ false
      → asked_stretches c s k o out ≡ record { answer = refused (refusal_before 40 c s); stretches = out }
  unfolding asked_stretches
  stretches_unsized after e h = rw (e, h)

  pub stretches_asked : (after : Option TransactionLocator) → o ≡ some after → whole_stretches out ≡ true → asked_stretches c s k o out ≡ stretches_in c s k
      after out
  unfolding asked_stretches
  stretches_asked after e h = rw (e, h)
