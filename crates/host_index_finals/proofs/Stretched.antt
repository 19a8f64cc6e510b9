-- A list with the index in bulk, for a host. Assumes nothing.
use mathlib.Core.Path.{◌≡◌, sym, ap}
use mathlib.Core.Bool.{Bool, true, false}
use mathlib.Core.List.{List, [], ◌∷◌}
use mathlib.Core.Option.{Option, none, some}
use Prim.Native.Nat.{ℕ, ◌^◌, ◌≤◌, ◌<◌}
use native.Mathlib.Omega.{arith}
use lib.Dec.{lit<}
use lib.ListN.{length}
use Rattle.base.specs.Lists.{pick}
use Rattle.base.specs.Checks.{◌⇒◌, refusal, passes, Answer, refused, answered, checked}
use Rattle.base.proofs.Lists.{none_of, and}
use Rattle.base.proofs.Refusals.{Numbered, refusal_first, refusal_then}
use Rattle.committee.specs.Committee.{Committee}
use Rattle.record_spec.specs.Reference.{TransactionLocator}
use Rattle.final_spec.specs.Finality.{blocks_of}
use Rattle.final_spec.specs.NextFinal.{next_final_checks}
use Rattle.list_stretch_bytes.specs.Answers.{as_stretches}
use Rattle.list_stretches_spec.specs.Stretches.{Listing, stretches}
use Rattle.list_stretches_spec.specs.Bulk.{Given, given_after, stretch_room}
use Rattle.index_list_spec.specs.Indexed.{indexed_checks, list_stretches_indexed}
use Rattle.host_final_answers.specs.Answers.{whole_stretches, counts_fit}
use Rattle.host_finals.proofs.Stretched.{few_stretches}
use Rattle.host_index_finals.specs.Indexed.{refusal_indexed, stretches_indexed_in, asked_stretches_indexed}
use Rattle.std.specs.Prelude.{Err, Ok, Result}
use Rattle.base.specs.declared.refusal.Refusal.{Refusal}
use Rattle.list_stretch_bytes.specs.declared.Stretches as stretches-answer
use Rattle.list_stretch_bytes.specs.declared.Stretches.TheVariants.{Last, More}

-- ---- refusals

module _ (n : ℕ) (c : Committee) (s ix : List ℕ) where
  pub indexed_first : (refusal (indexed_checks c s ix) ≡ 0 → ⊥) → refusal (indexed_checks c s ix) ≡ refusal_indexed n c s ix
  unfolding refusal_indexed
  indexed_first h = sym (refusal_first (indexed_checks c s ix) ((true ⇒ n) ∷ []) h)

  numbered : Numbered (indexed_checks c s ix)
  unfolding indexed_checks next_final_checks
  numbered = and (lit< tt) (and (lit< tt) (and (lit< tt) none_of))

  pub indexed_then : refusal (indexed_checks c s ix) ≡ 0 → n ≡ refusal_indexed n c s ix
  unfolding refusal_indexed refusal
  indexed_then h = sym (refusal_then (indexed_checks c s ix) ((true ⇒ n) ∷ []) numbered h)

-- ---- counts

given_few : (c : Committee) (s ix ws : List ℕ) (k : Listing) (after : Option TransactionLocator) (g : Given) → (list_stretches_indexed c s ix k ws after).answer
    ≡ answered g → g.stretches ≤ stretch_room ws
unfolding list_stretches_indexed checked given_after
given_few c s ix ws k after g e = by (passes (indexed_checks c s ix)) e
  where
    told : Given
    told = given_after k after (stretches c (blocks_of s) k (stretch_room ws) after)

    by : (t : Bool) → ◌≡◌ {A = Answer Given} (pick t (answered told) (refused (refusal (indexed_checks c s ix)))) (answered g) → g.stretches ≤ stretch_room ws
    by true e = let z : told ≡ g = cc in omega (arith, ap (λ (x : Given). x.stretches) z, few_stretches c (blocks_of s) k (stretch_room ws) after)
    by false e = let z : ◌≡◌ {A = ℕ} 0 1 = cc in absurd (omega arith)

pub counts_fit_lem : (c : Committee) (s ix ws : List ℕ) (k : Listing) (after : Option TransactionLocator) (r : Result stretches-answer.Stretches Refusal)
    → length ws < 2 ^ 64
    → as_stretches r ≡ (list_stretches_indexed c s ix k ws after).answer → counts_fit r
unfolding as_stretches
counts_fit_lem c s ix ws k after (Ok (Last n)) h e = omega (arith, given_few c s ix ws k after _ (sym e))
counts_fit_lem c s ix ws k after (Ok (More n)) h e = omega (arith, given_few c s ix ws k after _ (sym e))
counts_fit_lem c s ix ws k after (Err r) h e = tt

module _ (c : Committee) (s ix : List ℕ) (k : Listing) (o : Option (Option TransactionLocator)) (out : List ℕ) where
  pub stretches_malformed : o ≡ none → asked_stretches_indexed c s ix k o out ≡ record { answer = refused (refusal_indexed 20 c s ix); stretches = out }
  unfolding asked_stretches_indexed
  stretches_malformed e = rw e

  pub stretches_unsized : (after : Option TransactionLocator) → o ≡ some after → whole_stretches out ≡ false
      → asked_stretches_indexed c s ix k o out ≡ record { answer = refused (refusal_indexed 40 c s ix); stretches = out }
  unfolding asked_stretches_indexed
  stretches_unsized after e h = rw (e, h)

  pub stretches_asked : (after : Option TransactionLocator) → o ≡ some after → whole_stretches out ≡ true → asked_stretches_indexed c s ix k o out ≡
      stretches_indexed_in c s ix k after out
  unfolding asked_stretches_indexed
  stretches_asked after e h = rw (e, h)
