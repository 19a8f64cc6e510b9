-- One memory for votes and rejects: at first nothing is remembered, and a half that was lent comes back. Assumes nothing.
use mathlib.Core.Path.{◌≡◌, sym, ap, subst, ◌∙◌}
use mathlib.Core.List.{List, ◌++◌}
use Prim.Native.Nat.{ℕ, ◌+◌, ◌*◌, ◌<◌, ◌≤◌}
use native.Mathlib.Omega.{arith}
use lib.ListN.{length, get_or, take, drop, replicate, length-replicate}
use lib.Seq.{take_at, drop_at, length-take-le, get_or-take, get_or-drop}
use borrow.Rule.Slice.PartMut.{post_of, put_mid, mid_len, same_len_mid, take_put}
use Rattle.base.specs.Le.{Bytes}
use Rattle.base.proofs.Lists.{zeros_at}
use Rattle.record_spec.specs.Reference.{TransactionLocator}
use Rattle.final_spec.specs.Voters.{Speech, own_vote}
use Rattle.final_readings_spec.specs.Rejecting.{own_reject}
use Rattle.final_voters.specs.Walk.{Remembers, RemembersBoth}

module _ (s : Bytes) (order : List ℕ) (l : TransactionLocator) where
  remembers_nothing : (own : Speech) (memo : List ℕ) → ((k : ℕ) → k < length order → get_or memo (3 * k + 2) 0 ≡ 0) → Remembers own s order l memo
  unfolding Remembers
  remembers_nothing own memo z k h e = absurd (omega (arith, z k h, e))

  pub both_nothing : length order ≤ 1024 → RemembersBoth s order l (replicate 6144 0)
  both_nothing few =
      let zeros : List ℕ = replicate 6144 0 in
      record {
        few = few;
        long = length-replicate {A = ℕ} 6144 0;
        votes = remembers_nothing own_vote (take 3072 zeros) (λ k h. get_or-take 3072 zeros (3 * k + 2) 0 (omega (arith, h, few)) ∙ zeros_at 6144 (3 * k + 2));
        rejects = remembers_nothing own_reject (take 3072 (drop 3072 zeros))
            (λ k h. get_or-take 3072 (drop 3072 zeros) (3 * k + 2) 0 (omega (arith, h, few)) ∙ get_or-drop 3072 zeros (3 * k + 2) 0 ∙ zeros_at 6144
            (3072 + (3 * k + 2)));
      }

  module _ (memo : List ℕ) (r : RemembersBoth s order l memo) (ys : List ℕ) where
    pub votes_back : length ys ≡ length (take 3072 memo) → Remembers own_vote s order l ys → RemembersBoth s order l (put_mid 0 3072 memo ys)
    votes_back e w =
        let n : length ys ≡ 3072 = e ∙ mid_len 0 3072 memo (omega (arith, r.long)) in
        record {
          few = r.few;
          long = same_len_mid 0 3072 memo ys e ∙ r.long;
          votes = subst (Remembers own_vote s order l) (sym (take_at ys (post_of 0 3072 memo) 3072 n)) w;
          rejects = subst (λ (xs : List ℕ). Remembers own_reject s order l (take 3072 xs)) (sym (drop_at ys (post_of 0 3072 memo) 3072 n)) r.rejects;
        }

    pub rejects_back : length ys ≡ length (take 3072 (drop 3072 memo)) → Remembers own_reject s order l ys → RemembersBoth s order l (put_mid 3072 3072 memo ys)
    rejects_back e w =
        let n : length ys ≡ 3072 = e ∙ mid_len 3072 6144 memo (omega (arith, r.long)) in
        let f = drop_at (take 3072 memo) (ys ++ post_of 3072 3072 memo) 3072 (length-take-le 3072 memo (omega (arith, r.long))) in
        record {
          few = r.few;
          long = same_len_mid 3072 3072 memo ys e ∙ r.long;
          votes = subst (Remembers own_vote s order l) (sym (take_put 3072 3072 memo ys (omega (arith, r.long)))) r.votes;
          rejects = subst (Remembers own_reject s order l) (sym (ap (take 3072) f ∙ take_at ys (post_of 3072 3072 memo) 3072 n)) w;
        }
