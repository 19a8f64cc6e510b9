-- The owners rung are the fewest, then of most stake, then first, and no other set is. Assumes nothing.
use mathlib.Core.Path.{◌≡◌, refl, sym, ap, ◌∙◌, subst}
use mathlib.Core.Bool.{Bool, true, false, not, ◌&&◌, ◌||◌}
use mathlib.Core.List.{List}
use Prim.Native.Nat.{ℕ, ◌+◌, ◌*◌, ◌≤◌, ◌<◌}
use native.Mathlib.Omega.{arith}
use native.Mathlib.Decide.{dec_le}
use lib.ListN.{length, take}
use borrow.Author.Tests.{lt-ltb, not-true}
use Rattle.base.specs.Lists.{keep, count_from, before, ◌∈◌, Once}
use Rattle.base.proofs.Tests.{fails, not_both, and_left, and_right, same_test}
use Rattle.base.proofs.Members.{keep_in, in_keep, in_count_from, count_from_in}
use Rattle.base.proofs.Once.{once_keep, once_count_from}
use Rattle.base.proofs.Orders.{before_total}
use Rattle.committee.specs.Committee.{AuthorityIndex, Committee, is_quorum, known, get_stake}
use Rattle.committee_set.specs.AuthoritySet.{AuthoritySet, member, members, number_of_voters, united, set_of, stake_of}
use Rattle.committee.proofs.Bounds.{known_below, more_quorum}
use Rattle.committee_set.proofs.Stakes.{weigh, weigh_same, stake_of_lem}
use Rattle.committee_set.proofs.Members.{stake_members, members_in, in_members}
use Rattle.committee_set.proofs.Votes.{member_united}
use Rattle.committee_set.proofs.Words.{Small, set_ext}
use Rattle.ring_owners.specs.Rung.{ringable, Suffices, Rung}
use Rattle.ring_owners.specs.Ranked.{reached, ranked, rung}
use Rattle.ring_owners.proofs.Totals.{total, total_sum, topmost, take_most}
use Rattle.ring_owners.proofs.Ranking.{Fits, ranked_falls, ranked_total, ranked_length, ranked_in, ranked_once}
use Rattle.ring_owners.proofs.Weights.{bonus, scale, weight, stake_fits, weight_fits, weight_total, first_more, Ascends}
use Rattle.ring_owners.proofs.Kept.{keep_keep, keep_same, keep_all, keep_front, take_in, take_length, set_in, in_set, small_set, kept_ascends, Until}
use Rattle.ring_owners.proofs.Kept.{until, weigh_apart}

module _ (c : Committee) (few : length c ≤ 128) (v r : AuthoritySet) where
  -- a set of owners who can be rung
  abbrev Further : AuthoritySet → Type 0
  Further w = (a : AuthorityIndex) → member w a ≡ true → ringable c v r a ≡ true

  abbrev rank : List AuthorityIndex
  rank = ranked c (reached c v r)

  ringable_known : (a : AuthorityIndex) → ringable c v r a ≡ true → a < length c
  unfolding ringable
  ringable_known a h = known_below c a (and_left (known c a) _ h)

  apart : (a : AuthorityIndex) → member v a ≡ true → ringable c v r a ≡ false
  unfolding ringable
  apart a h = fails _ (λ k. not_both h (not-true (member v a) (and_right (member r a) _ (and_right (known c a) _ k))))

  -- ---- any such set, against the first in rank

  kept_members : (w : AuthoritySet) → Further w → members w ≡ keep (member w) (reached c v r)
  unfolding members reached
  kept_members w h = sym (keep_keep (member w) (ringable c v r) (count_from 0 128) h)

  total_members : (w : AuthoritySet) → Further w → (f : AuthorityIndex → ℕ) → total f (members w) ≡ total f (keep (member w) rank)
  total_members w h f = ap (total f) (kept_members w h) ∙ sym (ranked_total c f (member w) (reached c v r))

  count_members : (w : AuthoritySet) → Further w → number_of_voters w ≡ length (keep (member w) rank)
  unfolding number_of_voters
  count_members w h = ap length (kept_members w h) ∙ sym (ranked_length c (member w) (reached c v r))

  at_most : (w : AuthoritySet) → Further w → (f : AuthorityIndex → ℕ) → Fits c f → total f (members w) ≤ total f (take (number_of_voters w) rank)
  at_most w h f k = rw (total_members w h f, count_members w h) (topmost f (member w) rank (ranked_falls c f k (reached c v r)))

  stake_is : (w : AuthoritySet) → Further w → stake_of c w ≡ total (get_stake c) (members w)
  stake_is w h = stake_members c w few (λ a m. ringable_known a (h a m)) ∙ sym (total_sum (get_stake c) (members w))

  -- the stake of such a set and the voters'
  both_stake : (w : AuthoritySet) → Further w → stake_of c (united v w) ≡ stake_of c v + stake_of c w
  both_stake w h =
      let both : weigh (member (united v w)) c ≡ weigh (λ a. member v a || member w a) c = weigh_same _ _ c (λ a l. member_united v w a) in
      rw (stake_of_lem c (united v w), both, stake_of_lem c v, stake_of_lem c w)
      (sym (weigh_apart (member v) (member w) c (λ a k. fails (member w a) (λ m. not_both (h a m) (apart a k)))))

  -- ---- the set of the first k in rank

  in_rank : (a : AuthorityIndex) → a ∈ rank → ringable c v r a ≡ true
  unfolding reached
  in_rank a m = (keep_in (ringable c v r) (count_from 0 128) (ranked_in c (reached c v r) m)).1

  rank_once : Once rank
  unfolding reached
  rank_once = ranked_once c (reached c v r) (once_keep (ringable c v r) (once_count_from 0 128))

  first_further : (k : ℕ) → Further (set_of (take k rank))
  first_further k a h = in_rank a (take_in k rank (set_in (take k rank) a h))

  first_kept : (k : ℕ) → keep (member (set_of (take k rank))) rank ≡ take k rank
  first_kept k = keep_front (member (set_of (take k rank))) k rank rank_once (λ a m h. set_in (take k rank) a h) (λ a m. in_set (take k rank) a m)

  first_total : (k : ℕ) (f : AuthorityIndex → ℕ) → total f (members (set_of (take k rank))) ≡ total f (take k rank)
  first_total k f = total_members (set_of (take k rank)) (first_further k) f ∙ ap (total f) (first_kept k)

  first_count : (k : ℕ) → k ≤ length rank → number_of_voters (set_of (take k rank)) ≡ k
  first_count k h = count_members (set_of (take k rank)) (first_further k) ∙ ap length (first_kept k) ∙ take_length k rank h

  pub first_stake : (k : ℕ) → stake_of c (set_of (take k rank)) ≡ total (get_stake c) (take k rank)
  first_stake k = stake_is (set_of (take k rank)) (first_further k) ∙ first_total k (get_stake c)

  first_small : (k : ℕ) → Small (set_of (take k rank))
  first_small k = small_set (take k rank) (λ a m. let l : a < length c = ringable_known a (in_rank a (take_in k rank m)) in omega arith)

  -- ---- all of them, with the voters

  all_member : (a : AuthorityIndex) → a < 128 → member (set_of (reached c v r)) a ≡ ringable c v r a
  unfolding reached
  all_member a l =
      same_test _ _
      (λ h. (keep_in (ringable c v r) (count_from 0 128) (set_in (reached c v r) a h)).1)
      (λ h. in_set (reached c v r) a (in_keep (ringable c v r) (count_from 0 128) (in_count_from 0 128 a (omega arith) (omega arith)) h))

  all_further : Further (set_of (reached c v r))
  unfolding reached
  all_further a h = (keep_in (ringable c v r) (count_from 0 128) (set_in (reached c v r) a h)).1

  all_members : members (set_of (reached c v r)) ≡ reached c v r
  unfolding members reached
  all_members = keep_same (member (set_of (reached c v r))) (ringable c v r) (count_from 0 128) (λ a m. all_member a (omega (arith, (count_from_in 0 128 m).1)))

  rank_total : (f : AuthorityIndex → ℕ) → total f rank ≡ total f (reached c v r)
  unfolding reached
  rank_total f =
      ap (total f) (sym (keep_all (ringable c v r) rank in_rank)) ∙ ranked_total c f (ringable c v r) (reached c v r) ∙ ap (total f)
      (keep_keep (ringable c v r) (ringable c v r) (count_from 0 128) (λ a h. h))

  joined : (a : AuthorityIndex) → a < length c → member v a || ringable c v r a ≡ member (united v r) a
  unfolding ringable known
  joined a l = rw (lt-ltb a (length c) l, member_united v r a) (go (member v a) (member r a))
    where
      go : (s t : Bool) → s || (true && (t && not s)) ≡ s || t
      go true t = refl
      go false true = refl
      go false false = refl

  pub all_stake : stake_of c v + total (get_stake c) rank ≡ stake_of c (united v r)
  all_stake =
      let sum : total (get_stake c) rank ≡ weigh (ringable c v r) c =
      rank_total (get_stake c) ∙ ap (total (get_stake c)) (sym all_members) ∙ sym (stake_is (set_of (reached c v r)) all_further) ∙ stake_of_lem c
      (set_of (reached c v r)) ∙ weigh_same _ _ c (λ a l. all_member a (omega arith)) in
      let both : weigh (λ a. member v a || ringable c v r a) c ≡ weigh (member (united v r)) c = weigh_same _ _ c joined in
      rw (sum, stake_of_lem c v, weigh_apart (member v) (ringable c v r) c apart, both, stake_of_lem c (united v r))

  -- ---- the set that is rung

  pub reached_until : Until c (stake_of c v) rank (rung c v r)
  unfolding rung
  reached_until = until c (stake_of c v) rank

  pub no_more : (w : AuthoritySet) → Suffices c v r w → is_quorum c (stake_of c (united v r)) ≡ true
  no_more w s =
      let most : total (get_stake c) (members w) ≤ total (get_stake c) (take (number_of_voters w) rank) = at_most w s.further (get_stake c) (stake_fits c) in
      more_quorum c (stake_of c (united v w)) (stake_of c (united v r))
      (omega (arith, most, both_stake w s.further, stake_is w s.further, all_stake, take_most (get_stake c) (number_of_voters w) rank)) s.quorum

  pub rung_is_it_lem : is_quorum c (stake_of c (united v r)) ≡ true → Rung c v r (set_of (rung c v r))
  rung_is_it_lem q = rw reached_until.are (it reached_until.k reached_until.inside reached_until.short (reached_until.enough (rw all_stake q)))
    where
      it : (k : ℕ) → k ≤ length rank → ((m : ℕ) → m < k → is_quorum c (stake_of c v + total (get_stake c) (take m rank)) ≡ false) → is_quorum c
          (stake_of c v + total (get_stake c) (take k rank)) ≡ true
          → Rung c v r (set_of (take k rank))
      it k l short enough =
          record {
            few = record {
              suffices = record {
                low = (first_small k).low;
                high = (first_small k).high;
                further = first_further k;
                quorum = rw
                    (both_stake (set_of (take k rank)) (first_further k), first_stake k) enough;
              };
              fewest = λ u s. fewest u s (dec_le k (number_of_voters u));
            };
            larger = larger;
            first = λ u s n e. fails _ (λ b. first u s n e b);
          }
        where
          count : number_of_voters (set_of (take k rank)) ≡ k
          count = first_count k l

          fewest : (u : AuthoritySet) → Suffices c v r u → Dec (k ≤ number_of_voters u) → number_of_voters (set_of (take k rank)) ≤ number_of_voters u
          fewest u s (yes h) = omega (arith, count)
          fewest u s (no h) =
              let most = at_most u s.further (get_stake c) (stake_fits c) in
              absurd (not_both (more_quorum c (stake_of c (united v u)) (stake_of c v + total (get_stake c) (take (number_of_voters u) rank))
              (omega (arith, most, both_stake u s.further, stake_is u s.further)) s.quorum) (short (number_of_voters u) (omega arith)))

          larger : (u : AuthoritySet) → Suffices c v r u → number_of_voters u ≡ number_of_voters (set_of (take k rank)) → stake_of c u ≤ stake_of c
              (set_of (take k rank))
          larger u s n =
              let most : total (get_stake c) (members u) ≤ total (get_stake c) (take k rank) = rw (n ∙ count) at
              (at_most u s.further (get_stake c) (stake_fits c)) in
              omega (arith, most, stake_is u s.further, first_stake k)

          first : (u : AuthoritySet) → Suffices c v r u → number_of_voters u ≡ number_of_voters (set_of (take k rank)) → stake_of c u ≡ stake_of c
              (set_of (take k rank))
              → before (members u) (members (set_of (take k rank))) ≡ true → ⊥
          first u s n e b =
              let w : AuthoritySet = set_of (take k rank) in
              let most : total (weight c) (members u) ≤ total (weight c) (take k rank) = rw (n ∙ count) at (at_most u s.further (weight c) (weight_fits c))
              in
              let stakes : total (get_stake c) (members u) ≡ total (get_stake c) (members w) = sym (stake_is u s.further) ∙ e ∙ stake_is w (first_further k) in
              let scales : total (get_stake c) (members u) * scale ≡ total (get_stake c) (members w) * scale = ap (λ (m : ℕ). m * scale) stakes in
              let more : total bonus (members w) < total bonus (members u) = first_more 0 (members u) (members w) (ascends u) (ascends w)
              (unfold number_of_voters in n) b in
              omega (arith, most, first_total k (weight c), weight_total c (members u), weight_total c (members w), scales, more)
            where
              ascends : (x : AuthoritySet) → Ascends 0 (members x)
              ascends x = unfold members in kept_ascends (member x) 0 128 (omega arith)

-- ---- and no other

module _ (c : Committee) (few : length c ≤ 128) (v r : AuthoritySet) where
  same_members : (w u : AuthoritySet) → members w ≡ members u → (a : AuthorityIndex) → a < 128 → member w a ≡ member u a
  same_members w u e a l = same_test _ _ (λ h. one w u e h) (λ h. one u w (sym e) h)
    where
      one : (x y : AuthoritySet) → members x ≡ members y → member x a ≡ true → member y a ≡ true
      one x y d h = members_in y a (subst (λ (xs : List AuthorityIndex). a ∈ xs) d (in_members x a l h))

  pub only_one : (w u : AuthoritySet) → Rung c v r w → Rung c v r u → w ≡ u
  only_one w u g h =
      let sw = g.few.suffices in
      let su = h.few.suffices in
      let counts : number_of_voters w ≡ number_of_voters u = omega (arith, g.few.fewest u su, h.few.fewest w sw) in
      let stakes : stake_of c w ≡ stake_of c u = omega (arith, g.larger u su (sym counts), h.larger w sw counts) in
      let lists : members w ≡ members u = before_total (members w) (members u) (h.first w sw counts stakes) (g.first u su (sym counts) (sym stakes)) in
      set_ext w u (record { low = sw.low; high = sw.high }) (record { low = su.low; high = su.high }) (same_members w u lists)
