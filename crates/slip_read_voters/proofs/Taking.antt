-- Voters taken one after the other. Assumes nothing.
use mathlib.Core.Path.{◌≡◌, refl, sym, ◌∙◌}
use mathlib.Core.Logic.{◌⊎◌, inl, inr}
use mathlib.Core.Bool.{Bool, true, false, ◌||◌, or-false, and-true}
use mathlib.Core.List.{List, [], ◌∷◌, ◌++◌, map, map-append}
use mathlib.Core.Option.{Option, none, some, none-ne-some}
use Prim.Native.Nat.{ℕ, ◌+◌, ◌-◌, ◌≤◌, ◌<◌}
use native.Mathlib.Nat.{add-sub_cancel_left}
use native.Mathlib.Omega.{arith}
use native.Mathlib.Decide.{dec_lt}
use lib.Dec.{ltb, eqb}
use lib.ListN.{length, take, drop, length-drop}
use borrow.Author.Tests.{lt-ltb, le-ltb, ltb-true, eqb-true, eqb-false, ne_eqb}
use Rattle.base.specs.Lists.{pick, any_of, all_of}
use Rattle.base.specs.Le.{Bytes, le_at}
use Rattle.base.specs.Read.{give, onward, ◌>>=◌, items, number, Part, repeated}
use Rattle.base.proofs.Tests.{or_cases, neither_left, neither_right}
use Rattle.base.proofs.Read.{part}
use Rattle.base.proofs.Passing.{all_append}
use Rattle.base.proofs.Fixed.{fixed_items, fixed_number, least_zero, least_bind, short_at, items_at, number_at}
use Rattle.committee.specs.Committee.{AuthorityIndex}
use Rattle.committee_set.specs.AuthoritySet.{AuthoritySet, nobody, member, inserted}
use Rattle.committee_set.proofs.Votes.{member_nobody, member_inserted}
use Rattle.record_spec.specs.Reference.{TransactionLocator}
use Rattle.record_spec.specs.Block.{Block}
use Rattle.slip_spec.specs.Slip.{SlipVoter, voters_ascend, read_voter}
use Rattle.slip_spec.specs.Supplied.{supplied_blocks}
use Rattle.slip_spec.specs.Paths.{to_block, on_from, leads}
use Rattle.slip_spec.specs.Reading.{is_not_given, ends_at_vote}
use Rattle.slip_read_paths.specs.declared.Led as code
use Rattle.slip_read_verdicts.specs.Verdict.{verdict, worse, voter_verdict}
use Rattle.slip_read_paths.specs.Walk.{Noted, LedTo}
use Rattle.slip_read_verdicts.proofs.Verdicts.{worse_both}
use Rattle.base.proofs.Lists.{any_append}
use Rattle.slip_read_voters.specs.Step.{voter_at, Speak, voters_verdict, Read}
use Rattle.slip_read_voters.proofs.Listed.{Listed, listed_start, listed_done, listed_none, listed_falls, listed_on}

-- ---- one voter

module _ (s : Bytes) (p : ℕ) where
  pub voter_short : length s - p < 10 → read_voter (drop p s) ≡ none
  unfolding read_voter
  voter_short h = least_bind (number 8) _ 8 2 (fixed_number 8) (λ a. least_bind (number 2) _ 2 0 (fixed_number 2) (λ n. least_zero _)) (drop p s)
      (omega (arith, length-drop p s))

  pub voter_cut : p + 10 ≤ length s → length s - (p + 10) < le_at 2 s (p + 8) → read_voter (drop p s) ≡ none
  unfolding read_voter ◌>>=◌ onward
  voter_cut h k =
      let e : p + 8 + 2 ≡ p + 10 = omega arith in
      rw (
        number_at 8 s p (omega arith),
        number_at 2 s (p + 8) (omega arith),
        e,
        short_at (items (le_at 2 s (p + 8))) (le_at 2 s (p + 8))
            (fixed_items (le_at 2 s (p + 8))) s (p + 10) k,
      )

  pub voter_reads : (a n : ℕ) → a ≡ le_at 8 s p → n ≡ le_at 2 s (p + 8) → p + 10 + n ≤ length s → read_voter (drop p s) ≡ some
      (part (voter_at s p a (p + 10 + n)) (drop (p + 10 + n) s))
  unfolding read_voter ◌>>=◌ onward give voter_at
  voter_reads a n f g h =
      let e : p + 8 + 2 ≡ p + 10 = omega arith in
      rw (number_at 8 s p (omega arith), number_at 2 s (p + 8) (omega arith), e, ← g, items_at n s (p + 10) h, ← f, add-sub_cancel_left (p + 10) n)

-- ---- their authors

pub speak_none : Speak nobody []
unfolding Speak any_of
speak_none a h = member_nobody a

pub speak_more : (v : AuthoritySet) (as' : List AuthorityIndex) (a : AuthorityIndex) → Speak v as' → Speak (pick (ltb a 128) (inserted v a) v) (as' ++ a ∷ [])
unfolding Speak any_of
speak_more v as' a h b k = go (dec_lt a 128) ∙ sym (any_append (eqb b) as' (a ∷ []))
  where
    go : Dec (a < 128) → member (pick (ltb a 128) (inserted v a) v) b ≡ any_of (eqb b) as' || (eqb b a || false)
    go (yes m) = rw (lt-ltb a 128 m, or-false (eqb b a)) (member_inserted v a b ∙ rw (h b k))
    go (no m) = rw (le-ltb a 128 (omega arith), ne_eqb b a (λ (e : b ≡ a). omega arith), or-false (any_of (eqb b) as')) (h b k)

-- ---- what they show

module _ (bs : List Block) (l : TransactionLocator) (o : Option Block) where
  pub shows_none : 0 ≡ voters_verdict bs l o []
  unfolding voters_verdict verdict any_of all_of
  shows_none = refl

  pub shows_more : (vs : List SlipVoter) (v : SlipVoter) → voters_verdict bs l o (vs ++ v ∷ []) ≡ worse (voters_verdict bs l o vs)
      (voter_verdict bs l v.author v.path o)
  unfolding voters_verdict voter_verdict any_of all_of
  shows_more vs v =
      let lost : SlipVoter → Bool = λ w. is_not_given (on_from (leads bs w.path) o) in
      let right : SlipVoter → Bool = λ w. ends_at_vote l w.author (on_from (leads bs w.path) o) in
      rw (any_append lost vs (v ∷ []), all_append right vs (v ∷ []), or-false (lost v), and-true (right v))
      (sym (worse_both (any_of lost vs) (lost v) (all_of right vs) (right v)))

-- ---- the loop

pub lower_trans : (a b c : ℕ) → ltb a b ≡ true → ltb b c ≡ true → ltb a c ≡ true
lower_trans a b c h k = lt-ltb a c (omega (arith, ltb-true a b h, ltb-true b c k))

pub not_first : {i : ℕ} → eqb i 0 ≡ false → 0 < i
not_first {i} h = positive (dec_lt 0 i)
  where
    positive : Dec (0 < i) → 0 < i
    positive (yes k) = k
    positive (no k) = absurd (eqb-false i 0 h (omega arith))

abbrev pub author_of : SlipVoter → AuthorityIndex
author_of v = v.author

module _ (s : Bytes) (from n : ℕ) (q : Bytes) (order votes : List ℕ) (certifier : code.Led) where
  pub record Taking (at : ℕ) (authors : AuthoritySet) (shown last i : ℕ) : Type 0 where
    pub taken : List SlipVoter
    pub listed : Listed read_voter author_of ltb lower_trans s from n at i last taken
    pub speak : Speak authors (map author_of taken)
    pub shows : (l : TransactionLocator) → Noted q order l (length order) votes → (o : Option Block) → LedTo q order certifier (on_from to_block o)
        → shown ≡ voters_verdict (supplied_blocks q) l o taken

  pub taking_start : from ≤ length s → Taking from nobody 0 0 0
  taking_start h =
      record {
        taken = [];
        listed = listed_start read_voter author_of ltb lower_trans s from n 0 h;
        speak = speak_none;
        shows = λ l k o m. shows_none (supplied_blocks q) l o;
      }

  module _ (at : ℕ) (authors : AuthoritySet) (shown last i : ℕ) (t : Taking at authors shown last i) where
    pub taking_done : n ≤ i → Read s from n q order votes certifier at authors shown
    unfolding voters_ascend
    taking_done h =
        record {
          voters = t.taken;
          reads = listed_done read_voter author_of ltb lower_trans s from n at i last t.taken t.listed h;
          inside = t.listed.inside;
          ascend = t.listed.rises;
          speak = t.speak;
          shows = t.shows;
        }

    module _ (more : i < n) where
      pub taking_none : read_voter (drop at s) ≡ none → (r : Part (List SlipVoter)) → repeated n read_voter (drop from s) ≡ some r → voters_ascend r.value ≡
          false
      taking_none h r e = absurd (none-ne-some r (sym (listed_none read_voter author_of ltb lower_trans s from n at i last t.taken t.listed more h)
          ∙ e))

      module _ (a end : ℕ) (took : read_voter (drop at s) ≡ some (part (voter_at s at a end) (drop end s))) where
        pub taking_falls : eqb i 0 || ltb last a ≡ false → (r : Part (List SlipVoter)) → repeated n read_voter (drop from s) ≡ some r → voters_ascend r.value
            ≡ false
        unfolding voters_ascend voter_at
        taking_falls h = listed_falls read_voter author_of ltb lower_trans s from n at i last t.taken t.listed more _ end took
            (not_first (neither_left (eqb i 0) _ h)) (neither_right (eqb i 0) _ h)

        pub taking_on : (own new : ℕ) (with : AuthoritySet) → eqb i 0 || ltb last a ≡ true → end ≤ length s → with ≡ pick (ltb a 128) (inserted authors a)
            authors → new ≡ worse shown own
            → ((l : TransactionLocator) → Noted q order l (length order) votes → (o : Option Block) → LedTo q order certifier (on_from to_block o)
            → own ≡ voter_verdict (supplied_blocks q) l a (take (end - (at + 10)) (drop (at + 10) s)) o)
            → Taking end with new a (i + 1)
        unfolding voter_at
        taking_on own new with h k e f g =
            record {
              taken = t.taken ++ voter_at s at a end ∷ [];
              listed = listed_on read_voter author_of ltb lower_trans s from n at i last t.taken t.listed more _ end took
                  (λ z. not_last (or_cases (eqb i 0) (ltb last a) h) z) k;
              speak = rw (e, map-append author_of t.taken (voter_at s at a end ∷ [])) (speak_more authors (map author_of t.taken) a t.speak);
              shows = λ l m o z. f ∙ rw (t.shows l m o z, g l m o z) (sym (shows_more (supplied_blocks q) l o t.taken (voter_at s at a end)));
            }
          where
            not_last : (eqb i 0 ≡ true) ⊎ (ltb last a ≡ true) → 0 < i → ltb last a ≡ true
            not_last (inl z) y = absurd (omega (arith, eqb-true i 0 z))
            not_last (inr z) y = z
