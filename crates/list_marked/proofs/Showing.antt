-- Who certifies by the marks, and what the list shows. Assumes nothing.
use mathlib.Core.Path.{◌≡◌, refl, sym, ap, ap₂, subst, ◌∙◌}
use mathlib.Core.Logic.{◌⊎◌, inl, inr}
use mathlib.Core.Bool.{Bool, true, false, not, ◌||◌, or-true, and-false}
use mathlib.Core.List.{List, map}
use Prim.Native.Nat.{ℕ, ◌+◌, ◌≤◌, ◌<◌}
use native.Mathlib.Omega.{arith}
use native.Mathlib.Decide.{ℕ_discrete}
use lib.Dec.{eqb}
use borrow.Author.Tests.{eq-eqb, lt-ltb}
use lib.ListN.{length, get_or, take, drop}
use Rattle.base.specs.Lists.{◌∈◌}
use Rattle.base.specs.Le.{Bytes}
use Rattle.base.proofs.Le.{AllBytes}
use Rattle.base.proofs.Tests.{fails, not_both, holds_or_not, and_right}
use Rattle.base.proofs.Members.{any_in, map_in, keep_in}
use Rattle.committee.specs.Committee.{AuthorityIndex, Committee, total_stake, quorum_of, is_quorum}
use Rattle.committee.proofs.Bounds.{more_quorum}
use Rattle.committee_set.specs.AuthoritySet.{AuthoritySet, inserted, member, set_of, stake_of}
use Rattle.committee_set.proofs.Votes.{member_set_of, member_inserted}
use Rattle.committee_set.proofs.Quorums.{stake_mono, counted_quorum, quorum_member}
use Rattle.record_spec.specs.Reference.{TransactionLocator}
use Rattle.record_spec.specs.Block.{Block, author}
use Rattle.store_spec.specs.Shares.{is_stored_share}
use Rattle.final_spec.specs.Voters.{votes_for, own_vote, voters, certifies, certifiers, is_final}
use Rattle.final_spec.specs.Finality.{blocks_of}
use Rattle.final_spec.proofs.Voters.{own_votes}
use Rattle.final_spec.proofs.Spoken.{SpokenAmong, spoken_among}
use Rattle.final_readings_spec.specs.Readings.{old, withdrawing, voters_in, is_final_in}
use Rattle.final_readings_spec.specs.Answers.{as_reading}
use Rattle.final_readings_spec.specs.declared.Reading.{Reading as AskedReading}
use Rattle.final_readings_spec.specs.declared.Reading.TheVariants.{Old, Withdrawing}
use Rattle.list_readings_spec.specs.Answers.{is_ordinary}
use Rattle.final_readings_spec.proofs.FinalsIn.{final_in_old}
use Rattle.final_readings_spec.proofs.CandidatesIn.{final_is_old}
use Rattle.list_readings_spec.specs.Lists.{is_listed, listing}
use Rattle.list_readings_spec.proofs.Between.{no_voters}
use Rattle.final_block_votes.specs.Walk.{SortedStore, block_at_place}
use Rattle.final_voters.specs.Walk.{spoken_at}
use Rattle.list_includes_spec.specs.Places.{set_at}
use Rattle.list_ancestry.specs.Heard.{HeardMarked}
use Rattle.final_certifying.specs.declared.Certifiers.{Certifiers}
use Rattle.list_walk.specs.Walk.{any_noted, counted, CountedRight, Certify, CertifyMarked}
use Rattle.list_walk.proofs.Counting.{counted_old, counted_new, counted_same, counted_none, none_rejects, last_unvoted}
use Rattle.list_walk.proofs.Beginning.{nobody_counts}
use Rattle.list_lanes.specs.Lanes.{wants_rejects, lane_ranges}
use Rattle.list_lanes.specs.declared.Wanted.{Wanted}
use Rattle.list_sweep.specs.Sweep.{MarksAt}
use Rattle.list_marked.specs.Marked.{list_for, MarkedIn, CertifiedAll, MayShow}
use Rattle.list_marked.proofs.Lanes.{stored_at, vote_mark, owned_votes, owned_rejects, shares_marked}

-- which reading wants rejects
reading_old : (r : AskedReading) → wants_rejects r ≡ false → as_reading r ≡ old
unfolding wants_rejects as_reading
reading_old Old h = refl
reading_old Withdrawing h = absurd (not_both refl h)

reading_new : (r : AskedReading) → wants_rejects r ≡ true → as_reading r ≡ withdrawing
unfolding wants_rejects as_reading
reading_new Old h = absurd (not_both h refl)
reading_new Withdrawing h = refl

-- words of 1,024 blocks are some
pub some_noted : (gone : List ℕ) → length gone ≡ 2048 → any_noted gone ≡ true
unfolding any_noted
some_noted gone e = lt-ltb 0 (length gone) (omega arith)

-- ---- the authors of those who vote

pub marked_in_more : (s : Bytes) (order marks : List ℕ) (n : ℕ) (v : AuthoritySet) → MarkedIn s order marks n v → MarkedIn s order marks (n + 1)
    (inserted v (author (block_at_place s order n)))
unfolding MarkedIn
marked_in_more s order marks n v f k h e = member_inserted v (author (block_at_place s order n)) (author (block_at_place s order k)) ∙ go (ℕ_discrete k n)
  where
    go : Dec (k ≡ n) → member v (author (block_at_place s order k)) || eqb (author (block_at_place s order k)) (author (block_at_place s order n)) ≡ true
    go (yes z) = rw (z, eq-eqb (author (block_at_place s order n)) (author (block_at_place s order n)) refl)
        (or-true (member v (author (block_at_place s order n))))
    go (no z) = rw (f k (omega arith) e)

pub marked_in_none : (s : Bytes) (order marks : List ℕ) (n : ℕ) (v : AuthoritySet) → MarkedIn s order marks n v → eqb (get_or marks n 0) 1 ≡ false → MarkedIn s
    order marks (n + 1) v
unfolding MarkedIn
marked_in_none s order marks n v f q k h e = go (ℕ_discrete k n)
  where
    go : Dec (k ≡ n) → member v (author (block_at_place s order k)) ≡ true
    go (yes z) = absurd (not_both (subst (λ (j : ℕ). eqb (get_or marks j 0) 1 ≡ true) z e) q)
    go (no z) = f k (omega arith) e

-- a set that has the author of every vote has quorum where the locator is final
voters_quorum : (c : Committee) (bs : List Block) (l : TransactionLocator) (v : AuthoritySet) →
    ((d : Block) → d ∈ bs → votes_for d l ≡ true → member v (author d) ≡ true) → is_final c bs l ≡ true → is_quorum c (stake_of c v) ≡ true
unfolding is_final certifiers certifies
voters_quorum c bs l v f h =
    let all_of : AuthoritySet = set_of (map author (certifiers c bs l)) in
    let q = quorum_member c (λ a. member all_of a ≡ true) (counted_quorum c all_of (λ a. member all_of a ≡ true) (λ a k e. e) h) in
    let x = any_in (eqb q.0) (map author (certifiers c bs l)) (sym (member_set_of (map author (certifiers c bs l)) q.0) ∙ q.1) in
    let b = map_in author (certifiers c bs l) x.1 in
    let s = keep_in (certifies c bs l) bs b.1 in
    more_quorum c (stake_of c (voters bs l b.0.reference)) (stake_of c v)
    (stake_mono c (voters bs l b.0.reference) v (λ a k e. own a (spoken_among own_vote bs l b.0.reference a e)))
    (and_right (not b.0.marked) _ s.1)
  where
    own : (a : AuthorityIndex) → SpokenAmong own_vote bs l a → member v a ≡ true
    own a x = let y = own_votes x.block l a x.heard in subst (λ (n : AuthorityIndex). member v n ≡ true) y.1 (f x.block x.stands y.0)

module _ (w : Wanted) (c : Committee) (s : Bytes) (order marks : List ℕ) (o : SortedStore s order) (few : length order ≤ 1024) where
  -- without quorum of those who vote nothing is final
  pub few_hidden : (v : AuthoritySet) → MarkedIn s order marks (length order) v → is_quorum c (stake_of c v) ≡ false → (l : TransactionLocator) → MarksAt
      (lane_ranges w s order) marks l → (list_for w c (blocks_of s)).shows l ≡ false
  unfolding MarkedIn listing is_listed
  few_hidden v f q l right = not_final (is_ordinary w.list) (fails (is_final_in (as_reading w.reading) c (blocks_of s) l)
      (λ t. not_both (voters_quorum c (blocks_of s) l v own (sym (final_is_old c (blocks_of s) l) ∙ final_in_old (as_reading w.reading) c (blocks_of s) l t))
      q))
    where
      own : (d : Block) → d ∈ blocks_of s → votes_for d l ≡ true → member v (author d) ≡ true
      own d m e =
          let p = stored_at s order o d m in
          subst (λ (x : Block). member v (author x) ≡ true) p.1.1 (f p.0 p.1.0
          (vote_mark w s order marks few l right p.0 p.1.0 ∙ ap (λ (x : Block). votes_for x l) p.1.1 ∙ e))

      not_final : (b : Bool) → is_final_in (as_reading w.reading) c (blocks_of s) l ≡ false → is_listed b (as_reading w.reading) c (blocks_of s) l ≡ false
      not_final true h = rw h (and-false (is_stored_share (blocks_of s) l))
      not_final false h = h

  -- ---- who certifies

  module _ (flags : List ℕ) (r : Certifiers) where
    pub certified_old : wants_rejects w.reading ≡ false → (gone : List ℕ) → CertifyMarked false c s order (take 1024 marks) gone flags r → CertifiedAll w c
        s order marks flags r
    unfolding CertifiedAll CertifyMarked
    certified_old t gone f l right = rw (reading_old w.reading t) (f old l (owned_votes w s order marks few l right) (counted_old s order l gone))

    module _ (t : wants_rejects w.reading ≡ true) (bytes : AllBytes s) where
      pub certified_none : (gone : List ℕ) → ((k : ℕ) → k < length order → eqb (get_or (take 1024 (drop 1024 marks)) k 0) 1 ≡ false) → CertifyMarked false c s
          order (take 1024 marks) gone flags r → CertifiedAll w c s order marks flags r
      unfolding CertifiedAll CertifyMarked
      certified_none gone none f l right = rw (reading_new w.reading t)
          (f withdrawing l (owned_votes w s order marks few l right) (go (ℕ_discrete l.offset 18446744073709551615)))
        where
          go : Dec (l.offset ≡ 18446744073709551615) → CountedRight false withdrawing s order l gone
          go (yes e) = counted_none s order l withdrawing (last_unvoted s order o bytes l e) gone
          go (no e) = counted_same s order l (none_rejects s order o l (take 1024 (drop 1024 marks)) (owned_rejects w s order marks few l right t e) none) gone

      pub certified_new : (gone : List ℕ) → HeardMarked s order (take 1024 (drop 1024 marks)) gone → CertifyMarked true c s order (take 1024 marks) gone flags
          r → CertifiedAll w c s order marks flags r
      unfolding CertifiedAll CertifyMarked HeardMarked spoken_at voters_in
      certified_new gone heard f l right = rw (reading_new w.reading t)
          (f withdrawing l (owned_votes w s order marks few l right) (go (ℕ_discrete l.offset 18446744073709551615)))
        where
          unvoted : ((d : Block) → d ∈ blocks_of s → votes_for d l ≡ false) → (k : ℕ) → counted true (spoken_at own_vote s order l k) (set_at gone k)
              ≡ voters_in
              withdrawing (blocks_of s) l (block_at_place s order k).reference
          unvoted none k =
              let r = (block_at_place s order k).reference in
              ap (λ (v : AuthoritySet). counted true v (set_at gone k)) (no_voters old (blocks_of s) l none r) ∙ nobody_counts true (set_at gone k) ∙ sym
              (no_voters withdrawing (blocks_of s) l none r)

          go : Dec (l.offset ≡ 18446744073709551615) → CountedRight true withdrawing s order l gone
          go (yes e) = λ k h. unvoted (last_unvoted s order o bytes l e) k
          go (no e) = counted_new s order l gone (heard true l (owned_rejects w s order marks few l right t e))

    -- ---- what the list shows

    module _ (all : CertifiedAll w c s order marks flags r) (l : TransactionLocator) (right : MarksAt (lane_ranges w s order) marks l) where
      pub final_by : is_final_in (as_reading w.reading) c (blocks_of s) l ≡ is_quorum c (stake_of c r.authors)
      unfolding CertifiedAll is_final_in Certify
      final_by = ap (λ (v : AuthoritySet). is_quorum c (stake_of c v)) (sym (all l right).0.1)

      pub not_shown : is_quorum c (stake_of c r.authors) ≡ false → (list_for w c (blocks_of s)).shows l ≡ false
      unfolding listing is_listed
      not_shown h = go (is_ordinary w.list)
        where
          go : (b : Bool) → is_listed b (as_reading w.reading) c (blocks_of s) l ≡ false
          go true = rw (final_by, h) (and-false (is_stored_share (blocks_of s) l))
          go false = rw (final_by, h)

      pub is_shown : (is_ordinary w.list ≡ true → is_stored_share (blocks_of s) l ≡ true) → is_quorum c (stake_of c r.authors) ≡ true → (list_for w c
          (blocks_of s)).shows l ≡ true
      unfolding listing is_listed
      is_shown f h = go (is_ordinary w.list) f
        where
          go : (b : Bool) → (b ≡ true → is_stored_share (blocks_of s) l ≡ true) → is_listed b (as_reading w.reading) c (blocks_of s) l ≡ true
          go true g = rw (g refl, final_by) h
          go false g = rw final_by h

  -- what is no stored share is not on the ordinary list
  pub unshared_hidden : is_ordinary w.list ≡ true → (l : TransactionLocator) → is_stored_share (blocks_of s) l ≡ false → (list_for w c (blocks_of s)).shows l ≡
      false
  unfolding listing is_listed
  unshared_hidden t l h = rw (t, h)

  module _ (b : Bool) (may : MayShow w marks (length order) b) (l : TransactionLocator) (right : MarksAt (lane_ranges w s order) marks l) where
    pub may_not : b ≡ false → (list_for w c (blocks_of s)).shows l ≡ false
    may_not e = go (holds_or_not (is_ordinary w.list))
      where
        go : (is_ordinary w.list ≡ true) ⊎ (is_ordinary w.list ≡ false) → (list_for w c (blocks_of s)).shows l ≡ false
        go (inl t) = unshared_hidden t l (shares_marked w s order marks few l right o t b (may.ordinary t) ∙ e)
        go (inr t) = absurd (not_both (may.wide t) e)

    pub may_be : b ≡ true → is_ordinary w.list ≡ true → is_stored_share (blocks_of s) l ≡ true
    may_be e t = shares_marked w s order marks few l right o t b (may.ordinary t) ∙ e

-- quorum by the numbers
pub quorum_told : (c : Committee) (t x : ℕ) (v : AuthoritySet) (b : Bool) → t ≡ total_stake c → x ≡ stake_of c v → b ≡ quorum_of t x
    → is_quorum c (stake_of c v) ≡ b
unfolding is_quorum
quorum_told c t x v b e f g = sym (g ∙ ap₂ quorum_of e f)
