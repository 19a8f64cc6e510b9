-- Of the votes on the way from none to quorum one crosses it. Assumes nothing.
use mathlib.Core.Path.{◌≡◌, refl, sym, ap, ◌∙◌}
use mathlib.Core.Logic.{◌↔◌}
use mathlib.Core.Bool.{Bool, true, false, not, ◌&&◌, true≢false}
use mathlib.Core.List.{List, [], ◌∷◌, ◌++◌, append_assoc, append-nil}
use Prim.Native.Nat.{ℕ, ◌+◌, ◌*◌, ◌≤◌}
use native.Mathlib.Omega.{arith}
use borrow.Author.Tests.{le-ltb}
use Rattle.base.specs.Lists.{pick}
use Rattle.base.specs.Checks.{passes, refusal, checked, refused, answered}
use Rattle.base.proofs.Tests.{and_right, not_both}
use Rattle.committee.specs.Committee.{AuthorityIndex, Committee, total_stake, is_quorum, get_stake}
use Rattle.committee_set.specs.AuthoritySet.{member, inserted}
use Rattle.committee.proofs.Bounds.{more_quorum}
use Rattle.committee_vote_answer.specs.VoteAnswer.{Told, told_of}
use Rattle.committee_aggregator.specs.StakeAggregator.{StakeAggregator, no_votes, counted, has_quorum, add_checks, told, add}
use Rattle.committee_aggregator.specs.Claims.{holds_now, says_crossed, answers, added_all, crossings, CrossesAt}

-- votes add stake, so quorum that holds stays
more_stake : (c : Committee) (g : StakeAggregator) (a : AuthorityIndex) → g.stake ≤ (counted c g a).stake
unfolding counted
more_stake c g a = go (member g.votes a)
  where
    go : (t : Bool) → g.stake ≤ (pick t g (record { votes = inserted g.votes a; stake = g.stake + get_stake c a })).stake
    go true = omega arith
    go false = omega arith

quorum_stays : (c : Committee) (g : StakeAggregator) (a : AuthorityIndex) → has_quorum c g ≡ true → has_quorum c (add c g a).aggregator ≡ true
unfolding has_quorum add
quorum_stays c g a h = go (passes (add_checks c g a))
  where
    go : (t : Bool) → is_quorum c (pick t (counted c g a) g).stake ≡ true
    go true = more_quorum c g.stake (counted c g a).stake (more_stake c g a) h
    go false = h

-- a repeated vote changes nothing
repeated_same : (c : Committee) (g : StakeAggregator) (a : AuthorityIndex) → member g.votes a ≡ true → counted c g a ≡ g
unfolding counted
repeated_same c g a h = rw h

no_quorum : (c : Committee) → has_quorum c no_votes ≡ false
unfolding has_quorum is_quorum
no_quorum c = le-ltb (2 * total_stake c) (3 * 0) (omega arith)

-- ---- the answers

told_crossed : (r q n : Bool) → (r ≡ true → n ≡ q) → says_crossed (answered (told_of r q n)) ≡ not q && n
unfolding says_crossed told_of
told_crossed true false false h = refl
told_crossed true false true h = absurd (true≢false (h refl))
told_crossed true true false h = refl
told_crossed true true true h = refl
told_crossed false false false h = refl
told_crossed false false true h = refl
told_crossed false true false h = refl
told_crossed false true true h = refl

told_now : (r q n : Bool) → holds_now (told_of r q n) ≡ n
unfolding holds_now told_of
told_now true q false = refl
told_now true q true = refl
told_now false q false = refl
told_now false q true = refl

pub crossed_meant : (c : Committee) (g : StakeAggregator) (a : AuthorityIndex) → says_crossed (add c g a).answer ≡ not (has_quorum c g) && has_quorum c
    (add c g a).aggregator
unfolding add checked told
crossed_meant c g a = go (passes (add_checks c g a))
  where
    never : (q : Bool) → false ≡ not q && q
    never true = refl
    never false = refl

    go : (t : Bool) → says_crossed (pick t (answered (told c g a)) (refused (refusal (add_checks c g a)))) ≡ not (has_quorum c g) && has_quorum c
        (pick t (counted c g a) g)
    go true = told_crossed (member g.votes a) (has_quorum c g) (has_quorum c (counted c g a)) (λ h. ap (has_quorum c) (repeated_same c g a h))
    go false = unfold says_crossed in never (has_quorum c g)

pub quorum_now_lem : (c : Committee) (g : StakeAggregator) (a : AuthorityIndex) (t : Told) → (add c g a).answer ≡ answered t → holds_now t ≡ has_quorum c
    (add c g a).aggregator
unfolding add checked told
quorum_now_lem c g a t e = go (passes (add_checks c g a)) e
  where
    go : (p : Bool) → pick p (answered (told c g a)) (refused (refusal (add_checks c g a))) ≡ answered t → holds_now t ≡ has_quorum c (pick p (counted c g a) g)
    go true f = let same : told c g a ≡ t = cc in ap holds_now (sym same) ∙ told_now (member g.votes a) (has_quorum c g) (has_quorum c (counted c g a))
    go false f = let z : ◌≡◌ {A = ℕ} 0 1 = cc in absurd (omega arith)

-- ---- one vote crosses

added_stays : (c : Committee) (voters : List AuthorityIndex) (g : StakeAggregator) → has_quorum c g ≡ true → has_quorum c (added_all c g voters) ≡ true
unfolding added_all
added_stays c [] g h = h
added_stays c (a ∷ later) g h = added_stays c later (add c g a).aggregator (quorum_stays c g a h)

-- from any aggregator: none where quorum held before, else one where it holds at the end
crossings_from : (c : Committee) (voters : List AuthorityIndex) (g : StakeAggregator) → crossings (answers c g voters) ≡ pick (has_quorum c g) 0
    (pick (has_quorum c (added_all c g voters)) 1 0)
unfolding crossings answers added_all
crossings_from c [] g = none_yet (has_quorum c g)
  where
    none_yet : (t : Bool) → ◌≡◌ {A = ℕ} 0 (pick t 0 (pick t 1 0))
    none_yet true = refl
    none_yet false = refl
crossings_from c (a ∷ later) g = rw (crossed_meant c g a, crossings_from c later (add c g a).aggregator)
    (go (has_quorum c g) (has_quorum c (add c g a).aggregator) (quorum_stays c g a) (added_stays c later (add c g a).aggregator))
  where
    go : (q n : Bool) → (q ≡ true → n ≡ true) → (n ≡ true → has_quorum c (added_all c (add c g a).aggregator later) ≡ true)
        → pick (not q && n) 1 0 + pick n 0 (pick (has_quorum c (added_all c (add c g a).aggregator later)) 1 0) ≡ pick q 0
        (pick (has_quorum c (added_all c (add c g a).aggregator later)) 1 0)
    go true n h k = rw (h refl)
    go false true h k = rw (k refl)
    go false false h k = omega arith

pub crosses_once : (c : Committee) (voters : List AuthorityIndex) → crossings (answers c no_votes voters)
    ≡ pick (has_quorum c (added_all c no_votes voters)) 1 0
crosses_once c voters = crossings_from c voters no_votes ∙ rw (no_quorum c)

-- ---- and which

added_append : (c : Committee) (xs ys : List AuthorityIndex) (g : StakeAggregator) → added_all c g (xs ++ ys) ≡ added_all c (added_all c g xs) ys
unfolding added_all
added_append c [] ys g = refl
added_append c (x ∷ xs) ys g = added_append c xs ys (add c g x).aggregator

-- after the votes so far quorum does not hold, and after the rest it does: one of the rest crosses
crosses_in : (c : Committee) (seen rest : List AuthorityIndex) → has_quorum c (added_all c no_votes seen) ≡ false → has_quorum c
    (added_all c no_votes (seen ++ rest)) ≡ true → CrossesAt c (seen ++ rest)
crosses_in c seen [] h k = absurd (not_both (rw (append-nil seen) at k) h)
crosses_in c seen (a ∷ rest) h k =
    let g = added_all c no_votes seen in
    go (has_quorum c (add c g a).aggregator) refl (λ (n : has_quorum c (add c g a).aggregator ≡ false). crosses_in c (seen ++ a ∷ []) rest (after n)
    (rw regroup k))
  where
    regroup : (seen ++ a ∷ []) ++ rest ≡ seen ++ a ∷ rest
    regroup = append_assoc seen (a ∷ []) rest

    after : has_quorum c (add c (added_all c no_votes seen) a).aggregator ≡ false → has_quorum c (added_all c no_votes (seen ++ a ∷ [])) ≡ false
    after n = unfold added_all in rw (added_append c seen (a ∷ []) no_votes) n

    go : (t : Bool) → has_quorum c (add c (added_all c no_votes seen) a).aggregator ≡ t
        → (has_quorum c (add c (added_all c no_votes seen) a).aggregator ≡ false → CrossesAt c ((seen ++ a ∷ []) ++ rest)) → CrossesAt c (seen ++ a ∷ rest)
    go true e ih = record { earlier = seen; voter = a; later = rest; splits = refl; crosses = crossed_meant c (added_all c no_votes seen) a ∙ rw (h, e) }
    go false e ih = rw regroup at (ih e)

pub which_vote_lem : (c : Committee) (voters : List AuthorityIndex) → (has_quorum c (added_all c no_votes voters) ≡ true) ↔ CrossesAt c voters
unfolding added_all
which_vote_lem c voters = (λ h. crosses_in c [] voters (no_quorum c) h, λ k. back k)
  where
    back : CrossesAt c voters → has_quorum c (added_all c no_votes voters) ≡ true
    back k =
        let g : StakeAggregator = added_all c no_votes k.earlier in
        let now : has_quorum c (add c g k.voter).aggregator ≡ true = and_right (not (has_quorum c g)) _ (sym (crossed_meant c g k.voter) ∙ k.crosses) in
        rw (k.splits, added_append c k.earlier (k.voter ∷ k.later) no_votes) (added_stays c k.later (add c g k.voter).aggregator now)
