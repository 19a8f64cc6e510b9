-- Replies in words, and the reply to one locator after a step. Assumes nothing.
use mathlib.Core.Path.{◌≡◌, refl, sym, ap, subst, ◌∙◌}
use mathlib.Core.Bool.{true, false, not, ◌||◌, and-false, or-false}
use mathlib.Core.List.{List, [], ◌∷◌, ◌++◌, flatten}
use Prim.Native.Nat.{ℕ, zero, suc, ◌+◌, ◌*◌, ◌≤◌, ◌<◌}
use native.Mathlib.Omega.{arith}
use native.Mathlib.Numerals.{towards_suc}
use native.Mathlib.Decide.{ℕ_discrete}
use lib.Dec.{eqb}
use lib.ListN.{length, get_or, take, drop, set, length-drop, take-append-drop}
use lib.Seq.{get_or-take, get_or-drop, drop-drop, take-add, length-take-le, sets, sets-eq}
use borrow.Author.Tests.{le-ltb, ne_eqb}
use Rattle.base.specs.Lists.{pick}
use Rattle.base.proofs.Tests.{or_left, flag_back}
use Rattle.base.proofs.Lists.{Every, none_of, and}
use Rattle.committee.specs.Committee.{Committee, total_stake, is_quorum}
use Rattle.committee_set.specs.AuthoritySet.{AuthoritySet, nobody, inserted, member, stake_of}
use Rattle.committee_set.proofs.Votes.{stake_nobody, member_inserted}
use Rattle.committee_set.proofs.Words.{Small, small_inserted, set_ext}
use Rattle.record_spec.specs.Reference.{TransactionLocator}
use Rattle.record_spec.specs.Block.{Block, author}
use Rattle.index_spec.specs.Runs.{Run, voters_in}
use Rattle.index_spec.specs.Certified.{part_certifies}
use Rattle.sorted_spec.specs.Sorted.{Reply, reply_words, reply_of, step_reply}
use Rattle.sorted_step.specs.Step.{reply_from, replies_from, replies_words, SettledReply, Settled}

-- ---- replies read back

pub reply_back : (q : Reply) (rest : List ℕ) → reply_from (reply_words q ++ rest) ≡ q
unfolding reply_from reply_words
reply_back q rest = let e = flag_back q.final in λ i. record { final = e i; authors = q.authors }

pub replies_back : (qs : List Reply) → replies_from (length qs) (replies_words qs) ≡ qs
unfolding replies_from replies_words reply_words flatten
replies_back [] = refl
replies_back (q ∷ qs) =
    let e : reply_from (reply_words q ++ replies_words qs) ≡ q = reply_back q (replies_words qs) in
    let f = replies_back qs in
    λ i. e i ∷ f i

pub length_replies : (qs : List Reply) → length (replies_words qs) ≡ 3 * length qs
unfolding replies_words reply_words flatten
length_replies [] = refl
length_replies (q ∷ qs) = omega (arith, length_replies qs)

-- replies that are those of their authors
module _ (c : Committee) where
  first_settled : (q : Reply) (qs : List Reply) → q ≡ reply_of c q.authors → SettledReply c (replies_words (q ∷ qs))
  unfolding SettledReply reply_words reply_from replies_words flatten
  first_settled q qs e = unfold reply_words in ap reply_words e

  each_settled : (qs : List Reply) (i : ℕ) → Every (λ q. q ≡ reply_of c q.authors) qs → i < length qs → SettledReply c (drop (3 * i) (replies_words qs))
  unfolding replies_words reply_words flatten
  each_settled [] i none_of k = absurd (omega arith)
  each_settled (q ∷ qs) zero (and e es) k = first_settled q qs e
  each_settled (q ∷ qs) (suc i) (and e es) k =
      let n : 3 * suc i ≡ 3 + 3 * i = omega arith in
      subst (λ (m : ℕ). SettledReply c (drop m (replies_words (q ∷ qs)))) (sym n)
      (rw (← drop-drop (3 * i) 3 (replies_words (q ∷ qs))) (each_settled qs i es (omega arith)))

  pub settled_words : (qs : List Reply) → Every (λ q. q ≡ reply_of c q.authors) qs → Settled c (length qs) (replies_words qs)
  settled_words qs h = record { long = length_replies qs; each = λ i k. each_settled qs i h k }

  -- ---- the reply to one locator

  settled_reply : (ws : List ℕ) → SettledReply c ws → reply_from ws ≡ reply_of c (reply_from ws).authors
  unfolding SettledReply reply_from reply_of reply_words
  settled_reply ws h =
      let w : get_or ws 0 0 ≡ pick (is_quorum c (stake_of c (record { low = get_or ws 1 0; high = get_or ws 2 0 }))) 1 0 = sym
      (get_or-take 3 ws 0 0 (omega arith)) ∙ ap
      (λ (xs : List ℕ). get_or xs 0 0) h in
      let e = ap (λ (n : ℕ). eqb n 1) w ∙ flag_back (is_quorum c (stake_of c (record { low = get_or ws 1 0; high = get_or ws 2 0 }))) in
      λ i. record { final = e i; authors = record { low = get_or ws 1 0; high = get_or ws 2 0 } }

  pub reply_stays : (b : Block) (xs : List Run) (l : TransactionLocator) (ws : List ℕ) → SettledReply c ws → part_certifies c b xs l ≡ false
      → reply_words (step_reply c b xs l (reply_from ws)) ≡ take 3 ws
  unfolding step_reply
  reply_stays b xs l ws s h = rw h (ap reply_words (settled_reply ws s) ∙ sym (unfold SettledReply in s))

  pub reply_grows : (b : Block) (xs : List Run) (l : TransactionLocator) (ws : List ℕ) → part_certifies c b xs l ≡ true
      → reply_words (step_reply c b xs l (reply_from ws)) ≡ reply_words (reply_of c (inserted (reply_from ws).authors (author b)))
  unfolding step_reply
  reply_grows b xs l ws h = rw h

  pub certifies_nobody : (b : Block) (xs : List Run) (l : TransactionLocator) → voters_in xs l ≡ nobody → part_certifies c b xs l ≡ false
  unfolding part_certifies is_quorum stake_of
  certifies_nobody b xs l h = rw (h, stake_nobody c 0, le-ltb (2 * total_stake c) 0 (omega arith)) (and-false (not b.marked))

  pub certifies_voters : (b : Block) (xs : List Run) (l : TransactionLocator) (v : AuthoritySet) → b.marked ≡ false → voters_in xs l ≡ v → part_certifies c b
      xs l ≡ is_quorum c (stake_of c v)
  unfolding part_certifies
  certifies_voters b xs l v m h = rw (m, h)

  pub certifies_marked : (b : Block) (xs : List Run) (l : TransactionLocator) → b.marked ≡ true → part_certifies c b xs l ≡ false
  unfolding part_certifies
  certifies_marked b xs l m = rw m

-- an author who is there already
pub inserted_again : (v : AuthoritySet) (a : ℕ) → Small v → a < 128 → member v a ≡ true → inserted v a ≡ v
inserted_again v a s h m = set_ext (inserted v a) v (small_inserted v a h s) s (λ b k. member_inserted v a b ∙ go b (ℕ_discrete b a))
  where
    go : (b : ℕ) → Dec (b ≡ a) → member v b || eqb b a ≡ member v b
    go b (yes e) = or_left (member v b) (eqb b a) (ap (member v) e ∙ m) ∙ sym (ap (member v) e ∙ m)
    go b (no e) = rw (ne_eqb b a e) (or-false (member v b))

-- ---- an author put into the reply of an index

module _ (ws : List ℕ) (i : ℕ) where
  authors_at : (reply_from (drop (3 * i) ws)).authors ≡ record { low = get_or ws (3 * i + 1) 0; high = get_or ws (3 * i + 2) 0 }
  unfolding reply_from
  authors_at =
      let e = get_or-drop (3 * i) ws 1 0 in
      let f = get_or-drop (3 * i) ws 2 0 in
      λ k. record { low = e k; high = f k }

  module _ (c : Committee) (a : ℕ) where
    pub add_again : 3 * i + 3 ≤ length ws → SettledReply c (drop (3 * i) ws) → Small (record { low = get_or ws (3 * i + 1) 0; high = get_or ws (3 * i + 2) 0 })
        →
        a < 128
        → member (record { low = get_or ws (3 * i + 1) 0; high = get_or ws (3 * i + 2) 0 }) a ≡ true
        → ws ≡ sets ws (3 * i) (reply_words (reply_of c (inserted (reply_from (drop (3 * i) ws)).authors a)))
    unfolding SettledReply
    add_again room s v h m =
        let size : length (take 3 (drop (3 * i) ws)) ≡ 3 = length-take-le 3 (drop (3 * i) ws) (omega (arith, length-drop (3 * i) ws)) in
        let words : reply_words (reply_of c (inserted (reply_from (drop (3 * i) ws)).authors a)) ≡ take 3 (drop (3 * i) ws) =
        ap (λ (w : AuthoritySet). reply_words (reply_of c w))
        (ap (λ (w : AuthoritySet). inserted w a) authors_at ∙ inserted_again _ a v h m ∙ sym authors_at)
        ∙ sym s in
        sym
        (ap (sets ws (3 * i)) words
        ∙ sets-eq (take 3 (drop (3 * i) ws)) ws (3 * i) (omega arith)
        ∙ ap (λ (n : ℕ). take (3 * i) ws ++ take 3 (drop (3 * i) ws) ++ drop (3 * i + n) ws) size
        ∙ ap (λ (us : List ℕ). us ++ drop (3 * i + 3) ws) (sym (take-add (3 * i) 3 ws))
        ∙ take-append-drop (3 * i + 3) ws)

    pub add_new : (f : ℕ) (v : AuthoritySet) → v ≡ inserted (record { low = get_or ws (3 * i + 1) 0; high = get_or ws (3 * i + 2) 0 }) a → f ≡ pick
        (is_quorum c (stake_of c v)) 1 0
        → set (set (set ws (3 * i) f) (3 * i + 1) v.low) (3 * i + 2) v.high ≡ sets ws (3 * i)
        (reply_words (reply_of c (inserted (reply_from (drop (3 * i) ws)).authors a)))
    unfolding reply_words reply_of
    add_new f v e g = rw (g, authors_at, ← e) (simp towards_suc)
