-- The same blocks in another order give the same lists, in stretches too. Assumes nothing.
use mathlib.Core.Path.{◌≡◌, refl, sym, ap, ap₂, ◌∙◌}
use mathlib.Core.Logic.{◌↔◌}
use mathlib.Core.Bool.{Bool, true, ◌&&◌}
use mathlib.Core.List.{List, [], ◌∷◌, map}
use mathlib.Core.Option.{Option, some}
use Prim.Native.Nat.{ℕ, zero, suc, ◌≤◌}
use native.Mathlib.Omega.{arith}
use native.Mathlib.Decide.{dec_le}
use lib.Dec.{eqb}
use lib.ListN.{length}
use Rattle.base.specs.Lists.{all_of, keep, ◌∈◌, here, there, Once, empty, also}
use Rattle.base.proofs.Tests.{same_test}
use Rattle.base.proofs.Once.{once_keep}
use Rattle.base.proofs.Members.{all_in, in_all, in_keep, keep_in, in_map, map_in, any_in, in_any}
use Rattle.base.proofs.Covered.{covered}
use Rattle.committee.specs.Committee.{AuthorityIndex, Committee}
use Rattle.committee_set.specs.AuthoritySet.{member, set_of, stake_of}
use Rattle.committee_set.proofs.Votes.{member_set_of}
use Rattle.committee_set.proofs.Quorums.{stake_same}
use Rattle.record_spec.specs.Reference.{TransactionLocator, locator}
use Rattle.record_spec.specs.Block.{Block, author}
use Rattle.store_spec.proofs.Stored.{WellStored, fresh, stored}
use Rattle.list_stretches_spec.specs.Stretches.{Listing, FinalStretch, last_locator, agree, certified_alike, goes_on, stretch_end, stretch_at, from_found}
use Rattle.list_stretches_spec.specs.Stretches.{stretches}
use Rattle.final_spec.specs.NextFinal.{LeastOf, least, nothing}
use Rattle.final_spec.proofs.LeastOf.{least_once}
use Rattle.list_stretches_spec.specs.Claims.{Lawful}
use Rattle.list_stretches_spec.proofs.Ends.{end_meant, one_end}

-- ---- as many pass

stored_once : {bs : List Block} → WellStored bs → Once bs
stored_once fresh = empty
stored_once (stored {b = b} new found w) = also (λ m. new b m refl) (stored_once w)

-- elements that differ are no more than those of a list that has them all
no_more : (xs ys : List Block) → Once xs → ((a : Block) → a ∈ xs → a ∈ ys) → length xs ≤ length ys
no_more [] ys o f = omega arith
no_more (x ∷ xs) ys (also new o) f = go (dec_le (suc (length xs)) (length ys))
  where
    go : Dec (suc (length xs) ≤ length ys) → suc (length xs) ≤ length ys
    go (yes h) = h
    go (no h) = absurd (new (covered xs ys o (λ a m. f a (there m)) (omega arith) x (f x here)))

-- ---- two lists over the same blocks that show and certify the same

module _ (c : Committee) {bs cs : List Block} (v : WellStored bs) (w : WellStored cs) (blocks : (x : Block) → x ∈ bs ↔ x ∈ cs)
    (k q : Listing) (law : Lawful bs k) (also-law : Lawful cs q) (shows : (l : TransactionLocator) → k.shows l ≡ q.shows l)
    (certifies : (l : TransactionLocator) (b : Block) → b ∈ bs → k.certifies l b ≡ q.certifies l b) where
  pub next_same : (after : Option TransactionLocator) → k.next after ≡ q.next after
  next_same after = least_once k.shows q.shows shows after (law.next after) (also-law.next after)

  -- a stretch goes on alike, so it ends alike
  goes_same : (l : TransactionLocator) (o : ℕ) → goes_on bs k l o ≡ goes_on cs q l o
  unfolding goes_on certified_alike
  goes_same l o = ap₂ {C = Bool} (λ t u. t && u) (shows (locator l.block o)) (same_test _ _ to from)
    where
      here_too : (b : Block) → b ∈ bs → agree (k.certifies l b) (k.certifies (locator l.block o) b) ≡ agree (q.certifies l b)
          (q.certifies (locator l.block o) b)
      here_too b m = ap₂ agree (certifies l b m) (certifies (locator l.block o) b m)

      to : all_of (λ b. agree (k.certifies l b) (k.certifies (locator l.block o) b)) bs ≡ true → all_of
          (λ b. agree (q.certifies l b) (q.certifies (locator l.block o) b)) cs ≡ true
      to h =
          in_all (λ b. agree (q.certifies l b) (q.certifies (locator l.block o) b)) cs
          (λ b m. let i = (blocks b).1 m in sym (here_too b i) ∙ all_in (λ d. agree (k.certifies l d) (k.certifies (locator l.block o) d)) bs h i)

      from : all_of (λ b. agree (q.certifies l b) (q.certifies (locator l.block o) b)) cs ≡ true → all_of
          (λ b. agree (k.certifies l b) (k.certifies (locator l.block o) b)) bs ≡ true
      from h =
          in_all (λ b. agree (k.certifies l b) (k.certifies (locator l.block o) b)) bs
          (λ b m. here_too b m ∙ all_in (λ d. agree (q.certifies l d) (q.certifies (locator l.block o) d)) cs h ((blocks b).0 m))

  ends_same : (l : TransactionLocator) → k.shows l ≡ true → stretch_end bs k l ≡ stretch_end cs q l
  ends_same l h =
      let x = (end_meant bs k l law h).ends in
      one_end cs q l (stretch_end bs k l) (stretch_end cs q l)
      (record { longer = x.longer; goes = λ o i j. sym (goes_same l o) ∙ x.goes o i j; stops = sym (goes_same l (stretch_end bs k l)) ∙ x.stops })
      (end_meant cs q l also-law (sym (shows l) ∙ h)).ends

  -- as many blocks certify, of the same authors
  certified_in : (l : TransactionLocator) (b : Block) → b ∈ keep (k.certifies l) bs → b ∈ keep (q.certifies l) cs
  certified_in l b m = let x = keep_in (k.certifies l) bs m in in_keep (q.certifies l) cs ((blocks b).0 x.0) (sym (certifies l b x.0) ∙ x.1)

  in_certified : (l : TransactionLocator) (b : Block) → b ∈ keep (q.certifies l) cs → b ∈ keep (k.certifies l) bs
  in_certified l b m =
      let x = keep_in (q.certifies l) cs m in
      let i = (blocks b).1 x.0 in
      in_keep (k.certifies l) bs i (certifies l b i ∙ x.1)

  many_same : (l : TransactionLocator) → length (keep (k.certifies l) bs) ≡ length (keep (q.certifies l) cs)
  many_same l =
      omega (
        arith,
        no_more (keep (k.certifies l) bs) (keep (q.certifies l) cs) (once_keep (k.certifies l) (stored_once v)) (certified_in l),
        no_more (keep (q.certifies l) cs) (keep (k.certifies l) bs) (once_keep (q.certifies l) (stored_once w)) (in_certified l),
      )

  authors_in : (xs ys : List Block) → ((b : Block) → b ∈ xs → b ∈ ys) → (a : AuthorityIndex) → member (set_of (map author xs)) a ≡ true → member
      (set_of (map author ys)) a ≡ true
  authors_in xs ys f a e =
      let x = any_in (eqb a) (map author xs) (sym (member_set_of (map author xs) a) ∙ e) in
      let b = map_in author xs x.1 in
      member_set_of (map author ys) a ∙ in_any (eqb a) (in_map author (f b.0 b.1)) (ap (λ (n : AuthorityIndex). eqb a n) b.2 ∙ x.2)

  stake_alike : (l : TransactionLocator) → stake_of c (set_of (map author (keep (k.certifies l) bs)))
      ≡ stake_of c (set_of (map author (keep (q.certifies l) cs)))
  stake_alike l =
      stake_same c _ _
      (λ a i. same_test _ _ (authors_in (keep (k.certifies l) bs) (keep (q.certifies l) cs) (certified_in l) a)
      (authors_in (keep (q.certifies l) cs) (keep (k.certifies l) bs) (in_certified l) a))

  at_same : (l : TransactionLocator) → k.shows l ≡ true → stretch_at c bs k l ≡ stretch_at c cs q l
  unfolding stretch_at
  at_same l h = λ i. record { block = l.block; first = l.offset; end = ends_same l h i; blocks = many_same l i; stake = stake_alike l i }

  first_same : (n : ℕ) → ((from : Option TransactionLocator) → stretches c bs k n from ≡ stretches c cs q n from) → (after : Option TransactionLocator)
      {o : Option TransactionLocator} → LeastOf k.shows after o
      → from_found o (λ l. stretch_at c bs k l ∷ stretches c bs k n (some (last_locator (stretch_at c bs k l))))
      ≡ from_found o (λ l. stretch_at c cs q l ∷ stretches c cs q n (some (last_locator (stretch_at c cs q l))))
  unfolding from_found
  first_same n ih after (nothing g) = refl
  first_same n ih after (least l f h g) =
      ap (λ (t : FinalStretch). t ∷ stretches c bs k n (some (last_locator t))) (at_same l f)
      ∙ ap (λ (ts : List FinalStretch). stretch_at c cs q l ∷ ts) (ih (some (last_locator (stretch_at c cs q l))))

  pub stretches_same : (n : ℕ) (after : Option TransactionLocator) → stretches c bs k n after ≡ stretches c cs q n after
  unfolding stretches
  stretches_same zero after = refl
  stretches_same (suc n) after =
      first_same n (stretches_same n) after (law.next after)
      ∙ ap (λ (o : Option TransactionLocator). from_found o (λ l. stretch_at c cs q l ∷ stretches c cs q n (some (last_locator (stretch_at c cs q l)))))
      (next_same after)
