-- The runs of a part one after the other. Assumes nothing.
use mathlib.Core.Path.{◌≡◌, refl, sym, ap, subst, ◌∙◌}
use mathlib.Core.Bool.{true}
use mathlib.Core.List.{List, [], ◌∷◌}
use Prim.Native.Nat.{ℕ, ◌+◌, ◌≤◌, ◌<◌}
use native.Mathlib.Omega.{arith}
use native.Mathlib.Decide.{dec_lt}
use Rattle.committee_set.specs.AuthoritySet.{AuthoritySet, nobody}
use Rattle.record_spec.specs.Reference.{BlockReference, TransactionLocator, locator, reference_before}
use Rattle.record_spec.proofs.References.{reference_irrefl}
use Rattle.index_spec.specs.Runs.{Run, voters_in}
use Rattle.index_spec.specs.Part.{RunsOf}
use Rattle.index_spec.specs.Walk.{Past, by_block, by_offset, Place, anywhere, beyond, At, NextRun, Unfolded, done, more}
use Rattle.index_spec.proofs.Chain.{Covered, Chain, end, link, Differs, past_head, nobody_before, at_head}
use Rattle.index_spec.proofs.Unique.{PlaceOrder, earlier, later, alike, place_order, at_end}
use Rattle.index_spec.proofs.Relation.{runs_chain, runs_told}
use Rattle.index_pieces.proofs.Pieces.{at_beyond}

-- the next run is the first of those that are left
pub record First (f : TransactionLocator → AuthoritySet) (x : Run) (xs : List Run) : Type 0 where
  pub rest : List Run
  pub are : xs ≡ x ∷ rest
  pub unfolded : Unfolded f (beyond x.reference x.end) rest

module _ {f : TransactionLocator → AuthoritySet} where
  chain_unfolded : (p : Place) (xs : List Run) → Chain Differs p xs → ((l : TransactionLocator) → At p l.block l.offset → f l ≡ voters_in xs l) →
      Unfolded f p xs
  unfolding locator voters_in
  chain_unfolded p [] end e = done e
  chain_unfolded p (x ∷ xs) (link a g d h) e = more next (chain_unfolded (beyond x.reference x.end) xs h rest)
    where
      covers : (o : ℕ) → x.start ≤ o → o < x.end → Covered x (locator x.reference o)
      covers o i j = record { of = refl; from = i; below = j }

      there : (o : ℕ) → x.start ≤ o → At p x.reference o
      there o i = at_beyond p x.reference x.start x.start a (omega arith) x.reference o (by_offset refl i)

      next : NextRun f p x
      next =
          record {
            there = a;
            stretch = record {
              full = g.full;
              voted = g.voted;
              told = λ o i j. e (locator x.reference o) (there o i) ∙ at_head x xs h
                  (locator x.reference o) (covers o i j);
            };
            onward = λ z.
                at_end x xs g d h
                (sym (past_head x xs (locator x.reference x.end) (λ c. omega (arith, c.below))) ∙ sym
                (e (locator x.reference x.end) (there x.end (omega (arith, g.full)))) ∙ z);
            first = λ l i j. e l i ∙ nobody_before l.block l.offset (x ∷ xs) (link j g d h);
          }

      rest : (l : TransactionLocator) → Past x.reference x.end l.block l.offset → f l ≡ voters_in xs l
      rest l b =
          e l (at_beyond p x.reference x.start x.end a (omega (arith, g.full)) l.block l.offset b)
          ∙ past_head x xs l (λ c. out b c.of c.below)
        where
          out : Past x.reference x.end l.block l.offset → x.reference ≡ l.block → l.offset < x.end → ⊥
          out (by_block q) r m = reference_irrefl x.reference (subst (λ (z : BlockReference). reference_before x.reference z ≡ true) (sym r) q)
          out (by_offset q k) r m = omega arith

  -- the runs of a part, one after the other
  pub runs_unfolded : (xs : List Run) → RunsOf f xs → Unfolded f anywhere xs
  runs_unfolded xs r = chain_unfolded anywhere xs (runs_chain xs r) (λ l a. sym (runs_told xs r l))

  -- nobody is named any more
  pub none_left : (p : Place) (xs : List Run) → ((l : TransactionLocator) → At p l.block l.offset → f l ≡ nobody) → Unfolded f p xs → xs ≡ []
  unfolding locator
  none_left p [] h u = refl
  none_left p (x ∷ xs) h (more n u) =
      absurd (n.stretch.voted (sym (n.stretch.told x.start (omega arith) n.stretch.full) ∙ h (locator x.reference x.start) n.there))

  no_later : (p : Place) (x y : Run) → NextRun f p x → NextRun f p y → Past x.reference (x.start + 1) y.reference y.start → ⊥
  unfolding locator
  no_later p x y n m k =
      n.stretch.voted (sym (n.stretch.told x.start (omega arith) n.stretch.full) ∙ m.first (locator x.reference x.start) n.there k)

  no_longer : (p : Place) (x y : Run) → NextRun f p x → NextRun f p y → x.reference ≡ y.reference → x.start ≡ y.start → x.votes ≡ y.votes → x.end <
      y.end → ⊥
  no_longer p x y n m r s v k =
      n.onward (ap (λ (z : BlockReference). f (locator z x.end)) r ∙ m.stretch.told x.end (omega (arith, n.stretch.full)) k ∙ sym v)

  -- there is one next run
  pub one_next : (p : Place) (x y : Run) → NextRun f p x → NextRun f p y → x ≡ y
  one_next p x y n m = split (place_order x.reference x.start y.reference y.start)
    where
      split : PlaceOrder x.reference x.start y.reference y.start → x ≡ y
      split (earlier k) = absurd (no_later p x y n m k)
      split (later k) = absurd (no_later p y x m n k)
      split (alike r s) =
          let v : x.votes ≡ y.votes =
          sym (n.stretch.told x.start (omega arith) n.stretch.full) ∙ ap f (λ i. locator (r i) (s i)) ∙ m.stretch.told y.start (omega arith)
          m.stretch.full in
          let a = no_longer p x y n m r s v in
          let b = no_longer p y x m n (sym r) (sym s) (sym v) in
          let e : x.end ≡ y.end = ends a b (dec_lt x.end y.end) (dec_lt y.end x.end) in
          λ i. record { reference = r i; start = s i; end = e i; votes = v i }
        where
          ends : (x.end < y.end → ⊥) → (y.end < x.end → ⊥) → Dec (x.end < y.end) → Dec (y.end < x.end) → x.end ≡ y.end
          ends a b (yes h) k = absurd (a h)
          ends a b (no h) (yes k) = absurd (b k)
          ends a b (no h) (no k) = omega arith

  pub next_first : (p : Place) (x : Run) (xs : List Run) → NextRun f p x → Unfolded f p xs → First f x xs
  unfolding locator
  next_first p x [] n (done h) =
      absurd (n.stretch.voted (sym (n.stretch.told x.start (omega arith) n.stretch.full) ∙ h (locator x.reference x.start) n.there))
  next_first p x (y ∷ ys) n (more m u) =
      let e = one_next p x y n m in
      record { rest = ys; are = ap (λ (z : Run). z ∷ ys) (sym e); unfolded = subst (λ (z : Run). Unfolded f (beyond z.reference z.end) ys) (sym e) u }
