-- Runs that each source with runs left has next, word for word, are the next runs of all together. Assumes nothing.
use mathlib.Core.Path.{◌≡◌, refl, sym, ap, subst, ◌∙◌}
use mathlib.Core.Logic.{inl, inr}
use mathlib.Core.List.{List, [], ◌∷◌, ◌++◌, append_assoc}
use Prim.Native.Nat.{ℕ, zero, suc, ◌+◌, ◌-◌, ◌*◌, ◌≤◌, ◌<◌}
use native.Mathlib.Omega.{arith}
use lib.ListN.{length, drop}
use lib.Seq.{drop-drop}
use Rattle.committee_set.specs.AuthoritySet.{AuthoritySet, nobody, united}
use Rattle.committee_set.proofs.Words.{nobody_united}
use Rattle.record_spec.specs.Reference.{TransactionLocator, locator}
use Rattle.index_spec.specs.Runs.{Run, voters_in}
use Rattle.index_spec.specs.Walk.{Past, Place, anywhere, beyond, At, run_from, runs_from}
use Rattle.index_spec.proofs.Chain.{past_trans, touched, Chain, end, link, Anything, Differs, no_next, other, nobody_before}
use Rattle.index_pieces.specs.Sources.{cursor_at, cursor_left, source, named_by, Ready, Moved, together}
use Rattle.index_pieces.proofs.Cursors.{next}
use Rattle.index_alike.specs.Alike.{HasRuns, over, alike, Shared}
use Rattle.index_run_order.specs.Apart.{GoesOn, Apart}
use Rattle.index_own_past.specs.Own.{OwnPast, spent, later}
use Rattle.index_cursors.specs.Cursors.{Leads, moved_at, MovedBy}
use Rattle.index_cursors.specs.Spots.{after}
use Rattle.index_shared.specs.Shared.{Nexts, here, RunsPassed}
use Rattle.index_cursors.proofs.Spots.{after_last}
use Rattle.index_shared.proofs.Chains.{chain_rest, cut_names, names_after, nexts}
use Rattle.index_alike.proofs.Alike.{runs_split, runs_last, runs_fewer, shared_fewer}
use Rattle.index_shared.proofs.Named.{Says, one_named}

-- ---- chains of runs in words

chain_cut : {p : Place} (ys : List Run) (z : Run) (rest : List Run) → Chain Anything p (ys ++ z ∷ rest) → Chain Anything p (ys ++ z ∷ [])
chain_cut [] z rest (link a g d h) = link a g tt end
chain_cut (x ∷ ys) z rest (link a g d h) = link a g tt (chain_cut ys z rest h)

chain_there : {D : Run → List Run → Type 0} (p : Place) (m : ℕ) (ws : List ℕ) → At p (run_from ws).reference (run_from ws).start → Chain D anywhere
    (runs_from m ws) → Chain D p (runs_from m ws)
unfolding runs_from
chain_there p zero ws a h = end
chain_there p (suc m) ws a (link b g d h) = link a g d h

chain_apart : {p : Place} (m : ℕ) (ix : List ℕ) (pos : ℕ) → Apart ix pos m → Chain Anything p (runs_from m (drop pos ix)) → Chain Differs p
    (runs_from m (drop pos ix))
unfolding runs_from Apart
chain_apart {p = p} zero ix pos q h = end
chain_apart {p = p} (suc zero) ix pos q (link a g d h) = link a g no_next end
chain_apart {p = p} (suc (suc m)) ix pos q (link a g d h) =
    link a g differs
    (subst (λ (ws : List ℕ). Chain Differs (beyond (run_from (drop pos ix)).reference (run_from (drop pos ix)).end) (runs_from (suc m) ws))
    (sym (drop-drop 10 pos ix))
    (chain_apart {p = beyond (run_from (drop pos ix)).reference (run_from (drop pos ix)).end} (suc m) ix (pos + 10) onward
    (subst (λ (ws : List ℕ). Chain Anything (beyond (run_from (drop pos ix)).reference (run_from (drop pos ix)).end) (runs_from (suc m) ws))
    (drop-drop 10 pos ix) h)))
  where
    onward : (i : ℕ) → i + 1 < suc m → GoesOn ix (pos + 10 + 10 * i) → ⊥
    onward i k o =
        let e : pos + 10 + 10 * i ≡ pos + 10 * (i + 1) = omega arith in
        q (i + 1) (omega arith) (subst (GoesOn ix) e o)

    first : (run_from (drop pos ix)).end ≡ (run_from (drop (pos + 10) ix)).start → (run_from (drop pos ix)).votes ≡ (run_from (drop (pos + 10) ix)).votes → ⊥
    first s v =
        let e : pos ≡ pos + 10 * 0 = omega arith in
        let o : GoesOn ix pos = record { offset = s; voters = v } in
        q 0 (omega arith) (subst (GoesOn ix) e o)

    differs : Differs (run_from (drop pos ix)) (runs_from (suc m) (drop 10 (drop pos ix)))
    differs =
        other (λ t v.
        first ((touched (run_from (drop pos ix)) (run_from (drop 10 (drop pos ix))) t).1 ∙ ap (λ (ws : List ℕ). (run_from ws).start) (drop-drop 10 pos ix))
        (v ∙ ap (λ (ws : List ℕ). (run_from ws).votes) (drop-drop 10 pos ix)))

-- ---- a source of which none is left, and one that begins past a run

over_nobody : (ix cs : List ℕ) (j : ℕ) (l : TransactionLocator) → cursor_left cs j ≡ 0 → voters_in (source ix cs j) l ≡ nobody
unfolding source runs_from voters_in
over_nobody ix cs j l e = rw e

module _ (own ms : List ℕ) (x : Run) (r : Ready own ms 1) where
  abbrev first : Run
  first = run_from (drop (cursor_at ms 0) own)

  abbrev rest : List Run
  rest = runs_from (cursor_left ms 0 - 1) (drop (cursor_at ms 0 + 10) own)

  own_nobody : OwnPast x own ms → (l : TransactionLocator) → Past l.block (l.offset + 1) x.reference x.end → named_by own ms 1 l ≡ nobody
  unfolding named_by locator source
  own_nobody (spent e) l b = nobody_united (voters_in (source own ms 0) l) ∙ over_nobody own ms 0 l e
  own_nobody (later m a) l b = nobody_united (voters_in (source own ms 0) l) ∙ go
    where
      are : source own ms 0 ≡ first ∷ rest
      are = next anywhere own (cursor_at ms 0) (cursor_left ms 0) m

      begun : Chain Anything anywhere (first ∷ rest) → Chain Anything (beyond l.block (l.offset + 1)) (first ∷ rest)
      begun (link c g d h) = link (past_trans b (omega arith) a) g d h

      go : voters_in (source own ms 0) l ≡ nobody
      go = ap (λ (xs : List Run). voters_in xs l) are ∙ nobody_before l.block l.offset (first ∷ rest)
          (begun (subst (Chain Anything anywhere) are (r.chains 0 (omega arith))))

-- ---- q + 1 runs are passed, and one more is shared

module _ (ix cs : List ℕ) (n pos q : ℕ) (ready : Ready ix cs n) (shared : Shared ix cs n pos (q + 1 + 1)) where
  passes : List Run
  passes = runs_from (q + 1) (drop pos ix)

  -- the last that is passed, and the one after it
  abbrev y : Run
  y = run_from (drop (pos + 10 * q) ix)

  abbrev z : Run
  z = run_from (drop (pos + 10 * (q + 1)) ix)

  passes_last : (xs : List Run) → passes ++ xs ≡ runs_from q (drop pos ix) ++ y ∷ xs
  unfolding passes
  passes_last xs = ap (λ (ys : List Run). ys ++ xs) (runs_last q ix pos) ∙ append_assoc (runs_from q (drop pos ix)) (run_from (drop (pos + 10 * q) ix) ∷ []) xs

  left_of : ℕ → List Run
  left_of j = runs_from (cursor_left cs j - (q + 1)) (drop (cursor_at cs j + 10 * (q + 1)) ix)

  rest_of : ℕ → List Run
  rest_of j = runs_from (cursor_left cs j - (q + 1 + 1)) (drop (cursor_at cs j + 10 * (q + 1 + 1)) ix)

  -- a source that has them
  module _ (j : ℕ) (m : j < n) (few : q + 1 + 1 ≤ cursor_left cs j)
      (same : runs_from (q + 1 + 1) (drop pos ix) ≡ runs_from (q + 1 + 1) (drop (cursor_at cs j) ix)) where
    source_passed : source ix cs j ≡ passes ++ left_of j
    unfolding source passes left_of
    source_passed =
        let e : cursor_left cs j ≡ q + 1 + (cursor_left cs j - (q + 1)) = omega arith in
        ap (λ (i : ℕ). runs_from i (drop (cursor_at cs j) ix)) e
        ∙ runs_split (q + 1) (cursor_left cs j - (q + 1)) ix (cursor_at cs j)
        ∙ ap (λ (xs : List Run). xs ++ runs_from (cursor_left cs j - (q + 1)) (drop (cursor_at cs j + 10 * (q + 1)) ix))
        (sym (runs_fewer (q + 1) (q + 1 + 1) (drop pos ix) (drop (cursor_at cs j) ix) (omega arith) same))

    source_shared : source ix cs j ≡ passes ++ z ∷ rest_of j
    unfolding source passes rest_of
    source_shared =
        let e : cursor_left cs j ≡ q + 1 + 1 + (cursor_left cs j - (q + 1 + 1)) = omega arith in
        ap (λ (i : ℕ). runs_from i (drop (cursor_at cs j) ix)) e
        ∙ runs_split (q + 1 + 1) (cursor_left cs j - (q + 1 + 1)) ix (cursor_at cs j)
        ∙ ap (λ (xs : List Run). xs ++ runs_from (cursor_left cs j - (q + 1 + 1)) (drop (cursor_at cs j + 10 * (q + 1 + 1)) ix))
        (sym same ∙ runs_last (q + 1) ix pos)
        ∙ append_assoc (runs_from (q + 1) (drop pos ix)) (run_from (drop (pos + 10 * (q + 1)) ix) ∷ [])
        (runs_from (cursor_left cs j - (q + 1 + 1)) (drop (cursor_at cs j + 10 * (q + 1 + 1)) ix))

    chain_shared : Chain Anything anywhere (passes ++ z ∷ rest_of j)
    chain_shared = subst (Chain Anything anywhere) source_shared (ready.chains j m)

    chain_passed : Chain Anything anywhere (passes ++ left_of j)
    chain_passed = subst (Chain Anything anywhere) source_passed (ready.chains j m)

    -- up to the end of the last shared run
    voters_shared : (l : TransactionLocator) → Past l.block (l.offset + 1) z.reference z.end → voters_in (source ix cs j) l ≡ voters_in
        (passes ++ z ∷ []) l
    voters_shared l b = ap (λ (xs : List Run). voters_in xs l) source_shared ∙ cut_names passes z (rest_of j) l chain_shared b

    -- past the last run that is passed
    voters_left : (l : TransactionLocator) → Past y.reference y.end l.block l.offset → voters_in (left_of j) l ≡ voters_in (source ix cs j) l
    voters_left l b =
        sym (names_after (runs_from q (drop pos ix)) y (left_of j) l (subst (Chain Anything anywhere) (passes_last (left_of j)) chain_passed) b)
        ∙ ap (λ (xs : List Run). voters_in xs l) (sym (passes_last (left_of j)) ∙ sym source_passed)

  -- ---- the first source that has runs left

  module _ (lead : ℕ) (leads : lead < n) (some : Leads cs lead) where
    pub record Has (j : ℕ) : Type 0 where
      pub few : q + 1 + 1 ≤ cursor_left cs j
      pub same : runs_from (q + 1 + 1) (drop pos ix) ≡ runs_from (q + 1 + 1) (drop (cursor_at cs j) ix)

    has_lead : Has lead
    unfolding Shared Leads
    has_lead = go (shared lead leads)
      where
        go : HasRuns ix pos (q + 1 + 1) (cursor_at cs lead) (cursor_left cs lead) → Has lead
        go (over e) = absurd (omega (arith, some))
        go (alike f s) = record { few = f; same = s }

    named_shared : (l : TransactionLocator) → Past l.block (l.offset + 1) z.reference z.end → named_by ix cs n l ≡ voters_in (passes ++ z ∷ []) l
    unfolding Shared
    named_shared l b =
        one_named ix cs l (voters_in (passes ++ z ∷ []) l) n lead leads (λ j m. says j m (shared j m))
        (voters_shared lead leads has_lead.few has_lead.same l b)
      where
        says : (j : ℕ) → j < n → HasRuns ix pos (q + 1 + 1) (cursor_at cs j) (cursor_left cs j) → Says (voters_in (passes ++ z ∷ []) l)
            (voters_in (source ix cs j) l)
        says j m (over e) = inr (over_nobody ix cs j l e)
        says j m (alike f s) = inl (voters_shared j m f s l b)

    shared_differs : (p : Place) → At p (run_from (drop pos ix)).reference (run_from (drop pos ix)).start → Apart ix pos (q + 1 + 1) → Chain Differs p
        (passes ++ z ∷ [])
    unfolding passes
    shared_differs p a h =
        subst (Chain Differs p) (runs_last (q + 1) ix pos)
        (chain_there p (q + 1 + 1) (drop pos ix) a
        (chain_apart (q + 1 + 1) ix pos h
        (subst (Chain Anything anywhere) (sym (runs_last (q + 1) ix pos))
        (chain_cut passes z (rest_of lead) (chain_shared lead leads has_lead.few has_lead.same)))))

    module _ (own ms : List ℕ) (own_ready : Ready own ms 1) (past : OwnPast z own ms) (p : Place)
        (a : At p (run_from (drop pos ix)).reference (run_from (drop pos ix)).start) where
      nexts_shared : Apart ix pos (q + 1 + 1) → Nexts (together own ms ix cs n) p passes (after p passes)
      unfolding together
      nexts_shared h =
          nexts z p passes (shared_differs p a h) (λ l i b.
          ap (λ (v : AuthoritySet). united v (named_by ix cs n l)) (own_nobody own ms z own_ready past l b) ∙ nobody_united (named_by ix cs n l) ∙
          named_shared l b)

  -- ---- the cursors after them

  module _ (cs' : List ℕ) (m : MovedBy cs n (q + 1) cs') where
    -- one cursor after them
    pub record MovedOne (j : ℕ) : Type 0 where
      pub inside : cursor_at cs' j + 10 * cursor_left cs' j ≤ length ix
      pub chain : Chain Anything anywhere (source ix cs' j)
      pub names : (l : TransactionLocator) → Past y.reference y.end l.block l.offset → voters_in (source ix cs' j) l ≡ voters_in (source ix cs j) l

    moved_over : (j : ℕ) → j < n → cursor_left cs j ≡ 0 → MovedOne j
    unfolding source runs_from moved_at
    moved_over j h e =
        let f : cursor_left cs' j ≡ 0 = omega (arith, m.left j h, e) in
        let g : cursor_at cs' j ≡ cursor_at cs j = m.at j h ∙ ap (λ (i : ℕ). moved_at (cursor_at cs j) i (q + 1)) e in
        record {
          inside = omega (arith, ready.inside j h, e, f, g);
          chain = rw f end;
          names = λ l b. over_nobody ix cs' j l f ∙ sym (over_nobody ix cs j l e);
        }

    at_moved : (j : ℕ) → j < n → 0 < cursor_left cs j → cursor_at cs' j ≡ cursor_at cs j + 10 * (q + 1)
    unfolding moved_at
    at_moved j h k = m.at j h ∙ go (cursor_left cs j) k
      where
        go : (i : ℕ) → 0 < i → moved_at (cursor_at cs j) i (q + 1) ≡ cursor_at cs j + 10 * (q + 1)
        go zero l = absurd (omega arith)
        go (suc i) l = refl

    moved_like : (j : ℕ) → j < n → (few : q + 1 + 1 ≤ cursor_left cs j) → runs_from (q + 1 + 1) (drop pos ix) ≡ runs_from (q + 1 + 1)
        (drop (cursor_at cs j) ix) → MovedOne j
    unfolding source left_of
    moved_like j h few same =
        let g = at_moved j h (omega arith) in
        let f = m.left j h in
        let e : source ix cs' j ≡ left_of j = rw (g, f) in
        record {
          inside = omega (arith, ready.inside j h, f, g);
          chain = subst (Chain Anything anywhere) (sym e) (chain_rest passes (left_of j) (chain_passed j h few same));
          names = λ l b. ap (λ (xs : List Run). voters_in xs l) e ∙ voters_left j h few same l b;
        }

    moved_one : (j : ℕ) → j < n → MovedOne j
    unfolding Shared
    moved_one j h = go (shared j h)
      where
        go : HasRuns ix pos (q + 1 + 1) (cursor_at cs j) (cursor_left cs j) → MovedOne j
        go (over e) = moved_over j h e
        go (alike f s) = moved_like j h f s

    moved_on : Moved ix n (beyond y.reference y.end) cs cs'
    unfolding named_by
    moved_on =
        record {
          long = m.long;
          ready = record { room = omega (arith, ready.room, m.long); inside = λ j h. (moved_one j h).inside; chains = λ j h. (moved_one j h).chain };
          names = λ l b. all l b n (omega arith);
        }
      where
        all : (l : TransactionLocator) → Past y.reference y.end l.block l.offset → (k : ℕ) → k ≤ n → named_by ix cs' k l ≡ named_by ix cs k l
        all l b zero h = refl
        all l b (suc k) h = rw (all l b k (omega arith), (moved_one k (omega arith)).names l b)

    pub passed_on : (lead : ℕ) → lead < n → Leads cs lead → (own ms : List ℕ) → Ready own ms 1 → OwnPast z own ms → (p : Place)
        → At p (run_from (drop pos ix)).reference (run_from (drop pos ix)).start → Apart ix pos (q + 1 + 1) → RunsPassed own ms ix n cs cs' p pos (q + 1)
    unfolding passes
    passed_on lead leads some own ms r past p a h =
        record {
          nexts = nexts_shared lead leads some own ms r past p a h;
          moved = subst (λ (e : Place). Moved ix n e cs cs') (sym (after_last q ix pos p)) moved_on;
        }

-- nothing is passed
pub passed_none : (own ms ix : List ℕ) (n : ℕ) (cs : List ℕ) (p : Place) (pos : ℕ) → Ready ix cs n → RunsPassed own ms ix n cs cs p pos 0
unfolding runs_from after
passed_none own ms ix n cs p pos r = record { nexts = here; moved = record { long = refl; ready = r; names = λ l a. refl } }

-- ---- as the code counts: one less than the runs that are shared and apart

module _ (ix cs : List ℕ) (n pos shared apart : ℕ) (ready : Ready ix cs n) (s : Shared ix cs n pos shared) (few : apart ≤ shared) (h : Apart ix pos apart)
    (two : 2 ≤ apart) where
  pub passed_runs : (lead : ℕ) → lead < n → Leads cs lead → (cs' : List ℕ) → MovedBy cs n (apart - 1) cs' → (own ms : List ℕ) → Ready own ms 1
      → OwnPast (run_from (drop (pos + 10 * (apart - 1)) ix)) own ms → (p : Place) → At p (run_from (drop pos ix)).reference (run_from (drop pos ix)).start
      → RunsPassed own ms ix n cs cs' p pos (apart - 1)
  passed_runs lead leads some cs' m own ms r past p a =
      let d : apart - 2 + 1 ≡ apart - 1 = omega arith in
      let e : apart - 2 + 1 + 1 ≡ apart = omega arith in
      subst (RunsPassed own ms ix n cs cs' p pos) d
      (passed_on ix cs n pos (apart - 2) ready (shared_fewer ix cs n pos (apart - 2 + 1 + 1) shared (omega arith) s) cs'
      (subst (λ (k : ℕ). MovedBy cs n k cs') (sym d) m)
      lead leads some own ms r (subst (λ (k : ℕ). OwnPast (run_from (drop (pos + 10 * k) ix)) own ms) (sym d) past) p a (subst (Apart ix pos) (sym e) h))

  -- a source that has none of them has none left
  pub runs_movable : (j : ℕ) → j < n → 0 < cursor_left cs j → apart - 1 ≤ cursor_left cs j
  unfolding Shared
  runs_movable j i g = go (s j i)
    where
      go : HasRuns ix pos shared (cursor_at cs j) (cursor_left cs j) → apart - 1 ≤ cursor_left cs j
      go (over e) = absurd (omega arith)
      go (alike k e) = omega arith
