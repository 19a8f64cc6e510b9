-- Distances to a vote, and the path that is read off them: the shortest, and the first of these. Assumes nothing.
use mathlib.Core.Path.{◌≡◌, refl, sym, ap, ◌∙◌, subst}
use mathlib.Core.Logic.{◌⊎◌, inl, inr}
use mathlib.Core.Bool.{Bool, true, false, ◌&&◌}
use mathlib.Core.List.{List, [], ◌∷◌, map}
use mathlib.Core.Option
use mathlib.Core.Option.{Option, none, some, none-ne-some, some-injective}
use Prim.Native.Nat.{ℕ, zero, suc, ◌≤◌}
use native.Mathlib.Omega.{arith}
use lib.Dec.{ltb, eqb}
use lib.ListN.{length, get_or, get_elem?}
use borrow.Author.Tests.{ltb-true, ltb-false, le-ltb, eq-eqb, eqb-true}
use Rattle.base.specs.Lists.{pick, find, holds, before, ◌∈◌, here, there}
use Rattle.base.proofs.Tests.{not_both}
use Rattle.base.proofs.Members.{in_empty, in_cases, in_map, map_in}
use Rattle.record_spec.specs.Reference.{BlockReference}
use Rattle.record_spec.specs.Block.{Block}
use Rattle.record_spec.specs.Record.{no_reference, no_block}
use Rattle.record_spec.proofs.References.{reference_refl, other_reference}
use Rattle.store_spec.proofs.Stored.{WellStored, fresh, stored, include_stored}
use Rattle.base.proofs.Lists.{map_same}
use Rattle.slip_spec.specs.Paths.{named, to_block, leads, lesser_distance, least_distance, distance, is_away, first_place, steps_from, path_to}
use Rattle.slip_spec.specs.Meaning.{LeadsToVote, ShortestThenFirst}
use Rattle.slip_spec.proofs.Paths.{place_in, named_reference, named_in, same_end, Step, first_step, step_leads}

-- ---- the least of some distances

pub least_found : (os : List (Option ℕ)) (n : ℕ) → least_distance os ≡ some n → some n ∈ os
unfolding least_distance lesser_distance
least_found [] n h = absurd (none-ne-some n h)
least_found (none ∷ os) n h = there (least_found os n h)
least_found (some m ∷ os) n h = go (least_distance os) refl (λ k. least_found os n k) h
  where
    either : (k : ℕ) (t : Bool) → least_distance os ≡ some k → (least_distance os ≡ some n → some n ∈ os) → pick t (some k) (some m) ≡ some n → some n ∈
        (some m ∷ os)
    either k true e ih q = there (ih (e ∙ q))
    either k false e ih q = subst (λ (o : Option ℕ). some n ∈ (o ∷ os)) (sym q) here

    go : (o : Option ℕ) → least_distance os ≡ o → (least_distance os ≡ some n → some n ∈ os) → lesser_distance (some m) o ≡ some n → some n ∈ (some m ∷ os)
    go none e ih q = subst (λ (o : Option ℕ). some n ∈ (o ∷ os)) (sym q) here
    go (some k) e ih q = either k (ltb k m) e ih q

-- no more than any of them
pub record AtMost (o : Option ℕ) (m : ℕ) : Type 0 where
  pub away : ℕ
  pub is : o ≡ some away
  pub most : away ≤ m

lesser_left : (m : ℕ) (o : Option ℕ) → AtMost (lesser_distance (some m) o) m
unfolding lesser_distance
lesser_left m none = record { away = m; is = refl; most = omega arith }
lesser_left m (some k) = either (ltb k m) refl
  where
    either : (t : Bool) → ltb k m ≡ t → AtMost (pick t (some k) (some m)) m
    either true e = record { away = k; is = refl; most = omega (arith, ltb-true k m e) }
    either false e = record { away = m; is = refl; most = omega arith }

lesser_right : (o q : Option ℕ) (m : ℕ) → AtMost q m → AtMost (lesser_distance o q) m
unfolding lesser_distance
lesser_right none q m a = a
lesser_right (some j) q m a = rw a.is (either a.away (ltb a.away j) a.most refl)
  where
    either : (i : ℕ) (t : Bool) → i ≤ m → ltb i j ≡ t → AtMost (pick t (some i) (some j)) m
    either i true l e = record { away = i; is = refl; most = l }
    either i false l e = record { away = j; is = refl; most = omega (arith, ltb-false i j e) }

least_below : (os : List (Option ℕ)) (m : ℕ) → some m ∈ os → AtMost (least_distance os) m
unfolding least_distance
least_below [] m k = absurd (in_empty k)
least_below (o ∷ os) m k = split (in_cases k) (λ j. least_below os m j)
  where
    split : (some m ≡ o) ⊎ (some m ∈ os) → (some m ∈ os → AtMost (least_distance os) m) → AtMost (lesser_distance o (least_distance os)) m
    split (inl e) ih = subst (λ (x : Option ℕ). AtMost (lesser_distance x (least_distance os)) m) e (lesser_left m (least_distance os))
    split (inr j) ih = lesser_right o (least_distance os) m (ih j)

-- ---- the first place of which a test holds

module _ {A : Type 0} (p : A → Bool) where
  first_place_at : (xs : List A) (x : A) → x ∈ xs → p x ≡ true → (y : A) × (get_elem? xs (first_place p xs) ≡ some y) × (p y ≡ true)
  unfolding first_place
  first_place_at [] x m h = elim m [ ]
  first_place_at (y ∷ xs) x m h = go (p y) refl (in_cases m) (λ k. first_place_at xs x k h)
    where
      go : (t : Bool) → p y ≡ t → (x ≡ y) ⊎ (x ∈ xs) → (x ∈ xs → (z : A) × (get_elem? xs (first_place p xs) ≡ some z) × (p z ≡ true))
          → (z : A) × (get_elem? (y ∷ xs) (pick t 0 (suc (first_place p xs))) ≡ some z) × (p z ≡ true)
      go true e k ih = (y, refl, e)
      go false e (inl q) ih = absurd (not_both (subst (λ (z : A). p z ≡ true) q h) e)
      go false e (inr k) ih = ih k

  first_place_least : (xs : List A) (q : ℕ) (x : A) → get_elem? xs q ≡ some x → p x ≡ true → first_place p xs ≤ q
  unfolding first_place
  first_place_least [] q x e h = absurd (none-ne-some x e)
  first_place_least (y ∷ xs) zero x e h = rw (subst (λ (z : A). p z ≡ true) (sym (some-injective _ _ e)) h) (omega arith)
  first_place_least (y ∷ xs) (suc q) x e h = go (p y) (first_place_least xs q x e h)
    where
      go : (t : Bool) → first_place p xs ≤ q → pick t 0 (suc (first_place p xs)) ≤ suc q
      go true l = omega arith
      go false l = omega arith

at_place : {A : Type 0} (d : A) (xs : List A) (q : ℕ) (x : A) → get_elem? xs q ≡ some x → get_or xs q d ≡ x
at_place d [] q x e = absurd (none-ne-some x e)
at_place d (y ∷ xs) zero x e = some-injective _ _ e
at_place d (y ∷ xs) (suc q) x e = at_place d xs q x e

-- ---- blocks by their references

pub named_stored : {bs : List Block} → WellStored bs → (b : Block) → b ∈ bs → named bs b.reference ≡ some b
unfolding named find
named_stored fresh b m = absurd (in_empty m)
named_stored (stored {b = h} new found w) b here = rw (reference_refl h.reference)
named_stored (stored {b = h} new found w) b (there m) = rw (other_reference h.reference b.reference (λ e. new b m (sym e))) (named_stored w b m)

-- ---- the distance of a stored block, from its includes'

module _ (votes : Block → Bool) where
  abbrev nearest : List Block → Block → Option ℕ
  nearest bs b = least_distance (map (distance votes bs) b.includes)

  -- an older block's distance does not change
  older_distance : (h : Block) (older : List Block) → ((d : Block) → d ∈ older → d.reference ≡ h.reference → ⊥) → (r : BlockReference)
      → ((d : Block) × (d ∈ older) × (d.reference ≡ r)) → distance votes (h ∷ older) r ≡ distance votes older r
  unfolding distance
  older_distance h older new r d = rw (other_reference h.reference r (λ e. new d.0 d.1 (d.2 ∙ sym e)))

  same_nearest : (h : Block) (older : List Block) (b : Block) → ((i : BlockReference) → i ∈ b.includes → distance votes older i ≡ distance votes (h ∷ older) i)
      → nearest older b ≡ nearest (h ∷ older) b
  same_nearest h older b f = ap least_distance (map_same (distance votes older) (distance votes (h ∷ older)) b.includes f)

  pub distance_step : {bs : List Block} → WellStored bs → (b : Block) → b ∈ bs → distance votes bs b.reference ≡ pick (votes b) (some 0)
      (Option.map suc (nearest bs b))
  distance_step fresh b m = absurd (in_empty m)
  distance_step (stored {b = h} {older = older} new found w) b here =
      newest ∙ ap (λ (o : Option ℕ). pick (votes h) (some 0) (Option.map suc o))
      (same_nearest h older h (λ i k. sym (older_distance h older new i (found i k))))
    where
      newest : distance votes (h ∷ older) h.reference ≡ pick (votes h) (some 0) (Option.map suc (nearest older h))
      newest = unfold distance in rw (reference_refl h.reference)
  distance_step (stored {b = h} {older = older} new found w) b (there m) =
      older_distance h older new b.reference (b, m, refl) ∙ distance_step w b m
      ∙ ap (λ (o : Option ℕ). pick (votes b) (some 0) (Option.map suc o))
      (same_nearest h older b (λ i k. sym (older_distance h older new i (include_stored w m i k))))

zero_only : (t : Bool) (o : Option ℕ) → pick t (some 0) (Option.map suc o) ≡ some 0 → t ≡ true
zero_only true o h = refl
zero_only false none h = absurd (none-ne-some 0 h)
zero_only false (some m) h = let e : suc m ≡ 0 = some-injective _ _ h in absurd (omega arith)

pub suc_only : (t : Bool) (o : Option ℕ) (n : ℕ) → pick t (some 0) (Option.map suc o) ≡ some (suc n) → o ≡ some n
suc_only true o n h = let e : 0 ≡ suc n = some-injective _ _ h in absurd (omega arith)
suc_only false none n h = absurd (none-ne-some (suc n) h)
suc_only false (some m) n h = let e : suc m ≡ suc n = some-injective _ _ h in let q : m ≡ n = omega arith in ap some q

pub length_steps : (votes : Block → Bool) (bs : List Block) (n : ℕ) (b : Block) → length (steps_from votes bs n b) ≡ n
unfolding steps_from
length_steps votes bs zero b = refl
length_steps votes bs (suc n) b = ap suc (length_steps votes bs n _)

module _ (votes : Block → Bool) (bs : List Block) (w : WellStored bs) where
  -- where a vote is a path away, the distance is at most its length
  pub path_least : (qs : List ℕ) (b : Block) → b ∈ bs → LeadsToVote votes bs qs b → AtMost (distance votes bs b.reference) (length qs)
  path_least [] b m h = rw (distance_step votes w b m) (rw (own (unfold leads in h.leading)) (record { away = 0; is = refl; most = omega arith }))
    where
      own : to_block b ≡ to_block h.vote → votes b ≡ true
      own e = subst (λ (x : Block). votes x ≡ true) (sym (same_end e)) h.voting
  path_least (q ∷ qs) b m h =
      let s = first_step bs q qs b h.vote h.leading in
      let a = path_least qs s.next (named_in bs s.include s.next s.given) (record { vote = h.vote; leading = s.onward; voting = h.voting }) in
      let e : distance votes bs s.include ≡ some a.away = ap (distance votes bs) (sym (named_reference bs s.include s.next s.given)) ∙ a.is in
      let k : some a.away ∈ map (distance votes bs) b.includes = subst (λ (o : Option ℕ). o ∈ map (distance votes bs) b.includes) e
      (in_map (distance votes bs) (place_in b.includes q s.include s.at)) in
      rw (distance_step votes w b m) (go (votes b) a.away a.most (least_below (map (distance votes bs) b.includes) a.away k))
    where
      go : (t : Bool) (n : ℕ) → n ≤ length qs → AtMost (nearest votes bs b) n → AtMost (pick t (some 0) (Option.map suc (nearest votes bs b))) (suc (length qs))
      go true n l a = record { away = 0; is = refl; most = omega arith }
      go false n l a = rw a.is (record { away = suc a.away; is = refl; most = omega (arith, a.most) })

  module _ (b : Block) (m : b ∈ bs) where
    -- the include to which the path that is read off goes
    pub record StepOn (n : ℕ) : Type 0 where
      pub include : BlockReference
      pub next : Block
      pub at : get_elem? b.includes (first_place (λ i. is_away n (distance votes bs i)) b.includes) ≡ some include
      pub given : named bs include ≡ some next
      pub near : distance votes bs next.reference ≡ some n

    next_block : (p : ℕ) (r : BlockReference) (i : Block) → get_elem? b.includes p ≡ some r → named bs r ≡ some i → Option.get_or
        (named bs (get_or b.includes p no_reference)) no_block ≡ i
    next_block p r i e f = rw (at_place no_reference b.includes p r e, f)

    is_away_lem : (n : ℕ) (o : Option ℕ) → is_away n o ≡ true → o ≡ some n
    unfolding is_away holds
    is_away_lem n none h = absurd (not_both h refl)
    is_away_lem n (some k) h = ap some (eqb-true k n h)

    away_is : (n : ℕ) (o : Option ℕ) → o ≡ some n → is_away n o ≡ true
    unfolding is_away holds
    away_is n o h = rw (h) (eq-eqb n n refl)

    step_on : (n : ℕ) → distance votes bs b.reference ≡ some (suc n) → StepOn n
    step_on n h =
        let near = suc_only (votes b) (nearest votes bs b) n (sym (distance_step votes w b m) ∙ h) in
        let x = map_in (distance votes bs) b.includes (least_found (map (distance votes bs) b.includes) n near) in
        let y = first_place_at (λ i. is_away n (distance votes bs i)) b.includes x.0 x.1 (away_is n (distance votes bs x.0) x.2) in
        let d = include_stored w m y.0 (place_in b.includes _ y.0 y.1) in
        record {
          include = y.0;
          next = d.0;
          at = y.1;
          given = subst (λ (r : BlockReference). named bs r ≡ some d.0) d.2 (named_stored w d.0 d.1);
          near = ap (distance votes bs) d.2 ∙ is_away_lem n (distance votes bs y.0) y.2;
        }

  -- the path that is read off leads to a vote
  pub steps_lead : (n : ℕ) (b : Block) → b ∈ bs → distance votes bs b.reference ≡ some n → LeadsToVote votes bs (steps_from votes bs n b) b
  unfolding steps_from
  steps_lead zero b m h = record {
    vote = b;
    leading = unfold leads in refl;
    voting = zero_only (votes b) (nearest votes bs b)
        (sym (distance_step votes w b m) ∙ h);
  }
  steps_lead (suc n) b m h =
      let s = step_on b m n h in
      let e = next_block b m _ s.include s.next s.at s.given in
      let l = steps_lead n s.next (named_in bs s.include s.next s.given) s.near in
      record {
        vote = l.vote;
        leading =
            step_leads bs _ _ b l.vote
            (record {
              include = s.include;
              next = s.next;
              at = s.at;
              given = s.given;
              onward = ap
                  (λ (x : Block). leads bs (steps_from votes bs n x) s.next) e ∙ l.leading;
            });
        voting = l.voting;
      }

  -- and no other of its length comes before it
  pub steps_first : (qs : List ℕ) (n : ℕ) (b : Block) → b ∈ bs → distance votes bs b.reference ≡ some n → length qs ≡ n → LeadsToVote votes bs qs b
      → before qs (steps_from votes bs n b) ≡ false
  unfolding steps_from before
  steps_first [] zero b m h e l = refl
  steps_first [] (suc n) b m h e l = absurd (omega arith)
  steps_first (q ∷ qs) zero b m h e l = absurd (omega arith)
  steps_first (q ∷ qs) (suc n) b m h e l =
      rw (le-ltb q p p_least) (same_place (eqb q p) refl (λ x k d r. steps_first qs n x k d (omega arith) r))
    where
      p : ℕ
      p = first_place (λ i. is_away n (distance votes bs i)) b.includes

      s : Step bs q qs b l.vote
      s = first_step bs q qs b l.vote l.leading

      s_stored : s.next ∈ bs
      s_stored = named_in bs s.include s.next s.given

      rest : LeadsToVote votes bs qs s.next
      rest = record { vote = l.vote; leading = s.onward; voting = l.voting }

      upper : AtMost (distance votes bs s.next.reference) (length qs)
      upper = path_least qs s.next s_stored rest

      same_one : distance votes bs s.include ≡ distance votes bs s.next.reference
      same_one = ap (distance votes bs) (sym (named_reference bs s.include s.next s.given))

      lower : n ≤ upper.away
      lower =
          let k : some upper.away ∈ map (distance votes bs) b.includes =
          subst (λ (o : Option ℕ). o ∈ map (distance votes bs) b.includes) (same_one ∙ upper.is)
          (in_map (distance votes bs) (place_in b.includes q s.include s.at)) in
          let a = least_below (map (distance votes bs) b.includes) upper.away k in
          let near = suc_only (votes b) (nearest votes bs b) n (sym (distance_step votes w b m) ∙ h) in
          let f : a.away ≡ n = some-injective _ _ (sym a.is ∙ near) in
          omega (arith, a.most)

      exact : distance votes bs s.next.reference ≡ some n
      exact = let f : upper.away ≡ n = omega (arith, lower, upper.most) in upper.is ∙ ap some f

      p_least : p ≤ q
      p_least = first_place_least (λ i. is_away n (distance votes bs i)) b.includes q s.include s.at
          (away_is b m n (distance votes bs s.include) (same_one ∙ exact))

      same_place : (t : Bool) → eqb q p ≡ t
          → ((x : Block) → x ∈ bs → distance votes bs x.reference ≡ some n → LeadsToVote votes bs qs x → before qs (steps_from votes bs n x) ≡ false)
          → t && before qs (steps_from votes bs n (Option.get_or (named bs (get_or b.includes p no_reference)) no_block)) ≡ false
      same_place false f ih = refl
      same_place true f ih =
          let g : Option.get_or (named bs (get_or b.includes p no_reference)) no_block ≡ s.next =
          ap (λ (j : ℕ). Option.get_or (named bs (get_or b.includes j no_reference)) no_block) (sym (eqb-true q p f)) ∙ next_block b m q s.include s.next
          s.at s.given in
          rw g (ih s.next s_stored exact rest)

  -- the path that is read off is the shortest, and the first of these
  pub shortest_first : (b : Block) → b ∈ bs → (qs : List ℕ) → LeadsToVote votes bs qs b → ShortestThenFirst votes bs b (path_to votes bs b)
  unfolding path_to
  shortest_first b m qs h =
      let a = path_least qs b m h in
      let n : ℕ = a.away in
      let e : steps_from votes bs (Option.get_or (distance votes bs b.reference) 0) b ≡ steps_from votes bs n b = ap
      (λ (o : Option ℕ). steps_from votes bs (Option.get_or o 0) b) a.is in
      rw e
      (record {
        leading = steps_lead n b m a.is;
        shortest = λ ps k.
            let s = path_least ps b m k in
            let f : s.away ≡ n = some-injective _ _ (sym s.is ∙ a.is) in
            omega (arith, s.most, length_steps votes bs n b);
        first = λ ps k f. steps_first ps n b m a.is (f ∙ length_steps votes bs n b) k;
      })
