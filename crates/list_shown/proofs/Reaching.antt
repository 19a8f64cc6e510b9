-- The first locator that a list shows, from where a sweep stands on. Assumes nothing.
use mathlib.Core.Path.{◌≡◌, refl, sym, subst, ◌∙◌}
use mathlib.Core.Logic.{◌⊎◌, inl, inr}
use mathlib.Core.Bool.{true, false}
use mathlib.Core.List.{List, []}
use mathlib.Core.Option.{Option, none, some}
use Prim.Native.Nat.{ℕ, ◌+◌, ◌-◌, ◌≤◌, ◌<◌}
use native.Mathlib.Omega.{arith}
use lib.ListN.{length}
use Rattle.base.specs.Lists.{keep, ◌∈◌}
use Rattle.base.specs.Le.{Bytes}
use Rattle.base.proofs.Le.{AllBytes}
use Rattle.base.proofs.Tests.{not_both, holds_or_not, fails}
use Rattle.committee.specs.Committee.{Committee}
use Rattle.committee.specs.declared.Stake.{Stake}
use Rattle.record_spec.specs.Reference.{BlockReference, TransactionLocator, locator, locator_before}
use Rattle.record_spec.specs.Block.{Block}
use Rattle.record_spec.proofs.References.{locator_irrefl, locator_trans}
use Rattle.types.specs.Values.{as_locator}
use Rattle.store_spec.specs.Store.{store_in_order}
use Rattle.final_spec.specs.Voters.{votes_for}
use Rattle.final_spec.specs.NextFinal.{is_after, least, nothing}
use Rattle.final_spec.specs.Finality.{blocks_of}
use Rattle.final_spec.proofs.LeastOf.{one_least}
use Rattle.final_readings_spec.specs.Answers.{as_reading}
use Rattle.list_readings_spec.specs.Answers.{is_ordinary}
use Rattle.final_readings_spec.proofs.FinalsIn.{final_in_old}
use Rattle.final_readings_spec.proofs.CandidatesIn.{final_is_old, final_in_votes}
use Rattle.list_block_spans.proofs.Fits.{final_offset}
use Rattle.list_stretches_spec.specs.Stretches.{Listing}
use Rattle.list_stretches_spec.specs.Claims.{Lawful}
use Rattle.list_readings_spec.specs.Lists.{listing}
use Rattle.list_readings_spec.proofs.Least.{lists_lawful, listed_final}
use Rattle.final_block_votes.specs.Walk.{SortedStore}
use Rattle.final_block_votes.proofs.Sorting.{some_committee}
use Rattle.list_include_sets.specs.Sets.{Included}
use Rattle.list_walk.specs.Walk.{Ready}
use Rattle.list_after.proofs.Starts.{fewer_kept}
use Rattle.list_reach.specs.Reach.{From}
use Rattle.list_lanes.specs.Lanes.{Lanes, lane_ranges}
use Rattle.list_lanes.specs.declared.Wanted.{Wanted}
use Rattle.list_sweep.specs.Sweep.{MarksAt, Stands}
use Rattle.list_sweep.specs.Step.{MovedTo}
use Rattle.list_sweep.specs.declared.Sweep as sweep
use Rattle.final_certifying.specs.declared.Certifiers.{Certifiers}
use Rattle.list_sweep.proofs.Sweeping.{le_lt}
use Rattle.list_sweep_start.proofs.Beginning.{next_before, next_least}
use Rattle.list_sweep_start.specs.Begin.{Bare, BegunAt}
use Rattle.list_marked.specs.Marked.{list_for, ShownAll}
use Rattle.list_marked.proofs.Lanes.{stored_at, vote_mark}
use Rattle.list_shown.specs.Shown.{Lent, Reaching, AllAlike, FoundHere}
use Rattle.std.specs.Prelude.{None, Some}

-- the marks are right where the sweep stands
pub here_marks : (lanes : Lanes) (s : Bytes) (t marks : List ℕ) (v : sweep.Sweep) → Stands lanes s t marks v → MarksAt lanes marks (as_locator v.here)
unfolding From
here_marks lanes s t marks v st = st.right (as_locator v.here)
    (fails (locator_before (as_locator v.here) (as_locator v.here)) (locator_irrefl (as_locator v.here))) (st.clear (as_locator v.here) refl)

-- from one locator to a later one fewer follow
pub fewer_follow : (h q : TransactionLocator) (es : List TransactionLocator) → is_after (some h) q ≡ true → q ∈ es → length (keep (is_after (some q)) es) <
    length (keep (is_after (some h)) es)
unfolding is_after
fewer_follow h q es a m = fewer_kept (is_after (some h)) (is_after (some q)) (λ x t. locator_trans h q x a t) q a
    (fails (locator_before q q) (locator_irrefl q))
    es m

module _ (w : Wanted) (c : Committee) (s : Bytes) (order : List ℕ) where
  abbrev bs : List Block
  bs = blocks_of s

  abbrev list : Listing
  list = list_for w c bs

  abbrev lanes : Lanes
  lanes = lane_ranges w s order

  lawful : Lawful bs list
  lawful = lists_lawful (is_ordinary w.list) (as_reading w.reading) c bs

  module _ (last : Option TransactionLocator) (h : TransactionLocator) (r : Reaching w c s last h) where
    -- shown there
    pub found_is : list.shows h ≡ true → list.next last ≡ some h
    found_is t = one_least list.shows last (lawful.next last)
        (least h t (r.later t) (λ m u a. fails (locator_before m h) (λ b. not_both u (r.hidden m a b))))

    module _ (marks : List ℕ) (hidden : (l : TransactionLocator) → MarksAt lanes marks l → list.shows l ≡ false) where
      up_to : (m : TransactionLocator) → is_after last m ≡ true → (From (some h) m → MarksAt lanes marks m) → list.shows m ≡ false
      unfolding From
      up_to m a f = go (holds_or_not (locator_before m h))
        where
          go : (locator_before m h ≡ true) ⊎ (locator_before m h ≡ false) → list.shows m ≡ false
          go (inl b) = r.hidden m a b
          go (inr b) = hidden m (f b)

      -- not shown up to the next stop
      pub reach_on : (q : TransactionLocator) → is_after (some h) q ≡ true →
          ((l : TransactionLocator) → From (some h) l → locator_before l q ≡ true → MarksAt lanes marks l) → Reaching w c s last q
      unfolding From is_after
      reach_on q a quiet = record { hidden = λ m b d. up_to m b (λ f. quiet m f d); from = from last r.from; later = λ t. later last r.from }
        where
          from : (x : Option TransactionLocator) → From x h → From x q
          from none f = tt
          from (some x) f = fails (locator_before q x) (λ t. not_both (locator_trans h q x a t) f)

          later : (x : Option TransactionLocator) → From x h → is_after x q ≡ true
          later none f = refl
          later (some x) f = le_lt x h q f a

      -- nor later
      pub none_follows : ((l : TransactionLocator) → From (some h) l → MarksAt lanes marks l) → list.next last ≡ none
      none_follows quiet = one_least list.shows last (lawful.next last) (nothing (λ m a. up_to m a (quiet m)))

  -- ---- the beginning

  -- where no range covers a locator it is not shown
  pub bare_hidden : SortedStore s order → length order ≤ 1024 → (m : TransactionLocator) → Bare lanes m → list.shows m ≡ false
  unfolding listing MarksAt
  bare_hidden o few m b = fails (list.shows m) λ t.
      let v = final_in_votes (as_reading w.reading) c bs m (listed_final (is_ordinary w.list) (as_reading w.reading) c bs m t) in
      let p = stored_at s order o v.block v.stands in
      not_both v.votes (subst (λ (d : Block). votes_for d m ≡ false) p.1.1 (sym (vote_mark w s order [] few m (λ k h. sym (b k h)) p.0 p.1.0)))

  module _ (o : SortedStore s order) (few : length order ≤ 1024) (after : Option TransactionLocator) where
    pub begun_reaching : (t marks : List ℕ) (v : sweep.Sweep) → BegunAt lanes s t marks after v →
        ((l : TransactionLocator) → list.shows l ≡ true → l.offset < 18446744073709551615)
        → Reaching w c s after (as_locator v.here)
    begun_reaching t marks v b last-hidden = record {
      hidden = λ m a d. bare_hidden o few m (b.bare m a d);
      from = b.from;
      later = λ u. b.later
          (last-hidden (as_locator v.here) u);
    }

    pub begun_none : ((m : TransactionLocator) → is_after after m ≡ true → Bare lanes m) → list.next after ≡ none
    begun_none b = one_least list.shows after (lawful.next after) (nothing (λ m a. bare_hidden o few m (b m a)))

-- ---- what is lent stays so

pub lent_kept : (c : Committee) (total : Stake) (s : Bytes) (order sets t t' marks marks' flags flags' : List ℕ) → Lent c total s order sets t marks flags →
    length t' ≡ length t → length marks' ≡ length marks
    → length flags' ≡ length flags → Lent c total s order sets t' marks' flags'
lent_kept c total s order sets t t' marks marks' flags flags' l e g h =
    let w = l.walk in
    let r = l.room in
    record {
      walk = record { sorted = w.sorted; whole = w.whole; few = w.few; included = w.included; marked = g ∙ w.marked; flagged = h ∙ w.flagged };
      room = record { sorted = r.sorted; wide = e ∙ r.wide; long = g ∙ r.long };
    }

pub lent_for : (c : Committee) (total : Stake) (s : Bytes) (order sets t t' marks marks' : List ℕ) →
    ((flags : List ℕ) → length flags ≡ 1024 → Lent c total s order sets t marks flags) → length t' ≡ length t
    → length marks' ≡ length marks → (flags : List ℕ) → length flags ≡ 1024 → Lent c total s order sets t' marks' flags
lent_for c total s order sets t t' marks marks' l e g flags h = lent_kept c total s order sets t t' marks marks' flags flags (l flags h) e g refl

-- tables of these sizes, and the sets of the includes of a store in order
pub lent_new : (c : Committee) (total : Stake) (s : Bytes) (order sets : List ℕ) → Ready c total.0 s order → Included s order sets (length order) →
    (t marks : List ℕ) → length t ≡ 16386 → length marks ≡ 3072 → (flags : List ℕ) → length flags ≡ 1024
    → Lent c total s order sets t marks flags
lent_new c total s order sets p included t marks wide long flags e =
    record {
      walk = record { sorted = p.0.0; whole = p.0.1; few = p.1; included = included; marked = long; flagged = e };
      room = record { sorted = some_committee p.0.0; wide = wide; long = long };
    }

-- ---- from stop to stop

module _ (w : Wanted) (c : Committee) (s : Bytes) (order : List ℕ) (h₀ : TransactionLocator) where
  abbrev pub Reached : TransactionLocator → Type 0
  Reached h = (last : Option TransactionLocator) → Reaching w c s last h₀ → Reaching w c s last h

  -- shown
  pub shown_here : (t marks flags : List ℕ) (at : sweep.Sweep) (f : Certifiers) → Stands (lane_ranges w s order) s t marks at → Reached (as_locator at.here)
      → ShownAll w c s order marks flags (Some f)
      → FoundHere w c s order h₀ t marks flags (record { sweep = at; found = f })
  unfolding ShownAll AllAlike
  shown_here t marks flags at f st r all =
      let x = all (as_locator at.here) (here_marks (lane_ranges w s order) s t marks at st) in
      record {
        stands = st;
        alike = λ l m. let y = all l m in (y.0, y.1.1);
        right = x.1;
        is = λ last q. found_is w c s order last (as_locator at.here) (r last q) x.0;
      }

  module _ (marks flags : List ℕ) (at : sweep.Sweep) (r : Reached (as_locator at.here)) (hid : ShownAll w c s order marks flags None) where
    pub hidden_on : (t' marks' : List ℕ) (v : sweep.Sweep) → MovedTo (lane_ranges w s order) s marks t' marks' (some (as_locator at.here)) v → Reached
        (as_locator v.here)
    unfolding ShownAll
    hidden_on t' marks' v m last q = reach_on w c s order last (as_locator at.here) (r last q) marks hid (as_locator v.here) m.ahead m.quiet

    pub hidden_end : ((l : TransactionLocator) → From (some (as_locator at.here)) l → MarksAt (lane_ranges w s order) marks l) →
        (last : Option TransactionLocator) → Reaching w c s last h₀ → (list_for w c (blocks_of s)).next last ≡ none
    unfolding ShownAll
    hidden_end quiet last q = none_follows w c s order last (as_locator at.here) (r last q) marks hid quiet

-- ---- around a stretch

-- what is shown stands before the last offset
pub shown_offset : (w : Wanted) (c : Committee) (s : Bytes) → AllBytes s → store_in_order c s ≡ true → (l : TransactionLocator) → (list_for w c (blocks_of s)
    ).shows l ≡ true → l.offset < 18446744073709551615
unfolding listing
shown_offset w c s bytes ordered l t =
    final_offset c s bytes ordered l (sym (final_is_old c (blocks_of s) l) ∙ final_in_old (as_reading w.reading) c (blocks_of s) l
    (listed_final (is_ordinary w.list) (as_reading w.reading) c (blocks_of s) l t))

-- the sweep stands just after the last locator that was written
pub after_stretch : (w : Wanted) (c : Committee) (s : Bytes) (r : BlockReference) (e : ℕ) → 0 < e → Reaching w c s (some (locator r (e - 1))) (locator r e)
unfolding From is_after locator
after_stretch w c s r e h =
    let z : e - 1 + 1 ≡ e = omega arith in
    let last = locator r (e - 1) in
    let next : locator_before last (locator r e) ≡ true = rw z at (next_before last) in
    record {
      hidden = λ m a b. absurd (not_both b (rw z at (next_least last m a)));
      from = fails (locator_before (locator r e) last) (λ u. locator_irrefl last (locator_trans last (locator r e) last next u));
      later = λ t. next;
    }
