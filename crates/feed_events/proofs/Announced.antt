-- The events of a vote, stretch by stretch. Assumes nothing.
use mathlib.Core.Path.{◌≡◌, refl, ◌∙◌}
use mathlib.Core.Bool.{Bool, true, false}
use mathlib.Core.List.{List, [], ◌∷◌, ◌++◌, map, map-append, flatten}
use mathlib.Core.Option.{Option, none, some}
use Prim.Native.Nat.{ℕ, zero, suc, ◌+◌, ◌-◌, ◌*◌, ◌≤◌, ◌<◌, max}
use native.Mathlib.Decide.{dec_lt}
use native.Mathlib.Omega.{arith}
use lib.ListN.{length, length-append}
use lib.Seq.{sets, length-sets}
use Rattle.base.specs.Lists.{pick, count_from}
use Rattle.base.proofs.Lists.{length_flatten, length_count_from, count_from_add, flatten_append}
use Rattle.committee.specs.Committee.{Committee, Stake, total_stake, is_quorum, quorum_of}
use Rattle.committee_aggregator.specs.StakeAggregator.{has_quorum}
use Rattle.record_spec.specs.Reference.{BlockReference}
use Rattle.store_spec.specs.Layout.{Entry}
use Rattle.pending_spec.specs.Items.{Item, item_at}
use Rattle.feed_spec.specs.ProcessBlock.{Event, words_of, missed, event_at, event_of}
use Rattle.feed_missed.proofs.Telling.{words_on, length_events_by}
use Rattle.feed_events.specs.Step.{told_at, events_between, SameItem, StatedAt, told}
use Rattle.feed_missed.specs.Kinds.{events_by}

flat_one : {A : Type 0} (g : ℕ → List A) (h : ℕ → A) (start n : ℕ) → ((o : ℕ) → start ≤ o → o < start + n → g o ≡ h o ∷ []) → flatten
    (map g (count_from start n)) ≡ map h (count_from start n)
unfolding flatten count_from
flat_one g h start zero e = refl
flat_one g h start (suc n) e = rw (
  e start (omega arith) (omega arith),
  flat_one g h (start + 1) n
      (λ o (l : start + 1 ≤ o) (u : o < start + 1 + n). e o (omega arith) (omega arith)),
)

flat_empty : {A : Type 0} (g : ℕ → List A) (start n : ℕ) → ((o : ℕ) → start ≤ o → o < start + n → g o ≡ []) → flatten (map g (count_from start n)) ≡ []
unfolding flatten count_from
flat_empty g start zero e = refl
flat_empty g start (suc n) e = rw (
  e start (omega arith) (omega arith),
  flat_empty g (start + 1) n
      (λ o (l : start + 1 ≤ o) (u : o < start + 1 + n). e o (omega arith) (omega arith)),
)

module _ (total : Stake) (es : List Entry) (r : BlockReference) (i : ℕ) (xs : List Item) (p : ℕ) where
  pub between_append : (start middle end : ℕ) → start ≤ middle → middle ≤ end
      → events_between total es r i xs p start end ≡ events_between total es r i xs p start middle ++ events_between total es r i xs p middle end
  unfolding events_between
  between_append start middle end h k =
      let g : ℕ → List Event = λ o. told_at total es r i o (item_at xs p o) in
      let e : end - start ≡ (middle - start) + (end - middle) = omega arith in
      let u : start + (middle - start) ≡ middle = omega arith in
      rw (e, count_from_add start (middle - start) (end - middle), u, map-append g (count_from start (middle - start)) (count_from middle (end - middle)))
      (flatten_append (map g (count_from start (middle - start))) (map g (count_from middle (end - middle))))

  pub between_empty : (start end : ℕ) → end ≤ start → events_between total es r i xs p start end ≡ []
  unfolding events_between flatten count_from
  between_empty start end h = let e : end - start ≡ 0 = omega arith in rw e

  module _ (start end : ℕ) (same : SameItem xs p start end) where
    pub between_missed : item_at xs p start ≡ none → events_between total es r i xs p start end ≡ events_by (missed es r) i start end
    unfolding events_between events_by event_at told_at
    between_missed e = flat_one _ _ start (end - start) (λ o l (u : o < start + (end - start)). rw (same o l (omega arith), e))

    pub between_processed : (x : Item) → item_at xs p start ≡ some x → quorum_of total x.aggregator.stake ≡ true → events_between total es r i xs p start end
        ≡ events_by (λ _. 1) i start end
    unfolding events_between events_by event_at told_at
    between_processed x e q = flat_one _ _ start (end - start) (λ o l (u : o < start + (end - start)). rw (same o l (omega arith), e, q))

    pub between_silent : (x : Item) → item_at xs p start ≡ some x → quorum_of total x.aggregator.stake ≡ false → events_between total es r i xs p start end ≡
        []
    unfolding events_between event_at told_at
    between_silent x e q = flat_empty _ start (end - start) (λ o l (u : o < start + (end - start)). rw (same o l (omega arith), e, q))

pub told_none : (telling : Bool) → told telling [] ≡ []
told_none true = refl
told_none false = refl

-- events of a stretch as written
pub stated : (n k : ℕ) (vs ws : List Event) (before after : List ℕ) → ws ≡ vs → k ≡ n + length vs → after ≡ sets before (3 * n) (words_of vs) → StatedAt n ws
    before k after
stated n k vs ws before after e m w = record { many = rw e m; words = rw e w }

pub stated_none : (n : ℕ) (ws : List Event) (before : List ℕ) → ws ≡ [] → StatedAt n ws before n before
unfolding words_of flatten
stated_none n ws before e = record { many = rw e (omega arith); words = rw e }

pub stated_on : (n k m : ℕ) (vs ws : List Event) (before now after : List ℕ) → StatedAt n vs before k now → StatedAt k ws now m after → StatedAt n (vs ++ ws)
    before m after
stated_on n k m vs ws before now after s t =
    record {
      many = rw (length-append vs ws) (omega (arith, s.many, t.many));
      words = t.words ∙ rw (s.words, s.many) (words_on before n vs ws);
    }

pub stated_long : (n k : ℕ) (vs : List Event) (before after : List ℕ) → StatedAt n vs before k after → length after ≡ length before
stated_long n k vs before after s = rw s.words (length-sets before (3 * n) (words_of vs))

-- a stretch, as an event for each offset
pub stated_by : (f : ℕ → ℕ) (i start end n k : ℕ) (ws : List Event) (before after : List ℕ) → ws ≡ events_by f i start end → k ≡ n + (end - start)
    → after ≡ sets before (3 * n) (words_of (events_by f i start end)) → StatedAt n ws before k after
stated_by f i start end n k ws before after e m w = record { many = rw e (omega (arith, m, length_events_by f i start end)); words = rw e w }

-- at most one event an offset
one_told : (total : Stake) (es : List Entry) (r : BlockReference) (i o : ℕ) (x : Option Item) → length (told_at total es r i o x) ≤ 1
unfolding event_at told_at
one_told total es r i o none = omega arith
one_told total es r i o (some x) = go (quorum_of total x.aggregator.stake)
  where
    go : (t : Bool) → length {A = Event} (pick t (record { kind = 1; statement = i; offset = o } ∷ []) []) ≤ 1
    go true = omega arith
    go false = omega arith

-- the events of the offsets from `start` up to o are written, after n others
pub record Announcing (total : Stake) (es : List Entry) (r : BlockReference) (i : ℕ) (xs : List Item) (p start end n : ℕ) (before : List ℕ) (o k : ℕ)
    (now : List ℕ) : Type 0 where
  pub stated : StatedAt n (events_between total es r i xs p start o) before k now
  pub from : start ≤ o
  pub most : o ≤ max start end
  pub enough : 3 * (k + (end - o)) ≤ length before

module _ (total : Stake) (es : List Entry) (r : BlockReference) (i : ℕ) (xs : List Item) (p start end n : ℕ) (ev : List ℕ) where
  pub announcing_start : 3 * (n + (end - start)) ≤ length ev → Announcing total es r i xs p start end n ev start n ev
  announcing_start h =
      record { stated = stated_none n _ ev (between_empty total es r i xs p start start (omega arith)); from = omega arith; most = omega arith; enough = h }

  pub announcing_on : (o k m e : ℕ) (now after : List ℕ) → Announcing total es r i xs p start end n ev o k now → o < e → e ≤ end
      → StatedAt k (events_between total es r i xs p o e) now m after → Announcing total es r i xs p start end n ev e m after
  unfolding events_between
  announcing_on o k m e now after a l u s =
      record {
        stated = rw (between_append total es r i xs p start o e a.from (omega arith)) (stated_on n k m _ _ ev now after a.stated s);
        from = omega (arith, a.from);
        most = omega arith;
        enough = omega (
          arith,
          a.enough,
          s.many,
          length_flatten (λ q. told_at total es r i q (item_at xs p q)) (λ q. one_told total es r i q (item_at xs p q))
              (count_from o (e - o)),
          length_count_from o (e - o),
        );
      }

  pub announcing_end : (o k : ℕ) (now : List ℕ) → Announcing total es r i xs p start end n ev o k now → end ≤ o → StatedAt n
      (events_between total es r i xs p start end) ev k now
  announcing_end o k now a l = go (dec_lt start end)
    where
      go : Dec (start < end) → StatedAt n (events_between total es r i xs p start end) ev k now
      go (yes h) = let z : o ≡ end = omega (arith, a.most) in rw (← z) a.stated
      go (no h) =
          let z : o ≡ start = omega (arith, a.most, a.from) in
          rw (between_empty total es r i xs p start end (omega arith), ← between_empty total es r i xs p start start (omega arith)) (rw z at a.stated)

-- the events as `process_block` says them
pub told_event : (c : Committee) (es : List Entry) (r : BlockReference) (i o : ℕ) (x : Option Item) → event_of c es r i o x ≡ told_at (total_stake c) es r i o x
unfolding event_at event_of told_at has_quorum is_quorum
told_event c es r i o none = refl
told_event c es r i o (some x) = refl
