-- Events written one after the other. Assumes nothing.
use mathlib.Core.Path.{◌≡◌, refl, ap, ◌∙◌}
use mathlib.Core.List.{List, [], ◌∷◌, ◌++◌, map, map-append, flatten}
use Prim.Native.Nat.{ℕ, ◌+◌, ◌-◌, ◌*◌, ◌≤◌, ◌<◌}
use native.Mathlib.Omega.{arith}
use lib.ListN.{length, length-map}
use lib.Seq.{sets, length-sets}
use Rattle.base.specs.Lists.{count_from}
use Rattle.base.proofs.Le.{sets_append}
use Rattle.base.proofs.Lists.{length_count_from, count_from_add, flatten_append}
use Rattle.feed_spec.specs.ProcessBlock.{Event, event_words, words_of}
use Rattle.feed_spec.proofs.ProcessBlock.{length_words}
use Rattle.feed_missed.specs.Kinds.{events_by}

event : ℕ → ℕ → ℕ → Event
event kind i o = record { kind = kind; statement = i; offset = o }

-- ---- words

words_append : (vs ws : List Event) → words_of (vs ++ ws) ≡ words_of vs ++ words_of ws
unfolding words_of
words_append vs ws = rw (map-append event_words vs ws) (flatten_append (map event_words vs) (map event_words ws))

one_event : (k j i o : ℕ) → k ≡ j → ◌≡◌ {A = List ℕ} (k ∷ i ∷ o ∷ []) (words_of (event j i o ∷ []))
unfolding words_of flatten event_words event
one_event k j i o e = rw e

-- events written after others
pub words_on : (ev : List ℕ) (n : ℕ) (vs ws : List Event) → sets (sets ev (3 * n) (words_of vs)) (3 * (n + length vs)) (words_of ws) ≡ sets ev (3 * n)
    (words_of (vs ++ ws))
words_on ev n vs ws =
    let e : 3 * (n + length vs) ≡ 3 * n + length (words_of vs) = omega (arith, length_words vs) in
    rw (e, words_append vs ws, sets_append (words_of vs) (words_of ws) ev (3 * n))

-- ---- an event for each offset

module _ (f : ℕ → ℕ) (i start : ℕ) where
  pub length_events_by : (end : ℕ) → length (events_by f i start end) ≡ end - start
  unfolding events_by
  length_events_by end = length-map (count_from start (end - start)) _ ∙ length_count_from start (end - start)

  none_yet : events_by f i start start ≡ []
  unfolding events_by count_from
  none_yet = let e : start - start ≡ 0 = omega arith in rw e

  one_more : (o : ℕ) → start ≤ o → events_by f i start (o + 1) ≡ events_by f i start o ++ (event (f o) i o ∷ [])
  unfolding events_by count_from event
  one_more o h =
      let e : o + 1 - start ≡ (o - start) + 1 = omega arith in
      let u : start + (o - start) ≡ o = omega arith in
      rw (e, count_from_add start (o - start) 1, u) (map-append _ (count_from start (o - start)) (o ∷ []))

-- the events of the offsets from `start` up to o are written, after n others
pub record Telling (f : ℕ → ℕ) (i start end n : ℕ) (before : List ℕ) (o k : ℕ) (now : List ℕ) : Type 0 where
  pub from : start ≤ o
  pub most : o ≤ end
  pub many : k ≡ n + (o - start)
  pub words : now ≡ sets before (3 * n) (words_of (events_by f i start o))

module _ (f : ℕ → ℕ) (i start end n : ℕ) (ev : List ℕ) where
  pub telling_start : start ≤ end → Telling f i start end n ev start n ev
  unfolding words_of flatten
  telling_start h = record { from = omega arith; most = h; many = omega arith; words = rw (none_yet f i start) }

  pub telling_long : (o k : ℕ) (now : List ℕ) → Telling f i start end n ev o k now → length now ≡ length ev
  telling_long o k now t = rw t.words (length-sets ev (3 * n) (words_of (events_by f i start o)))

  pub telling_on : (o k : ℕ) (now after : List ℕ) (kind : ℕ) → Telling f i start end n ev o k now → o < end → kind ≡ f o
      → after ≡ sets now (3 * k) (kind ∷ i ∷ o ∷ []) → Telling f i start end n ev (o + 1) (k + 1) after
  unfolding event
  telling_on o k now after kind t h e w =
      record {
        from = omega (arith, t.from);
        most = omega arith;
        many = omega (arith, t.many, t.from);
        words = w ∙ ap (λ (x : List ℕ). sets now (3 * k) x) (one_event kind (f o) i o e) ∙ at_end;
      }
    where
      at_end : sets now (3 * k) (words_of (event (f o) i o ∷ [])) ≡ sets ev (3 * n) (words_of (events_by f i start (o + 1)))
      at_end =
          let c : k ≡ n + length (events_by f i start o) = omega (arith, t.many, length_events_by f i start o) in
          rw (t.words, c, one_more f i start o t.from) (words_on ev n (events_by f i start o) (event (f o) i o ∷ []))

  pub telling_end : (o k : ℕ) (now : List ℕ) → Telling f i start end n ev o k now → end ≤ o → (k ≡ n + (end - start)) ×
      (now ≡ sets ev (3 * n) (words_of (events_by f i start end)))
  telling_end o k now t h =
      let z : o ≡ end = omega (arith, t.most) in
      (rw (← z) t.many, rw (← z) t.words)

-- kinds that are the same give the same events
pub same_kinds : (f g : ℕ → ℕ) (i start end : ℕ) → ((o : ℕ) → f o ≡ g o) → events_by f i start end ≡ events_by g i start end
unfolding events_by
same_kinds f g i start end h = go (count_from start (end - start))
  where
    go : (os : List ℕ) → ◌≡◌ {A = List Event} (map (λ o. record { kind = f o; statement = i; offset = o }) os)
        (map (λ o. record { kind = g o; statement = i; offset = o }) os)
    go [] = refl
    go (o ∷ os) = rw (h o, go os)

-- events by another way to say their kinds
pub retold : (f g : ℕ → ℕ) (i start end n : ℕ) (before after : List ℕ) → ((o : ℕ) → f o ≡ g o) → after
    ≡ sets before (3 * n) (words_of (events_by f i start end))
    → after ≡ sets before (3 * n) (words_of (events_by g i start end))
retold f g i start end n before after h w = w ∙ ap (λ (vs : List Event). sets before (3 * n) (words_of vs)) (same_kinds f g i start end h)
