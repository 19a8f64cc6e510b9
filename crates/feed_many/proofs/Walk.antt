-- The loop over the records: what is fed, and what is left to feed. Assumes nothing.
use mathlib.Core.Path.{◌≡◌, refl, sym, ap, ◌∙◌}
use mathlib.Core.List.{List, [], ◌∷◌, ◌++◌, append_assoc, append-nil}
use Prim.Native.Nat.{ℕ, ◌+◌, ◌-◌, ◌≤◌, ◌<◌}
use native.Mathlib.Numerals.{add-one}
use native.Mathlib.Omega.{arith}
use lib.ListN.{length, take, drop, set, length-append, length-drop, take-append-drop, drop_of_length-le}
use lib.Seq.{length-take-le, take_all, take-append-add, drop-append-add, take-suc-set, drop-set-lt, drop-drop}
use Rattle.base.specs.Le.{Bytes}
use Rattle.committee.specs.Committee.{Committee}
use Rattle.feed_spec.specs.Feed.{lent_of, feed}
use Rattle.host_feed_bytes.proofs.Feeds.{work_free}
use Rattle.feed_frames.specs.Frames.{records_in}
use Rattle.feed_many.specs.Records.{FedAll, feed_all}
use Rattle.feed_frames.specs.Next.{NextRecord}
use Rattle.feed_many.specs.Step.{FedNext, FedEach}
use Rattle.feed_frames.specs.declared.Frame.{Frame}
use Rattle.feed_many.specs.declared.Told.{Told}
use Rattle.feed_frames.proofs.Frames.{records_end}

-- z is what all the feeds leave: what was fed up to `at`, with the feeds of the records from there on; w and o₀ are the work slice and the
-- outcomes as they were lent
pub record Walked (c : Committee) (w : List ℕ) (z : FedAll) (o₀ : List ℕ) (recs : Bytes) (s : Bytes) (t v o : List ℕ) (at used k : ℕ) : Type 0 where
  pub store : z.store ≡ (feed_all c (lent_of s t w (drop used v)) (records_in (drop at recs))).store
  pub table : z.table ≡ (feed_all c (lent_of s t w (drop used v)) (records_in (drop at recs))).table
  pub events : z.events ≡ take used v ++ (feed_all c (lent_of s t w (drop used v)) (records_in (drop at recs))).events
  pub outcomes : z.outcomes ≡ take k o ++ (feed_all c (lent_of s t w (drop used v)) (records_in (drop at recs))).outcomes
  pub past : drop k o ≡ drop k o₀
  pub many : k + length (records_in (drop at recs)) ≡ length (records_in recs)
  pub within : at ≤ length recs
  pub room : used ≤ length v

pub walked_none : (c : Committee) (w o₀ : List ℕ) (recs s : Bytes) (t v : List ℕ)
    → Walked c w (feed_all c (lent_of s t w v) (records_in recs)) o₀ recs s t v o₀ 0 0 0
walked_none c w o₀ recs s t v =
    record { store = refl; table = refl; events = refl; outcomes = refl; past = refl; many = omega arith; within = omega arith; room = omega arith }

-- the feeds of a record and of those after it
feed_first : (c : Committee) (s s' : Bytes) (t t' w w' v v' : List ℕ) (rec : Bytes) (rs : List Bytes) (r : Told) → length w' ≡ length w
    → FedNext (feed c (lent_of s t w' v) rec) r s' t' v'
    → feed_all c (lent_of s t w v) (rec ∷ rs)
    ≡ (let rest : FedAll = feed_all c (lent_of s' t' w (drop r.words v')) rs in
    record { outcomes = r.outcome ∷ rest.outcomes; store = rest.store; table = rest.table; events = take r.words v' ++ rest.events })
unfolding feed_all
feed_first c s s' t t' w w' v v' rec rs r e f =
    rw (← work_free c s t w' w v rec e, f.outcome, f.words, f.store, f.table, f.events)

module _ (c : Committee) (w w' : List ℕ) (z : FedAll) (o₀ : List ℕ) (recs s s' : Bytes) (t t' v v' o : List ℕ) (at used k : ℕ) (f : Frame) (r : Told)
    (a : Walked c w z o₀ recs s t v o at used k) (n : NextRecord recs at f) (e : length w' ≡ length w)
    (d : FedNext (feed c (lent_of s t w' (drop used v)) (take (f.end - f.start) (drop f.start recs))) r s' t' v')
    (h : k < length o) where
  rest : FedAll
  rest = feed_all c (lent_of s' t' w (drop r.words v')) (records_in (drop f.end recs))

  told : feed_all c (lent_of s t w (drop used v)) (records_in (drop at recs))
      ≡ record { outcomes = r.outcome ∷ rest.outcomes; store = rest.store; table = rest.table; events = take r.words v' ++ rest.events }
  unfolding rest
  told = rw n.records (feed_first c s s' t t' w w' (drop used v) v' _ (records_in (drop f.end recs)) r e d)

  front : length (take used v) ≡ used
  front = length-take-le used v a.room

  dropped : drop (used + r.words) (take used v ++ v') ≡ drop r.words v'
  dropped = rw front at (drop-append-add (take used v) v' r.words)

  taken : take (used + r.words) (take used v ++ v') ≡ take used v ++ take r.words v'
  taken = rw front at (take-append-add (take used v) v' r.words)

  -- u is the events slice with what the record was lent back in its place
  pub walked_on : (u : List ℕ) → u ≡ take used v ++ v' → Walked c w z o₀ recs s' t' u (set o k r.outcome) f.end (used + r.words) (k + 1)
  unfolding rest
  walked_on u q =
      rw q (record {
        store = a.store ∙ ap (λ (x : FedAll). x.store) told ∙ rw dropped;
        table = a.table ∙ ap (λ (x : FedAll). x.table) told ∙ rw dropped;
        events = a.events ∙ ap (λ (x : FedAll). take used v ++ x.events) told ∙ rw (taken, dropped)
            (sym (append_assoc (take used v) (take r.words v') rest.events));
        outcomes = a.outcomes ∙ ap (λ (x : FedAll). take k o ++ x.outcomes) told ∙ rw (dropped, add-one k, take-suc-set o k r.outcome h)
            (sym (append_assoc (take k o) (r.outcome ∷ []) rest.outcomes));
        past = drop-set-lt (k + 1) o k r.outcome (omega arith) ∙ sym (drop-drop 1 k o) ∙ ap (drop 1) a.past ∙ drop-drop 1 k o₀;
        many = omega (arith, a.many, ap length n.records);
        within = n.within;
        room = omega (arith, length-append (take used v) v', front, d.room);
      })

-- the rest of a slice, lent and back: nothing stands past it
pub rest_back : (v v' : List ℕ) (used : ℕ) → take used v ++ (v' ++ drop (length v - used) (drop used v)) ≡ take used v ++ v'
rest_back v v' used =
    let e : drop (length v - used) (drop used v) ≡ [] = drop_of_length-le (drop used v) {i = length v - used} (omega (arith, length-drop used v)) in
    rw (e, append-nil v')

-- and it is all that stands there
pub rest_whole : (v : List ℕ) (used : ℕ) → take (length v - used) (drop used v) ≡ drop used v
rest_whole v used = take_all (length v - used) (drop used v) (omega (arith, length-drop used v))

pub rest_length : (v v' : List ℕ) (used : ℕ) → used ≤ length v → length v' ≡ length (take (length v - used) (drop used v))
    → length (take used v ++ (v' ++ drop (length v - used) (drop used v))) ≡ length v
rest_length v v' used h e =
    rw (rest_back v v' used, length-append (take used v) v', length-take-le used v h, e, rest_whole v used, length-drop used v) (omega arith)

-- a word is left for the outcome of the next record
pub word_left : {c : Committee} {w : List ℕ} {z : FedAll} {o₀ : List ℕ} {recs s : Bytes} {t v o : List ℕ} {at used k : ℕ} {f : Frame}
    → Walked c w z o₀ recs s t v o at used k → NextRecord recs at f → length (records_in recs) ≤ length o → k < length o
word_left a n h = omega (arith, a.many, ap length n.records)

-- all records are fed
pub walked_all : (c : Committee) (w : List ℕ) (z : FedAll) (o₀ : List ℕ) (recs s : Bytes) (t v o : List ℕ) (at used k : ℕ)
    → Walked c w z o₀ recs s t v o at used k → length recs ≤ at → k ≤ length o → FedEach z o₀ k s t v o
unfolding feed_all
walked_all c w z o₀ recs s t v o at used k a h l =
    let e = records_end recs at h in
    let told : z.outcomes ≡ take k o = (rw e at a.outcomes) ∙ append-nil (take k o) in
    let many : length z.outcomes ≡ k = ap length told ∙ length-take-le k o l in
    record {
      number = sym many;
      store = sym (rw e at a.store);
      table = sym (rw e at a.table);
      events = sym ((rw e at a.events) ∙ take-append-drop used v);
      outcomes = rw (many, told, ← a.past) (sym (take-append-drop k o));
    }
