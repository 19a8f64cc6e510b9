-- Records fed in two calls. Assumes nothing.
use mathlib.Core.Path.{◌≡◌, refl, sym, ap, ◌∙◌}
use mathlib.Core.List.{List, [], ◌∷◌, ◌++◌, append_assoc}
use Prim.Native.Nat.{ℕ, ◌+◌, ◌^◌, ◌<◌}
use native.Mathlib.Omega.{arith}
use lib.ListN.{length, take, drop, length-drop}
use lib.Seq.{length-take-le, take-append-add, drop-append-add, drop-drop}
use Rattle.base.specs.Lists.{sum_of}
use Rattle.base.specs.Le.{Bytes}
use Rattle.committee.specs.Committee.{Committee}
use Rattle.feed_spec.specs.Feed.{Lent, lent_of, feed}
use Rattle.feed_many.specs.Records.{outcome_of, words_told, feed_all}
use Rattle.feed_many.specs.Step.{Ready}
use Rattle.feed_many_theorems.specs.Claims.{words_of_all}
use Rattle.feed_many.proofs.Feeding.{ready_fed}
use Rattle.feed_many.proofs.Telling.{telling}

-- what the next record is lent
abbrev onward : Committee → Lent → Bytes → Lent
onward c m r = lent_of (feed c m r).store (feed c m r).table m.work (drop (words_told (feed c m r).answer) (feed c m r).events)

-- what is lent to the records after some others
abbrev pub after : Committee → Lent → List Bytes → Lent
after c m rs =
    lent_of (feed_all c m rs).store (feed_all c m rs).table m.work (drop (words_of_all (feed_all c m rs).outcomes) (feed_all c m rs).events)

pub record Parted (c : Committee) (m : Lent) (rs qs : List Bytes) : Type 0 where
  pub outcomes : (feed_all c m (rs ++ qs)).outcomes ≡ (feed_all c m rs).outcomes ++ (feed_all c (after c m rs) qs).outcomes
  pub store : (feed_all c m (rs ++ qs)).store ≡ (feed_all c (after c m rs) qs).store
  pub table : (feed_all c m (rs ++ qs)).table ≡ (feed_all c (after c m rs) qs).table
  pub events : (feed_all c m (rs ++ qs)).events ≡ take (words_of_all (feed_all c m rs).outcomes) (feed_all c m rs).events
      ++ (feed_all c (after c m rs) qs).events

module _ (c : Committee) (m : Lent) (r : Bytes) (rs : List Bytes) (l : length m.events < 2 ^ 63) where
  -- the words of the first record's events, and of the others'
  words_on : words_of_all (feed_all c m (r ∷ rs)).outcomes ≡ words_told (feed c m r).answer + words_of_all (feed_all c (onward c m r) rs).outcomes
  unfolding feed_all words_of_all sum_of
  words_on = rw ((telling c m r).told l)

  front : length (take (words_told (feed c m r).answer) (feed c m r).events) ≡ words_told (feed c m r).answer
  front = length-take-le (words_told (feed c m r).answer) (feed c m r).events (telling c m r).inside

  rest_on : drop (words_of_all (feed_all c m (r ∷ rs)).outcomes) (feed_all c m (r ∷ rs)).events
      ≡ drop (words_of_all (feed_all c (onward c m r) rs).outcomes) (feed_all c (onward c m r) rs).events
  rest_on =
      rw words_on
      (unfold feed_all in
      rw front at (drop-append-add (take (words_told (feed c m r).answer) (feed c m r).events) (feed_all c (onward c m r) rs).events
      (words_of_all (feed_all c (onward c m r) rs).outcomes)))

  front_on : take (words_of_all (feed_all c m (r ∷ rs)).outcomes) (feed_all c m (r ∷ rs)).events
      ≡ take (words_told (feed c m r).answer) (feed c m r).events
      ++ take (words_of_all (feed_all c (onward c m r) rs).outcomes) (feed_all c (onward c m r) rs).events
  front_on =
      rw words_on
      (unfold feed_all in
      rw front at (take-append-add (take (words_told (feed c m r).answer) (feed c m r).events) (feed_all c (onward c m r) rs).events
      (words_of_all (feed_all c (onward c m r) rs).outcomes)))

  -- what the records after these are lent
  after_on : after c m (r ∷ rs) ≡ after c (onward c m r) rs
  after_on = rw rest_on (unfold feed_all in refl)

  shorter : length (onward c m r).events < 2 ^ 63
  shorter = omega (arith, l, (telling c m r).kept, length-drop (words_told (feed c m r).answer) (feed c m r).events)

-- words past the last event keep their content
pub past_kept : (c : Committee) (m : Lent) (rs : List Bytes) → length m.events < 2 ^ 63
    → drop (words_of_all (feed_all c m rs).outcomes) (feed_all c m rs).events ≡ drop (words_of_all (feed_all c m rs).outcomes) m.events
past_kept c m [] l = unfold feed_all words_of_all sum_of in refl
past_kept c m (r ∷ rs) l =
    let n = words_told (feed c m r).answer in
    let k = words_of_all (feed_all c (onward c m r) rs).outcomes in
    rest_on c m r rs l
    ∙ past_kept c (onward c m r) rs (shorter c m r rs l)
    ∙ ap (drop k) (telling c m r).past
    ∙ drop-drop k n m.events
    ∙ ap (λ (j : ℕ). drop j m.events) (sym (words_on c m r rs l))

pub parted : (c : Committee) (m : Lent) (rs qs : List Bytes) → length m.events < 2 ^ 63 → Parted c m rs qs
unfolding feed_all words_of_all sum_of
parted c m [] qs l = record { outcomes = refl; store = refl; table = refl; events = refl }
parted c m (r ∷ rs) qs l =
    let n = words_told (feed c m r).answer in
    let ih = parted c (onward c m r) rs qs (shorter c m r rs l) in
    let e = after_on c m r rs l in
    record {
      outcomes = ap (λ (x : List ℕ). outcome_of (feed c m r).answer ∷ x) ih.outcomes
          ∙ ap (λ (x : Lent). outcome_of (feed c m r).answer ∷ (feed_all c (onward c m r) rs).outcomes ++ (feed_all c x qs).outcomes) (sym e);
      store = ih.store ∙ ap (λ (x : Lent). (feed_all c x qs).store) (sym e);
      table = ih.table ∙ ap (λ (x : Lent). (feed_all c x qs).table) (sym e);
      events = ap (λ (x : List ℕ). take n (feed c m r).events ++ x) ih.events
          ∙ sym (append_assoc (take n (feed c m r).events) _ _)
          ∙ ap (λ (x : List ℕ). x ++ (feed_all c (after c (onward c m r) rs) qs).events) (sym (front_on c m r rs l))
          ∙ ap (λ (x : Lent). take (words_of_all (feed_all c m (r ∷ rs)).outcomes) (feed_all c m (r ∷ rs)).events ++ (feed_all c x qs).events) (sym e);
    }

pub all_many : (c : Committee) (m : Lent) (rs : List Bytes) → length (feed_all c m rs).outcomes ≡ length rs
unfolding feed_all
all_many c m [] = refl
all_many c m (r ∷ rs) = omega (arith, all_many c (onward c m r) rs)

pub all_ready : (c : Committee) (m : Lent) (rs : List Bytes) → Ready c m.store m.table m.work
    → Ready c (feed_all c m rs).store (feed_all c m rs).table m.work
unfolding feed_all
all_ready c m [] h = h
all_ready c m (r ∷ rs) h = all_ready c (onward c m r) rs (ready_fed c m r h m.work refl)
