-- A list that a host asks on, one by one and in bulk, is the list of the engine. Assumes nothing.
use mathlib.Core.Path.{◌≡◌, refl, sym, ap, subst, ◌∙◌}
use mathlib.Core.Bool.{Bool, true, false}
use mathlib.Core.List.{List, [], ◌∷◌, ◌++◌, map, flatten, append-nil, append_assoc}
use mathlib.Core.Option.{Option, none, some, some-injective, none-ne-some}
use Prim.Native.Nat.{ℕ, ◌+◌, ◌-◌, ◌*◌, ◌^◌, ◌≤◌, ◌<◌}
use native.Mathlib.Decide.{ℕ_discrete}
use native.Mathlib.Omega.{arith}
use lib.ListN.{length, take, drop, replicate, length-append, length-map, length-replicate}
use lib.Seq.{drop-drop, take_at, drop_at}
use borrow.Author.Tests.{eq-eqb, ne_eqb}
use Rattle.base.specs.Lists.{all_of, keep, is_empty, ◌∈◌, here, there}
use Rattle.base.specs.Le.{Bytes, le_number, le_bytes, le_at}
use Rattle.base.specs.Read.{complete}
use Rattle.base.specs.Checks.{passes, checked, Answer, refused, answered}
use Rattle.base.proofs.Lists.{Every, none_of, and, every_in, length_keep}
use Rattle.base.proofs.Le.{AllBytes, length_le_bytes, le_number_le_bytes}
use Rattle.committee.specs.Committee.{Committee, broken}
use Rattle.committee.proofs.Bounds.{total_most}
use Rattle.committee_set.specs.AuthoritySet.{set_of}
use Rattle.committee_set.proofs.Sums.{stake_most}
use Rattle.record_spec.specs.Reference.{TransactionLocator, TransactionLocatorRange, locator, one_range, new_range}
use Rattle.record_spec.specs.Block.{Statement, share, accept, reject, vote_range, Block, author, voted_range, spans}
use Rattle.record_spec.specs.Record.{read_locator, reference_bytes, locator_bytes}
use Rattle.record_spec.proofs.Records.{ReferenceFits, LocatorFits, StatementFits, BlockFits, locator_reads, length_reference}
use Rattle.record_spec.proofs.Spans.{Span, of_share, of_vote, span_of}
use Rattle.store_spec.specs.Store.{records_of, store_in_order}
use Rattle.store_spec.proofs.Store.{in_order_lem}
use Rattle.final_spec.specs.Voters.{is_final}
use Rattle.final_spec.specs.Finality.{blocks_of}
use Rattle.final_spec.specs.NextFinal.{next_final_checks}
use Rattle.final_spec.proofs.Fits.{block_fits}
use Rattle.final_spec.proofs.Growing.{final_votes}
use Rattle.final_spec.proofs.Votes.{spanned}
use Rattle.list_stretches_spec.specs.Stretches.{Listing, FinalStretch, last_locator, stretch_end, stretch_at, stretches, reached, more_follow}
use Rattle.list_stretches_spec.specs.Bulk.{stretch_bytes, stretch_room, bytes_after, Given, given_after, list_next, list_stretches}
use Rattle.list_stretches_spec.specs.Claims.{Lawful, Gives, done as given_none, onward as given_more}
use Rattle.list_stretches_spec.proofs.Spreading.{next_shown, shown_ends, goes_shows, begun}
use Rattle.list_block_spans.proofs.Fits.{final_offset}
use Rattle.record_reference_bytes.specs.Step.{locator_at}
use Rattle.list_stretch_bytes.proofs.Stretch.{eighty, stretch_laid, locator_length}
use Rattle.list_theorems.specs.Bulk as bulk
use Rattle.list_theorems.proofs.Reaching.{answered_as}
use Rattle.host_calls.specs.Calls.{flag}
use Rattle.host_locators.specs.Locators.{locator_of, refusal_before}
use Rattle.host_locators.proofs.Locators.{locator_read}
use Rattle.host_final_answers.specs.Answers.{after_locator, after_of, NextFinalCall, found_in, whole_stretches, stretches_number}
use Rattle.host_finals.specs.NextFinal.{asked_next_final}
use Rattle.host_finals.specs.Stretches.{StretchesCall, stretches_in, asked_stretches}
use Rattle.load_along.proofs.Words.{range_from, range_back}
use Rattle.host_theorems.specs.Lists.{NextCall, FoundOn, done, onward, stretch_in, stretches_read, place_after, BulkCall, StretchesOn, ends, goes}

-- ---- a locator and its bytes

module _ (l : TransactionLocator) (f : LocatorFits l) where
  locator_long : length (locator_bytes l) ≡ 56
  unfolding locator_bytes
  locator_long =
      omega (arith, length-append (reference_bytes l.block) (le_bytes 8 l.offset), length_reference l.block f.block, length_le_bytes 8 l.offset)

  locator_back : locator_of (locator_bytes l) ≡ some l
  unfolding locator_of complete is_empty
  locator_back = ap complete (ap read_locator (sym (append-nil (locator_bytes l))) ∙ locator_reads l f [])

  after_back : after_of (locator_bytes l) ≡ some (some l)
  unfolding after_of after_locator
  after_back = rw (ne_eqb (length (locator_bytes l)) 0 (λ (e : length (locator_bytes l) ≡ 0). omega (arith, locator_long, e)), locator_back)

  locator_at_lem : locator_at (locator_bytes l) 0 ≡ l
  locator_at_lem = some-injective _ _ (sym (locator_read (locator_bytes l) locator_long) ∙ locator_back)

pub after_start : after_of [] ≡ some none
unfolding after_of
after_start = refl

-- ---- what is final fits its bytes

span_block : (d : Block) → BlockFits d → (q : TransactionLocatorRange) → q ∈ spans d → ReferenceFits q.block
unfolding spans voted_range one_range new_range locator
span_block d f q i = go (span_of d.reference 0 d.statements q i)
  where
    voted : (x : Statement) → StatementFits x → voted_range x ≡ some q → ReferenceFits q.block
    voted (share p) k e = absurd (none-ne-some q e)
    voted (accept l) k e = subst (λ (y : TransactionLocatorRange). ReferenceFits y.block) (some-injective _ _ e) k.block
    voted (reject l other) k e = absurd (none-ne-some q e)
    voted (vote_range r) k e = subst (λ (y : TransactionLocatorRange). ReferenceFits y.block) (some-injective _ _ e) k.block

    go : Span d.reference 0 d.statements q → ReferenceFits q.block
    go (of_share k h e) = subst (λ (y : TransactionLocatorRange). ReferenceFits y.block) (sym e) f.reference
    go (of_vote x m e) = voted x (every_in d.statements x f.statements m) e

-- ---- a stretch and its bytes

record StretchFits (t : FinalStretch) : Type 0 where
  block : ReferenceFits t.block
  first : t.first < 256 ^ 8
  end : t.end < 256 ^ 8
  blocks : t.blocks < 256 ^ 8
  stake : t.stake < 256 ^ 8

module _ (t : FinalStretch) (f : StretchFits t) (rest : Bytes) where
  abbrev b : Bytes
  b = stretch_bytes t ++ rest

  abbrev first_bytes : Bytes
  first_bytes = locator_bytes (locator t.block t.first)

  laid : b ≡ first_bytes ++ (le_bytes 8 t.end ++ (le_bytes 8 t.blocks ++ (le_bytes 8 t.stake ++ rest)))
  laid =
      ap (λ (x : Bytes). x ++ rest) (stretch_laid t f.block.bytes f.block.size)
      ∙ append_assoc first_bytes (le_bytes 8 t.end ++ (le_bytes 8 t.blocks ++ le_bytes 8 t.stake)) rest
      ∙ ap (λ (x : Bytes). first_bytes ++ x)
      (append_assoc (le_bytes 8 t.end) (le_bytes 8 t.blocks ++ le_bytes 8 t.stake) rest
      ∙ ap (λ (x : Bytes). le_bytes 8 t.end ++ x) (append_assoc (le_bytes 8 t.blocks) (le_bytes 8 t.stake) rest))

  past_end : drop 64 b ≡ le_bytes 8 t.blocks ++ (le_bytes 8 t.stake ++ rest)
  past_end =
      sym (drop-drop 8 56 b)
      ∙ ap (λ (x : Bytes). drop 8 (drop 56 x)) laid
      ∙ ap (λ (x : Bytes). drop 8 x) (drop_at first_bytes _ 56 (locator_length t f.block.size))
      ∙ drop_at (le_bytes 8 t.end) _ 8 (length_le_bytes 8 t.end)

  read_number : (v : ℕ) (x : Bytes) → v < 256 ^ 8 → le_number (take 8 (le_bytes 8 v ++ x)) ≡ v
  read_number v x h = ap le_number (take_at (le_bytes 8 v) x 8 (length_le_bytes 8 v)) ∙ le_number_le_bytes 8 v h

  read_blocks : le_at 8 b 64 ≡ t.blocks
  unfolding le_at
  read_blocks = ap (λ (x : Bytes). le_number (take 8 x)) past_end ∙ read_number t.blocks _ f.blocks

  read_stake : le_at 8 b 72 ≡ t.stake
  unfolding le_at
  read_stake =
      ap (λ (x : Bytes). le_number (take 8 x))
      (sym (drop-drop 8 64 b) ∙ ap (λ (x : Bytes). drop 8 x) past_end ∙ drop_at (le_bytes 8 t.blocks) _ 8 (length_le_bytes 8 t.blocks))
      ∙ read_number t.stake rest f.stake

  stretch_back : stretch_in b ≡ t
  unfolding stretch_in range_from new_range locator_at locator
  stretch_back =
      let r = range_back b 0 t rest refl f.block f.first f.end in
      λ i. record { block = (r i).block; first = (r i).start; end = (r i).end; blocks = read_blocks i; stake = read_stake i }

stretches_back : (ts : List FinalStretch) → Every StretchFits ts → (rest : Bytes) → stretches_read (length ts) (flatten (map stretch_bytes ts) ++ rest) ≡ ts
unfolding stretches_read flatten
stretches_back [] none_of rest = refl
stretches_back (t ∷ ts) (and f fs) rest =
    let e : (stretch_bytes t ++ flatten (map stretch_bytes ts)) ++ rest ≡ stretch_bytes t ++ (flatten (map stretch_bytes ts) ++ rest) =
    append_assoc (stretch_bytes t) (flatten (map stretch_bytes ts)) rest in
    rw (e, stretch_back t f (flatten (map stretch_bytes ts) ++ rest), drop_at (stretch_bytes t) (flatten (map stretch_bytes ts) ++ rest) 80 (eighty t))
    (ap {B = List FinalStretch} (λ us. t ∷ us) (stretches_back ts fs rest))

-- ---- an even answer and an odd one

even : (m n : ℕ) (t : Bool) → 2 * m + flag t ≡ 2 * n → (m ≡ n) × (t ≡ false)
unfolding flag
even m n true e = absurd (omega (arith, e))
even m n false e = (omega (arith, e), refl)

odd : (m n : ℕ) (t : Bool) → 2 * m + flag t ≡ 2 * n + 1 → (m ≡ n) × (t ≡ true)
unfolding flag
odd m n true e = (omega (arith, e), refl)
odd m n false e = absurd (omega (arith, e))

-- ---- a list over a store

module _ (c : Committee) (b : broken c ≡ false) (s : Bytes) (o : store_in_order c s ≡ true) (bytes : AllBytes s) where
  abbrev bs : List Block
  bs = blocks_of s

  final_fits : (l : TransactionLocator) → is_final c bs l ≡ true → LocatorFits l
  final_fits l h =
      let v = final_votes c bs l h in
      let p = spanned v.block l v.votes in
      record {
        block = subst ReferenceFits p.covering.of (span_block v.block (block_fits s bytes v.block v.stands) p.span p.stands);
        offset = omega (arith, final_offset c s bytes o l h);
      }

  module _ (k : Listing) (law : Lawful bs k) (finals : (l : TransactionLocator) → k.shows l ≡ true → is_final c bs l ≡ true) where
    next_fits : (a : Option TransactionLocator) (l : TransactionLocator) → k.next a ≡ some l → LocatorFits l
    next_fits a l e = final_fits l (finals l (next_shown c bs k law a l e))

    -- the locators of a list, from their bytes
    pub locators_back : {a : Option TransactionLocator} (ls : List TransactionLocator) → Gives k a ls → map (λ x. locator_at x 0) (map locator_bytes ls) ≡ ls
    locators_back [] (given_none e) = refl
    locators_back {a} (l ∷ ls) (given_more e g) = rw (locator_at_lem l (next_fits a l e), locators_back ls g)

    -- ---- one by one

    module _ (call : NextCall) (stakes : Bytes) (is : (x out : Bytes) → call stakes s x out ≡ asked_next_final c s k (after_of x) out) where
      call_found : (x : Bytes) (a : Option TransactionLocator) (out : Bytes) → after_of x ≡ some a → length out ≡ 56
          → call stakes s x out ≡ found_in out (answered (k.next a))
      unfolding asked_next_final list_next next_final_checks checked passes all_of
      call_found x a out e h = is x out ∙ rw (e, eq-eqb (length out) 56 h, b, o)

      call_room : (x : Bytes) (a : Option TransactionLocator) (out : Bytes) (n : ℕ) → after_of x ≡ some a → (call stakes s x out).answer ≡ answered n
          → length out ≡ 56
      unfolding asked_next_final
      call_room x a out n e h = by (ℕ_discrete (length out) 56)
        where
          by : Dec (length out ≡ 56) → length out ≡ 56
          by (yes m) = m
          by (no m) =
              let f : call stakes s x out ≡ record { answer = refused (refusal_before 40 c s); found = out } = is x out ∙ rw (e, ne_eqb (length out) 56 m) in
              let g : ◌≡◌ {A = Answer ℕ} (refused (refusal_before 40 c s)) (answered n) = sym (ap (λ (y : NextFinalCall). y.answer) f) ∙ h in
              let z : ◌≡◌ {A = ℕ} 0 1 = cc in
              absurd (omega arith)

      room : Bytes
      room = replicate 56 0

      call_none : (x : Bytes) (a : Option TransactionLocator) (out : Bytes) → after_of x ≡ some a → length out ≡ 56 → k.next a ≡ none
          → (call stakes s x out).answer ≡ answered 0
      unfolding found_in
      call_none x a out e h n =
          ap (λ (y : NextFinalCall). y.answer) (call_found x a out e h ∙ ap (λ (m : Option TransactionLocator). found_in out (answered m)) n)

      call_some : (x : Bytes) (a : Option TransactionLocator) (out : Bytes) (l : TransactionLocator) → after_of x ≡ some a → length out ≡ 56 → k.next a ≡ some l
          → ((call stakes s x out).answer ≡ answered 1) × ((call stakes s x out).found ≡ locator_bytes l)
      unfolding found_in
      call_some x a out l e h n =
          let f = call_found x a out e h ∙ ap (λ (m : Option TransactionLocator). found_in out (answered m)) n in
          (ap (λ (y : NextFinalCall). y.answer) f, ap (λ (y : NextFinalCall). y.found) f)

      pub to_found : (x : Bytes) (a : Option TransactionLocator) → after_of x ≡ some a → (ls : List TransactionLocator) → Gives k a ls
          → FoundOn call stakes s x (map locator_bytes ls)
      unfolding room
      to_found x a e [] (given_none n) = done room (call_none x a room e (length-replicate {A = ℕ} 56 0) n)
      to_found x a e (l ∷ ls) (given_more n g) =
          let f = call_some x a room l e (length-replicate {A = ℕ} 56 0) n in
          onward room f.0 f.1 (to_found (locator_bytes l) (some l) (after_back l (next_fits a l n)) ls g)

      pub from_found : (x : Bytes) (a : Option TransactionLocator) → after_of x ≡ some a → (ys : List Bytes) → FoundOn call stakes s x ys
          → (ls : List TransactionLocator) → Gives k a ls
          → ys ≡ map locator_bytes ls
      from_found x a e [] (done out h) [] (given_none n) = refl
      from_found x a e [] (done out h) (l ∷ ls) (given_more n g) =
          let f = call_some x a out l e (call_room x a out 0 e h) n in
          let z : ◌≡◌ {A = Answer ℕ} (answered 1) (answered 0) = sym f.0 ∙ h in
          let q : ◌≡◌ {A = ℕ} 1 0 = cc in
          absurd (omega arith)
      from_found x a e (y ∷ ys) (onward out h m on) [] (given_none n) =
          let z : ◌≡◌ {A = Answer ℕ} (answered 0) (answered 1) = sym (call_none x a out e (call_room x a out 1 e h) n) ∙ h in
          let q : ◌≡◌ {A = ℕ} 0 1 = cc in
          absurd (omega arith)
      from_found x a e (y ∷ ys) (onward out h m on) (l ∷ ls) (given_more n g) =
          let f = call_some x a out l e (call_room x a out 1 e h) n in
          let r : y ≡ locator_bytes l = sym m ∙ f.1 in
          let more : after_of y ≡ some (some l) = ap after_of r ∙ after_back l (next_fits a l n) in
          ap {B = List Bytes} (λ z. z ∷ ys) r ∙ ap {B = List Bytes} (λ zs. locator_bytes l ∷ zs) (from_found y (some l) more ys on ls g)

    -- ---- in bulk

    few : length bs ≤ 1024
    unfolding blocks_of
    few = omega (arith, (in_order_lem c s o).few, length-map (records_of s) (λ r. r.block))

    begun_fits : (l : TransactionLocator) → k.shows l ≡ true → StretchFits (stretch_at c bs k l)
    unfolding stretch_at locator
    begun_fits l h =
        let f = final_fits l (finals l h) in
        let e = shown_ends c bs k law l h in
        let last : TransactionLocator = locator l.block (stretch_end bs k l - 1) in
        let shown = goes_shows c bs k law l (stretch_end bs k l - 1) (e.goes (stretch_end bs k l - 1) (omega (arith, e.longer)) (omega (arith, e.longer))) in
        record {
          block = f.block;
          first = f.offset;
          end = omega (arith, e.longer, final_offset c s bytes o last (finals last shown));
          blocks = omega (arith, few, length_keep (k.certifies l) bs);
          stake = omega (arith, stake_most c (set_of (map author (keep (k.certifies l) bs))), total_most c b);
        }

    each_fits : (ts : List FinalStretch) → ((t : FinalStretch) → t ∈ ts → StretchFits t) → Every StretchFits ts
    each_fits [] f = none_of
    each_fits (t ∷ ts) f = and (f t here) (each_fits ts (λ u m. f u (there m)))

    stretches_fit : (n : ℕ) (a : Option TransactionLocator) → Every StretchFits (stretches c bs k n a)
    stretches_fit n a =
        each_fits (stretches c bs k n a) (λ t m. let y = begun c bs k law n a t m in subst StretchFits y.stretch (begun_fits y.at y.shown))

    -- the next call goes on after the last locator
    place_back : (x : Bytes) (a : Option TransactionLocator) → after_of x ≡ some a → (ts : List FinalStretch) → Every StretchFits ts
        → after_of (place_after x ts) ≡ some (reached a ts)
    unfolding place_after reached last_locator locator
    place_back x a e [] none_of = e
    place_back x a e (t ∷ ts) (and f fs) =
        place_back (locator_bytes (last_locator t)) (some (last_locator t))
        (after_back (last_locator t) (record { block = f.block; offset = omega (arith, f.end) })) ts fs

    module _ (call : BulkCall) (stakes : Bytes) (is : (x out : Bytes) → call stakes s x out ≡ asked_stretches c s k (after_of x) out) where
      abbrev held : Bytes → Option TransactionLocator → List FinalStretch
      held out a = stretches c bs k (stretch_room out) a

      abbrev follow : Bytes → Option TransactionLocator → Bool
      follow out a = more_follow k (reached a (held out a))

      call_given : (x : Bytes) (a : Option TransactionLocator) (out : Bytes) → after_of x ≡ some a → whole_stretches out ≡ true
          → call stakes s x out ≡ record { answer = answered (2 * length (held out a) + flag (follow out a)); stretches = bytes_after (held out a) out }
      unfolding asked_stretches stretches_in list_stretches given_after stretches_number next_final_checks checked passes all_of
      call_given x a out e w = is x out ∙ rw (e, w, b, o)

      call_whole : (x : Bytes) (a : Option TransactionLocator) (out : Bytes) (n : ℕ) → after_of x ≡ some a → (call stakes s x out).answer ≡ answered n
          → whole_stretches out ≡ true
      unfolding asked_stretches
      call_whole x a out n e h = by (whole_stretches out) refl
        where
          by : (t : Bool) → whole_stretches out ≡ t → whole_stretches out ≡ true
          by true w = w
          by false w =
              let f : call stakes s x out ≡ record { answer = refused (refusal_before 40 c s); stretches = out } = is x out ∙ rw (e, w) in
              let g : ◌≡◌ {A = Answer ℕ} (refused (refusal_before 40 c s)) (answered n) = sym (ap (λ (y : StretchesCall). y.answer) f) ∙ h in
              let z : ◌≡◌ {A = ℕ} 0 1 = cc in
              absurd (omega arith)

      read_back : (x : Bytes) (a : Option TransactionLocator) (out : Bytes) → after_of x ≡ some a → whole_stretches out ≡ true
          → stretches_read (length (held out a)) (call stakes s x out).stretches ≡ held out a
      unfolding bytes_after
      read_back x a out e w =
          ap (λ (y : StretchesCall). stretches_read (length (held out a)) y.stretches) (call_given x a out e w)
          ∙ stretches_back (held out a) (stretches_fit (stretch_room out) a) (drop (80 * length (held out a)) out)

      call_number : (x : Bytes) (a : Option TransactionLocator) (out : Bytes) (n : ℕ) → after_of x ≡ some a → whole_stretches out ≡ true
          → (call stakes s x out).answer ≡ answered n
          → 2 * length (held out a) + flag (follow out a) ≡ n
      call_number x a out n e w h =
          let z : ◌≡◌ {A = Answer ℕ} (answered (2 * length (held out a) + flag (follow out a))) (answered n) =
          sym (ap (λ (y : StretchesCall). y.answer) (call_given x a out e w)) ∙ h in
          cc

      -- what the bytes hold is what the engine lists
      pub from_bulk : (x : Bytes) (a : Option TransactionLocator) → after_of x ≡ some a → (outs : List Bytes) (ts : List FinalStretch)
          → StretchesOn call stakes s x outs ts → bulk.StretchesOn c s k a ts
      from_bulk x a e [] ts x4 = elim x4 [ ]
      from_bulk x a e (out ∷ outs) ts (ends n h r) =
          let w = call_whole x a out (2 * n) e h in
          let q = even (length (held out a)) n (follow out a) (call_number x a out (2 * n) e w h) in
          let same : held out a ≡ ts = sym (read_back x a out e w) ∙ ap (λ (i : ℕ). stretches_read i (call stakes s x out).stretches) q.0 ∙ r in
          subst (λ (us : List FinalStretch). bulk.StretchesOn c s k a us) same (bulk.last out (answered_as c s b o k law out a false q.1))
      from_bulk x a e (out ∷ outs) _ (goes {ts = ts} {us = us} n h r on) =
          let w = call_whole x a out (2 * n + 1) e h in
          let q = odd (length (held out a)) n (follow out a) (call_number x a out (2 * n + 1) e w h) in
          let same : held out a ≡ ts = sym (read_back x a out e w) ∙ ap (λ (i : ℕ). stretches_read i (call stakes s x out).stretches) q.0 ∙ r in
          let place =
          ap (λ (vs : List FinalStretch). after_of (place_after x vs)) (sym same) ∙ place_back x a e (held out a) (stretches_fit (stretch_room out) a) in
          subst (λ (vs : List FinalStretch). bulk.StretchesOn c s k a (vs ++ us)) same
          (bulk.onward out (answered_as c s b o k law out a true q.1) (from_bulk (place_after x ts) (reached a (held out a)) place outs us on))

      says : (out : Bytes) (a : Option TransactionLocator) (m : Bool) → bulk.Answered c s k out a m → follow out a ≡ m
      says out a m h =
          let z : ◌≡◌ {A = Answer Given} (answered (record { stretches = length (held out a); more = follow out a }))
          (answered (record { stretches = length (held out a); more = m })) = sym (answered_as c s b o k law out a (follow out a) refl) ∙ h in
          let y : ◌≡◌ {A = Given} (record { stretches = length (held out a); more = follow out a }) (record { stretches = length (held out a); more = m }) =
          cc in
          ap (λ (g : Given). g.more) y

      call_told : (x : Bytes) (a : Option TransactionLocator) (out : Bytes) (m : Bool) → after_of x ≡ some a → whole_stretches out ≡ true
          → bulk.Answered c s k out a m
          → (call stakes s x out).answer ≡ answered (2 * length (held out a) + flag m)
      call_told x a out m e w h =
          ap (λ (y : StretchesCall). y.answer) (call_given x a out e w) ∙ ap (λ (t : Bool). answered (2 * length (held out a) + flag t)) (says out a m h)

      -- and the other way round
      pub to_bulk : (x : Bytes) {a : Option TransactionLocator} {outs : List Bytes} {ts : List FinalStretch} → after_of x ≡ some a
          → ((out : Bytes) → out ∈ outs → whole_stretches out ≡ true)
          → bulk.AskedWith c s k a outs ts → StretchesOn call stakes s x outs ts
      unfolding flag
      to_bulk x {a} e wh (bulk.ends out h) =
          ends (length (held out a)) (call_told x a out false e (wh out here) h ∙ ap {B = Answer ℕ} answered (omega arith)) (read_back x a out e (wh out here))
      to_bulk x {a} e wh (bulk.goes out h on) =
          goes (length (held out a)) (call_told x a out true e (wh out here) h) (read_back x a out e (wh out here))
          (to_bulk (place_after x (held out a)) (place_back x a e (held out a) (stretches_fit (stretch_room out) a)) (λ y m. wh y (there m)) on)
