-- Stretches of the ordinary list read back from their bytes. Assumes nothing.
use mathlib.Core.Path.{◌≡◌, refl, sym, ap, ◌∙◌}
use mathlib.Core.Bool.{true, false}
use mathlib.Core.List.{List, [], ◌∷◌, ◌++◌, map, flatten, append_assoc}
use mathlib.Core.Option.{Option, some}
use Prim.Native.Nat.{ℕ, suc, ◌+◌, ◌-◌, ◌*◌, ◌^◌, ◌≤◌, ◌<◌}
use native.Mathlib.Omega.{arith}
use lib.ListN.{length, take, drop, length-append, length-map}
use lib.Seq.{drop-drop, take_at, drop_at}
use Rattle.base.specs.Lists.{keep, ◌∈◌, here, there}
use Rattle.base.specs.Le.{Bytes, le_number, le_bytes, le_at}
use Rattle.base.proofs.Le.{AllBytes, length_le_bytes, le_number_le_bytes}
use Rattle.base.proofs.Lists.{length_keep}
use Rattle.base.proofs.Tests.{and_right}
use Rattle.committee.specs.Committee.{Committee, broken}
use Rattle.committee.proofs.Bounds.{total_most}
use Rattle.committee_set.specs.AuthoritySet.{set_of, stake_of}
use Rattle.committee_set.proofs.Sums.{stake_most}
use Rattle.record_spec.specs.Reference.{TransactionLocator, TransactionLocatorRange, locator, new_range}
use Rattle.record_spec.specs.Record.{locator_bytes}
use Rattle.record_spec.specs.Block.{Block, author}
use Rattle.record_spec.proofs.Records.{ReferenceFits}
use Rattle.store_spec.specs.Store.{store_in_order, records_of}
use Rattle.store_spec.proofs.Store.{in_order_lem}
use Rattle.final_spec.specs.Voters.{certifies, certifiers}
use Rattle.final_spec.specs.Finality.{blocks_of}
use Rattle.list_stretches_spec.specs.Stretches.{FinalStretch, last_locator, goes_on, stretch_end, stretch_at, reached}
use Rattle.list_stretches_spec.specs.Bulk.{stretch_bytes}
use Rattle.list_stretches_spec.proofs.Spreading.{begun, shown_ends}
use Rattle.list_stretches_spec.proofs.Wide.{alike_certifiers}
use Rattle.list_stretch_bytes.proofs.Stretch.{eighty, stretch_laid, locator_length}
use Rattle.final_readings_spec.specs.Readings.{old, voters_in, certifies_in}
use Rattle.list_readings_spec.specs.Lists.{listing}
use Rattle.list_readings_spec.proofs.Least.{lists_lawful}
use Rattle.list_readings_spec.proofs.Old.{old_alike}
use Rattle.record_reference_bytes.specs.Step.{reference_at}
use Rattle.load_along.specs.Along.{share_list, ahead}
use Rattle.load_along.proofs.Words.{range_from, range_back}
use Rattle.load_along.proofs.Fitting.{stretch_fits, stretch_small}
use Rattle.load_along.proofs.Going.{stretch_longer}
use Rattle.listing_lines.specs.Lines.{head_of, final_line}
use Rattle.listing_stretches.specs.Stretches.{last_of}
use Rattle.listing_spec.specs.Output.{final_line_of}

-- ---- what holds of a stretch of the ordinary list

-- it fits its bytes, and its locators have the line that it says
pub record Sound (c : Committee) (s : Bytes) (x : FinalStretch) : Type 0 where
  pub block : ReferenceFits x.block
  pub first : x.first < 256 ^ 8
  pub end : x.end < 256 ^ 8
  pub blocks : x.blocks < 256 ^ 8
  pub stake : x.stake < 256 ^ 8
  pub longer : x.first < x.end
  pub line : (o : ℕ) → x.first ≤ o → o < x.end
      → final_line_of c (blocks_of s) (locator x.block o)
      ≡ final_line x.block.round x.block.authority (head_of x.block.digest) o x.blocks x.stake

module _ (c : Committee) (s : Bytes) (b : broken c ≡ false) (h : store_in_order c s ≡ true) (bytes : AllBytes s) where
  abbrev bs : List Block
  bs = blocks_of s

  few_blocks : length bs ≤ 1024
  unfolding blocks_of
  few_blocks = omega (arith, (in_order_lem c s h).few, length-map (records_of s) (λ r. r.block))

  line_at : (a : TransactionLocator) → (share_list old c s).shows a ≡ true → (o : ℕ) → a.offset ≤ o → o < stretch_end bs (share_list old c s) a
      → final_line_of c bs (locator a.block o)
      ≡ final_line a.block.round a.block.authority (head_of a.block.digest) o (length (certifiers c bs a))
      (stake_of c (set_of (map author (certifiers c bs a))))
  unfolding final_line_of locator goes_on
  line_at a shown o from below =
      let goes = (shown_ends c bs (share_list old c s) (lists_lawful true old c bs) a shown).goes o from below in
      let alike = sym (old_alike true c bs a (locator a.block o)) ∙ and_right ((share_list old c s).shows (locator a.block o)) _ goes in
      ap (λ (ds : List Block). final_line a.block.round a.block.authority (head_of a.block.digest) o (length ds) (stake_of c (set_of (map author ds))))
      (alike_certifiers c s a (locator a.block o) alike)

  certified : (a : TransactionLocator) → keep ((share_list old c s).certifies a) bs ≡ certifiers c bs a
  unfolding listing certifies_in voters_in certifies certifiers
  certified a = refl

  few_certifiers : (a : TransactionLocator) → length (certifiers c bs a) ≤ 1024
  unfolding certifiers
  few_certifiers a = omega (arith, length_keep (certifies c bs a) bs, few_blocks)

  pub sound : (n : ℕ) (after : Option TransactionLocator) (x : FinalStretch) → x ∈ ahead old c s n after → Sound c s x
  unfolding stretch_at
  sound n after x m =
      let y = begun c bs (share_list old c s) (lists_lawful true old c bs) n after x m in
      let many : length (certifiers c bs y.at) ≡ x.blocks = ap length (sym (certified y.at)) ∙ ap (λ (u : FinalStretch). u.blocks) y.stretch in
      let held : stake_of c (set_of (map author (certifiers c bs y.at))) ≡ x.stake =
      ap (λ (ds : List Block). stake_of c (set_of (map author ds))) (sym (certified y.at)) ∙ ap (λ (u : FinalStretch). u.stake) y.stretch in
      let few = stretch_small old c s bytes n after x m in
      let fewer : length (certifiers c bs y.at) ≤ 1024 = few_certifiers y.at in
      record {
        block = stretch_fits old c s bytes n after x m;
        first = few.0;
        end = few.1;
        blocks = omega (arith, many, fewer);
        stake = omega (arith, held, stake_most c (set_of (map author (certifiers c bs y.at))), total_most c b);
        longer = stretch_longer old c s n after x m;
        line = lined y.at y.shown x y.stretch many held;
      }
    where
      lined : (a : TransactionLocator) → (share_list old c s).shows a ≡ true → (x : FinalStretch) → stretch_at c bs (share_list old c s) a ≡ x
          → length (certifiers c bs a) ≡ x.blocks → stake_of c (set_of (map author (certifiers c bs a))) ≡ x.stake → (o : ℕ) → x.first ≤ o → o < x.end
          → final_line_of c bs (locator x.block o) ≡ final_line x.block.round x.block.authority (head_of x.block.digest) o x.blocks x.stake
      lined a shown x e many held o from below =
          let block : a.block ≡ x.block = ap (λ (u : FinalStretch). u.block) e in
          let first : a.offset ≡ x.first = ap (λ (u : FinalStretch). u.first) e in
          let end : stretch_end bs (share_list old c s) a ≡ x.end = ap (λ (u : FinalStretch). u.end) e in
          rw (← block, ← many, ← held) (line_at a shown o (omega (arith, first)) (omega (arith, end)))

-- ---- a stretch read back

-- a word is read where its bytes stand
word_stands : (b : Bytes) (p n v : ℕ) (front x : Bytes) → v < 256 ^ 8 → length front ≡ n → drop p b ≡ front ++ (le_bytes 8 v ++ x) → le_at 8 b (p + n) ≡ v
unfolding le_at
word_stands b p n v front x h k e =
    ap (λ (l : Bytes). le_number (take 8 l)) (sym (drop-drop n p b) ∙ ap (λ (l : Bytes). drop n l) e ∙ drop_at front (le_bytes 8 v ++ x) n k)
    ∙ ap le_number (take_at (le_bytes 8 v) x 8 (length_le_bytes 8 v))
    ∙ le_number_le_bytes 8 v h

module _ {c : Committee} {s : Bytes} (b : Bytes) (p : ℕ) (x : FinalStretch) (rest : Bytes) (e : drop p b ≡ stretch_bytes x ++ rest) (k : Sound c s x) where
  range : range_from b p ≡ new_range x.block x.first x.end
  range = range_back b p x rest e k.block k.first k.end

  pub read_block : reference_at b p ≡ x.block
  unfolding range_from new_range
  read_block = ap (λ (r : TransactionLocatorRange). r.block) range

  pub read_first : le_at 8 b (p + 48) ≡ x.first
  unfolding range_from new_range
  read_first = ap (λ (r : TransactionLocatorRange). r.start) range

  pub read_end : le_at 8 b (p + 56) ≡ x.end
  unfolding range_from new_range
  read_end = ap (λ (r : TransactionLocatorRange). r.end) range

  a : Bytes
  a = locator_bytes (locator x.block x.first)

  n : Bytes
  n = le_bytes 8 x.blocks

  laid : drop p b ≡ (a ++ le_bytes 8 x.end) ++ (n ++ (le_bytes 8 x.stake ++ rest))
  unfolding a n
  laid =
      let f = locator_bytes (locator x.block x.first) in
      let g = le_bytes 8 x.end in
      let m = le_bytes 8 x.blocks in
      let w = le_bytes 8 x.stake in
      e
      ∙ ap (λ (l : Bytes). l ++ rest) (stretch_laid x k.block.bytes k.block.size)
      ∙ rw (append_assoc f (g ++ (m ++ w)) rest, append_assoc g (m ++ w) rest, append_assoc m w rest, append_assoc f g (m ++ (w ++ rest))) refl

  long : length (a ++ le_bytes 8 x.end) ≡ 64
  unfolding a
  long =
      omega (
        arith,
        length-append (locator_bytes (locator x.block x.first)) (le_bytes 8 x.end),
        locator_length x k.block.size,
        length_le_bytes 8
            x.end,
      )

  pub read_blocks : le_at 8 b (p + 64) ≡ x.blocks
  unfolding n
  read_blocks = word_stands b p 64 x.blocks (a ++ le_bytes 8 x.end) (le_bytes 8 x.stake ++ rest) k.blocks long laid

  pub read_stake : le_at 8 b (p + 72) ≡ x.stake
  unfolding n
  read_stake =
      word_stands b p 72 x.stake ((a ++ le_bytes 8 x.end) ++ le_bytes 8 x.blocks) rest k.stake
      (omega (arith, length-append (a ++ le_bytes 8 x.end) (le_bytes 8 x.blocks), long, length_le_bytes 8 x.blocks))
      (laid ∙ sym (append_assoc (a ++ le_bytes 8 x.end) (le_bytes 8 x.blocks) (le_bytes 8 x.stake ++ rest)))

-- ---- stretches one after the other

-- the bytes after the first one
pub after_one : (b : Bytes) (i : ℕ) (x : FinalStretch) (rest : Bytes) → drop (80 * i) b ≡ stretch_bytes x ++ rest → drop (80 * suc i) b ≡ rest
after_one b i x rest e =
    let further : 80 * suc i ≡ 80 * i + 80 = omega arith in
    ap (λ (k : ℕ). drop k b) further ∙ sym (drop-drop 80 (80 * i) b) ∙ ap (λ (l : Bytes). drop 80 l) e ∙ drop_at (stretch_bytes x) rest 80 (eighty x)

-- the last locator of one
one_read : {c : Committee} {s : Bytes} (b : Bytes) (after : Option TransactionLocator) (x : FinalStretch) (i : ℕ) (rest : Bytes) → Sound c s x
    → drop (80 * i) b ≡ stretch_bytes x ++ rest → last_of b (suc i) after ≡ some (last_locator x)
unfolding last_of last_locator locator
one_read b after x i rest k e = λ j. some (record { block = read_block b (80 * i) x rest e k j; offset = read_end b (80 * i) x rest e k j - 1 })

-- and of them all
pub last_read : {c : Committee} {s : Bytes} (b : Bytes) (after : Option TransactionLocator) (us : List FinalStretch) (i : ℕ) (rest : Bytes)
    → ((x : FinalStretch) → x ∈ us → Sound c s x) → drop (80 * i) b ≡ flatten (map stretch_bytes us) ++ rest
    → last_of b (i + length us) after ≡ reached (last_of b i after) us
unfolding reached flatten
last_read b after [] i rest f e = let same : i + 0 ≡ i = omega arith in ap (λ (n : ℕ). last_of b n after) same
last_read b after (x ∷ us) i rest f e =
    let more = flatten (map stretch_bytes us) ++ rest in
    let first : drop (80 * i) b ≡ stretch_bytes x ++ more = e ∙ append_assoc (stretch_bytes x) (flatten (map stretch_bytes us)) rest in
    let same : i + suc (length us) ≡ suc i + length us = omega arith in
    ap (λ (n : ℕ). last_of b n after) same
    ∙ last_read b after us (suc i) rest (λ y m. f y (there m)) (after_one b i x more first)
    ∙ ap (λ (o : Option TransactionLocator). reached o us) (one_read b after x i more (f x here) first)
