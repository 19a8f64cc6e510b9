-- What the steps of `listing` put together are, as claims. Assumes nothing: these are definitions.
use Rattle.std.specs.Prelude.{ℕ, suc, ◌+◌, ◌-◌, ◌*◌, ◌%◌, ◌^◌, ◌≤◌, ◌<◌, ◌≡◌, true, false, [], ◌++◌, length, drop}
use Rattle.std.proofs.Math.Option.{Option, none}
use Rattle.base.specs.Le.{Bytes}
use Rattle.base.specs.Checks.{refused, answered}
use Rattle.committee.specs.Committee.{Committee, broken}
use Rattle.record_spec.specs.Reference.{TransactionLocator}
use Rattle.record_spec.specs.Claims.{are_bytes}
use Rattle.store_spec.specs.Store.{store_in_order}
use Rattle.pending_spec.specs.Table.{items_of}
use Rattle.final_spec.specs.Finality.{blocks_of}
use Rattle.list_stretches_spec.specs.Bulk.{Given, AskedBulk}
use Rattle.list_ordinary_spec.specs.FinalShares.{final_shares}
use Rattle.final_readings_spec.specs.Readings.{old}
use Rattle.list_readings_spec.specs.Lists.{listed_stretches}
use Rattle.listing_input.specs.Input.{stake_bytes, StakesFile}
use Rattle.listing_lines.specs.Lines.{refused_line, end_line}
use Rattle.listing_counts.specs.Pending.{pending_offsets}
use Rattle.listing_stretches.specs.Stretches.{ReadStretch, last_of}
use Rattle.listing_final_steps.specs.Steps.{given_by}
use Rattle.listing_final_lines.specs.declared.Stretch.{Stretch}
use Rattle.listing_final_lines.specs.Lines.{lines_of}
use Rattle.listing_spec.specs.Output.{frame_at, after_record, Feeding, start, told, told_all, final_lines, member_count, committee_of, listing_output}

-- what stands next in the input is told of, again and again until the reading ends: all lines, and what is left
pub data Records (c : Committee) : Feeding → Bytes → Bytes → Feeding → Type 0 where
  ends : {m : Feeding} {s : Bytes} → (told c m (frame_at s)).ended ≡ true → Records c m s (told c m (frame_at s)).lines (told c m (frame_at s)).left
  goes : {m left : Feeding} {s lines : Bytes} → (told c m (frame_at s)).ended ≡ false → Records c (told c m (frame_at s)).left (after_record s) lines left
      → Records c m s ((told c m (frame_at s)).lines ++ lines) left

-- the lines of a stretch from index d on, put part by part
pub data Parts (t : Stretch) : ℕ → Bytes → Type 0 where
  done : Parts t t.lines []
  part : {d e : ℕ} {others : Bytes} → d ≤ e → Parts t e others → Parts t d (lines_of t d (e - d) ++ others)

-- the stretches of a slice from index i up to n, each read from its bytes and its lines put; and how many lines these are
pub data Stretches (b : Bytes) (n : ℕ) : ℕ → Bytes → ℕ → Type 0 where
  all_put : Stretches b n n [] 0
  put : {i m : ℕ} {lines others : Bytes} (t : Stretch) → i < n → ReadStretch b (80 * i) t → Parts t 0 lines → Stretches b n (suc i) others m
      → Stretches b n i (lines ++ others) (t.lines + m)

-- the ordinary list asked for after a locator, with a slice, and what was given
abbrev pub asked : Committee → Bytes → Bytes → Option TransactionLocator → AskedBulk
asked c s out after = listed_stretches true old c s out after

abbrev pub given : Committee → Bytes → Bytes → Option TransactionLocator → Given
given c s out after = given_by (asked c s out after).answer

-- the lines of the stretches that were given
abbrev pub PutGiven : Committee → Bytes → Bytes → Option TransactionLocator → Bytes → ℕ → Type 0
PutGiven c s out after lines m = Stretches (asked c s out after).out (given c s out after).stretches 0 lines m

-- the list is asked on, with whatever slices, each time after the last locator that was given, until none follow: all lines, and how many
pub data Listed (c : Committee) (s : Bytes) : Option TransactionLocator → Bytes → ℕ → Type 0 where
  last : {after : Option TransactionLocator} {lines : Bytes} {m : ℕ} (out : Bytes) → (given c s out after).more ≡ false
      → PutGiven c s out after lines m → Listed c s after lines m
  onward : {after : Option TransactionLocator} {lines others : Bytes} {m k : ℕ} (out : Bytes) → (given c s out after).more ≡ true
      → PutGiven c s out after lines m
      → Listed c s (last_of (asked c s out after).out (given c s out after).stretches after) others k → Listed c s after (lines ++ others) (m + k)

-- what was counted of the stretches of a slice from the first one on, and of the list from its start: their lines, in words of 64 bits
pub record CountedStretches (b : Bytes) (n finals : ℕ) : Type 0 where
  pub lines : Bytes
  pub many : ℕ
  pub put : Stretches b n 0 lines many
  pub sum : finals ≡ many % 2 ^ 64

pub record CountedList (c : Committee) (s : Bytes) (finals : ℕ) : Type 0 where
  pub lines : Bytes
  pub many : ℕ
  pub listed : Listed c s none lines many
  pub sum : finals ≡ many % 2 ^ 64

-- the input after the committee
abbrev pub after_committee : Bytes → Bytes
after_committee input = drop (1 + stake_bytes (member_count input)) input

-- a run of the program: what it prints, by what its steps put; both sums of the last line are taken in words of 64 bits
pub data Printed (input : Bytes) (f : StakesFile) : Bytes → Type 0 where
  no_committee : {n : ℕ} → committee_of input f ≡ refused n → Printed input f (refused_line 0 n ++ end_line 0 0 0 0 0)
  counted : {c : Committee} {lines finals : Bytes} {left : Feeding} {m : ℕ} → committee_of input f ≡ answered c
      → Records c start (after_committee input) lines left
      → Listed c left.store none finals m
      → Printed input f (lines
      ++ (finals ++ end_line left.accepted left.refusals left.processed (pending_offsets (items_of left.table) % 2 ^ 64) (m % 2 ^ 64)))

pub record Whole : Type 0 where
  -- the records of an input are those of the definition
  pub lines : (c : Committee) (s lines : Bytes) (left : Feeding) → Records c start s lines left → lines ≡ (told_all c s).lines
  pub left : (c : Committee) (s lines : Bytes) (left : Feeding) → Records c start s lines left → left ≡ (told_all c s).left
  -- the parts of a stretch are its lines, none left out and none twice
  pub parts : (t : Stretch) (lines : Bytes) → Parts t 0 lines → lines ≡ lines_of t 0 t.lines
  -- 01: "`final ROUND AUTHOR D OFFSET BLOCKS STAKE` ascending": the list asked on from the start is that of the definition, of a store in order
  pub list : (c : Committee) (s : Bytes) → broken c ≡ false → store_in_order c s ≡ true → are_bytes s ≡ true → (lines : Bytes) (m : ℕ) → Listed c s none lines m
      → lines ≡ final_lines c (blocks_of s)
  -- and its lines are as many as there are final stored shares
  pub finals : (c : Committee) (s : Bytes) → broken c ≡ false → store_in_order c s ≡ true → are_bytes s ≡ true → (lines : Bytes) (m : ℕ)
      → Listed c s none lines m
      → m ≡ length (final_shares c (blocks_of s))
  -- what a run prints is what the definition says, whatever the input and the file
  pub printed : (input : Bytes) (f : StakesFile) → are_bytes input ≡ true → (out : Bytes) → Printed input f out → out ≡ listing_output input f
