-- What `listing` prints, from the bytes of its input and the file of stakes. Assumes nothing: these are definitions.
use Rattle.std.specs.Prelude.{ℕ, zero, suc, ◌+◌, Bool, true, false, ltb, length, get_or, take, drop, replicate}
use mathlib.Core.List.{List, [], ◌++◌, map, flatten}
use Rattle.base.specs.Lists.{pick}
use Rattle.base.specs.Le.{Bytes, le_at}
use Rattle.base.specs.Checks.{Answer, refused, answered}
use Rattle.committee.specs.Committee.{Committee}
use Rattle.committee_set.specs.AuthoritySet.{set_of, stake_of}
use Rattle.record_spec.specs.Reference.{TransactionLocator}
use Rattle.record_spec.specs.Block.{Block, author}
use Rattle.store_spec.specs.Layout.{layout}
use Rattle.pending_spec.specs.Table.{items_of}
use Rattle.feed_spec.specs.Feed.{Fed, feed, lent_of}
use Rattle.final_spec.specs.Voters.{certifiers}
use Rattle.final_spec.specs.Finality.{blocks_of}
use Rattle.list_ordinary_spec.specs.FinalShares.{final_shares}
use Rattle.listing_input.specs.declared.Size.{Size}
use Rattle.listing_input.specs.declared.Size.TheVariants.{End, Broken, Of}
use Rattle.listing_input.specs.Input.{stake_bytes, StakesFile, listed_stakes, size_of}
use Rattle.listing_lines.specs.Lines.{refused_line, head_of, final_line, end_line}
use Rattle.listing_events.specs.Events.{event_lines, processed_in}
use Rattle.listing_counts.specs.Pending.{pending_offsets}

-- ---- the records

-- what stands next in the input: nothing, a length that is refused, or a record
pub data Frame : Type 0 where
  nothing : Frame
  broken : Frame
  framed : Bytes → Frame

-- what follows a length
unfoldable pub frame_of : Size → Bytes → Frame
frame_of End s = nothing
frame_of Broken s = broken
frame_of (Of n) s = pick (ltb (length s) n) broken (framed (take n s))

-- 01: "then records, each after a 4-byte length. A length over 8,192, one past the end, or one to three stray bytes give 20"
unfoldable pub frame_at : Bytes → Frame
frame_at s = frame_of (size_of (take 4 s)) (drop 4 s)

-- the input after a record
unfoldable pub after_record : Bytes → Bytes
after_record s = drop (4 + le_at 4 s 0) s

-- ---- feeding them

-- the number of the next record, the memory as the records so far left it, and what was counted
pub record Feeding : Type 0 where
  pub number : ℕ
  pub store : Bytes
  pub table : List ℕ
  pub accepted : ℕ
  pub refusals : ℕ
  pub processed : ℕ

-- 01: "It lends a store of 65,536 bytes, a table .. of 6,145 words", fresh and of zeros; "record K from 1"
unfoldable pub start : Feeding
start = record { number = 1; store = layout [] ++ replicate 65520 0; table = replicate 6145 0; accepted = 0; refusals = 0; processed = 0 }

-- 01: "and a work slice of 6,145 words each, 8,192 words for events"
unfoldable pub fed_to : Committee → Feeding → Bytes → Fed
fed_to c m bytes = feed c (lent_of m.store m.table (replicate 6145 0) (replicate 8192 0)) bytes

-- what a record prints, what it leaves, and whether the reading ends
pub record Told : Type 0 where
  pub lines : Bytes
  pub left : Feeding
  pub ended : Bool

-- 01: "`refused K N`": it is counted
unfoldable pub refused_with : Feeding → ℕ → Bool → Told
refused_with m n ended =
    record {
      lines = refused_line m.number n;
      left = record {
        number = m.number + 1;
        store = m.store;
        table = m.table;
        accepted = m.accepted;
        refusals = m.refusals + 1;
        processed = m.processed;
      };
      ended = ended;
    }

-- 01: "`processed K S O`, `late`, `unknown` likewise", as they occur: n events, of which the processed ones are counted
unfoldable pub accepted_with : Feeding → List ℕ → ℕ → Told
accepted_with m events n =
    record {
      lines = event_lines m.number n events;
      left =
          record {
            number = m.number + 1;
            store = m.store;
            table = m.table;
            accepted = m.accepted + 1;
            refusals = m.refusals;
            processed = m.processed + processed_in n events;
          };
      ended = false;
    }

-- the memory as a feed leaves it
unfoldable pub left_by : Feeding → Fed → Feeding
left_by m f = record { number = m.number; store = f.store; table = f.table; accepted = m.accepted; refusals = m.refusals; processed = m.processed }

unfoldable pub told_by : Feeding → Fed → Answer ℕ → Told
told_by m f (refused n) = refused_with (left_by m f) n false
told_by m f (answered n) = accepted_with (left_by m f) f.events n

-- 01: "give 20 and end the reading"; a record that is refused does not end it
unfoldable pub told : Committee → Feeding → Frame → Told
told c m nothing = record { lines = []; left = m; ended = true }
told c m broken = refused_with m 20 true
told c m (framed bytes) = told_by m (fed_to c m bytes) (fed_to c m bytes).answer

-- what one record and then the others print and leave
unfoldable pub onward : Told → (Feeding → Told) → Told
onward t f = pick t.ended t (record { lines = t.lines ++ (f t.left).lines; left = (f t.left).left; ended = true })

-- at most n records, of which an input has never more than bytes
unfoldable pub told_up_to : ℕ → Committee → Feeding → Bytes → Told
told_up_to zero c m s = record { lines = []; left = m; ended = true }
told_up_to (suc n) c m s = onward (told c m (frame_at s)) (λ next. told_up_to n c next (after_record s))

unfoldable pub told_all : Committee → Bytes → Told
told_all c s = told_up_to (length s) c start s

-- ---- the final list and the counts

-- 01: "`final ROUND AUTHOR D OFFSET BLOCKS STAKE` .. certifying blocks, their authors' stake"
unfoldable pub final_line_of : Committee → List Block → TransactionLocator → Bytes
final_line_of c bs l =
    final_line l.block.round l.block.authority (head_of l.block.digest) l.offset
    (length (certifiers c bs l)) (stake_of c (set_of (map author (certifiers c bs l))))

-- "ascending"; 02: "`listing` and its `end` take the new default", the final stored shares
unfoldable pub final_lines : Committee → List Block → Bytes
final_lines c bs = flatten (map (final_line_of c bs) (final_shares c bs))

-- 01: "`end` with accepted, refused, processed, pending offsets, final"
unfoldable pub end_of : Committee → Feeding → Bytes
end_of c m = end_line m.accepted m.refusals m.processed (pending_offsets (items_of m.table)) (length (final_shares c (blocks_of m.store)))

-- ---- all of it

-- 01: "Lines, those of feeding first"; "A refused committee prints its line and an `end` of five zeros only"
unfoldable pub output_of : Answer Committee → Bytes → Bytes
output_of (refused n) s = refused_line 0 n ++ end_line 0 0 0 0 0
output_of (answered c) s =
    let t : Told = told_all c s in
    t.lines ++ (final_lines c (blocks_of t.left.store) ++ end_of c t.left)

-- 01: "Program `listing` reads from standard input a member count byte .., 8-byte stakes, missing bytes zero; then records"
unfoldable pub member_count : Bytes → ℕ
member_count input = get_or input 0 0

unfoldable pub committee_of : Bytes → StakesFile → Answer Committee
committee_of input f = listed_stakes (member_count input) (take (stake_bytes (member_count input)) (drop 1 input)) f

unfoldable pub listing_output : Bytes → StakesFile → Bytes
listing_output input f = output_of (committee_of input f) (drop (1 + stake_bytes (member_count input)) input)
