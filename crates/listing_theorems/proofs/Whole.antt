-- Steps put together. Assumes nothing.
use mathlib.Core.Path.{◌≡◌, refl, ap, subst}
use mathlib.Core.Bool.{Bool, true, false}
use mathlib.Core.List.{List, [], ◌∷◌, ◌++◌}
use mathlib.Core.Option.{none}
use Prim.Native.Nat.{ℕ, zero, suc, ◌+◌, ◌%◌, ◌^◌, ◌≤◌, ◌<◌}
use native.Mathlib.Omega.{arith}
use lib.Dec.{eqb}
use lib.ListN.{length, take, drop, length-drop}
use Rattle.base.specs.Lists.{pick}
use Rattle.base.specs.Le.{Bytes, le_at}
use Rattle.base.specs.Checks.{answered, checked}
use Rattle.base.proofs.Tests.{not_both}
use Rattle.base.proofs.Le.{AllBytes, bytes_drop}
use Rattle.base.proofs.Checks.{checked_answered, refused_answered}
use Rattle.committee.specs.Committee.{Committee, committee_checks, broken}
use Rattle.words.specs.Words.{words_in}
use Rattle.stakes_file.proofs.Loaded.{passes_sound}
use Rattle.stakes_file.proofs.Claimed.{load_sound}
use Rattle.record_spec.specs.Reference.{TransactionLocator}
use Rattle.record_spec.specs.Claims.{are_bytes}
use Rattle.record_spec.proofs.Claimed.{bytes_fit}
use Rattle.store_spec.specs.Store.{store_in_order}
use Rattle.pending_spec.specs.Table.{items_of}
use Rattle.pending_spec.proofs.Order.{in_order_lem}
use Rattle.final_spec.specs.Voters.{certifies, certifiers, is_final}
use Rattle.final_spec.specs.Finality.{blocks_of}
use Rattle.final_spec.specs.NextFinal.{final_list}
use Rattle.list_stretches_spec.specs.Claims.{Gives}
use Rattle.list_ordinary_spec.specs.FinalShares.{final_shares}
use Rattle.final_readings_spec.specs.Readings.{old, voters_in, certifies_in, certifiers_in, is_final_in}
use Rattle.final_readings_spec.specs.NextFinal.{final_list_in}
use Rattle.list_readings_spec.specs.Lists.{all_listed}
use Rattle.load_along.specs.Along.{share_list}
use Rattle.load_along.proofs.Going.{gives_all}
use Rattle.listing_input.specs.Input.{stake_bytes, StakesFile, absent, holding, unreadable, file_stakes, listed_stakes, size_of}
use Rattle.listing_counts.specs.Pending.{pending_offsets}
use Rattle.listing_spec.specs.Output.{frame_of, frame_at, after_record, Feeding, Told, told, onward, told_up_to, told_all, final_lines, end_of, output_of}
use Rattle.listing_spec.specs.Output.{member_count}
use Rattle.listing_spec.specs.Output.{committee_of, listing_output}
use Rattle.listing_theorems.specs.Whole.{Records, ends, goes, Listed, after_committee, Printed, no_committee, counted, Whole}
use Rattle.listing_theorems.proofs.Parts.{parts}
use Rattle.listing_theorems.proofs.Listing.{listed}
use Rattle.listing_theorems.proofs.Feeding.{held_records}
use Rattle.listing_theorems.proofs.Counts.{few_finals, few_pending}

module _ (c : Committee) where
  none_next : (m : Feeding) → told c m (frame_at []) ≡ record { lines = []; left = m; ended = true }
  unfolding told frame_at frame_of size_of
  none_next m = refl

  shorter : (n : ℕ) (s : Bytes) → length s ≤ suc n → length (after_record s) ≤ n
  unfolding after_record
  shorter n s h = omega (arith, length-drop (4 + le_at 4 s 0) s)

  -- as many turns as there are bytes are enough
  records : (n : ℕ) {m : Feeding} {s : Bytes} {left : Feeding} {lines : Bytes} → length s ≤ n → Records c m s lines left
      → (lines ≡ (told_up_to n c m s).lines) × (left ≡ (told_up_to n c m s).left)
  unfolding told_up_to onward
  records zero {m} {s = []} h (ends e) = (ap (λ (t : Told). t.lines) (none_next m), ap (λ (t : Told). t.left) (none_next m))
  records zero {m} {s = []} h (goes e on) = absurd (not_both (ap (λ (t : Told). t.ended) (none_next m)) e)
  records zero {s = x ∷ s} h on = absurd (omega arith)
  records (suc n) h (ends e) = (rw e, rw e)
  records (suc n) {m} {s = s} h (goes e on) =
      let others = records n (shorter n s h) on in
      (rw e (ap (λ (l : Bytes). (told c m (frame_at s)).lines ++ l) others.0), rw e others.1)

-- ---- the list

module _ (c : Committee) (s : Bytes) (b : broken c ≡ false) (h : store_in_order c s ≡ true) (bytes : AllBytes s) where
  -- the final stored shares, as the list gives them
  same_shares_lem : all_listed true old c (blocks_of s) ≡ final_shares c (blocks_of s)
  unfolding all_listed final_shares final_list_in final_list is_final_in certifiers_in certifies_in voters_in is_final certifiers certifies
  same_shares_lem = refl

  list : {lines : Bytes} {m : ℕ} → Listed c s none lines m → (lines ≡ final_lines c (blocks_of s)) × (m ≡ length (final_shares c (blocks_of s)))
  unfolding final_lines
  list on =
      listed c s b h bytes on (final_shares c (blocks_of s))
      (subst (λ (ls : List TransactionLocator). Gives (share_list old c s) none ls) same_shares_lem (gives_all old c s b h))

-- ---- all of it

-- a committee that is taken is not broken
sound : (input : Bytes) (f : StakesFile) (c : Committee) → committee_of input f ≡ answered c → broken c ≡ false
unfolding committee_of listed_stakes file_stakes
sound input f c e = go (eqb (member_count input) 255) e
  where
    members : Committee
    members = words_in (member_count input) (take (stake_bytes (member_count input)) (drop 1 input))

    filed : (g : StakesFile) → file_stakes g ≡ answered c → broken c ≡ false
    filed absent k = load_sound [] c k
    filed (holding b) k = load_sound b c k
    filed unreadable k = absurd (refused_answered {x = c} refl k)

    go : (t : Bool) → pick t (file_stakes f) (checked (committee_checks members) members) ≡ answered c → broken c ≡ false
    go true k = filed f k
    go false k =
        let x = checked_answered (committee_checks members) members c k in
        subst (λ (d : Committee). broken d ≡ false) x.1 (passes_sound members x.0)

small : (n : ℕ) → n < 18446744073709551616 → n % 2 ^ 64 ≡ n
small n h = omega arith

printed : (input : Bytes) (f : StakesFile) → are_bytes input ≡ true → (out : Bytes) → Printed input f out → out ≡ listing_output input f
unfolding listing_output output_of end_of told_all
printed input f bytes out (no_committee e) = rw e
printed input f bytes out (counted {c} {lines} {finals} {left} {m} e on shown) =
    let s : Bytes = after_committee input in
    let h = held_records c on (bytes_drop (1 + stake_bytes (member_count input)) input (bytes_fit input bytes)) in
    let b = sound input f c e in
    let x = list c left.store b h.state.store h.bytes shown in
    let y = records c (length s) (omega arith) on in
    let few : m < 18446744073709551616 = omega (arith, x.1, few_finals c left.store h.state.store h.bytes) in
    let pending = few_pending c left.store left.table h.state.store h.bytes (in_order_lem c _ left.table h.state.table) h.words in
    rw (e, small m few, small (pending_offsets (items_of left.table)) pending, x.0, x.1, ← y.0, ← y.1) refl

pub whole : Whole
unfolding told_all
whole =
    record {
      lines = λ c s lines left on. (records c (length s) (omega arith) on).0;
      left = λ c s lines left on. (records c (length s) (omega arith) on).1;
      parts = parts;
      list = λ c s b h bytes lines m on. (list c s b h (bytes_fit s bytes) on).0;
      finals = λ c s b h bytes lines m on. (list c s b h (bytes_fit s bytes) on).1;
      printed = printed;
    }
