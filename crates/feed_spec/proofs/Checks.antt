-- The checks of feeding: the record that is read, and the numbers of what is lent. Assumes nothing.
use mathlib.Core.Path.{◌≡◌, refl}
use mathlib.Core.Bool.{true, false, not}
use mathlib.Core.List.{List}
use mathlib.Core.Option.{Option, none, some, map}
use Prim.Native.Nat.{ℕ}
use lib.Dec.{lit<}
use Rattle.base.specs.Lists.{is_none}
use Rattle.base.specs.Le.{Bytes}
use Rattle.base.proofs.Tests.{not_both}
use Rattle.base.proofs.Lists.{none_of, and}
use Rattle.base.proofs.Refusals.{Numbered}
use Rattle.committee.specs.Committee.{Committee}
use Rattle.record_spec.specs.Block.{Block}
use Rattle.record_spec.specs.Record.{block_of, well_formed}
use Rattle.record_spec.proofs.Records.{block_of_lem}
use Rattle.store_spec.specs.Layout.{Record, read_record}
use Rattle.store_spec.specs.Store.{record_in}
use Rattle.feed_spec.specs.Pending.{pending_checks}

-- ---- the record that is read

read_go : (bytes : Bytes) (o : Option Block) → not (is_none o) ≡ false → map {B = Record} (λ b. record { bytes = bytes; block = b }) o ≡ none
unfolding is_none
read_go bytes none h = refl
read_go bytes (some b) h = absurd (not_both refl h)

pub read_none : (bytes : Bytes) → well_formed bytes ≡ false → read_record bytes ≡ none
unfolding well_formed read_record
read_none bytes w = read_go bytes (block_of bytes) w

pub read_some : (bytes : Bytes) → well_formed bytes ≡ true → read_record bytes ≡ some (record_in bytes)
unfolding read_record record_in
read_some bytes w = rw (block_of_lem bytes w)

-- ---- 5, 10, 11: 0 is none of their numbers

pub pending_numbered : (c : Committee) (s : Bytes) (t : List ℕ) → Numbered (pending_checks c s t)
unfolding pending_checks
pending_numbered c s t = and (lit< tt) (and (lit< tt) (and (lit< tt) none_of))
