-- The question about a stored block's time. Assumes nothing: these are definitions.
use Rattle.std.specs.Prelude.{ℕ, not, List, [], ◌∷◌}
use Rattle.std.proofs.Math.Option.{Option, none, some}
use Rattle.base.specs.Le.{Bytes}
use Rattle.base.specs.Checks.{Check, ◌⇒◌, Answer, checked}
use Rattle.committee.specs.Committee.{Committee, broken}
use Rattle.record_spec.specs.Reference.{BlockReference}
use Rattle.record_spec.specs.Record.{time_in}
use Rattle.store_spec.specs.Layout.{Entry, entries, lookup}
use Rattle.store_spec.specs.Store.{records_of, store_in_order}

-- the time of the entry that was found
unfoldable pub entry_time : Option Entry → Option ℕ
entry_time none = none
entry_time (some e) = time_in e.bytes

-- 02: "a question by reference gives a stored block's time, or none"
unfoldable pub creation_time : Bytes → BlockReference → Option ℕ
creation_time s r = entry_time (lookup (entries (records_of s)) r)

-- 01: "Queries check 5, 10, .."
unfoldable pub time_checks : Committee → Bytes → List Check
time_checks c s = (broken c ⇒ 5) ∷ (not (store_in_order c s) ⇒ 10) ∷ []

unfoldable pub ask_time : Committee → Bytes → BlockReference → Answer (Option ℕ)
ask_time c s r = checked (time_checks c s) (creation_time s r)
