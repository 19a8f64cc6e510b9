-- The question about a time, refusal by refusal. Assumes nothing.
use mathlib.Core.Path.{◌≡◌, refl, sym, ap}
use mathlib.Core.Bool.{true, false}
use mathlib.Core.Option.{Option, none}
use Prim.Native.Nat.{ℕ}
use Rattle.std.specs.Prelude.{Some, None, Ok}
use Rattle.std.specs.declared.option.Option as code
use Rattle.base.specs.Lists.{all_of}
use Rattle.base.specs.Le.{Bytes}
use Rattle.base.specs.Checks.{refusal, passes, refused, answered, checked}
use Rattle.committee.specs.Committee.{Committee, broken}
use Rattle.record_spec.specs.Reference.{BlockReference}
use Rattle.record_spec.specs.Record.{time_in}
use Rattle.record_reader.specs.Values.{as_time}
use Rattle.store_spec.specs.Layout.{entries, position_of, lookup}
use Rattle.store_spec.specs.Store.{records_of, store_in_order}
use Rattle.store_spec.specs.Entry.{record_at, laid_out}
use Rattle.store_spec.proofs.Found.{FoundEntry, found_none, found_entry, found_record}
use Rattle.store_time.specs.Answers.{as_time_answer}
use Rattle.store_time.specs.Times.{entry_time, creation_time, time_checks, ask_time}

-- the answer of a time that a record has, or of none
pub given_time : (o : code.Option ℕ) → as_time_answer (Ok o) ≡ answered (as_time o)
unfolding as_time_answer as_time
given_time (Some x) = refl
given_time None = refl

module _ (c : Committee) (s : Bytes) (r : BlockReference) where
  pub time_broken : broken c ≡ true → refused 5 ≡ ask_time c s r
  unfolding ask_time time_checks checked passes refusal all_of
  time_broken h = rw h

  pub time_disordered : broken c ≡ false → store_in_order c s ≡ false → refused 10 ≡ ask_time c s r
  unfolding ask_time time_checks checked passes refusal all_of
  time_disordered h k = rw (h, k)

  pub time_answered : broken c ≡ false → store_in_order c s ≡ true → (o : Option ℕ) → creation_time s r ≡ o → answered o ≡ ask_time c s r
  unfolding ask_time time_checks checked passes all_of
  time_answered h k o e = rw (h, k, e)

module _ (s : Bytes) (laid : laid_out s ≡ true) (r : BlockReference) (at : ℕ) (found : at ≡ position_of (lookup (entries (records_of s)) r)) where
  pub time_unknown : at ≡ 0 → creation_time s r ≡ none
  unfolding creation_time entry_time
  time_unknown z = rw (found_none s laid r at found z)

  pub time_found : (at ≡ 0 → ⊥) → creation_time s r ≡ time_in (record_at s at)
  unfolding creation_time entry_time
  time_found f = let e : FoundEntry s r at = found_entry s laid r at found f in rw e.is (ap time_in (sym (found_record s laid r at found f)))
