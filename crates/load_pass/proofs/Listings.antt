-- Going along the ordinary list, stretch by stretch. Assumes nothing.
use mathlib.Core.Path.{◌≡◌, subst}
use mathlib.Core.Bool.{true, false}
use mathlib.Core.List.{List, [], ◌++◌}
use mathlib.Core.Option.{Option, none}
use Prim.Native.Nat.{ℕ, ◌*◌, ◌≤◌}
use native.Mathlib.Omega.{arith}
use lib.ListN.{length}
use Rattle.base.specs.Le.{Bytes}
use Rattle.committee.specs.Committee.{Committee, broken}
use Rattle.record_spec.specs.Reference.{TransactionLocator, locators}
use Rattle.types.specs.Values.{as_range, as_maybe}
use Rattle.types.specs.declared.TransactionLocatorRange as ranges
use Rattle.store_spec.specs.Store.{store_in_order}
use Rattle.store_spec.proofs.Loops.{entry_room}
use Rattle.final_spec.specs.Finality.{blocks_of}
use Rattle.final_readings_spec.specs.Readings.{Reading}
use Rattle.list_readings_spec.specs.Lists.{all_listed}
use Rattle.load_along.specs.Along.{Tables, Held, Found}
use Rattle.load_along.specs.declared.Along.{Along}
use Rattle.load_along.proofs.Going.{Sized, Passing, passing_start, passing_end, later, passing_splits, passing_longer, passing_next}
use Rattle.load_pass.specs.Holding.{Holding, Past, Coming, Listed, Read}
use Rattle.load_pass.specs.declared.ReadUp.{ReadUp}
use Rattle.load_pass.proofs.Holding.{past_none, past_on, holding_start}
use Rattle.std.specs.Prelude.{None, Some}

module _ (reading : Reading) (c : Committee) (s : Bytes) where
  -- what was gone along, and the places of its loadable shares
  pub record Walking (ps₀ ps : List ℕ) (tables : Tables) (along : Along) (read : ReadUp) (n : ℕ) : Type 0 where
    pub gone : List TransactionLocator
    pub passing : Passing reading c s tables along gone
    pub holding : Holding reading c s gone ps n
    pub past : Past ps₀ ps n
    pub reads : Read s read

  pub walking_start : broken c ≡ false → store_in_order c s ≡ true → (ps : List ℕ) (tables : Tables) (along : Along) (read : ReadUp) → as_maybe along.after ≡
      none → Held reading c s tables along
      → Sized tables → read.at ≡ 0 → 2 * length (all_listed true reading c (blocks_of s)) ≤ length ps → Walking ps ps tables along read 0
  unfolding Read
  walking_start sound order ps tables along read e held sized z room =
      record {
        gone = [];
        passing = passing_start reading c s sound order tables along e held sized;
        holding = holding_start reading c s ps room;
        past = past_none ps 0;
        reads = λ h. absurd (let x = (entry_room s read.at h).from in omega arith);
      }

  module _ (ps₀ ps : List ℕ) (tables : Tables) (along : Along) (read : ReadUp) (n : ℕ) (w : Walking ps₀ ps tables along read n) where
    pub walking_end : (last : Option TransactionLocator) → Found reading c s (as_maybe along.after) last None → Holding reading c s
        (all_listed true reading c (blocks_of s)) ps n
    walking_end last e = subst (λ (ls : List TransactionLocator). Holding reading c s ls ps n)
        (passing_end reading c s tables along w.gone w.passing last e) w.holding

    module _ (q : ranges.TransactionLocatorRange) (last : Option TransactionLocator) (f : Found reading c s (as_maybe along.after) last (Some q)) where
      pub walking_coming : store_in_order c s ≡ true → Coming s (as_range q) ps n
      walking_coming order =
          record {
            reading = reading;
            committee = c;
            in_order = order;
            gone = w.gone;
            rest = later reading c s tables along w.gone w.passing q last f;
            longer = passing_longer reading c s tables along w.gone w.passing q last f;
            splits = passing_splits reading c s tables along w.gone w.passing q last f;
            holding = w.holding;
          }

      pub walking_next : store_in_order c s ≡ true → (qs : List ℕ) (tables' : Tables) (along' : Along) (read' : ReadUp) (m : ℕ) → as_maybe along'.after ≡ last
          → Held reading c s tables' along'
          → Sized tables' → Listed s (as_range q) ps n qs m → Read s read' → Walking ps₀ qs tables' along' read' m
      unfolding walking_coming
      walking_next order qs tables' along' read' m e held sized listed reads =
          record {
            gone = w.gone ++ locators (as_range q);
            passing = passing_next reading c s tables along w.gone w.passing q last f tables' along' e held sized;
            holding = listed.holding (walking_coming order);
            past = past_on ps₀ ps qs n m listed.onward w.past listed.past;
            reads = reads;
          }
