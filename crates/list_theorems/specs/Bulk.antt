-- The wide and the ordinary list in bulk after every list of feeds from a fresh engine. Assumes nothing: these are definitions.
use Rattle.std.specs.Prelude.{◌≤◌, ◌≡◌, Bool, true, false, length}
use mathlib.Core.List.{List, ◌∷◌, ◌++◌, map, flatten}
use Rattle.std.proofs.Math.Option.{Option, none}
use Rattle.base.specs.Lists.{◌∈◌}
use Rattle.base.specs.Le.{Bytes}
use Rattle.base.specs.Checks.{answered}
use Rattle.committee.specs.Committee.{Committee, broken}
use Rattle.record_spec.specs.Reference.{TransactionLocator}
use Rattle.store_spec.specs.Shares.{is_stored_share}
use Rattle.final_spec.specs.Finality.{blocks_of}
use Rattle.final_spec.specs.NextFinal.{FinalList}
use Rattle.list_stretches_spec.specs.Stretches.{Listing, wide, FinalStretch, stretch_locators, stretches, reached}
use Rattle.list_stretches_spec.specs.Bulk.{stretch_room, list_stretches}
use Rattle.list_stretches_spec.specs.Claims.{Longest, Alike}
use Rattle.list_ordinary_spec.specs.FinalShares.{FinalShareList}
use Rattle.list_ordinary_spec.specs.Ordinary.{ordinary}
use Rattle.mission_theorems.specs.ThirdStatement.{Start, engine_of, SameRecords}

-- the stretches of a list that a slice holds
abbrev pub held : Committee → Bytes → Listing → Bytes → Option TransactionLocator → List FinalStretch
held c s k out after = stretches c (blocks_of s) k (stretch_room out) after

-- the question in bulk is answered: so many stretches, and whether more locators follow
abbrev pub Answered : Committee → Bytes → Listing → Bytes → Option TransactionLocator → Bool → Type 0
Answered c s k out after more = (list_stretches c s k out after).answer ≡ answered (record { stretches = length (held c s k out after); more = more })

-- it is asked on, with whatever slices, each time after the last locator that it gave, until none follow: all its stretches
pub data StretchesOn (c : Committee) (s : Bytes) (k : Listing) : Option TransactionLocator → List FinalStretch → Type 0 where
  last : {after : Option TransactionLocator} (out : Bytes) → Answered c s k out after false → StretchesOn c s k after (held c s k out after)
  onward : {after : Option TransactionLocator} {ts : List FinalStretch} (out : Bytes) → Answered c s k out after true
      → StretchesOn c s k (reached after (held c s k out after)) ts → StretchesOn c s k after (held c s k out after ++ ts)

-- the same with these slices in this order, those that are left over unused
pub data AskedWith (c : Committee) (s : Bytes) (k : Listing) : Option TransactionLocator → List Bytes → List FinalStretch → Type 0 where
  ends : {after : Option TransactionLocator} {outs : List Bytes} (out : Bytes) → Answered c s k out after false
      → AskedWith c s k after (out ∷ outs) (held c s k out after)
  goes : {after : Option TransactionLocator} {outs : List Bytes} {ts : List FinalStretch} (out : Bytes) → Answered c s k out after true
      → AskedWith c s k (reached after (held c s k out after)) outs ts → AskedWith c s k after (out ∷ outs) (held c s k out after ++ ts)

-- it comes to the end with any slices of 80 bytes or more, of which as many as there are locators are enough, and one where there are none
unfoldable pub ReachesEnd : Committee → Bytes → Listing → List TransactionLocator → Type 0
ReachesEnd c s k ls = (outs : List Bytes) → ((out : Bytes) → out ∈ outs → 80 ≤ length out) → 1 ≤ length outs → length ls ≤ length outs
    → (ts : List FinalStretch) × AskedWith c s k none outs ts

-- the stretches of the wide list, and of the ordinary one
abbrev pub WideOn : Committee → Bytes → List FinalStretch → Type 0
WideOn c s ts = StretchesOn c s (wide c (blocks_of s)) none ts

abbrev pub OrdinaryOn : Committee → Bytes → List FinalStretch → Type 0
OrdinaryOn c s ts = StretchesOn c s (ordinary c (blocks_of s)) none ts

-- the locators of stretches, one after the other
unfoldable pub spread_out : List FinalStretch → List TransactionLocator
spread_out ts = flatten (map stretch_locators ts)

pub record BulkStatement : Type 0 where
  -- "the final list gives exactly these, ascending": the wide list in bulk, asked on from the start and spread out, is the wide list
  pub spread : (c : Committee) → broken c ≡ false → (t : Start) (ts : List FinalStretch) → WideOn c (engine_of c t).store ts
      → (ls : List TransactionLocator) → FinalList c (engine_of c t).store ls → spread_out ts ≡ ls
  -- each locator of a stretch is final, with as many certifying blocks as the finality question names, and with their authors' stake
  pub alike : (c : Committee) → broken c ≡ false → (t : Start) (ts : List FinalStretch) → WideOn c (engine_of c t).store ts
      → (x : FinalStretch) → x ∈ ts → (l : TransactionLocator) → l ∈ stretch_locators x → Alike c (engine_of c t).store x l
  -- and a stretch is as long as these stay the same
  pub longest : (c : Committee) → broken c ≡ false → (t : Start) (ts : List FinalStretch) → WideOn c (engine_of c t).store ts
      → (x : FinalStretch) → x ∈ ts → Longest (blocks_of (engine_of c t).store) (wide c (blocks_of (engine_of c t).store)) x
  -- "Every other list from a fresh engine under that committee that leaves the same records stored, in whatever order, gives the same final list."
  pub same_list : (c : Committee) → broken c ≡ false → (t u : Start) → SameRecords c t u → (ts us : List FinalStretch)
      → WideOn c (engine_of c t).store ts → WideOn c (engine_of c u).store us → spread_out ts ≡ spread_out us
  -- 01: "asked on from the start until none": it comes to that end, with whatever slices that hold a stretch
  pub reaches : (c : Committee) → broken c ≡ false → (t : Start) (ls : List TransactionLocator) → FinalList c (engine_of c t).store ls
      → ReachesEnd c (engine_of c t).store (wide c (blocks_of (engine_of c t).store)) ls
  -- 02: "The ordinary listing shall show final locators that name a stored share": in bulk it is the ordinary list
  pub ordinary_spread : (c : Committee) → broken c ≡ false → (t : Start) (ts : List FinalStretch) → OrdinaryOn c (engine_of c t).store ts
      → (ls : List TransactionLocator) → FinalShareList c (engine_of c t).store ls → spread_out ts ≡ ls
  -- each locator of its stretches is a stored share, and alike
  pub ordinary_alike : (c : Committee) → broken c ≡ false → (t : Start) (ts : List FinalStretch) → OrdinaryOn c (engine_of c t).store ts
      → (x : FinalStretch) → x ∈ ts → (l : TransactionLocator) → l ∈ stretch_locators x
      → (is_stored_share (blocks_of (engine_of c t).store) l ≡ true) × Alike c (engine_of c t).store x l
  -- and a stretch is as long as these stay the same and shares follow
  pub ordinary_longest : (c : Committee) → broken c ≡ false → (t : Start) (ts : List FinalStretch) → OrdinaryOn c (engine_of c t).store ts
      → (x : FinalStretch) → x ∈ ts → Longest (blocks_of (engine_of c t).store) (ordinary c (blocks_of (engine_of c t).store)) x
  -- the same for every order of arrival
  pub ordinary_same : (c : Committee) → broken c ≡ false → (t u : Start) → SameRecords c t u → (ts us : List FinalStretch)
      → OrdinaryOn c (engine_of c t).store ts → OrdinaryOn c (engine_of c u).store us → spread_out ts ≡ spread_out us
  -- and it comes to its end too
  pub ordinary_reaches : (c : Committee) → broken c ≡ false → (t : Start) (ls : List TransactionLocator) → FinalShareList c (engine_of c t).store ls
      → ReachesEnd c (engine_of c t).store (ordinary c (blocks_of (engine_of c t).store)) ls
