-- Where an ancestor is missing, include by include. Assumes nothing.
use mathlib.Core.Path.{◌≡◌, refl, sym, ap, ◌∙◌}
use mathlib.Core.Logic.{◌⊎◌, inl, inr}
use mathlib.Core.Bool.{Bool, true, false, ◌||◌}
use mathlib.Core.List.{List}
use Prim.Native.Nat.{ℕ, ◌+◌, ◌≤◌, ◌<◌}
use native.Mathlib.Omega.{arith}
use native.Mathlib.Decide.{ℕ_discrete}
use lib.ListN.{length, get_or, get_elem?, set}
use lib.Seq.{get_or-set_same, get_or-set_other}
use Rattle.base.specs.Lists.{pick, any_of, is_none, holds, ◌∈◌}
use Rattle.base.specs.Le.{Bytes}
use Rattle.base.proofs.Tests.{or_cases, or_left, or_right, same_test, flag_back}
use Rattle.base.proofs.Members.{any_in, in_any}
use Rattle.base.proofs.Index.{any_no, any_at}
use Rattle.base.proofs.Places.{in_place}
use Rattle.record_spec.specs.Reference.{BlockReference}
use Rattle.record_spec.specs.Block.{Block}
use Rattle.record_spec.specs.Record.{no_reference}
use Rattle.final_readings_spec.specs.Readings.{old, withdrawing}
use Rattle.slip_spec.specs.Supplied.{supplied_blocks}
use Rattle.slip_spec.specs.Paths.{named, to_block, on_from, on_by}
use Rattle.slip_spec.specs.Ancestry.{in_ancestry, lacks, lacks_ancestor}
use Rattle.slip_spec.proofs.Ancestry.{Falling, ancestry_step}
use Rattle.slip_read_records.specs.Places.{block_at_place, Places}
use Rattle.slip_read_paths.specs.declared.Led as code
use Rattle.slip_read_paths.specs.declared.Led.TheVariants.{To, Nowhere, NotGiven}
use Rattle.slip_read_paths.specs.Walk.{InPlace, LedTo}
use Rattle.slip_read_paths.proofs.Walks.{led_block, led_nowhere, led_missing, from_block, from_none, from_somewhere, step_at}
use Rattle.slip_read_ancestry.specs.Lacking.{lost_at, Lacking, LackingIn}
use Rattle.slip_read_ancestry.proofs.Places.{lower_place}

-- an include that is not among the blocks, or lacks an ancestor
unfoldable pub lost : List Block → BlockReference → Bool
lost bs i = is_none (named bs i) || holds (in_ancestry (lacks bs) bs) (named bs i)

-- a block lacks an ancestor where one of its includes is lost
module _ (bs : List Block) (f : Falling bs) (b : Block) (m : b ∈ bs) where
  abbrev gone : BlockReference → Bool
  gone i = is_none (named bs i)

  abbrev above : BlockReference → Bool
  above i = holds (in_ancestry (lacks bs) bs) (named bs i)

  out : (lacks bs b ≡ true) ⊎ (any_of above b.includes ≡ true) → any_of (lost bs) b.includes ≡ true
  unfolding lacks lost
  out (inl h) = let i = any_in gone b.includes h in in_any (lost bs) i.1 (or_left _ _ i.2)
  out (inr h) = let i = any_in above b.includes h in in_any (lost bs) i.1 (or_right (gone i.0) _ i.2)

  split : (i : BlockReference) → i ∈ b.includes → (gone i ≡ true) ⊎ (above i ≡ true) → lacks bs b || any_of above b.includes ≡ true
  unfolding lacks
  split i k (inl h) = or_left _ _ (in_any gone k h)
  split i k (inr h) = or_right (lacks bs b) _ (in_any above k h)

  back : any_of (lost bs) b.includes ≡ true → lacks bs b || any_of above b.includes ≡ true
  unfolding lost
  back h = let i = any_in (lost bs) b.includes h in split i.0 i.1 (or_cases (gone i.0) _ i.2)

  pub lacks_any : in_ancestry (lacks bs) bs b ≡ any_of (lost bs) b.includes
  lacks_any = ancestry_step (lacks bs) bs f b m ∙ same_test _ _ (λ h. out (or_cases (lacks bs b) _ h)) back

-- a test that failed up to an index, and at it
pub none_more : (p : ℕ → Bool) (k : ℕ) → ((i : ℕ) → i < k → p i ≡ false) → p k ≡ false → (i : ℕ) → i < k + 1 → p i ≡ false
none_more p k f e i h = go (ℕ_discrete i k)
  where
    go : Dec (i ≡ k) → p i ≡ false
    go (yes d) = ap p d ∙ e
    go (no d) = f i (omega arith)

-- a place is one of a longer table too
pub in_longer : (order t : List ℕ) (r : code.Led) → length order ≤ length t → InPlace order r → InPlace t r
unfolding InPlace
in_longer order t (To j) h k = omega (arith, h, k)
in_longer order t Nowhere h k = tt
in_longer order t NotGiven h k = tt

module _ (q : Bytes) (order : List ℕ) (p : Places q (supplied_blocks q) order) (f : Falling (supplied_blocks q)) where
  abbrev bs : List Block
  bs = supplied_blocks q

  module _ (t : List ℕ) (j : ℕ) (h : j < length order) (n : Lacking q order j t) where
    abbrev its : List BlockReference
    its = (block_at_place q order j).includes

    -- an include is lost exactly where it is noted so
    pub noted_lost : (k : ℕ) → k < length its → (r : code.Led) → LedTo q order r (on_by bs to_block (get_elem? its k)) → lost_at t r ≡ lost bs
        (get_or its k no_reference)
    unfolding lost_at lost holds is_none
    noted_lost k m r d = go r refl
      where
        led : LedTo q order r (on_from to_block (named bs (get_or its k no_reference)))
        led = rw (step_at bs (block_at_place q order j) k m) at d

        go : (c : code.Led) → r ≡ c → lost_at t c ≡ lost bs (get_or its k no_reference)
        go (To i) e =
            let x = led_block q order r _ i e led in
            let y = from_block (named bs (get_or its k no_reference)) (block_at_place q order i) x.1 in
            rw (y, n.at i (lower_place q order p f j i h x.0 (get_or its k no_reference) (in_place no_reference its k m) y))
            (flag_back (in_ancestry (lacks bs) bs (block_at_place q order i)))
        go Nowhere e = absurd (from_somewhere (named bs (get_or its k no_reference)) (led_nowhere q order r _ e led))
        go NotGiven e = rw (from_none (named bs (get_or its k no_reference)) (led_missing q order r _ e led))

    abbrev own : Bool
    own = in_ancestry (lacks bs) bs (block_at_place q order j)

    pub lacks_one : (k : ℕ) → k < length its → lost bs (get_or its k no_reference) ≡ true → true ≡ own
    lacks_one k m e = sym (lacks_any bs f (block_at_place q order j) (p.only j h) ∙ any_at no_reference (lost bs) its k m e)

    pub lacks_none : ((k : ℕ) → k < length its → lost bs (get_or its k no_reference) ≡ false) → false ≡ own
    lacks_none g = sym (lacks_any bs f (block_at_place q order j) (p.only j h) ∙ any_no no_reference (lost bs) its g)

  -- ---- noted place by place

  pub lacking_none : (t : List ℕ) → Lacking q order 0 t
  lacking_none t = record { at = λ j h. absurd (omega arith) }

  pub lacking_more : (t : List ℕ) (n v : ℕ) → Lacking q order n t → n < length t → v ≡ pick (in_ancestry (lacks bs) bs (block_at_place q order n)) 1 0 → Lacking
      q order (n + 1) (set t n v)
  lacking_more t n v k h e = record { at = λ j m. go j m (ℕ_discrete j n) }
    where
      go : (j : ℕ) → j < n + 1 → Dec (j ≡ n) → get_or (set t n v) j 0 ≡ pick (in_ancestry (lacks bs) bs (block_at_place q order j)) 1 0
      go j m (yes d) = rw d (get_or-set_same t n v 0 h ∙ e)
      go j m (no d) = get_or-set_other t n j v 0 d ∙ k.at j (omega arith)

  pub lacking_all : (t : List ℕ) → Lacking q order (length order) t → LackingIn withdrawing q order t
  unfolding lacks_ancestor
  lacking_all t n = record { at = n.at }

-- where nobody withdraws nothing is noted
pub lacking_old : (q : Bytes) (order t : List ℕ) → ((j : ℕ) → get_or t j 0 ≡ 0) → LackingIn old q order t
unfolding lacks_ancestor
lacking_old q order t f = record { at = λ j h. f j }
