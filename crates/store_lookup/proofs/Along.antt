-- The walk along the chain of a store that is laid out, in search of a reference. Assumes nothing.
use mathlib.Core.Path.{◌≡◌, refl, sym, ap, subst, ◌∙◌}
use mathlib.Core.Logic.{◌⊎◌, inl, inr}
use mathlib.Core.List.{List, [], ◌∷◌, ◌++◌, append_assoc}
use mathlib.Core.Option.{none}
use mathlib.Core.Bool.{true}
use Prim.Native.Nat.{ℕ, ◌-◌, ◌<◌, ◌≤◌}
use native.Mathlib.Omega.{arith}
use lib.ListN.{length}
use Rattle.base.specs.Lists.{◌∈◌, here}
use Rattle.base.specs.Le.{Bytes, le_at}
use Rattle.base.proofs.Lists.{Every, none_of, and, every, every_in, every_append, with_later}
use Rattle.base.proofs.Members.{in_append, in_right}
use Rattle.record_spec.specs.Reference.{BlockReference, reference_before}
use Rattle.record_spec.specs.Block.{Block}
use Rattle.types.specs.Values.{reference_order}
use Rattle.std.specs.declared.cmp.Ordering.TheVariants.{Less, Equal, Greater}
use Rattle.record_spec.proofs.References.{reference_same, reference_irrefl, reference_trans}
use Rattle.store_spec.specs.Layout.{Entry, reference_of, entries, position_of, first_position, ascending, lookup}
use Rattle.store_spec.specs.Store.{block_count, records_of}
use Rattle.store_spec.specs.Entry.{block_at, laid_out, is_entry}
use Rattle.store_spec.specs.Step.{first}
use Rattle.store_spec.proofs.Chain.{Ascending, least_first, ascending_ascends, next_after}
use Rattle.store_spec.proofs.Visit.{ascending_in, in_ascending, length_ascending, length_entries}
use Rattle.types.proofs.Words.{compared_less, compared_equal, compared_greater}
use Rattle.store_spec.proofs.Loops.{is_entry_lem, block_of_entry}
use Rattle.store_spec.proofs.Lookups.{lookup_hit, lookup_miss}
use Rattle.store_spec.proofs.Search.{laid_out_lem}

-- the entries passed are lower than the reference; `left` more are to come, the first at a position
pub record Along (s : Bytes) (r : BlockReference) (at left : ℕ) : Type 0 where
  pub passed : List Entry
  pub rest : List Entry
  pub sorted : ascending (entries (records_of s)) ≡ passed ++ rest
  pub place : at ≡ position_of (first rest)
  pub many : length rest ≡ left
  pub low : Every (λ e. reference_before (reference_of e) r ≡ true) passed

module _ (s : Bytes) (h : laid_out s ≡ true) (r : BlockReference) where
  abbrev es : List Entry
  es = entries (records_of s)

  pub along_start : (at left : ℕ) → at ≡ le_at 4 s 0 → left ≡ block_count s → Along s r at left
  unfolding first_position
  along_start at left p q =
      record {
        passed = [];
        rest = ascending es;
        sorted = refl;
        place = p ∙ (laid_out_lem s h).chain.first ∙ ap position_of (least_first es);
        many = length_ascending es ∙ length_entries (records_of s) ∙ (laid_out_lem s h).reads.many ∙ sym q;
        low = none_of;
      }

  module _ (at left : ℕ) (a : Along s r at left) where
    -- the entry that comes first
    pub record Coming : Type 0 where
      pub entry : Entry
      pub others : List Entry
      pub are : a.rest ≡ entry ∷ others
      pub stored : entry ∈ es
      pub stands : entry.position ≡ at
      pub block : block_at s at ≡ entry.block

    pub coming : 0 < left → Coming
    unfolding position_of first
    coming l = go a.rest refl a.place a.many
      where
        go : (ys : List Entry) → a.rest ≡ ys → at ≡ position_of (first ys) → length ys ≡ left → Coming
        go [] q p m = absurd (omega arith)
        go (y ∷ ys) q p m =
            let there_is : y ∈ es = ascending_in es y (subst (λ (l : List Entry). y ∈ l) (sym a.sorted)
            (in_right a.passed (subst (λ (l : List Entry). y ∈ l) (sym q) here))) in
            record {
              entry = y;
              others = ys;
              are = q;
              stored = there_is;
              stands = sym p;
              block = ap (λ (n : ℕ). block_at s n) p ∙ block_of_entry s (laid_out_lem s h).reads y there_is;
            }

    pub along_entry : 0 < left → is_entry s at ≡ true
    along_entry l = let x = coming l in rw (← x.stands) (is_entry_lem s x.entry (laid_out_lem s h).tested x.stored)

    along_on : (next : ℕ) → 0 < left → reference_before (block_at s at).reference r ≡ true → next ≡ le_at 4 s at → Along s r next (left - 1)
    along_on next l k q =
        let x : Coming = coming l in
        let e : Entry = x.entry in
        let sorted : ascending es ≡ a.passed ++ e ∷ x.others = a.sorted ∙ ap (λ (l : List Entry). a.passed ++ l) x.are in
        record {
          passed = a.passed ++ (e ∷ []);
          rest = x.others;
          sorted = sorted ∙ sym (append_assoc a.passed (e ∷ []) x.others);
          place =
              q ∙ ap (λ (p : ℕ). le_at 4 s p) (sym x.stands) ∙ every_in es e (laid_out_lem s h).chain.next x.stored
              ∙ next_after es a.passed x.others e (laid_out_lem s h).chain.distinct sorted;
          many = omega (arith, ap length x.are, a.many);
          low = every_append a.passed (e ∷ []) a.low (and (subst (λ (b : Block). reference_before b.reference r ≡ true) x.block k) none_of);
        }

    along_hit : 0 < left → (block_at s at).reference ≡ r → at ≡ position_of (lookup es r)
    unfolding position_of
    along_hit l k =
        let x : Coming = coming l in
        rw (lookup_hit es (laid_out_lem s h).chain.distinct x.entry x.stored r (sym (ap (λ (b : Block). b.reference) x.block) ∙ k)) (sym x.stands)

    -- none of those to come has the reference
    missed : Every (λ e. reference_before r (reference_of e) ≡ true) a.rest → lookup es r ≡ none
    missed high = lookup_miss es r (λ e m q. by_side e q (in_append a.passed (subst (λ (l : List Entry). e ∈ l) a.sorted (in_ascending es e m))))
      where
        by_side : (e : Entry) → reference_of e ≡ r → (e ∈ a.passed) ⊎ (e ∈ a.rest) → ⊥
        by_side e q (inl m) = reference_irrefl r (subst (λ (x : BlockReference). reference_before x r ≡ true) q (every_in a.passed e a.low m))
        by_side e q (inr m) = reference_irrefl r (subst (λ (x : BlockReference). reference_before r x ≡ true) q (every_in a.rest e high m))

    -- the first to come is higher, and so are all
    along_high : 0 < left → reference_before r (block_at s at).reference ≡ true → Every (λ e. reference_before r (reference_of e) ≡ true) a.rest
    along_high l k =
        let x : Coming = coming l in
        let own : reference_before r (reference_of x.entry) ≡ true = subst (λ (b : Block). reference_before r b.reference ≡ true) x.block k in
        rw x.are (and own (after x.entry x.others a.passed
        (subst Ascending (a.sorted ∙ ap (λ (l : List Entry). a.passed ++ l) x.are) (ascending_ascends es (laid_out_lem s h).chain.distinct)) own))
      where
        after : (e : Entry) (ys zs : List Entry) → Ascending (zs ++ e ∷ ys) → reference_before r (reference_of e) ≡ true → Every
            (λ y. reference_before r (reference_of y) ≡ true) ys
        after e ys [] (with_later k ks) own = every (λ y t. reference_trans r (reference_of e) (reference_of y) own t) ys k
        after e ys (z ∷ zs) (with_later k ks) own = after e ys zs ks own

    none_left : left ≤ 0 → Every (λ e. reference_before r (reference_of e) ≡ true) a.rest
    none_left l = empty a.rest a.many
      where
        empty : (ys : List Entry) → length ys ≡ left → Every (λ e. reference_before r (reference_of e) ≡ true) ys
        empty [] m = none_of
        empty (y ∷ ys) m = absurd (omega arith)

    pub along_end : left ≤ 0 → lookup es r ≡ none
    along_end l = missed (none_left l)

    -- the same by what comparing tells
    module _ (l : 0 < left) (x : BlockReference) (q : x ≡ (block_at s at).reference) where
      pub met_hit : reference_order x r ≡ Equal → at ≡ position_of (lookup es r)
      met_hit o = along_hit l (sym q ∙ reference_same x r (compared_equal x r o))

      pub met_high : reference_order x r ≡ Greater → Every (λ e. reference_before r (reference_of e) ≡ true) a.rest
      met_high o = along_high l (rw (← q) (compared_greater x r o).1)

      pub met_past : reference_order x r ≡ Greater → lookup es r ≡ none
      met_past o = missed (met_high o)

      pub met_on : (next : ℕ) → reference_order x r ≡ Less → next ≡ le_at 4 s at → Along s r next (left - 1)
      met_on next o = along_on next l (rw (← q) (compared_less x r o).1)
