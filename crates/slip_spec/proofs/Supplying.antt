-- Records of a store, each once and in any order, come with a slip as they are. Assumes nothing.
use mathlib.Core.Path.{◌≡◌, refl, sym, ap, ◌∙◌, subst}
use mathlib.Core.Bool.{true, false, not, ◌&&◌}
use mathlib.Core.List.{List, [], ◌∷◌, ◌++◌, append_assoc}
use mathlib.Core.Option.{some}
use Prim.Native.Nat.{ℕ, ◌^◌, ◌≤◌, ◌<◌}
use native.Mathlib.Omega.{arith}
use lib.ListN.{length}
use Rattle.base.specs.Lists.{is_empty, ◌∈◌, here, there, Once, empty, also}
use Rattle.base.specs.Le.{Bytes, le_bytes}
use Rattle.base.specs.Checks.{passes}
use Rattle.base.specs.Read.{give, onward, ◌>>=◌}
use Rattle.base.proofs.Tests.{and_both, and_left, and_right}
use Rattle.base.proofs.Members.{in_all, in_map, map_in}
use Rattle.base.proofs.Lists.{Every, none_of, and, every_in, pairs_pairwise, Pairs, no_pairs, with_later}
use Rattle.base.proofs.Checks.{passes_left, passes_right, passes_others}
use Rattle.base.proofs.Read.{items_reads, number_reads, ReadsBack}
use Rattle.base.proofs.UpTo.{up_to_reads}
use Rattle.committee.specs.Committee.{Committee}
use Rattle.record_spec.specs.Reference.{same_reference}
use Rattle.record_spec.specs.Block.{Block}
use Rattle.record_spec.specs.Verify.{head_checks, body_checks}
use Rattle.record_spec.proofs.References.{other_reference}
use Rattle.store_spec.specs.Layout.{Record, used_by, blocks}
use Rattle.store_spec.specs.Accept.{block_checks, all_accepted}
use Rattle.store_spec.specs.Store.{give_record, records_of}
use Rattle.store_spec.proofs.Stored.{WellStored, stored}
use Rattle.store_spec.proofs.Accepted.{accepted_stored}
use Rattle.store_spec.proofs.Check.{in_every}
use Rattle.store_spec.proofs.Store.{Right, InOrder, records_of_right, used_within, longest}
use Rattle.final_spec.specs.Finality.{blocks_of}
use Rattle.slip_spec.specs.Slip.{Slip}
use Rattle.slip_spec.specs.Supplied.{read_supplied, supplied_records, right_blocks, supplied_bytes}
use Rattle.slip_spec.specs.Meaning.{NamedBy, Supplies}
use Rattle.slip_spec.proofs.Accepted.{named_by_in}

-- ---- read back

abbrev length_first : Record → Bytes
length_first r = le_bytes 4 (length r.bytes) ++ r.bytes

supplied_reads : (r : Record) → Right r → length r.bytes < 256 ^ 4 → ReadsBack read_supplied length_first r
unfolding read_supplied ◌>>=◌ onward give_record give
supplied_reads r h k t =
    rw (
      append_assoc (le_bytes 4 (length r.bytes)) r.bytes t,
      number_reads 4 (length r.bytes) (r.bytes ++ t) k,
      items_reads (length r.bytes) r.bytes t refl,
      h,
    )

length_not_empty : (r : Record) (t : Bytes) → is_empty (length_first r ++ t) ≡ false
unfolding le_bytes is_empty
length_not_empty r t = refl

short_records : (n : ℕ) (rs : List Record) → used_by rs ≤ n → Every (λ r. length r.bytes ≤ n) rs
unfolding used_by
short_records n [] h = none_of
short_records n (r ∷ rs) h = and {x = r} (omega arith) (short_records n rs (omega arith))

-- ---- none is refused by 21, 22, 24 to 29, and their references differ

accepted_alone : (c : Committee) (rs : List Record) → all_accepted c rs ≡ true → (b : Block) → b ∈ blocks rs
    → passes (head_checks c b) && passes (body_checks c b) ≡ true
unfolding all_accepted
accepted_alone c [] h b x'' = elim x'' [ ]
accepted_alone c (r ∷ rs) h b here = unfold block_checks in
    (let p : passes (block_checks c rs b) ≡ true = and_left _ _ h in
    let q = passes_others _ _ (passes_right (head_checks c b) _ p) in
    and_both _ _ (passes_left (head_checks c b) _ p) (passes_left (body_checks c b) _ q))
accepted_alone c (r ∷ rs) h b (there m) = accepted_alone c rs (and_right (passes (block_checks c rs r.block)) _ h) b m

one_record : (rs : List Record) → WellStored (blocks rs) → {r x : Record} → r ∈ rs → x ∈ rs → r.block.reference ≡ x.block.reference
    → r ≡ x
one_record [] _ {r = r} {x = x} x7 _ e = elim x7 [ ]
one_record (y ∷ rs) (stored new found w) here here e = refl
one_record (y ∷ rs) (stored new found w) {x = x} here (there k) e = absurd (new x.block (in_map (λ z. z.block) k) (sym e))
one_record (y ∷ rs) (stored new found w) {r = r} (there m) here e = absurd (new r.block (in_map (λ z. z.block) m) e)
one_record (y ∷ rs) (stored new found w) (there m) (there k) e = one_record rs w m k e

records_once : (rs : List Record) → WellStored (blocks rs) → Once rs
records_once [] w = empty
records_once (r ∷ rs) (stored new found w) = also (λ m. new r.block (in_map (λ z. z.block) m) refl) (records_once rs w)

module _ (c : Committee) (t : Bytes) (o : InOrder c t) where
  well : WellStored (blocks (records_of t))
  well = accepted_stored c (records_of t) o.accepted

  differ : (rs : List Record) → ((x : Record) → x ∈ rs → x ∈ records_of t) → Once rs
      → Pairs (λ b d. not (same_reference b.reference d.reference) ≡ true) (blocks rs)
  differ [] f empty = no_pairs
  differ (r ∷ rs) f (also new e) =
      with_later
      (in_every (blocks rs) λ d m.
      let x = map_in (λ z. z.block) rs m in
      ap not (other_reference r.block.reference d.reference λ s.
      let e : x.0 ≡ r = one_record (records_of t) well (f x.0 (there x.1)) (f r here) (ap (λ (z : Block). z.reference) x.2 ∙ sym s) in
      new (subst (λ (z : Record). z ∈ rs) e x.1)))
      (differ rs (λ x m. f x (there m)) e)

  module _ (rs : List Record) (f : (x : Record) → x ∈ rs → x ∈ records_of t) where
    records_supplied : length rs ≤ 1024 → supplied_records (supplied_bytes rs) ≡ some rs
    unfolding supplied_records supplied_bytes
    records_supplied few =
        up_to_reads read_supplied length_first length_not_empty 1024 rs few
        (in_every rs (λ x m. supplied_reads x (every_in (records_of t) x (records_of_right t) (f x m))
        (omega (arith, every_in (records_of t) x short (f x m)))))
      where
        short : Every (λ r. length r.bytes ≤ 4294967295) (records_of t)
        short = short_records 4294967295 (records_of t) (omega (arith, used_within c t o, longest t o.allowed))

    records_right : Once rs → right_blocks c (blocks rs) ≡ true
    unfolding right_blocks
    records_right e =
        and_both _ _ (in_all _ (blocks rs) λ b m.
        let x = map_in (λ z. z.block) rs m in
        accepted_alone c (records_of t) o.accepted b (subst (λ (d : Block). d ∈ blocks (records_of t)) x.2 (in_map (λ z. z.block) (f x.0 x.1))))
        (pairs_pairwise _ (blocks rs) (differ rs f e))

    pub stored_supply : Once rs → length rs ≤ 1024 → (s : Slip) → ((d : Block) → NamedBy (blocks_of t) s d → d ∈ blocks rs)
        → Supplies c (blocks_of t) s (supplied_bytes rs)
    stored_supply e few s g = record { records = rs; supplied = records_supplied few; right = records_right e; names = g }

  pub all_supplied : supplied_records (supplied_bytes (records_of t)) ≡ some (records_of t)
  all_supplied = records_supplied (records_of t) (λ x m. m) o.few

  pub all_right : right_blocks c (blocks (records_of t)) ≡ true
  all_right = records_right (records_of t) (λ x m. m) (records_once (records_of t) well)

  pub whole_supply : (s : Slip) → Supplies c (blocks_of t) s (supplied_bytes (records_of t))
  whole_supply s = record { records = records_of t; supplied = all_supplied; right = all_right; names = unfold blocks_of in named_by_in (blocks_of t) s }
