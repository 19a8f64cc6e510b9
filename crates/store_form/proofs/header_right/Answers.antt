use mathlib.Core.Path.{sym, ◌∙◌}
use native.Mathlib.Omega.{arith}
use lib.Dec.{eqb}
use borrow.Author.Tests.{eqb-true, eq-eqb}
use Rattle.base.proofs.Tests.{same_test}
use Rattle.store_spec.specs.Store.{used_length, block_count}
use Rattle.store_spec.proofs.Check.{HeaderRight, header_right_lem, right_header, header_wrong}
use Rattle.store_form.proofs.header_right.Goals as goal

pub returns-then-store-lt16 : goal.returns-then-store-lt16
unfolding used_length block_count
returns-then-store-lt16 c = sym (header_wrong c.args.store.now (λ (h : HeaderRight c.args.store.now). omega arith))

pub returns-then-store-gt-MAX_BYTES : goal.returns-then-store-gt-MAX_BYTES
unfolding used_length block_count
returns-then-store-gt-MAX_BYTES c = sym (header_wrong c.args.store.now (λ (h : HeaderRight c.args.store.now). omega arith))

pub returns-then-store-read_u32 : goal.returns-then-store-read_u32
unfolding used_length block_count
returns-then-store-read_u32 c = sym (header_wrong c.args.store.now
    (λ (h : HeaderRight c.args.store.now). omega arith))

pub returns-then-read_u16-gt-MAX_BLOCKS : goal.returns-then-read_u16-gt-MAX_BLOCKS
unfolding used_length block_count
returns-then-read_u16-gt-MAX_BLOCKS c = sym (header_wrong c.args.store.now
    (λ (h : HeaderRight c.args.store.now). omega arith))

pub returns-then-read_u32-ne0 : goal.returns-then-read_u32-ne0
unfolding used_length block_count
returns-then-read_u32-ne0 c = sym (header_wrong c.args.store.now
    (λ (h : HeaderRight c.args.store.now). omega arith))

pub returns : goal.returns
unfolding used_length block_count
returns c =
    let s = c.args.store.now in
    same_test (eqb c.read_u16-2.result 0) _
    (λ h. right_header s (record {
      long = omega arith;
      short = omega arith;
      within = omega arith;
      few = omega arith;
      zeros = omega arith;
      zeros₂ = omega
          (arith, eqb-true c.read_u16-2.result 0 h);
    }))
    (λ h. eq-eqb c.read_u16-2.result 0 (c.read_u16-2.ensures ∙ (header_right_lem s h).zeros₂))
