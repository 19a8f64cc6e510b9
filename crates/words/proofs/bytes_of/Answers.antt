use mathlib.Core.Path.{ap, ◌≡◌, refl, ◌∙◌}
use mathlib.Core.List.{flatten}
use Prim.Native.Nat.{◌-◌}
use lib.Seq.{length-sets, take_all}
use lib.ListN.{length, take}
use native.Mathlib.Omega.{arith}
use borrow.Author.Rules.{rules}
use Rattle.words.proofs.Stores.{sets_complete}
use Rattle.words.specs.Words.{bytes_of}
use Rattle.words.proofs.Words.{length_bytes_of, bytes_filled}
use Rattle.words.proofs.bytes_of.Goals as goal

pub loop-i-init : goal.loop-i-init
unfolding bytes_of flatten
loop-i-init c = (search rules, refl)

pub write_u64-requires : goal.write_u64-requires
write_u64-requires c =
    let b = c.loop-i in
    let start = c.args in
    omega (arith, ap length b.invariant.1 ∙ length-sets start.bytes.now 0 (bytes_of (take b.i start.words.now)))

pub loop-i-preserved : goal.loop-i-preserved
loop-i-preserved c =
    let l = c.args.bytes.now in
    let ws = c.args.words.now in
    let b = c.loop-i in (
      search rules,
      c.write_u64.ensures ∙ rw b.invariant.1
          (bytes_filled l ws b.i c.loop-i-test.true),
    )

pub shape_of-bytes : goal.shape_of-bytes
shape_of-bytes c = ap length c.loop-i.invariant.1 ∙ simp length-sets

pub returns : goal.returns
returns c =
    let start = c.args in
    let l = start.bytes.now in
    let ws = start.words.now in
    let e : take c.loop-i.i ws ≡ ws = take_all c.loop-i.i ws (omega arith) in
    c.loop-i.invariant.1 ∙ rw e (sets_complete l (bytes_of ws) (length_bytes_of ws ∙ omega arith))
