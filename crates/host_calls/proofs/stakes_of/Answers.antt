use Prim.Native.Nat.{◌/◌}
use mathlib.Core.Path.{◌≡◌, sym, ◌∙◌}
use lib.ListN.{take, length}
use lib.Seq.{length-take-le, take_at}
use native.Mathlib.Omega.{arith}
use borrow.Author.Rules.{rules}
use Rattle.host_calls.proofs.Calls.{committee_ragged, committee_many, committee_words}
use Rattle.host_calls.proofs.stakes_of.Goals as goal

pub returns-then-bytes-ne0 : goal.returns-then-bytes-ne0
returns-then-bytes-ne0 c = (search rules, sym (committee_ragged c.args.bytes.now c.if-bytes-ne0.true))

pub returns-then-n-gt-MAX_MEMBERS : goal.returns-then-n-gt-MAX_MEMBERS
returns-then-n-gt-MAX_MEMBERS c = (search rules, sym (committee_many c.args.bytes.now (omega arith) c.if-n-gt-MAX_MEMBERS.true))

pub slice_bounds-words_of-end-2 : goal.slice_bounds-words_of-end-2
slice_bounds-words_of-end-2 c =
    let start = c.args in
    sym (length-take-le (length start.bytes.now / 8) start.stakes.now (omega arith))

pub returns : goal.returns
returns c =
    let start = c.args in
    let s = start.bytes.now in
    let n = length s / 8 in
    let filled = c.words_of in
    let e : length (take n start.stakes.now) ≡ n = length-take-le n start.stakes.now (omega arith) in
    (omega arith, take_at filled.new.words _ n (filled.auto.words ∙ e) ∙ filled.ensures ∙ rw e (sym (committee_words s (omega arith) (omega arith))))
