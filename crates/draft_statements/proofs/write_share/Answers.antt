use mathlib.Core.Path.{◌≡◌, ◌∙◌}
use Prim.Native.Nat.{◌+◌, ◌-◌}
use lib.ListN.{length, take, drop, length-set}
use Rattle.draft_statements.proofs.Written.{share_length, share_written}
use native.Mathlib.Omega.{arith}
use Rattle.draft_statements.proofs.write_share.Goals as goal

pub write_u16-requires : goal.write_u16-requires
write_u16-requires c = simp length-set (omega arith)

pub copy_to-requires : goal.copy_to-requires
copy_to-requires c =
    let o = c in
    let start = o.args.start in
    let len = o.args.len in
    let all : start + len - start ≡ len = omega arith in
    let size : length (take len (drop start o.args.s.now)) ≡ len = share_length o.args.s.now start len o.requires.0 in
    let kept : length c.write_u16.new.s ≡ length o.args.out.now = c.write_u16.auto.s ∙ simp length-set in
    rw all (omega (arith, size, kept, o.requires.1.1))

pub shape_of-out : goal.shape_of-out
shape_of-out c = c.copy_to.auto.s ∙ c.write_u16.auto.s ∙ simp length-set

pub returns : goal.returns
returns c =
    let o = c in
    let start = o.args.start in
    let len = o.args.len in
    let v = take len (drop start o.args.s.now) in
    let all : start + len - start ≡ len = omega arith in
    c.copy_to.ensures
    ∙ rw (c.write_u16.ensures, all)
    (share_written o.args.out.now o.args.at v len (share_length o.args.s.now start len o.requires.0))
