use mathlib.Core.Path.{sym}
use native.Mathlib.Omega.{arith}
use Rattle.base.proofs.Le.{bytes_of}
use Rattle.record_edition.proofs.Editions.{not_second, not_third, is_neither, is_old, is_short, is_timed}
use Rattle.record_edition.proofs.edition_formed.Goals as goal

pub returns-then-rec-ne0 : goal.returns-then-rec-ne0
returns-then-rec-ne0 c = sym (not_second c.args.rec.now (omega arith) (λ h. omega (arith, h)))

pub returns-then-rec-ne0-2 : goal.returns-then-rec-ne0-2
returns-then-rec-ne0-2 c = sym (not_third c.args.rec.now (omega arith) (λ h. omega (arith, h)))

pub returns-then-rec-eq0 : goal.returns-then-rec-eq0
returns-then-rec-eq0 c = sym (is_old c.args.rec.now (omega arith) (omega arith) (omega arith) (omega arith))

pub returns-then-rec-ne2 : goal.returns-then-rec-ne2
returns-then-rec-ne2 c = sym (is_neither c.args.rec.now (omega arith)
    (λ h. omega (arith, h)) (λ h. omega (arith, h)))

pub returns-then-rec-lt72 : goal.returns-then-rec-lt72
returns-then-rec-lt72 c = sym (is_short c.args.rec.now (omega arith) (omega arith)
    (omega arith))

pub returns : goal.returns
returns c =
    let s = c.args.rec.now in
    rw c.read_u64.ensures (sym (is_timed s (omega arith) (omega arith)
    (bytes_of s (λ j h. omega (arith, c.shared_slice_known-1.given j)))
    (omega arith) (omega arith) (omega arith)))
