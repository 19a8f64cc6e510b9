use Rattle.std.proofs.Common.{ℕ, ◌-◌, ◌/◌, ◌%◌, ◌∙◌, arith, sym, ap}
use Rattle.listing_text.specs.Text.{hex, hex_digit}
use Rattle.listing_text.proofs.Text.{wrote_none, wrote_byte, wrote_same, length_wrote, hex_none, hex_more, length_hex}
use Rattle.listing_text.proofs.+put_hex.Goals as goal

pub returns-then-digits-eq0 : goal.returns-then-digits-eq0
returns-then-digits-eq0 t c =
    let start = c.args in
    wrote_same (sym (hex_none start.n) ∙ ap (λ (k : ℕ). hex k start.n) (sym c.if-digits-eq0.true)) (wrote_none start.out.now start.at (omega arith))

pub bounds-out-next : goal.bounds-out-next
bounds-out-next t c =
    let start = c.args in
    let wrote = c.put_hex-next.ensures in
    omega (arith, length_hex (start.digits - 1) (start.n / 16), wrote.end, wrote.fits, length_wrote wrote)

pub returns : goal.returns
returns t c =
    let start = c.args in
    let wrote = c.put_hex-next.ensures in
    rw c.hex_digit.ensures
    (wrote_same (sym (hex_more start.digits start.n c.if-digits-eq0.false))
    (wrote_byte (hex_digit (start.n % 16)) wrote (omega (arith, length_hex (start.digits - 1) (start.n / 16), wrote.end, length_wrote wrote))))
