use Rattle.std.proofs.Common.{◌^◌, ◌<◌, sym, arith}
use Rattle.numerals.proofs.HexDigits.{hex_eight}
use Rattle.numerals.proofs.number.BitsDisplay.fmt.Goals as goal

pub returns-clause-writes : goal.returns-clause-writes
returns-clause-writes g c =
    let h = c.write.ensures.writes in
    let small : c.f32_to_bits_with_nan-bits.result < 2 ^ 32 = omega arith in
    let told = rw (c.laid_out.ensures, c.in_radix.ensures, hex_eight _ small, c.f32_to_bits_with_nan-bits.ensures) at h in
    rw (sym c.if-is_nan.ensures.value) told
