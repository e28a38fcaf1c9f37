use Rattle.std.proofs.Common.{◌≡◌, ◌/◌, ◌<◌, ◌≤◌, length, get_or, ◌∙◌, arith, rules}
use Rattle.units.proofs.Bits.{no_byte, some_byte}
use Rattle.units.proofs.packed.sample_in_byte.Goals as goal

pub returns-in_err-byte : goal.returns-in_err-byte
returns-in_err-byte c =
    let beyond : length c.args.bytes.now ≤ c.args.index / (8 / c.args.bits) = search rules in
    c.from_residual.ensures ∙ no_byte c.args.bits (8 / c.args.bits) c.args.bytes.now c.args.index c.requires.0 beyond

pub returns : goal.returns
returns c =
    let at = c.args.index / (8 / c.args.bits) in
    let within : at < length c.args.bytes.now = search rules in
    let byte : c.from.result ≡ get_or c.args.bytes.now at 0 = search rules in
    some_byte c.args.bits (8 / c.args.bits) c.args.bytes.now c.args.index 0 c.from.result c.requires.0 (omega arith) within byte
