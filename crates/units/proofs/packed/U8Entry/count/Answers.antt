use Rattle.std.proofs.Common.{length, rules}
use Rattle.units.specs.Samples.{bits_of}
use Rattle.units.proofs.Bits.{length_samples, count_split, some_bits}
use Rattle.units.proofs.packed.U8Entry.count.Goals as goal

pub returns : goal.returns
returns c =
    let n = length c.args.bytes.now in
    let w = bits_of c.args.width in
    let split = count_split n w (some_bits c.args.width).0 in
    let many = length_samples w c.args.bytes.now in
    search (rules, split, many)
