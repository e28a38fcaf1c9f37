use Rattle.std.proofs.Common.{◌≡◌, ◌/◌, ◌<◌, ◌≤◌, length, get_or, ap, ◌∙◌, arith, rules}
use Rattle.std.specs.Simd.{first_chunks}
use Rattle.units.specs.Packed.{bits_in, number_of}
use Rattle.units.proofs.Bits.{chunk_at, some_bytes, no_bytes}
use Rattle.units.proofs.packed.bytes_at.Goals as goal

pub returns-in_err-chunk : goal.returns-in_err-chunk
returns-in_err-chunk g c =
    let many : length c.as_chunks.result.0.now ≡ length c.args.bytes.now / g.row.N = c.as_chunks.ensures.front_len in
    let past : length c.as_chunks.result.0.now ≤ c.args.index = search rules in
    let none = no_bytes g.row.N c.args.bytes.now c.args.index (omega (arith, many, past)) in
    search (rules, none)

pub returns : goal.returns
returns g c =
    let n = g.row.N in
    let bs = c.args.bytes.now in
    let i = c.args.index in
    let chunk = c.in_ok-chunk.chunk.now in
    let many : length c.as_chunks.result.0.now ≡ length bs / n = c.as_chunks.ensures.front_len in
    let front : c.as_chunks.result.0.now ≡ first_chunks n (length bs / n) bs = c.as_chunks.ensures.front in
    let within : i < length c.as_chunks.result.0.now = search rules in
    let found : chunk ≡ get_or c.as_chunks.result.0.now i chunk = search rules in
    let here : i < length bs / n = omega (arith, many, within) in
    some_bytes n bs i _ here (ap (λ l. number_of (bits_in l)) (found ∙ ap (λ cs. get_or cs i chunk) front ∙ chunk_at n (length bs / n) i bs chunk here))
