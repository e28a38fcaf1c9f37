-- Numbers two by two. Assumes nothing.
use Rattle.std.proofs.Common.{◌≡◌, ℕ, zero, suc, ◌+◌, ◌*◌, ◌≤◌, List, [], ◌∷◌, length, refl, ap, map, Float, arith}
use Rattle.std.specs.Simd.{first_chunks}
use Rattle.command.specs.Fields.{paired, pair_of}

-- one that is left over is left out
pub paired_chunks : (xs : List Float) (n : ℕ) → 2 * n ≤ length xs → length xs ≤ 2 * n + 1 → map pair_of (first_chunks 2 n xs) ≡ paired xs
paired_chunks [] zero h k = refl
paired_chunks [] (suc n) h k = absurd (omega arith)
paired_chunks (x ∷ []) zero h k = refl
paired_chunks (x ∷ []) (suc n) h k = absurd (omega arith)
paired_chunks (x ∷ y ∷ xs) zero h k = absurd (omega arith)
paired_chunks (x ∷ y ∷ xs) (suc n) h k = ap (λ ps. (x, y) ∷ ps) (paired_chunks xs n (omega arith) (omega arith))
