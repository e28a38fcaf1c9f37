-- The grid of a sampled function, dimension by dimension. Assumes nothing.
use Rattle.std.specs.Prelude.{◌≡◌, ℕ, List, map, length, Float}
use Rattle.numeric.specs.Interval.{Interval, clamp}
use Rattle.numeric.specs.Lists.{pairs_of}
use Rattle.sampled.specs.declared.dimension.Dimension.{Dimension}
use Rattle.sampled.specs.declared.type0.Type0.{Type0}
use Rattle.sampled.specs.Sampled.{key, sizes_in}

abbrev pub domains_of : List Dimension → List Interval
domains_of ds = map (λ d. d.domain) ds

abbrev pub encodes_of : List Dimension → List Interval
encodes_of ds = map (λ d. d.encode) ds

abbrev pub sizes_of : List Dimension → List ℕ
sizes_of ds = map (λ d. d.size) ds

-- where an input, clamped to its Domain pair, lies on the grid
abbrev pub place_of : Dimension → Float → Float
place_of d x = key (clamp d.domain x) d.domain d.encode d.size

-- the parts of a loaded function, as the dimensions and the outputs of a grid
pub record GridOf (t : Type0) (ds : List Dimension) (n : ℕ) : Type 0 where
  pub domain : domains_of ds ≡ pairs_of t.domain.now
  pub encode : encodes_of ds ≡ pairs_of t.encode.now
  pub sizes : sizes_of ds ≡ sizes_in t.sizes.now
  pub outputs : n ≡ length (pairs_of t.decode.now)
