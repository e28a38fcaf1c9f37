-- Laws of evaluating: the answer, from the grid and the sums. Assumes nothing.
use Rattle.std.proofs.Common.{◌≡◌, ℕ, ◌+◌, true, List, ◌++◌, length, take, replicate, Ok, Result, sym, ap, ◌∙◌, arith}
use lib.Ieee.{Float}
use Rattle.std.specs.List.{refill}
use Rattle.std.proofs.lemmas.List.{append-nil, drop_all, length-replicate, take_all}
use Rattle.std.proofs.lemmas.Bool.{cond-true}
use Rattle.fault.specs.declared.cause.Fault.{Fault}
use Rattle.numeric.specs.Interval.{Interval, clamp_all}
use Rattle.numeric.specs.Lists.{pairs_of}
use Rattle.numeric.proofs.Ranges.{length_clamp_all}
use Rattle.units.specs.Samples.{Table, width_in}
use Rattle.function.specs.Answer.{Answer, reply_of}
use Rattle.function.specs.Outputs.{over}
use Rattle.function.proofs.Clamping.{over_clamped}
use Rattle.sampled.specs.declared.dimension.Dimension.{Dimension}
use Rattle.sampled.specs.declared.type0.Corner.{Corner}
use Rattle.sampled.specs.declared.type0.Type0.{Type0}
use Rattle.sampled.specs.Grid.{domains_of, encodes_of, sizes_of, GridOf}
use Rattle.sampled.specs.Sampled as sampled
use Rattle.sampled.specs.Sampled.{evaluable_by, corners_at, add_corners, top_of, decoded, sampled_by, ranged, loaded_answer, outputs_after}
use Rattle.sampled.proofs.Adding.{add_corners_length}
use Rattle.sampled.proofs.Decoding.{decoded_length}

-- what was written in place of all elements of a list
pub refilled : (xs ws : List Float) → length ws ≡ length xs → refill (length xs) xs ws ≡ ws
refilled xs ws e =
    ap (λ (zs : List Float). take (length xs) (ws ++ zs)) (drop_all (length ws) xs (omega arith))
    ∙ ap (take (length xs)) (append-nil ws)
    ∙ take_all (length xs) ws (omega arith)

module _ (tables : List Table) (index : ℕ) (t : Type0) (xs : List Float) (ds : List Dimension) (n : ℕ) (h : evaluable_by t (length xs) ≡ true) (p : GridOf t ds n) where
  abbrev top : Float
  top = top_of (width_in tables t.table)

  abbrev around : List Interval → List ℕ → List Interval → ℕ → List Corner
  around domain counts encode outputs = corners_at domain counts encode outputs (clamp_all domain xs)

  abbrev told : ℕ → Result (List Float) ℕ → Result Answer Fault
  told visited sums = ranged (pairs_of t.range.now) (sampled_by index (top_of (width_in tables t.table)) (pairs_of t.decode.now) visited sums)

  abbrev made : List Corner → ℕ → Result Answer Fault
  made cs outputs = told (length cs) (add_corners tables t.table cs (replicate outputs sampled.zero))

  pub answer_is : (cs : List Corner) → cs ≡ corners_at (domains_of ds) (sizes_of ds) (encodes_of ds) n (clamp_all (domains_of ds) xs)
      → loaded_answer tables index t xs ≡ ranged (pairs_of t.range.now) (sampled_by index (top_of (width_in tables t.table)) (pairs_of t.decode.now) (length cs) (add_corners tables t.table cs (replicate n sampled.zero)))
  answer_is cs e =
      cond-true (evaluable_by t (length xs)) _ _ h
      ∙ sym (
      ap (λ (z : List Corner). made z n) e
      ∙ ap (λ (z : List Interval). made (around z (sizes_of ds) (encodes_of ds) n) n) p.domain
      ∙ ap (λ (z : List ℕ). made (around (pairs_of t.domain.now) z (encodes_of ds) n) n) p.sizes
      ∙ ap (λ (z : List Interval). made (around (pairs_of t.domain.now) (sampled.sizes_in t.sizes.now) z n) n) p.encode
      ∙ ap (λ (z : ℕ). made (around (pairs_of t.domain.now) (sampled.sizes_in t.sizes.now) (pairs_of t.encode.now) z) z) p.outputs)

  -- `mid` is the output list with the decoded sums, `after` the same with those clamped
  pub summed : (cs : List Corner) (ys mid after old : List Float) (u : Float) → cs ≡ corners_at (domains_of ds) (sizes_of ds) (encodes_of ds) n (clamp_all (domains_of ds) xs)
      → add_corners tables t.table cs (replicate n sampled.zero) ≡ Ok ys
      → u ≡ top_of (width_in tables t.table)
      → mid ≡ over (decoded u (pairs_of t.decode.now) ys) old
      → after ≡ over (clamp_all (pairs_of t.range.now) (take (length ys) mid)) mid
      → (Ok (record { outputs = length ys; steps = 1 + length cs; drops = 0 }) ≡ reply_of (loaded_answer tables index t xs)) × (after ≡ outputs_after (loaded_answer tables index t xs) old)
  summed cs ys mid after old u v e w m a =
      let range = pairs_of t.range.now in
      let decode = pairs_of t.decode.now in
      let new = decoded top decode ys in
      let all : loaded_answer tables index t xs ≡ told (length cs) (Ok ys) = answer_is cs v ∙ ap (told (length cs)) e in
      let ys-long : length ys ≡ length decode = add_corners_length tables t.table cs (replicate n sampled.zero) ys e ∙ length-replicate n sampled.zero ∙ p.outputs in
      let new-long : length ys ≡ length new = ys-long ∙ sym (decoded_length top decode ys ys-long) in
      let long : length ys ≡ length (clamp_all range new) = new-long ∙ sym (length_clamp_all range new) in
      let mid-is : mid ≡ over new old = m ∙ ap (λ (z : Float). over (decoded z decode ys) old) w in (
        ap (λ (n : ℕ). Ok (record { outputs = n; steps = 1 + length cs; drops = 0 })) long ∙ sym (ap reply_of all),
        a
            ∙ ap (λ (n : ℕ). over (clamp_all range (take n mid)) mid) new-long
            ∙ ap (λ (zs : List Float). over (clamp_all range (take (length new) zs)) zs) mid-is
            ∙ over_clamped range new old
            ∙ sym (ap (λ (r : Result Answer Fault). outputs_after r old) all),
      )
