-- Clamping a list to a list of pairs. Assumes nothing.
use Rattle.std.proofs.Common.{◌≡◌, ℕ, zero, suc, ◌+◌, ◌<◌, ◌≤◌, min, true, List, [], ◌∷◌, Option, None, Some, ◌++◌, length, get_or, take, drop, set, sym, refl, ap, ◌∙◌, subst, arith}
use lib.Ieee.{Float, nan}
use Rattle.std.proofs.lemmas.List.{append_assoc, take-append-drop, take_more_set, drop-set-lt, drop_more, drop_all}
use Rattle.std.specs.List.{slice_get}
use Rattle.numeric.specs.Interval.{Interval, ordered, clamp, within, clamp_all}
use Rattle.numeric.specs.Lists.{every}
use Rattle.numeric.proofs.Every.{every_at}
use Rattle.numeric.proofs.Inside.{clamp_within}

pub length_clamp_all : (ps : List Interval) (vs : List Float) → length (clamp_all ps vs) ≡ length vs
length_clamp_all [] vs = refl
length_clamp_all (p ∷ ps) [] = refl
length_clamp_all (p ∷ ps) (v ∷ vs) = ap suc (length_clamp_all ps vs)

pub get_or_clamp_all : (ps : List Interval) (vs : List Float) (i : ℕ) (p : Interval) (v : Float) → i < length ps → i < length vs → get_or (clamp_all ps vs) i v ≡ clamp (get_or ps i p) (get_or vs i v)
get_or_clamp_all [] vs i p v h k = absurd (omega arith)
get_or_clamp_all (q ∷ ps) [] i p v h k = absurd (omega arith)
get_or_clamp_all (q ∷ ps) (u ∷ vs) zero p v h k = refl
get_or_clamp_all (q ∷ ps) (u ∷ vs) (suc i) p v h k = get_or_clamp_all ps vs i p v (omega arith) (omega arith)

pub clamp_all_within : (ps : List Interval) (vs : List Float) → every ordered ps ≡ true → (i : ℕ) (p : Interval) (v : Float) → i < length ps → i < length vs → within (get_or ps i p) (get_or (clamp_all ps vs) i v) ≡ true
clamp_all_within ps vs o i p v h k =
    subst (λ (x : Float). within (get_or ps i p) x ≡ true) (sym (get_or_clamp_all ps vs i p v h k))
    (clamp_within (get_or ps i p).0 (get_or ps i p).1 (get_or vs i v) (every_at ordered ps i p o h))

-- an output by the pair that it may have
abbrev pub clamp_by : Option Interval → Float → Float
clamp_by None v = v
clamp_by (Some p) v = clamp p v

clamp_all_at : (ps : List Interval) (i : ℕ) (v : Float) (vs : List Float) → clamp_all (drop i ps) (v ∷ vs) ≡ clamp_by (slice_get ps i) v ∷ clamp_all (drop (suc i) ps) vs
clamp_all_at [] zero v vs = refl
clamp_all_at [] (suc i) v vs = refl
clamp_all_at (p ∷ ps) zero v vs = refl
clamp_all_at (p ∷ ps) (suc i) v vs = clamp_all_at ps i v vs

-- a loop that clamps `outputs` by the pairs has come to i: those so far are clamped, and what is left gives the rest
abbrev pub ClampedTo : List Interval → List Float → List Float → ℕ → Type 0
ClampedTo ps outputs new i = clamp_all ps outputs ≡ take i new ++ clamp_all (drop i ps) (drop i new)

pub clamped_more : (ps : List Interval) (outputs new after : List Float) (i : ℕ) → i < length new → after ≡ set new i (clamp_by (slice_get ps i) (get_or new i nan)) → ClampedTo ps outputs new i → ClampedTo ps outputs after (i + 1)
clamped_more ps outputs new after i h e inv =
    let v = get_or new i nan in
    let r = clamp_by (slice_get ps i) v in
    let qs = drop (i + 1) ps in
    let next : suc i ≡ i + 1 = omega arith in
    inv
    ∙ ap (λ (vs : List Float). take i new ++ clamp_all (drop i ps) vs) (drop_more new i nan h)
    ∙ ap (λ (vs : List Float). take i new ++ vs) (clamp_all_at ps i v (drop (i + 1) new))
    ∙ ap (λ (n : ℕ). take i new ++ (r ∷ clamp_all (drop n ps) (drop (i + 1) new))) next
    ∙ sym (append_assoc (take i new) (r ∷ []) (clamp_all qs (drop (i + 1) new)))
    ∙ ap (λ (vs : List Float). vs ++ clamp_all qs (drop (i + 1) new)) (sym (take_more_set new i r h))
    ∙ ap (λ (vs : List Float). take (i + 1) (set new i r) ++ clamp_all qs vs) (sym (drop-set-lt (i + 1) new i r (omega arith)))
    ∙ ap (λ (vs : List Float). take (i + 1) vs ++ clamp_all qs (drop (i + 1) vs)) (sym e)

clamp_all_none : (ps : List Interval) → clamp_all ps [] ≡ []
clamp_all_none [] = refl
clamp_all_none (p ∷ ps) = refl

pub clamped_all : (ps : List Interval) (outputs new : List Float) (i : ℕ) → length new ≤ i → ClampedTo ps outputs new i → new ≡ clamp_all ps outputs
clamped_all ps outputs new i h inv =
    let none = drop_all i new h in
    sym (inv ∙ ap (λ (vs : List Float). take i new ++ vs) (ap (clamp_all (drop i ps)) none ∙ clamp_all_none (drop i ps) ∙ sym none) ∙ take-append-drop i new)

-- behind the last pair nothing changes
pub clamped_front : (ps : List Interval) (vs : List Float) (n : ℕ) → min (length ps) (length vs) ≤ n → clamp_all ps (take n vs) ++ drop n vs ≡ clamp_all ps vs
clamped_front [] vs n h = take-append-drop n vs
clamped_front (p ∷ ps) [] zero h = refl
clamped_front (p ∷ ps) [] (suc n) h = refl
clamped_front (p ∷ ps) (v ∷ vs) zero h = absurd (omega arith)
clamped_front (p ∷ ps) (v ∷ vs) (suc n) h = ap (λ (xs : List Float). clamp p v ∷ xs) (clamped_front ps vs n (omega arith))
