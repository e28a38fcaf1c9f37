-- Laws of sums over corners. Assumes nothing.
use Rattle.std.proofs.Common.{◌≡◌, ℕ, suc, ◌+◌, ◌<◌, ◌≤◌, List, [], ◌∷◌, ◌++◌, length, get_or, take, drop, set, pos, Some, None, Ok, Err, Option, Result, sym, refl, ap, ◌∙◌, subst, arith}
use lib.Ieee.{Float, nan, binary32, add, mul}
use Rattle.std.proofs.lemmas.List.{append_assoc, append-nil, drop_more, drop-set-lt, take_more_set, take_all, drop_all}
use Rattle.fault.specs.declared.cause.Fault.{Fault}
use Rattle.numeric.specs.Whole.{nearest_to}
use Rattle.units.specs.Samples.{Table, sample_in}
use Rattle.sampled.specs.declared.type0.Corner.{Corner}
use Rattle.sampled.specs.Sampled.{add_by, add_corner, add_corners, on_sums, no_sample, Summed}

-- sums that stand before others
abbrev pub fronted : List Float → Result (List Float) ℕ → Result (List Float) ℕ
fronted xs (Ok ys) = Ok (xs ++ ys)
fronted xs (Err place) = Err place

fronted_fronted : (xs : List Float) (v : Float) (r : Result (List Float) ℕ) → fronted xs (fronted (v ∷ []) r) ≡ fronted (xs ++ (v ∷ [])) r
fronted_fronted xs v (Ok ys) = ap (λ (zs : List Float). Ok zs) (sym (append_assoc xs (v ∷ []) ys))
fronted_fronted xs v (Err place) = refl

fronted_none : (r : Result (List Float) ℕ) → r ≡ fronted [] r
fronted_none (Ok ys) = refl
fronted_none (Err place) = refl

added : (sample : ℕ) (weight y : Float) (at : ℕ) (r : Result (List Float) ℕ) → add_by (Some sample) weight y at r ≡ fronted (add binary32 y (mul binary32 weight (nearest_to (pos sample))) ∷ []) r
added sample weight y at (Ok ys) = refl
added sample weight y at (Err place) = refl

missing : (weight y : Float) (at : ℕ) (r : Result (List Float) ℕ) → add_by None weight y at r ≡ Err at
missing weight y at (Ok ys) = refl
missing weight y at (Err place) = refl

-- a loop over the sums that has come to i: those so far are done, and what is left gives the rest
module _ (tables : List Table) (table : ℕ) (weight : Float) (at : ℕ) where
  abbrev pub AddedTo : List Float → List Float → ℕ → Type 0
  AddedTo old new i = add_corner tables table weight at old ≡ fronted (take i new) (add_corner tables table weight (at + i) (drop i new))

  pub added_none : (old : List Float) → AddedTo old old 0
  added_none old =
      let here : at ≡ at + 0 = omega arith in
      fronted_none (add_corner tables table weight at old) ∙ ap (λ (n : ℕ). fronted [] (add_corner tables table weight n old)) here

  added_here : (old new : List Float) (i : ℕ) → i < length new → AddedTo old new i
      → add_corner tables table weight at old ≡ fronted (take i new) (add_by (sample_in tables table (at + i)) weight (get_or new i nan) (at + i) (add_corner tables table weight (at + i + 1) (drop (i + 1) new)))
  added_here old new i h inv = inv ∙ ap (λ (ys : List Float). fronted (take i new) (add_corner tables table weight (at + i) ys)) (drop_more new i nan h)

  pub added_more : (old new : List Float) (i sample : ℕ) (n : Float) → i < length new → Some sample ≡ sample_in tables table (at + i) → n ≡ nearest_to (pos sample) → AddedTo old new i
      → AddedTo old (set new i (add binary32 (get_or new i nan) (mul binary32 weight n))) (i + 1)
  added_more old new i sample n h e pn inv =
      let rest = add_corner tables table weight (at + i + 1) (drop (i + 1) new) in
      let y = get_or new i nan in
      let v = add binary32 y (mul binary32 weight n) in
      let next : at + i + 1 ≡ at + (i + 1) = omega arith in
      added_here old new i h inv
      ∙ ap (λ (o : Option ℕ). fronted (take i new) (add_by o weight y (at + i) rest)) (sym e)
      ∙ ap (λ (r : Result (List Float) ℕ). fronted (take i new) r) (added sample weight y (at + i) rest)
      ∙ fronted_fronted (take i new) (add binary32 y (mul binary32 weight (nearest_to (pos sample)))) rest
      ∙ ap (λ (z : Float). fronted (take i new ++ (add binary32 y (mul binary32 weight z) ∷ [])) rest) (sym pn)
      ∙ ap (λ (zs : List Float). fronted zs rest) (sym (take_more_set new i v h))
      ∙ ap (λ (zs : List Float). fronted (take (i + 1) (set new i v)) (add_corner tables table weight (at + i + 1) zs)) (sym (drop-set-lt (i + 1) new i v (omega arith)))
      ∙ ap (λ (k : ℕ). fronted (take (i + 1) (set new i v)) (add_corner tables table weight k (drop (i + 1) (set new i v)))) next

  pub added_fails : (old new : List Float) (i : ℕ) → i < length new → None ≡ sample_in tables table (at + i) → AddedTo old new i → add_corner tables table weight at old ≡ Err (at + i)
  added_fails old new i h e inv =
      let rest = add_corner tables table weight (at + i + 1) (drop (i + 1) new) in
      added_here old new i h inv
      ∙ ap (λ (o : Option ℕ). fronted (take i new) (add_by o weight (get_or new i nan) (at + i) rest)) (sym e)
      ∙ ap (λ (r : Result (List Float) ℕ). fronted (take i new) r) (missing weight (get_or new i nan) (at + i) rest)

  pub added_all : (old new : List Float) (i : ℕ) → length new ≤ i → AddedTo old new i → add_corner tables table weight at old ≡ Ok new
  added_all old new i h inv =
      inv
      ∙ ap (λ (ys : List Float). fronted (take i new) (add_corner tables table weight (at + i) ys)) (drop_all i new h)
      ∙ ap (λ (ys : List Float). Ok ys) (append-nil (take i new) ∙ take_all i new h)

-- a refusal is told by its fault, and passed on as it is
pub summed_err : (index place : ℕ) (sums : Result (List Float) ℕ) (new : List Float) (e : Fault) (r : Result (Unit {0}) Fault) → r ≡ Err e → e ≡ no_sample index place → sums ≡ Err place → Summed index sums new r
summed_err index place sums new e r was is at = subst (Summed index sums new) (sym was) (subst (λ (f : Fault). (sums ≡ Err f.place) × (f ≡ no_sample index f.place)) (sym is) (at, refl))

-- ---- lengths

add_by_length : (o : Option ℕ) (weight y : Float) (at : ℕ) (r : Result (List Float) ℕ) (n : ℕ) (ys : List Float) → ((zs : List Float) → r ≡ Ok zs → length zs ≡ n) → add_by o weight y at r ≡ Ok ys → length ys ≡ suc n
add_by_length None weight y at (Ok zs) n ys f e = cc
add_by_length None weight y at (Err place) n ys f e = cc
add_by_length (Some sample) weight y at (Ok zs) n ys f e =
    let v = add binary32 y (mul binary32 weight (nearest_to (pos sample))) in
    let same : v ∷ zs ≡ ys = cc in
    sym (ap length same) ∙ ap suc (f zs refl)
add_by_length (Some sample) weight y at (Err place) n ys f e = cc

pub add_corner_length : (tables : List Table) (table : ℕ) (weight : Float) (at : ℕ) (ys zs : List Float) → add_corner tables table weight at ys ≡ Ok zs → length zs ≡ length ys
add_corner_length tables table weight at [] zs e = let same : [] ≡ zs = cc in sym (ap length same)
add_corner_length tables table weight at (y ∷ ys) zs e =
    add_by_length (sample_in tables table at) weight y at (add_corner tables table weight (at + 1) ys) (length ys) zs (λ us h. add_corner_length tables table weight (at + 1) ys us h) e

-- the sums stay as many
pub add_corners_length : (tables : List Table) (table : ℕ) (cs : List Corner) (ys zs : List Float) → add_corners tables table cs ys ≡ Ok zs → length zs ≡ length ys
add_corners_length tables table [] ys zs e = let same : ys ≡ zs = cc in sym (ap length same)
add_corners_length tables table (c ∷ cs) ys zs e = go (add_corner tables table c.weight c.offset ys) refl (λ us h. add_corners_length tables table cs us zs h)
  where
    go : (r : Result (List Float) ℕ) → add_corner tables table c.weight c.offset ys ≡ r → ((us : List Float) → add_corners tables table cs us ≡ Ok zs → length zs ≡ length us) → length zs ≡ length ys
    go (Ok us) h f =
        f us (sym (ap (on_sums (add_corners tables table cs)) h) ∙ e) ∙ add_corner_length tables table c.weight c.offset ys us h
    go (Err place) h f = let no : Err place ≡ Ok zs = sym (ap (on_sums (add_corners tables table cs)) h) ∙ e in cc
