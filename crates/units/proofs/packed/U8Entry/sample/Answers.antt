use Rattle.std.proofs.Common.{◌≡◌, ℕ, ◌<◌, length, get_or, rules}
use Rattle.units.proofs.Bits.{of_two, of_three, of_four}
use Rattle.units.proofs.packed.U8Entry.sample.Goals as goal

pub returns-in_ok-spelt-in-Sixteen : goal.returns-in_ok-spelt-in-Sixteen
returns-in_ok-spelt-in-Sixteen c =
    let spelt = c.in_ok-spelt-in-Sixteen.spelt in
    let long : length spelt ≡ 2 = search rules in
    let bytes : (i : ℕ) → get_or spelt i 0 < 256 = λ i. search rules in
    let number = of_two spelt long bytes in
    search (rules, number)

pub returns-in_ok-high-in-TwentyFour : goal.returns-in_ok-high-in-TwentyFour
returns-in_ok-high-in-TwentyFour c =
    let spelt = c.in_ok-high-in-TwentyFour.field-0 in
    let long : length spelt ≡ 3 = search rules in
    let bytes : (i : ℕ) → get_or spelt i 0 < 256 = λ i. search rules in
    let number = of_three spelt long bytes in
    search (rules, number)

pub returns-in_ok-spelt-in-ThirtyTwo : goal.returns-in_ok-spelt-in-ThirtyTwo
returns-in_ok-spelt-in-ThirtyTwo c =
    let spelt = c.in_ok-spelt-in-ThirtyTwo.spelt in
    let long : length spelt ≡ 4 = search rules in
    let bytes : (i : ℕ) → get_or spelt i 0 < 256 = λ i. search rules in
    let number = of_four spelt long bytes in
    search (rules, number)
