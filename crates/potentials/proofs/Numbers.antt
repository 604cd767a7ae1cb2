-- Facts and places by their numbers: what has a number is taken apart and put together again.
use Rattle.std.proofs.Common.{◌≡◌, ℕ, zero, suc, ◌+◌, ◌*◌, ◌/◌, ◌%◌, ◌<◌, ◌≤◌, refl, ap, ◌∙◌, arith}
use Rattle.std.proofs.lemmas.Nat.{mul-add-lt, div-mul-add, mod-mul-add, div_below, mod_below, div-add-mod'}
use Rattle.potentials.specs.Differences.{Difference, Within, fact_count, number, difference, reversed, sum, sum_count, first, second}

-- where there is a fact there is a variable
pub some_variable : (v n k : ℕ) → n < k * (v * v) → 0 < v
some_variable zero n k h = omega (arith, h)
some_variable (suc v) n k h = omega arith

pub number_below : (v : ℕ) (d : Difference) → Within v d → number v d < fact_count v
unfolding number
number_below v d w =
    let a : d.strict * v + d.left < v * 2 = mul-add-lt d.strict v d.left 2 w.strict w.left in
    let b : (d.strict * v + d.left) * v + d.right < v * (v * 2) = mul-add-lt (d.strict * v + d.left) v d.right (v * 2) a w.right in
    omega (arith, w.constant)

pub difference_within : (v f : ℕ) → f < fact_count v → Within v (difference v f)
unfolding difference
difference_within v f h =
    let z = some_variable v f 62 h in
    let a : f / 31 < 2 * v * v = omega (arith) in
    let b : f / 31 / v < 2 * v = div_below (f / 31) v (2 * v) z a in
    record {
      strict = div_below (f / 31 / v) v 2 z b;
      left = mod_below (f / 31 / v) v z;
      right = mod_below (f / 31) v z;
      constant = mod_below f 31 (omega arith);
    }

pub number_difference : (v f : ℕ) → number v (difference v f) ≡ f
unfolding number difference
number_difference v f =
    let a = div-add-mod' (f / 31 / v) v in
    let b = div-add-mod' (f / 31) v in
    let e : (f / 31 / v / v * v + f / 31 / v % v) * v + f / 31 % v ≡ f / 31 = ap (λ n. n * v + f / 31 % v) a ∙ b in
    omega (arith, e)

-- a fact is known by its parts
pub same_difference : (d : Difference) (s x y k : ℕ) → s ≡ d.strict → x ≡ d.left → y ≡ d.right → k ≡ d.constant → ◌≡◌ {A = Difference} (record { strict = s; left = x; right = y; constant = k }) d
same_difference d s x y k p q r t = rw (p, q, r, t)

pub difference_number : (v : ℕ) (d : Difference) → Within v d → difference v (number v d) ≡ d
unfolding number difference
difference_number v d w =
    let n : ℕ = (d.strict * v + d.left) * v + d.right in
    let a : (n * 31 + d.constant) / 31 ≡ n = div-mul-add n 31 d.constant w.constant in
    let b : n / v ≡ d.strict * v + d.left = div-mul-add (d.strict * v + d.left) v d.right w.right in
    let e : (n * 31 + d.constant) / 31 / v ≡ d.strict * v + d.left = ap (λ m. m / v) a ∙ b in
    same_difference d _ _ _ _
    (ap (λ m. m / v) e ∙ div-mul-add d.strict v d.left w.left)
    (ap (λ m. m % v) e ∙ mod-mul-add d.strict v d.left w.left)
    (ap (λ m. m % v) a ∙ mod-mul-add (d.strict * v + d.left) v d.right w.right)
    (mod-mul-add n 31 d.constant w.constant)

pub first_within : (v p : ℕ) → p < sum_count v → Within v (first v p)
unfolding first
first_within v p h =
    let z = some_variable v p (3844 * v) (omega arith) in
    let a : p / 961 < 4 * v * v * v = omega arith in
    let b : p / 961 / v < 4 * v * v = div_below (p / 961) v (4 * v * v) z a in
    let c : p / 961 / v / v < 4 * v = div_below (p / 961 / v) v (4 * v) z b in
    let d : p / 961 / v / v / v < 4 = div_below (p / 961 / v / v) v 4 z c in
    record { strict = omega arith; left = mod_below _ v z; right = mod_below _ v z; constant = mod_below _ 31 (omega arith) }

pub second_within : (v p : ℕ) → p < sum_count v → Within v (second v p)
unfolding second
second_within v p h =
    let z = some_variable v p (3844 * v) (omega arith) in
    record { strict = mod_below _ 2 (omega arith); left = mod_below _ v z; right = mod_below _ v z; constant = mod_below _ 31 (omega arith) }

pub sum_within : (v : ℕ) (a b : Difference) → Within v a → Within v b → a.constant + b.constant ≤ 45 → Within v (sum a b)
sum_within v a b m n h = record { strict = omega (arith, m.strict, n.strict); left = m.left; right = n.right; constant = omega arith }

pub reversed_within : (v : ℕ) (d : Difference) → Within v d → Within v (reversed d)
reversed_within v d w = record { strict = omega arith; left = w.right; right = w.left; constant = omega arith }

-- the facts at a place meet in a variable
pub meeting : (v p : ℕ) → (first v p).right ≡ (second v p).left
unfolding first second
meeting v p = refl

-- every two facts that meet have their place
module _ (v : ℕ) (a b : Difference) (m : Within v a) (n : Within v b) (h : a.right ≡ b.left) where
  ends : ℕ
  ends = ((((a.strict * 2 + b.strict) * v + a.left) * v + a.right) * v + b.right)

  pub place : ℕ
  place = ends * 961 + (a.constant * 31 + b.constant)

  place_ends : place / 961 ≡ ends
  unfolding place
  place_ends = div-mul-add ends 961 (a.constant * 31 + b.constant) (omega (arith, m.constant, n.constant))

  place_second : place / 961 / v ≡ ((a.strict * 2 + b.strict) * v + a.left) * v + a.right
  unfolding ends
  place_second = ap (λ i. i / v) place_ends ∙ div-mul-add _ v b.right n.right

  place_first : place / 961 / v / v ≡ (a.strict * 2 + b.strict) * v + a.left
  place_first = ap (λ i. i / v) place_second ∙ div-mul-add _ v a.right m.right

  place_marks : place / 961 / v / v / v ≡ a.strict * 2 + b.strict
  place_marks = ap (λ i. i / v) place_first ∙ div-mul-add _ v a.left m.left

  pub place_below : place < sum_count v
  unfolding place ends
  place_below =
      let i : (a.strict * 2 + b.strict) * v + a.left < v * 4 = mul-add-lt _ v a.left 4 (omega (arith, m.strict, n.strict)) m.left in
      let j : ((a.strict * 2 + b.strict) * v + a.left) * v + a.right < v * (v * 4) = mul-add-lt _ v a.right (v * 4) i m.right in
      let k : (((a.strict * 2 + b.strict) * v + a.left) * v + a.right) * v + b.right < v * (v * (v * 4)) = mul-add-lt _ v b.right (v * (v * 4)) j n.right in
      omega (arith, m.constant, n.constant)

  place_constants : (place / 31 % 31 ≡ a.constant) × (place % 31 ≡ b.constant)
  unfolding place
  place_constants = (omega (arith, m.constant, n.constant), omega (arith, n.constant))

  pub first_at : first v place ≡ a
  unfolding first
  first_at =
      same_difference a _ _ _ _ (omega (arith, place_marks, n.strict)) (ap (λ i. i % v) place_first ∙ mod-mul-add _ v a.left m.left)
      (ap (λ i. i % v) place_second ∙ mod-mul-add _ v a.right m.right) place_constants.0

  pub second_at : second v place ≡ b
  unfolding second ends
  second_at =
      same_difference b _ _ _ _ (omega (arith, place_marks, n.strict)) (ap (λ i. i % v) place_second ∙ mod-mul-add _ v a.right m.right ∙ h)
      (ap (λ i. i % v) place_ends ∙ mod-mul-add _ v b.right n.right) place_constants.1
