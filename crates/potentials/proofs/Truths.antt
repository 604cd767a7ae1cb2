-- What it says that a model makes a fact true, and how that goes with sums and opposites.
use Rattle.std.proofs.Common.{◌≡◌, ℕ, ◌+◌, ◌<◌, ◌≤◌, true, not, ◌&&◌, eqb, ltb, List, get_or, ℤ, pos, negsuc, ◌+ℤ◌, ◌-ℤ◌, ◌*ℤ◌, neg_ℤ, ◌≤ℤ◌, ◌<ℤ◌, Decides, sym, refl, ap, ◌∙◌, ⊎_elim, arith}
use lib.Signed.{le_z, lt_z}
use Rattle.std.proofs.lemmas.Int.{ints, by_lt_z}
use Rattle.std.proofs.lemmas.Bool.{cases_lt, lt-ltb, eqb-true, eq-eqb, ne_eqb, ltb-true, cond-true, cond-false, and_parts}
use Rattle.std.proofs.lemmas.Bool.Decides.{same_from_decides, Decides-not, Decides-like}
use Rattle.potentials.specs.Differences.{Difference, Within, fact_count, number, difference, reversed, sum, impossible, value, constant_of, gap, meets, is_model, makes_true}
use Rattle.potentials.proofs.Numbers.{number_below, difference_number}
use Rattle.potentials.proofs.Times.{times, times_sum, times_low, times_high, times_is, times_opposite}

-- a test of order says what it tests
pub decides_leZ : (a b : ℤ) → Decides (le_z a b) (a ≤ℤ b)
decides_leZ a b = (λ e. grind (arith, ints), λ h. grind (arith, ints))

decides_ltZ : (a b : ℤ) → Decides (lt_z a b) (a <ℤ b)
decides_ltZ a b = (λ e. grind (arith, ints), λ h. grind (arith, ints))

-- the left value, one more where the fact is strict, is at most the right value and the gap
abbrev pub Met : List ℤ → Difference → Type 0
Met m d = (value m d.left +ℤ pos d.strict) ≤ℤ (value m d.right +ℤ gap m d)

pub decides_meets : (m : List ℤ) (d : Difference) → d.strict < 2 → Decides (meets m d) (Met m d)
unfolding meets
decides_meets m d h =
    let b : ℤ = value m d.right +ℤ gap m d in
    ⊎_elim
    (λ l. let e : meets m d ≡ le_z (value m d.left) b = cond-true (eqb d.strict 0) _ _ (eq-eqb d.strict 0 (omega arith)) in
    (λ t. omega (arith, ints, (decides_leZ (value m d.left) b).0 (sym e ∙ t)), λ t. e ∙ (decides_leZ (value m d.left) b).1 (omega (arith, ints))))
    (λ g. let e : meets m d ≡ lt_z (value m d.left) b = cond-false (eqb d.strict 0) _ _ (ne_eqb d.strict 0 (λ z. omega arith)) in
    (λ t. omega (arith, ints, (decides_ltZ (value m d.left) b).0 (sym e ∙ t)), λ t. e ∙ (decides_ltZ (value m d.left) b).1 (omega (arith, ints))))
    (cases_lt d.strict 1)

-- a model has a scale of at least 1
positive : (q : ℤ) → pos 1 ≤ℤ q → (n : ℕ) × (q ≡ pos n) × (1 ≤ n)
positive (pos n) h = (n, refl, omega (arith, ints))
positive (negsuc n) h = absurd (omega (arith, ints))

pub scale : (v : ℕ) (m : List ℤ) → is_model v m ≡ true → (n : ℕ) × (get_or m 0 (pos 0) ≡ pos n) × (1 ≤ n)
unfolding is_model
scale v m h = positive (get_or m 0 (pos 0)) ((decides_leZ (pos 1) (get_or m 0 (pos 0))).0 (and_parts _ _ h).1)

module _ (m : List ℤ) (n : ℕ) (s : get_or m 0 (pos 0) ≡ pos n) where
  gap_is : (d : Difference) → gap m d ≡ times n (constant_of d)
  gap_is d = ap (λ q. constant_of d *ℤ q) s ∙ sym (times_is n (constant_of d))

  -- the constant of a sum is the sum of the constants or, where −15 stands for that, more
  gap_sum : (a b : Difference) → (gap m a +ℤ gap m b) ≤ℤ gap m (sum a b)
  gap_sum a b =
      let both : ℤ = constant_of a +ℤ constant_of b in
      let more : ℤ = constant_of (sum a b) -ℤ both in
      let whole : constant_of (sum a b) ≡ both +ℤ more = omega (arith, ints) in
      omega (arith, ints, gap_is a, gap_is b, gap_is (sum a b) ∙ ap (times n) whole, times_sum n (constant_of a) (constant_of b), times_sum n both more, times_low n more (omega (arith, ints)))

  gap_reversed : (d : Difference) → d.constant < 31 → gap m (reversed d) ≡ neg_ℤ (gap m d)
  gap_reversed d h = omega (arith, ints, gap_is d, gap_is (reversed d), times_opposite n (constant_of (reversed d)) (constant_of d) (omega (arith, ints)))

  pub met_sum : (a b : Difference) → a.right ≡ b.left → Met m a → Met m b → Met m (sum a b)
  met_sum a b h p q = omega (arith, ints, gap_sum a b, ap (value m) h)

  unmet_reversed : (d : Difference) → d.strict < 2 → d.constant < 31 → (Met m d → ⊥) → Met m (reversed d)
  unmet_reversed d h k unmet =
      by_lt_z (value m d.right +ℤ gap m d) (value m d.left +ℤ pos d.strict) (λ l. omega (arith, ints, gap_reversed d k)) (λ g. absurd (unmet g))

  pub meets_reversed : (d : Difference) → d.strict < 2 → d.constant < 31 → meets m (reversed d) ≡ not (meets m d)
  meets_reversed d h k =
      same_from_decides (meets m (reversed d)) (not (meets m d)) (decides_meets m (reversed d) (omega arith))
      (Decides-like (not (meets m d)) (unmet_reversed d h k) (λ p q. omega (arith, ints, gap_reversed d k)) (Decides-not (meets m d) (decides_meets m d h)))

  pub impossible_unmet : (d : Difference) → 1 ≤ n → d.strict < 2 → impossible d ≡ true → Met m d → ⊥
  unfolding impossible
  impossible_unmet d o h i p =
      let loop = and_parts (eqb d.left d.right) (ltb d.constant (15 + d.strict)) i in
      let same : value m d.left ≡ value m d.right = ap (value m) (eqb-true d.left d.right loop.0) in
      let low : d.constant < 15 + d.strict = ltb-true d.constant (15 + d.strict) loop.1 in
      let back : ℤ = neg_ℤ (constant_of d) in
      let none : times n back +ℤ times n (constant_of d) ≡ pos 0 = times_opposite n back (constant_of d) (omega (arith, ints)) in
      ⊎_elim
      (λ l. omega (arith, ints, gap_is d, times_high n back (omega (arith, ints))))
      (λ g. omega (arith, ints, gap_is d, times_low n back (omega (arith, ints)))) (cases_lt d.constant 15)

-- truth of a number is truth of the fact that it stands for
pub truth_is : (v : ℕ) (m : List ℤ) (f : ℕ) → f < fact_count v → makes_true v m f ≡ meets m (difference v f)
unfolding makes_true
truth_is v m f h = ap (λ t. t && meets m (difference v f)) (lt-ltb f (fact_count v) h)

pub truth_of : (v : ℕ) (m : List ℤ) (d : Difference) → Within v d → makes_true v m (number v d) ≡ meets m d
truth_of v m d w = truth_is v m (number v d) (number_below v d w) ∙ ap (meets m) (difference_number v d w)
