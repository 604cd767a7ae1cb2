-- Every closed and clear set of facts has a model: the facts that have their numbers in it are closed and clear in the sense of Sets.
use Rattle.std.proofs.Common.{◌≡◌, ℕ, ◌+◌, ◌-◌, ◌<◌, ◌≤◌, max, Bool, true, false, ◌||◌, List, length, get_or, ℤ, pos, negsuc, ◌+ℤ◌, neg_ℤ, nat_abs, ◌≤ℤ◌, sym, refl, ap, ◌∙◌, ⊎_elim, arith}
use Rattle.std.specs.Int.{int_max}
use Rattle.std.proofs.lemmas.Int.{ints, clamps, by_lt_z}
use Rattle.std.proofs.lemmas.Bool.{cases_lt, and_from, eq-eqb, lt-ltb, both_ways}
use Rattle.theory.specs.Theory.{Facts, Closed, Clear}
use Rattle.potentials.specs.Differences.{Difference, Within, held, fact_count, number, difference, sum, sum_count, impossible, constant_of, is_model, makes_true, differences}
use Rattle.potentials.proofs.Sets.{Test, Holds, Models, Closed as Closed-set, Clear as Clear-set}
use Rattle.potentials.proofs.Numbers.{same_difference, difference_within, number_difference, place}
use Rattle.potentials.proofs.Rules.{sum_has_place, loop_has_place}
use Rattle.potentials.proofs.Truths.{decides_leZ, decides_meets, truth_is}
use Rattle.potentials.proofs.Values.{closed_and_clear_has_a_model}

-- a held constant is 15 more than the constant
natural : (z : ℤ) → pos 0 ≤ℤ z → pos (nat_abs z) ≡ z
natural (pos n) h = refl
natural (negsuc n) h = absurd (omega (arith, ints))

held_is : (c : ℤ) → neg_ℤ (pos 15) ≤ℤ c → pos (held c) ≡ c +ℤ pos 15
held_is c h = natural (c +ℤ pos 15) (omega (arith, ints))

-- strictness as facts hold it
mark : Bool → ℕ
mark true = 1
mark false = 0

mark_or : (s u : Bool) → max (mark s) (mark u) ≡ mark (s || u)
unfolding mark
mark_or true true = refl
mark_or true false = refl
mark_or false true = refl
mark_or false false = refl

mark_below : (s : Bool) → mark s < 2
unfolding mark
mark_below true = omega arith
mark_below false = omega arith

-- the fact with these parts
abbrev fact : Bool → ℕ → ℕ → ℤ → Difference
fact s x y c = record { strict = mark s; left = x; right = y; constant = held c }

module _ (v : ℕ) (t : Facts) where
  -- the set of the facts that have their number in the set
  numbered : Test
  numbered s x y c = t (number v (fact s x y c))

  fact_within : (s : Bool) (x y : ℕ) (c : ℤ) → Holds v numbered s x y c → Within v (fact s x y c)
  fact_within s x y c h = record { strict = mark_below s; left = h.left; right = h.right; constant = omega (arith, ints, held_is c h.low) }

  fact_sum : (s u : Bool) (x y z : ℕ) (c d : ℤ) → neg_ℤ (pos 15) ≤ℤ c → neg_ℤ (pos 15) ≤ℤ d → sum (fact s x z c) (fact u z y d) ≡ fact (s || u) x y (int_max (c +ℤ d) (neg_ℤ (pos 15)))
  fact_sum s u x y z c d p q =
      let w : held c + held d - 15 ≡ held (int_max (c +ℤ d) (neg_ℤ (pos 15))) = omega (arith, ints, clamps, held_is c p, held_is d q, held_is (int_max (c +ℤ d) (neg_ℤ (pos 15))) (omega (arith, ints, clamps))) in
      rw (mark_or s u, w)

  closed_set : Closed (differences v) t → Closed-set v numbered
  unfolding numbered
  closed_set closed s u x y z c d h k top =
      let i = fact_within s x z c h in
      let j = fact_within u z y d k in
      let few : held c + held d ≤ 45 = omega (arith, ints, held_is c h.low, held_is d k.low) in
      ap (λ e. t (number v e)) (sym (fact_sum s u x y z c d h.low k.low))
      ∙ closed (place v (fact s x z c) (fact u z y d) i j refl) _ (number v (sum (fact s x z c) (fact u z y d))) (sum_has_place v (fact s x z c) (fact u z y d) i j refl few) refl (and_from _ _ h.has k.has)

  no_loop_below : Clear (differences v) t → (s : Bool) (x : ℕ) (c : ℤ) → Holds v numbered s x x c → held c < 15 + mark s → ⊥
  unfolding numbered impossible
  no_loop_below clear s x c h low =
      let d = fact s x x c in
      both_ways (t (number v d)) (clear (sum_count v + number v d) _ (loop_has_place v d (fact_within s x x c h) (and_from _ _ (eq-eqb x x refl) (lt-ltb (held c) (15 + mark s) low))) refl) h.has

  clear_set : Clear (differences v) t → Clear-set v numbered
  unfolding mark
  clear_set clear x c = (
    λ h. by_lt_z c (pos 0) (λ l. absurd (no_loop_below clear false x c h (omega (arith, ints, held_is c h.low)))) (λ g. g),
    λ h. by_lt_z (pos 0) c (λ l. l) (λ g. absurd (no_loop_below clear true x c h (omega (arith, ints, held_is c h.low)))),
  )

  -- every fact of the theory is one with these parts
  fact_again : (s : Bool) (d : Difference) → mark s ≡ d.strict → fact s d.left d.right (constant_of d) ≡ d
  fact_again s d h = same_difference d _ _ _ _ h refl refl (omega (arith, ints, held_is (constant_of d) (omega (arith, ints))))

  holds_again : (s : Bool) (f : ℕ) → f < fact_count v → t f ≡ true → mark s ≡ (difference v f).strict
      → Holds v numbered s (difference v f).left (difference v f).right (constant_of (difference v f))
  unfolding numbered
  holds_again s f l h e =
      let w = difference_within v f l in
      record {
        left = w.left;
        right = w.right;
        low = omega (arith, ints);
        high = omega (arith, ints, w.constant);
        has = ap (λ d. t (number v d)) (fact_again s (difference v f) e) ∙ ap t (number_difference v f) ∙ h;
      }

  all_true : (m : List ℤ) → Models v numbered m → (f : ℕ) → f < fact_count v → t f ≡ true → makes_true v m f ≡ true
  unfolding mark
  all_true m meet f l h =
      let d = difference v f in
      let s = (difference_within v f l).strict in
      let at = meet d.left d.right (constant_of d) in
      truth_is v m f l
      ∙ (decides_meets m d s).1
      (⊎_elim (λ i. omega (arith, ints, at.0 (holds_again false f l h (omega arith)))) (λ i. omega (arith, ints, at.1 (holds_again true f l h (omega arith)))) (cases_lt d.strict 1))

-- second law
pub complete : (v : ℕ) (t : Facts) → Closed (differences v) t → Clear (differences v) t → (m : List ℤ) × (is_model v m ≡ true) × ((f : ℕ) → f < fact_count v → t f ≡ true → makes_true v m f ≡ true)
unfolding is_model
complete v t closed clear =
    let r = closed_and_clear_has_a_model v (numbered v t) (closed_set v t closed) (clear_set v t clear) in
    (r.0, and_from _ _ (eq-eqb (length r.0) (v + 1) (omega (arith, r.1))) ((decides_leZ (pos 1) (get_or r.0 0 (pos 0))).1 r.2), all_true v t r.0 r.3)
