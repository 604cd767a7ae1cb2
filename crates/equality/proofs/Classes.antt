-- A closed and clear set of facts has a model: the value of a term is the least term that the set has it equal to.
use Rattle.std.proofs.Common.{◌≡◌, ℕ, zero, suc, ◌+◌, ◌-◌, ◌*◌, ◌/◌, ◌%◌, ◌<◌, ◌≤◌, Bool, true, false, cond, ◌&&◌, eqb, List, map, length, ℤ, pos, None, sym, refl, ap, ◌∙◌, subst, ap₂, ⊎_elim, arith}
use Rattle.std.specs.List.{range_with_len}
use Rattle.std.proofs.lemmas.Bool.{cond_both, cond-true, eqb-true, and_parts, and_from, both_ways, cases_lt, cases_Bool, not_from_false}
use Rattle.std.proofs.lemmas.List.FromFn.{length-map-range_with_len, get_or-map-range_with_len}
use Rattle.std.proofs.lemmas.Nat.{div-add-mod'}
use Rattle.theory.specs.declared.Conclusion.TheVariants.{Fact, Contradiction}
use Rattle.theory.specs.declared.Rule.TheVariants.{Always, From, Both}
use Rattle.equality.specs.declared.Term.{Term}
use Rattle.theory.specs.Theory.{Facts, Closed, Clear}
use Rattle.equality.specs.Equality.{Table, equality, rule_at, congruence, alike, term_at, value, agree, used, is_model, makes_true}
use Rattle.equality.proofs.Places.{row_below, column_below, same_place, turned_place, chained_place, applied_place, clashing_place}
use Rattle.equality.proofs.Truths.{same_true, true_same, truth_low, truth_high, respectful_model}
use Rattle.equality.proofs.Rules.{arguments, arity_alike}

-- the least number below n that passes the test, or n
first : (ℕ → Bool) → ℕ → ℕ
first p zero = zero
first p (suc n) = cond (p zero) zero (suc (first (λ j. p (suc j)) n))

first_alike : (p q : ℕ → Bool) (n : ℕ) → ((j : ℕ) → j < n → p j ≡ q j) → first p n ≡ first q n
unfolding first
first_alike p q zero h = refl
first_alike p q (suc n) h =
    ap₂ (λ b x. cond b zero (suc x)) (h zero (omega arith)) (first_alike (λ j. p (suc j)) (λ j. q (suc j)) n (λ j k. h (suc j) (omega arith)))

first_passes : (p : ℕ → Bool) (n k : ℕ) → k < n → p k ≡ true → (first p n < n) × (p (first p n) ≡ true)
unfolding first
first_passes p zero k lt h = absurd (omega arith)
first_passes p (suc n) zero lt h =
    cond_both (p zero) zero (suc (first (λ j. p (suc j)) n)) (λ x. (x < suc n) × (p x ≡ true)) (λ e. (omega arith, e)) (λ e. absurd (both_ways (p zero) e h))
first_passes p (suc n) (suc k) lt h =
    let r = first_passes (λ j. p (suc j)) n k (omega arith) h in
    cond_both (p zero) zero (suc (first (λ j. p (suc j)) n)) (λ x. (x < suc n) × (p x ≡ true)) (λ e. (omega arith, e)) (λ e. (omega (arith, r.0), r.1))

both_or_neither : (a b : Bool) → (a ≡ true → b ≡ true) → (b ≡ true → a ≡ true) → a ≡ b
both_or_neither true b f g = sym (f refl)
both_or_neither false true f g = g refl
both_or_neither false false f g = refl

term_path : (x y : Term) → x.symbol ≡ y.symbol → x.arity ≡ y.arity → x.left ≡ y.left → x.right ≡ y.right → x ≡ y
term_path x y p q r w = λ i. record { symbol = p i; arity = q i; left = r i; right = w i }

pos_is : (a b : ℕ) → pos a ≡ pos b → a ≡ b
pos_is a b e = cc

class : ℕ → Facts → ℕ → ℕ
class m s i = first (λ j. s (i * m + j)) m

classes : ℕ → Facts → List ℤ
classes m s = map (λ i. pos (class m s i)) (range_with_len 0 m)

value_class : (m : ℕ) (s : Facts) (i : ℕ) → i < m → value (classes m s) i ≡ pos (class m s i)
unfolding classes
value_class m s i h = get_or-map-range_with_len (λ i. pos (class m s i)) 0 m i i (pos 0) h (omega arith)

module _ (ts : List Term) (tab : Table ts) (s : Facts) (closed : Closed (equality ts) s) (clear : Clear (equality ts) s) where
  reflexive : (i : ℕ) → i < length ts → s (i * length ts + i) ≡ true
  reflexive i h =
      let p = same_place (length ts) i h in
      closed p.0 (Always (Fact (i * length ts + i))) (i * length ts + i) (ap (rule_at ts) p.1) refl refl

  symmetric : (i j : ℕ) → i < length ts → j < length ts → s (i * length ts + j) ≡ true → s (j * length ts + i) ≡ true
  symmetric i j hi hj h =
      let p = turned_place (length ts) i j hi hj in
      closed p.0 (From (i * length ts + j) (Fact (j * length ts + i))) (j * length ts + i) (ap (rule_at ts) p.1) refl h

  transitive : (i j k : ℕ) → i < length ts → j < length ts → k < length ts → s (i * length ts + j) ≡ true → s (j * length ts + k) ≡ true → s (i * length ts + k) ≡ true
  transitive i j k hi hj hk h g =
      let p = chained_place (length ts) i j hi hj k hk in
      closed p.0 (Both (i * length ts + j) (j * length ts + k) (Fact (i * length ts + k))) (i * length ts + k) (ap (rule_at ts) p.1) refl
      (and_from (s (i * length ts + j)) (s (j * length ts + k)) h g)

  in_class : (i : ℕ) → i < length ts → (class (length ts) s i < length ts) × (s (i * length ts + class (length ts) s i) ≡ true)
  unfolding class
  in_class i h = first_passes (λ j. s (i * length ts + j)) (length ts) i h (reflexive i h)

  one_class : (i j : ℕ) → i < length ts → j < length ts → s (i * length ts + j) ≡ true → class (length ts) s i ≡ class (length ts) s j
  unfolding class
  one_class i j hi hj h =
      first_alike (λ k. s (i * length ts + k)) (λ k. s (j * length ts + k)) (length ts)
      (λ k hk. both_or_neither (s (i * length ts + k)) (s (j * length ts + k)) (transitive j i k hj hi hk (symmetric i j hi hj h)) (transitive i j k hi hj hk h))

  class_equal : (i j : ℕ) → i < length ts → j < length ts → class (length ts) s i ≡ class (length ts) s j → s (i * length ts + j) ≡ true
  class_equal i j hi hj e =
      let a = in_class i hi in
      let b = in_class j hj in
      transitive i (class (length ts) s i) j hi a.0 hj a.1
      (symmetric j (class (length ts) s i) hj a.0 (subst (λ x. s (j * length ts + x) ≡ true) (sym e) b.1))

  agree_if : (i j : ℕ) → i < length ts → j < length ts → s (i * length ts + j) ≡ true → agree (classes (length ts) s) i j ≡ true
  agree_if i j hi hj h =
      true_same (value (classes (length ts) s) i) (value (classes (length ts) s) j) (value_class (length ts) s i hi ∙ ap pos (one_class i j hi hj h) ∙ sym (value_class (length ts) s j hj))

  agree_only_if : (i j : ℕ) → i < length ts → j < length ts → agree (classes (length ts) s) i j ≡ true → s (i * length ts + j) ≡ true
  agree_only_if i j hi hj h =
      class_equal i j hi hj (pos_is (class (length ts) s i) (class (length ts) s j)
      (sym (value_class (length ts) s i hi) ∙ same_true (value (classes (length ts) s) i) (value (classes (length ts) s) j) h ∙ value_class (length ts) s j hj))

  -- the rule at the place of two alike terms, by the number of their arguments
  applied_rule : (i j : ℕ) → i < length ts → j < length ts → alike (term_at ts i) (term_at ts j) ≡ true → (a : ℕ) → (term_at ts i).arity ≡ a → (p : ℕ) × ((equality ts).rule p ≡ congruence a (length ts) i j (term_at ts i) (term_at ts j))
  applied_rule i j hi hj same a e =
      let p = applied_place (length ts) i j hi hj in (
        p.0,
        ap (rule_at ts) p.1
            ∙ cond-true (alike (term_at ts i) (term_at ts j)) (congruence (term_at ts i).arity (length ts) i j (term_at ts i) (term_at ts j)) None same
            ∙ ap (λ n. congruence n (length ts) i j (term_at ts i) (term_at ts j)) e,
      )

  agreeing : (i j : ℕ) → i < length ts → j < length ts → alike (term_at ts i) (term_at ts j) ≡ true → (a : ℕ) → (term_at ts i).arity ≡ a
      → used a (agree (classes (length ts) s) (term_at ts i).left (term_at ts j).left) (agree (classes (length ts) s) (term_at ts i).right (term_at ts j).right) ≡ true
      → agree (classes (length ts) s) i j ≡ true
  agreeing i j hi hj same zero e u =
      let x : Term = term_at ts i in
      let y : Term = term_at ts j in
      let f : x.arity ≡ y.arity = arity_alike x y same in
      let path : x ≡ y =
      term_path x y (eqb-true x.symbol y.symbol (and_parts (eqb x.symbol y.symbol) (eqb x.arity y.arity) same).0) f
      (tab.left_unused i hi (omega arith) ∙ sym (tab.left_unused j hj (omega arith))) (tab.right_unused i hi (omega arith) ∙ sym (tab.right_unused j hj (omega arith))) in
      agree_if i j hi hj (subst (λ k. s (i * length ts + k) ≡ true) (tab.apart i j hi hj path) (reflexive i hi))
  agreeing i j hi hj same (suc zero) e u =
      let x : Term = term_at ts i in
      let y : Term = term_at ts j in
      let g = arguments ts tab i j hi hj same in
      let p = applied_rule i j hi hj same (suc zero) e in
      agree_if i j hi hj (closed p.0 (From (x.left * length ts + y.left) (Fact (i * length ts + j))) (i * length ts + j) p.1 refl
      (agree_only_if x.left y.left (g.left_first (omega arith)) (g.left_second (omega arith)) u))
  agreeing i j hi hj same (suc (suc n)) e u =
      let x : Term = term_at ts i in
      let y : Term = term_at ts j in
      let g = arguments ts tab i j hi hj same in
      let p = applied_rule i j hi hj same (suc (suc n)) e in
      let b = and_parts (agree (classes (length ts) s) x.left y.left) (agree (classes (length ts) s) x.right y.right) u in
      agree_if i j hi hj (closed p.0 (Both (x.left * length ts + y.left) (x.right * length ts + y.right) (Fact (i * length ts + j))) (i * length ts + j) p.1 refl
      (and_from (s (x.left * length ts + y.left)) (s (x.right * length ts + y.right))
      (agree_only_if x.left y.left (g.left_first (omega arith)) (g.left_second (omega arith)) b.0)
      (agree_only_if x.right y.right (g.right_first (omega arith)) (g.right_second (omega arith)) b.1)))

  classes_model : is_model ts (classes (length ts) s) ≡ true
  unfolding classes
  classes_model =
      respectful_model ts (classes (length ts) s) (length-map-range_with_len (λ i. pos (class (length ts) s i)) 0 (length ts))
      (λ i j hi hj same u. agreeing i j hi hj same (term_at ts i).arity refl u)

  -- no two terms that the set has different are in one class
  differing : (i j : ℕ) → i < length ts → j < length ts → s (length ts * length ts + (i * length ts + j)) ≡ true → agree (classes (length ts) s) i j ≡ false
  differing i j hi hj h =
      ⊎_elim
      (λ e. let p = clashing_place (length ts) i j hi hj in
      absurd (both_ways (s (i * length ts + j) && s (length ts * length ts + (i * length ts + j)))
      (clear p.0 (Both (i * length ts + j) (length ts * length ts + (i * length ts + j)) Contradiction) (ap (rule_at ts) p.1) refl)
      (and_from (s (i * length ts + j)) (s (length ts * length ts + (i * length ts + j))) (agree_only_if i j hi hj e) h)))
      (λ e. e) (cases_Bool (agree (classes (length ts) s) i j))

  classes_true : (f : ℕ) → f < 2 * (length ts * length ts) → s f ≡ true → makes_true (length ts) (classes (length ts) s) f ≡ true
  classes_true f lt h = ⊎_elim below above (cases_lt f (length ts * length ts))
    where
      below : f < length ts * length ts → makes_true (length ts) (classes (length ts) s) f ≡ true
      below l =
          truth_low (length ts) (classes (length ts) s) f l
          ∙ agree_if (f / length ts) (f % length ts) (row_below (length ts) f l) (column_below (length ts) f l) (subst (λ x. s x ≡ true) (sym (div-add-mod' f (length ts))) h)

      above : length ts * length ts ≤ f → makes_true (length ts) (classes (length ts) s) f ≡ true
      above g =
          let q : ℕ = f - length ts * length ts in
          let l : q < length ts * length ts = omega arith in
          let e : f ≡ length ts * length ts + q = omega arith in
          let back : f ≡ length ts * length ts + (q / length ts * length ts + q % length ts) = e ∙ ap (λ x. length ts * length ts + x) (sym (div-add-mod' q (length ts))) in
          truth_high (length ts) (classes (length ts) s) f q e l
          ∙ not_from_false (agree (classes (length ts) s) (q / length ts) (q % length ts))
          (differing (q / length ts) (q % length ts) (row_below (length ts) q l) (column_below (length ts) q l) (subst (λ x. s x ≡ true) back h))

  pub has_model : (v : List ℤ) × (is_model ts v ≡ true) × ((f : ℕ) → f < 2 * (length ts * length ts) → s f ≡ true → makes_true (length ts) v f ≡ true)
  has_model = (classes (length ts) s, classes_model, classes_true)
