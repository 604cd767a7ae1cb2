-- Which facts a model makes true, and what a model is.
use Rattle.std.proofs.Common.{◌≡◌, ℕ, ◌+◌, ◌-◌, ◌*◌, ◌/◌, ◌%◌, ◌<◌, ◌≤◌, Bool, true, false, cond, not, ◌&&◌, ◌||◌, eqb, ltb, List, length, ℤ, pos, negsuc, Some, None, Option, sym, refl, ap, ◌∙◌, subst, ap₂, ⊎_elim, arith}
use Rattle.std.proofs.lemmas.Bool.{cond-true, cond-false, lt-ltb, le-ltb, eqb-true, eq-eqb, false≢true, cases_lt, and_parts, and_from}
use Rattle.std.proofs.lemmas.Bool.Decides.{Decides-below_and}
use Rattle.std.proofs.lemmas.Nat.{div-mul-add, mod-mul-add}
use Rattle.equality.specs.declared.Term.{Term}
use Rattle.equality.specs.Equality.{term_at, alike, opposite_at, same_value, agree, agreeing_arguments, all_below, respects, is_model, makes_true}
use Rattle.equality.proofs.Places.{pair_below}

pub same_true : (a b : ℤ) → same_value a b ≡ true → a ≡ b
same_true (pos a) (pos b) h = ap pos (eqb-true a b h)
same_true (pos a) (negsuc b) h = absurd (false≢true h)
same_true (negsuc a) (pos b) h = absurd (false≢true h)
same_true (negsuc a) (negsuc b) h = ap negsuc (eqb-true a b h)

same_itself : (a : ℤ) → same_value a a ≡ true
same_itself (pos a) = eq-eqb a a refl
same_itself (negsuc a) = eq-eqb a a refl

pub true_same : (a b : ℤ) → a ≡ b → same_value a b ≡ true
true_same a b e = subst (λ x. same_value a x ≡ true) e (same_itself a)

-- a fact below m * m, and the one that many behind it
module _ (m : ℕ) (v : List ℤ) where
  low : (f : ℕ) → f < m * m → makes_true m v f ≡ agree v (f / m) (f % m)
  unfolding makes_true
  low f h =
      cond-true (ltb f (m * m)) (agree v (f / m) (f % m)) (cond (ltb f (2 * (m * m))) (not (agree v ((f - m * m) / m) ((f - m * m) % m))) false) (lt-ltb f (m * m) h)

  high : (f g : ℕ) → f ≡ m * m + g → g < m * m → makes_true m v f ≡ not (agree v (g / m) (g % m))
  unfolding makes_true
  high f g e h =
      let back : f - m * m ≡ g = omega arith in
      cond-false (ltb f (m * m)) (agree v (f / m) (f % m)) (cond (ltb f (2 * (m * m))) (not (agree v ((f - m * m) / m) ((f - m * m) % m))) false) (le-ltb f (m * m) (omega arith))
      ∙ cond-true (ltb f (2 * (m * m))) (not (agree v ((f - m * m) / m) ((f - m * m) % m))) false (lt-ltb f (2 * (m * m)) (omega arith))
      ∙ ap (λ x. not (agree v (x / m) (x % m))) back

  pub truth_equal : (i j : ℕ) → i < m → j < m → makes_true m v (i * m + j) ≡ agree v i j
  truth_equal i j hi hj = low (i * m + j) (pair_below m i j hi hj) ∙ ap₂ (agree v) (div-mul-add i m j hj) (mod-mul-add i m j hj)

  pub truth_differ : (i j : ℕ) → i < m → j < m → makes_true m v (m * m + (i * m + j)) ≡ not (agree v i j)
  truth_differ i j hi hj =
      high (m * m + (i * m + j)) (i * m + j) refl (pair_below m i j hi hj) ∙ ap₂ (λ x y. not (agree v x y)) (div-mul-add i m j hj) (mod-mul-add i m j hj)

twice : (b : Bool) → not (not b) ≡ b
twice true = refl
twice false = refl

pub opposite_low : (m f : ℕ) → f < m * m → opposite_at m f ≡ Some (m * m + f)
opposite_low m f h = cond-true (ltb f (m * m)) (Some (m * m + f)) (cond (ltb f (2 * (m * m))) (Some (f - m * m)) None) (lt-ltb f (m * m) h)

pub opposite_high : (m f : ℕ) → m * m ≤ f → f < 2 * (m * m) → opposite_at m f ≡ Some (f - m * m)
opposite_high m f h k =
    cond-false (ltb f (m * m)) (Some (m * m + f)) (cond (ltb f (2 * (m * m))) (Some (f - m * m)) None) (le-ltb f (m * m) h)
    ∙ cond-true (ltb f (2 * (m * m))) (Some (f - m * m)) None (lt-ltb f (2 * (m * m)) k)

pub opposite_none : (m f : ℕ) → 2 * (m * m) ≤ f → opposite_at m f ≡ None
opposite_none m f h =
    cond-false (ltb f (m * m)) (Some (m * m + f)) (cond (ltb f (2 * (m * m))) (Some (f - m * m)) None) (le-ltb f (m * m) (omega arith))
    ∙ cond-false (ltb f (2 * (m * m))) (Some (f - m * m)) None (le-ltb f (2 * (m * m)) h)

some_is : (o : Option ℕ) (x y : ℕ) → o ≡ Some x → o ≡ Some y → x ≡ y
some_is o x y p q = cc

none_is_not : (o : Option ℕ) (x : ℕ) → o ≡ None → o ≡ Some x → ⊥
none_is_not o x p q = let z : ◌≡◌ {A = ℕ} 0 1 = cc in omega arith

pub opposed_truth : (m : ℕ) (v : List ℤ) (f g : ℕ) → opposite_at m f ≡ Some g → makes_true m v g ≡ not (makes_true m v f)
opposed_truth m v f g o = ⊎_elim below (λ h. ⊎_elim (above h) (λ k. absurd (none_is_not (opposite_at m f) g (opposite_none m f k) o)) (cases_lt f (2 * (m * m)))) (cases_lt f (m * m))
  where
    below : f < m * m → makes_true m v g ≡ not (makes_true m v f)
    below h =
        let e : m * m + f ≡ g = some_is (opposite_at m f) (m * m + f) g (opposite_low m f h) o in
        high m v g f (sym e) h ∙ ap not (sym (low m v f h))

    above : m * m ≤ f → f < 2 * (m * m) → makes_true m v g ≡ not (makes_true m v f)
    above h k =
        let e : f - m * m ≡ g = some_is (opposite_at m f) (f - m * m) g (opposite_high m f h k) o in
        let l : g < m * m = omega arith in
        low m v g l ∙ sym (twice (agree v (g / m) (g % m))) ∙ ap not (sym (high m v f g (omega arith) l))

-- a fact that is true, by its row and its column
pub truth_low : (m : ℕ) (v : List ℤ) (f : ℕ) → f < m * m → makes_true m v f ≡ agree v (f / m) (f % m)
truth_low = low

pub truth_high : (m : ℕ) (v : List ℤ) (f g : ℕ) → f ≡ m * m + g → g < m * m → makes_true m v f ≡ not (agree v (g / m) (g % m))
truth_high = high

all_out : (n : ℕ) (p : ℕ → Bool) → all_below n p ≡ true → (k : ℕ) → k < n → p k ≡ true
all_out n p = (Decides-below_and p (λ k. p k ≡ true) (λ n. all_below n p) (λ k. (λ h. h, λ h. h)) refl (λ _. refl) n).0

all_in : (n : ℕ) (p : ℕ → Bool) → ((k : ℕ) → k < n → p k ≡ true) → all_below n p ≡ true
all_in n p = (Decides-below_and p (λ k. p k ≡ true) (λ n. all_below n p) (λ k. (λ h. h, λ h. h)) refl (λ _. refl) n).1

if_out : (a b c : Bool) → (not (a && b) || c) ≡ true → a ≡ true → b ≡ true → c ≡ true
if_out true true c h p q = h
if_out true false c h p q = absurd (false≢true q)
if_out false b c h p q = absurd (false≢true p)

if_in : (a b c : Bool) → (a ≡ true → b ≡ true → c ≡ true) → (not (a && b) || c) ≡ true
if_in true true c h = h refl refl
if_in true false c h = refl
if_in false b c h = refl

-- terms that are alike and have agreeing arguments agree
abbrev pub Respectful : List Term → List ℤ → Type 0
Respectful ts v =
    (s t : ℕ) → s < length ts → t < length ts → alike (term_at ts s) (term_at ts t) ≡ true → agreeing_arguments v (term_at ts s) (term_at ts t) ≡ true → agree v s t ≡ true

pub model_respects : (ts : List Term) (v : List ℤ) → is_model ts v ≡ true → Respectful ts v
unfolding is_model
model_respects ts v h s t hs ht =
    if_out (alike (term_at ts s) (term_at ts t)) (agreeing_arguments v (term_at ts s) (term_at ts t)) (agree v s t)
    (all_out (length ts) (λ t. respects ts v s t) (all_out (length ts) (λ s. all_below (length ts) (λ t. respects ts v s t)) (and_parts (eqb (length v) (length ts)) (all_below (length ts) (λ s. all_below (length ts) (λ t. respects ts v s t))) h).1 s hs) t ht)

pub respectful_model : (ts : List Term) (v : List ℤ) → length v ≡ length ts → Respectful ts v → is_model ts v ≡ true
unfolding is_model
respectful_model ts v e h =
    and_from (eqb (length v) (length ts)) (all_below (length ts) (λ s. all_below (length ts) (λ t. respects ts v s t))) (eq-eqb (length v) (length ts) e)
    (all_in (length ts) (λ s. all_below (length ts) (λ t. respects ts v s t)) (λ s hs. all_in (length ts) (λ t. respects ts v s t)
    (λ t ht. if_in (alike (term_at ts s) (term_at ts t)) (agreeing_arguments v (term_at ts s) (term_at ts t)) (agree v s t) (h s t hs ht))))
