-- A walk along facts that are closed under sums is no worse than a fact, a rise or a fall; so no closed walk is bad.
use Rattle.std.proofs.Common.{◌≡◌, ℕ, zero, suc, Bool, true, false, ◌||◌, ℤ, pos, negsuc, ◌+ℤ◌, neg_ℤ, ◌≤ℤ◌, ◌<ℤ◌, sym, refl, ap, ◌∙◌, subst, arith}
use Rattle.std.proofs.lemmas.Int.{ints, by_lt_z}

abbrev IsFalse : Bool → Type 0
IsFalse true = ⊥
IsFalse false = Unit {0}

pub false_true : false ≡ true → ⊥
false_true h = subst IsFalse h tt

or_assoc : (a b c : Bool) → (a || (b || c)) ≡ ((a || b) || c)
or_assoc true b c = refl
or_assoc false b c = refl

pub record Tight (S : Bool → ℕ → ℕ → ℤ → Type 0) : Type 0 where
  pub low : (s : Bool) (x y : ℕ) (c : ℤ) → S s x y c → neg_ℤ (pos 15) ≤ℤ c
  pub high : (s : Bool) (x y : ℕ) (c : ℤ) → S s x y c → c ≤ℤ pos 15
  pub joins : (s u : Bool) (x y z : ℕ) (c d : ℤ) → S s x z c → S u z y d → neg_ℤ (pos 15) ≤ℤ (c +ℤ d) → (c +ℤ d) ≤ℤ pos 15 → S (s || u) x y (c +ℤ d)
  pub floors : (s u : Bool) (x y z : ℕ) (c d : ℤ) → S s x z c → S u z y d → (c +ℤ d) <ℤ neg_ℤ (pos 15) → S (s || u) x y (neg_ℤ (pos 15))
  pub clear : (x : ℕ) (c : ℤ) → S false x x c → pos 0 ≤ℤ c
  pub clear_strict : (x : ℕ) (c : ℤ) → S true x x c → pos 0 <ℤ c

-- facts one behind another, each with a constant that P allows: the ends, the sum, and whether one is strict
pub data Run (S : Bool → ℕ → ℕ → ℤ → Type 0) (P : ℤ → Type 0) : ℕ → ℕ → ℤ → Bool → Type 0 where
  one : {x y : ℕ} {c : ℤ} {s : Bool} → S s x y c → P c → Run S P x y c s
  more : {x y z : ℕ} {c d t : ℤ} {s u r : Bool} → S s x z c → P c → Run S P z y d u → t ≡ c +ℤ d → r ≡ (s || u) → Run S P x y t r

data Sign (c : ℤ) : Type 0 where
  above : pos 0 <ℤ c → Sign c
  level : c ≡ pos 0 → Sign c
  below : c <ℤ pos 0 → Sign c

sign : (c : ℤ) → Sign c
sign (pos zero) = level refl
sign (pos (suc n)) = above (omega (arith, ints))
sign (negsuc n) = below (omega (arith, ints))

abbrev Above : ℤ → Type 0
Above c = pos 0 <ℤ c

abbrev Below : ℤ → Type 0
Below c = c <ℤ pos 0

-- what each walk comes to: a fact of constant 0, a rise or a fall
data Norm (S : Bool → ℕ → ℕ → ℤ → Type 0) (x y : ℕ) (c : ℤ) (s : Bool) : Type 0 where
  flat : S s x y c → c ≡ pos 0 → Norm S x y c s
  rise : Run S Above x y c s → Norm S x y c s
  fall : Run S Below x y c s → Norm S x y c s

single : {S : Bool → ℕ → ℕ → ℤ → Type 0} {s : Bool} {x y : ℕ} {c : ℤ} → Sign c → S s x y c → Norm S x y c s
single (above h) e = rise (one e h)
single (level h) e = flat e h
single (below h) e = fall (one e h)

module _ (S : Bool → ℕ → ℕ → ℤ → Type 0) (k : Tight S) where
  join : (s u : Bool) (x y z : ℕ) (c d : ℤ) → S s x z c → S u z y d → neg_ℤ (pos 15) ≤ℤ (c +ℤ d) → (c +ℤ d) ≤ℤ pos 15 → (t : ℤ) (r : Bool) → t ≡ c +ℤ d → r ≡ (s || u) → S r x y t
  join s u x y z c d e f lo hi t r p q = subst (λ a. S a x y t) (sym q) (subst (λ a. S (s || u) x y a) (sym p) (k.joins s u x y z c d e f lo hi))

  over_rise : {y z : ℕ} {d : ℤ} {u : Bool} → Run S Above z y d u → (x : ℕ) (e : ℤ) (s : Bool) → S s x z e → Sign e → (t : ℤ) (r : Bool) → t ≡ e +ℤ d → r ≡ (s || u) → Norm S x y t r
  over_rise w x e s f (above h) t r p q = rise (more f h w p q)
  over_rise (one {x = z} {y = y} {c = d} {s = u} g i) x e s f (level h) t r p q = single (sign t) (join s u x y z e d f g (omega (arith, ints, k.low u z y d g)) (omega (arith, ints, k.high u z y d g)) t r p q)
  over_rise (one {x = z} {y = y} {c = d} {s = u} g i) x e s f (below h) t r p q = single (sign t) (join s u x y z e d f g (omega (arith, ints, k.low s x z e f)) (omega (arith, ints, k.high u z y d g)) t r p q)
  over_rise (more {x = z} {y = y} {z = z'} {c = c} {d = d} {t = t'} {s = u} {u = u'} g i w p' q') x e s f (level h) t r p q =
      over_rise w x (e +ℤ c) (s || u) (k.joins s u x z' z e c f g (omega (arith, ints, k.low u z z' c g)) (omega (arith, ints, k.high u z z' c g))) (sign (e +ℤ c)) t r (omega (arith, ints)) (q ∙ ap (λ a. s || a) q' ∙ or_assoc s u u')
  over_rise (more {x = z} {y = y} {z = z'} {c = c} {d = d} {t = t'} {s = u} {u = u'} g i w p' q') x e s f (below h) t r p q =
      over_rise w x (e +ℤ c) (s || u) (k.joins s u x z' z e c f g (omega (arith, ints, k.low s x z e f)) (omega (arith, ints, k.high u z z' c g))) (sign (e +ℤ c)) t r (omega (arith, ints)) (q ∙ ap (λ a. s || a) q' ∙ or_assoc s u u')

  over_fall : {y z : ℕ} {d : ℤ} {u : Bool} → Run S Below z y d u → (x : ℕ) (e : ℤ) (s : Bool) → S s x z e → Sign e → (t : ℤ) (r : Bool) → t ≡ e +ℤ d → r ≡ (s || u) → Norm S x y t r
  over_fall w x e s f (below h) t r p q = fall (more f h w p q)
  over_fall (one {x = z} {y = y} {c = d} {s = u} g i) x e s f (level h) t r p q = single (sign t) (join s u x y z e d f g (omega (arith, ints, k.low u z y d g)) (omega (arith, ints, k.high u z y d g)) t r p q)
  over_fall (one {x = z} {y = y} {c = d} {s = u} g i) x e s f (above h) t r p q = single (sign t) (join s u x y z e d f g (omega (arith, ints, k.low u z y d g)) (omega (arith, ints, k.high s x z e f)) t r p q)
  over_fall (more {x = z} {y = y} {z = z'} {c = c} {d = d} {t = t'} {s = u} {u = u'} g i w p' q') x e s f (level h) t r p q =
      over_fall w x (e +ℤ c) (s || u) (k.joins s u x z' z e c f g (omega (arith, ints, k.low u z z' c g)) (omega (arith, ints, k.high u z z' c g))) (sign (e +ℤ c)) t r (omega (arith, ints)) (q ∙ ap (λ a. s || a) q' ∙ or_assoc s u u')
  over_fall (more {x = z} {y = y} {z = z'} {c = c} {d = d} {t = t'} {s = u} {u = u'} g i w p' q') x e s f (above h) t r p q =
      over_fall w x (e +ℤ c) (s || u) (k.joins s u x z' z e c f g (omega (arith, ints, k.low u z z' c g)) (omega (arith, ints, k.high s x z e f))) (sign (e +ℤ c)) t r (omega (arith, ints)) (q ∙ ap (λ a. s || a) q' ∙ or_assoc s u u')

  over : {y z : ℕ} {d : ℤ} {u : Bool} → Norm S z y d u → (x : ℕ) (e : ℤ) (s : Bool) → S s x z e → (t : ℤ) (r : Bool) → t ≡ e +ℤ d → r ≡ (s || u) → Norm S x y t r
  over {y} {z} {d} {u} (flat g h) x e s f t r p q = single (sign t) (join s u x y z e d f g (omega (arith, ints, k.low s x z e f)) (omega (arith, ints, k.high s x z e f)) t r p q)
  over (rise w) x e s f t r p q = over_rise w x e s f (sign e) t r p q
  over (fall w) x e s f t r p q = over_fall w x e s f (sign e) t r p q

  norm : {x y : ℕ} {c : ℤ} {s : Bool} → Run S (λ c. Unit {0}) x y c s → Norm S x y c s
  norm (one {c = c} e i) = single (sign c) e
  norm (more {x = x} {c = c} {t = t} {s = s} {r = r} e i w p q) = over (norm w) x c s e t r p q

  -- a rise has a sum above 0
  risen : {x y : ℕ} {c : ℤ} {s : Bool} → Run S Above x y c s → pos 0 <ℤ c
  risen (one e h) = h
  risen (more e h w p q) = omega (arith, ints, risen w)

  -- a fall is a fact with a constant below 0
  fallen : {x y : ℕ} {c : ℤ} {s : Bool} → Run S Below x y c s → (d : ℤ) × (S s x y d) × (d <ℤ pos 0)
  fallen (one {c = c} e h) = (c, e, h)
  fallen (more {x = x} {y = y} {z = z} {c = c} {s = s} {u = u} {r = r} e h w p q) =
      let f = fallen w in
      by_lt_z (c +ℤ f.0) (neg_ℤ (pos 15))
      (λ l. (neg_ℤ (pos 15), subst (λ a. S a x y (neg_ℤ (pos 15))) (sym q) (k.floors s u x y z c f.0 e f.1 l), omega (arith, ints)))
      (λ l. (c +ℤ f.0, join s u x y z c f.0 e f.1 l (omega (arith, ints, h, f.2)) (c +ℤ f.0) r refl q, omega (arith, ints, h, f.2)))

  -- what no loop breaks: the sum is at least 0, and above it where a fact is strict
  fair : (x : ℕ) (c : ℤ) (s : Bool) → S s x x c → (pos 0 ≤ℤ c) × (s ≡ true → pos 0 <ℤ c)
  fair x c true e = (omega (arith, ints, k.clear_strict x c e), λ _. k.clear_strict x c e)
  fair x c false e = (k.clear x c e, λ h. absurd (false_true h))

  loop_norm : {x y : ℕ} {c : ℤ} {s : Bool} → Norm S x y c s → x ≡ y → (pos 0 ≤ℤ c) × (s ≡ true → pos 0 <ℤ c)
  loop_norm {x} {y} {c} {s} (flat e h) p = fair x c s (subst (λ a. S s x a c) (sym p) e)
  loop_norm (rise w) p = (omega (arith, ints, risen w), λ _. risen w)
  loop_norm {x} {y} {c} {s} (fall w) p =
      let f = fallen w in
      absurd (omega (arith, ints, f.2, (fair x f.0 s (subst (λ a. S s x a f.0) (sym p) f.1)).0))

  pub loop : (x : ℕ) (c : ℤ) (s : Bool) → Run S (λ c. Unit {0}) x x c s → (pos 0 ≤ℤ c) × (s ≡ true → pos 0 <ℤ c)
  loop x c s w = loop_norm (norm w) refl

pub append : {S : Bool → ℕ → ℕ → ℤ → Type 0} {P : ℤ → Type 0} {x y z : ℕ} {c d : ℤ} {s u : Bool} → Run S P x z c s → Run S P z y d u → (t : ℤ) (r : Bool) → t ≡ c +ℤ d → r ≡ (s || u) → Run S P x y t r
append (one e i) w t r p q = more e i w p q
append {d = d} {u = u} (more {c = c'} {d = d'} {s = s'} {u = u'} e i v p' q') w t r p q = more e i (append v w (d' +ℤ d) (u' || u) refl refl) (omega (arith, ints)) (q ∙ ap (λ a. a || u) q' ∙ sym (or_assoc s' u' u))
