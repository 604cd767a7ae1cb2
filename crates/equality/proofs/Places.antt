-- What the number of a rule place, and that of a fact, stand for.
use Rattle.std.proofs.Common.{◌≡◌, ℕ, zero, suc, ◌+◌, ◌-◌, ◌*◌, ◌/◌, ◌%◌, ◌<◌, ◌≤◌, ltb, ap, ◌∙◌, ap₂, arith}
use Rattle.std.proofs.lemmas.Bool.{cond-true, cond-false, cond_both, lt-ltb, le-ltb, ltb-true}
use Rattle.std.proofs.lemmas.Nat.{mul-add-lt, div-mul-add, mod-mul-add, div_below, mod_below}
use Rattle.equality.specs.Equality.{Place, Place.Same, Place.Turned, Place.Chained, Place.Applied, Place.Clashing, Place.Nowhere, place, turn_places, chain_places, applied_places, clash_places}

-- a number below m * m has a row and a column below m
pub some_term : (m q : ℕ) → q < m * m → 0 < m
some_term zero q h = omega (arith, h)
some_term (suc m) q h = omega arith

pub row_below : (m q : ℕ) → q < m * m → q / m < m
row_below m q h = div_below q m m (some_term m q h) h

pub column_below : (m q : ℕ) → q < m * m → q % m < m
column_below m q h = mod_below q m (some_term m q h)

-- the indices at a place are terms
abbrev pub Within : ℕ → Place → Type 0
Within m (Same i) = i < m
Within m (Turned i j) = (i < m) × (j < m)
Within m (Chained i j k) = (i < m) × (j < m) × (k < m)
Within m (Applied i j) = (i < m) × (j < m)
Within m (Clashing i j) = (i < m) × (j < m)
Within m Nowhere = Unit

clash_within : (m q : ℕ) → Within m (clash_places m q)
unfolding clash_places
clash_within m q =
    cond_both (ltb q (m * m)) (Clashing (q / m) (q % m)) Nowhere (Within m) (λ e. let h = ltb-true q (m * m) e in (row_below m q h, column_below m q h)) (λ e. tt)

applied_within : (m q : ℕ) → Within m (applied_places m q)
unfolding applied_places
applied_within m q =
    cond_both (ltb q (m * m)) (Applied (q / m) (q % m)) (clash_places m (q - m * m)) (Within m)
    (λ e. let h = ltb-true q (m * m) e in (row_below m q h, column_below m q h)) (λ e. clash_within m (q - m * m))

pub some_term_3 : (m q : ℕ) → q < m * m * m → 0 < m
some_term_3 zero q h = omega (arith, h)
some_term_3 (suc m) q h = omega arith

-- a number below m * m * m has three digits to the base m
pub digits_below : (m q : ℕ) → q < m * m * m → (q / m / m < m) × (q / m % m < m) × (q % m < m)
digits_below m q h =
    let z = some_term_3 m q h in
    let b = div_below q m (m * m) z h in
    (row_below m (q / m) b, column_below m (q / m) b, mod_below q m z)

chain_within : (m q : ℕ) → Within m (chain_places m q)
unfolding chain_places
chain_within m q =
    cond_both (ltb q (m * m * m)) (Chained (q / m / m) (q / m % m) (q % m)) (applied_places m (q - m * m * m)) (Within m)
    (λ e. digits_below m q (ltb-true q (m * m * m) e)) (λ e. applied_within m (q - m * m * m))

turn_within : (m q : ℕ) → Within m (turn_places m q)
unfolding turn_places
turn_within m q =
    cond_both (ltb q (m * m)) (Turned (q / m) (q % m)) (chain_places m (q - m * m)) (Within m)
    (λ e. let h = ltb-true q (m * m) e in (row_below m q h, column_below m q h)) (λ e. chain_within m (q - m * m))

pub place_within : (m p : ℕ) → Within m (place m p)
unfolding place
place_within m p = cond_both (ltb p m) (Same p) (turn_places m (p - m)) (Within m) (λ e. ltb-true p m e) (λ e. turn_within m (p - m))

-- what stands at a place of a group
pub same_at : (m p : ℕ) → p < m → place m p ≡ Same p
unfolding place
same_at m p h = cond-true (ltb p m) (Same p) (turn_places m (p - m)) (lt-ltb p m h)

module _ (m q : ℕ) (h : q < m * m) where
  pub turned_at : turn_places m q ≡ Turned (q / m) (q % m)
  unfolding turn_places
  turned_at = cond-true (ltb q (m * m)) (Turned (q / m) (q % m)) (chain_places m (q - m * m)) (lt-ltb q (m * m) h)

  pub applied_at : applied_places m q ≡ Applied (q / m) (q % m)
  unfolding applied_places
  applied_at = cond-true (ltb q (m * m)) (Applied (q / m) (q % m)) (clash_places m (q - m * m)) (lt-ltb q (m * m) h)

  pub clashing_at : clash_places m q ≡ Clashing (q / m) (q % m)
  unfolding clash_places
  clashing_at = cond-true (ltb q (m * m)) (Clashing (q / m) (q % m)) Nowhere (lt-ltb q (m * m) h)

pub chained_at : (m q : ℕ) → q < m * m * m → chain_places m q ≡ Chained (q / m / m) (q / m % m) (q % m)
unfolding chain_places
chained_at m q h =
    cond-true (ltb q (m * m * m)) (Chained (q / m / m) (q / m % m) (q % m)) (applied_places m (q - m * m * m)) (lt-ltb q (m * m * m) h)

-- behind a group the next one starts
pub past_same : (m q : ℕ) → place m (m + q) ≡ turn_places m q
unfolding place
past_same m q = cond-false (ltb (m + q) m) (Same (m + q)) (turn_places m (m + q - m)) (le-ltb (m + q) m (omega arith)) ∙ ap (turn_places m) (omega arith)

pub past_turns : (m q : ℕ) → turn_places m (m * m + q) ≡ chain_places m q
unfolding turn_places
past_turns m q =
    cond-false (ltb (m * m + q) (m * m)) (Turned ((m * m + q) / m) ((m * m + q) % m)) (chain_places m (m * m + q - m * m)) (le-ltb (m * m + q) (m * m) (omega arith)) ∙ ap (chain_places m) (omega arith)

pub past_chains : (m q : ℕ) → chain_places m (m * m * m + q) ≡ applied_places m q
unfolding chain_places
past_chains m q =
    cond-false (ltb (m * m * m + q) (m * m * m)) (Chained ((m * m * m + q) / m / m) ((m * m * m + q) / m % m) ((m * m * m + q) % m)) (applied_places m (m * m * m + q - m * m * m))
    (le-ltb (m * m * m + q) (m * m * m) (omega arith)) ∙ ap (applied_places m) (omega arith)

pub past_applied : (m q : ℕ) → applied_places m (m * m + q) ≡ clash_places m q
unfolding applied_places
past_applied m q =
    cond-false (ltb (m * m + q) (m * m)) (Applied ((m * m + q) / m) ((m * m + q) % m)) (clash_places m (m * m + q - m * m)) (le-ltb (m * m + q) (m * m) (omega arith)) ∙ ap (clash_places m) (omega arith)

pub past_clashes : (m q : ℕ) → clash_places m (m * m + q) ≡ Nowhere
unfolding clash_places
past_clashes m q = cond-false (ltb (m * m + q) (m * m)) (Clashing ((m * m + q) / m) ((m * m + q) % m)) Nowhere (le-ltb (m * m + q) (m * m) (omega arith))

pub nowhere : (m p : ℕ) → m + m * m + m * m * m + m * m + m * m ≤ p → place m p ≡ Nowhere
nowhere m p h =
    let q : ℕ = p - (m + m * m + m * m * m + m * m + m * m) in
    ap (place m) (omega arith) ∙ past_same m (m * m + (m * m * m + (m * m + (m * m + q)))) ∙ past_turns m (m * m * m + (m * m + (m * m + q)))
    ∙ past_chains m (m * m + (m * m + q)) ∙ past_applied m (m * m + q) ∙ past_clashes m q

-- every choice of indices has its place in each group
module _ (m i j : ℕ) (hi : i < m) (hj : j < m) where
  pub pair_below : i * m + j < m * m
  pair_below = mul-add-lt i m j m hi hj

  chained_indices : (k : ℕ) → k < m → chain_places m ((i * m + j) * m + k) ≡ Chained i j k
  chained_indices k hk =
      let q : ℕ = (i * m + j) * m + k in
      let row : q / m ≡ i * m + j = div-mul-add (i * m + j) m k hk in
      let column : q % m ≡ k = mod-mul-add (i * m + j) m k hk in
      let first : q / m / m ≡ i = ap (λ x. x / m) row ∙ div-mul-add i m j hj in
      let second : q / m % m ≡ j = ap (λ x. x % m) row ∙ mod-mul-add i m j hj in
      chained_at m q (omega (arith, mul-add-lt (i * m + j) m k (m * m) pair_below hk)) ∙ cc (first, second, column)

  pair_indices : (f : ℕ → ℕ → Place) → f ((i * m + j) / m) ((i * m + j) % m) ≡ f i j
  pair_indices f = ap₂ f (div-mul-add i m j hj) (mod-mul-add i m j hj)

  pub turned_place : (p : ℕ) × (place m p ≡ Turned i j)
  turned_place = (m + (i * m + j), past_same m (i * m + j) ∙ turned_at m (i * m + j) pair_below ∙ pair_indices Turned)

  pub chained_place : (k : ℕ) → k < m → (p : ℕ) × (place m p ≡ Chained i j k)
  chained_place k hk = (m + (m * m + ((i * m + j) * m + k)), past_same m (m * m + ((i * m + j) * m + k)) ∙ past_turns m ((i * m + j) * m + k) ∙ chained_indices k hk)

  pub applied_place : (p : ℕ) × (place m p ≡ Applied i j)
  applied_place = (
    m + (m * m + (m * m * m + (i * m + j))),
    past_same m (m * m + (m * m * m + (i * m + j))) ∙ past_turns m (m * m * m + (i * m + j)) ∙ past_chains m (i * m + j)
        ∙ applied_at m (i * m + j) pair_below ∙ pair_indices Applied,
  )

  pub clashing_place : (p : ℕ) × (place m p ≡ Clashing i j)
  clashing_place = (
    m + (m * m + (m * m * m + (m * m + (i * m + j)))),
    past_same m (m * m + (m * m * m + (m * m + (i * m + j)))) ∙ past_turns m (m * m * m + (m * m + (i * m + j))) ∙ past_chains m (m * m + (i * m + j)) ∙ past_applied m (i * m + j)
        ∙ clashing_at m (i * m + j) pair_below ∙ pair_indices Clashing,
  )

pub same_place : (m i : ℕ) → i < m → (p : ℕ) × (place m p ≡ Same i)
same_place m i h = (i, same_at m i h)
