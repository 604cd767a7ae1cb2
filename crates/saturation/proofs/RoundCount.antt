-- The round count of a question: it exists, is at most F + 1, and is the number of the first round that changes no set.
use Rattle.saturation.specs.Statements.{RoundsAreFew}
use Rattle.std.proofs.Common.{◌≡◌, ℕ, zero, suc, ◌+◌, ◌^◌, ◌<◌, ◌≤◌, sym, subst, ⊎_elim, arith}
use Rattle.std.proofs.lemmas.Bool.{both_ways, cases_lt, cases_eq}
use Rattle.theory.specs.Theory.{Meaning, Lawful}
use Rattle.theory.specs.Rounds.{Question, after, Gains, Gaining, RoundCount}
use Rattle.saturation.specs.Working.{Changes, Made}
use Rattle.saturation.proofs.Closing.{Still, round_more, Ending, ending}
use Rattle.diagrams.proofs.Counted.{counts_unique, counts_iff, counts_below}

-- the greatest of g 0 to g (n - 1)
record Best (g : ℕ → ℕ) (n : ℕ) : Type 0 where
  at : ℕ
  below : at < n
  most : (d : ℕ) → d < n → g d ≤ g at

better : (g : ℕ → ℕ) (n : ℕ) → Best g n → Best g (suc n)
better g n b =
    ⊎_elim
    (λ (lt : g b.at < g n). record { at = n; below = omega arith; most = λ d h. ⊎_elim (λ e. subst (λ z. g d ≤ g z) e (omega arith)) (λ ne. omega (arith, b.most d (omega (arith, h, ne)), lt)) (cases_eq d n) })
    (λ (le : g n ≤ g b.at). record { at = b.at; below = omega (arith, b.below); most = λ d h. ⊎_elim (λ e. subst (λ z. g z ≤ g b.at) (sym e) le) (λ ne. b.most d (omega (arith, h, ne))) (cases_eq d n) })
    (cases_lt (g b.at) (g n))

best : (g : ℕ → ℕ) (n : ℕ) → Best g (suc n)
best g zero = record { at = 0; below = omega arith; most = λ d h. let e : d ≡ 0 = omega (arith, h) in subst (λ z. g z ≤ g 0) (sym e) (omega arith) }
best g (suc n) = better g (suc n) (best g n)

module _ (m : Meaning) (q : Question) (l : Lawful m) where
  still_on : (c j : ℕ) → Still m (after m q c j) → Still m (after m q c (suc j))
  unfolding after
  still_on c j still x h = round_more m l (after m q c (suc j)) (after m q c j) still x h

  pub still_later : (c j i : ℕ) → j ≤ i → Still m (after m q c j) → Still m (after m q c i)
  still_later c j zero le still = subst (λ k. Still m (after m q c k)) (omega arith) still
  still_later c j (suc i) le still =
      ⊎_elim (λ e. subst (λ k. Still m (after m q c k)) e still) (λ ne. still_on c i (still_later c j i (omega (arith, le, ne)) still)) (cases_eq j (suc i))

  -- a round before the end gains, and no other does
  gains_before : (c : ℕ) (e : Ending m q c) (k : ℕ) → Gains m q c k → k < e.round_number
  unfolding after
  gains_before c e k g =
      ⊎_elim (λ lt. lt) (λ le. absurd (both_ways (after m q c k g.0) g.1 (still_later c e.round_number k le e.still g.0 g.2))) (cases_lt k e.round_number)

  ends_at : ℕ → ℕ
  ends_at c = (ending m l q c).round_number

  gaining : (c : ℕ) → Gaining m q c (ends_at c)
  unfolding ends_at
  gaining c = let e = ending m l q c in counts_iff (λ k. k < e.round_number) (λ k. Gains m q c k) e.round_number (λ k. (e.gain k, gains_before c e k)) (counts_below e.round_number)

  gaining_is : (c j : ℕ) → Gaining m q c j → j ≡ ends_at c
  gaining_is c j g = counts_unique (λ k. Gains m q c k) j (ends_at c) g (gaining c)

  pub few_rounds : (n : ℕ) × RoundCount m q n × (n ≤ m.facts + 1)
  unfolding ends_at
  few_rounds = from (best ends_at 65535)
    where
      from : Best ends_at 65536 → (n : ℕ) × RoundCount m q n × (n ≤ m.facts + 1)
      from b = (ends_at b.at, record { reached = (b.at, b.below, gaining b.at); most = λ c j lt g. omega (arith, gaining_is c j g, b.most c lt) }, (ending m l q b.at).few)

  -- what a saturation counts: round n changes no set, and the one before it, if any, changes some
  pub first_quiet : (n : ℕ) → Made m q n → (Changes m q n → ⊥) → RoundCount m q n
  unfolding ends_at
  first_quiet n made quiet = record { reached = reached n made quiet; most = λ c j lt g. omega (arith, gaining_is c j g, at_most c lt) }
    where
      at_most : (c : ℕ) → c < 2 ^ 16 → ends_at c ≤ n
      at_most c lt = ⊎_elim (λ more. absurd (quiet (c, lt, (ending m l q c).gain n more))) (λ le. le) (cases_lt n (ends_at c))

      reached : (k : ℕ) → Made m q k → (Changes m q k → ⊥) → (c : ℕ) × (c < 2 ^ 16) × Gaining m q c k
      reached zero made' quiet' =
          let e : ends_at 0 ≡ 0 = ⊎_elim (λ more. absurd (quiet' (0, omega arith, (ending m l q 0).gain 0 more))) (λ le. omega (arith, le)) (cases_lt 0 (ends_at 0)) in
          (0, omega arith, subst (λ k. Gaining m q 0 k) e (gaining 0))
      reached (suc k) made' quiet' =
          let g = made' k (omega arith) in
          let c = g.0 in
          let past : k < ends_at c = gains_before c (ending m l q c) k g.2 in
          let e : ends_at c ≡ suc k = ⊎_elim (λ more. absurd (quiet' (c, g.1, (ending m l q c).gain (suc k) more))) (λ le. omega (arith, le, past)) (cases_lt (suc k) (ends_at c)) in
          (c, g.1, subst (λ j. Gaining m q c j) e (gaining c))

pub rounds_are_few : RoundsAreFew
rounds_are_few m q l proper = few_rounds m q l
