-- A number of times a whole number, by repeated addition, so that sums of products are linear.
use Rattle.std.proofs.Common.{◌≡◌, ℕ, zero, suc, ℤ, pos, ◌+ℤ◌, ◌*ℤ◌, ◌≤ℤ◌, ◌<ℤ◌, sym, refl, ap, ◌∙◌, arith}
use lib.IntN.{*ℤ_comm, *ℤ-zero, suc_ℤ-*ℤ}
use Rattle.std.proofs.lemmas.Int.{ints}

-- q times c
unfoldable pub times : ℕ → ℤ → ℤ
times zero c = pos 0
times (suc q) c = times q c +ℤ c

pub times_sum : (q : ℕ) (c d : ℤ) → times q (c +ℤ d) ≡ times q c +ℤ times q d
unfolding times
times_sum zero c d = refl
times_sum (suc q) c d = omega (arith, ints, times_sum q c d)

pub times_low : (q : ℕ) (c : ℤ) → pos 0 ≤ℤ c → pos 0 ≤ℤ times q c
unfolding times
times_low zero c h = omega (arith, ints)
times_low (suc q) c h = omega (arith, ints, times_low q c h)

pub times_high : (q : ℕ) (c : ℤ) → pos 0 <ℤ c → pos q ≤ℤ times q c
unfolding times
times_high zero c h = omega (arith, ints)
times_high (suc q) c h = omega (arith, ints, times_high q c h)

pub times_is : (q : ℕ) (c : ℤ) → times q c ≡ c *ℤ pos q
unfolding times
times_is zero c = sym (*ℤ-zero c)
times_is (suc q) c = ap (λ a. a +ℤ c) (times_is q c ∙ *ℤ_comm c (pos q)) ∙ sym (suc_ℤ-*ℤ (pos q) c) ∙ *ℤ_comm (pos (suc q)) c

pub times_opposite : (q : ℕ) (c d : ℤ) → c +ℤ d ≡ pos 0 → times q c +ℤ times q d ≡ pos 0
times_opposite q c d h = sym (times_sum q c d) ∙ ap (times q) h ∙ times_is q (pos 0) ∙ omega (arith, ints)
