-- The theory of differences over v variables: its facts, its rule places, its opposites and its models.
--
--   Difference     a fact in its parts: x ≤ y + c, or x < y + c where it is strict
--   Within         the fact is one of the theory's: its variables are below v, its constant is from −15 to 15
--   held           a constant as facts hold it: c + 15
--   fact_count     how many facts there are
--   number         the number of a fact
--   difference     the fact that has a number
--   reversed       the opposite of a fact: y < x − c for x ≤ y + c, and y ≤ x − c for x < y + c
--   sum            what two facts give that meet in a variable
--   sum_count      how many places there are for the sum of two facts
--   first, second  the two facts whose sum stands at a place
--   sum_rule       two facts give their sum, where its constant is at most 15
--   impossible     no value meets the fact: x ≤ x + c with c < 0, or x < x + c with c ≤ 0
--   loop_rule      an impossible fact gives the contradiction
--   rule_at        the rule at a place: first come the sums, then a place for each fact
--   opposite_of    the opposite of a fact, by numbers
--   value          what a model gives for a variable, behind its scale
--   constant_of    the constant of a fact, as a whole number
--   gap            the constant of a fact, at the scale of a model
--   meets          a model makes the fact true
--   is_model       a scale of at least 1, and a value for each variable
--   makes_true     a model makes the fact with a number true; it makes nothing true behind the last fact
--   differences    the theory
use Rattle.std.specs.Prelude.{ℕ, suc, ◌+◌, ◌-◌, ◌*◌, ◌/◌, ◌%◌, ◌<◌, max, Bool, cond, ◌&&◌, List, length, ℤ, pos, ◌+ℤ◌, ◌-ℤ◌, ◌*ℤ◌, Some, None, Option, ◌==◌, int_le, int_lt, nat_lt, slice_index_or, unsigned_abs}
use Rattle.theory.specs.declared.Conclusion.TheVariants.{Fact, Contradiction}
use Rattle.theory.specs.declared.Rule.{Rule}
use Rattle.theory.specs.declared.Rule.TheVariants.{From, Both}
use Rattle.theory.specs.Theory.{Meaning}

-- strict is 0 for ≤ and 1 for <; the constant is held as c + 15, so that the parts are digits of the fact's number
pub record Difference : Type 0 where
  pub strict : ℕ
  pub left : ℕ
  pub right : ℕ
  pub constant : ℕ

-- the fact is one of the theory's
pub record Within (v : ℕ) (d : Difference) : Type 0 where
  pub strict : d.strict < 2
  pub left : d.left < v
  pub right : d.right < v
  pub constant : d.constant < 31

abbrev pub held : ℤ → ℕ
held c = unsigned_abs (c +ℤ pos 15)

-- two kinds, two variables, 31 constants
abbrev pub fact_count : ℕ → ℕ
fact_count v = 62 * (v * v)

unfoldable pub number : ℕ → Difference → ℕ
number v d = ((d.strict * v + d.left) * v + d.right) * 31 + d.constant

unfoldable pub difference : ℕ → ℕ → Difference
difference v f = record { strict = f / 31 / v / v; left = f / 31 / v % v; right = f / 31 % v; constant = f % 31 }

-- 30 − (c + 15) holds −c
abbrev pub reversed : Difference → Difference
reversed d = record { strict = 1 - d.strict; left = d.right; right = d.left; constant = 30 - d.constant }

-- (c + 15) + (d + 15) − 15 holds c + d, and 0, which holds −15, where that is lower
abbrev pub sum : Difference → Difference → Difference
sum a b = record { strict = max a.strict b.strict; left = a.left; right = b.right; constant = a.constant + b.constant - 15 }

-- a place for each (s, u, x, z, y, c, d), the last running fastest: x stands to z + c by s, and z to y + d by u
abbrev pub sum_count : ℕ → ℕ
sum_count v = 3844 * (v * v * v)

unfoldable pub first : ℕ → ℕ → Difference
first v p = record { strict = p / 961 / v / v / v / 2; left = p / 961 / v / v % v; right = p / 961 / v % v; constant = p / 31 % 31 }

unfoldable pub second : ℕ → ℕ → Difference
second v p = record { strict = p / 961 / v / v / v % 2; left = p / 961 / v % v; right = p / 961 % v; constant = p % 31 }

-- two constants of which the sum is above 15 are held as two of which the sum is above 45
unfoldable pub sum_rule : ℕ → Difference → Difference → Option Rule
sum_rule v a b = cond (nat_lt 45 (a.constant + b.constant)) None (Some (Both (number v a) (number v b) (Fact (number v (sum a b)))))

-- c < 0 is held below 15, and c ≤ 0 below 16
unfoldable pub impossible : Difference → Bool
impossible d = d.left == d.right && nat_lt d.constant (15 + d.strict)

unfoldable pub loop_rule : ℕ → ℕ → Option Rule
loop_rule v f = cond (nat_lt f (fact_count v) && impossible (difference v f)) (Some (From f Contradiction)) None

unfoldable pub rule_at : ℕ → ℕ → Option Rule
rule_at v p = cond (nat_lt p (sum_count v)) (sum_rule v (first v p) (second v p)) (loop_rule v (p - sum_count v))

unfoldable pub opposite_of : ℕ → ℕ → Option ℕ
opposite_of v f = cond (nat_lt f (fact_count v)) (Some (number v (reversed (difference v f)))) None

abbrev pub value : List ℤ → ℕ → ℤ
value m x = slice_index_or m (suc x) (pos 0)

abbrev pub constant_of : Difference → ℤ
constant_of d = pos d.constant -ℤ pos 15

abbrev pub gap : List ℤ → Difference → ℤ
gap m d = constant_of d *ℤ slice_index_or m 0 (pos 0)

unfoldable pub meets : List ℤ → Difference → Bool
meets m d = cond (d.strict == 0) (int_le (value m d.left) (value m d.right +ℤ gap m d)) (int_lt (value m d.left) (value m d.right +ℤ gap m d))

unfoldable pub is_model : ℕ → List ℤ → Bool
is_model v m = length m == v + 1 && int_le (pos 1) (slice_index_or m 0 (pos 0))

unfoldable pub makes_true : ℕ → List ℤ → ℕ → Bool
makes_true v m f = nat_lt f (fact_count v) && meets m (difference v f)

abbrev pub differences : ℕ → Meaning
differences v = record {
  facts = fact_count v;
  places = sum_count v + fact_count v;
  rule = rule_at v;
  opposite = opposite_of v;
  models = is_model v;
  truth = makes_true v;
}
