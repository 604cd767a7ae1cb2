-- The theory of equality over a list of terms: its facts, its rule places, its opposites and its models.
--
--   no_term              what is read behind the last term
--   term_at              term i
--   Table                what holds of every table of terms
--   equal                the number of the fact i = j, with m terms
--   differ               the number of the fact i ≠ j, with m terms
--   alike                two terms have one symbol and one number of arguments
--   Place                what stands at a rule place: i = i; i = j gives j = i; i = j and j = k give i = k; equal arguments
--                        give s = t; i = j and i ≠ j give the contradiction; or nothing
--   clash_places, applied_places, chain_places, turn_places
--                        what stands at a place counted from the start of the last group, of the last two groups, and so on
--   place                what stands at a place, with m terms
--   congruence           the rule that equality of the arguments in turn gives s = t; none for terms without arguments
--   rule_at              the rule of a place
--   opposite_at          the opposite of a fact, with m terms
--   same_value           two whole numbers are equal
--   value                the value of term i
--   agree                terms i and j have equal values
--   used                 as many of two tests as a term has arguments
--   agreeing_arguments   the arguments of two terms that are alike have equal values
--   all_below            every number below a limit passes a test
--   respects             if s and t are alike and their arguments have equal values, then s and t have equal values
--   is_model             one value a term, respected by all terms
--   makes_true           a list of values makes a fact true; none makes a number true that is no fact
--   equality             all this as a theory
--   EqualityIsLawful     over every table it keeps the laws of a theory
use Rattle.std.specs.Prelude.{◌≡◌, ℕ, zero, suc, ◌+◌, ◌-◌, ◌*◌, ◌/◌, ◌%◌, ◌<◌, ◌≤◌, Bool, true, false, cond, not, ◌&&◌, ◌||◌, List, length, ℤ, pos, negsuc, Some, None, Option, ◌==◌, nat_lt, slice_index_or}
use Rattle.theory.specs.declared.Conclusion.TheVariants.{Fact, Contradiction}
use Rattle.theory.specs.declared.Rule.{Rule}
use Rattle.theory.specs.declared.Rule.TheVariants.{Always, From, Both}
use Rattle.equality.specs.declared.Term.{Term}
use Rattle.theory.specs.Theory.{Meaning, Lawful}

abbrev pub no_term : Term
no_term = record { symbol = 0; arity = 0; left = 0; right = 0 }

-- term i
abbrev pub term_at : List Term → ℕ → Term
term_at ts i = slice_index_or ts i no_term

-- what holds of every table: at most 24 terms, at most two arguments, which are earlier terms, unused ones 0, no two terms the same
pub record Table (ts : List Term) : Type 0 where
  pub few : length ts ≤ 24
  pub two_at_most : (i : ℕ) → i < length ts → (term_at ts i).arity ≤ 2
  pub left_earlier : (i : ℕ) → i < length ts → 1 ≤ (term_at ts i).arity → (term_at ts i).left < i
  pub right_earlier : (i : ℕ) → i < length ts → 2 ≤ (term_at ts i).arity → (term_at ts i).right < i
  pub left_unused : (i : ℕ) → i < length ts → (term_at ts i).arity < 1 → (term_at ts i).left ≡ 0
  pub right_unused : (i : ℕ) → i < length ts → (term_at ts i).arity < 2 → (term_at ts i).right ≡ 0
  pub apart : (i j : ℕ) → i < length ts → j < length ts → term_at ts i ≡ term_at ts j → i ≡ j

-- with m terms: the number of i = j, and that of i ≠ j
abbrev pub equal : ℕ → ℕ → ℕ → ℕ
equal m i j = i * m + j

abbrev pub differ : ℕ → ℕ → ℕ → ℕ
differ m i j = m * m + (i * m + j)

-- one symbol and one number of arguments
abbrev pub alike : Term → Term → Bool
alike s t = s.symbol == t.symbol && s.arity == t.arity

-- what stands at a rule place
pub data Place : Type 0 where
  Same : ℕ → Place
  Turned : ℕ → ℕ → Place
  Chained : ℕ → ℕ → ℕ → Place
  Applied : ℕ → ℕ → Place
  Clashing : ℕ → ℕ → Place
  Nowhere : Place

-- the groups of places one behind another, the last index running fastest
unfoldable pub clash_places : ℕ → ℕ → Place
clash_places m q = cond (nat_lt q (m * m)) (Clashing (q / m) (q % m)) Nowhere

unfoldable pub applied_places : ℕ → ℕ → Place
applied_places m q = cond (nat_lt q (m * m)) (Applied (q / m) (q % m)) (clash_places m (q - m * m))

unfoldable pub chain_places : ℕ → ℕ → Place
chain_places m q = cond (nat_lt q (m * m * m)) (Chained (q / m / m) (q / m % m) (q % m)) (applied_places m (q - m * m * m))

unfoldable pub turn_places : ℕ → ℕ → Place
turn_places m q = cond (nat_lt q (m * m)) (Turned (q / m) (q % m)) (chain_places m (q - m * m))

unfoldable pub place : ℕ → ℕ → Place
place m p = cond (nat_lt p m) (Same p) (turn_places m (p - m))

-- equality of the arguments in turn gives that the terms s and t are equal
abbrev pub congruence : ℕ → ℕ → ℕ → ℕ → Term → Term → Option Rule
congruence zero m s t x y = None
congruence (suc zero) m s t x y = Some (From (equal m x.left y.left) (Fact (equal m s t)))
congruence (suc (suc n)) m s t x y = Some (Both (equal m x.left y.left) (equal m x.right y.right) (Fact (equal m s t)))

abbrev pub rule_at : List Term → Place → Option Rule
rule_at ts (Same i) = Some (Always (Fact (equal (length ts) i i)))
rule_at ts (Turned i j) = Some (From (equal (length ts) i j) (Fact (equal (length ts) j i)))
rule_at ts (Chained i j k) = Some (Both (equal (length ts) i j) (equal (length ts) j k) (Fact (equal (length ts) i k)))
rule_at ts (Applied s t) =
    cond (alike (term_at ts s) (term_at ts t)) (congruence (term_at ts s).arity (length ts) s t (term_at ts s) (term_at ts t)) None
rule_at ts (Clashing i j) = Some (Both (equal (length ts) i j) (differ (length ts) i j) Contradiction)
rule_at ts Nowhere = None

abbrev pub opposite_at : ℕ → ℕ → Option ℕ
opposite_at m f = cond (nat_lt f (m * m)) (Some (m * m + f)) (cond (nat_lt f (2 * (m * m))) (Some (f - m * m)) None)

-- whether two whole numbers are equal
abbrev pub same_value : ℤ → ℤ → Bool
same_value (pos a) (pos b) = a == b
same_value (pos a) (negsuc b) = false
same_value (negsuc a) (pos b) = false
same_value (negsuc a) (negsuc b) = a == b

-- the value of term i
abbrev pub value : List ℤ → ℕ → ℤ
value v i = slice_index_or v i (pos 0)

abbrev pub agree : List ℤ → ℕ → ℕ → Bool
agree v i j = same_value (value v i) (value v j)

-- the first n of two tests, the second for a second argument
abbrev pub used : ℕ → Bool → Bool → Bool
used zero l r = true
used (suc zero) l r = l
used (suc (suc n)) l r = l && r

-- the arguments of two terms that are alike have equal values
abbrev pub agreeing_arguments : List ℤ → Term → Term → Bool
agreeing_arguments v x y = used x.arity (agree v x.left y.left) (agree v x.right y.right)

-- every number below n passes the test
abbrev pub all_below : ℕ → (ℕ → Bool) → Bool
all_below zero p = true
all_below (suc n) p = p n && all_below n p

-- terms with one symbol, one number of arguments and equal argument values have equal values
abbrev pub respects : List Term → List ℤ → ℕ → ℕ → Bool
respects ts v s t = not (alike (term_at ts s) (term_at ts t) && agreeing_arguments v (term_at ts s) (term_at ts t)) || agree v s t

unfoldable pub is_model : List Term → List ℤ → Bool
is_model ts v = length v == length ts && all_below (length ts) (λ s. all_below (length ts) (λ t. respects ts v s t))

unfoldable pub makes_true : ℕ → List ℤ → ℕ → Bool
makes_true m v f =
    cond (nat_lt f (m * m)) (agree v (f / m) (f % m)) (cond (nat_lt f (2 * (m * m))) (not (agree v ((f - m * m) / m) ((f - m * m) % m))) false)

abbrev pub equality : List Term → Meaning
equality ts = record {
  facts = 2 * (length ts * length ts);
  places = length ts + length ts * length ts + length ts * length ts * length ts + length ts * length ts + length ts * length ts;
  rule = λ p. rule_at ts (place (length ts) p);
  opposite = opposite_at (length ts);
  models = is_model ts;
  truth = makes_true (length ts);
}

abbrev pub EqualityIsLawful : Type 0
EqualityIsLawful = (ts : List Term) → Table ts → Lawful (equality ts)
