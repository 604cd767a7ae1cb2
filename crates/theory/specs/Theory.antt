-- What a theory is: facts and rule places, opposites, models, and the laws that every theory shows.
--
--   Facts       a set of facts, as a test on their numbers
--   conclusion  what a rule gives
--   premised    a set has every premise of a rule
--   stands      a set has what a rule gives; no set of facts has the contradiction
--   Meaning     all that the engine knows of a theory: the number of facts and of rule places, the rule at each place,
--               the opposite of each fact, which lists of whole numbers are models, and which facts a model makes true
--   Closed      a set has the conclusion of each rule whose premises it has
--   Clear       a set never has all premises of a rule to the contradiction (a word of our own)
--   Names       a rule speaks of facts below a number only
--   Bounded     the numbers of a theory keep to their limits, and its rules and opposites name its own facts
--   Lawful      Bounded, and the three laws
use Rattle.std.specs.Prelude.{◌≡◌, ℕ, ◌<◌, ◌≤◌, Bool, true, false, not, ◌&&◌, List, ℤ, Some, None, Option}
use Rattle.theory.specs.declared.Conclusion.{Conclusion}
use Rattle.theory.specs.declared.Conclusion.TheVariants.{Fact, Contradiction}
use Rattle.theory.specs.declared.Rule.{Rule}
use Rattle.theory.specs.declared.Rule.TheVariants.{Always, From, Both}

-- a set of facts, by a test
abbrev pub Facts : Type 0
Facts = ℕ → Bool

-- what a rule concludes
abbrev pub conclusion : Rule → Conclusion
conclusion (Always x) = x
conclusion (From a x) = x
conclusion (Both a b x) = x

-- the set has every premise of the rule
abbrev pub premised : Facts → Rule → Bool
premised s (Always x) = true
premised s (From a x) = s a
premised s (Both a b x) = s a && s b

-- the set has the fact; no set of facts has the contradiction
abbrev pub stands : Facts → Conclusion → Bool
stands s (Fact f) = s f
stands s Contradiction = false

pub record Meaning : Type 0 where
  pub facts : ℕ
  pub places : ℕ
  pub rule : ℕ → Option Rule
  pub opposite : ℕ → Option ℕ
  pub models : List ℤ → Bool
  pub truth : List ℤ → ℕ → Bool

-- it has the conclusion of each rule whose premises it has, where that is a fact
abbrev pub Closed : Meaning → Facts → Type 0
Closed m s = (i : ℕ) (r : Rule) (f : ℕ) → m.rule i ≡ Some r → conclusion r ≡ Fact f → premised s r ≡ true → s f ≡ true

-- it never has all premises of a rule to the contradiction
abbrev pub Clear : Meaning → Facts → Type 0
Clear m s = (i : ℕ) (r : Rule) → m.rule i ≡ Some r → conclusion r ≡ Contradiction → premised s r ≡ false

-- the premises and the conclusion of a rule are facts below the number given
abbrev pub Names : ℕ → Rule → Type 0
Names n (Always x) = (f : ℕ) → x ≡ Fact f → f < n
Names n (From a x) = (a < n) × ((f : ℕ) → x ≡ Fact f → f < n)
Names n (Both a b x) = (a < n) × (b < n) × ((f : ℕ) → x ≡ Fact f → f < n)

pub record Bounded (m : Meaning) : Type 0 where
  pub few_facts : m.facts ≤ 8191
  pub few_places : m.places ≤ 4000000
  pub names : (i : ℕ) (r : Rule) → m.rule i ≡ Some r → Names m.facts r
  -- a place at or behind the last reads as empty
  pub no_place : (i : ℕ) → m.places ≤ i → m.rule i ≡ None
  pub has_opposite : (f : ℕ) → f < m.facts → (g : ℕ) × (m.opposite f ≡ Some g) × (g < m.facts)
  pub no_opposite : (f : ℕ) → m.facts ≤ f → m.opposite f ≡ None

pub record Lawful (m : Meaning) : Type 0 where
  pub bounds : Bounded m
  -- first law: a model that makes all premises of a rule true makes its conclusion true; none makes the contradiction true
  pub sound : (v : List ℤ) (i : ℕ) (r : Rule) → m.models v ≡ true → m.rule i ≡ Some r → premised (m.truth v) r ≡ true → stands (m.truth v) (conclusion r) ≡ true
  -- second law: every closed and clear set of facts has a model that makes all its facts true
  pub complete : (s : Facts) → Closed m s → Clear m s → (v : List ℤ) × (m.models v ≡ true) × ((f : ℕ) → f < m.facts → s f ≡ true → m.truth v f ≡ true)
  -- third law: a model makes exactly one of a fact and its opposite true
  pub opposed : (v : List ℤ) (f g : ℕ) → m.models v ≡ true → m.opposite f ≡ Some g → m.truth v g ≡ not (m.truth v f)
