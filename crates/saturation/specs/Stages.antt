-- The stages of a saturation: what stands in a work slice before, during and after a round, and the sets made on the way.
-- A work slice has two halves: what stands before the round, and what has been gathered in it. Each half has a number for
-- every fact, and behind them one for the contradiction.
--
--   Family         what each choice has at some time
--   slot           where a fact or the contradiction stands in each half
--   Known          the contradiction, or a fact below a number
--   Stands         a number is held and reads as a set
--   Half           the numbers of a half read as what a family has
--   gathered_from  what a conclusion has gathered in a round, from before it and from the places below i
--   RoundSet       a set that the places below i make
--   started        what a choice has from the predicates at the positions below k
--   StartSet       a set that the positions below k make
--   Progress       the rows in use are those at the start and those of the sets made
--   TooMany        the rows at the start and those of the sets outnumber the rows there are
--   InRound        where a round stands behind its places below i
--   Settled        what was gathered stands from now on; whether some slot differed
--   Started        where the start stands behind its positions below k
--   opposed        what a choice has besides, from the opposites of the goals at the places below j
--   BothHalves     both halves read as what a family has
--   Turned         what a round leaves: both halves read as it says, and whether it changed some set
--   RoundsSet      a set that one of the rounds below k makes
--   AfterRounds    where the rounds stand behind round k
--   QuietAt        what rounds leave that end with the first that changes no set
--   Saturated      what a saturation leaves
use Rattle.std.specs.Prelude.{◌≡◌, ℕ, suc, ◌+◌, ◌^◌, ◌<◌, ◌≤◌, Bool, true, false, ◌&&◌, ◌||◌, ◌≢◌, ◌⊎◌, ◌↔◌, List, length, Some, ◌==◌, slice_index}
use Rattle.diagrams.specs.declared.Row.{Row}
use Rattle.theory.specs.declared.Conclusion.{Conclusion}
use Rattle.theory.specs.declared.Conclusion.TheVariants.{Fact, Contradiction}
use Rattle.theory.specs.declared.Rule.{Rule}
use Rattle.theory.specs.Theory.{Meaning, conclusion, premised}
use Rattle.theory.specs.Counting.{MoreThan}
use Rattle.theory.specs.Rounds.{Question, Gathered, bit, some_below, facts_of, opposes, gives, round, after, Derives, RoundCount}
use Rattle.diagrams.specs.Diagram.{Choices, Part, RowOf, InUse, Sound, row_at, member}
use Rattle.diagrams.specs.Books.{capacity}
use Rattle.saturation.specs.Working.{Changes, Made, Working}

abbrev pub Family : Type 0
Family = ℕ → Gathered

-- the place of a fact, or of the contradiction behind all facts, in each half
abbrev pub slot : ℕ → Conclusion → ℕ
slot facts (Fact f) = f
slot facts Contradiction = facts

abbrev pub Known : ℕ → Conclusion → Type 0
Known facts (Fact f) = f < facts
Known facts Contradiction = Unit {0}

pub record Stands (rows : List Row) (count n : ℕ) (s : Choices) : Type 0 where
  pub held : n < count + 2
  pub reads : (c : ℕ) → member rows n c ≡ s c

-- `numbers` has the number of each slot
abbrev pub Half : ℕ → List Row → ℕ → List ℕ → Family → Type 0
Half facts rows count numbers S = (x : Conclusion) → Known facts x → Stands rows count (slice_index numbers (slot facts x)) (λ c. S c x)

abbrev pub gathered_from : Meaning → Family → ℕ → Conclusion → Choices
gathered_from m S i x c = S c x || some_below i (λ j. gives (S c) (m.rule j) x)

pub data RoundSet (m : Meaning) (S : Family) (i : ℕ) : Choices → Type 0 where
  -- the intersection of the premises' sets before the round
  premises_set : (j : ℕ) (r : Rule) → j < i → m.rule j ≡ Some r → RoundSet m S i (λ c. premised (facts_of (S c)) r)
  -- its union with what the conclusion has gathered
  conclusion_set : (j : ℕ) (r : Rule) → j < i → m.rule j ≡ Some r → RoundSet m S i (gathered_from m S (suc j) (conclusion r))

abbrev pub started : List ℕ → ℕ → Family
started predicates k c (Fact f) = some_below k (λ j. bit c j && slice_index predicates j == f)
started predicates k c Contradiction = false

pub data StartSet (predicates : List ℕ) (k : ℕ) : Choices → Type 0 where
  -- the choices that have a position
  position_set : (j : ℕ) → j < k → StartSet predicates k (λ c. bit c j)
  -- their union with what its fact has gathered
  predicate_set : (j : ℕ) → j < k → StartSet predicates k (λ c. started predicates (suc j) c (Fact (slice_index predicates j)))

-- what a choice has besides, from the goals at the places below j
abbrev pub opposed : Meaning → List ℕ → ℕ → Family → Family
opposed m goals j S c (Fact f) = S c (Fact f) || some_below j (λ i. opposes (m.opposite (slice_index goals i)) f)
opposed m goals j S c Contradiction = S c Contradiction

pub record Progress (rows : List Row) (count : ℕ) (rows' : List Row) (count' : ℕ) (D : Choices → Type 0) : Type 0 where
  pub long : length rows' ≡ length rows
  pub stay : (r : ℕ) → r < count → row_at rows' r ≡ row_at rows r
  pub more : count ≤ count'
  pub sound : Sound rows' count'
  pub exact : (x : Part) → InUse rows' count' x ↔ (InUse rows count x ⊎ ((s : Choices) × D s × RowOf s x))

abbrev pub TooMany : List Row → ℕ → (Choices → Type 0) → Type 0
TooMany rows count D = MoreThan (capacity rows) (λ x. InUse rows count x ⊎ ((s : Choices) × D s × RowOf s x))

-- rows₀ and count₀ are those at the beginning of the round
pub record InRound (m : Meaning) (S : Family) (i : ℕ) (rows₀ : List Row) (count₀ : ℕ) (rows : List Row) (count : ℕ) (standing gathered : List ℕ) : Type 0 where
  pub olds : Half m.facts rows count standing S
  pub news : Half m.facts rows count gathered (λ c x. gathered_from m S i x c)
  pub progress : Progress rows₀ count₀ rows count (RoundSet m S i)

-- both halves read as the family has it
pub record BothHalves (facts : ℕ) (rows : List Row) (count : ℕ) (standing gathered : List ℕ) (S : Family) : Type 0 where
  pub olds : Half facts rows count standing S
  pub news : Half facts rows count gathered S

pub record Settled (standing gathered standing' gathered' : List ℕ) (changed : Bool) : Type 0 where
  pub taken : standing' ≡ gathered
  pub kept : gathered' ≡ gathered
  pub differed : changed ≡ true → (k : ℕ) × (k < length gathered) × (slice_index standing k ≢ slice_index gathered k)
  pub agreed : changed ≡ false → standing ≡ gathered

pub record Turned (m : Meaning) (S : Family) (rows : List Row) (count : ℕ) (rows' : List Row) (count' : ℕ) (standing' gathered' : List ℕ) (changed : Bool) : Type 0 where
  pub halves : BothHalves m.facts rows' count' standing' gathered' (λ c. round m (S c))
  pub progress : Progress rows count rows' count' (RoundSet m S m.places)
  pub differed : changed ≡ true → (c : ℕ) × (c < 2 ^ 16) × ((x : Conclusion) × (S c x ≡ false) × (round m (S c) x ≡ true))
  pub agreed : changed ≡ false → (c : ℕ) (x : Conclusion) → round m (S c) x ≡ true → S c x ≡ true

-- rows₀ and count₀ are those before the first position
pub record Started (facts : ℕ) (predicates : List ℕ) (k : ℕ) (rows₀ : List Row) (count₀ : ℕ) (rows : List Row) (count : ℕ) (standing : List ℕ) : Type 0 where
  pub olds : Half facts rows count standing (started predicates k)
  pub progress : Progress rows₀ count₀ rows count (StartSet predicates k)

abbrev pub RoundsSet : Meaning → Question → ℕ → Choices → Type 0
RoundsSet m q k s = (j : ℕ) × (j < k) × RoundSet m (λ c. after m q c j) m.places s

-- rows₀ and count₀ are those before the first round
pub record AfterRounds (m : Meaning) (q : Question) (k : ℕ) (rows₀ : List Row) (count₀ : ℕ) (rows : List Row) (count : ℕ) (standing gathered : List ℕ) : Type 0 where
  pub halves : BothHalves m.facts rows count standing gathered (λ c. after m q c k)
  pub made : Made m q k
  pub progress : Progress rows₀ count₀ rows count (RoundsSet m q k)

-- round k is the first that changes no set, and n is the number of the choices that have the contradiction then
pub record QuietAt (m : Meaning) (q : Question) (rows : List Row) (count : ℕ) (rows' : List Row) (count' n k : ℕ) : Type 0 where
  pub made : Made m q k
  pub quiet : Changes m q k → ⊥
  pub stands : Stands rows' count' n (λ c. after m q c (suc k) Contradiction)
  pub progress : Progress rows count rows' count' (RoundsSet m q (suc k))

-- n is the number of the choices that belong, k the round count, and exactly the rows of the working sets were added
pub record Saturated (m : Meaning) (q : Question) (rows : List Row) (count : ℕ) (rows' : List Row) (count' n k : ℕ) : Type 0 where
  pub progress : Progress rows count rows' count' (Working m q)
  pub held : n < count' + 2
  pub belong : (c : ℕ) → c < 2 ^ 16 → (member rows' n c ≡ true) ↔ Derives m q c
  pub rounds : RoundCount m q k
