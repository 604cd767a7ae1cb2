-- What the steps of a saturation leave of a book's register and of a work slice.
--
--   Holding     the numbers of a list are held by a book
--   Stepped     the register is enlarged, its index, its tables and both halves are the same slices, and all numbers of the
--               halves are held
--   asked_for   the facts that a rule asks for: none, or two, of which the second may be the first again
--   DoNotFit    the rows of a set do not fit beside those in use
--   Gathers     a slot has the union of what it had with a number's set, or the rows do not fit
--   Meets       the number of what a rule's premises have together, or the rows do not fit
--   Derived     a round is one place further, or its rows do not fit
--   Positioned  the start is one position further, or its rows do not fit
--   Starts      the start is behind all positions, or its rows do not fit
--   Opposes     what stands has the opposites of the goals too
--   Rounded     a round is behind all places, or its rows do not fit
--   Turns       a round is made and taken over, or its rows do not fit
--   RoundsEnd   the rounds are made up to the first that changes no set, or the working sets' rows do not fit
--   Saturates   a question's answer stands, or the working sets' rows do not fit
use Rattle.std.specs.Prelude.{◌≡◌, ℕ, suc, ◌+◌, ◌<◌, Bool, ◌⊎◌, List, length, Some, None, Option, Result, MatchResult, slice_index, slice_set}
use Rattle.theory.specs.declared.Rule.{Rule}
use Rattle.theory.specs.declared.Rule.TheVariants.{Always, From, Both}
use Rattle.theory.specs.Theory.{Meaning, Names, premised}
use Rattle.theory.specs.Counting.{MoreThan}
use Rattle.theory.specs.Rounds.{Question, facts_of, start}
use Rattle.register.specs.declared.Register.{Register}
use Rattle.diagrams.specs.declared.Row.{Row}
use Rattle.diagrams.specs.declared.NoRoom.{NoRoom}
use Rattle.diagrams.specs.declared.Operation.TheVariants.{Union}
use Rattle.diagrams.specs.Diagram.{Choices, RowOf, InUse}
use Rattle.diagrams.specs.Making.{Adds}
use Rattle.diagrams.specs.Books.{capacity, union_or_intersection}
use Rattle.diagrams.specs.Applying.{Applies}
use Rattle.saturation.specs.Working.{Working}
use Rattle.saturation.specs.Stages.{Family, Half, opposed, StartSet, RoundSet, TooMany, InRound, BothHalves, Started, Turned, QuietAt, Saturated}
use Rattle.book.specs.Growing.{Enlarged}
use Rattle.book.specs.declared.manager.Manager.{Manager}
use Rattle.book.specs.declared.work.Work.{Work}

abbrev pub Holding : List ℕ → ℕ → Type 0
Holding numbers count = (k : ℕ) → slice_index numbers k < count + 2

pub record Stepped (m m' : Manager) (w w' : Work) : Type 0 where
  pub register : m'.register.ghost_name ≡ m.register.ghost_name
  pub heads : m'.heads.ghost_name ≡ m.heads.ghost_name
  pub next : m'.next.ghost_name ≡ m.next.ghost_name
  pub unions : m'.unions.ghost_name ≡ m.unions.ghost_name
  pub intersections : m'.intersections.ghost_name ≡ m.intersections.ghost_name
  pub enlarged : Enlarged m.register.now m'.register.now
  pub standing : w'.standing.ghost_name ≡ w.standing.ghost_name
  pub gathered : w'.gathered.ghost_name ≡ w.gathered.ghost_name
  pub long : length w'.standing.now ≡ length w.standing.now
  pub standing_held : Holding w'.standing.now m'.register.now.count
  pub gathered_held : Holding w'.gathered.now m'.register.now.count

abbrev pub asked_for : Rule → Option (record { 0 : ℕ; 1 : ℕ })
asked_for (Always x) = None
asked_for (From a x) = Some (a, a)
asked_for (Both a b x) = Some (a, b)

-- the set's rows do not fit beside those in use
abbrev pub DoNotFit : Register Row → Choices → Type 0
DoNotFit r s = MoreThan (capacity r.rows.now) (λ x. InUse r.rows.now r.count x ⊎ RowOf s x)

abbrev pub Gathers : {A E : Type 0} → Register Row → List ℕ → Register Row → List ℕ → ℕ → ℕ → Result A E → Type 0
Gathers r numbers r' numbers' slot number result =
    MatchResult result
    (λ _. (n : ℕ) × Adds r.rows.now r.count r'.rows.now r'.count (union_or_intersection Union r.rows.now (slice_index numbers slot) number) n × (numbers' ≡ slice_set numbers slot n))
    (λ _. (numbers' ≡ numbers) × DoNotFit r (union_or_intersection Union r.rows.now (slice_index numbers slot) number))

abbrev pub Meets : Register Row → Work → Register Row → Rule → Result ℕ NoRoom → Type 0
Meets r w r' rule result =
    (facts : ℕ) (S : Family) → Names facts rule → Half facts r.rows.now r.count w.standing.now S → Applies r.rows.now r.count r'.rows.now r'.count (λ c. premised (facts_of (S c)) rule) result

abbrev pub Derived : {A E : Type 0} → Rule → Register Row → Work → Register Row → Work → Result A E → Type 0
Derived rule r w r' w' result =
    (m : Meaning) (S : Family) (i : ℕ) (rows₀ : List Row) (count₀ : ℕ) → length w.standing.now ≡ m.facts + 1 → m.rule i ≡ Some rule
    → InRound m S i rows₀ count₀ r.rows.now r.count w.standing.now w.gathered.now
    → MatchResult result (λ _. InRound m S (suc i) rows₀ count₀ r'.rows.now r'.count w'.standing.now w'.gathered.now) (λ _. TooMany rows₀ count₀ (RoundSet m S (suc i)))

abbrev pub Positioned : {A E : Type 0} → ℕ → ℕ → Register Row → Work → Register Row → Work → Result A E → Type 0
Positioned position fact r w r' w' result =
    (facts : ℕ) (predicates : List ℕ) (rows₀ : List Row) (count₀ : ℕ) → slice_index predicates position ≡ fact → fact < facts → Started facts predicates position rows₀ count₀ r.rows.now r.count w.standing.now
    → MatchResult result (λ _. Started facts predicates (suc position) rows₀ count₀ r'.rows.now r'.count w'.standing.now) (λ _. TooMany rows₀ count₀ (StartSet predicates (suc position)))

abbrev pub Starts : {A E : Type 0} → List ℕ → Register Row → Work → Register Row → Work → Result A E → Type 0
Starts predicates r w r' w' result =
    (facts : ℕ) → ((k : ℕ) → k < length predicates → slice_index predicates k < facts) → ((k : ℕ) → slice_index w.standing.now k ≡ 0)
    → MatchResult result (λ _. Started facts predicates (length predicates) r.rows.now r.count r'.rows.now r'.count w'.standing.now) (λ _. TooMany r.rows.now r.count (StartSet predicates (length predicates)))

abbrev pub Opposes : Meaning → List ℕ → Work → Work → Type 0
Opposes m goals w w' =
    (S : Family) (rows : List Row) (count : ℕ) → Half m.facts rows count w.standing.now S → Half m.facts rows count w'.standing.now (opposed m goals (length goals) S)

abbrev pub Rounded : {A E : Type 0} → Meaning → Register Row → Work → Register Row → Work → Result A E → Type 0
Rounded m r w r' w' result =
    (S : Family) → BothHalves m.facts r.rows.now r.count w.standing.now w.gathered.now S
    → MatchResult result (λ _. InRound m S m.places r.rows.now r.count r'.rows.now r'.count w'.standing.now w'.gathered.now) (λ _. TooMany r.rows.now r.count (RoundSet m S m.places))

abbrev pub Turns : {E : Type 0} → Meaning → Register Row → Work → Register Row → Work → Result Bool E → Type 0
Turns m r w r' w' result =
    (S : Family) → BothHalves m.facts r.rows.now r.count w.standing.now w.gathered.now S
    → MatchResult result (λ changed. Turned m S r.rows.now r.count r'.rows.now r'.count w'.standing.now w'.gathered.now changed) (λ _. TooMany r.rows.now r.count (RoundSet m S m.places))

abbrev pub RoundsEnd : {E : Type 0} → Meaning → Register Row → Work → Register Row → Result (record { 0 : ℕ; 1 : ℕ }) E → Type 0
RoundsEnd m r w r' result =
    (q : Question) → BothHalves m.facts r.rows.now r.count w.standing.now w.gathered.now (λ c. start m q c)
    → MatchResult result (λ p. QuietAt m q r.rows.now r.count r'.rows.now r'.count p.0 p.1) (λ _. TooMany r.rows.now r.count (Working m q))

abbrev pub Saturates : {E : Type 0} → Meaning → Question → Register Row → Register Row → Result (record { 0 : ℕ; 1 : ℕ }) E → Type 0
Saturates m q r r' result = MatchResult result (λ p. Saturated m q r.rows.now r.count r'.rows.now r'.count p.0 p.1) (λ _. TooMany r.rows.now r.count (Working m q))
