-- A choice's rounds come to an end: after at most F + 1 gaining rounds, one adds nothing.
use Rattle.std.proofs.Common.{◌≡◌, ℕ, zero, suc, ◌+◌, ◌<◌, ◌≤◌, Bool, true, false, cond, ltb, ◌⊎◌, Some, None, Option, sym, refl, ap, ◌∙◌, subst, inl, inr, ⊎_elim, arith}
use Rattle.std.proofs.lemmas.Bool.{false≢true, both_ways, eqb-true, eq-eqb, lt-ltb, le-ltb, and_parts, and_from, or_cases, or_left, or_right, cases_Bool, cases_eq, cases_lt, cond-true, cond-false}
use Rattle.theory.specs.declared.Conclusion.{Conclusion}
use Rattle.theory.specs.declared.Conclusion.TheVariants.{Fact, Contradiction}
use Rattle.theory.specs.declared.Rule.{Rule}
use Rattle.theory.specs.declared.Rule.TheVariants.{Always, From, Both}
use Rattle.theory.specs.Theory.{Meaning, Lawful, conclusion, premised}
use Rattle.theory.specs.Rounds.{Question, Gathered, some_below, facts_of, same, gives, round, start, after}

pub some_from : (n : ℕ) (p : ℕ → Bool) → some_below n p ≡ true → (i : ℕ) × (i < n) × (p i ≡ true)
some_from zero p h = absurd (false≢true h)
some_from (suc n) p h =
    ⊎_elim (λ e. (n, omega arith, e)) (λ e. let r = some_from n p e in (r.0, omega (arith, r.1), r.2)) (or_cases (p n) (some_below n p) h)

pub some_since : (n : ℕ) (p : ℕ → Bool) (i : ℕ) → i < n → p i ≡ true → some_below n p ≡ true
some_since zero p i lt h = absurd (omega arith)
some_since (suc n) p i lt h =
    ⊎_elim (λ e. or_left (p n) (some_below n p) (subst (λ j. p j ≡ true) e h)) (λ ne. or_right (p n) (some_below n p) (some_since n p i (omega (arith, lt, ne)) h)) (cases_eq i n)

pub same_true : (x y : Conclusion) → same x y ≡ true → x ≡ y
same_true (Fact f) (Fact g) h = ap Fact (eqb-true f g h)
same_true (Fact f) Contradiction h = absurd (false≢true h)
same_true Contradiction (Fact g) h = absurd (false≢true h)
same_true Contradiction Contradiction h = refl

pub same_self : (x : Conclusion) → same x x ≡ true
same_self (Fact f) = eq-eqb f f refl
same_self Contradiction = refl

pub premised_more : (s t : ℕ → Bool) → ((f : ℕ) → s f ≡ true → t f ≡ true) → (r : Rule) → premised s r ≡ true → premised t r ≡ true
premised_more s t more (Always x) h = refl
premised_more s t more (From a x) h = more a h
premised_more s t more (Both a b x) h = let p = and_parts (s a) (s b) h in and_from (t a) (t b) (more a p.0) (more b p.1)

-- what a round adds is the conclusion of a rule whose premises stood
pub gives_from : (s : Gathered) (o : Option Rule) (x : Conclusion) → gives s o x ≡ true → (r : Rule) × (o ≡ Some r) × (premised (facts_of s) r ≡ true) × (conclusion r ≡ x)
gives_from s (Some r) x h = let p = and_parts (premised (facts_of s) r) (same (conclusion r) x) h in (r, refl, p.0, same_true (conclusion r) x p.1)
gives_from s None x h = absurd (false≢true h)

pub gives_since : (s : Gathered) (o : Option Rule) (r : Rule) → o ≡ Some r → premised (facts_of s) r ≡ true → gives s o (conclusion r) ≡ true
gives_since s o r e h = subst (λ z. gives s z (conclusion r) ≡ true) (sym e) (and_from (premised (facts_of s) r) (same (conclusion r) (conclusion r)) h (same_self (conclusion r)))

abbrev IsSome : Option Rule → Type 0
IsSome (Some r) = Unit {0}
IsSome None = ⊥

pub some_not_none : (o : Option Rule) (r : Rule) → o ≡ Some r → o ≡ None → ⊥
some_not_none o r e f = subst IsSome (sym e ∙ f) tt

pub round_from : (m : Meaning) (s : Gathered) (x : Conclusion) → round m s x ≡ true → (s x ≡ true) ⊎ ((i : ℕ) × (r : Rule) × (m.rule i ≡ Some r) × (premised (facts_of s) r ≡ true) × (conclusion r ≡ x))
round_from m s x h =
    ⊎_elim inl (λ e. let p = some_from m.places (λ i. gives s (m.rule i) x) e in let g = gives_from s (m.rule p.0) x p.2 in inr (p.0, g.0, g.1, g.2, g.3))
    (or_cases (s x) (some_below m.places (λ i. gives s (m.rule i) x)) h)

pub round_since : (m : Meaning) → Lawful m → (s : Gathered) (i : ℕ) (r : Rule) → m.rule i ≡ Some r → premised (facts_of s) r ≡ true → round m s (conclusion r) ≡ true
round_since m l s i r e h =
    let placed : i < m.places = ⊎_elim (λ lt. lt) (λ le. absurd (some_not_none (m.rule i) r e (l.bounds.no_place i le))) (cases_lt i m.places) in
    or_right (s (conclusion r)) _ (some_since m.places (λ j. gives s (m.rule j) (conclusion r)) i placed (gives_since s (m.rule i) r e h))

pub round_more : (m : Meaning) → Lawful m → (s t : Gathered) → ((x : Conclusion) → s x ≡ true → t x ≡ true) → (x : Conclusion) → round m s x ≡ true → round m t x ≡ true
round_more m l s t more x h =
    ⊎_elim (λ e. or_left (t x) _ (more x e))
    (λ p. subst (λ z. round m t z ≡ true) p.4 (round_since m l t p.0 p.1 p.2 (premised_more (facts_of s) (facts_of t) (λ f. more (Fact f)) p.1 p.3)))
    (round_from m s x h)

-- the facts and the contradiction, in a row
thing : ℕ → ℕ → Conclusion
thing n i = cond (ltb i n) (Fact i) Contradiction

thing_fact : (n f : ℕ) → f < n → thing n f ≡ Fact f
unfolding thing
thing_fact n f lt = cond-true (ltb f n) (Fact f) Contradiction (lt-ltb f n lt)

thing_last : (n : ℕ) → thing n n ≡ Contradiction
unfolding thing
thing_last n = cond-false (ltb n n) (Fact n) Contradiction (le-ltb n n (omega arith))

-- how many numbers below n pass a test
count_below : ℕ → (ℕ → Bool) → ℕ
count_below zero p = 0
count_below (suc n) p = count_below n p + cond (p n) 1 0

one_at_most : (b : Bool) → cond b 1 0 ≤ 1
one_at_most true = omega arith
one_at_most false = omega arith

count_few : (n : ℕ) (p : ℕ → Bool) → count_below n p ≤ n
unfolding count_below
count_few zero p = omega arith
count_few (suc n) p = omega (arith, count_few n p, one_at_most (p n))

one_more : (b d : Bool) → (b ≡ true → d ≡ true) → cond b 1 0 ≤ cond d 1 0
one_more true true h = omega arith
one_more true false h = absurd (false≢true (h refl))
one_more false d h = omega arith

count_more : (n : ℕ) (p q : ℕ → Bool) → ((i : ℕ) → p i ≡ true → q i ≡ true) → count_below n p ≤ count_below n q
unfolding count_below
count_more zero p q h = omega arith
count_more (suc n) p q h = omega (arith, count_more n p q h, one_more (p n) (q n) (h n))

count_gain : (n : ℕ) (p q : ℕ → Bool) → ((i : ℕ) → p i ≡ true → q i ≡ true) → (i : ℕ) → i < n → p i ≡ false → q i ≡ true → count_below n p < count_below n q
unfolding count_below
count_gain zero p q h i lt off on = absurd (omega arith)
count_gain (suc n) p q h i lt off on =
    ⊎_elim
    (λ e.
    let a : ◌≡◌ {A = ℕ} (cond (p n) 1 0) 0 = cond-false (p n) 1 0 (subst (λ j. p j ≡ false) e off) in
    let b : ◌≡◌ {A = ℕ} (cond (q n) 1 0) 1 = cond-true (q n) 1 0 (subst (λ j. q j ≡ true) e on) in
    omega (arith, a, b, count_more n p q h))
    (λ ne. let c : count_below n p < count_below n q = count_gain n p q h i (omega (arith, lt, ne)) off on in omega (arith, c, one_more (p n) (q n) (h n)))
    (cases_eq i n)

-- either something below n is gained, or nothing is
gained_or_not : (n : ℕ) (p q : ℕ → Bool) → ((i : ℕ) × (i < n) × (p i ≡ false) × (q i ≡ true)) ⊎ ((i : ℕ) → i < n → q i ≡ true → p i ≡ true)
gained_or_not zero p q = inr (λ i lt h. absurd (omega (arith, lt)))
gained_or_not (suc n) p q = here (gained_or_not n p q) (cases_Bool (p n)) (cases_Bool (q n))
  where
    last : ((i : ℕ) → i < n → q i ≡ true → p i ≡ true) → (q n ≡ true → p n ≡ true) → (i : ℕ) → i < suc n → q i ≡ true → p i ≡ true
    last old now i lt h = ⊎_elim (λ e. subst (λ j. p j ≡ true) (sym e) (now (subst (λ j. q j ≡ true) e h))) (λ ne. old i (omega (arith, lt, ne)) h) (cases_eq i n)

    here : ((i : ℕ) × (i < n) × (p i ≡ false) × (q i ≡ true)) ⊎ ((i : ℕ) → i < n → q i ≡ true → p i ≡ true) → (p n ≡ true) ⊎ (p n ≡ false) → (q n ≡ true) ⊎ (q n ≡ false)
        → ((i : ℕ) × (i < suc n) × (p i ≡ false) × (q i ≡ true)) ⊎ ((i : ℕ) → i < suc n → q i ≡ true → p i ≡ true)
    here (inl g) b d = inl (g.0, omega (arith, g.1), g.2, g.3)
    here (inr old) (inl b) d = inr (last old (λ _. b))
    here (inr old) (inr b) (inl d) = inl (n, omega arith, b, d)
    here (inr old) (inr b) (inr d) = inr (last old (λ h. absurd (both_ways (q n) d h)))

-- the round adds nothing
abbrev pub Still : Meaning → Gathered → Type 0
Still m s = (x : Conclusion) → round m s x ≡ true → s x ≡ true

pub later : (m : Meaning) (q : Question) (c k : ℕ) (x : Conclusion) → after m q c k x ≡ true → after m q c (suc k) x ≡ true
unfolding after
later m q c k x h = or_left (after m q c k x) _ h

pub from_start : (m : Meaning) (q : Question) (c k : ℕ) (x : Conclusion) → start m q c x ≡ true → after m q c k x ≡ true
unfolding after
from_start m q c zero x h = h
from_start m q c (suc k) x h = or_left (after m q c k x) _ (from_start m q c k x h)

-- a conclusion of a rule is one of the things
rule_fact : (m : Meaning) → Lawful m → (i : ℕ) (r : Rule) (f : ℕ) → m.rule i ≡ Some r → conclusion r ≡ Fact f → f < m.facts
rule_fact m l i (Always x) f e h = l.bounds.names i (Always x) e f h
rule_fact m l i (From a x) f e h = (l.bounds.names i (From a x) e).1 f h
rule_fact m l i (Both a b x) f e h = (l.bounds.names i (Both a b x) e).2 f h

-- where nothing of the facts and the contradiction is added, nothing is
all_still : (m : Meaning) → Lawful m → (s : Gathered) → ((i : ℕ) → i < suc m.facts → round m s (thing m.facts i) ≡ true → s (thing m.facts i) ≡ true) → Still m s
all_still m l s h (Fact f) on =
    ⊎_elim (λ e. e)
    (λ p.
    let lt : f < m.facts = rule_fact m l p.0 p.1 f p.2 p.4 in
    let e = thing_fact m.facts f lt in
    subst (λ z. s z ≡ true) e (h f (omega (arith, lt)) (subst (λ z. round m s z ≡ true) (sym e) on)))
    (round_from m s (Fact f) on)
all_still m l s h Contradiction on =
    let e = thing_last m.facts in
    subst (λ z. s z ≡ true) e (h m.facts (omega arith) (subst (λ z. round m s z ≡ true) (sym e) on))

-- how much a choice has
size : Meaning → Gathered → ℕ
size m s = count_below (suc m.facts) (λ i. s (thing m.facts i))

-- the first k rounds gain, or one of them is the first that adds nothing
EndsBefore : Meaning → Question → ℕ → ℕ → Type 0
EndsBefore m q c k = (j : ℕ) × (j < k) × Still m (after m q c j) × ((i : ℕ) → i < j → (x : Conclusion) × (after m q c i x ≡ false) × (after m q c (suc i) x ≡ true))

GainsUntil : Meaning → Question → ℕ → ℕ → Type 0
GainsUntil m q c k = (k ≤ size m (after m q c k)) × ((i : ℕ) → i < k → (x : Conclusion) × (after m q c i x ≡ false) × (after m q c (suc i) x ≡ true))

step : (m : Meaning) → Lawful m → (q : Question) (c k : ℕ) → EndsBefore m q c k ⊎ GainsUntil m q c k → EndsBefore m q c (suc k) ⊎ GainsUntil m q c (suc k)
unfolding EndsBefore GainsUntil size after
step m l q c k (inl e) = inl (e.0, omega (arith, e.1), e.2, e.3)
step m l q c k (inr g) =
    ⊎_elim
    (λ (p : (i : ℕ) × (i < suc m.facts) × (after m q c k (thing m.facts i) ≡ false) × (after m q c (suc k) (thing m.facts i) ≡ true)).
    let more : count_below (suc m.facts) (λ i. after m q c k (thing m.facts i)) < count_below (suc m.facts) (λ i. after m q c (suc k) (thing m.facts i)) =
    count_gain (suc m.facts) _ _ (λ i h. later m q c k (thing m.facts i) h) p.0 p.1 p.2 p.3 in
    inr (omega (arith, g.0, more), λ i lt. ⊎_elim (λ e. subst (λ j. (x : Conclusion) × (after m q c j x ≡ false) × (after m q c (suc j) x ≡ true)) (sym e) (thing m.facts p.0, p.2, p.3)) (λ ne. g.1 i (omega (arith, lt, ne))) (cases_eq i k)))
    (λ (still : (i : ℕ) → i < suc m.facts → after m q c (suc k) (thing m.facts i) ≡ true → after m q c k (thing m.facts i) ≡ true).
    inl (k, omega arith, all_still m l (after m q c k) still, g.1))
    (gained_or_not (suc m.facts) (λ i. after m q c k (thing m.facts i)) (λ i. after m q c (suc k) (thing m.facts i)))

steps : (m : Meaning) → Lawful m → (q : Question) (c k : ℕ) → EndsBefore m q c k ⊎ GainsUntil m q c k
unfolding EndsBefore GainsUntil
steps m l q c zero = inr (omega arith, λ i lt. absurd (omega (arith, lt)))
steps m l q c (suc k) = step m l q c k (steps m l q c k)

-- the first round that adds nothing, all before it gaining
pub record Ending (m : Meaning) (q : Question) (c : ℕ) : Type 0 where
  pub round_number : ℕ
  pub few : round_number ≤ m.facts + 1
  pub still : Still m (after m q c round_number)
  pub gain : (i : ℕ) → i < round_number → (x : Conclusion) × (after m q c i x ≡ false) × (after m q c (suc i) x ≡ true)

pub ending : (m : Meaning) → Lawful m → (q : Question) (c : ℕ) → Ending m q c
unfolding EndsBefore GainsUntil size
ending m l q c =
    ⊎_elim (λ (e : EndsBefore m q c (m.facts + 2)). record { round_number = e.0; few = omega (arith, e.1); still = e.2; gain = e.3 })
    (λ (g : GainsUntil m q c (m.facts + 2)). absurd (omega (arith, g.0, count_few (suc m.facts) (λ i. after m q c (m.facts + 2) (thing m.facts i)))))
    (steps m l q c (m.facts + 2))
