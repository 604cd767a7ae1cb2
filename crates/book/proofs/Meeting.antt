-- What a rule's premises have together, and what a slot has after it has gathered.
use Rattle.std.proofs.Common.{◌≡◌, ℕ, suc, ◌+◌, ◌-◌, ◌<◌, Bool, true, false, ◌&&◌, List, length, get_or, IfOk, Some, None, Ok, Err, Option, Result, sym, refl, ap, ◌∙◌, subst, ap₂, arith, MatchResult}
use mathlib.Core.Path.{fun_ext}
use Rattle.theory.specs.declared.Conclusion.{Conclusion}
use Rattle.theory.specs.declared.Conclusion.TheVariants.{Fact}
use Rattle.theory.specs.declared.Rule.{Rule}
use Rattle.theory.specs.declared.Rule.TheVariants.{Always, From, Both}
use Rattle.theory.specs.Theory.{Facts, Meaning, Names, conclusion, premised}
use Rattle.theory.specs.Rounds.{bit, facts_of}
use Rattle.diagrams.specs.declared.Row.{Row}
use Rattle.diagrams.specs.declared.NoRoom.{NoRoom}
use Rattle.diagrams.specs.declared.Operation.TheVariants.{Intersection}
use Rattle.diagrams.specs.Diagram.{Sound, Choices, member}
use Rattle.diagrams.specs.Making.{Adds}
use Rattle.diagrams.specs.Books.{union_or_intersection}
use Rattle.diagrams.specs.Applying.{Applies}
use Rattle.diagrams.proofs.Applied.{plain}
use Rattle.diagrams.proofs.Shortening.{member_1}
use Rattle.saturation.specs.Stages.{Family, slot, StartSet, RoundSet, TooMany, InRound, Started}
use Rattle.saturation.proofs.Placing.{union_full, place_done}
use Rattle.saturation.proofs.Starting.{position_done, union_full as position-union-full}
use Rattle.register.specs.declared.Register.{Register}
use Rattle.book.specs.Steps.{asked_for, Gathers, Meets}
use Rattle.book.specs.declared.work.Work.{Work}

-- a set has the premises of a rule exactly when it has what the rule asks for
abbrev has_asked : Facts → Option (record { 0 : ℕ; 1 : ℕ }) → Bool
has_asked s None = true
has_asked s (Some p) = s p.0 && s p.1

twice : (x : Bool) → x && x ≡ x
twice true = refl
twice false = refl

premised_asked : (s : Facts) (rule : Rule) → has_asked s (asked_for rule) ≡ premised s rule
premised_asked s (Always x) = refl
premised_asked s (From a x) = twice (s a)
premised_asked s (Both a b x) = refl

-- what a rule asks for are facts that it names
pub asked_named : (facts : ℕ) (rule : Rule) (p : record { 0 : ℕ; 1 : ℕ }) → Names facts rule → asked_for rule ≡ Some p → (p.0 < facts) × (p.1 < facts)
asked_named facts (Always x) p names e = absurd (let z : ◌≡◌ {A = ℕ} 0 1 = cc in omega arith)
asked_named facts (From a x) p names e = let h : ◌≡◌ {A = record { 0 : ℕ; 1 : ℕ }} (a, a) p = cc in subst (λ z. (z.0 < facts) × (z.1 < facts)) h (names.0, names.0)
asked_named facts (Both a b x) p names e = let h : ◌≡◌ {A = record { 0 : ℕ; 1 : ℕ }} (a, b) p = cc in subst (λ z. (z.0 < facts) × (z.1 < facts)) h (names.0, names.1)

module _ (r : Register Row) (sound : Sound r.rows.now r.count) (w : Work) (rule : Rule) where
  pub none_meet : asked_for rule ≡ None → Meets r w r rule (Ok 1)
  none_meet e facts S names h = subst (λ s. Applies r.rows.now r.count r.rows.now r.count s (Ok 1))
      (fun_ext (λ c. ap (has_asked (facts_of (S c))) (sym e) ∙ premised_asked (facts_of (S c)) rule))
      (plain r.rows.now r.count sound (λ c. true) 1 (omega arith) (member_1 r.rows.now))

  pub asked_meet : (a b x y : ℕ) → asked_for rule ≡ Some (a, b) → x ≡ get_or w.standing.now a 0 → y ≡ get_or w.standing.now b 0 → (r' : Register Row) (o : Result ℕ NoRoom)
      → Applies r.rows.now r.count r'.rows.now r'.count (union_or_intersection Intersection r.rows.now x y) o → Meets r w r' rule o
  asked_meet a b x y e is_x is_y r' o t facts S names h =
      let n = asked_named facts rule (a, b) names e in
      subst (λ s. Applies r.rows.now r.count r'.rows.now r'.count s o)
      (fun_ext (λ c. ap₂ ◌&&◌ (ap (λ z. member r.rows.now z c) is_x ∙ (h (Fact a) n.0).reads c) (ap (λ z. member r.rows.now z c) is_y ∙ (h (Fact b) n.1).reads c) ∙ ap (has_asked (facts_of (S c))) (sym e) ∙ premised_asked (facts_of (S c)) rule)) t

  -- the same by the three kinds of rule
  pub always_meets : (x : Conclusion) → rule ≡ Always x → Meets r w r rule (Ok 1)
  always_meets x e = subst (λ z. Meets r w r z (Ok 1)) (sym e) (λ facts S names h. plain r.rows.now r.count sound (λ c. true) 1 (omega arith) (member_1 r.rows.now))

  pub from_meets : (a : ℕ) (x : Conclusion) → rule ≡ From a x → Meets r w r rule (Ok (get_or w.standing.now a 0))
  from_meets a x e = subst (λ z. Meets r w r z (Ok (get_or w.standing.now a 0))) (sym e)
      (λ facts S names h. let s = h (Fact a) names.0 in plain r.rows.now r.count sound (λ c. S c (Fact a)) (get_or w.standing.now a 0) s.held s.reads)

  pub both_meet : (a b : ℕ) (x : Conclusion) → rule ≡ Both a b x → (r' : Register Row) (o : Result ℕ NoRoom)
      → Applies r.rows.now r.count r'.rows.now r'.count (union_or_intersection Intersection r.rows.now (get_or w.standing.now a 0) (get_or w.standing.now b 0)) o → Meets r w r' rule o
  both_meet a b x e r' o t = subst (λ z. Meets r w r' z o) (sym e)
      (λ facts S names h. subst (λ s. Applies r.rows.now r.count r'.rows.now r'.count s o) (fun_ext (λ c. ap₂ ◌&&◌ ((h (Fact a) names.0).reads c) ((h (Fact b) names.1).reads c))) t)

-- the number of a set that was made is held
pub made_held : (rows : List Row) (count : ℕ) (rows' : List Row) (count' : ℕ) (s : Choices) (o : Result ℕ NoRoom) → Applies rows count rows' count' s o → IfOk o (λ n. n < count' + 2)
made_held rows count rows' count' s (Ok n) a = a.held
made_held rows count rows' count' s (Err e) a = tt

-- a place is done, or its rows do not fit
pub place_gathered : {A E : Type 0} (m : Meaning) (S : Family) (i : ℕ) {rows₀ : List Row} {count₀ : ℕ} {rows : List Row} {count : ℕ} {standing gathered : List ℕ} (h : InRound m S i rows₀ count₀ rows count standing gathered)
    (r : Rule) → m.rule i ≡ Some r → Names m.facts r → (r₁ : Register Row) {n₁ : ℕ} → Adds rows count r₁.rows.now r₁.count (λ c. premised (facts_of (S c)) r) n₁
    → (at : ℕ) → at ≡ slot m.facts (conclusion r) → at < length gathered → (r₂ : Register Row) (gathered₂ : List ℕ) (o : Result A E)
    → Gathers r₁ gathered r₂ gathered₂ at n₁ o
    → MatchResult o (λ _. InRound m S (suc i) rows₀ count₀ r₂.rows.now r₂.count standing gathered₂) (λ _. TooMany rows₀ count₀ (RoundSet m S (suc i)))
place_gathered {A} {E} m S i {rows₀} {count₀} {rows} {count} {standing} {gathered} h r e names r₁ {n₁} a at is room r₂ gathered₂ (Ok u) g =
    let g' = subst (λ z. Gathers {A = A} {E = E} r₁ gathered r₂ gathered₂ z n₁ (Ok u)) is g in
    subst (λ z. InRound m S (suc i) rows₀ count₀ r₂.rows.now r₂.count standing z) (sym g'.2) (place_done m S i h r e names a g'.1 (omega (arith, is, room)))
place_gathered {A} {E} m S i {rows₀} {count₀} {rows} {count} {standing} {gathered} h r e names r₁ {n₁} a at is room r₂ gathered₂ (Err u) g =
    union_full m S i h r e names a (subst (λ z. Gathers {A = A} {E = E} r₁ gathered r₂ gathered₂ z n₁ (Err u)) is g).1

-- a position is done, or its rows do not fit
pub position_gathered : {A E : Type 0} (facts : ℕ) (ps : List ℕ) (k : ℕ) {rows₀ : List Row} {count₀ : ℕ} {rows : List Row} {count : ℕ} {standing : List ℕ} (h : Started facts ps k rows₀ count₀ rows count standing)
    → (r₁ : Register Row) {n₁ : ℕ} → Adds rows count r₁.rows.now r₁.count (λ c. bit c k) n₁
    → (p : ℕ) → get_or ps k 0 ≡ p → p < facts → p < length standing → (r₂ : Register Row) (standing₂ : List ℕ) (o : Result A E)
    → Gathers r₁ standing r₂ standing₂ p n₁ o
    → MatchResult o (λ _. Started facts ps (suc k) rows₀ count₀ r₂.rows.now r₂.count standing₂) (λ _. TooMany rows₀ count₀ (StartSet ps (suc k)))
position_gathered facts ps k {rows₀} {count₀} h r₁ a p here known room r₂ standing₂ (Ok u) g =
    subst (λ z. Started facts ps (suc k) rows₀ count₀ r₂.rows.now r₂.count z) (sym g.2) (position_done facts ps k h a p here known g.1 room)
position_gathered facts ps k h r₁ a p here known room r₂ standing₂ (Err u) g = position-union-full facts ps k h a p here known g.1

-- a half has a number for each fact, and one for the contradiction
pub names_of : {n : ℕ} (facts : ℕ) (r : Rule) → n ≡ facts + 1 → Names (n - 1) r → Names facts r
names_of {n} facts r long names = let e : n - 1 ≡ facts = omega (arith, long) in subst (λ z. Names z r) e names

pub slot_of_known : {n : ℕ} (facts : ℕ) → n ≡ facts + 1 → (x : Conclusion) → slot (n - 1) x ≡ slot facts x
slot_of_known {n} facts long x = let e : n - 1 ≡ facts = omega (arith, long) in ap (λ z. slot z x) e
