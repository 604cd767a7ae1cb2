-- What stands stays as rows are added, and one place of a round after the other.
use Rattle.std.proofs.Common.{◌≡◌, ℕ, suc, ◌+◌, ◌<◌, ◌≤◌, Bool, true, false, ◌&&◌, ◌||◌, ◌⊎◌, ◌↔◌, List, length, get_or, set, Some, None, Option, sym, refl, ap, ◌∙◌, subst, ap₂, inl, inr, ⊎_elim, arith, get_or-set_other, get_or-set_same}
use mathlib.Core.Path.{fun_ext}
use Rattle.std.proofs.lemmas.Bool.{both_ways, cases_Bool, cases_eq}
use Rattle.diagrams.specs.declared.Row.{Row}
use Rattle.diagrams.specs.declared.Operation.TheVariants.{Union}
use Rattle.theory.specs.declared.Conclusion.{Conclusion}
use Rattle.theory.specs.declared.Conclusion.TheVariants.{Fact, Contradiction}
use Rattle.theory.specs.declared.Rule.{Rule}
use Rattle.theory.specs.declared.Rule.TheVariants.{Always, From, Both}
use Rattle.theory.specs.Theory.{Meaning, Names, conclusion, premised}
use Rattle.theory.specs.Counting.{MoreThan}
use Rattle.theory.specs.Rounds.{some_below, facts_of, same, gives}
use Rattle.diagrams.specs.Diagram.{Choices, RowOf, InUse, Sound, row_at, member}
use Rattle.diagrams.specs.Making.{Adds}
use Rattle.diagrams.specs.Books.{capacity, union_or_intersection}
use Rattle.diagrams.proofs.Kept.{member_kept}
use Rattle.saturation.specs.Stages.{Family, slot, Known, Stands, Half, gathered_from, RoundSet, premises_set, conclusion_set, TooMany, InRound, BothHalves}
use Rattle.saturation.proofs.Closing.{same_true, same_self}
use Rattle.saturation.proofs.Saturating.{no_progress, set_made, progress_on, same_progress, too_many_since}

pub stands_later : {rows : List Row} {count : ℕ} {rows' : List Row} {count' : ℕ} → Sound rows count → ((r : ℕ) → r < count → row_at rows' r ≡ row_at rows r) → count ≤ count'
    → {n : ℕ} {s : Choices} → Stands rows count n s → Stands rows' count' n s
stands_later {rows} {count} {rows'} {count'} sound stay more {n} {s} h = record { held = omega (arith, h.held, more); reads = λ c. member_kept rows rows' count sound stay n c h.held ∙ h.reads c }

pub half_later : {rows : List Row} {count : ℕ} {rows' : List Row} {count' : ℕ} → Sound rows count → ((r : ℕ) → r < count → row_at rows' r ≡ row_at rows r) → count ≤ count'
    → (facts : ℕ) (numbers : List ℕ) (S : Family) → Half facts rows count numbers S → Half facts rows' count' numbers S
half_later sound stay more facts numbers S h x known = stands_later sound stay more (h x known)

-- the numbers may stand elsewhere, and the sets be named otherwise
pub stands_same : {rows : List Row} {count : ℕ} {n n' : ℕ} {s s' : Choices} → n' ≡ n → ((c : ℕ) → s c ≡ s' c) → Stands rows count n s → Stands rows count n' s'
stands_same {rows} {count} {n} {n'} e same h = record { held = omega (arith, e, h.held); reads = λ c. ap (λ z. member rows z c) e ∙ h.reads c ∙ same c }

pub slot_below : (facts : ℕ) (x : Conclusion) → Known facts x → slot facts x < facts + 1
slot_below facts (Fact f) lt = omega (arith, lt)
slot_below facts Contradiction known = omega arith

slots_apart : (facts : ℕ) (x y : Conclusion) → Known facts x → Known facts y → slot facts x ≡ slot facts y → x ≡ y
slots_apart facts (Fact f) (Fact g) hx hy e = ap Fact e
slots_apart facts (Fact f) Contradiction hx hy e = absurd (omega (arith, hx, e))
slots_apart facts Contradiction (Fact g) hx hy e = absurd (omega (arith, hy, e))
slots_apart facts Contradiction Contradiction hx hy e = refl

-- what a rule concludes is known
pub concluded_known : (facts : ℕ) (r : Rule) → Names facts r → Known facts (conclusion r)
concluded_known facts (Always (Fact f)) names = names f refl
concluded_known facts (Always Contradiction) names = tt
concluded_known facts (From a (Fact f)) names = names.1 f refl
concluded_known facts (From a Contradiction) names = tt
concluded_known facts (Both a b (Fact f)) names = names.2 f refl
concluded_known facts (Both a b Contradiction) names = tt

pub or_here : (a b p : Bool) → (a || b) || p ≡ a || ((p && true) || b)
or_here true b p = refl
or_here false true true = refl
or_here false true false = refl
or_here false false true = refl
or_here false false false = refl

pub or_other : (a b p : Bool) → a || b ≡ a || ((p && false) || b)
or_other a b true = refl
or_other a b false = refl

module _ (m : Meaning) (S : Family) (i : ℕ) where
  gathered_none : m.rule i ≡ None → (x : Conclusion) (c : ℕ) → gathered_from m S i x c ≡ gathered_from m S (suc i) x c
  gathered_none e x c = ap (λ (o : Option Rule). S c x || (gives (S c) o x || some_below i (λ j. gives (S c) (m.rule j) x))) (sym e)

  module _ (r : Rule) (e : m.rule i ≡ Some r) where
    gathered_same : (x : Conclusion) (t : Bool) → same (conclusion r) x ≡ t → (c : ℕ)
        → S c x || ((premised (facts_of (S c)) r && t) || some_below i (λ j. gives (S c) (m.rule j) x)) ≡ gathered_from m S (suc i) x c
    gathered_same x t is c =
        ap (λ (z : Bool). S c x || ((premised (facts_of (S c)) r && z) || some_below i (λ j. gives (S c) (m.rule j) x))) (sym is)
        ∙ ap (λ (o : Option Rule). S c x || (gives (S c) o x || some_below i (λ j. gives (S c) (m.rule j) x))) (sym e)

    gathered_here : (c : ℕ) → gathered_from m S i (conclusion r) c || premised (facts_of (S c)) r ≡ gathered_from m S (suc i) (conclusion r) c
    gathered_here c = or_here (S c (conclusion r)) _ (premised (facts_of (S c)) r) ∙ gathered_same (conclusion r) true (same_self (conclusion r)) c

    gathered_other : (x : Conclusion) → same (conclusion r) x ≡ false → (c : ℕ) → gathered_from m S i x c ≡ gathered_from m S (suc i) x c
    gathered_other x is c = or_other (S c x) _ (premised (facts_of (S c)) r) ∙ gathered_same x false is c

pub round_set_more : (m : Meaning) (S : Family) (i j : ℕ) → i ≤ j → (s : Choices) → RoundSet m S i s → RoundSet m S j s
round_set_more m S i j le s (premises_set k r lt e) = premises_set k r (omega (arith, lt, le)) e
round_set_more m S i j le s (conclusion_set k r lt e) = conclusion_set k r (omega (arith, lt, le)) e

some_not_none : (r : Rule) → ◌≡◌ {A = Option Rule} (Some r) None → ⊥
some_not_none r e = let z : ◌≡◌ {A = ℕ} 0 1 = cc in omega arith

same_rule : (r r' : Rule) → ◌≡◌ {A = Option Rule} (Some r) (Some r') → r ≡ r'
same_rule r r' e = cc

-- the sets of one place more
set_split : (m : Meaning) (S : Family) (i : ℕ) (s : Choices) → RoundSet m S (suc i) s
    → RoundSet m S i s ⊎ ((r : Rule) × (m.rule i ≡ Some r) × ((s ≡ (λ c. premised (facts_of (S c)) r)) ⊎ (s ≡ gathered_from m S (suc i) (conclusion r))))
set_split m S i s (premises_set j r lt e) =
    ⊎_elim (λ q. inr (r, subst (λ z. m.rule z ≡ Some r) q e, inl refl)) (λ ne. inl (premises_set j r (omega (arith, lt, ne)) e)) (cases_eq j i)
set_split m S i s (conclusion_set j r lt e) =
    ⊎_elim (λ q. inr (r, subst (λ z. m.rule z ≡ Some r) q e, inr (ap (λ z. gathered_from m S (suc z) (conclusion r)) q))) (λ ne. inl (conclusion_set j r (omega (arith, lt, ne)) e)) (cases_eq j i)

no_set : (m : Meaning) (S : Family) (s : Choices) → RoundSet m S 0 s → ⊥
no_set m S s (premises_set j r lt e) = omega (arith, lt)
no_set m S s (conclusion_set j r lt e) = omega (arith, lt)

pub or_false : (a : Bool) → a ≡ a || false
or_false true = refl
or_false false = refl

-- before the first place
pub round_begins : (m : Meaning) (S : Family) (rows : List Row) (count : ℕ) (standing gathered : List ℕ) → Sound rows count → BothHalves m.facts rows count standing gathered S → InRound m S 0 rows count rows count standing gathered
round_begins m S rows count standing gathered sound h = record {
  olds = h.olds;
  news = λ x known. stands_same refl (λ c. or_false (S c x)) (h.news x known);
  progress = same_progress rows count rows count (λ _. ⊥) (RoundSet m S 0) (λ s. ((λ b. absurd b), λ d. absurd (no_set m S s d))) (no_progress rows count sound);
}

module _ (m : Meaning) (S : Family) (i : ℕ) {rows₀ : List Row} {count₀ : ℕ} {rows : List Row} {count : ℕ} {standing gathered : List ℕ} (h : InRound m S i rows₀ count₀ rows count standing gathered) where
  -- an empty place
  pub place_empty : m.rule i ≡ None → InRound m S (suc i) rows₀ count₀ rows count standing gathered
  place_empty e = record {
    olds = h.olds;
    news = λ x known. stands_same refl (gathered_none m S i e x) (h.news x known);
    progress = same_progress rows₀ count₀ rows count (RoundSet m S i) (RoundSet m S (suc i))
        (λ s. (round_set_more m S i (suc i) (omega arith) s, λ d. ⊎_elim (λ u. u) (λ t. absurd (some_not_none t.0 (sym t.1 ∙ e))) (set_split m S i s d))) h.progress;
  }

  module _ (r : Rule) (e : m.rule i ≡ Some r) where
    abbrev together : Choices
    together c = premised (facts_of (S c)) r

    -- the premises' set does not fit
    pub premises_full : MoreThan (capacity rows) (λ x. InUse rows count x ⊎ RowOf together x) → TooMany rows₀ count₀ (RoundSet m S (suc i))
    premises_full t = too_many_since (RoundSet m S i) (RoundSet m S (suc i)) h.progress (round_set_more m S i (suc i) (omega arith)) (RowOf together) (λ x row. (together, premises_set i r (omega arith) e, row)) t

    module _ (names : Names m.facts r) {rows₁ : List Row} {count₁ n₁ : ℕ} (a : Adds rows count rows₁ count₁ together n₁) where
      abbrev at : ℕ
      at = slot m.facts (conclusion r)

      abbrev union : Choices
      union = union_or_intersection Union rows₁ (get_or gathered at 0) n₁

      sound : Sound rows count
      sound = h.progress.sound

      olds₁ : Half m.facts rows₁ count₁ standing S
      olds₁ = half_later sound a.stay a.more m.facts standing S h.olds

      news₁ : Half m.facts rows₁ count₁ gathered (λ c x. gathered_from m S i x c)
      news₁ = half_later sound a.stay a.more m.facts gathered (λ c x. gathered_from m S i x c) h.news

      union_is : union ≡ gathered_from m S (suc i) (conclusion r)
      union_is = fun_ext (λ c. ap₂ ◌||◌ ((news₁ (conclusion r) (concluded_known m.facts r names)).reads c) (a.reads c) ∙ gathered_here m S i r e c)

      -- what the place has gathered, and its number, are held
      pub place_held : (get_or gathered at 0 < count₁ + 2) × (n₁ < count₁ + 2)
      place_held = ((news₁ (conclusion r) (concluded_known m.facts r names)).held, a.held)

      -- their union does not fit
      pub union_full : MoreThan (capacity rows₁) (λ x. InUse rows₁ count₁ x ⊎ RowOf union x) → TooMany rows₀ count₀ (RoundSet m S (suc i))
      union_full t = too_many_since (λ s. RoundSet m S i s ⊎ (s ≡ together)) (RoundSet m S (suc i)) (progress_on (RoundSet m S i) (λ s. s ≡ together) h.progress (set_made together n₁ a))
          (λ s. ⊎_elim (round_set_more m S i (suc i) (omega arith) s) (λ q. subst (RoundSet m S (suc i)) (sym q) (premises_set i r (omega arith) e)))
          (RowOf union) (λ x row. (gathered_from m S (suc i) (conclusion r), conclusion_set i r (omega arith) e, subst (λ z. RowOf z x) union_is row)) t

      module _ {rows₂ : List Row} {count₂ n₂ : ℕ} (b : Adds rows₁ count₁ rows₂ count₂ union n₂) (room : at < length gathered) where
        abbrev gathered₂ : List ℕ
        gathered₂ = set gathered at n₂

        new_number : Half m.facts rows₂ count₂ gathered₂ (λ c x. gathered_from m S (suc i) x c)
        new_number x known = ⊎_elim
            (λ on. let q : conclusion r ≡ x = same_true (conclusion r) x on in
            subst (λ z. Stands rows₂ count₂ (get_or gathered₂ (slot m.facts z) 0) (λ c. gathered_from m S (suc i) z c)) q
            (stands_same {s = union} (get_or-set_same gathered at n₂ 0 room) (λ c. ap (λ (f : Choices). f c) union_is) (record { held = b.held; reads = b.reads })))
            (λ off. stands_same {s = λ c. gathered_from m S i x c} (get_or-set_other gathered at (slot m.facts x) n₂ 0 (λ q.
            let w : conclusion r ≡ x = slots_apart m.facts (conclusion r) x (concluded_known m.facts r names) known (sym q) in
            both_ways (same (conclusion r) x) off (subst (λ z. same (conclusion r) z ≡ true) w (same_self (conclusion r)))))
            (gathered_other m S i r e x off) (stands_later a.sound b.stay b.more (news₁ x known)))
            (cases_Bool (same (conclusion r) x))

        set_here : (s : Choices) → ((RoundSet m S i s ⊎ (s ≡ together)) ⊎ (s ≡ union)) ↔ RoundSet m S (suc i) s
        set_here s = (
          ⊎_elim (⊎_elim (round_set_more m S i (suc i) (omega arith) s) (λ q. subst (RoundSet m S (suc i)) (sym q) (premises_set i r (omega arith) e)))
              (λ q. subst (RoundSet m S (suc i)) (sym (q ∙ union_is)) (conclusion_set i r (omega arith) e)),
          λ d. ⊎_elim (λ u. inl (inl u))
              (λ t. let q : t.0 ≡ r = same_rule t.0 r (sym t.1 ∙ e) in
              ⊎_elim (λ w. inl (inr (w ∙ ap (λ z c. premised (facts_of (S c)) z) q))) (λ w. inr (w ∙ ap (λ z. gathered_from m S (suc i) (conclusion z)) q ∙ sym union_is)) t.2)
              (set_split m S i s d),
        )

        -- one place more
        pub place_done : InRound m S (suc i) rows₀ count₀ rows₂ count₂ standing gathered₂
        place_done = record {
          olds = half_later a.sound b.stay b.more m.facts standing S olds₁;
          news = new_number;
          progress = same_progress rows₀ count₀ rows₂ count₂ (λ s. (RoundSet m S i s ⊎ (s ≡ together)) ⊎ (s ≡ union)) (RoundSet m S (suc i)) set_here
              (progress_on (λ s. RoundSet m S i s ⊎ (s ≡ together)) (λ s. s ≡ union) (progress_on (RoundSet m S i) (λ s. s ≡ together) h.progress (set_made together n₁ a)) (set_made union n₂ b));
        }
