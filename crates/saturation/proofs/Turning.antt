-- A round and the next: what settling says of the sets, and rounds one after the other.
use Rattle.std.proofs.Common.{◌≡◌, ℕ, suc, ◌+◌, ◌^◌, ◌<◌, ◌≤◌, Bool, true, false, ◌≢◌, ◌⊎◌, ◌↔◌, List, length, get_or, Some, sym, refl, ap, ◌∙◌, subst, inl, inr, ⊎_elim, arith}
use Rattle.std.proofs.lemmas.Bool.{both_ways, cases_eq, cases_lt, or_left}
use Rattle.diagrams.specs.declared.Row.{Row}
use Rattle.theory.specs.declared.Conclusion.{Conclusion}
use Rattle.theory.specs.declared.Conclusion.TheVariants.{Fact, Contradiction}
use Rattle.theory.specs.declared.Rule.{Rule}
use Rattle.theory.specs.Theory.{Meaning, Lawful}
use Rattle.theory.specs.Rounds.{Question, round, start, after}
use Rattle.diagrams.specs.Diagram.{Choices, Part, RowOf, Sound, member}
use Rattle.diagrams.proofs.Canonical.{equal_sets_one_number}
use Rattle.diagrams.proofs.InUse.{differ_or_agree}
use Rattle.diagrams.proofs.Positions.{constant_rowless}
use Rattle.saturation.specs.Working.{Changes, Made, Working, position, predicate, goal, premises, concluded}
use Rattle.saturation.specs.Stages.{Family, slot, Known, Half, RoundSet, premises_set, conclusion_set, StartSet, position_set, predicate_set, Progress, TooMany, InRound, BothHalves, Settled, Turned, RoundsSet, AfterRounds, QuietAt, Saturated}
use Rattle.saturation.proofs.Closing.{round_from, some_not_none, ending}
use Rattle.saturation.proofs.RoundCount.{still_later, first_quiet}
use Rattle.saturation.proofs.Saturating.{quiet_still, derives_at, no_progress, progress_on, same_progress, same_rows, too_many_more, too_many_since}
use Rattle.saturation.proofs.Placing.{concluded_known}

-- each slot is that of a fact or of the contradiction
in_slot : (facts k : ℕ) → k < facts + 1 → (x : Conclusion) × Known facts x × (slot facts x ≡ k)
in_slot facts k lt = ⊎_elim (λ less. (Fact k, less, refl)) (λ le. (Contradiction, tt, omega (arith, lt, le))) (cases_lt k facts)

-- where two tests differ and the second has all that the first has, it has more
gained : (a b : Bool) → a ≢ b → (a ≡ true → b ≡ true) → (a ≡ false) × (b ≡ true)
gained true b ne more = absurd (ne (sym (more refl)))
gained false true ne more = (refl, refl)
gained false false ne more = absurd (ne refl)

module _ (m : Meaning) (l : Lawful m) (S : Family) {rows₀ : List Row} {count₀ : ℕ} {rows : List Row} {count : ℕ} {standing gathered standing' gathered' : List ℕ} {changed : Bool}
    (h : InRound m S m.places rows₀ count₀ rows count standing gathered) (t : Settled standing gathered standing' gathered' changed) where
  some_changed : (x : Conclusion) → Known m.facts x → get_or standing (slot m.facts x) 0 ≢ get_or gathered (slot m.facts x) 0
      → (c : ℕ) × (c < 2 ^ 16) × ((x : Conclusion) × (S c x ≡ false) × (round m (S c) x ≡ true))
  some_changed x known ne =
      let old = h.olds x known in
      let new = h.news x known in
      ⊎_elim
      (λ d. let c = d.0 in let g = gained (S c x) (round m (S c) x) (λ e. d.2 (old.reads c ∙ e ∙ sym (new.reads c))) (or_left (S c x) _) in (c, d.1, (x, g.0, g.1)))
      (λ same. absurd (ne (equal_sets_one_number rows count h.progress.sound _ _ old.held new.held same)))
      (differ_or_agree 65536 (member rows (get_or standing (slot m.facts x) 0)) (member rows (get_or gathered (slot m.facts x) 0)))

  none_changed : changed ≡ false → (c : ℕ) (x : Conclusion) → round m (S c) x ≡ true → S c x ≡ true
  none_changed off c x on = ⊎_elim (λ e. e)
      (λ p. let known : Known m.facts x = subst (Known m.facts) p.4 (concluded_known m.facts p.1 (l.bounds.names p.0 p.1 p.2)) in
      sym ((h.olds x known).reads c) ∙ ap (λ z. member rows (get_or z (slot m.facts x) 0) c) (t.agreed off) ∙ (h.news x known).reads c ∙ on)
      (round_from m (S c) x on)

  pub round_settled : length gathered ≡ m.facts + 1 → Turned m S rows₀ count₀ rows count standing' gathered' changed
  round_settled long = record {
    halves = record {
      olds = subst (λ z. Half m.facts rows count z (λ c. round m (S c))) (sym t.taken) h.news;
      news = subst (λ z. Half m.facts rows count z (λ c. round m (S c))) (sym t.kept) h.news;
    };
    progress = h.progress;
    differed = λ on. let d = t.differed on in
        let i = in_slot m.facts d.0 (omega (arith, d.1, long)) in
        some_changed i.0 i.1 (subst (λ k. get_or standing k 0 ≢ get_or gathered k 0) (sym i.2) d.2);
    agreed = none_changed;
  }

module _ (m : Meaning) (q : Question) where
  no_rounds_set : (s : Choices) → RoundsSet m q 0 s → ⊥
  no_rounds_set s t = omega (arith, t.1)

  pub rounds_begin : {rows : List Row} {count : ℕ} {standing gathered : List ℕ} → Sound rows count → BothHalves m.facts rows count standing gathered (λ c. start m q c) → AfterRounds m q 0 rows count rows count standing gathered
  unfolding after
  rounds_begin {rows} {count} sound h = record {
    halves = h;
    made = λ j lt. absurd (omega (arith, lt));
    progress = same_progress rows count rows count (λ _. ⊥) (RoundsSet m q 0) (λ s. ((λ b. absurd b), λ d. absurd (no_rounds_set s d))) (no_progress rows count sound);
  }

  made_before : (k j : ℕ) → j ≤ k → Made m q k → Made m q j
  made_before k j le made i lt = made i (omega (arith, lt, le))

  round_working : (k : ℕ) → Made m q k → (i : ℕ) (s : Choices) → RoundSet m (λ c. after m q c k) i s → Working m q s
  round_working k made i s (premises_set j r lt e) = premises k j r made e
  round_working k made i s (conclusion_set j r lt e) = concluded k j r made e

  rounds_working : (k j : ℕ) → j ≤ suc k → Made m q k → (s : Choices) → RoundsSet m q j s → Working m q s
  rounds_working k j le made s t = round_working t.0 (made_before k t.0 (omega (arith, le, t.1)) made) m.places s t.2

  one_round : (k : ℕ) (s : Choices) → (RoundsSet m q k s ⊎ RoundSet m (λ c. after m q c k) m.places s) ↔ RoundsSet m q (suc k) s
  one_round k s = (
    ⊎_elim (λ t. (t.0, omega (arith, t.1), t.2)) (λ d. (k, omega arith, d)),
    λ t. ⊎_elim (λ e. inr (subst (λ j. RoundSet m (λ c. after m q c j) m.places s) e t.2)) (λ ne. inl (t.0, omega (arith, t.1, ne), t.2)) (cases_eq t.0 k),
  )

  module _ {k : ℕ} {rows₀ : List Row} {count₀ : ℕ} {rows : List Row} {count : ℕ} {standing gathered : List ℕ} (h : AfterRounds m q k rows₀ count₀ rows count standing gathered) where
    pub round_full : TooMany rows count (RoundSet m (λ c. after m q c k) m.places) → TooMany rows₀ count₀ (Working m q)
    round_full t = too_many_since (RoundsSet m q k) (Working m q) h.progress (rounds_working k k (omega arith) h.made)
        (λ x. (s : Choices) × RoundSet m (λ c. after m q c k) m.places s × RowOf s x) (λ x d. (d.0, round_working k h.made m.places d.0 d.1, d.2)) t

    module _ {rows' : List Row} {count' : ℕ} {standing' gathered' : List ℕ} where
      progress_here : {changed : Bool} → Turned m (λ c. after m q c k) rows count rows' count' standing' gathered' changed → Progress rows₀ count₀ rows' count' (RoundsSet m q (suc k))
      progress_here t = same_progress rows₀ count₀ rows' count' (λ s. RoundsSet m q k s ⊎ RoundSet m (λ c. after m q c k) m.places s) (RoundsSet m q (suc k)) (one_round k)
          (progress_on (RoundsSet m q k) (RoundSet m (λ c. after m q c k) m.places) h.progress t.progress)

      changes : Turned m (λ c. after m q c k) rows count rows' count' standing' gathered' true → Changes m q k
      unfolding after
      changes t = t.differed refl

      pub one_round_more : Turned m (λ c. after m q c k) rows count rows' count' standing' gathered' true → AfterRounds m q (suc k) rows₀ count₀ rows' count' standing' gathered'
      unfolding after
      one_round_more t = record {
        halves = t.halves;
        made = λ j lt. ⊎_elim (λ e. subst (Changes m q) (sym e) (changes t)) (λ ne. h.made j (omega (arith, lt, ne))) (cases_eq j k);
        progress = progress_here t;
      }

      no_changes : Turned m (λ c. after m q c k) rows count rows' count' standing' gathered' false → Changes m q k → ⊥
      unfolding after
      no_changes t d = let g = d.2 in both_ways (after m q d.0 k g.0) g.1 (t.agreed refl d.0 g.0 g.2)

      pub rounds_quiet : Turned m (λ c. after m q c k) rows count rows' count' standing' gathered' false → QuietAt m q rows₀ count₀ rows' count' (get_or standing' m.facts 0) k
      unfolding after
      rounds_quiet t = record { made = h.made; quiet = no_changes t; stands = t.halves.olds Contradiction tt; progress = progress_here t }

  module _ (l : Lawful m) where
    -- there are no more rounds than that
    pub few_made : Made m q (m.facts + 2) → ⊥
    unfolding after
    few_made made =
        let d = made (m.facts + 1) (omega arith) in
        let e = ending m l q d.0 in
        let g = d.2 in
        both_ways (after m q d.0 (m.facts + 1) g.0) g.1 (still_later m q l d.0 e.round_number (m.facts + 1) e.few e.still g.0 g.2)

    not_after : {n k j : ℕ} {rows : List Row} {count : ℕ} {rows' : List Row} {count' : ℕ} → QuietAt m q rows count rows' count' n k → Made m q j → j < suc k
    not_after {k = k} {j = j} h made = ⊎_elim (λ lt. lt) (λ le. absurd (h.quiet (made k (omega (arith, le))))) (cases_lt j (suc k))

    placed : (i : ℕ) (r : Rule) → m.rule i ≡ Some r → i < m.places
    placed i r e = ⊎_elim (λ lt. lt) (λ le. absurd (some_not_none (m.rule i) r e (l.bounds.no_place i le))) (cases_lt i m.places)

    start_working : (s : Choices) → StartSet q.predicates (length q.predicates) s → Working m q s
    start_working s (position_set j lt) = position j lt
    start_working s (predicate_set j lt) = predicate j lt

    pub start_full : (rows : List Row) (count : ℕ) → TooMany rows count (StartSet q.predicates (length q.predicates)) → TooMany rows count (Working m q)
    start_full rows count t = too_many_more rows count (StartSet q.predicates (length q.predicates)) (Working m q) start_working t

    module _ {rows : List Row} {count : ℕ} {rows₁ : List Row} {count₁ : ℕ} (p : Progress rows count rows₁ count₁ (StartSet q.predicates (length q.predicates))) where
      pub rounds_full : TooMany rows₁ count₁ (Working m q) → TooMany rows count (Working m q)
      rounds_full t = too_many_since (StartSet q.predicates (length q.predicates)) (Working m q) p start_working (λ x. (s : Choices) × Working m q s × RowOf s x) (λ x d. d) t

      module _ {rows₂ : List Row} {count₂ n k : ℕ} (h : QuietAt m q rows₁ count₁ rows₂ count₂ n k) where
        abbrev All : Choices → Type 0
        All s = StartSet q.predicates (length q.predicates) s ⊎ RoundsSet m q (suc k) s

        from_working : (x : Part) (s : Choices) → Working m q s → RowOf s x → (t : Choices) × All t × RowOf t x
        from_working x s (position j lt) row = (s, inl (position_set j lt), row)
        from_working x s (predicate j lt) row = (s, inl (predicate_set j lt), row)
        from_working x s (goal j lt) row = absurd (constant_rowless (λ c. true) true (λ c. refl) x row)
        from_working x s (premises j i r made e) row = (s, inr (j, not_after h made, premises_set i r (placed i r e) e), row)
        from_working x s (concluded j i r made e) row = (s, inr (j, not_after h made, conclusion_set i r (placed i r e) e), row)

        to_working : (x : Part) (s : Choices) → All s → RowOf s x → (t : Choices) × Working m q t × RowOf t x
        to_working x s a row = (s, ⊎_elim (start_working s) (rounds_working k (suc k) (omega arith) h.made s) a, row)

        -- all of it
        pub saturated : Saturated m q rows count rows₂ count₂ n k
        saturated = record {
          progress = same_rows All (Working m q) to_working from_working (progress_on (StartSet q.predicates (length q.predicates)) (RoundsSet m q (suc k)) p h.progress);
          held = h.stands.held;
          belong = λ c lt.
              let d = derives_at m q l c (suc k) (still_later m q l c k (suc k) (omega arith) (quiet_still m q l k h.quiet c lt)) in
              (λ on. d.0 (sym (h.stands.reads c) ∙ on), λ der. h.stands.reads c ∙ d.1 der);
          rounds = first_quiet m q l k h.made h.quiet;
        }
