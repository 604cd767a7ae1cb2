-- What a saturation needs: the quiet round decides, sets made one after the other add exactly their rows, and the last state is what a question leaves.
use Rattle.saturation.specs.Statements.{WorkingRow}
use Rattle.std.proofs.Common.{◌≡◌, ℕ, zero, suc, ◌+◌, ◌^◌, ◌<◌, ◌≤◌, true, ◌⊎◌, ◌↔◌, List, refl, ◌∙◌, subst, inl, inr, ⊎_elim, arith}
use mathlib.Core.Logic.Iff
use Rattle.std.proofs.lemmas.Bool.{cases_Bool, cases_lt}
use Rattle.diagrams.specs.declared.Row.{Row}
use Rattle.theory.specs.declared.Conclusion.{Conclusion}
use Rattle.theory.specs.declared.Conclusion.TheVariants.{Contradiction}
use Rattle.theory.specs.Theory.{Meaning, Lawful}
use Rattle.theory.specs.Counting.{MoreThan}
use Rattle.theory.specs.Rounds.{Question, after, Derives}
use Rattle.diagrams.specs.Diagram.{Choices, Part, RowOf, InUse, Sound}
use Rattle.saturation.specs.Working.{Working, Changes}
use Rattle.saturation.specs.Stages.{Progress, TooMany}
use Rattle.diagrams.specs.Making.{Adds}
use Rattle.diagrams.specs.Books.{Book, capacity, Keeps, Grows, Wanted}
use Rattle.saturation.proofs.Closing.{Still, later}
use Rattle.saturation.proofs.RoundCount.{still_later}
use Rattle.diagrams.proofs.Counted.{counts_iff}
use Rattle.diagrams.proofs.InUse.{counts_in_use}

module _ (m : Meaning) (q : Question) (l : Lawful m) where
  -- a round that changes no set adds nothing to any choice
  pub quiet_still : (k : ℕ) → (Changes m q k → ⊥) → (c : ℕ) → c < 2 ^ 16 → Still m (after m q c k)
  unfolding after
  quiet_still k quiet c lt x on = ⊎_elim (λ h. h) (λ off. absurd (quiet (c, lt, (x, off, on)))) (cases_Bool (after m q c k x))

  kept_on : (c k j : ℕ) (x : Conclusion) → k ≤ j → after m q c k x ≡ true → after m q c j x ≡ true
  kept_on c k zero x le h = subst (λ i. after m q c i x ≡ true) (omega arith) h
  kept_on c k (suc j) x le h = ⊎_elim (λ lt. later m q c j x (kept_on c k j x (omega (arith, lt)) h)) (λ ge. subst (λ i. after m q c i x ≡ true) (omega (arith, le, ge)) h) (cases_lt k (suc j))

  not_later : (c k d : ℕ) → Still m (after m q c k) → after m q c (k + d) Contradiction ≡ true → after m q c k Contradiction ≡ true
  unfolding after
  not_later c k zero still h = let e : k + 0 ≡ k = omega arith in subst (λ i. after m q c i Contradiction ≡ true) e h
  not_later c k (suc d) still h =
      let e : k + suc d ≡ suc (k + d) = omega arith in
      not_later c k d still (still_later m q l c k (k + d) (omega arith) still Contradiction (subst (λ i. after m q c i Contradiction ≡ true) e h))

  -- from the quiet round on, a choice belongs exactly when it has the contradiction
  pub derives_at : (c k : ℕ) → Still m (after m q c k) → (after m q c k Contradiction ≡ true) ↔ Derives m q c
  derives_at c k still = (
    λ h. (k, h),
    λ d. ⊎_elim (λ lt. kept_on c d.0 k Contradiction (omega (arith, lt)) d.1)
        (λ ge. let e : d.0 ≡ k + (Prim.Native.Nat.◌-◌ d.0 k) = omega (arith, ge) in not_later c k (Prim.Native.Nat.◌-◌ d.0 k) still (subst (λ i. after m q c i Contradiction ≡ true) e d.1))
        (cases_lt d.0 k),
  )

pub no_progress : (rows : List Row) (count : ℕ) → Sound rows count → Progress rows count rows count (λ _. ⊥)
no_progress rows count sound = record { long = refl; stay = λ r lt. refl; more = omega arith; sound = sound; exact = λ x. (inl, ⊎_elim (λ u. u) (λ t. absurd t.1)) }

-- one set made
pub set_made : {rows : List Row} {count : ℕ} {rows' : List Row} {count' : ℕ} (s : Choices) (n : ℕ) → Adds rows count rows' count' s n → Progress rows count rows' count' (λ t. t ≡ s)
set_made s n a = record {
  long = a.long;
  stay = a.stay;
  more = a.more;
  sound = a.sound;
  exact = λ x. Iff.trans (a.exact x) (⊎_elim inl (λ row. inr (s, refl, row)), ⊎_elim inl (λ t. inr (subst (λ z. RowOf z x) t.1 t.2)));
}

-- some sets made, and then others
pub progress_on : {rows : List Row} {count : ℕ} {rows₁ : List Row} {count₁ : ℕ} {rows₂ : List Row} {count₂ : ℕ} (D E : Choices → Type 0)
    → Progress rows count rows₁ count₁ D → Progress rows₁ count₁ rows₂ count₂ E → Progress rows count rows₂ count₂ (λ s. D s ⊎ E s)
progress_on D E p a = record {
  long = a.long ∙ p.long;
  stay = λ r lt. a.stay r (omega (arith, lt, p.more)) ∙ p.stay r lt;
  more = omega (arith, p.more, a.more);
  sound = a.sound;
  exact = λ x. (
    λ u. ⊎_elim (λ old. ⊎_elim inl (λ t. inr (t.0, inl t.1, t.2)) ((p.exact x).0 old)) (λ t. inr (t.0, inr t.1, t.2)) ((a.exact x).0 u),
    ⊎_elim (λ u. (a.exact x).1 (inl ((p.exact x).1 (inl u))))
        (λ t. ⊎_elim (λ d. (a.exact x).1 (inl ((p.exact x).1 (inr (t.0, d, t.2))))) (λ e. (a.exact x).1 (inr (t.0, e, t.2))) t.1),
  );
}

-- the sets made may be named otherwise, as long as they have the same rows
pub same_rows : {rows : List Row} {count : ℕ} {rows' : List Row} {count' : ℕ} (D E : Choices → Type 0)
    → ((x : Part) (s : Choices) → D s → RowOf s x → (t : Choices) × E t × RowOf t x) → ((x : Part) (s : Choices) → E s → RowOf s x → (t : Choices) × D t × RowOf t x)
    → Progress rows count rows' count' D → Progress rows count rows' count' E
same_rows D E to from p = record {
  long = p.long;
  stay = p.stay;
  more = p.more;
  sound = p.sound;
  exact = λ x. Iff.trans (p.exact x) (⊎_elim inl (λ t. inr (to x t.0 t.1 t.2)), ⊎_elim inl (λ t. inr (from x t.0 t.1 t.2)));
}

pub same_progress : (rows : List Row) (count : ℕ) (rows' : List Row) (count' : ℕ) (D E : Choices → Type 0) → ((s : Choices) → D s ↔ E s) → Progress rows count rows' count' D → Progress rows count rows' count' E
same_progress rows count rows' count' D E e p = same_rows D E (λ x s d row. (s, (e s).0 d, row)) (λ x s d row. (s, (e s).1 d, row)) p

-- all working sets made: what a question leaves
pub question_grows : (m : Meaning) (q : Question) (b b' : Book) → Keeps b b' → Progress b.rows b.count b'.rows b'.count (Working m q) → Grows b b' (WorkingRow m q)
question_grows m q b b' keeps p = record {
  keeps = keeps;
  fits = omega (arith, p.sound.within, p.long);
  more = p.more;
  counted = counts_iff (InUse b'.rows b'.count) (Wanted b (WorkingRow m q)) b'.count p.exact (counts_in_use b'.rows b'.count p.sound);
  exact = p.exact;
  sound = p.sound;
}

-- one set made: what a join leaves
pub join_grows : (s : Choices) (n : ℕ) (b b' : Book) → Keeps b b' → Adds b.rows b.count b'.rows b'.count s n → Grows b b' (RowOf s)
join_grows s n b b' keeps a = record {
  keeps = keeps;
  fits = omega (arith, a.sound.within, a.long);
  more = a.more;
  counted = counts_iff (InUse b'.rows b'.count) (Wanted b (RowOf s)) b'.count a.exact (counts_in_use b'.rows b'.count a.sound);
  exact = a.exact;
  sound = a.sound;
}

-- too many rows of some sets are too many of more sets
pub too_many_more : (rows : List Row) (count : ℕ) (D E : Choices → Type 0) → ((s : Choices) → D s → E s) → TooMany rows count D → TooMany rows count E
too_many_more rows count D E into t = (t.0, t.1, λ x mem. ⊎_elim inl (λ d. inr (d.0, into d.0 d.1, d.2)) (t.2 x mem), t.3)

-- too many rows on the way are too many in all
pub too_many_since : {rows₀ : List Row} {count₀ : ℕ} {rows : List Row} {count : ℕ} (D E : Choices → Type 0) → Progress rows₀ count₀ rows count D → ((s : Choices) → D s → E s)
    → (P : Part → Type 0) → ((x : Part) → P x → (s : Choices) × E s × RowOf s x) → MoreThan (capacity rows) (λ x. InUse rows count x ⊎ P x) → TooMany rows₀ count₀ E
too_many_since {rows₀} {count₀} {rows} {count} D E p into P rows_of_lem t = (
  t.0,
  t.1,
  λ x mem. ⊎_elim (λ u. ⊎_elim inl (λ d. inr (d.0, into d.0 d.1, d.2)) ((p.exact x).0 u)) (λ w. inr (rows_of_lem x w)) (t.2 x mem),
  omega (arith, t.3, p.long),
)
