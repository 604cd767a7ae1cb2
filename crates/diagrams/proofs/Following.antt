-- One row of a walk: the choice belongs to a row as it belongs to with or without.
use Rattle.std.proofs.Common.{◌≡◌, ℕ, zero, suc, ◌+◌, ◌-◌, ◌/◌, ◌%◌, ◌^◌, ◌<◌, ◌≤◌, eqb, List, sym, refl, ap, ◌∙◌, ⊎_elim, arith}
use mathlib.Core.Logic.{∥∥₁_elim}
use Rattle.std.proofs.lemmas.Bool.{cond-true, cond-false, eq-eqb, ne_eqb, cases_eq}
use Rattle.diagrams.specs.declared.Row.{Row}
use Rattle.theory.specs.Rounds.{bit}
use Rattle.diagrams.specs.Diagram.{Sound, row_at, member, position_of}
use Rattle.diagrams.specs.Books.{KeptBook}
use Rattle.diagrams.proofs.Making.{member_row}
use Rattle.diagrams.proofs.Shortening.{position_row}
use Rattle.diagrams.proofs.SoundProp.{sound_prop}

pub kept_sound : {rows : List Row} {count : ℕ} → ∥ KeptBook rows count ∥₁ → Sound rows count
kept_sound {rows} {count} t = ∥∥₁_elim t (sound_prop rows count) (λ k. k.sound)

module _ (rows : List Row) (count : ℕ) (sound : Sound rows count) where
  pub into_with : (n c : ℕ) → 2 ≤ n → n < count + 2 → c / 2 ^ (row_at rows (n - 2)).position % 2 ≡ 1 → ((row_at rows (n - 2)).with < count + 2) × (member rows (row_at rows (n - 2)).with c ≡ member rows n c)
  unfolding bit
  into_with n c low h on =
      let lt : n - 2 < count = omega arith in
      let e : suc (suc (n - 2)) ≡ n = omega arith in (
        (sound.ordered (n - 2) lt).held_with,
        sym (ap (λ z. member rows z c) (sym e) ∙ member_row rows count sound (n - 2) c lt ∙ cond-true _ _ _ (eq-eqb _ 1 on)),
      )

  pub into_without : (n c : ℕ) → 2 ≤ n → n < count + 2 → (c / 2 ^ (row_at rows (n - 2)).position % 2 ≡ 1 → ⊥) → ((row_at rows (n - 2)).without < count + 2) × (member rows (row_at rows (n - 2)).without c ≡ member rows n c)
  unfolding bit
  into_without n c low h off =
      let lt : n - 2 < count = omega arith in
      let e : suc (suc (n - 2)) ≡ n = omega arith in (
        (sound.ordered (n - 2) lt).held_without,
        sym (ap (λ z. member rows z c) (sym e) ∙ member_row rows count sound (n - 2) c lt ∙ cond-false _ _ _ (ne_eqb _ 1 off)),
      )

  -- where a choice goes on from a row: the same membership, at a higher position
  pub into_side : (n c s : ℕ) → 2 ≤ n → n < count + 2 → (c / 2 ^ (row_at rows (n - 2)).position % 2 ≡ 1 → s ≡ (row_at rows (n - 2)).with)
      → ((c / 2 ^ (row_at rows (n - 2)).position % 2 ≡ 1 → ⊥) → s ≡ (row_at rows (n - 2)).without)
      → (s < count + 2) × (member rows s c ≡ member rows n c) × (position_of rows n < position_of rows s)
  into_side n c s low h with' without' =
      let lt : n - 2 < count = omega arith in
      let o = sound.ordered (n - 2) lt in
      let p = position_row rows n low in
      ⊎_elim
      (λ on. let e = with' on in let i = into_with n c low h on in
      (omega (arith, e, i.0), ap (λ z. member rows z c) e ∙ i.1, omega (arith, p, ap (position_of rows) e, o.higher_with)))
      (λ off. let e = without' off in let i = into_without n c low h off in
      (omega (arith, e, i.0), ap (λ z. member rows z c) e ∙ i.1, omega (arith, p, ap (position_of rows) e, o.higher_without)))
      (cases_eq (c / 2 ^ (row_at rows (n - 2)).position % 2) 1)

pub at_end : (rows : List Row) (n c : ℕ) → n < 2 → eqb n 1 ≡ member rows n c
unfolding member
at_end rows zero c h = refl
at_end rows (suc zero) c h = refl
at_end rows (suc (suc n)) c h = absurd (omega (arith, h))
