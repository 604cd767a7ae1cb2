-- The choices that have a position: the set's halves are no choice and all choices, which have no rows.
use Rattle.std.proofs.Common.{◌≡◌, ℕ, ◌<◌, Bool, true, false, List, Ok, sym, refl, ap, ◌∙◌, inl, ⊎_elim, arith}
use Rattle.theory.specs.Rounds.{bit}
use Rattle.diagrams.specs.declared.Row.{Row}
use Rattle.diagrams.specs.Diagram.{Choices, Part, RowOf, Sound, put_position, mixed}
use Rattle.diagrams.specs.Making.{Adds, Halves, half}
use Rattle.diagrams.specs.Applying.{Fit, Makes}
use Rattle.diagrams.proofs.Mixing.{bit_put_same}
use Rattle.diagrams.proofs.Shortening.{member_0, member_1}

-- a set that makes no difference between choices has no rows
pub constant_rowless : (s : Choices) (v : Bool) → ((c : ℕ) → s c ≡ v) → (x : Part) → RowOf s x → ⊥
constant_rowless s v same x row =
    let d = row.depends in
    let at : (c : ℕ) → x.rest c ≡ v = λ c. ap (λ (f : Choices). f c) row.left ∙ same (mixed x.from row.fixed c) in
    d.1 (at (put_position x.from false d.0) ∙ sym (at (put_position x.from true d.0)))

module _ (rows : List Row) (count : ℕ) (sound : Sound rows count) (p : ℕ) (lt : p < 16) where
  pub position_halves : Halves rows count rows count (λ c. bit c p) p 0 1
  position_halves = record {
    in_range = lt;
    from_on = λ c d e. e p (omega arith) lt;
    long = refl;
    stay = λ r h. refl;
    more = omega arith;
    sound = sound;
    held_without = omega arith;
    held_with = omega arith;
    higher_without = lt;
    higher_with = lt;
    without = λ c. member_0 rows c ∙ sym (bit_put_same p false c lt);
    with = λ c. member_1 rows c ∙ sym (bit_put_same p true c lt);
    exact = λ x. (
      inl,
      ⊎_elim (λ u. u) (⊎_elim
          (λ row. absurd (constant_rowless (half (λ c. bit c p) p false) false (λ c. bit_put_same p false c lt) x row))
          (λ row. absurd (constant_rowless (half (λ c. bit c p) p true) true (λ c. bit_put_same p true c lt) x row))),
    );
  }

  pub position_fit : Fit rows count p 0 1
  position_fit = record {
    in_range = lt;
    held_without = omega arith;
    held_with = omega arith;
    higher_without = lt;
    higher_with = lt;
    within = λ c on. member_1 rows c;
  }

  -- the row of a position gives the choices that have it
  pub position_made : {rows' : List Row} {count' n : ℕ} → Makes rows count rows' count' p 0 1 (Ok n) → Adds rows count rows' count' (λ c. bit c p) n
  position_made m = m rows count (λ c. bit c p) position_halves
