-- Taking over what was gathered in a round.
use Rattle.std.proofs.Common.{◌≡◌, ℕ, suc, ◌<◌, Bool, true, false, ◌≢◌, List, [], ◌∷◌, length, get_or, refl, sym, ap₂, ⊎_elim, arith}
use Rattle.std.proofs.lemmas.Bool.{false≢true, cases_eq}
use Rattle.std.specs.Prelude.{IsTrue}
use Rattle.saturation.specs.Stages.{Settled}

-- lists of one length that are not the same differ in some place
differ_at : (xs ys : List ℕ) → length ys ≡ length xs → (xs ≢ ys) → (k : ℕ) × (k < length ys) × (get_or xs k 0 ≢ get_or ys k 0)
differ_at [] [] long ne = absurd (ne refl)
differ_at [] (y ∷ ys) long ne = absurd (omega (arith, long))
differ_at (x ∷ xs) [] long ne = absurd (omega (arith, long))
differ_at (x ∷ xs) (y ∷ ys) long ne = ⊎_elim
    (λ e. let d = differ_at xs ys (omega (arith, long)) (λ q. ne (ap₂ ◌∷◌ e q)) in (suc d.0, omega (arith, d.1), d.2))
    (λ off. (0, omega arith, off))
    (cases_eq x y)

-- what was gathered is taken over, and the comparison tells whether it differed
pub settled : {standing gathered standing' gathered' : List ℕ} (changed : Bool) → length gathered ≡ length standing → standing' ≡ gathered → gathered' ≡ gathered
    → (IsTrue changed → standing ≢ gathered) → ((IsTrue changed → ⊥) → standing ≡ gathered) → Settled standing gathered standing' gathered' changed
settled {standing} {gathered} true long taken kept differs same = record {
  taken = taken;
  kept = kept;
  differed = λ on. differ_at standing gathered long (differs refl);
  agreed = λ off. absurd (false≢true (sym off));
}
settled {standing} {gathered} false long taken kept differs same = record {
  taken = taken;
  kept = kept;
  differed = λ on. absurd (false≢true on);
  agreed = λ off. same false≢true;
}
