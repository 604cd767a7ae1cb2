-- What a theory's bounds say of its answers.
use Rattle.std.proofs.Common.{◌≡◌, ℕ, ◌<◌, Some, None, Option, sym, ◌∙◌, ⊎_elim, arith}
use Rattle.std.proofs.lemmas.Bool.{cases_lt}
use Rattle.theory.specs.declared.Theory.{Ghosts}

same_number : (a b : ℕ) → ◌≡◌ {A = Option ℕ} (Some a) (Some b) → a ≡ b
same_number a b e = cc

none_some : (a : ℕ) → ◌≡◌ {A = Option ℕ} None (Some a) → ⊥
none_some a e = let z : ◌≡◌ {A = ℕ} 0 1 = cc in omega arith

-- an opposite is a fact
pub opposite_below : {X : Type 0} (g : Ghosts X) (t : X) (f o : ℕ) → g.opposite t f ≡ Some o → o < g.facts t
opposite_below g t f o e = ⊎_elim
    (λ lt. let h = (g.lawful t).bounds.has_opposite f lt in let same : h.0 ≡ o = same_number h.0 o (sym h.1 ∙ e) in omega (arith, same, h.2))
    (λ le. absurd (none_some o (sym ((g.lawful t).bounds.no_opposite f le) ∙ e)))
    (cases_lt f (g.facts t))
