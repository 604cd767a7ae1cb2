-- A walk down a chain has passed every row of its bucket at or behind the link.
use Rattle.std.proofs.Common.{◌≡◌, ℕ, ◌+◌, ◌<◌, ◌≤◌, min, List, length, get_or, sym, ap, ◌∙◌, subst, ⊎_elim, arith}
use Rattle.std.proofs.lemmas.Bool.{cases_order}
use Rattle.register.specs.Chains.{bucket, Indexed}

-- the rows from a link on are other rows than the one looked for, and the link leads into its bucket
pub record Passed {R : Type 0} (hash : R → ℕ) (buckets : ℕ) (rows : List R) (count : ℕ) (row : R) (link : ℕ) : Type 0 where
  pub below : link ≤ count
  pub there : (r : ℕ) (d : R) → link ≡ r + 1 → bucket buckets (hash (get_or rows r d)) ≡ bucket buckets (hash row)
  pub absent : (r : ℕ) → link ≤ r → r < count → get_or rows r row ≡ row → ⊥

pub first_passed : {R : Type 0} (hash : R → ℕ) (rows : List R) (count : ℕ) (heads next : List ℕ) (row : R) (h b link : ℕ)
    → h ≡ hash row → b ≡ bucket (length heads) h → b < length heads → link ≡ min (get_or heads b 0) count
    → Indexed hash rows count heads next → Passed hash (length heads) rows count row link
first_passed hash rows count heads next row h b link eh eb lt f x =
    let e : b ≡ bucket (length heads) (hash row) = eb ∙ ap (bucket (length heads)) eh in
    let k = x.head b lt in
    let same : link ≡ get_or heads b 0 = omega (arith, f, k.below) in
    record {
      below = omega (arith, k.below, same);
      there = λ r d q. k.there r d (sym same ∙ q) ∙ e;
      absent = λ r le below q. k.passed r row (omega (arith, le, same)) below (ap (λ z. bucket (length heads) (hash z)) q ∙ sym e);
    }

pub next_passed : {R : Type 0} (hash : R → ℕ) (rows : List R) (count : ℕ) (heads next : List ℕ) (row : R) (link at link' : ℕ)
    → link ≡ at + 1 → (get_or rows at row ≡ row → ⊥) → link' ≡ min (get_or next at 0) at
    → Passed hash (length heads) rows count row link → Indexed hash rows count heads next → Passed hash (length heads) rows count row link'
next_passed hash rows count heads next row link at link' e other f p x =
    let h : at < count = omega (arith, p.below, e) in
    let k = x.linked at row h in
    let b : bucket (length heads) (hash (get_or rows at row)) ≡ bucket (length heads) (hash row) = p.there at row e in
    let same : link' ≡ get_or next at 0 = omega (arith, f, k.below) in
    record {
      below = omega (arith, k.below, same, h);
      there = λ r d q. k.there r d (sym same ∙ q) ∙ b;
      absent = λ r le lt q. ⊎_elim
          (λ r-at. other (subst (λ z. get_or rows z row ≡ row) r-at q))
          (⊎_elim
          (λ less. k.passed r row (omega (arith, le, same)) less (ap (λ z. bucket (length heads) (hash z)) q ∙ sym b))
          (λ more. p.absent r (omega (arith, more, e)) lt q))
          (cases_order r at);
    }
