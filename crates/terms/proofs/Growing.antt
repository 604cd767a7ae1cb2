-- Adding a term to a table leaves a table.
use Rattle.std.proofs.Common.{◌≡◌, ℕ, ◌+◌, ◌<◌, ◌≤◌, ◌≢◌, List, length, take, set, Some, None, Ok, Err, Option, Result, sym, refl, ◌∙◌, subst, inl, inr, ⊎_elim, arith}
use Rattle.std.proofs.lemmas.Bool.{cases_eq}
use Rattle.std.proofs.lemmas.Bool.Decides.{nat_tests}
use Rattle.std.proofs.lemmas.List.{get_or_default, get_or-take, get_or-set_same, get_or-set_other, length-set, length-take-le}
use Rattle.equality.specs.declared.Term.{Term}
use Rattle.equality.specs.Equality.{Table, term_at, no_term}
use Rattle.register.specs.Rows.{Absent, Puts}
use Rattle.terms.specs.declared.faults.TermFault.{TermFault}
use Rattle.terms.specs.Adding.{refusal, room, Added, Adds}

-- the table with a term behind the others

module _ (rows : List Term) (n : ℕ) (t : Term) (within : n < length rows) where
  abbrev before : List Term
  before = take n rows

  abbrev after : List Term
  after = take (n + 1) (set rows n t)

  length_before : length before ≡ n
  length_before = length-take-le n rows (omega arith)

  length_after : length after ≡ n + 1
  length_after = length-take-le (n + 1) (set rows n t) (omega (arith, length-set rows n t))

  earlier_term : (k : ℕ) → k < n → term_at after k ≡ term_at before k
  earlier_term k h =
      let ne : k ≢ n = omega arith in
      get_or-take (n + 1) (set rows n t) k no_term (omega arith) ∙ get_or-set_other rows n k t no_term ne ∙ sym (get_or-take n rows k no_term h)

  last_term : term_at after n ≡ t
  last_term = get_or-take (n + 1) (set rows n t) n no_term (omega arith) ∙ get_or-set_same rows n t no_term within

  -- what holds of each term before and of the new one holds of each term after
  each_more : (P : Term → ℕ → Type 0) → ((k : ℕ) → k < length before → P (term_at before k) k) → P t n → (k : ℕ) → k < length after → P (term_at after k) k
  each_more P old new k h =
      ⊎_elim
      (λ e. subst (λ j. P (term_at after j) j) (sym e) (subst (λ x. P x n) (sym last_term) new))
      (λ ne. let l : k < n = omega (arith, length_after) in subst (λ x. P x k) (sym (earlier_term k l)) (old k (omega (arith, length_before))))
      (cases_eq k n)

  is_new : Absent rows n t → (k : ℕ) → k < n → term_at after k ≡ t → ⊥
  is_new absent k h e =
      absent k h (get_or_default rows k t no_term (omega arith) ∙ sym (get_or-take n rows k no_term h) ∙ sym (earlier_term k h) ∙ e)

  apart_after : Table before → Absent rows n t → (i j : ℕ) → i < length after → j < length after → term_at after i ≡ term_at after j → i ≡ j
  apart_after tab absent i j hi hj e =
      ⊎_elim
      (λ p. ⊎_elim
      (λ q. p ∙ sym q)
      (λ nq. absurd (is_new absent j (omega (arith, length_after)) (sym e ∙ subst (λ k. term_at after k ≡ t) (sym p) last_term)))
      (cases_eq j n))
      (λ np. ⊎_elim
      (λ q. absurd (is_new absent i (omega (arith, length_after)) (e ∙ subst (λ k. term_at after k ≡ t) (sym q) last_term)))
      (λ nq.
      let li : i < n = omega (arith, length_after) in
      let lj : j < n = omega (arith, length_after) in
      tab.apart i j (omega (arith, length_before)) (omega (arith, length_before)) (sym (earlier_term i li) ∙ e ∙ earlier_term j lj))
      (cases_eq j n))
      (cases_eq i n)

  table_more : n < 24 → refusal n t ≡ None → Absent rows n t → Table before → Table after
  table_more few e absent tab = record {
    few = omega (arith, length_after);
    two_at_most = each_more (λ x k. x.arity ≤ 2) tab.two_at_most (grind (arith, nat_tests));
    left_earlier = each_more (λ x k. 1 ≤ x.arity → x.left < k) tab.left_earlier (grind (arith, nat_tests));
    right_earlier = each_more (λ x k. 2 ≤ x.arity → x.right < k) tab.right_earlier (grind (arith, nat_tests));
    left_unused = each_more (λ x k. x.arity < 1 → x.left ≡ 0) tab.left_unused (grind (arith, nat_tests));
    right_unused = each_more (λ x k. x.arity < 2 → x.right ≡ 0) tab.right_unused (grind (arith, nat_tests));
    apart = apart_after tab absent;
  }

module _ (rows : List Term) (n : ℕ) (t : Term) (rows' : List Term) (n' : ℕ) (few : n ≤ 24) (tab : Table (take n rows)) where
  -- what the register does with a term that may stand in the table leaves a table
  pub puts_kept : (room : ℕ) (r : Option ℕ) → Puts room rows n t rows' n' r → room ≤ 24 → room ≤ length rows
      → refusal n t ≡ None → (n ≤ length rows → n' ≤ length rows') × (n' ≤ 24) × Table (take n' rows')
  puts_kept room None p small within fits = rw (p.2, p.3) (λ h. h, few, tab)
  puts_kept room (Some i) (inl p) small within fits = rw (p.2, p.3) (λ h. h, few, tab)
  puts_kept room (Some i) (inr (e, lt, absent, f, g)) small within fits =
      rw (f, g) (λ h. omega (arith, length-set rows n t), omega arith, table_more rows n t (omega arith) (omega arith) fits absent tab)

-- what the table's ghost fields say

pub record Kept (rows : List Term) (n : ℕ) : Type 0 where
  pub within : n ≤ length rows
  pub few : n ≤ 24
  pub table : Table (take n rows)

module _ (rows : List Term) (n : ℕ) (t : Term) (rows' : List Term) (n' : ℕ) (kept : Kept rows n) where
  put_kept : (r : Option ℕ) → Puts (room rows) rows n t rows' n' r → refusal n t ≡ None → Kept rows' n'
  put_kept r p fits =
      let k = puts_kept rows n t rows' n' kept.few kept.table (room rows) r p (omega arith) (omega arith) fits in
      record { within = k.0 kept.within; few = k.1; table = k.2 }

  added_kept : (o : Option TermFault) → refusal n t ≡ o → (r : Result ℕ TermFault) → Added o rows n t rows' n' r → Kept rows' n'
  added_kept (Some fault) q r a = rw (a.1, a.2) kept
  added_kept None q (Err fault) a = put_kept None (a.1, a.2, a.3, a.4) q
  added_kept None q (Ok i) a = put_kept (Some i) a q

  -- whatever adding a term does, refusals too, leaves a table
  pub adds_kept : (r : Result ℕ TermFault) → Adds rows n t rows' n' r → Kept rows' n'
  adds_kept r a = added_kept (refusal n t) refl r a
