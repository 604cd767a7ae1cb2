-- That a list of terms is a table is a proposition, so a ghost field may hold it truncated and a proof may use it whole.
use Rattle.std.proofs.Common.{List}
use mathlib.Core.Logic.{∥∥₁_elim}
use native.Mathlib.Nat.{ℕ_set}
use native.Mathlib.Bridge.{le_prop}
use Rattle.equality.specs.declared.Term.{Term}
use Rattle.equality.specs.Equality.{Table, term_at}

table_prop : (ts : List Term) → IsProp (Table ts)
table_prop ts x y = λ i. record {
  few = le_prop x.few y.few i;
  two_at_most = λ k h. le_prop (x.two_at_most k h) (y.two_at_most k h) i;
  left_earlier = λ k h u. le_prop (x.left_earlier k h u) (y.left_earlier k h u) i;
  right_earlier = λ k h u. le_prop (x.right_earlier k h u) (y.right_earlier k h u) i;
  left_unused = λ k h u. ℕ_set (term_at ts k).left 0 (x.left_unused k h u) (y.left_unused k h u) i;
  right_unused = λ k h u. ℕ_set (term_at ts k).right 0 (x.right_unused k h u) (y.right_unused k h u) i;
  apart = λ a b ha hb e. ℕ_set a b (x.apart a b ha hb e) (y.apart a b ha hb e) i;
}

pub table_out : (ts : List Term) → ∥ Table ts ∥₁ → Table ts
table_out ts t = ∥∥₁_elim t (table_prop ts) (λ s. s)
