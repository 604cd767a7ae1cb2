-- The three ways of putting a row.
use Rattle.std.proofs.Common.{◌≡◌, ℕ, ◌+◌, ◌<◌, ◌≤◌, min, ◌≢◌, List, length, get_or, set, Some, None, refl, inl, inr, arith, length-set, get_or-set_other, get_or-set_same}
use Rattle.register.specs.Rows.{Finds}
use Rattle.register.specs.Chains.{bucket, Indexed, Put}
use Rattle.register.proofs.Linking.{indexed_same, linked_row}

module _ {R : Type 0} (hash : R → ℕ) (most : ℕ) (rows : List R) (count : ℕ) (heads next : List ℕ) (row : R) where
  pub put_found : (i : ℕ) → (Indexed hash rows count heads next → Finds rows count row (Some i))
      → Indexed hash rows count heads next → Put hash most rows count heads next row rows count heads next (Some i)
  put_found i f x = record { puts = inl ((f x).0, (f x).1, refl, refl); indexed = x; heads_long = refl; next_long = refl }

  pub put_nowhere : min most (min (length rows) (length next)) ≤ count → (Indexed hash rows count heads next → Finds rows count row None)
      → Indexed hash rows count heads next → Put hash most rows count heads next row rows count heads next None
  put_nowhere full f x = record { puts = (full, f x, refl, refl); indexed = x; heads_long = refl; next_long = refl }

  pub put_behind : (h : ℕ) (heads' next' : List ℕ) → count < most → count < length rows → count < length next
      → h ≡ hash row → heads' ≡ set heads (bucket (length heads) h) (count + 1) → next' ≡ set next count (get_or heads (bucket (length heads) h) 0)
      → (Indexed hash rows count heads next → Finds rows count row None)
      → Indexed hash rows count heads next → Put hash most rows count heads next row (set rows count row) (count + 1) heads' next' (Some count)
  put_behind h heads' next' few lt room eh ehs en f x =
      let within : count < length (set rows count row) = omega (arith, lt, length-set rows count row) in record {
        puts = inr (refl, omega (arith, few, lt, room), f x, refl, refl);
        indexed = linked_row hash (set rows count row) count heads next row h heads' next' within room (λ d. get_or-set_same rows count row d lt) eh ehs en
            (indexed_same hash rows (set rows count row) count heads next (omega (arith, within)) (λ r d l. let ne : r ≢ count = omega (arith, l) in get_or-set_other rows count r row d ne) x);
        heads_long = rw ehs (length-set heads _ _);
        next_long = rw en (length-set next _ _);
      }
