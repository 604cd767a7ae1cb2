-- Each closed and clear set of facts on differences has values that make all its facts true.
use Rattle.std.proofs.Common.{◌≡◌, ℕ, zero, suc, ◌+◌, ◌-◌, ◌<◌, Bool, true, false, ◌||◌, List, [], ◌∷◌, map, get_or, ℤ, pos, negsuc, ◌+ℤ◌, ◌-ℤ◌, neg_ℤ, ◌≤ℤ◌, ◌<ℤ◌, sym, refl, ap, subst, inl, inr, arith}
use Rattle.std.specs.List.{range_with_len}
use Rattle.std.proofs.lemmas.Int.{ints, clamps}
use Rattle.std.proofs.lemmas.List.FromFn.{length-map-range_with_len, get_or-map-range_with_len}
use Rattle.potentials.proofs.Sets.{Test, Holds, Closed, Clear, ClosedAndClearHasValues, ClosedAndClearHasAModel}
use Rattle.potentials.proofs.Times.{times, times_sum, times_low, times_high, times_is}
use Rattle.potentials.proofs.Walks.{Tight, Run, one, append, loop}
use Rattle.potentials.proofs.Potentials.{In, Edge, less, same, more, cmp, slack, room, room_grows, potentials}

tight : (v : ℕ) (f : Test) → Closed v f → Clear v f → Tight (Holds v f)
tight v f closed clear = record {
  low = λ s x y c h. h.low;
  high = λ s x y c h. h.high;
  joins = λ s u x y z c d h k lo hi. record { left = h.left; right = k.right; low = lo; high = hi; has = subst (λ a. f (s || u) x y a ≡ true) (omega (arith, ints, clamps)) (closed s u x y z c d h k hi) };
  floors = λ s u x y z c d h k lo. record { left = h.left; right = k.right; low = omega (arith, ints); high = omega (arith, ints); has = subst (λ a. f (s || u) x y a ≡ true) (omega (arith, ints, clamps)) (closed s u x y z c d h k (omega (arith, ints))) };
  clear = λ x c h. (clear x c).0 h;
  clear_strict = λ x c h. (clear x c).1 h;
}

-- the list of all facts of the set
each : ℕ → (ℕ → List Edge → List Edge) → List Edge → List Edge
each zero g out = out
each (suc n) g out = g n (each n g out)

abbrev Keeps : (List Edge → List Edge) → Type 0
Keeps g = (out : List Edge) (a : Edge) → In a out → In a (g out)

abbrev Safe : (Edge → Type 0) → (List Edge → List Edge) → Type 0
Safe P g = (out : List Edge) → ((a : Edge) → In a out → P a) → (a : Edge) → In a (g out) → P a

each_keeps : (n : ℕ) (g : ℕ → List Edge → List Edge) → ((i : ℕ) → Keeps (g i)) → Keeps (each n g)
unfolding each
each_keeps zero g h out a i = i
each_keeps (suc n) g h out a i = h n (each n g out) a (each_keeps n g h out a i)

each_safe : (P : Edge → Type 0) (n : ℕ) (g : ℕ → List Edge → List Edge) → ((i : ℕ) → i < n → Safe P (g i)) → Safe P (each n g)
unfolding each
each_safe P zero g h out m a i = m a i
each_safe P (suc n) g h out m a i = h n (omega arith) (each n g out) (each_safe P n g (λ j l. h j (omega arith)) out m) a i

each_has : (n : ℕ) (g : ℕ → List Edge → List Edge) → ((i : ℕ) → Keeps (g i)) → (i : ℕ) → i < n → (a : Edge) → ((out : List Edge) → In a (g i out)) → (out : List Edge) → In a (each n g out)
unfolding each
each_has zero g k i l a h out = absurd (omega arith)
each_has (suc n) g k i l a h out =
    elim (cmp i n) [ less p ↦ k n (each n g out) a (each_has n g k i p a h out) | same p ↦ subst (λ j. In a (g j (each n g out))) p (h (each n g out)) | more p ↦ absurd (omega arith) ]

put : Bool → Edge → List Edge → List Edge
put true e out = e ∷ out
put false e out = out

put_keeps : (b : Bool) (e : Edge) → Keeps (put b e)
unfolding put
put_keeps true e out a i = inr i
put_keeps false e out a i = i

put_safe : (P : Edge → Type 0) (b : Bool) (e : Edge) → (b ≡ true → P e) → Safe P (put b e)
unfolding put
put_safe P true e h out m a (inl p) = subst P (sym p) (h refl)
put_safe P true e h out m a (inr i) = m a i
put_safe P false e h out m a i = m a i

put_has : (b : Bool) (e : Edge) → b ≡ true → (out : List Edge) → In e (put b e out)
unfolding put
put_has b e h out = subst (λ t. In e (put t e out)) (sym h) (inl refl)

abbrev edge : ℕ → Bool → ℕ → ℕ → ℤ → Edge
edge q s x y c = record { strict = s; from = x; to = y; gap = times q c }

coded : ℕ → ℤ
coded k = pos k -ℤ pos 15

code : (c : ℤ) → neg_ℤ (pos 15) ≤ℤ c → c ≤ℤ pos 15 → (k : ℕ) × (k < 31) × (coded k ≡ c)
unfolding coded
code (pos n) lo hi = (n + 15, omega (arith, ints), omega (arith, ints))
code (negsuc n) lo hi = (14 - n, omega (arith, ints), omega (arith, ints))

coded_low : (k : ℕ) → neg_ℤ (pos 15) ≤ℤ coded k
unfolding coded
coded_low k = omega (arith, ints)

coded_high : (k : ℕ) → k < 31 → coded k ≤ℤ pos 15
unfolding coded
coded_high k h = omega (arith, ints)

module _ (v : ℕ) (f : Test) (q : ℕ) where
  cell : ℕ → ℕ → ℕ → List Edge → List Edge
  cell x y k out = put (f false x y (coded k)) (edge q false x y (coded k)) (put (f true x y (coded k)) (edge q true x y (coded k)) out)

  row : ℕ → ℕ → List Edge → List Edge
  row x y = each 31 (cell x y)

  plane : ℕ → List Edge → List Edge
  plane x = each v (row x)

  facts : List Edge
  facts = each v plane []

  cell_keeps : (x y k : ℕ) → Keeps (cell x y k)
  unfolding cell
  cell_keeps x y k out a i = put_keeps _ _ _ a (put_keeps _ _ out a i)

  row_keeps : (x y : ℕ) → Keeps (row x y)
  unfolding row
  row_keeps x y = each_keeps 31 (cell x y) (cell_keeps x y)

  plane_keeps : (x : ℕ) → Keeps (plane x)
  unfolding plane
  plane_keeps x = each_keeps v (row x) (row_keeps x)

  cell_has : (s : Bool) (x y k : ℕ) → f s x y (coded k) ≡ true → (out : List Edge) → In (edge q s x y (coded k)) (cell x y k out)
  unfolding cell
  cell_has true x y k h out = put_keeps _ _ _ _ (put_has _ _ h out)
  cell_has false x y k h out = put_has _ _ h _

  facts_have : (s : Bool) (x y : ℕ) (c : ℤ) → Holds v f s x y c → In (edge q s x y c) facts
  unfolding facts plane row
  facts_have s x y c h =
      let k = code c h.low h.high in
      each_has v plane plane_keeps x h.left (edge q s x y c) (each_has v (row x) (row_keeps x) y h.right (edge q s x y c) (each_has 31 (cell x y) (cell_keeps x y) k.0 k.1 (edge q s x y c)
      (subst (λ a. (out : List Edge) → In (edge q s x y a) (cell x y k.0 out)) k.2 (cell_has s x y k.0 (subst (λ a. f s x y a ≡ true) (sym k.2) h.has))))) []

  facts_safe : (P : Edge → Type 0) → ((s : Bool) (x y : ℕ) (c : ℤ) → Holds v f s x y c → P (edge q s x y c)) → (a : Edge) → In a facts → P a
  unfolding facts plane row cell
  facts_safe P m =
      each_safe P v plane (λ x l. each_safe P v (row x) (λ y r. each_safe P 31 (cell x y) (λ k h out n.
      put_safe P _ _ (λ t. m false x y (coded k) (record { left = l; right = r; low = coded_low k; high = coded_high k h; has = t })) _
      (put_safe P _ _ (λ t. m true x y (coded k) (record { left = l; right = r; low = coded_low k; high = coded_high k h; has = t })) out n)))) [] (λ a i. absurd i)

  -- a walk of that sum leads from one to the other
  abbrev Leads : Bool → ℕ → ℕ → ℤ → Type 0
  Leads s x y t = (c : ℤ) × Run (Holds v f) (λ c. Unit {0}) x y c s × (t ≡ times q c)

  links : (s u : Bool) (x y z : ℕ) (c d : ℤ) → Leads s x z c → Leads u z y d → Leads (s || u) x y (c +ℤ d)
  links s u x y z c d (a, w, p) (b, r, o) = (a +ℤ b, append w r (a +ℤ b) (s || u) refl refl, omega (arith, ints, times_sum q a b))

  loop_slack : (s : Bool) (c t : ℤ) → (pos 0 ≤ℤ c) × (s ≡ true → pos 0 <ℤ c) → t ≡ times q c → slack q s ≤ℤ t
  unfolding slack
  loop_slack true c t h p = omega (arith, ints, times_high q c (h.1 refl))
  loop_slack false c t h p = omega (arith, ints, times_low q c h.0)

  loops : Tight (Holds v f) → (s : Bool) (x : ℕ) (t : ℤ) → Leads s x x t → slack q s ≤ℤ t
  loops k s x t w = loop_slack s w.0 t (loop (Holds v f) k x w.0 s w.1) w.2

pub closed_and_clear_has_values : ClosedAndClearHasValues
unfolding slack
closed_and_clear_has_values v f closed clear =
    let q = room v 1 in
    let r = potentials (Leads v f q) (links v f q) q (loops v f q (tight v f closed clear)) v 1 (omega arith) (facts v f q) (facts_safe v f q _ (λ s x y c h. (c, one h tt, refl))) in
    let at : (x : ℕ) → x < v → get_or (map r.0 (range_with_len 0 v)) x (pos 0) ≡ r.0 x = λ x l. get_or-map-range_with_len r.0 0 v x x (pos 0) l (omega arith) in (
      q,
      map r.0 (range_with_len 0 v),
      room_grows v 1,
      length-map-range_with_len r.0 0 v,
      λ x y c. (
        λ h. omega (arith, ints, at x h.left, at y h.right, times_is q c, r.1 (edge q false x y c) (facts_have v f q false x y c h) h.left h.right),
        λ h. omega (arith, ints, at x h.left, at y h.right, times_is q c, r.1 (edge q true x y c) (facts_have v f q true x y c h) h.left h.right),
      ),
    )

pub closed_and_clear_has_a_model : ClosedAndClearHasAModel
closed_and_clear_has_a_model v f closed clear =
    let r = closed_and_clear_has_values v f closed clear in
    (pos r.0 ∷ r.1, ap suc r.3, omega (arith, ints, r.2), r.4)
