-- Linking the row behind those that an index covers gives an index that covers it too.
use Rattle.std.proofs.Common.{◌≡◌, ℕ, ◌+◌, ◌-◌, ◌<◌, ◌≤◌, List, length, take, get_or, set, sym, ap, ◌∙◌, subst, ⊎_elim, arith, length-set, get_or-set_other, get_or-set_same}
use Rattle.std.proofs.lemmas.List.{get_or-take, length-take-le}
use lib.Bits.{and_le_r}
use Rattle.std.proofs.lemmas.Bool.{cases_eq, cases_order}
use Rattle.register.specs.Chains.{bucket, Links, Indexed}

-- the index says nothing of the rows behind those that it covers
pub links_same : {R : Type 0} (hash : R → ℕ) (buckets : ℕ) (rows rows' : List R) (place b link : ℕ)
    → ((r : ℕ) (d : R) → r < place → get_or rows' r d ≡ get_or rows r d)
    → Links hash buckets rows place b link → Links hash buckets rows' place b link
links_same hash buckets rows rows' place b link same l = record {
  below = l.below;
  there = λ r d e. ap (λ z. bucket buckets (hash z)) (same r d (omega (arith, e, l.below))) ∙ l.there r d e;
  passed = λ r d le lt e. l.passed r d le lt (ap (λ z. bucket buckets (hash z)) (sym (same r d lt)) ∙ e);
}

pub indexed_same : {R : Type 0} (hash : R → ℕ) (rows rows' : List R) (count : ℕ) (heads next : List ℕ)
    → count ≤ length rows' → ((r : ℕ) (d : R) → r < count → get_or rows' r d ≡ get_or rows r d)
    → Indexed hash rows count heads next → Indexed hash rows' count heads next
indexed_same hash rows rows' count heads next within same x = record {
  within = within;
  some = x.some;
  room = x.room;
  head = λ b lt. links_same hash (length heads) rows rows' count b _ same (x.head b lt);
  linked = λ r d lt. let e = same r d lt in
      subst (λ z. Links hash (length heads) rows' r (bucket (length heads) (hash z)) (get_or next r 0)) (sym e)
      (links_same hash (length heads) rows rows' r _ _ (λ q d lq. same q d (omega (arith, lq, lt))) (x.linked r d lt));
}

-- a link to the row just behind the place, which lies in the bucket
links_here : {R : Type 0} (hash : R → ℕ) (buckets : ℕ) (rows : List R) (place b : ℕ)
    → ((d : R) → bucket buckets (hash (get_or rows place d)) ≡ b) → Links hash buckets rows (place + 1) b (place + 1)
links_here hash buckets rows place b here = record {
  below = omega arith;
  there = λ r d e. let q : r ≡ place = omega (arith, e) in subst (λ z. bucket buckets (hash (get_or rows z d)) ≡ b) (sym q) (here d);
  passed = λ r d le lt e. absurd (omega (arith, le, lt));
}

-- a link into a bucket in which the row just behind the place does not lie
links_past : {R : Type 0} (hash : R → ℕ) (buckets : ℕ) (rows : List R) (place b link : ℕ)
    → ((d : R) → bucket buckets (hash (get_or rows place d)) ≡ b → ⊥) → Links hash buckets rows place b link → Links hash buckets rows (place + 1) b link
links_past hash buckets rows place b link other l = record {
  below = omega (arith, l.below);
  there = l.there;
  passed = λ r d le lt e. ⊎_elim (λ q. other d (subst (λ z. bucket buckets (hash (get_or rows z d)) ≡ b) q e)) (⊎_elim (λ less. l.passed r d le less e) (λ more. omega (arith, more, lt))) (cases_order r place);
}

module _ {R : Type 0} (hash : R → ℕ) (rows : List R) (count : ℕ) (heads next : List ℕ) (row : R)
    (lt : count < length rows) (room : count < length next) (is : (d : R) → get_or rows count d ≡ row) (x : Indexed hash rows count heads next) where
  abbrev b : ℕ
  b = bucket (length heads) (hash row)

  here : (d : R) → bucket (length heads) (hash (get_or rows count d)) ≡ b
  here d = ap (λ z. bucket (length heads) (hash z)) (is d)

  head_more : b < length heads → (k : ℕ) → k < length heads → Links hash (length heads) rows (count + 1) k (get_or (set heads b (count + 1)) k 0)
  head_more bl k kl = ⊎_elim
      (λ e. subst (λ z. Links hash (length heads) rows (count + 1) z (get_or (set heads b (count + 1)) z 0)) (sym e)
      (rw (get_or-set_same heads b (count + 1) 0 bl) (links_here hash (length heads) rows count b here)))
      (λ ne. rw (get_or-set_other heads b k (count + 1) 0 ne)
      (links_past hash (length heads) rows count k (get_or heads k 0) (λ d e. ne (sym e ∙ here d)) (x.head k kl)))
      (cases_eq k b)

  linked_more : b < length heads → (r : ℕ) (d : R) → r < count + 1 → Links hash (length heads) rows r (bucket (length heads) (hash (get_or rows r d))) (get_or (set next count (get_or heads b 0)) r 0)
  linked_more bl r d rl = ⊎_elim
      (λ e. subst (λ z. Links hash (length heads) rows z (bucket (length heads) (hash (get_or rows z d))) (get_or (set next count (get_or heads b 0)) z 0)) (sym e)
      (rw (get_or-set_same next count (get_or heads b 0) 0 room) (subst (λ z. Links hash (length heads) rows count z (get_or heads b 0)) (sym (here d)) (x.head b bl))))
      (λ ne. rw (get_or-set_other next count r (get_or heads b 0) 0 ne) (x.linked r d (omega (arith, rl, ne))))
      (cases_eq r count)

  pub index_more : b < length heads → Indexed hash rows (count + 1) (set heads b (count + 1)) (set next count (get_or heads b 0))
  index_more bl = record {
    within = omega (arith, lt);
    some = simp length-set x.some;
    room = simp length-set (omega (arith, room));
    head = simp length-set (head_more bl);
    linked = simp length-set (linked_more bl);
  }

-- an index without rows
pub no_rows : {R : Type 0} (hash : R → ℕ) (rows : List R) (heads next : List ℕ) → 0 < length heads → ((k : ℕ) → get_or heads k 0 ≡ 0) → Indexed hash rows 0 heads next
no_rows hash rows heads next some empty = record {
  within = omega arith;
  some = some;
  room = omega arith;
  head = λ b lt. record {
    below = omega (arith, empty b);
    there = λ r d e. absurd (omega (arith, empty b, e));
    passed = λ r d le lt e. absurd (omega (arith, lt));
  };
  linked = λ r d lt. absurd (omega (arith, lt));
}

pub bucket_below : (buckets hash : ℕ) → 0 < buckets → bucket buckets hash < buckets
bucket_below buckets hash some = omega (arith, and_le_r hash (buckets - 1))

pub linked_row : {R : Type 0} (hash : R → ℕ) (rows : List R) (count : ℕ) (heads next : List ℕ) (row : R) (h : ℕ) (heads' next' : List ℕ)
    → count < length rows → count < length next → ((d : R) → get_or rows count d ≡ row) → h ≡ hash row
    → heads' ≡ set heads (bucket (length heads) h) (count + 1) → next' ≡ set next count (get_or heads (bucket (length heads) h) 0)
    → Indexed hash rows count heads next → Indexed hash rows (count + 1) heads' next'
linked_row hash rows count heads next row h heads' next' lt room is eh ehs en x =
    rw (ehs, en, eh) (index_more hash rows count heads next row lt room is x (bucket_below (length heads) (hash row) x.some))

-- an index of the rows in use alone is one of all rows
pub indexed_all : {R : Type 0} (hash : R → ℕ) (rows : List R) (count : ℕ) (heads next : List ℕ) → count ≤ length rows
    → Indexed hash (take count rows) (length (take count rows)) heads next → Indexed hash rows count heads next
indexed_all hash rows count heads next within x =
    indexed_same hash (take count rows) rows count heads next within (λ r d lt. sym (get_or-take count rows r d lt))
    (subst (λ z. Indexed hash (take count rows) z heads next) (length-take-le count rows within) x)
