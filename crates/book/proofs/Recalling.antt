-- Entries of the computed tables stay right as rows are added, and a result that is found is the one wanted.
use Rattle.std.proofs.Common.{◌≡◌, ℕ, ◌+◌, ◌<◌, ◌≤◌, min, max, Bool, true, false, List, length, set, replicate, sym, refl, ap, ◌∙◌, subst, ap₂, inl, inr, ⊎_elim, arith, get_or-set_other, get_or-set_same}
use lib.ListN.{get_or-replicate, length-replicate}
use Rattle.std.proofs.lemmas.List.{get_or_past}
use Rattle.std.proofs.lemmas.Bool.{cases_eq, cases_lt}
use Rattle.diagrams.specs.declared.Row.{Row}
use Rattle.diagrams.specs.declared.Operation.{Operation}
use Rattle.diagrams.specs.declared.Operation.TheVariants.{Union, Intersection}
use Rattle.register.specs.Chains.{Indexed}
use Rattle.diagrams.specs.Diagram.{Sound, row_at, row_hash, member}
use Rattle.diagrams.specs.Books.{together, union_or_intersection, KeptBook, capacity}
use Rattle.diagrams.specs.Making.{Adds}
use Rattle.diagrams.specs.Applying.{Extends}
use Rattle.diagrams.proofs.Kept.{member_kept}
use Rattle.diagrams.proofs.Applied.{plain}
use Rattle.book.specs.declared.scratch.Entry.{Entry}
use Rattle.book.specs.Scratch.{entry, entry_at, Recalls, Writes, Notes, table_of, Right, Remembers, Ready}

together_turned : (op : Operation) (x y : Bool) → together op x y ≡ together op y x
together_turned Union true true = refl
together_turned Union true false = refl
together_turned Union false true = refl
together_turned Union false false = refl
together_turned Intersection true true = refl
together_turned Intersection true false = refl
together_turned Intersection false true = refl
together_turned Intersection false false = refl

-- the order of the two numbers makes no difference
pub in_order : (op : Operation) (rows : List Row) (a b c : ℕ) → union_or_intersection op rows (min a b) (max a b) c ≡ union_or_intersection op rows a b c
in_order op rows a b c = ⊎_elim
    (λ lt. let p : min a b ≡ a = omega (arith, lt) in let q : max a b ≡ b = omega (arith, lt) in ap₂ (λ x y. union_or_intersection op rows x y c) p q)
    (λ le. let p : min a b ≡ b = omega (arith, le) in let q : max a b ≡ a = omega (arith, le) in
    ap₂ (λ x y. union_or_intersection op rows x y c) p q ∙ together_turned op (member rows b c) (member rows a c))
    (cases_lt a b)

right_later : (op : Operation) (rows rows' : List Row) (count count' : ℕ) → Sound rows count → ((r : ℕ) → r < count → row_at rows' r ≡ row_at rows r) → count ≤ count'
    → (e : Entry) → Right op rows count e → Right op rows' count' e
right_later op rows rows' count count' sound stay more e w = record {
  left = omega (arith, w.left, more);
  right = omega (arith, w.right, more);
  result = omega (arith, w.result, more);
  reads = λ c. member_kept rows rows' count sound stay e.result c w.result ∙ w.reads c
      ∙ sym (ap₂ (together op) (member_kept rows rows' count sound stay e.left c w.left) (member_kept rows rows' count sound stay e.right c w.right));
}

-- rows are only added
pub remembers_later : (op : Operation) (rows rows' : List Row) (count count' : ℕ) → Sound rows count → ((r : ℕ) → r < count → row_at rows' r ≡ row_at rows r) → count ≤ count'
    → (table : List Entry) → Remembers op rows count table → Remembers op rows' count' table
remembers_later op rows rows' count count' sound stay more table m k two = right_later op rows rows' count count' sound stay more (entry_at table k) (m k two)

pub remembers_noted : (op : Operation) (rows : List Row) (count : ℕ) (table table' : List Entry) (a b n : ℕ) → Right op rows count (entry a b n) → Writes table a b n table'
    → Remembers op rows count table → Remembers op rows count table'
remembers_noted op rows count table table' a b n w (inl e) m = subst (Remembers op rows count) (sym e) m
remembers_noted op rows count table table' a b n w (inr (k, lt, e)) m = subst (Remembers op rows count) (sym e) (λ j two. ⊎_elim
    (λ q. subst (λ z. Right op rows count z) (sym (ap (λ i. entry_at (set table k (entry a b n)) i) q ∙ get_or-set_same table k (entry a b n) (entry 0 0 0) lt)) w)
    (λ ne. let q = get_or-set_other table k j (entry a b n) (entry 0 0 0) ne in subst (Right op rows count) (sym q) (m j (subst (λ (z : Entry). 2 ≤ z.left) q two)))
    (cases_eq j k))

-- a result that the table has is the number of the set
pub recalled : (op : Operation) (rows : List Row) (count : ℕ) → Sound rows count → (table : List Entry) (a b n : ℕ) → 2 ≤ a → 2 ≤ b
    → Remembers op rows count table → Recalls table (min a b) (max a b) n → Adds rows count rows count (union_or_intersection op rows a b) n
recalled op rows count sound table a b n ha hb m (k, e) =
    let w = subst (Right op rows count) e (m k (subst (λ (z : Entry). 2 ≤ z.left) (sym e) (omega (arith, ha, hb)))) in
    plain rows count sound (union_or_intersection op rows a b) n w.result (λ c. w.reads c ∙ in_order op rows a b c)

-- what was just computed is a right entry
pub right_entry : (op : Operation) (rows : List Row) (count : ℕ) (rows' : List Row) (count' a b n : ℕ) → Sound rows count → a < count + 2 → b < count + 2
    → Adds rows count rows' count' (union_or_intersection op rows a b) n → Right op rows' count' (entry (min a b) (max a b) n)
right_entry op rows count rows' count' a b n sound ha hb t = record {
  left = omega (arith, ha, hb, t.more);
  right = omega (arith, ha, hb, t.more);
  result = t.held;
  reads = λ c. t.reads c
      ∙ sym (ap₂ (together op) (member_kept rows rows' count sound t.stay a c ha) (member_kept rows rows' count sound t.stay b c hb))
      ∙ sym (in_order op rows' a b c);
}

-- a row was put behind those in use, and its index is right
pub ready_made : {rows : List Row} {count : ℕ} {heads next : List ℕ} {unions intersections : List Entry} {rows' : List Row} {count' : ℕ} {heads' next' : List ℕ}
    → Ready rows count heads next unions intersections → Extends rows count rows' count' → Indexed row_hash rows' count' heads' next' → length next' ≡ length next
    → Ready rows' count' heads' next' unions intersections
ready_made {rows} {count} {heads} {next} {unions} {intersections} {rows'} {count'} {heads'} {next'} r e x l = record {
  kept = e.kept;
  indexed = x;
  room = omega (arith, r.room, l, e.long);
  unions_right = remembers_later Union rows rows' count count' r.kept.sound e.stay e.more unions r.unions_right;
  intersections_right = remembers_later Intersection rows rows' count count' r.kept.sound e.stay e.more intersections r.intersections_right;
}

ready_noted : (op : Operation) (rows : List Row) (count : ℕ) (heads next : List ℕ) (unions intersections unions' intersections' : List Entry) (a b n : ℕ)
    → Right op rows count (entry a b n) → Notes op a b n unions intersections unions' intersections'
    → Ready rows count heads next unions intersections → Ready rows count heads next unions' intersections'
ready_noted Union rows count heads next unions intersections unions' intersections' a b n w (wr, e) r = record {
  kept = r.kept;
  indexed = r.indexed;
  room = r.room;
  unions_right = remembers_noted Union rows count unions unions' a b n w wr r.unions_right;
  intersections_right = subst (Remembers Intersection rows count) (sym e) r.intersections_right;
}
ready_noted Intersection rows count heads next unions intersections unions' intersections' a b n w (wr, e) r = record {
  kept = r.kept;
  indexed = r.indexed;
  room = r.room;
  unions_right = subst (Remembers Union rows count) (sym e) r.unions_right;
  intersections_right = remembers_noted Intersection rows count intersections intersections' a b n w wr r.intersections_right;
}

-- the number of a set is written down
pub ready_remembered : (op : Operation) {rows : List Row} {count : ℕ} {rows' : List Row} {count' : ℕ} {heads next : List ℕ} {unions intersections unions' intersections' : List Entry} {a b n : ℕ}
    → Sound rows count → a < count + 2 → b < count + 2 → Adds rows count rows' count' (union_or_intersection op rows a b) n
    → Notes op (min a b) (max a b) n unions intersections unions' intersections'
    → Ready rows' count' heads next unions intersections → Ready rows' count' heads next unions' intersections'
ready_remembered op {rows} {count} {rows'} {count'} {heads} {next} {unions} {intersections} {unions'} {intersections'} {a} {b} {n} sound ha hb t w r =
    ready_noted op rows' count' heads next unions intersections unions' intersections' (min a b) (max a b) n (right_entry op rows count rows' count' a b n sound ha hb t) w r

-- the table of the operation, of which all entries are right
pub table_right : (op : Operation) (rows : List Row) (count : ℕ) (heads next : List ℕ) (unions intersections : List Entry) → Ready rows count heads next unions intersections → Remembers op rows count (table_of op unions intersections)
table_right Union rows count heads next unions intersections r = r.unions_right
table_right Intersection rows count heads next unions intersections r = r.intersections_right

-- tables of which every entry is one whose numbers are no rows
none_at : (size k : ℕ) (e : Entry) → e.left ≡ 0 → (entry_at (replicate size e) k).left ≡ 0
none_at size k e zero = ⊎_elim
    (λ lt. ap (λ (z : Entry). z.left) (get_or-replicate size k e (entry 0 0 0) lt) ∙ zero)
    (λ le. ap (λ (z : Entry). z.left) (get_or_past (replicate size e) k (entry 0 0 0) (omega (arith, le, length-replicate size e))))
    (cases_lt k size)

remembers_nothing : (op : Operation) (rows : List Row) (count size : ℕ) (e : Entry) → e.left ≡ 0 → Remembers op rows count (replicate size e)
remembers_nothing op rows count size e zero k two = absurd (omega (arith, none_at size k e zero, two))

pub ready_at_first : {rows : List Row} {count : ℕ} {heads next : List ℕ} (size : ℕ) (e f : Entry) → e.left ≡ 0 → f.left ≡ 0 → KeptBook rows count → Indexed row_hash rows count heads next → capacity rows ≤ length next
    → Ready rows count heads next (replicate size e) (replicate size f)
ready_at_first {rows} {count} size e f zero-e zero-f kept x room = record {
  kept = kept;
  indexed = x;
  room = room;
  unions_right = remembers_nothing Union rows count size e zero-e;
  intersections_right = remembers_nothing Intersection rows count size f zero-f;
}
