-- Joins that ask for no row, and the parts of a row that is read.
use Rattle.std.proofs.Common.{◌≡◌, ℕ, suc, ◌-◌, ◌≤◌, ◌≢◌, Bool, true, false, cond, ◌&&◌, ◌||◌, eqb, List, Some, sym, refl, ap, ◌∙◌, inl, inr, arith}
use Rattle.diagrams.specs.declared.Row.{Row}
use Rattle.diagrams.specs.Diagram.{row_at, member, position_of}
use Rattle.diagrams.specs.Making.{child}
use Rattle.diagrams.specs.Books.{together, neutral, absorbing}
use Rattle.diagrams.specs.declared.Operation.{Operation}
use Rattle.diagrams.specs.declared.Operation.TheVariants.{Union, Intersection}
use Rattle.diagrams.specs.Applying.{Shortens}

together_same : (op : Operation) (x : Bool) → x ≡ together op x x
together_same Union true = refl
together_same Union false = refl
together_same Intersection true = refl
together_same Intersection false = refl

or_false : (x : Bool) → x ≡ (x || false)
or_false true = refl
or_false false = refl

or_true : (x : Bool) → true ≡ (x || true)
or_true true = refl
or_true false = refl

and_true : (x : Bool) → x ≡ (x && true)
and_true true = refl
and_true false = refl

and_false : (x : Bool) → false ≡ (x && false)
and_false true = refl
and_false false = refl

pub member_0 : (rows : List Row) (c : ℕ) → member rows 0 c ≡ false
unfolding member
member_0 rows c = refl

pub member_1 : (rows : List Row) (c : ℕ) → member rows 1 c ≡ true
unfolding member
member_1 rows c = refl

pub short_same : (op : Operation) (a b : ℕ) → a ≡ b → Shortens op a b (Some a)
short_same op a b e = (inl refl, λ rows c. together_same op (member rows a c) ∙ ap (λ z. together op (member rows a c) (member rows z c)) e)

-- a constant number on the left or on the right
at : (v : Bool) (n m : ℕ) → ((rows : List Row) (c : ℕ) → member rows m c ≡ v) → n ≡ m → (rows : List Row) (c : ℕ) → member rows n c ≡ v
at v n m k e rows c = ap (λ z. member rows z c) e ∙ k rows c

pub union_left_0 : (a b : ℕ) → a ≡ 0 → Shortens Union a b (Some b)
union_left_0 a b e = (inr refl, λ rows c. ap (λ v. v || member rows b c) (sym (at false a 0 member_0 e rows c)))

pub union_right_0 : (a b : ℕ) → b ≡ 0 → Shortens Union a b (Some a)
union_right_0 a b e = (inl refl, λ rows c. or_false (member rows a c) ∙ ap (λ v. member rows a c || v) (sym (at false b 0 member_0 e rows c)))

pub union_left_1 : (a b : ℕ) → a ≡ 1 → Shortens Union a b (Some a)
union_left_1 a b e = (inl refl, λ rows c. at true a 1 member_1 e rows c ∙ ap (λ v. v || member rows b c) (sym (at true a 1 member_1 e rows c)))

pub union_right_1 : (a b : ℕ) → b ≡ 1 → Shortens Union a b (Some b)
union_right_1 a b e = (inr refl, λ rows c. at true b 1 member_1 e rows c ∙ or_true (member rows a c) ∙ ap (λ v. member rows a c || v) (sym (at true b 1 member_1 e rows c)))

pub meet_left_0 : (a b : ℕ) → a ≡ 0 → Shortens Intersection a b (Some a)
meet_left_0 a b e = (inl refl, λ rows c. at false a 0 member_0 e rows c ∙ ap (λ v. v && member rows b c) (sym (at false a 0 member_0 e rows c)))

pub meet_right_0 : (a b : ℕ) → b ≡ 0 → Shortens Intersection a b (Some b)
meet_right_0 a b e = (inr refl, λ rows c. at false b 0 member_0 e rows c ∙ and_false (member rows a c) ∙ ap (λ v. member rows a c && v) (sym (at false b 0 member_0 e rows c)))

pub meet_left_1 : (a b : ℕ) → a ≡ 1 → Shortens Intersection a b (Some b)
meet_left_1 a b e = (inr refl, λ rows c. ap (λ v. v && member rows b c) (sym (at true a 1 member_1 e rows c)))

pub meet_right_1 : (a b : ℕ) → b ≡ 1 → Shortens Intersection a b (Some a)
meet_right_1 a b e = (inl refl, λ rows c. and_true (member rows a c) ∙ ap (λ v. member rows a c && v) (sym (at true b 1 member_1 e rows c)))

-- of a number that shortens every join by itself: on the left or on the right
pub left_neutral : (op : Operation) (a b : ℕ) → a ≡ neutral op → Shortens op a b (Some b)
left_neutral Union = union_left_0
left_neutral Intersection = meet_left_1

pub right_neutral : (op : Operation) (a b : ℕ) → b ≡ neutral op → Shortens op a b (Some a)
right_neutral Union = union_right_0
right_neutral Intersection = meet_right_1

pub left_absorbing : (op : Operation) (a b : ℕ) → a ≡ absorbing op → Shortens op a b (Some a)
left_absorbing Union = union_left_1
left_absorbing Intersection = meet_left_0

pub right_absorbing : (op : Operation) (a b : ℕ) → b ≡ absorbing op → Shortens op a b (Some b)
right_absorbing Union = union_right_1
right_absorbing Intersection = meet_right_0

-- any other number is that of a row
pub row_number : (op : Operation) (n : ℕ) → n ≢ neutral op → n ≢ absorbing op → 2 ≤ n
row_number Union n a b = omega arith
row_number Intersection n a b = omega arith

pub position_row : (rows : List Row) (n : ℕ) → 2 ≤ n → position_of rows n ≡ (row_at rows (n - 2)).position
position_row rows n le = let e : n ≡ suc (suc (n - 2)) = omega arith in ap (position_of rows) e

pub child_row : (rows : List Row) (p n : ℕ) (v : Bool) → 2 ≤ n
    → child rows p n v ≡ cond (eqb (row_at rows (n - 2)).position p) (cond v (row_at rows (n - 2)).with (row_at rows (n - 2)).without) n
child_row rows p n v le =
    let e : n ≡ suc (suc (n - 2)) = omega arith in
    ap (λ z. child rows p z v) e ∙ ap (λ z. cond (eqb (row_at rows (n - 2)).position p) (cond v (row_at rows (n - 2)).with (row_at rows (n - 2)).without) z) (sym e)
