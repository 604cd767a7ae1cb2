-- One step of a join: the numbers of the two halves, made one after the other, and the row of both.
use Rattle.std.proofs.Common.{◌≡◌, ℕ, zero, suc, ◌+◌, ◌-◌, ◌<◌, ◌≤◌, min, Bool, true, false, cond, eqb, ◌⊎◌, List, is_err, Some, Ok, Err, Result, sym, refl, ap, ◌∙◌, subst, ap₂, inl, inr, ⊎_elim, arith}
use mathlib.Core.Path.{fun_ext}
use Rattle.std.proofs.lemmas.Bool.{cases_eq, cond-true, cond-false, eq-eqb, ne_eqb, and_parts, and_from, or_cases, or_left, or_right, false≢true}
use Rattle.diagrams.specs.declared.Row.{Row}
use Rattle.diagrams.specs.declared.NoRoom.{NoRoom}
use Rattle.theory.specs.Counting.{MoreThan}
use Rattle.theory.specs.Rounds.{bit}
use Rattle.diagrams.specs.Diagram.{Choices, Part, RowOf, InUse, Sound, row_at, position_of, member, put_position}
use Rattle.diagrams.specs.Making.{Adds, Halves, FromOn, half, child}
use Rattle.diagrams.specs.Books.{together, union_or_intersection, capacity}
use Rattle.diagrams.specs.declared.Operation.{Operation}
use Rattle.diagrams.specs.declared.Operation.TheVariants.{Union, Intersection}
use Rattle.diagrams.specs.Applying.{Extends, Fit, Makes, Applies, Shortens, Step}
use Rattle.diagrams.proofs.Shortening.{position_row}
use Rattle.diagrams.proofs.Kept.{member_kept, position_kept}
use Rattle.diagrams.proofs.Mixing.{same_choice, bit_put_same, bit_put_other, rows_split}
use Rattle.diagrams.proofs.InUse.{member_from_on, rows_in_use}
use Rattle.diagrams.proofs.Recursion.{halves_made, join_half}

-- a set that a number has already
pub plain : (rows : List Row) (count : ℕ) → Sound rows count → (s : Choices) (n : ℕ) → n < count + 2 → ((c : ℕ) → member rows n c ≡ s c) → Adds rows count rows count s n
plain rows count sound s n held reads = record {
  long = refl;
  stay = λ r lt. refl;
  more = omega arith;
  sound = sound;
  held = held;
  reads = reads;
  exact = λ x. (inl, ⊎_elim (λ u. u) (λ row. rows_in_use rows count sound n x held (subst (λ z. RowOf z x) (fun_ext (λ c. sym (reads c))) row)));
}

pub shortened : (rows : List Row) (count : ℕ) → Sound rows count → (op : Operation) (a b n : ℕ) → a < count + 2 → b < count + 2 → Shortens op a b (Some n)
    → Adds rows count rows count (union_or_intersection op rows a b) n
shortened rows count sound op a b n ha hb s =
    plain rows count sound (union_or_intersection op rows a b) n (⊎_elim (λ e. omega (arith, e, ha)) (λ e. omega (arith, e, hb)) s.0) (s.1 rows)

pub extends_more : {rows : List Row} {count : ℕ} {rows₁ : List Row} {count₁ : ℕ} {rows₂ : List Row} {count₂ : ℕ} → Extends rows count rows₁ count₁ → Extends rows₁ count₁ rows₂ count₂ → Extends rows count rows₂ count₂
extends_more {rows} {count} {rows₁} {count₁} {rows₂} {count₂} e f = record {
  long = f.long ∙ e.long;
  stay = λ r lt. f.stay r (omega (arith, lt, e.more)) ∙ e.stay r lt;
  more = omega (arith, e.more, f.more);
  untouched = λ r le. f.untouched r (omega (arith, le, e.long)) ∙ e.untouched r le;
  kept = f.kept;
}

pub more_map : {P Q : Part → Type 0} (n m : ℕ) → m ≤ n → ((x : Part) → P x → Q x) → MoreThan n P → MoreThan m Q
more_map n m le f t = (t.0, t.1, λ x i. f x (t.2 x i), omega (arith, le, t.3))

put_again : (p c : ℕ) → p < 16 → put_position p true (put_position p false c) ≡ put_position p true c
unfolding put_position
put_again p c lt =
    same_choice _ _ (λ k hk. ⊎_elim
    (λ e. subst (λ j. bit (put_position p true (put_position p false c)) j ≡ bit (put_position p true c) j) (sym e) (bit_put_same p true (put_position p false c) lt ∙ sym (bit_put_same p true c lt)))
    (λ ne. bit_put_other p k true (put_position p false c) hk ne ∙ bit_put_other p k false c hk ne ∙ sym (bit_put_other p k true c hk ne)) (cases_eq k p))

together_more : (op : Operation) (x y x' y' : Bool) → (x ≡ true → x' ≡ true) → (y ≡ true → y' ≡ true) → together op x y ≡ true → together op x' y' ≡ true
together_more Union x y x' y' f g on = ⊎_elim (λ h. or_left x' y' (f h)) (λ h. or_right x' y' (g h)) (or_cases x y on)
together_more Intersection x y x' y' f g on = let h = and_parts x y on in and_from x' y' (f h.0) (g h.1)

module _ (rows : List Row) (count : ℕ) (sound : Sound rows count) (p : ℕ) (lt : p < 16) where
  pub child_held : (n : ℕ) (v : Bool) → n < count + 2 → child rows p n v < count + 2
  child_held zero v h = h
  child_held (suc zero) v h = h
  child_held (suc (suc r)) v h = pick (eqb (row_at rows r).position p) v
    where
      pick : (e v : Bool) → cond e (cond v (row_at rows r).with (row_at rows r).without) (suc (suc r)) < count + 2
      pick true true = (sound.ordered r (omega (arith, h))).held_with
      pick true false = (sound.ordered r (omega (arith, h))).held_without
      pick false v = h

  pub child_higher : (n : ℕ) (v : Bool) → n < count + 2 → p ≤ position_of rows n → p < position_of rows (child rows p n v)
  child_higher zero v h le = lt
  child_higher (suc zero) v h le = lt
  child_higher (suc (suc r)) v h le =
      ⊎_elim
      (λ (e : (row_at rows r).position ≡ p). subst (λ z. p < position_of rows z) (sym (cond-true (eqb (row_at rows r).position p) _ (suc (suc r)) (eq-eqb _ _ e))) (side v e))
      (λ ne. subst (λ z. p < position_of rows z) (sym (cond-false (eqb (row_at rows r).position p) (cond v (row_at rows r).with (row_at rows r).without) (suc (suc r)) (ne_eqb _ _ ne))) (omega (arith, le, ne)))
      (cases_eq (row_at rows r).position p)
    where
      side : (v : Bool) → (row_at rows r).position ≡ p → p < position_of rows (cond v (row_at rows r).with (row_at rows r).without)
      side true e = omega (arith, e, (sound.ordered r (omega (arith, h))).higher_with)
      side false e = omega (arith, e, (sound.ordered r (omega (arith, h))).higher_without)

pub step : (rows : List Row) (count : ℕ) → Sound rows count → (a b p a₀ b₀ a₁ b₁ : ℕ) → a < count + 2 → b < count + 2 → (2 ≤ a) × (2 ≤ b)
    → p ≡ min (position_of rows a) (position_of rows b) → a₀ ≡ child rows p a false → b₀ ≡ child rows p b false → a₁ ≡ child rows p a true → b₁ ≡ child rows p b true
    → Step rows count a b p a₀ b₀ a₁ b₁
step rows count sound a b p a₀ b₀ a₁ b₁ ha hb le first ea₀ eb₀ ea₁ eb₁ = record {
  sound = sound;
  in_range = omega (arith, first, position_row rows a le.0, (sound.ordered (a - 2) (omega (arith, ha, le.0))).in_range);
  held_left = ha;
  held_right = hb;
  first = first;
  left_without = ea₀;
  right_without = eb₀;
  left_with = ea₁;
  right_with = eb₁;
}

pub broken : (rows : List Row) (count : ℕ) (rows' : List Row) (count' : ℕ) (s : Choices) (o : Result ℕ NoRoom) → is_err o ≡ true → MoreThan (capacity rows) (λ x. InUse rows count x ⊎ RowOf s x) → Applies rows count rows' count' s o
broken rows count rows' count' s (Ok n) is t = absurd (false≢true is)
broken rows count rows' count' s (Err e) is t = t

pub below : {x y z : ℕ} → x < y → y ≡ z → x < z
below {x} {y} {z} h e = omega arith

module _ {rows : List Row} {count : ℕ} (op : Operation) {a b p a₀ b₀ a₁ b₁ : ℕ} (st : Step rows count a b p a₀ b₀ a₁ b₁) where
  abbrev s : Choices
  s = union_or_intersection op rows a b

  sound : Sound rows count
  sound = st.sound

  la : p ≤ position_of rows a
  la = omega (arith, st.first)

  lb : p ≤ position_of rows b
  lb = omega (arith, st.first)

  held : (n m : ℕ) (v : Bool) → n ≡ child rows p m v → m < count + 2 → n < count + 2
  held n m v e h = omega (arith, e, child_held rows count sound p st.in_range m v h)

  higher : (n m : ℕ) (v : Bool) → n ≡ child rows p m v → m < count + 2 → p ≤ position_of rows m → p < position_of rows n
  higher n m v e h le = omega (arith, ap (position_of rows) e, child_higher rows count sound p st.in_range m v h le)

  pub held_without : (a₀ < count + 2) × (b₀ < count + 2)
  held_without = (held a₀ a false st.left_without st.held_left, held b₀ b false st.right_without st.held_right)

  held_with : (a₁ < count + 2) × (b₁ < count + 2)
  held_with = (held a₁ a true st.left_with st.held_left, held b₁ b true st.right_with st.held_right)

  pub falls_without : 16 - min (position_of rows a₀) (position_of rows b₀) < 16 - min (position_of rows a) (position_of rows b)
  falls_without = omega (arith, st.first, st.in_range, higher a₀ a false st.left_without st.held_left la, higher b₀ b false st.right_without st.held_right lb)

  from_on : FromOn s p
  from_on c d e =
      ap₂ (together op) (member_from_on rows count sound a st.held_left c d (λ k above hk. e k (omega (arith, above, la)) hk)) (member_from_on rows count sound b st.held_right c d (λ k above hk. e k (omega (arith, above, lb)) hk))

  one_grows : (n c : ℕ) → n < count + 2 → member rows n (put_position p false c) ≡ true → member rows n (put_position p true c) ≡ true
  one_grows n c h on = subst (λ z. member rows n z ≡ true) (put_again p c st.in_range) (sound.growing n (put_position p false c) p h st.in_range on)

  growing : (c : ℕ) → half s p false c ≡ true → half s p true c ≡ true
  growing c on = together_more op _ _ _ _ (one_grows a c st.held_left) (one_grows b c st.held_right) on

  -- the join of two halves is a half of the join
  half_is : (v : Bool) (n m : ℕ) → n ≡ child rows p a v → m ≡ child rows p b v → union_or_intersection op rows n m ≡ half s p v
  half_is v n m e f = ap₂ (union_or_intersection op rows) e f ∙ sym (join_half rows count sound p op a b v st.held_left st.held_right st.in_range la lb)

  without_is : union_or_intersection op rows a₀ b₀ ≡ half s p false
  without_is = half_is false a₀ b₀ st.left_without st.right_without

  into_whole : (v : Bool) (x : Part) → RowOf (half s p v) x → RowOf s x
  into_whole true x row = (rows_split s p st.in_range from_on x).1 (inr (inr row))
  into_whole false x row = (rows_split s p st.in_range from_on x).1 (inr (inl row))

  pub without_full : MoreThan (capacity rows) (λ x. InUse rows count x ⊎ RowOf (union_or_intersection op rows a₀ b₀) x) → MoreThan (capacity rows) (λ x. InUse rows count x ⊎ RowOf s x)
  without_full t = more_map (capacity rows) (capacity rows) (omega arith) (λ x. ⊎_elim inl (λ row. inr (into_whole false x (subst (λ z. RowOf z x) without_is row)))) t

  module _ {rows₁ : List Row} {count₁ : ℕ} (ext : Extends rows count rows₁ count₁) where
    abbrev s₁ : Choices
    s₁ = union_or_intersection op rows₁ a₁ b₁

    pub held_later : (a₁ < count₁ + 2) × (b₁ < count₁ + 2)
    held_later = (omega (arith, held_with.0, ext.more), omega (arith, held_with.1, ext.more))

    pub falls_with : 16 - min (position_of rows₁ a₁) (position_of rows₁ b₁) < 16 - min (position_of rows a) (position_of rows b)
    falls_with =
        omega (
          arith,
          st.first,
          st.in_range,
          higher a₁ a true st.left_with st.held_left la,
          higher b₁ b true st.right_with st.held_right lb,
          position_kept rows rows₁ count sound ext.stay a₁ held_with.0,
          position_kept rows rows₁ count sound ext.stay b₁ held_with.1,
        )

    with_is : s₁ ≡ half s p true
    with_is =
        fun_ext (λ c. ap₂ (together op) (member_kept rows rows₁ count sound ext.stay a₁ c held_with.0) (member_kept rows rows₁ count sound ext.stay b₁ c held_with.1))
        ∙ half_is true a₁ b₁ st.left_with st.right_with

    module _ {n₁ : ℕ} (one : Adds rows count rows₁ count₁ (union_or_intersection op rows a₀ b₀) n₁) where
      one_is : Adds rows count rows₁ count₁ (half s p false) n₁
      one_is = subst (λ z. Adds rows count rows₁ count₁ z n₁) without_is one

      pub with_full : MoreThan (capacity rows₁) (λ x. InUse rows₁ count₁ x ⊎ RowOf s₁ x) → MoreThan (capacity rows) (λ x. InUse rows count x ⊎ RowOf s x)
      with_full t =
          more_map (capacity rows₁) (capacity rows) (omega (arith, ext.long))
          (λ x. ⊎_elim (λ u. ⊎_elim inl (λ row. inr (into_whole false x row)) ((one_is.exact x).0 u)) (λ row. inr (into_whole true x (subst (λ z. RowOf z x) with_is row)))) t

      module _ {rows₂ : List Row} {count₂ n₂ : ℕ} (two : Adds rows₁ count₁ rows₂ count₂ s₁ n₂) where
        halves : Halves rows count rows₂ count₂ s p n₁ n₂
        halves = halves_made rows count rows₁ count₁ rows₂ count₂ s p n₁ n₂ st.in_range from_on one_is (subst (λ z. Adds rows₁ count₁ rows₂ count₂ z n₂) with_is two)

        pub fit : Fit rows₂ count₂ p n₁ n₂
        fit = record {
          in_range = st.in_range;
          held_without = halves.held_without;
          held_with = halves.held_with;
          higher_without = halves.higher_without;
          higher_with = halves.higher_with;
          within = λ c on. halves.with c ∙ growing c (sym (halves.without c) ∙ on);
        }

        pub done : (rows₃ : List Row) (count₃ : ℕ) (o : Result ℕ NoRoom) → Makes rows₂ count₂ rows₃ count₃ p n₁ n₂ o → Applies rows count rows₃ count₃ s o
        done rows₃ count₃ (Ok n) m = m rows count s halves
        done rows₃ count₃ (Err e) m = more_map (capacity rows₂) (capacity rows) (omega (arith, halves.long)) (λ x u. u) (m rows count s halves)
