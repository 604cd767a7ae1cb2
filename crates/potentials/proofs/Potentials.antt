-- Values for a finite list of edges: one vertex after another is eliminated, and gets a value between its bounds.
use Rattle.std.proofs.Common.{◌≡◌, ℕ, zero, suc, ◌+◌, ◌<◌, ◌≤◌, Bool, true, false, ◌||◌, ◌⊎◌, List, [], ◌∷◌, ℤ, pos, ◌+ℤ◌, ◌-ℤ◌, ◌≤ℤ◌, sym, refl, ap, ◌∙◌, subst, inl, inr, arith}
use Rattle.std.specs.Int.{int_max, int_min}
use Rattle.std.proofs.lemmas.Int.{ints, clamps}

abbrev pub In : {A : Type 0} → A → List A → Type 0
In a [] = ⊥
In a (b ∷ bs) = (a ≡ b) ⊎ In a bs

-- `from` is at most `to` plus the gap, or below that
pub record Edge : Type 0 where
  pub strict : Bool
  pub from : ℕ
  pub to : ℕ
  pub gap : ℤ

data Bound : Type 0 where
  least : ℤ → Bound
  most : ℤ → Bound
  free : Bound

abbrev Fits : ℤ → Bound → Type 0
Fits v (least a) = a ≤ℤ v
Fits v (most a) = v ≤ℤ a
Fits v free = Unit {0}

abbrev Agree : Bound → Bound → Type 0
Agree (least a) (least b) = Unit {0}
Agree (least a) (most b) = a ≤ℤ b
Agree (least a) free = Unit {0}
Agree (most a) b = Unit {0}
Agree free b = Unit {0}

abbrev settle : ℤ → Bound → ℤ
settle v (least a) = int_max v a
settle v (most a) = int_min v a
settle v free = v

settle_own : (v : ℤ) (b : Bound) → Fits (settle v b) b
settle_own v (least a) = omega (arith, ints, clamps)
settle_own v (most a) = omega (arith, ints, clamps)
settle_own v free = tt

settle_other : (v : ℤ) (b a : Bound) → Fits v a → Agree b a → Agree a b → Fits (settle v b) a
settle_other v (least m) (least n) f g h = omega (arith, ints, clamps)
settle_other v (least m) (most n) f g h = omega (arith, ints, clamps)
settle_other v (least m) free f g h = tt
settle_other v (most m) (least n) f g h = omega (arith, ints, clamps)
settle_other v (most m) (most n) f g h = omega (arith, ints, clamps)
settle_other v (most m) free f g h = tt
settle_other v free a f g h = f

between : (bound : Edge → Bound) (es : List Edge) → ((e f : Edge) → In e es → In f es → Agree (bound e) (bound f)) → (v : ℤ) × ((e : Edge) → In e es → Fits v (bound e))
between bound [] h = (pos 0, λ e i. absurd i)
between bound (e ∷ es) h =
    let r = between bound es (λ a b i j. h a b (inr i) (inr j)) in
    (settle r.0 (bound e), λ f. elim [ inl p ↦ subst (λ a. Fits (settle r.0 (bound e)) (bound a)) (sym p) (settle_own r.0 (bound e)) | inr i ↦ settle_other r.0 (bound e) (bound f) (r.1 f i) (h e f (inl refl) (inr i)) (h f e (inr i) (inl refl)) ])

-- how a stands to b
pub data Cmp (a b : ℕ) : Type 0 where
  less : a < b → Cmp a b
  same : a ≡ b → Cmp a b
  more : b < a → Cmp a b

cmp_suc : (a b : ℕ) → Cmp a b → Cmp (suc a) (suc b)
cmp_suc a b (less h) = less (omega arith)
cmp_suc a b (same h) = same (ap suc h)
cmp_suc a b (more h) = more (omega arith)

pub cmp : (a b : ℕ) → Cmp a b
cmp zero zero = same refl
cmp zero (suc b) = less (omega arith)
cmp (suc a) zero = more (omega arith)
cmp (suc a) (suc b) = cmp_suc a b (cmp a b)

-- the edges that come from two others, end to end
pick : (e f : Edge) → Cmp e.to f.from → Edge
pick e f (less h) = f
pick e f (same h) = record { strict = e.strict || f.strict; from = e.from; to = f.to; gap = e.gap +ℤ f.gap }
pick e f (more h) = f

after : Edge → List Edge → List Edge → List Edge
after e [] out = out
after e (f ∷ fs) out = pick e f (cmp e.to f.from) ∷ after e fs out

pairs : List Edge → List Edge → List Edge
pairs [] fs = fs
pairs (e ∷ es) fs = after e fs (pairs es fs)

after_keeps : (e : Edge) (fs out : List Edge) (a : Edge) → In a out → In a (after e fs out)
unfolding after
after_keeps e [] out a i = i
after_keeps e (f ∷ fs) out a i = inr (after_keeps e fs out a i)

pairs_keeps : (es fs : List Edge) (a : Edge) → In a fs → In a (pairs es fs)
unfolding pairs
pairs_keeps [] fs a i = i
pairs_keeps (e ∷ es) fs a i = after_keeps e fs (pairs es fs) a (pairs_keeps es fs a i)

after_has : (e f : Edge) (fs out : List Edge) → In f fs → In (pick e f (cmp e.to f.from)) (after e fs out)
unfolding after
after_has e f [] out i = absurd i
after_has e f (g ∷ fs) out (inl p) = inl (ap (λ a. pick e a (cmp e.to a.from)) p)
after_has e f (g ∷ fs) out (inr i) = inr (after_has e f fs out i)

pairs_has : (e f : Edge) (es fs : List Edge) → In e es → In f fs → In (pick e f (cmp e.to f.from)) (pairs es fs)
unfolding pairs
pairs_has e f [] fs i j = absurd i
pairs_has e f (d ∷ es) fs (inl p) j = subst (λ a. In (pick e f (cmp e.to f.from)) (after a fs (pairs es fs))) p (after_has e f fs (pairs es fs) j)
pairs_has e f (d ∷ es) fs (inr i) j = after_keeps d fs (pairs es fs) _ (pairs_has e f es fs i j)

unfoldable pub slack : ℕ → Bool → ℤ
slack g true = pos g
slack g false = pos 0

slack_two : (g : ℕ) (s u : Bool) → (slack g s +ℤ slack g u) ≤ℤ slack (g + g) (s || u)
unfolding slack
slack_two g true true = omega (arith, ints)
slack_two g true false = omega (arith, ints)
slack_two g false true = omega (arith, ints)
slack_two g false false = omega (arith, ints)

slack_grows : (g h : ℕ) (s : Bool) → g ≤ h → slack g s ≤ℤ slack h s
unfolding slack
slack_grows g h true p = omega (arith, ints)
slack_grows g h false p = omega (arith, ints)

abbrev pub room : ℕ → ℕ → ℕ
room zero g = g
room (suc k) g = room k (g + g)

pub room_grows : (k g : ℕ) → g ≤ room k g
room_grows zero g = omega arith
room_grows (suc k) g = omega (arith, room_grows k (g + g))

-- where an edge lies at the vertex z
data Seat (z : ℕ) (e : Edge) : Type 0 where
  into : e.from < z → e.to ≡ z → Seat z e
  out_of : e.from ≡ z → e.to < z → Seat z e
  round : e.from ≡ z → e.to ≡ z → Seat z e
  apart : e.from < z → e.to < z → Seat z e
  beyond : (e.from ≤ z → e.to ≤ z → ⊥) → Seat z e

seated : (z : ℕ) (e : Edge) → Cmp e.from z → Cmp e.to z → Seat z e
seated z e (less h) (less i) = apart h i
seated z e (less h) (same i) = into h i
seated z e (less h) (more i) = beyond (λ a b. omega arith)
seated z e (same h) (less i) = out_of h i
seated z e (same h) (same i) = round h i
seated z e (same h) (more i) = beyond (λ a b. omega arith)
seated z e (more h) i = beyond (λ a b. omega arith)

seat : (z : ℕ) (e : Edge) → Seat z e
seat z e = seated z e (cmp e.from z) (cmp e.to z)

abbrev bound_at : (ℕ → ℤ) → ℕ → (z : ℕ) (e : Edge) → Seat z e → Bound
bound_at val g z e (into p q) = least (val e.from +ℤ slack g e.strict -ℤ e.gap)
bound_at val g z e (out_of p q) = most (val e.to +ℤ e.gap -ℤ slack g e.strict)
bound_at val g z e (round p q) = free
bound_at val g z e (apart p q) = free
bound_at val g z e (beyond p) = free

updated : (ℕ → ℤ) → (z : ℕ) → ℤ → (x : ℕ) → Cmp x z → ℤ
updated val z v x (less h) = val x
updated val z v x (same h) = v
updated val z v x (more h) = val x

update : (ℕ → ℤ) → ℕ → ℤ → ℕ → ℤ
update val z v x = updated val z v x (cmp x z)

updated_same : (val : ℕ → ℤ) (z : ℕ) (v : ℤ) (x : ℕ) (c : Cmp x z) → x ≡ z → updated val z v x c ≡ v
unfolding updated
updated_same val z v x (less h) p = absurd (omega arith)
updated_same val z v x (same h) p = refl
updated_same val z v x (more h) p = absurd (omega arith)

updated_less : (val : ℕ → ℤ) (z : ℕ) (v : ℤ) (x : ℕ) (c : Cmp x z) → x < z → updated val z v x c ≡ val x
unfolding updated
updated_less val z v x (less h) p = refl
updated_less val z v x (same h) p = absurd (omega arith)
updated_less val z v x (more h) p = refl

update_same : (val : ℕ → ℤ) (z : ℕ) (v : ℤ) (x : ℕ) → x ≡ z → update val z v x ≡ v
unfolding update
update_same val z v x p = updated_same val z v x (cmp x z) p

update_less : (val : ℕ → ℤ) (z : ℕ) (v : ℤ) (x : ℕ) → x < z → update val z v x ≡ val x
unfolding update
update_less val z v x p = updated_less val z v x (cmp x z) p

-- the values meet the edge, with room to spare where it is strict
abbrev Met : (ℕ → ℤ) → ℕ → Edge → Type 0
Met val g e = (val e.from +ℤ slack g e.strict) ≤ℤ (val e.to +ℤ e.gap)

abbrev MetBelow : (ℕ → ℤ) → ℕ → ℕ → List Edge → Type 0
MetBelow val g k es = (e : Edge) → In e es → e.from < k → e.to < k → Met val g e

module _ (R : Bool → ℕ → ℕ → ℤ → Type 0) (links : (s u : Bool) (x y z : ℕ) (c d : ℤ) → R s x z c → R u z y d → R (s || u) x y (c +ℤ d)) (top : ℕ) (loops : (s : Bool) (x : ℕ) (c : ℤ) → R s x x c → slack top s ≤ℤ c) where
  abbrev Sound : Edge → Type 0
  Sound e = R e.strict e.from e.to e.gap

  pick_sound : (e f : Edge) (c : Cmp e.to f.from) → Sound e → Sound f → Sound (pick e f c)
  unfolding pick
  pick_sound e f (less h) m n = n
  pick_sound e f (same h) m n = links e.strict f.strict e.from f.to e.to e.gap f.gap m (subst (λ a. R f.strict a f.to f.gap) (sym h) n)
  pick_sound e f (more h) m n = n

  after_sound : (e : Edge) (fs out : List Edge) → Sound e → ((a : Edge) → In a fs → Sound a) → ((a : Edge) → In a out → Sound a) → (a : Edge) → In a (after e fs out) → Sound a
  unfolding after
  after_sound e [] out m n o a i = o a i
  after_sound e (f ∷ fs) out m n o a (inl p) = subst Sound (sym p) (pick_sound e f (cmp e.to f.from) m (n f (inl refl)))
  after_sound e (f ∷ fs) out m n o a (inr i) = after_sound e fs out m (λ b j. n b (inr j)) o a i

  pairs_sound : (es fs : List Edge) → ((a : Edge) → In a es → Sound a) → ((a : Edge) → In a fs → Sound a) → (a : Edge) → In a (pairs es fs) → Sound a
  unfolding pairs
  pairs_sound [] fs m n a i = n a i
  pairs_sound (e ∷ es) fs m n a i = after_sound e fs (pairs es fs) (m e (inl refl)) n (pairs_sound es fs (λ b j. m b (inr j)) n) a i

  meet_at : (val : ℕ → ℤ) (g z : ℕ) (e f : Edge) (c : Cmp e.to f.from) → e.from < z → e.to ≡ z → f.from ≡ z → f.to < z → ((pick e f c).from < z → (pick e f c).to < z → Met val (g + g) (pick e f c)) → (val e.from +ℤ slack g e.strict -ℤ e.gap) ≤ℤ (val f.to +ℤ f.gap -ℤ slack g f.strict)
  unfolding pick
  meet_at val g z e f (less h) p q r s m = absurd (omega arith)
  meet_at val g z e f (same h) p q r s m = omega (arith, ints, m p s, slack_two g e.strict f.strict)
  meet_at val g z e f (more h) p q r s m = absurd (omega arith)

  agrees : (val : ℕ → ℤ) (g z : ℕ) (es : List Edge) → MetBelow val (g + g) z (pairs es es) → (e f : Edge) → In e es → In f es → (a : Seat z e) (b : Seat z f) → Agree (bound_at val g z e a) (bound_at val g z f b)
  agrees val g z es m e f i j (into p q) (into r s) = tt
  agrees val g z es m e f i j (into p q) (out_of r s) = meet_at val g z e f (cmp e.to f.from) p q r s (m (pick e f (cmp e.to f.from)) (pairs_has e f es es i j))
  agrees val g z es m e f i j (into p q) (round r s) = tt
  agrees val g z es m e f i j (into p q) (apart r s) = tt
  agrees val g z es m e f i j (into p q) (beyond r) = tt
  agrees val g z es m e f i j (out_of p q) b = tt
  agrees val g z es m e f i j (round p q) b = tt
  agrees val g z es m e f i j (apart p q) b = tt
  agrees val g z es m e f i j (beyond p) b = tt

  meets : (val : ℕ → ℤ) (g z : ℕ) (v : ℤ) (e : Edge) (a : Seat z e) → g ≤ top → Sound e → Fits v (bound_at val g z e a) → (e.from < z → e.to < z → Met val (g + g) e) → e.from < suc z → e.to < suc z → Met (update val z v) g e
  meets val g z v e (into p q) t m h o k l = omega (arith, ints, update_less val z v e.from p, update_same val z v e.to q)
  meets val g z v e (out_of p q) t m h o k l = omega (arith, ints, update_same val z v e.from p, update_less val z v e.to q)
  meets val g z v e (round p q) t m h o k l =
      omega (arith, ints, update_same val z v e.from p, update_same val z v e.to q, slack_grows g top e.strict t, loops e.strict e.from e.gap (subst (λ a. R e.strict e.from a e.gap) (q ∙ sym p) m))
  meets val g z v e (apart p q) t m h o k l = omega (arith, ints, update_less val z v e.from p, update_less val z v e.to q, o p q, slack_grows g (g + g) e.strict (omega arith))
  meets val g z v e (beyond p) t m h o k l = absurd (p (omega arith) (omega arith))

  pub potentials : (k g : ℕ) → room k g ≤ top → (es : List Edge) → ((e : Edge) → In e es → Sound e) → (val : ℕ → ℤ) × MetBelow val g k es
  potentials zero g h es m = (λ _. pos 0, λ e i p q. absurd (omega arith))
  potentials (suc k) g h es m =
      let r = potentials k (g + g) h (pairs es es) (pairs_sound es es m m) in
      let b = between (λ e. bound_at r.0 g k e (seat k e)) es (λ e f i j. agrees r.0 g k es r.1 e f i j (seat k e) (seat k f)) in
      (update r.0 k b.0, λ e i. meets r.0 g k b.0 e (seat k e) (omega (arith, room_grows (suc k) g)) (m e i) (b.1 e i) (r.1 e (pairs_keeps es es e i)))
