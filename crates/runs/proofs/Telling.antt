-- After any run, reading a number that the book has given says yes exactly to the choices that it was given for; so two
-- given numbers are equal exactly when they were given for the same choices.
use Rattle.std.proofs.Common.{◌≡◌, ℕ, ◌^◌, ◌<◌, ◌≤◌, Bool, true, false, eqb, ◌↔◌, List, [], ◌∷◌, ◌++◌, Some, None, Ok, Err, Option, Result, sym, refl, ◌∙◌, subst, inl, inr, ⊎_elim, arith}
use mathlib.Core.Logic.Iff
use mathlib.Core.List.Memᴰ
use mathlib.Core.List.{Memᴰ}
use Rattle.std.proofs.lemmas.Bool.{false≢true, eqb-true, cond_both, and_parts, and_from, or_cases, or_left, or_right}
use Rattle.theory.specs.Theory.{Meaning}
use Rattle.theory.specs.Rounds.{Question}
use Rattle.theory.specs.Abstraction.{ask, with_opposites}
use Rattle.diagrams.specs.declared.Operation.{Operation}
use Rattle.diagrams.specs.declared.Operation.TheVariants.{Union, Intersection}
use Rattle.diagrams.specs.Diagram.{Part, Sound, member}
use Rattle.diagrams.specs.Books.{Book, Held, Keeps, Grows, RefusedFull, opening, together}
use Rattle.diagrams.proofs.Canonical.{equal_sets_one_number}
use Rattle.diagrams.proofs.Kept.{member_kept, sound_kept, sound_opening}
use Rattle.book.specs.declared.faults.QuestionFault.{QuestionFault}
use Rattle.book.specs.declared.faults.BookFault.TheVariants.{Full, NotHeld}
use Rattle.book.specs.Questions.{first_fault, Asked}
use Rattle.book.specs.Runs.{Call, question, abstraction, join, reading, Answer, Serves, GivenFor, none, all, impossible, together_of, Has, Given, given, first_given, else_read, part, gives_number, at_opening, Run, opened, called}
use Rattle.runs.specs.Statements.{EqualNumbersEqualChoices, GivenNumbersRead}

-- reading the number says yes exactly to these choices
Tells : Book → ℕ → GivenFor → Type 0
Tells b n s = (c : ℕ) → c < 2 ^ 16 → (member b.rows n c ≡ true) ↔ Has s c

abbrev Told : Book → Given → Type 0
Told b x = Held b x.number × Tells b x.number x.choices

record Telling (b : Book) (so_far : List Given) : Type 0 where
  sound : Sound b.rows b.count
  told : (x : Given) → Memᴰ x so_far → Told b x

same_answer : (x y : Bool) → (x ≡ true → y ≡ true) → (y ≡ true → x ≡ true) → x ≡ y
same_answer true true f g = refl
same_answer true false f g = sym (f refl)
same_answer false true f g = g refl
same_answer false false f g = refl

-- what was told of a number stays true while its rows stay
stays_told : (b b' : Book) → Sound b.rows b.count → Keeps b b' → b.count ≤ b'.count → (x : Given) → Told b x → Told b' x
unfolding Tells
stays_told b b' sound keeps more x t =
    let e : (c : ℕ) → member b'.rows x.number c ≡ member b.rows x.number c = λ c. member_kept b.rows b'.rows b.count sound keeps.stay x.number c t.0 in
    (omega (arith, more, t.0), λ c lt. (λ on. (t.1 c lt).0 (sym (e c) ∙ on), λ h. e c ∙ (t.1 c lt).1 h))

extended : (b b' : Book) (before new : List Given) → Telling b before → Sound b'.rows b'.count → ((x : Given) → Told b x → Told b' x) → ((x : Given) → Memᴰ x new → Told b' x)
    → Telling b' (before ++ new)
extended b b' before new t sound old fresh = record {
  sound = sound;
  told = λ x m. ⊎_elim (λ m'. old x (t.told x m')) (fresh x) (Memᴰ.append_cases before m);
}

-- nothing changed, and no number was given
unchanged : (b b' : Book) (before : List Given) → Telling b before → b' ≡ b → Telling b' (before ++ [])
unchanged b b' before t e = subst (λ z. Telling z (before ++ [])) (sym e) (extended b b before [] t t.sound (λ x h. h) (λ x m. absurd (Memᴰ.not-nil m)))

-- refused for want of rows
no_room : (b b' : Book) (W : Part → Type 0) (before : List Given) → Telling b before → RefusedFull b b' W → Telling b' (before ++ [])
no_room b b' W before t full =
    let sound : Sound b'.rows b'.count = subst (λ n. Sound b'.rows n) (sym full.as_before) (sound_kept b.rows b'.rows b.count t.sound full.keeps.stay full.keeps.long) in
    extended b b' before [] t sound (stays_told b b' t.sound full.keeps (omega (arith, full.as_before))) (λ x m. absurd (Memᴰ.not-nil m))

-- one number more
one_more : (b b' : Book) (W : Part → Type 0) (before : List Given) (n : ℕ) (s : GivenFor) → Telling b before → Grows b b' W → Held b' n → Tells b' n s → Telling b' (before ++ (given n s ∷ []))
one_more b b' W before n s t grows held tells =
    extended b b' before (given n s ∷ []) t grows.sound (stays_told b b' t.sound grows.keeps grows.more)
    (λ x m. subst (Told b') (sym (Memᴰ.eq_of_singleton m)) (held, tells))

-- the part of a join tells the choices that it counts with
told_part : (b : Book) (before : List Given) (n : ℕ) → ((x : Given) → Memᴰ x before → Told b x) → Tells b n (part before b n)
unfolding Tells
told_part b [] n told = λ c lt. (λ h. h, λ h. h)
told_part b (g ∷ gs) n told =
    cond_both (eqb g.number n) (Some g.choices) (first_given gs n) (λ o. Tells b n (else_read o b.rows n))
    (λ e. subst (λ k. Tells b k g.choices) (eqb-true g.number n e) (told g (Memᴰ.head refl)).1)
    (λ e. told_part b gs n (λ x m. told x (Memᴰ.tail m)))

-- belonging to the union or to the intersection of two sets
joined_tells : (op : Operation) (s t : GivenFor) (c : ℕ) (x y : Bool) → (x ≡ true) ↔ Has s c → (y ≡ true) ↔ Has t c → (together op x y ≡ true) ↔ Has (together_of op s t) c
joined_tells Union s t c x y f g = (λ h. ⊎_elim (λ e. inl (f.0 e)) (λ e. inr (g.0 e)) (or_cases x y h), ⊎_elim (λ h. or_left x y (f.1 h)) (λ h. or_right x y (g.1 h)))
joined_tells Intersection s t c x y f g = (λ h. (f.0 (and_parts x y h).0, g.0 (and_parts x y h).1), λ h. and_from x y (f.1 h.0) (g.1 h.1))

-- 0 is no choice and 1 every choice, in any book
told_none : (b : Book) → Told b (given 0 none)
unfolding Tells member
told_none b = (omega arith, λ c lt. (λ h. false≢true h, λ h. absurd h))

told_all : (b : Book) → Told b (given 1 all)
unfolding Tells member
told_all b = (omega arith, λ c lt. (λ h. tt, λ h. refl))

abbrev IsOk : {A E : Type 0} → Result A E → Type 0
IsOk (Ok x) = Unit {0}
IsOk (Err e) = ⊥

pub ok_not_err : {A E : Type 0} (x : A) (e : E) → ◌≡◌ {A = Result A E} (Ok x) (Err e) → ⊥
ok_not_err x e is = subst IsOk is tt

-- the number that a question gives, if any
answered : Meaning → Question → Result (record { 0 : ℕ; 1 : ℕ }) QuestionFault → List Given
answered m q (Ok p) = given p.0 (impossible m q) ∷ []
answered m q (Err fault) = []

asked : (m : Meaning) (q : Question) (check : Option QuestionFault) (b : Book) (before : List Given) (r : Result (record { 0 : ℕ; 1 : ℕ }) QuestionFault) (b' : Book) → Telling b before
    → Asked m q check b b' r → Telling b' (before ++ answered m q r)
unfolding Tells answered
asked m q (Some fault) b before (Ok p) b' t s = absurd (ok_not_err p fault s.0)
asked m q (Some fault) b before (Err e) b' t s = unchanged b b' before t s.1
asked m q None b before (Ok p) b' t s = one_more b b' _ before p.0 (impossible m q) t s.grows s.held s.impossible
asked m q None b before (Err e) b' t s = no_room b b' _ before t s.1

-- each call keeps the book telling
served : (b : Book) (before : List Given) (call : Call) (r : Answer call) (b' : Book) → Telling b before → Serves b call r b' → Telling b' (before ++ gives_number before b call r)
unfolding Tells answered
served b before (question m ps gs work) (Ok p) b' t s = asked m (ask ps gs) (first_fault m.facts 16 ps gs work) b before (Ok p) b' t s
served b before (question m ps gs work) (Err e) b' t s = asked m (ask ps gs) (first_fault m.facts 16 ps gs work) b before (Err e) b' t s
served b before (abstraction m ps gs work) (Ok p) b' t s = asked m (ask (with_opposites m ps) gs) (first_fault m.facts 8 ps gs work) b before (Ok p) b' t s
served b before (abstraction m ps gs work) (Err e) b' t s = asked m (ask (with_opposites m ps) gs) (first_fault m.facts 8 ps gs work) b before (Err e) b' t s
served b before (join op x y) (Ok n) b' t s =
    one_more b b' _ before n (together_of op (part before b x) (part before b y)) t s.grows s.held
    (λ c lt. subst (λ z. (z ≡ true) ↔ Has (together_of op (part before b x) (part before b y)) c) (sym (s.belong c))
    (joined_tells op (part before b x) (part before b y) c (member b.rows x c) (member b.rows y c) (told_part b before x t.told c lt) (told_part b before y t.told c lt)))
served b before (join op x y) (Err Full) b' t s = no_room b b' _ before t s.2
served b before (join op x y) (Err NotHeld) b' t s = unchanged b b' before t s.1
served b before (reading n c) r b' t s = unchanged b b' before t s.1

told_first : (b : Book) (x : Given) → Memᴰ x at_opening → Told b x
told_first b x (Memᴰ.head e) = subst (Told b) (sym e) (told_none b)
told_first b x (Memᴰ.tail m) = subst (Told b) (sym (Memᴰ.eq_of_singleton m)) (told_all b)

telling : (b : Book) (so_far : List Given) → Run b so_far → Telling b so_far
telling b so_far (opened slice) = record { sound = sound_opening slice; told = told_first (opening slice) }
telling b so_far (called {b = b₀} {before = before} run call r b' allowed s) = served b₀ before call r b' (telling b₀ before run) s

pub equal_numbers_equal_choices : EqualNumbersEqualChoices
unfolding Tells
equal_numbers_equal_choices b so_far run x y mx my =
    let t = telling b so_far run in
    let tx = t.told x mx in
    let ty = t.told y my in (
      λ e c lt. Iff.trans (Iff.symm (tx.1 c lt)) (subst (λ n. (member b.rows n c ≡ true) ↔ Has y.choices c) (sym e) (ty.1 c lt)),
      λ same. equal_sets_one_number b.rows b.count t.sound x.number y.number tx.0 ty.0
          (λ c lt. same_answer _ _ (λ h. (ty.1 c lt).1 ((same c lt).0 ((tx.1 c lt).0 h))) (λ h. (tx.1 c lt).1 ((same c lt).1 ((ty.1 c lt).0 h)))),
    )

pub given_numbers_read : GivenNumbersRead
unfolding Tells
given_numbers_read b so_far run x mx = (telling b so_far run).told x mx
