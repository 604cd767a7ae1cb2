-- Numbers of a list stay held as rows are added and numbers are written, and steps follow one another.
use Rattle.std.proofs.Common.{◌≡◌, ℕ, ◌+◌, ◌<◌, ◌≤◌, List, ◌++◌, length, get_or, set, drop, replicate, sym, refl, ap, ◌∙◌, subst, ap₂, ⊎_elim, arith, get_or-set_other, get_or-set_same}
use Rattle.std.proofs.lemmas.Bool.{cases_eq}
use Rattle.std.proofs.lemmas.List.{replicate-append-replicate}
use Rattle.diagrams.specs.declared.Row.{Row}
use Rattle.diagrams.specs.Books.{KeptBook}
use Rattle.book.specs.Steps.{Holding, Stepped}
use Rattle.book.specs.declared.manager.Manager.{Manager}
use Rattle.book.specs.declared.work.Work.{Work}
use Rattle.book.proofs.Grown.{grown_none, grown_more}

pub holding_later : (numbers : List ℕ) (count count' : ℕ) → count ≤ count' → Holding numbers count → Holding numbers count'
holding_later numbers count count' more h k = omega (arith, h k, more)

pub holding_set : (numbers : List ℕ) (count slot n : ℕ) → slot < length numbers → n < count + 2 → Holding numbers count → Holding (set numbers slot n) count
holding_set numbers count slot n lt held h k = ⊎_elim
    (λ e. subst (λ z. get_or (set numbers slot n) z 0 < count + 2) (sym e) (rw (get_or-set_same numbers slot n 0 lt) held))
    (λ ne. rw (get_or-set_other numbers slot k n 0 ne) (h k))
    (cases_eq k slot)

pub stepped_none : (m : Manager) (w : Work) → Holding w.standing.now m.register.now.count → Holding w.gathered.now m.register.now.count → Stepped m m w w
stepped_none m w standing gathered = record {
  register = refl;
  heads = refl;
  next = refl;
  unions = refl;
  intersections = refl;
  enlarged = grown_none m.register.now m.kept;
  standing = refl;
  gathered = refl;
  long = refl;
  standing_held = standing;
  gathered_held = gathered;
}

-- every step of a saturation keeps what the steps before it have kept, from the state where a loop began
pub carried_on : {m m' m'' : Manager} {w w' w'' : Work} → Stepped m m' w w' → Stepped m' m'' w' w'' → Stepped m m'' w w''
carried_on s t = record {
  register = t.register ∙ s.register;
  heads = t.heads ∙ s.heads;
  next = t.next ∙ s.next;
  unions = t.unions ∙ s.unions;
  intersections = t.intersections ∙ s.intersections;
  enlarged = grown_more s.enlarged t.enlarged;
  standing = t.standing ∙ s.standing;
  gathered = t.gathered ∙ s.gathered;
  long = t.long ∙ s.long;
  standing_held = t.standing_held;
  gathered_held = t.gathered_held;
}

-- a held number has 16 bits
pub held_small : {rows : List Row} {count n : ℕ} → KeptBook rows count → n < count + 2 → n < 65536
held_small kept held = omega (arith, kept.sound.within, held)

-- both halves of the part used are zeroed, the rest is as it was
pub both_zeroed : (n used a b : ℕ) (standing gathered rest numbers : List ℕ) → used ≡ n → standing ≡ replicate a 0 → gathered ≡ replicate b 0 → a + b ≡ n → rest ≡ drop used numbers
    → (standing ++ gathered) ++ rest ≡ replicate n 0 ++ drop n numbers
both_zeroed n used a b standing gathered rest numbers u s g long r =
    ap₂ ◌++◌ (ap₂ ◌++◌ s g ∙ replicate-append-replicate a b 0 ∙ ap (λ z. replicate z 0) long) (r ∙ ap (λ z. drop z numbers) u)
