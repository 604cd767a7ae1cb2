-- Steps of a run one after the other, what a part of a join counts with, and what equal numbers tell.
use Rattle.std.proofs.Common.{◌≡◌, ℕ, Bool, true, false, cond, eqb, ◌⊎◌, List, [], ◌∷◌, ◌++◌, Some, sym, refl, ap, ◌∙◌, subst, inl, inr, ⊎_elim}
use mathlib.Core.Logic.Iff
use mathlib.Core.List.Memᴰ
use mathlib.Core.List.{Memᴰ}
use Rattle.std.proofs.lemmas.Bool.{true≢false, eqb-true, eq-eqb}
use Rattle.diagrams.specs.declared.Operation.{Operation}
use Rattle.diagrams.specs.declared.Operation.TheVariants.{Union, Intersection}
use Rattle.diagrams.specs.Books.{Book}
use Rattle.book.specs.Runs.{GivenFor, together_of, Same, Given, given, first_given, else_read, part, Run}
use Rattle.runs.proofs.Telling.{equal_numbers_equal_choices}
use Rattle.comparison.specs.Comparing.{Leads, Tells, Compared}

-- a call that is a step of each run, whatever number it gives
pub goes_leads : {b b' : Book} {new : List Given → List Given} → ((before : List Given) → Run b before → Run b' (before ++ new before)) → Leads b b'
goes_leads {new = new} goes before run = record { so_far = before ++ new before; run = goes before run; earlier = λ z m. Memᴰ.append_left (new before) m }

-- one call, and what comes after it
pub leads_on : {b b₁ b₂ : Book} {new : List Given → List Given} → ((before : List Given) → Run b before → Run b₁ (before ++ new before)) → Leads b₁ b₂ → Leads b b₂
leads_on {new = new} goes after before run =
    let x = after (before ++ new before) (goes before run) in
    record { so_far = x.so_far; run = x.run; earlier = λ z m. x.earlier z (Memᴰ.append_left (new before) m) }

same_trans : (s t u : GivenFor) → Same s t → Same t u → Same s u
same_trans s t u f g c lt = Iff.trans (f c lt) (g c lt)

same_turned : (s t : GivenFor) → Same s t → Same t s
same_turned s t f c lt = Iff.symm (f c lt)

same_together : (op : Operation) (s s' t t' : GivenFor) → Same s s' → Same t t' → Same (together_of op s t) (together_of op s' t')
same_together Union s s' t t' f g c lt = (⊎_elim (λ h. inl ((f c lt).0 h)) (λ h. inr ((g c lt).0 h)), ⊎_elim (λ h. inl ((f c lt).1 h)) (λ h. inr ((g c lt).1 h)))
same_together Intersection s s' t t' f g c lt = (λ h. ((f c lt).0 h.0, (g c lt).0 h.1), λ h. ((f c lt).1 h.0, (g c lt).1 h.1))

-- a number that was given is found, with the choices for which it was given first
pub record Found (gs : List Given) (n : ℕ) : Type 0 where
  pub choices : GivenFor
  pub first : first_given gs n ≡ Some choices
  pub one_of : Memᴰ (given n choices) gs

found_here : (g : Given) (gs : List Given) (n : ℕ) → eqb g.number n ≡ true → Found (g ∷ gs) n
found_here g gs n e = record {
  choices = g.choices;
  first = ap (λ z. cond z (Some g.choices) (first_given gs n)) e;
  one_of = subst (λ k. Memᴰ (given k g.choices) (g ∷ gs)) (eqb-true g.number n e) (Memᴰ.head refl);
}

found_behind : (g : Given) (gs : List Given) (n : ℕ) → eqb g.number n ≡ false → Found gs n → Found (g ∷ gs) n
found_behind g gs n e f = record {
  choices = f.choices;
  first = ap (λ z. cond z (Some g.choices) (first_given gs n)) e ∙ f.first;
  one_of = Memᴰ.tail f.one_of;
}

is_here : (g : Given) (n : ℕ) (s : GivenFor) → given n s ≡ g → eqb g.number n ≡ true
is_here g n s e = eq-eqb g.number n (ap (λ (z : Given). z.number) (sym e))

found : (gs : List Given) (n : ℕ) (s : GivenFor) → Memᴰ (given n s) gs → Found gs n
found [] n s m = absurd (Memᴰ.not-nil m)
found (g ∷ gs) n s m = by (eqb g.number n) refl (Memᴰ.cases_cons m) (λ m'. found gs n s m')
  where
    by : (x : Bool) → eqb g.number n ≡ x → (given n s ≡ g) ⊎ Memᴰ (given n s) gs → (Memᴰ (given n s) gs → Found gs n) → Found (g ∷ gs) n
    by true e w rest = found_here g gs n e
    by false e (inl is) rest = absurd (true≢false (sym (is_here g n s is) ∙ e))
    by false e (inr m') rest = found_behind g gs n e (rest m')

-- a part of a join counts with the choices for which its number was given, whichever of them
part_same : (b : Book) (before : List Given) → Run b before → (n : ℕ) (s : GivenFor) → Memᴰ (given n s) before → Same (part before b n) s
part_same b before run n s m =
    let f = found before n s m in
    subst (λ o. Same (else_read o b.rows n) s) (sym f.first) ((equal_numbers_equal_choices b before run (given n f.choices) (given n s) f.one_of m).0 refl)

tells : (b : Book) (so_far : List Given) → Run b so_far → (n k : ℕ) (s t : GivenFor) → Memᴰ (given n s) so_far → Memᴰ (given k t) so_far → Tells (eqb n k) s t
tells b so_far run n k s t ms mt =
    let e = equal_numbers_equal_choices b so_far run (given n s) (given k t) ms mt in
    (λ is. e.0 (eqb-true n k is), λ same. eq-eqb n k (e.1 same))

retold : (equal : Bool) (s t t' : GivenFor) → Same t t' → Tells equal s t → Tells equal s t'
retold equal s t t' same h = (λ e. same_trans s t t' (h.0 e) same, λ g. h.1 (same_trans s t' t g (same_turned t t' same)))

last_of : (before : List Given) (x : Given) → Memᴰ x (before ++ (x ∷ []))
last_of before x = Memᴰ.append_right before (Memᴰ.head refl)

-- the whole of a comparison: seven calls, of which the third gives nothing that is compared
pub compared : {b₀ b₁ b₂ b₃ b₄ b₅ b₆ b₇ : Book} {n₁ n₂ n₃ n₄ n₅ n₆ : ℕ} {s t u v : GivenFor}
    → ((before : List Given) → Run b₀ before → Run b₁ (before ++ (given n₁ s ∷ [])))
    → ((before : List Given) → Run b₁ before → Run b₂ (before ++ (given n₂ t ∷ [])))
    → Leads b₂ b₃
    → ((before : List Given) → Run b₃ before → Run b₄ (before ++ (given n₃ u ∷ [])))
    → ((before : List Given) → Run b₄ before → Run b₅ (before ++ (given n₄ v ∷ [])))
    → ((before : List Given) → Run b₅ before → Run b₆ (before ++ (given n₅ (together_of Union (part before b₅ n₁) (part before b₅ n₂)) ∷ [])))
    → ((before : List Given) → Run b₆ before → Run b₇ (before ++ (given n₆ (together_of Intersection (part before b₆ n₅) (part before b₆ n₄)) ∷ [])))
    → (before : List Given) → Run b₀ before
    → Compared b₇ before s t u v (record { second = eqb n₁ n₂; third = eqb n₁ n₃; cases = eqb n₁ n₄; union = eqb n₁ n₅; intersection = eqb n₁ n₆ })
compared {b₅ = b₅} {b₆ = b₆} {b₇ = b₇} {n₁ = n₁} {n₂ = n₂} {n₃ = n₃} {n₄ = n₄} {n₅ = n₅} {n₆ = n₆} {s = s} {t = t} {u = u} {v = v} f₁ f₂ f₃ f₄ f₅ f₆ f₇ before run₀ =
    let run₁ = f₁ before run₀ in
    let g₁ = before ++ (given n₁ s ∷ []) in
    let run₂ = f₂ g₁ run₁ in
    let g₂ = g₁ ++ (given n₂ t ∷ []) in
    let l = f₃ g₂ run₂ in
    let g₃ = l.so_far in
    let run₄ = f₄ g₃ l.run in
    let g₄ = g₃ ++ (given n₃ u ∷ []) in
    let run₅ = f₅ g₄ run₄ in
    let g₅ = g₄ ++ (given n₄ v ∷ []) in
    let w = together_of Union (part g₅ b₅ n₁) (part g₅ b₅ n₂) in
    let run₆ = f₆ g₅ run₅ in
    let g₆ = g₅ ++ (given n₅ w ∷ []) in
    let x = together_of Intersection (part g₆ b₆ n₅) (part g₆ b₆ n₄) in
    let run₇ = f₇ g₆ run₆ in
    let g₇ = g₆ ++ (given n₆ x ∷ []) in
    let up : (z : Given) → Memᴰ z g₃ → Memᴰ z g₅ = λ z m. Memᴰ.append_left (given n₄ v ∷ []) (Memᴰ.append_left (given n₃ u ∷ []) m) in
    let end : (z : Given) → Memᴰ z g₅ → Memᴰ z g₇ = λ z m. Memᴰ.append_left (given n₆ x ∷ []) (Memᴰ.append_left (given n₅ w ∷ []) m) in
    let first : Memᴰ (given n₁ s) g₅ = up (given n₁ s) (l.earlier (given n₁ s) (Memᴰ.append_left (given n₂ t ∷ []) (last_of before (given n₁ s)))) in
    let second : Memᴰ (given n₂ t) g₅ = up (given n₂ t) (l.earlier (given n₂ t) (last_of g₁ (given n₂ t))) in
    let third : Memᴰ (given n₃ u) g₅ = Memᴰ.append_left (given n₄ v ∷ []) (last_of g₃ (given n₃ u)) in
    let fourth : Memᴰ (given n₄ v) g₅ = last_of g₄ (given n₄ v) in
    let fifth : Memᴰ (given n₅ w) g₇ = Memᴰ.append_left (given n₆ x ∷ []) (last_of g₅ (given n₅ w)) in
    let sixth : Memᴰ (given n₆ x) g₇ = last_of g₆ (given n₆ x) in
    let union : Same w (together_of Union s t) = same_together Union (part g₅ b₅ n₁) s (part g₅ b₅ n₂) t (part_same b₅ g₅ run₅ n₁ s first) (part_same b₅ g₅ run₅ n₂ t second) in
    let both : Same x (together_of Intersection (together_of Union s t) v) =
    same_together Intersection (part g₆ b₆ n₅) (together_of Union s t) (part g₆ b₆ n₄) v (same_trans (part g₆ b₆ n₅) w (together_of Union s t) (part_same b₆ g₆ run₆ n₅ w (last_of g₅ (given n₅ w))) union)
    (part_same b₆ g₆ run₆ n₄ v (Memᴰ.append_left (given n₅ w ∷ []) fourth)) in
    record {
      later = record {
        so_far = g₇;
        run = run₇;
        earlier = λ z m. end z (up z (l.earlier z (Memᴰ.append_left (given n₂ t ∷ []) (Memᴰ.append_left (given n₁ s ∷ []) m))));
      };
      second = tells b₇ g₇ run₇ n₁ n₂ s t (end (given n₁ s) first) (end (given n₂ t) second);
      third = tells b₇ g₇ run₇ n₁ n₃ s u (end (given n₁ s) first) (end (given n₃ u) third);
      cases = tells b₇ g₇ run₇ n₁ n₄ s v (end (given n₁ s) first) (end (given n₄ v) fourth);
      union = retold (eqb n₁ n₅) s w (together_of Union s t) union (tells b₇ g₇ run₇ n₁ n₅ s w (end (given n₁ s) first) fifth);
      intersection = retold (eqb n₁ n₆) s x (together_of Intersection (together_of Union s t) v) both (tells b₇ g₇ run₇ n₁ n₆ s x (end (given n₁ s) first) sixth);
    }
