-- What a call leaves of a book: the rows that it made, or, where they did not fit, the book as before.
use Rattle.std.proofs.Common.{◌≡◌, ℕ, ◌+◌, ◌<◌, ◌≤◌, List, None, Ok, Err, Result, sym, refl, subst, arith}
use mathlib.Core.Logic.Iff
use Rattle.register.specs.Rows.{Cleared}
use Rattle.register.specs.declared.Register.{Register}
use Rattle.theory.specs.declared.Theory.{Ghosts}
use Rattle.theory.specs.Means.{meaning}
use Rattle.theory.specs.Theory.{Meaning, Lawful}
use Rattle.theory.specs.Rounds.{Question, Proper}
use Rattle.theory.specs.Abstraction.{ask, with_opposites}
use Rattle.diagrams.specs.declared.Row.{Row}
use Rattle.diagrams.specs.declared.Operation.{Operation}
use Rattle.diagrams.specs.Diagram.{Part, blank}
use Rattle.diagrams.specs.Books.{Book, KeptBook, Outnumber, RefusedFull, book_of, union_or_intersection}
use Rattle.diagrams.specs.Making.{Adds}
use Rattle.diagrams.proofs.Leaves.{keeps_made, kept_back, keeps_back, made_grows}
use Rattle.saturation.specs.Stages.{Saturated}
use Rattle.saturation.proofs.Belonging.{belonging_is_impossible}
use Rattle.saturation.proofs.FullCases.{full_cases_imply}
use Rattle.saturation.proofs.Saturating.{question_grows}
use Rattle.book.specs.declared.faults.QuestionFault.{QuestionFault}
use Rattle.book.specs.Calls.{Joined}
use Rattle.book.specs.Growing.{Enlarged}
use Rattle.book.specs.Questions.{first_fault, Answered, Asked, Implied}
use Rattle.book.proofs.Passing.{passed_proper, pairs_proper}

module _ {before after : Register Row} (e : Enlarged before after) where
  -- two numbers were put together
  pub joined : (op : Operation) (x y n : ℕ) → x < before.count + 2 → y < before.count + 2 → Adds before.rows.now before.count after.rows.now after.count (union_or_intersection op before.rows.now x y) n
      → Joined op x y (book_of before.rows.now before.count) n (book_of after.rows.now after.count)
  joined op x y n left right a = record {
    holds_left = left;
    holds_right = right;
    grows = made_grows before.rows.now before.count after.rows.now after.count e.extends (union_or_intersection op before.rows.now x y) n a;
    held = a.held;
    belong = a.reads;
  }

  -- a question was answered
  pub answered : {X : Type 0} (g : Ghosts X) (t : X) (q : Question) (n k : ℕ) → Proper (meaning g t) q → Saturated (meaning g t) q before.rows.now before.count after.rows.now after.count n k
      → Answered (meaning g t) q (book_of before.rows.now before.count) n k (book_of after.rows.now after.count)
  answered g t q n k proper s = record {
    grows = question_grows (meaning g t) q (book_of before.rows.now before.count) (book_of after.rows.now after.count) (keeps_made before.rows.now before.count after.rows.now after.count e.extends) s.progress;
    held = s.held;
    belong = s.belong;
    impossible = λ c lt. Iff.trans (s.belong c lt) (belonging_is_impossible (meaning g t) q (g.lawful t) proper c);
    rounds = s.rounds;
  }

  module _ (back : Register Row) (kept : KeptBook before.rows.now before.count) (b : before.count ≤ after.count → Cleared after.rows.now before.count after.count blank back.rows.now × (back.count ≡ before.count)) where
    -- the rows made were given back
    pub given_back : KeptBook back.rows.now back.count
    given_back = let c = b e.extends.more in subst (KeptBook back.rows.now) (sym c.1) (kept_back before.rows.now before.count after.rows.now after.count e.extends kept.sound back.rows.now c.0)

    pub refused : (W : Part → Type 0) → Outnumber (book_of before.rows.now before.count) W → RefusedFull (book_of before.rows.now before.count) (book_of back.rows.now back.count) W
    refused W many =
        let c = b e.extends.more in
        let keeps = keeps_back before.rows.now before.count after.rows.now after.count e.extends kept.sound back.rows.now c.0 in
        subst (λ z. RefusedFull (book_of before.rows.now before.count) (book_of back.rows.now z) W) (sym c.1) (record { too_many = many; keeps = keeps; as_before = refl })

full_cases : (m : Meaning) (ps gs : List ℕ) → Lawful m → Proper m (ask ps gs) → Proper m (ask (with_opposites m ps) gs) → (b b' : Book) (o : Result (record { 0 : ℕ; 1 : ℕ }) QuestionFault)
    → Asked m (ask (with_opposites m ps) gs) None b b' o → Implied m ps gs None b' o
full_cases m ps gs l proper pairs b b' (Ok p) a = λ c lt full. Iff.trans (a.belong c lt) (full_cases_imply m ps gs l proper pairs c full)
full_cases m ps gs l proper pairs b b' (Err f) a = tt

-- the full cases of an abstraction's answer
pub cases_implied : {X : Type 0} (g : Ghosts X) (t : X) (ps gs : List ℕ) (work : ℕ) (b b' : Book) (o : Result (record { 0 : ℕ; 1 : ℕ }) QuestionFault) → first_fault (g.facts t) 8 ps gs work ≡ None
    → {pairs : List ℕ} → pairs ≡ with_opposites (meaning g t) ps → Asked (meaning g t) (ask pairs gs) None b b' o → Implied (meaning g t) ps gs (first_fault (g.facts t) 8 ps gs work) b' o
cases_implied g t ps gs work b b' o none e asked =
    let m = meaning g t in
    subst (λ z. Implied m ps gs z b' o) (sym none) (full_cases m ps gs (g.lawful t) (passed_proper m 8 ps gs work (omega arith) none) (pairs_proper g t ps gs work none refl) b b' o (subst (λ xs. Asked m (ask xs gs) None b b' o) e asked))
