-- What a step says where it fails.
use Rattle.std.proofs.Common.{◌≡◌, true, is_err, Ok, Err, Result, MatchResult}
use Rattle.std.proofs.lemmas.Bool.{false≢true}

pub failed : {A E : Type 0} (o : Result A E) → is_err o ≡ true → (P : A → Type 0) (Q : Type 0) → Q → MatchResult o P (λ _. Q)
failed (Ok n) is P Q t = absurd (false≢true is)
failed (Err e) is P Q t = t
