-- Gathering the facts of statements one after the other.
--
--   one_more_behind  a fact in front of others, when these get one more behind them
--   one_more         the facts of the statements up to a place, and the one stated there
--   refused_behind   a fact in front of others, when these are refused once there are more
--   refused_at       where the statement at a place is refused, behind others that are not, so are they all
use Rattle.std.proofs.Common.{◌≡◌, ℕ, ◌<◌, List, [], ◌∷◌, ◌++◌, length, take, get_or, Ok, Err, Result, refl, arith, zero, suc}
use Rattle.records.specs.declared.record.Statement.{Statement}
use Rattle.session.specs.declared.faults.Fault.{Fault}
use Rattle.session.specs.Stated.{all_stated, in_front}

one_more_behind : (first : Result ℕ Fault) (a b : Result (List ℕ) Fault) (ns : List ℕ) (n : ℕ) → ((ms : List ℕ) → a ≡ Ok ms → b ≡ Ok (ms ++ n ∷ [])) → in_front first a ≡ Ok ns → in_front first b ≡ Ok (ns ++ n ∷ [])
one_more_behind (Err fault) a b ns n more e = cc
one_more_behind (Ok m) (Err fault) b ns n more e = cc
one_more_behind (Ok m) (Ok ms) b ns n more e = rw (more ms refl) (cc)

pub one_more : (state : Statement → Result ℕ Fault) (xs : List Statement) (i : ℕ) (d : Statement) (ns : List ℕ) (n : ℕ) → i < length xs → all_stated state (take i xs) ≡ Ok ns → state (get_or xs i d) ≡ Ok n → all_stated state (take (suc i) xs) ≡ Ok (ns ++ n ∷ [])
one_more state [] i d ns n h e s = absurd (omega arith)
one_more state (x ∷ xs) zero d ns n h e s = rw s (cc)
one_more state (x ∷ xs) (suc i) d ns n h e s = one_more_behind (state x) _ _ ns n (λ ms f. one_more state xs i d ms n (omega arith) f s) e

refused_behind : (first : Result ℕ Fault) (a b : Result (List ℕ) Fault) (ns : List ℕ) (fault : Fault) → ((ms : List ℕ) → a ≡ Ok ms → b ≡ Err fault) → in_front first a ≡ Ok ns → in_front first b ≡ Err fault
refused_behind (Err f) a b ns fault more e = cc
refused_behind (Ok m) (Err f) b ns fault more e = cc
refused_behind (Ok m) (Ok ms) b ns fault more e = rw (more ms refl) refl

pub refused_at : (state : Statement → Result ℕ Fault) (xs : List Statement) (i : ℕ) (d : Statement) (ns : List ℕ) (fault : Fault) → i < length xs → all_stated state (take i xs) ≡ Ok ns → Err fault ≡ state (get_or xs i d) → all_stated state xs ≡ Err fault
refused_at state [] i d ns fault h e s = absurd (omega arith)
refused_at state (x ∷ xs) zero d ns fault h e s = rw (← s) refl
refused_at state (x ∷ xs) (suc i) d ns fault h e s = refused_behind (state x) _ _ ns fault (λ ms f. refused_at state xs i d ms fault (omega arith) f s) e
