-- What a run over the records of a file does: each in turn is taken, and each line is printed as it comes.
--
--   Taken    what taking a record answered, and what it left of a session
--   FirstOf  the first record of a file's bytes, and the bytes behind it: eight, or all where fewer are left
--   Ran      a run over the records in these bytes, of which the first is at a place: what it left of the session and of
--            `print`, and what it ended with. `print` relates its state, a line, its answer and its next state
use Rattle.std.specs.Prelude.{◌≡◌, ℕ, ◌+◌, ◌<◌, min, List, ◌++◌, length, Some, None, Ok, Err, Option, Result, IfSome, IfOk, OnErr, is_ok, is_some, if◌then◌else◌}
use Rattle.records.specs.declared.line.Line.{Line}
use Rattle.records.specs.Lines.{line_of, refusal_text}
use Rattle.records.specs.Pending.{predicates_of, goals_of}
use Rattle.records.specs.Records.{record_of}
use Rattle.session.specs.declared.faults.Fault.{Fault}
use Rattle.session.specs.declared.session.Session.{Session}
use Rattle.session.specs.Faults.{fault_number}
use Rattle.session.specs.Taking.{first_refusal, predicates_after, goals_after, asks, Accepted, TableAfter}

pub record Taken (s : Session) (bytes : List ℕ) (t : Session) (result : Result (Option Line) Fault) : Type 0 where
  pub refused : IfSome (first_refusal s.progress s.table.now.lent.count (record_of bytes)) (λ fault. result ≡ Err fault)
  pub accepted : Accepted (record_of bytes) (first_refusal s.progress s.table.now.lent.count (record_of bytes)) result
  pub table : TableAfter (record_of bytes) s.table.now.lent.rows.now s.table.now.lent.count t.table.now.lent.rows.now t.table.now.lent.count result
  pub predicates : predicates_of t.progress.pending ≡ (if is_ok result then predicates_after (record_of bytes) (predicates_of s.progress.pending) else predicates_of s.progress.pending)
  pub goals : goals_of t.progress.pending ≡ (if is_ok result then goals_after (record_of bytes) (goals_of s.progress.pending) else goals_of s.progress.pending)
  pub answers : OnErr result (t.progress.answers.items ≡ s.progress.answers.items)
  pub line : IfOk result (λ line. is_some line ≡ asks (record_of bytes))

pub record FirstOf (bytes first rest : List ℕ) : Type 0 where
  pub parts : bytes ≡ first ++ rest
  pub some : 0 < length bytes
  pub long : length first ≡ min 8 (length bytes)

pub data Ran {E F : Type 0} (print : F → Line → Result (Unit {0}) E → F → Type 0) : Session → F → ℕ → List ℕ → Session → F → Result (Unit {0}) E → Type 0 where
  -- no bytes are left
  at_end : {s : Session} {f : F} {place : ℕ} {bytes : List ℕ} → length bytes ≡ 0 → Ran print s f place bytes s f (Ok tt)
  -- a term, a predicate or a goal
  waits : {s t u : Session} {f g : F} {place : ℕ} {bytes first rest : List ℕ} {result : Result (Unit {0}) E} → FirstOf bytes first rest → Taken s first t (Ok None) → Ran print t f (place + 1) rest u g result → Ran print s f place bytes u g result
  -- a question or an abstraction, whose line is printed
  answers : {s t u : Session} {f g h : F} {place : ℕ} {bytes first rest : List ℕ} {line : Line} {result : Result (Unit {0}) E} → FirstOf bytes first rest → Taken s first t (Ok (Some line)) → print f line (Ok tt) g → Ran print t g (place + 1) rest u h result → Ran print s f place bytes u h result
  -- the same, whose line could not be printed
  breaks : {s t : Session} {f g : F} {place : ℕ} {bytes first rest : List ℕ} {line : Line} {error : E} → FirstOf bytes first rest → Taken s first t (Ok (Some line)) → print f line (Err error) g → Ran print s f place bytes t g (Err error)
  -- a refused record, whose refusal is printed
  refuses : {s t : Session} {f g : F} {place : ℕ} {bytes first rest : List ℕ} {fault : Fault} {result : Result (Unit {0}) E} → FirstOf bytes first rest → Taken s first t (Err fault) → print f (line_of (refusal_text (fault_number fault) place)) result g → Ran print s f place bytes t g result
