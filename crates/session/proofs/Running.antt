-- A run goes on by one record, and what is left of the file shrinks by it.
--
--   waited      a record that waits, and the run over those behind it
--   answered    a record with an answer whose line was printed, and the run over those behind it
--   broke       a record with an answer whose line could not be printed
--   was_refused a refused record
--   began       a run from the first place over all of a file
--   front       the first record, as an iterator over pieces of eight bytes gives it
--   fewer       the place of the next record and the bytes that are left stay within the file
use Rattle.std.proofs.Common.{◌≡◌, ℕ, ◌+◌, ◌<◌, ◌≤◌, min, List, ◌++◌, length, Some, None, Ok, Err, Option, Result, ap, arith, length-append}
use Rattle.records.specs.declared.line.Line.{Line}
use Rattle.records.specs.Lines.{line_of, refusal_text}
use Rattle.session.specs.declared.faults.Fault.{Fault}
use Rattle.session.specs.declared.session.Session.{Session}
use Rattle.session.specs.Faults.{fault_number}
use Rattle.session.specs.Running.{Taken, FirstOf, Ran}
use Rattle.session.specs.Running.Ran.{waits, answers, breaks, refuses}

pub waited : {E F : Type 0} (print : F → Line → Result (Unit {0}) E → F → Type 0) {s t u : Session} {f g : F} {place next : ℕ} {bytes first rest : List ℕ} {answer : Result (Option Line) Fault} {result : Result (Unit {0}) E} → FirstOf bytes first rest → Taken s first t answer → answer ≡ Ok None → next ≡ place + 1 → Ran print t f next rest u g result → Ran print s f place bytes u g result
waited print front taken was behind ran = waits front (rw was at taken) (rw behind at ran)

pub answered : {E F : Type 0} (print : F → Line → Result (Unit {0}) E → F → Type 0) {s t u : Session} {f g h : F} {place next : ℕ} {bytes first rest : List ℕ} {answer : Result (Option Line) Fault} {line : Line} {printed result : Result (Unit {0}) E} → FirstOf bytes first rest → Taken s first t answer → answer ≡ Ok (Some line) → print f line printed g → printed ≡ Ok tt → next ≡ place + 1 → Ran print t g next rest u h result → Ran print s f place bytes u h result
answered print front taken was told fine behind ran = answers front (rw was at taken) (rw fine at told) (rw behind at ran)

pub broke : {E F : Type 0} (print : F → Line → Result (Unit {0}) E → F → Type 0) {s t : Session} {f g : F} {place : ℕ} {bytes first rest : List ℕ} {answer : Result (Option Line) Fault} {line : Line} {printed result : Result (Unit {0}) E} {error : E} → FirstOf bytes first rest → Taken s first t answer → answer ≡ Ok (Some line) → print f line printed g → printed ≡ Err error → result ≡ Err error → Ran print s f place bytes t g result
broke print front taken was told error same = rw same (breaks front (rw was at taken) (rw error at told))

pub was_refused : {E F : Type 0} (print : F → Line → Result (Unit {0}) E → F → Type 0) {s t : Session} {f g : F} {place at : ℕ} {bytes first rest : List ℕ} {answer : Result (Option Line) Fault} {fault : Fault} {line : Line} {result : Result (Unit {0}) E} → FirstOf bytes first rest → Taken s first t answer → answer ≡ Err fault → line ≡ line_of (refusal_text (fault_number fault) at) → at ≡ place → print f line result g → Ran print s f place bytes t g result
was_refused print front taken was says here told = refuses front (rw was at taken) (rw here at (rw says at told))

pub began : {E F : Type 0} (print : F → Line → Result (Unit {0}) E → F → Type 0) {s u : Session} {f g : F} {place : ℕ} {bytes all : List ℕ} {result : Result (Unit {0}) E} → place ≡ 1 → bytes ≡ all → Ran print s f place bytes u g result → Ran print s f 1 all u g result
began print one whole ran = rw whole at (rw one at ran)

pub front : {bytes first rest : List ℕ} (size : ℕ) → size ≡ 8 → bytes ≡ first ++ rest → length first ≡ min size (length bytes) → 0 < length bytes → FirstOf bytes first rest
front size eight parts long some = record { parts = parts; some = some; long = rw eight at long }

pub fewer : (place next all : ℕ) (bytes first rest : List ℕ) → FirstOf bytes first rest → next ≡ place + 1 → place + length bytes ≤ all → next + length rest ≤ all
fewer place next all bytes first rest here behind within = omega (arith, ap length here.parts, length-append first rest)
