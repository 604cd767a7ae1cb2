-- What putting a row into a book's register makes of the set whose halves the row holds.
use Rattle.std.proofs.Common.{◌≡◌, ℕ, ◌+◌, ◌<◌, ◌≤◌, min, ◌≢◌, List, length, get_or, Some, None, Ok, Err, Option, sym, ◌∙◌, subst, inl, inr, arith}
use Rattle.std.proofs.lemmas.List.{get_or_default}
use Rattle.register.specs.Rows.{Puts, Absent as AbsentRow}
use Rattle.register.specs.Chains.{Put}
use Rattle.diagrams.specs.declared.Row.{Row}
use Rattle.diagrams.specs.declared.NoRoom.{NoRoom}
use Rattle.diagrams.specs.Diagram.{blank, row_at, row_hash}
use Rattle.diagrams.specs.Books.{KeptBook, capacity}
use Rattle.diagrams.specs.Applying.{row_with, Absent, Extends, Fit, Makes}
use Rattle.diagrams.proofs.MakingRows.{extends_same, made_found, made_none, extends_made, made_new}

module _ (rows : List Row) (count : ℕ) (next : List ℕ) (p a b : ℕ) (kept : KeptBook rows count) (fit : Fit rows count p a b) (apart : a ≢ b) (room : capacity rows ≤ length next) where
  abbrev full : ℕ
  full = min 65534 (min (length rows) (length next))

  same_row : (i : ℕ) → i < count → get_or rows i (row_with p a b) ≡ row_at rows i
  same_row i lt = let w : i < length rows = omega (arith, lt, kept.sound.within) in get_or_default rows i (row_with p a b) blank w

  absent : AbsentRow rows count (row_with p a b) → Absent rows count (row_with p a b)
  absent new r lt e = new r lt (same_row r lt ∙ e)

  pub put_extends : (rows' : List Row) (count' : ℕ) (r : Option ℕ) → Puts full rows count (row_with p a b) rows' count' r → Extends rows count rows' count'
  put_extends rows' count' (Some i) (inl (lt, at, er, ec)) = rw (er, ec) (extends_same rows count kept)
  put_extends rows' count' (Some i) (inr (e, lt, new, er, ec)) = rw (er, ec) (extends_made rows count p a b apart (absent new) kept (omega (arith, lt)) fit)
  put_extends rows' count' None (le, new, er, ec) = rw (er, ec) (extends_same rows count kept)

  pub put_makes : (rows' : List Row) (count' i : ℕ) → Puts full rows count (row_with p a b) rows' count' (Some i) → Makes rows count rows' count' p a b (Ok (i + 2))
  put_makes rows' count' i (inl (lt, at, er, ec)) = rw (er, ec) (made_found rows count p a b i lt (sym (same_row i lt) ∙ at))
  put_makes rows' count' i (inr (e, lt, new, er, ec)) = rw (er, ec, e) (made_new rows count p a b apart (absent new) kept (omega (arith, lt)) fit)

  pub put_makes_none : (rows' : List Row) (count' : ℕ) (e : NoRoom) → Puts full rows count (row_with p a b) rows' count' None → Makes rows count rows' count' p a b (Err e)
  put_makes_none rows' count' e (le, new, er, ec) = made_none rows count p a b apart (absent new) e (omega (arith, le, room))

-- a place behind 0 and 1 has a number of 16 bits
pub place_small : (rows : List Row) (count : ℕ) (next : List ℕ) (row : Row) (rows' : List Row) (count' i : ℕ) → KeptBook rows count → Puts (min 65534 (min (length rows) (length next))) rows count row rows' count' (Some i) → i + 2 < 65536
place_small rows count next row rows' count' i kept (inl (lt, at, er, ec)) = omega (arith, lt, kept.sound.within)
place_small rows count next row rows' count' i kept (inr (e, lt, new, er, ec)) = omega (arith, e, lt)

-- what is put is the row with the halves
pub putting : {rows : List Row} {count : ℕ} {heads next : List ℕ} {row w : Row} {rows' : List Row} {count' : ℕ} {heads' next' : List ℕ} {r : Option ℕ}
    → Put row_hash 65534 rows count heads next row rows' count' heads' next' r → row ≡ w → Puts (min 65534 (min (length rows) (length next))) rows count w rows' count' r
putting {rows} {count} {heads} {next} {row} {w} {rows'} {count'} {heads'} {next'} {r} p e = subst (λ z. Puts (min 65534 (min (length rows) (length next))) rows count z rows' count' r) e p.puts
