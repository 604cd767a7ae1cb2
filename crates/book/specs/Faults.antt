-- The numbers by which calls on a book are refused.
--
--   book_fault_number  why a reading, or putting two numbers together, was refused
use Rattle.std.specs.Prelude.{ℕ}
use Rattle.book.specs.declared.faults.BookFault.{BookFault}
use Rattle.book.specs.declared.faults.BookFault.TheVariants.{Full, NotHeld}

abbrev pub book_fault_number : BookFault → ℕ
book_fault_number Full = 13
book_fault_number NotHeld = 14
