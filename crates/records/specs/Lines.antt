-- The lines that are printed: words and decimal numbers parted by one space, with a newline at the end.
-- `decimal`, of the standard library, writes a number without leading zeros, and 0 as one digit.
--
--   space         the byte between two words or numbers
--   newline       the byte that ends a line
--   answer_text   of an answer: its ordinal, how many choices belong, the first ordinal with an equal answer
--   refusal_text  of a refusal: its number, and the record
--   line_of       the line that holds a text: 48 bytes, zero behind the text, and the text's length
--   put_into      a line with one byte written behind its text
use Rattle.std.specs.Prelude.{ℕ, ◌+◌, ◌-◌, List, [], ◌∷◌, ◌++◌, length, replicate, codes, decimal, slice_set}
use Rattle.records.specs.declared.line.Line.{Line}

abbrev pub space : List ℕ
space = 32 ∷ []

abbrev pub newline : List ℕ
newline = 10 ∷ []

abbrev pub answer_text : ℕ → ℕ → ℕ → List ℕ
answer_text ordinal count first = decimal ordinal ++ space ++ decimal count ++ space ++ decimal first ++ newline

abbrev pub refusal_text : ℕ → ℕ → List ℕ
refusal_text number place = codes "refused" ++ space ++ decimal number ++ space ++ codes "at" ++ space ++ decimal place ++ newline

abbrev pub line_of : List ℕ → Line
line_of text = record { bytes = text ++ replicate (48 - length text) 0; len = length text }

abbrev pub put_into : Line → ℕ → Line
put_into l b = record { bytes = slice_set l.bytes l.len b; len = l.len + 1 }
