-- Lines grow: what a write behind the text makes of a line.
--
--   bytes_more  the bytes of a line with more of them behind its text
--   line_more   the line with these bytes behind its text
--   bytes_push  the bytes of a line with one more behind its text
--   line_push   the line with this one byte behind its text
use Rattle.std.proofs.Common.{◌≡◌, ℕ, suc, ◌+◌, ◌-◌, ◌<◌, ◌≤◌, List, [], ◌∷◌, ◌++◌, length, set, replicate, sym, refl, ◌∙◌, arith, append_assoc}
use Rattle.std.proofs.Math.Seq.{paste, take-append_seam, take-length, drop-append-add}
use Rattle.std.proofs.lemmas.List.{set_at, drop-replicate, length-append, length_push}
use Rattle.records.specs.declared.line.Line.{Line}
use Rattle.records.specs.Lines.{line_of, put_into}

-- as many of the zeros behind a text as there are new bytes become these
bytes_more : (text more : List ℕ) → length text + length more ≤ 48 → paste (text ++ replicate (48 - length text) 0) (length text) more (length more) ≡ (text ++ more) ++ replicate (48 - length (text ++ more)) 0
bytes_more text more room =
    let left : 48 - length text - length more ≡ 48 - (length text + length more) = omega arith in
    simp (take-append_seam, take-length, drop-append-add, drop-replicate, length-append, append_assoc, left)

pub line_more : (line : Line) (text more : List ℕ) → line ≡ line_of text → line.len + length more ≤ 48 → ◌≡◌ {A = Line} (record { bytes = paste line.bytes line.len more (length more); len = line.len + length more }) (line_of (text ++ more))
line_more line text more e room =
    rw e (λ i. record { bytes = bytes_more text more (rw e at room) i; len = sym (length-append text more) i })

-- the first of the zeros behind a text becomes its last byte
bytes_push : (text : List ℕ) (b m : ℕ) → 48 - length text ≡ suc m → set (text ++ replicate (48 - length text) 0) (length text) b ≡ (text ++ (b ∷ [])) ++ replicate m 0
bytes_push text b m e = rw e (set_at text 0 (replicate m 0) b (length text) refl ∙ sym (append_assoc text (b ∷ []) (replicate m 0)))

pub line_push : (text : List ℕ) (b : ℕ) → length text < 48 → put_into (line_of text) b ≡ line_of (text ++ (b ∷ []))
line_push text b lt =
    let longer = length_push text b in
    let room : 48 - length text ≡ suc (48 - length (text ++ (b ∷ []))) = omega arith in
    λ i. record { bytes = bytes_push text b _ room i; len = sym longer i }
