-- The chained index over the rows in use: rows whose hashes fall into one bucket are linked, the latest first.
-- A link is one more than the place of a row, or 0 at the end of a chain.
--
--   bucket    the bucket of a hash, among a number of buckets
--   Links     a link leads to the last row below a place that lies in a bucket, or there is none
--   Indexed   every head and every next of the index is such a link
--   Put       a row is put, and the index is one of the rows in use then
use Rattle.std.specs.Prelude.{◌≡◌, ℕ, ◌+◌, ◌-◌, ◌<◌, ◌≤◌, min, List, length, Option, ◌≢◌, bit_and, slice_index, slice_index_or}
use Rattle.register.specs.Rows.{Puts}

abbrev pub bucket : ℕ → ℕ → ℕ
bucket buckets hash = bit_and hash (buckets - 1)

pub record Links {R : Type 0} (hash : R → ℕ) (buckets : ℕ) (rows : List R) (place b link : ℕ) : Type 0 where
  pub below : link ≤ place
  pub there : (r : ℕ) (d : R) → link ≡ r + 1 → bucket buckets (hash (slice_index_or rows r d)) ≡ b
  pub passed : (r : ℕ) (d : R) → link ≤ r → r < place → bucket buckets (hash (slice_index_or rows r d)) ≢ b

pub record Indexed {R : Type 0} (hash : R → ℕ) (rows : List R) (count : ℕ) (heads next : List ℕ) : Type 0 where
  pub within : count ≤ length rows
  pub some : 0 < length heads
  pub room : count ≤ length next
  pub head : (b : ℕ) → b < length heads → Links hash (length heads) rows count b (slice_index heads b)
  pub linked : (r : ℕ) (d : R) → r < count → Links hash (length heads) rows r (bucket (length heads) (hash (slice_index_or rows r d))) (slice_index next r)

-- What putting a row does to the rows and to the index of them.
pub record Put {R : Type 0} (hash : R → ℕ) (most : ℕ) (rows : List R) (count : ℕ) (heads next : List ℕ) (row : R)
    (rows' : List R) (count' : ℕ) (heads' next' : List ℕ) (r : Option ℕ) : Type 0 where
  pub puts : Puts (min most (min (length rows) (length next))) rows count row rows' count' r
  pub indexed : Indexed hash rows' count' heads' next'
  pub heads_long : length heads' ≡ length heads
  pub next_long : length next' ≡ length next
