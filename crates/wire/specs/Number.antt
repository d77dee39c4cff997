-- The numbers of the script and the output: 8 bytes each, unsigned, the lowest byte first.
use Rattle.std.specs.Prelude.{List, [], ◌∷◌, ◌++◌, ℕ, zero, suc, ◌+◌, ◌*◌, ◌/◌, ◌%◌, get_or}

-- the lowest bytes of a number, so many of them
unfoldable pub low_bytes : ℕ → ℕ → List ℕ
low_bytes zero n = []
low_bytes (suc k) n = n % 256 ∷ low_bytes k (n / 256)

-- the 8 bytes of a number, the lowest first; of a number from 2 ^ 64 on they say only the remainder by 2 ^ 64
unfoldable pub number : ℕ → List ℕ
number n = low_bytes 8 n

-- the bytes of numbers one behind the other, 8 of each
unfoldable pub numbers : List ℕ → List ℕ
numbers [] = []
numbers (n ∷ ns) = number n ++ numbers ns

-- the number that 4 bytes say, and that 8 say
unfoldable pub four_at : List ℕ → ℕ → ℕ
four_at s p = get_or s p 0 + 256 * get_or s (p + 1) 0 + 65536 * get_or s (p + 2) 0 + 16777216 * get_or s (p + 3) 0

-- the number that the 8 bytes from p on say, the lowest first; bytes past the end count as 0
unfoldable pub number_at : List ℕ → ℕ → ℕ
number_at s p = four_at s p + 4294967296 * four_at s (p + 4)

-- so many numbers, one behind the other
unfoldable pub numbers_at : ℕ → List ℕ → ℕ → List ℕ
numbers_at zero s p = []
numbers_at (suc k) s p = number_at s p ∷ numbers_at k s (p + 8)
