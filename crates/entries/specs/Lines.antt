-- What is told of a damaged entry.
use Rattle.std.specs.Prelude.{ℕ, List, ◌++◌, codes, decimal}

-- a fault, by its question and its byte
unfoldable pub bad_line : (question byte : ℕ) → List ℕ
bad_line question byte = codes "bad " ++ (decimal question ++ (codes " at " ++ (decimal byte ++ codes "\n")))
