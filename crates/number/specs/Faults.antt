-- What each fault tells: the number of the question that was answered with no, and a byte; and what is wrong, in words.
use Rattle.std.specs.Prelude.{ℕ, List, codes}
use Rattle.number.specs.declared.fault.NumberFault.{NumberFault}
use Rattle.number.specs.declared.fault.NumberFault.TheVariants.{Missing, TooLarge, Padded}

-- 1, is there another byte? tells the input's length
-- 2, is the third byte below 4? tells the number's first byte
-- 3, is the last byte of several other than 0? tells the number's first byte
abbrev pub told : NumberFault → ℕ × ℕ
told (Missing end) = (1, end)
told (TooLarge first) = (2, first)
told (Padded first) = (3, first)

-- what is wrong, in words
abbrev pub sentence : NumberFault → List ℕ
sentence (Missing _) = codes "the input ends within a number"
sentence (TooLarge _) = codes "the third byte of a number is not below 4"
sentence (Padded _) = codes "the last byte of a number of several bytes is 0"

-- 10, does the buffer hold the form?
abbrev pub no_room : ℕ
no_room = 10
