-- The packed form of a number.
use Rattle.std.specs.Prelude.{◌≡◌, ℕ, zero, suc, ◌+◌, ◌*◌, ◌/◌, ◌%◌, ◌<◌, ◌≤◌, List, [], ◌∷◌, length}
use Rattle.number.specs.Groups.{groups}

-- a number over k bytes: seven bits a byte, the lowest first, and the top bit set in each byte but the last
abbrev pub spread : (k value : ℕ) → List ℕ
spread zero value = []
spread (suc zero) value = value ∷ []
spread (suc (suc k)) value = (128 + value % 128) ∷ spread (suc k) (value / 128)

-- what is written for a number
unfoldable pub form : ℕ → List ℕ
form value = spread (groups value) value

-- what the bytes say, seven bits a byte, the lowest first
abbrev pub value_of : List ℕ → ℕ
value_of [] = 0
value_of (b ∷ bs) = b % 128 + 128 * value_of bs

-- the top bit is set in each byte but the last
abbrev pub Linked : List ℕ → Type 0
Linked [] = ⊥
Linked (b ∷ []) = b < 128
Linked (b ∷ (c ∷ bs)) = (128 ≤ b) × (b < 256) × Linked (c ∷ bs)

abbrev pub last : List ℕ → ℕ
last [] = 0
last (b ∷ []) = b
last (b ∷ (c ∷ bs)) = last (c ∷ bs)

-- the bytes are a form of the value
pub record Form (value : ℕ) (bytes : List ℕ) : Type 0 where
  pub says : value_of bytes ≡ value
  pub range : value ≤ 65535
  pub linked : Linked bytes
  pub exact : 1 < length bytes → 0 < last bytes

-- every number up to 65,535 has a form, and only one
abbrev pub OneForm : Type 0
OneForm = (value : ℕ) → value ≤ 65535 → Form value (form value) × ((bytes : List ℕ) → Form value bytes → bytes ≡ form value)
