-- Bytes in hexadecimal, one more.
use Rattle.std.proofs.Common.{◌≡◌, ℕ, ◌+◌, ◌/◌, ◌%◌, ◌<◌, ltb, List, [], ◌∷◌, ◌++◌, length, get_or, take, sym, ap, ◌∙◌, append_assoc, append-nil, arith}
use Rattle.std.specs.List.{flat_map}
use Rattle.std.proofs.lemmas.Bool.{cond_both, ltb-true}
use Rattle.std.proofs.lemmas.List.{take_more}
use Rattle.std.proofs.lemmas.List.Concat.{flat_map-append}
use Rattle.listing.specs.Reduced.{hex, hex_digit}

-- a digit is a letter of ASCII
pub digit-small : (d : ℕ) → d < 16 → hex_digit d < 128
digit-small d h = cond_both (ltb d 10) (48 + d) (87 + d) (λ n. n < 128) (λ e. omega (arith, ltb-true d 10 e)) (λ _. omega arith)

pub hex-none : (text : List ℕ) → text ≡ text ++ hex []
unfolding hex
hex-none text = sym (append-nil text)

pub hex-more : (bytes : List ℕ) (i : ℕ) → i < length bytes → hex (take (i + 1) bytes) ≡ hex (take i bytes) ++ (hex_digit (get_or bytes i 0 / 16) ∷ (hex_digit (get_or bytes i 0 % 16) ∷ []))
unfolding hex
hex-more bytes i h =
    ap (flat_map (λ b. hex_digit (b / 16) ∷ (hex_digit (b % 16) ∷ []))) (take_more bytes i 0 h)
    ∙ flat_map-append (λ b. hex_digit (b / 16) ∷ (hex_digit (b % 16) ∷ [])) (take i bytes) (get_or bytes i 0 ∷ [])

pub hex-added : (bytes : List ℕ) (i : ℕ) → i < length bytes → (t0 t t1 t2 : List ℕ) → t ≡ t0 ++ hex (take i bytes) → t1 ≡ t ++ hex_digit (get_or bytes i 0 / 16) ∷ [] → t2 ≡ t1 ++ hex_digit (get_or bytes i 0 % 16) ∷ []
    → t2 ≡ t0 ++ hex (take (i + 1) bytes)
hex-added bytes i h t0 t t1 t2 e p q =
    let x = hex_digit (get_or bytes i 0 / 16) in
    let y = hex_digit (get_or bytes i 0 % 16) in
    q ∙ ap (λ (l : List ℕ). l ++ y ∷ []) (p ∙ ap (λ (l : List ℕ). l ++ x ∷ []) e)
    ∙ append_assoc (t0 ++ hex (take i bytes)) (x ∷ []) (y ∷ [])
    ∙ append_assoc t0 (hex (take i bytes)) (x ∷ y ∷ [])
    ∙ ap (λ (l : List ℕ). t0 ++ l) (sym (hex-more bytes i h))
