use Rattle.std.proofs.Common.{◌≡◌, ap, ◌∷◌, [], ◌++◌, List, ℕ, ◌/◌, ◌%◌, ◌<◌, get_or, encode_utf8, string_bytes, ◌∙◌, arith}
use Rattle.listing.specs.Reduced.{hex_digit}
use Rattle.listing.proofs.Hexes.{digit-small, hex-none, hex-added}
use Rattle.listing.proofs.reductions.push_hex.Goals as goal

pub loop-byte-init : goal.loop-byte-init
loop-byte-init c = hex-none (string_bytes c.args.text.now)

pub loop-byte-preserved : goal.loop-byte-preserved
loop-byte-preserved c =
    let b = get_or c.args.bytes.now c.loop-byte.byte-index 0 in
    let small : b < 256 = omega (arith, c.type_inv.bytes c.loop-byte.byte-index) in
    let put : (old new : List ℕ) (d e : ℕ) → d ≡ hex_digit e → e < 16 → new ≡ old ++ encode_utf8 d → (d < 128 → encode_utf8 d ≡ d ∷ []) → new ≡ old ++ hex_digit e ∷ [] =
    λ old new d e is h p q. p ∙ ap (λ (l : List ℕ). old ++ l) (q (rw is (digit-small e h))) ∙ ap (λ (n : ℕ). old ++ n ∷ []) is in
    hex-added c.args.bytes.now c.loop-byte.byte-index c.loop-byte-test.true (string_bytes c.args.text.now) (string_bytes c.loop-byte.text) (string_bytes c.push.new.self) (string_bytes c.push-in-loop-byte.new.self)
    c.loop-byte.invariant
    (put (string_bytes c.loop-byte.text) (string_bytes c.push.new.self) c.hex_digit.result (b / 16) c.hex_digit.ensures (omega arith) c.in_ok-push.ensures.bytes c.in_ok-push.ensures.ascii)
    (put (string_bytes c.push.new.self) (string_bytes c.push-in-loop-byte.new.self) c.hex_digit-in-loop-byte.result (b % 16) c.hex_digit-in-loop-byte.ensures (omega arith) c.in_ok-push-2.ensures.bytes c.in_ok-push-2.ensures.ascii)
