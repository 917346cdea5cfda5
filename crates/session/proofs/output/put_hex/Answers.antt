use Rattle.std.proofs.Common.{◌≡◌, ℕ, ◌/◌, ◌%◌, List, [], ◌∷◌, get_or, take, Ok, sym, subst, ap₂, arith}
use Rattle.std.proofs.lemmas.List.{length-take-le}
use Rattle.number.specs.Writes.{Wrote}
use Rattle.listing.specs.Reduced.{hex, hex_digit}
use Rattle.listing.proofs.Hexes.{hex-more}
use Rattle.session.proofs.Lengths.{length-hex}
use Rattle.session.proofs.Writings.{wrote-none, length-wrote, wrote-next}
use Rattle.session.proofs.output.put_hex.Goals as goal

pub loop-byte-init : goal.loop-byte-init
unfolding hex
loop-byte-init c = wrote-none c.args.at c.args.out.now (omega (arith, c.requires))

pub put-to-requires : goal.put-to-requires
put-to-requires c =
    let bytes = c.args.bytes.now in
    let i = c.loop-byte.byte-index in
    let w = c.loop-byte.invariant in
    omega (
      arith,
      w.0,
      c.requires,
      c.loop-byte-test.true,
      length-hex (take i bytes),
      length-take-le i bytes (omega (arith, c.loop-byte-test.true)),
      length-wrote (hex (take i bytes)) c.args.at c.loop-byte.to c.args.out.now c.loop-byte.out w,
    )

pub loop-byte-preserved : goal.loop-byte-preserved
loop-byte-preserved c =
    let bytes = c.args.bytes.now in
    let i = c.loop-byte.byte-index in
    let b = get_or bytes i 0 in
    let digits : c.hex_digit.result ∷ c.hex_digit-in-loop-byte.result ∷ [] ≡ hex_digit (b / 16) ∷ (hex_digit (b % 16) ∷ []) =
    ap₂ (λ (x y : ℕ). x ∷ (y ∷ [])) c.hex_digit.ensures c.hex_digit-in-loop-byte.ensures in
    let next = wrote-next (hex (take i bytes)) c.args.at c.loop-byte.to c.args.out.now c.loop-byte.out c.loop-byte.invariant _ c.put-to.result c.put-to.new.out
    (subst (λ (l : List ℕ). Wrote l c.loop-byte.to c.loop-byte.out (Ok c.put-to.result) c.put-to.new.out) digits c.put-to.ensures) in
    subst (λ (l : List ℕ). Wrote l c.args.at c.args.out.now (Ok c.put-to.result) c.put-to.new.out) (sym (hex-more bytes i c.loop-byte-test.true)) next
