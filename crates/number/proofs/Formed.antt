-- Every number up to 65,535 has a form, and only one.
use Rattle.std.proofs.Common.{◌≡◌, ℕ, zero, suc, ◌^◌, ◌≤◌, List, length, sym, ◌∙◌, inl, inr, arith}
use Rattle.std.proofs.lemmas.Bool.{cases_lt}
use Rattle.number.specs.Groups.{groups, Fewest}
use Rattle.number.specs.Forms.{spread, form, Form, OneForm}
use Rattle.number.proofs.Linkages.{same_bytes}
use Rattle.number.proofs.Spreads.{length-spread, spread-linked, spread-says, spread-last}
use Rattle.number.proofs.Counts.{groups-fewest}

pub length-form : (v : ℕ) → length (form v) ≡ groups v
unfolding form
length-form v = length-spread (groups v) v

-- over the fewest groups that hold a number, the bytes are its form
spread-form : (v k : ℕ) → v ≤ 65535 → Fewest v k → Form v (spread k v)
spread-form v zero r f = absurd (omega (arith, f.some))
spread-form v (suc k) r f = record {
  says = spread-says k v f.holds;
  range = r;
  linked = spread-linked k v f.holds;
  exact = λ several. spread-last k v f.holds (elim (cases_lt v (128 ^ k)) [
    | inl short ↦ absurd (omega (arith, length-spread (suc k) v, f.fewest k (omega (arith, length-spread (suc k) v)) short))
    | inr long ↦ long
  ]);
}

pub has-form : (v : ℕ) → v ≤ 65535 → Form v (form v)
unfolding form
has-form v r = spread-form v (groups v) r (groups-fewest v (omega arith))

pub only-form : (v : ℕ) (bytes : List ℕ) → Form v bytes → bytes ≡ form v
only-form v bytes f =
    let g = has-form v f.range in
    same_bytes bytes (form v) f.linked g.linked f.exact g.exact (f.says ∙ sym g.says)

pub one_form : OneForm
one_form v r = (has-form v r, only-form v)
