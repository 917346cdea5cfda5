-- Where tidying begins, and where it ends.
use Rattle.std.proofs.Common.{◌≡◌, ℕ, ◌<◌, List, [], ◌++◌, length, drop, sym, ◌∙◌, ap, append-nil, subst, arith}
use Rattle.std.proofs.lemmas.List.{drop_all}
use Rattle.term.specs.Words.{Word}
use Rattle.clauses.specs.Reduction.{Tidies, done}
use Rattle.clauses.proofs.Coverings.{covers-itself}
use Rattle.clauses.proofs.Reductions.{needed-none}
use Rattle.clauses.proofs.Parts.{contains-none}
use Rattle.subsume.specs.Bits.{bit_at}
use Rattle.reduction.specs.Progress.{Progress, Image}

module _ (C : List Word) (held gone : List ℕ) where
  pub begun : (kept : List Word) → kept ≡ [] → ((j : ℕ) → bit_at held j ≡ 0) → ((j : ℕ) → bit_at gone j ≡ 0) → Progress C 0 kept held gone
  begun kept e free none =
      subst (λ (k : List Word). Progress C 0 k held gone) (sym e) (record {
        within = omega arith;
        forth = λ R t. t;
        back = λ R t. t;
        early = λ j d h. absurd (omega arith);
        stays = λ w c. absurd (contains-none w c);
        late = λ j h. none j;
        covered = covers-itself C;
        needed = needed-none C;
        before = λ j b. absurd (omega (arith, b, free j));
        apart = record { here = λ j h b. none j; once = λ j k h l b d e. absurd (omega (arith, b, free j)) };
      })

  pub begun-image : (kept : List Word) → kept ≡ [] → ((j : ℕ) → bit_at gone j ≡ 0) → (mapped : List ℕ) → ((j : ℕ) → j < length C → bit_at mapped j ≡ 1) → Image C (kept ++ drop 0 C) mapped gone C
  begun-image kept e none mapped all =
      subst (λ (k : List Word). Image C (k ++ drop 0 C) mapped gone C) (sym e)
      (record { covered = covers-itself C; places = λ w c. (c.0, c.1, all c.0 c.1, none c.0, c.2) })

  pub ended : (kept : List Word) → Progress C (length C) kept held gone → Tidies 0 C kept
  ended kept p =
      let e : kept ++ drop (length C) C ≡ kept = ap (λ (l : List Word). kept ++ l) (drop_all (length C) C (omega arith)) ∙ append-nil kept in
      p.forth kept (subst (λ (D : List Word). Tidies (length kept) D kept) (sym e) (done (omega arith)))
