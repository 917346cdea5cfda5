-- Renumbering the literals of a clause, one after the other.
use Rattle.std.proofs.Common.{◌≡◌, true, false, Ok, Err, Result, ℕ, ◌+◌, ◌<◌, ◌≤◌, List, [], ◌∷◌, ◌++◌, length, get_or, drop, fold, sum_by, sym, ap, ◌∙◌, append_assoc, append-nil, arith, length-append}
use Rattle.std.specs.Result.{is_ok}
use Rattle.std.proofs.lemmas.List.{drop_more, drop_all, length_push, length-take, length-map, get_or-map}
use Rattle.std.proofs.lemmas.List.Sums.{sum_by-append, sum_by-cons, fold-append}
use Rattle.bounded.specs.Elems.{elems}
use Rattle.bounded.specs.declared.list.Full.{Full}
use Rattle.clauses.specs.Clauses.{literals_at}
use Rattle.clauses.specs.Least.{Within}
use Rattle.clauses.specs.Numbering.{enlist, rank, firsts, renumbered}
use Rattle.clauses.specs.Variants.{variables, renamed}
use Rattle.clauses.proofs.Numberings.{length-renumbered, size-renumbered}
use Rattle.clauses.proofs.Renamings.{sub-same}
use Rattle.subsume.specs.declared.view.View.{View}
use Rattle.term.specs.Coding.{word_at}
use Rattle.term.specs.Words.{Word, var, size, vars, sub}
use Rattle.term.proofs.Substitutions.{size-sub}
use Rattle.reduction.specs.declared.compact.Compact.{Compact}
use Rattle.reduction.specs.Compacts.{literals, Added, Adds}
use Rattle.reduction.proofs.Adding.{length-literals, size-literals}
use Rattle.reduction.proofs.Ranks.{ranks-kept}

module _ (v : View) where
  abbrev C : List Word
  C = literals_at v.nodes.now v.starts.now

  abbrev order : List ℕ
  order = firsts (variables C)

  -- the literals before i stand in the clause c with their new numbers, and their variables are seen
  pub record Reached (i : ℕ) (c : Compact) (s : List ℕ) : Type 0 where
    pub built : literals c ++ renamed (rank order) (drop i C) ≡ renumbered C
    pub seen : fold enlist s (variables (drop i C)) ≡ order
    pub few : length s ≤ length (elems c.nodes)

  module _ (i : ℕ) (c : Compact) (s : List ℕ) (h : i < length v.starts.now) (g : Reached i c s) where
    abbrev here : Word
    here = word_at v.nodes.now (get_or v.starts.now i 0)

    abbrev rest : List Word
    rest = drop (i + 1) C

    split : drop i C ≡ here ∷ rest
    split =
        drop_more C i (var 0) (omega (arith, length-map v.starts.now (word_at v.nodes.now)))
        ∙ ap (λ (l : Word). l ∷ rest) (get_or-map (word_at v.nodes.now) v.starts.now i 0 (var 0) h)

    built : literals c ++ renamed (rank order) (here ∷ rest) ≡ renumbered C
    built = ap (λ (E : List Word). literals c ++ renamed (rank order) E) (sym split) ∙ g.built

    more : (c' : Compact) (s' : List ℕ) → Added here c s c' s' → Reached (i + 1) c' s'
    more c' s' d =
        let all : fold enlist (fold enlist s (vars here)) (variables rest) ≡ order =
        sym (fold-append enlist s (vars here) (variables rest)) ∙ ap (λ (E : List Word). fold enlist s (variables E)) (sym split) ∙ g.seen in
        let same : sub (λ x. var (rank s' x)) here ≡ sub (λ x. var (rank order x)) here =
        sub-same (λ x. var (rank s' x)) (λ x. var (rank order x)) here
        (λ x k. ap var (ap (λ (o : List ℕ). rank o x) d.seen ∙ sym (ranks-kept s (vars here) (variables rest) x k) ∙ ap (λ (o : List ℕ). rank o x) all)) in
        record {
          built =
              ap (λ (E : List Word). E ++ renamed (rank order) rest) (d.longer ∙ ap (λ (w : Word). literals c ++ w ∷ []) same)
              ∙ append_assoc (literals c) (sub (λ x. var (rank order x)) here ∷ []) (renamed (rank order) rest)
              ∙ built;
          seen = ap (λ (o : List ℕ). fold enlist o (variables rest)) d.seen ∙ all;
          few = d.few;
        }

    beyond : (Within (literals c ++ here ∷ []) → ⊥) → Within C → ⊥
    beyond no_room w =
        let m = sub (λ x. var (rank order x)) here in
        no_room (
          omega (
            arith,
            w.0,
            length_push (literals c) here,
            ap length built,
            length-append (literals c) (m ∷ renamed (rank order) rest),
            length-renumbered C,
          ),
          omega (
            arith,
            w.1,
            sum_by-append size (literals c) (here ∷ []),
            sum_by-cons size here [],
            ap (sum_by size) built,
            sum_by-append size (literals c) (m ∷ renamed (rank order) rest),
            sum_by-cons size m (renamed (rank order) rest),
            size-sub (λ x. var (rank order x)) here,
            size-renumbered C,
          ),
        )

    -- what an answer says
    pub reached-more : (r : Result (Unit {0}) Full) (c' : Compact) (s' : List ℕ) → is_ok r ≡ true → Adds here c s r c' s' → Reached (i + 1) c' s'
    reached-more (Ok u) c' s' e d = more c' s' d
    reached-more (Err f) c' s' e d = cc

    pub reached-beyond : (r : Result (Unit {0}) Full) (c' : Compact) (s' : List ℕ) → is_ok r ≡ false → Adds here c s r c' s' → Within C → ⊥
    reached-beyond (Ok u) c' s' e d = cc
    reached-beyond (Err f) c' s' e d = beyond d.beyond

  pub reached-all : (i : ℕ) (c : Compact) (s : List ℕ) → length v.starts.now ≤ i → Reached i c s → Within C × (literals c ≡ renumbered C)
  reached-all i c s h g =
      let end = drop_all i C (omega (arith, length-map v.starts.now (word_at v.nodes.now))) in
      let all : literals c ≡ renumbered C =
      sym (append-nil (literals c)) ∙ ap (λ (E : List Word). literals c ++ renamed (rank order) E) (sym end) ∙ g.built in (
        (
          omega (arith, ap length all, length-renumbered C, length-literals c, length-take c.starts.len c.starts.items, c.starts.within),
          omega (arith, ap (sum_by size) all, size-renumbered C, size-literals c, length-take c.nodes.len c.nodes.items, c.nodes.within),
        ),
        all,
      )
