-- Two words side by side, of which a substitution makes the one from the other: where variables are met.
use Rattle.std.proofs.Common.{◌≡◌, ℕ, suc, ◌+◌, ◌<◌, ◌≤◌, true, false, eqb, cond, List, [], ◌∷◌, ◌++◌, length, get_or, set, drop, sym, refl, ap, ◌∙◌, append_assoc, append-nil, add-zero, arith, length-append}
use Rattle.std.proofs.lemmas.List.{append_cancel_left, drop_more, drop_all, drop-drop, length-drop}
use Rattle.clauses.specs.Clauses.{each}
use Rattle.clauses.specs.Beginnings.{begins}
use Rattle.term.specs.Coding.{code, codes, hd, tl, decode, Whole, words_at, word_at, Next}
use Rattle.term.specs.Words.{Word, var, app, Words, nil, cons, ◌+++◌, len, size, sizes, sub, subs}
use Rattle.term.specs.declared.node.Node.{Node}
use Rattle.term.specs.declared.node.Node.TheVariants.{Variable, Applied}
use Rattle.term.specs.declared.node.Symbol.{Symbol}
use Rattle.term.proofs.Codings.{codes-more, decode-code, code-decode, whole_drop, len-at, word-nodes, length-code}
use Rattle.term.proofs.Substitutions.{size-pos}
use Rattle.witness.specs.Steps.{noted}
use Rattle.witness.specs.Witness.{met, mets, meetings}

-- pairs after others
pub noted-more : (ps qs : List (ℕ × ℕ)) (seen : ℕ) (list : List ℕ) → noted (ps ++ qs) seen list ≡ noted qs (noted ps seen list).0 (noted ps seen list).1
noted-more [] qs seen list = refl
noted-more (p ∷ ps) qs seen list =
    let on = noted ps (seen + 1) (set list seen p.1) in
    let past = noted ps seen list in
    elim (eqb p.0 seen) as (λ b. cond b (noted (ps ++ qs) (seen + 1) (set list seen p.1)) (noted (ps ++ qs) seen list) ≡ noted qs (cond b on past).0 (cond b on past).1) [
      | true ↦ noted-more ps qs (seen + 1) (set list seen p.1)
      | false ↦ noted-more ps qs seen list
    ]

-- words after others
mets-more : (θ : ℕ → Word) (us vs : Words) (at : ℕ) → mets (us +++ vs) (subs θ (us +++ vs)) at ≡ mets us (subs θ us) at ++ mets vs (subs θ vs) (at + sizes (subs θ us))
mets-more θ nil vs at = ap (mets vs (subs θ vs)) (sym (add-zero at))
mets-more θ (cons u us) vs at =
    let w = sub θ u in
    let z : at + size w + sizes (subs θ us) ≡ at + (size w + sizes (subs θ us)) = omega arith in
    ap (λ (l : List (ℕ × ℕ)). met u w at ++ l) (mets-more θ us vs (at + size w) ∙ ap (λ (n : ℕ). mets us (subs θ us) (at + size w) ++ mets vs (subs θ vs) n) z)
    ∙ sym (append_assoc (met u w at) (mets us (subs θ us) (at + size w)) (mets vs (subs θ vs) (at + (size w + sizes (subs θ us)))))

codes-subs : (θ : ℕ → Word) (us vs : Words) → codes (subs θ (us +++ vs)) ≡ codes (subs θ us) ++ codes (subs θ vs)
codes-subs θ nil vs = refl
codes-subs θ (cons u us) vs = ap (λ (l : List Node). code (sub θ u) ++ l) (codes-subs θ us vs) ∙ sym (append_assoc (code (sub θ u)) (codes (subs θ us)) (codes (subs θ vs)))

-- a substitution makes the nodes of b from q on from these nodes, and to note what is still met leaves this outcome
pub record Beside (nodes b : List Node) (q seen : ℕ) (list : List ℕ) (outcome : ℕ × List ℕ) : Type 0 where
  pub θ : ℕ → Word
  pub us : Words
  pub rest : List Node
  pub left : nodes ≡ codes us
  pub right : drop q b ≡ codes (subs θ us) ++ rest
  pub notes : noted (mets us (subs θ us) q) seen list ≡ outcome

-- a word that begins
some-words : (us : Words) → 1 ≤ len us → codes us ≡ codes (cons (hd us) nil) ++ codes (tl us)
some-words nil h = absurd (omega arith)
some-words (cons u us) h = ap (λ (l : List Node). l ++ codes us) (sym (append-nil (code u)))

pub beside-first : (a b : List Node) (i j : ℕ) (θ : ℕ → Word) (nodes : List Node) (seen : ℕ) (list : List ℕ) → Whole b → j < length b → sub θ (word_at a i) ≡ word_at b j → nodes ≡ code (word_at a i)
    → Beside nodes b j seen list (noted (met (word_at a i) (word_at b j) j) seen list)
beside-first a b i j θ nodes seen list w h t is =
    let u = word_at a i in
    record {
      θ = θ;
      us = cons u nil;
      rest = codes (tl (words_at b j));
      left = is ∙ sym (append-nil (code u));
      right =
          sym (code-decode (drop j b) (whole_drop j b w))
          ∙ some-words (words_at b j) (len-at b j h)
          ∙ ap (λ (v : Word). codes (cons v nil) ++ codes (tl (words_at b j))) (sym t);
      notes = ap (λ (ps : List (ℕ × ℕ)). noted ps seen list) (append-nil (met u (sub θ u) j)) ∙ ap (λ (v : Word). noted (met u v j) seen list) t;
    }

-- at the end nothing is still to come
pub beside-last : (b : List Node) (q seen : ℕ) (list : List ℕ) (outcome : ℕ × List ℕ) → Beside [] b q seen list outcome → outcome ≡ (seen, list)
beside-last b q seen list outcome g = sym g.notes ∙ none g.us g.left
  where
    none : (us : Words) → [] ≡ codes us → noted (mets us (subs g.θ us) q) seen list ≡ (seen, list)
    none nil e = refl
    none (cons (var x) us) e = cc
    none (cons (app s ws) us) e = cc

module _ (items : List Node) (k : ℕ) (h : k < length items) (b : List Node) (q seen : ℕ) (list : List ℕ) (outcome : ℕ × List ℕ) (g : Beside (drop k items) b q seen list outcome) where
  abbrev x : Node
  x = get_or items k (Variable 0)

  abbrev nodes : List Node
  nodes = drop (k + 1) items

  abbrev left : x ∷ nodes ≡ codes g.us
  left = sym (drop_more items k (Variable 0) h) ∙ g.left

  pub beside-inside : q < length b
  beside-inside = some g.us left g.right
    where
      some : (us : Words) → x ∷ nodes ≡ codes us → drop q b ≡ codes (subs g.θ us) ++ g.rest → q < length b
      some nil e r = cc
      some (cons u us) e r =
          omega (arith, ap length r, length-drop q b, length-append (code (sub g.θ u) ++ codes (subs g.θ us)) g.rest, length-append (code (sub g.θ u)) (codes (subs g.θ us)), length-code (sub g.θ u), size-pos (sub g.θ u))

  -- a variable is met by a word
  pub beside-variable : Whole b → (v r seen' : ℕ) (list' : List ℕ) → x ≡ Variable v → Next b q r → noted ((v, q) ∷ []) seen list ≡ (seen', list') → Beside nodes b r seen' list' outcome
  beside-variable w v r seen' list' is n made = on g.us left g.right g.notes
    where
      on : (us : Words) → x ∷ nodes ≡ codes us → drop q b ≡ codes (subs g.θ us) ++ g.rest → noted (mets us (subs g.θ us) q) seen list ≡ outcome → Beside nodes b r seen' list' outcome
      on nil e _ _ = cc
      on (cons (app s ws) us) e _ _ = cc
      on (cons (var y) us) e right notes =
          let same : y ≡ v = cc in
          let u = g.θ y in
          let all : drop q b ≡ code u ++ (codes (subs g.θ us) ++ g.rest) = right ∙ append_assoc (code u) (codes (subs g.θ us)) g.rest in
          let here : word_at b q ≡ u = ap (λ (l : List Node). hd (decode l)) all ∙ ap hd (decode-code u (codes (subs g.θ us) ++ g.rest)) in
          let split : drop q b ≡ code u ++ drop r b = word-nodes b q r w beside-inside n ∙ ap (λ (z : Word). code z ++ drop r b) here in
          let end : q + size u ≡ r = omega (arith, ap length split, length-append (code u) (drop r b), length-code u, length-drop q b, length-drop r b, n.later, n.within) in
          record {
            θ = g.θ;
            us = us;
            rest = g.rest;
            left = cc;
            right = sym (append_cancel_left (code u) (codes (subs g.θ us) ++ g.rest) (drop r b) (sym all ∙ split));
            notes =
                sym (ap (λ (p : ℕ × List ℕ). noted (mets us (subs g.θ us) r) p.0 p.1) (ap (λ (z : ℕ). noted ((z, q) ∷ []) seen list) same ∙ made))
                ∙ sym (noted-more ((y, q) ∷ []) (mets us (subs g.θ us) r) seen list)
                ∙ ap (λ (k : ℕ). noted ((y, q) ∷ mets us (subs g.θ us) k) seen list) (sym end)
                ∙ notes;
          }

  -- a symbol is met by the same symbol
  pub beside-symbol : (s : Symbol) (n : ℕ) → x ≡ Applied s n → Beside nodes b (q + 1) seen list outcome
  beside-symbol s n is = on g.us left g.right g.notes
    where
      on : (us : Words) → x ∷ nodes ≡ codes us → drop q b ≡ codes (subs g.θ us) ++ g.rest → noted (mets us (subs g.θ us) q) seen list ≡ outcome → Beside nodes b (q + 1) seen list outcome
      on nil e _ _ = cc
      on (cons (var y) us) e _ _ = cc
      on (cons (app f ws) us) e right notes =
          let more = sizes (subs g.θ ws) in
          let z : q + 1 + more ≡ q + suc more = omega arith in
          let tail : nodes ≡ codes ws ++ codes us = cc in
          record {
            θ = g.θ;
            us = ws +++ us;
            rest = g.rest;
            left = tail ∙ sym (codes-more ws us);
            right = sym (drop-drop 1 q b) ∙ ap (drop 1) right ∙ ap (λ (l : List Node). l ++ g.rest) (sym (codes-subs g.θ ws us));
            notes =
                ap (λ (ps : List (ℕ × ℕ)). noted ps seen list) (mets-more g.θ ws us (q + 1) ∙ ap (λ (n : ℕ). mets ws (subs g.θ ws) (q + 1) ++ mets us (subs g.θ us) n) z)
                ∙ notes;
          }

-- one literal of a rule on
pub noted-on : (rule : List Word) (mount : Words) (choice : List ℕ) (i : ℕ) → i < length rule → i < length choice → (u w : Word) (at : ℕ)
    → get_or rule i (var 0) ≡ u → get_or (each mount) (get_or choice i 0) (var 0) ≡ w → get_or (begins 0 mount) (get_or choice i 0) 0 ≡ at
    → (seen : ℕ) (list : List ℕ) (seen' : ℕ) (list' : List ℕ) → noted (met u w at) seen list ≡ (seen', list')
    → noted (meetings (drop (i + 1) rule) mount (drop (i + 1) choice)) seen' list' ≡ noted (meetings (drop i rule) mount (drop i choice)) seen list
noted-on rule mount choice i h k u w at e f g seen list seen' list' made =
    let rest = meetings (drop (i + 1) rule) mount (drop (i + 1) choice) in
    sym (
    rw (drop_more rule i (var 0) h, drop_more choice i 0 k, e, f, g)
    (noted-more (met u w at) rest seen list ∙ ap (λ (r : ℕ × List ℕ). noted rest r.0 r.1) made)
    )

pub noted-all : (rule : List Word) (mount : Words) (choice : List ℕ) (i : ℕ) → length choice ≤ i → (seen : ℕ) (list : List ℕ) → noted (meetings (drop i rule) mount (drop i choice)) seen list ≡ (seen, list)
noted-all rule mount choice i h seen list = rw (drop_all i choice h) (ap (λ (ps : List (ℕ × ℕ)). noted ps seen list) (none (drop i rule)))
  where
    none : (ls : List Word) → meetings ls mount [] ≡ []
    none [] = refl
    none (l ∷ ls) = refl
