-- Lawful nodes stand for words with numbered variables and few places, and such words have lawful nodes.
use Rattle.std.proofs.Common.{◌≡◌, ℕ, suc, ◌+◌, ◌-◌, ◌<◌, ◌≤◌, max, true, ◌&&◌, ltb, leb, List, [], ◌∷◌, ◌++◌, length, sym, refl, ap, ◌∙◌, subst, append_assoc, append-nil, add-zero, arith}
use Rattle.std.proofs.lemmas.Bool.{and_parts, and_from, leb-true, le-leb, lt-ltb, ltb-true, eqb-true}
use Rattle.term.specs.declared.node.Node.{Node}
use Rattle.term.specs.declared.node.Node.TheVariants.{Variable, Applied}
use Rattle.term.specs.Words.{Word, var, app, Words, nil, cons, ◌+++◌, len, vars, varss}
use Rattle.term.specs.Coding.{code, codes, first, after, hd, decode, Whole}
use Rattle.term.specs.Lawful.{functional, lawful, Numbered, stood, Narrow, Narrows}
use Rattle.term.proofs.Codings.{len_after, len-first, first-after, len-decode, code_one}

-- numbering
pub numbered_more : (n : ℕ) (xs ys : List ℕ) → Numbered n xs → Numbered (stood n xs) ys → Numbered n (xs ++ ys)
numbered_more n [] ys p q = q
numbered_more n (x ∷ xs) ys p q = (p.0, numbered_more (max n (suc x)) xs ys p.1 q)

pub stood-more : (n : ℕ) (xs ys : List ℕ) → stood n (xs ++ ys) ≡ stood (stood n xs) ys
stood-more n [] ys = refl
stood-more n (x ∷ xs) ys = stood-more (max n (suc x)) xs ys

pub numbered-parts : (n : ℕ) (xs ys : List ℕ) → Numbered n (xs ++ ys) → Numbered n xs × Numbered (stood n xs) ys
numbered-parts n [] ys p = (tt, p)
numbered-parts n (x ∷ xs) ys p = let q = numbered-parts (max n (suc x)) xs ys p.1 in ((p.0, q.0), q.1)

-- lists of words
pub varss-more : (us vs : Words) → varss (us +++ vs) ≡ varss us ++ varss vs
varss-more nil vs = refl
varss-more (cons u us) vs = ap (λ (l : List ℕ). vars u ++ l) (varss-more us vs) ∙ sym (append_assoc (vars u) (varss us) (varss vs))

narrows-parts : (us vs : Words) → Narrows (us +++ vs) → Narrows us × Narrows vs
narrows-parts nil vs h = (tt, h)
narrows-parts (cons u us) vs h = let q = narrows-parts us vs h.1 in ((h.0, q.0), q.1)

-- what lawful nodes stand for
pub record Stand (nodes : List Node) (need seen : ℕ) : Type 0 where
  pub whole : Whole nodes
  pub count : len (decode nodes) ≡ need
  pub order : Numbered seen (varss (decode nodes))
  pub narrow : Narrows (decode nodes)

pub lawful-stand : (nodes : List Node) (need seen : ℕ) → lawful nodes need seen ≡ true → Stand nodes need seen
unfolding lawful Whole decode
lawful-stand [] need seen e = record { whole = tt; count = sym (eqb-true need 0 e); order = tt; narrow = tt }
lawful-stand (Variable x ∷ nodes) need seen e =
    let p = and_parts (ltb 0 need) (leb x seen && lawful nodes (need - 1) (max seen (suc x))) e in
    let q = and_parts (leb x seen) (lawful nodes (need - 1) (max seen (suc x))) p.1 in
    let i = lawful-stand nodes (need - 1) (max seen (suc x)) q.1 in
    record { whole = i.whole; count = omega (arith, i.count, ltb-true 0 need p.0); order = (leb-true x seen q.0, i.order); narrow = (tt, i.narrow) }
lawful-stand (Applied s k ∷ nodes) need seen e =
    let p = and_parts (ltb 0 need) ((functional s && leb k 8) && lawful nodes (need - 1 + k) seen) e in
    let q = and_parts (functional s && leb k 8) (lawful nodes (need - 1 + k) seen) p.1 in
    let r = and_parts (functional s) (leb k 8) q.0 in
    let i = lawful-stand nodes (need - 1 + k) seen q.1 in
    let some = ltb-true 0 need p.0 in
    let h : k ≤ len (decode nodes) = omega (arith, i.count) in
    let n = narrows-parts (first k (decode nodes)) (after k (decode nodes)) (subst Narrows (sym (first-after k (decode nodes))) i.narrow) in
    record {
      whole = (h, i.whole);
      count = omega (arith, i.count, len_after k (decode nodes));
      order = subst (Numbered seen) (sym (ap varss (first-after k (decode nodes))) ∙ varss-more (first k (decode nodes)) (after k (decode nodes))) i.order;
      narrow = ((r.0, omega (arith, len-first k (decode nodes) h, leb-true k 8 r.1), n.0), n.1);
    }

-- the nodes of such words are lawful
mutual
  unfolding lawful

  pub lawful-code : (u : Word) (nodes : List Node) (need seen : ℕ) → Numbered seen (vars u) → Narrow u → lawful nodes need (stood seen (vars u)) ≡ true → lawful (code u ++ nodes) (suc need) seen ≡ true
  lawful-code (var x) nodes need seen o n h =
      let z : suc need - 1 ≡ need = omega arith in
      and_from _ _ (lt-ltb 0 (suc need) (omega arith)) (and_from _ _ (le-leb x seen o.0) (rw z h))
  lawful-code (app s us) nodes need seen o n h =
      let z : suc need - 1 + len us ≡ len us + need = omega arith in
      and_from _ _ (lt-ltb 0 (suc need) (omega arith))
      (and_from _ _ (and_from _ _ n.0 (le-leb (len us) 8 n.1)) (rw z (lawful-codes us nodes need seen o n.2 h)))

  pub lawful-codes : (us : Words) (nodes : List Node) (need seen : ℕ) → Numbered seen (varss us) → Narrows us → lawful nodes need (stood seen (varss us)) ≡ true → lawful (codes us ++ nodes) (len us + need) seen ≡ true
  lawful-codes nil nodes need seen o n h = let z : 0 + need ≡ need = omega arith in rw z h
  lawful-codes (cons u us) nodes need seen o n h =
      let p = numbered-parts seen (vars u) (varss us) o in
      let z : suc (len us) + need ≡ suc (len us + need) = omega arith in
      rw (append_assoc (code u) (codes us) nodes, z)
      (lawful-code u (codes us ++ nodes) (len us + need) seen p.0 n.0
      (lawful-codes us nodes need (stood seen (vars u)) p.1 n.1 (rw (sym (stood-more seen (vars u) (varss us))) h)))

pub lawful-all : (us : Words) (seen : ℕ) → Numbered seen (varss us) → Narrows us → lawful (codes us) (len us) seen ≡ true
unfolding lawful
lawful-all us seen o n = rw (append-nil (codes us), add-zero (len us)) at (lawful-codes us [] 0 seen o n refl)

pub lawful-one : (u : Word) → Numbered 0 (vars u) → Narrow u → lawful (code u) 1 0 ≡ true
unfolding lawful
lawful-one u o n = rw (append-nil (code u)) at (lawful-code u [] 0 0 o n refl)

-- what one lawful word is
pub record One (nodes : List Node) : Type 0 where
  pub whole : Whole nodes
  pub some : 0 < length nodes
  pub nodes-of : code (hd (decode nodes)) ≡ nodes
  pub order : Numbered 0 (vars (hd (decode nodes)))
  pub narrow : Narrow (hd (decode nodes))

pub one_word : (nodes : List Node) → lawful nodes 1 0 ≡ true → One nodes
one_word nodes e =
    let s = lawful-stand nodes 1 0 e in
    record {
      whole = s.whole;
      some = omega (arith, len-decode nodes, s.count);
      nodes-of = code_one nodes s.whole s.count;
      order = only-order (decode nodes) s.count s.order;
      narrow = only-narrow (decode nodes) s.count s.narrow;
    }
  where
    only-order : (us : Words) → len us ≡ 1 → Numbered 0 (varss us) → Numbered 0 (vars (hd us))
    only-order nil h o = absurd (omega arith)
    only-order (cons u us) h o = (numbered-parts 0 (vars u) (varss us) o).0

    only-narrow : (us : Words) → len us ≡ 1 → Narrows us → Narrow (hd us)
    only-narrow nil h n = absurd (omega arith)
    only-narrow (cons u us) h n = n.0
