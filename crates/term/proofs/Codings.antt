-- Nodes and the words that they stand for.
use Rattle.std.proofs.Common.{◌≡◌, ℕ, zero, suc, ◌+◌, ◌-◌, ◌<◌, ◌≤◌, List, [], ◌∷◌, ◌++◌, length, get_or, take, drop, sym, refl, ap, ◌∙◌, subst, ap₂, append_assoc, append-nil, add-zero, add-suc, sub-one, arith, length-append}
use Rattle.std.specs.List.{between}
use Rattle.std.proofs.lemmas.List.{drop_more, length-drop, take_at}
use Rattle.term.specs.declared.node.Node.{Node}
use Rattle.term.specs.declared.node.Node.TheVariants.{Variable, Applied}
use Rattle.term.specs.Words.{Word, var, app, Words, nil, cons, ◌+++◌, len, size, sizes}
use Rattle.term.specs.Coding.{places_of, code, codes, first, after, hd, tl, decode, Whole, words_at, word_at, Next}

-- lists of words
pub after-nil : (k : ℕ) → after k nil ≡ nil
after-nil zero = refl
after-nil (suc k) = refl

pub after-after : (m k : ℕ) (us : Words) → after m (after k us) ≡ after (m + k) us
after-after m zero us = ap (λ (n : ℕ). after n us) (sym (add-zero m))
after-after m (suc k) nil = after-nil m ∙ sym (after-nil (m + suc k))
after-after m (suc k) (cons u us) = after-after m k us ∙ ap (λ (n : ℕ). after n (cons u us)) (sym (add-suc m k))

pub len_after : (k : ℕ) (us : Words) → len (after k us) ≡ len us - k
len_after zero us = omega arith
len_after (suc k) nil = omega arith
len_after (suc k) (cons u us) = omega (arith, len_after k us)

pub len-first : (k : ℕ) (us : Words) → k ≤ len us → len (first k us) ≡ k
len-first zero us h = refl
len-first (suc k) nil h = absurd (omega arith)
len-first (suc k) (cons u us) h = ap suc (len-first k us (omega arith))

pub first-after : (k : ℕ) (us : Words) → first k us +++ after k us ≡ us
first-after zero us = refl
first-after (suc k) nil = refl
first-after (suc k) (cons u us) = ap (cons u) (first-after k us)

pub first-len : (us vs : Words) → first (len us) (us +++ vs) ≡ us
first-len nil vs = refl
first-len (cons u us) vs = ap (cons u) (first-len us vs)

pub after-len : (us vs : Words) → after (len us) (us +++ vs) ≡ vs
after-len nil vs = refl
after-len (cons u us) vs = after-len us vs

pub len_more : (us vs : Words) → len us ≤ len (us +++ vs)
len_more nil vs = omega arith
len_more (cons u us) vs = omega (arith, len_more us vs)

pub codes-more : (us vs : Words) → codes (us +++ vs) ≡ codes us ++ codes vs
codes-more nil vs = refl
codes-more (cons u us) vs = ap (λ (l : List Node). code u ++ l) (codes-more us vs) ∙ sym (append_assoc (code u) (codes us) (codes vs))

pub after_one : (us : Words) → after 1 us ≡ tl us
after_one nil = refl
after_one (cons u us) = refl

pub len-tl : (us : Words) → len (tl us) ≡ len us - 1
len-tl nil = refl
len-tl (cons u us) = omega arith

-- a word's nodes stand for it
mutual
  unfolding decode

  pub decode-code : (u : Word) (nodes : List Node) → decode (code u ++ nodes) ≡ cons u (decode nodes)
  decode-code (var x) nodes = refl
  decode-code (app s us) nodes = rw (decode-codes us nodes, first-len us (decode nodes), after-len us (decode nodes))

  pub decode-codes : (us : Words) (nodes : List Node) → decode (codes us ++ nodes) ≡ us +++ decode nodes
  decode-codes nil nodes = refl
  decode-codes (cons u us) nodes = rw (append_assoc (code u) (codes us) nodes, decode-code u (codes us ++ nodes), decode-codes us nodes)

pub decode-one : (u : Word) → decode (code u) ≡ cons u nil
unfolding decode
decode-one u = ap decode (sym (append-nil (code u))) ∙ decode-code u []

pub all_words : (us : Words) → us +++ nil ≡ us
all_words nil = refl
all_words (cons u us) = ap (cons u) (all_words us)

pub decode-all : (us : Words) → decode (codes us) ≡ us
unfolding decode
decode-all us = ap decode (sym (append-nil (codes us))) ∙ decode-codes us [] ∙ all_words us

pub meant : (u : Word) (nodes : List Node) → nodes ≡ code u → hd (decode nodes) ≡ u
meant u nodes e = ap hd (ap decode e ∙ decode-one u)

-- whole nodes are the nodes of their words
pub code-decode : (nodes : List Node) → Whole nodes → codes (decode nodes) ≡ nodes
unfolding Whole decode
code-decode [] w = refl
code-decode (Variable x ∷ nodes) w = ap (◌∷◌ (Variable x)) (code-decode nodes w)
code-decode (Applied s k ∷ nodes) w =
    ap₂ (λ (n : ℕ) (l : List Node). Applied s n ∷ l) (len-first k (decode nodes) w.0)
    (sym (codes-more (first k (decode nodes)) (after k (decode nodes))) ∙ ap codes (first-after k (decode nodes)) ∙ code-decode nodes w.1)

mutual
  unfolding Whole

  whole_code : (u : Word) (nodes : List Node) → Whole nodes → Whole (code u ++ nodes)
  whole_code (var x) nodes w = w
  whole_code (app s us) nodes w = (omega (arith, ap len (decode-codes us nodes), len_more us (decode nodes)), whole-codes us nodes w)

  pub whole-codes : (us : Words) (nodes : List Node) → Whole nodes → Whole (codes us ++ nodes)
  whole-codes nil nodes w = w
  whole-codes (cons u us) nodes w = rw (append_assoc (code u) (codes us) nodes) (whole_code u (codes us ++ nodes) (whole-codes us nodes w))

pub whole-all : (us : Words) → Whole (codes us)
unfolding Whole
whole-all us = rw (append-nil (codes us)) at (whole-codes us [] tt)

-- places in whole nodes
pub len-decode : (nodes : List Node) → len (decode nodes) ≤ length nodes
unfolding decode
len-decode [] = omega arith
len-decode (Variable x ∷ nodes) = omega (arith, len-decode nodes)
len-decode (Applied s k ∷ nodes) = omega (arith, len-decode nodes, len_after k (decode nodes))

pub whole_drop : (n : ℕ) (nodes : List Node) → Whole nodes → Whole (drop n nodes)
unfolding Whole
whole_drop zero nodes w = w
whole_drop (suc n) [] w = w
whole_drop (suc n) (Variable x ∷ nodes) w = whole_drop n nodes w
whole_drop (suc n) (Applied s k ∷ nodes) w = whole_drop n nodes w.1

-- a place's words are of the node there and of those after it
pub at_words : (nodes : List Node) (i : ℕ) (d : Node) → i < length nodes → words_at nodes i ≡ decode (get_or nodes i d ∷ drop (i + 1) nodes)
at_words nodes i d h = ap decode (drop_more nodes i d h)

pub at-whole : (nodes : List Node) (i : ℕ) (d : Node) → i < length nodes → Whole nodes → Whole (get_or nodes i d ∷ drop (i + 1) nodes)
at-whole nodes i d h w = subst Whole (drop_more nodes i d h) (whole_drop i nodes w)

some_words : (x : Node) (nodes : List Node) → 1 ≤ len (decode (x ∷ nodes))
unfolding decode
some_words (Variable x) nodes = omega arith
some_words (Applied s k) nodes = omega arith

pub len-at : (nodes : List Node) (i : ℕ) → i < length nodes → 1 ≤ len (words_at nodes i)
len-at nodes i h = rw (at_words nodes i (Variable 0) h) (some_words (get_or nodes i (Variable 0)) (drop (i + 1) nodes))

pub len-rest : (nodes : List Node) (i : ℕ) → len (words_at nodes i) ≤ length nodes - i
len-rest nodes i = omega (arith, len-decode (drop i nodes), length-drop i nodes)

pub words-in : (nodes : List Node) (i n : ℕ) → 0 < n → n ≤ len (words_at nodes i) → i < length nodes
words-in nodes i n p q = omega (arith, len-rest nodes i)

-- one node on, where n words are to come
step-len : (x : Node) (nodes : List Node) (n : ℕ) → Whole (x ∷ nodes) → 0 < n → n ≤ len (decode (x ∷ nodes)) → n - 1 + places_of x ≤ len (decode nodes)
unfolding Whole decode
step-len (Variable x) nodes n w p q = omega arith
step-len (Applied s k) nodes n w p q = omega (arith, len_after k (decode nodes))

step_after : (x : Node) (nodes : List Node) (n : ℕ) → 0 < n → after (n - 1 + places_of x) (decode nodes) ≡ after n (decode (x ∷ nodes))
unfolding decode
step_after x nodes zero p = absurd (omega arith)
step_after (Variable x) nodes (suc n) p = rw (sub-one, add-zero)
step_after (Applied s k) nodes (suc n) p = rw sub-one (sym (after-after n k (decode nodes)))

pub record On (nodes : List Node) (i n : ℕ) (d : Node) : Type 0 where
  pub enough : n - 1 + places_of (get_or nodes i d) ≤ len (words_at nodes (i + 1))
  pub same : after (n - 1 + places_of (get_or nodes i d)) (words_at nodes (i + 1)) ≡ after n (words_at nodes i)

pub on : (nodes : List Node) (i n : ℕ) (d : Node) → Whole nodes → 0 < n → n ≤ len (words_at nodes i) → On nodes i n d
on nodes i n d w p q =
    let h = words-in nodes i n p q in
    let e = at_words nodes i d h in
    record {
      enough = step-len (get_or nodes i d) (drop (i + 1) nodes) n (at-whole nodes i d h w) p (rw e at q);
      same = step_after (get_or nodes i d) (drop (i + 1) nodes) n p ∙ ap (after n) (sym e);
    }

-- the nodes of the word at i are those up to where it ends
split-words : (us : Words) → 1 ≤ len us → codes us ≡ code (hd us) ++ codes (tl us)
split-words nil h = absurd (omega arith)
split-words (cons u us) h = refl

pub word-nodes : (nodes : List Node) (i j : ℕ) → Whole nodes → i < length nodes → Next nodes i j → drop i nodes ≡ code (word_at nodes i) ++ drop j nodes
word-nodes nodes i j w h n =
    sym (code-decode (drop i nodes) (whole_drop i nodes w))
    ∙ split-words (words_at nodes i) (len-at nodes i h)
    ∙ ap (λ (l : List Node). code (word_at nodes i) ++ l) (ap codes (sym n.rest) ∙ code-decode (drop j nodes) (whole_drop j nodes w))

pub word-between : (nodes : List Node) (i j : ℕ) → Whole nodes → i < length nodes → Next nodes i j → between i j nodes ≡ code (word_at nodes i)
word-between nodes i j w h n =
    let e = word-nodes nodes i j w h n in
    let l : length (code (word_at nodes i)) ≡ j - i =
    omega (arith, ap length e, length-append (code (word_at nodes i)) (drop j nodes), length-drop i nodes, length-drop j nodes, n.later, n.within) in
    ap (take (j - i)) e ∙ take_at (code (word_at nodes i)) (drop j nodes) (j - i) l

mutual
  pub length-code : (u : Word) → length (code u) ≡ size u
  length-code (var x) = refl
  length-code (app s us) = ap suc (length-codes us)

  pub length-codes : (us : Words) → length (codes us) ≡ sizes us
  length-codes nil = refl
  length-codes (cons u us) = omega (arith, length-append (code u) (codes us), length-code u, length-codes us)

-- the nodes of one word
pub code_one : (nodes : List Node) → Whole nodes → len (decode nodes) ≡ 1 → code (hd (decode nodes)) ≡ nodes
code_one nodes w e = only (decode nodes) e ∙ code-decode nodes w
  where
    only : (us : Words) → len us ≡ 1 → code (hd us) ≡ codes us
    only nil h = absurd (omega arith)
    only (cons u nil) h = sym (append-nil (code u))
    only (cons u (cons v vs)) h = absurd (omega arith)
