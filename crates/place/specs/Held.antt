-- What is known of every place word.
use Rattle.std.specs.Prelude.{◌≡◌, ℕ, ◌≤◌, Bool, true, List, [], ◌∷◌, ◌++◌, length, replicate, is_some, Some, None, Decides, Option}
use Rattle.std.proofs.Common.{sym, ap, ap₂, ◌∙◌, subst, arith}
use Rattle.std.proofs.lemmas.Bool.{false≢true}
use Rattle.std.proofs.lemmas.List.{length-take}
use Rattle.bounded.specs.Elems.{elems}
use Rattle.class.specs.Kinds.{Least}
use Rattle.term.specs.declared.node.Node.{Node}
use Rattle.term.specs.Coding.{code, hd, decode, word_at}
use Rattle.term.specs.declared.join.Pair.{Pair}
use Rattle.term.specs.Joins.{Table, join}
use Rattle.term.specs.Joined.{mean, Joined}
use Rattle.term.specs.Lawful.{lawful, Narrow}
use Rattle.term.specs.Matched.{Bindings, Matched}
use Rattle.term.specs.Words.{Word, size, Covers}
use Rattle.term.proofs.Codings.{length-code}
use Rattle.term.proofs.Laws.{One, one_word, lawful-one}
use Rattle.term.proofs.Leastness.{join-left, join-right, join-least}
use Rattle.term.proofs.Kept.{join-numbered, join-narrow}
use Rattle.term.proofs.Pairings.{mean-none}
use Rattle.term.proofs.Matchings.{agreeing, none-agrees}
use Rattle.place.specs.declared.placed.PlaceWord.{PlaceWord}
use Rattle.place.specs.Places.{meaning, places}

pub held : (p : PlaceWord) → One (elems p.nodes)
held p = one_word (elems p.nodes) p.one

pub few : (p : PlaceWord) → length (elems p.nodes) ≤ 64
few p = omega (arith, length-take p.nodes.len p.nodes.items, p.nodes.within)

-- its word is within the limit
pub within : (p : PlaceWord) → (size (meaning p) ≤ 64) × Narrow (meaning p)
within p = (omega (arith, few p, length-code (meaning p), ap length (held p).nodes-of), (held p).narrow)

-- the nodes of the join of two are one lawful word
pub join-lawful : (u v : Word) (nodes : List Node) → Narrow u → nodes ≡ code (join u v []).0 → lawful nodes 1 0 ≡ true
join-lawful u v nodes n e = ap (λ (l : List Node). lawful l 1 0) e ∙ lawful-one (join u v []).0 (join-numbered u v) (join-narrow u v [] n)

pub join-is-least : (p q : PlaceWord) (w : Word) → w ≡ (join (meaning p) (meaning q) []).0 → Least places w (meaning p ∷ meaning q ∷ [])
join-is-least p q w e =
    subst (λ (v : Word). Least places v (meaning p ∷ meaning q ∷ [])) (sym e)
    (record {
      over = (join-left (meaning p) (meaning q), (join-right (meaning p) (meaning q), tt));
      below = λ l o. join-least (meaning p) (meaning q) l o.0 o.1.0;
    })

-- a join that begins with nothing leaves the nodes of the join of the two words
pub join-nodes : (a b xs ys o o' : List Node) (s s' : List Pair) (p q : ℕ) → a ≡ xs → b ≡ ys → o ≡ [] → s ≡ [] → Joined a b 0 0 p q o o' s s' → o' ≡ code (join (hd (decode xs)) (hd (decode ys)) []).0
join-nodes a b xs ys o o' s s' p q ea eb eo es j =
    j.nodes
    ∙ ap (λ (l : List Node). l ++ code (join (word_at a 0) (word_at b 0) (mean a b s)).0) eo
    ∙ ap (λ (T : Table). code (join (word_at a 0) (word_at b 0) T).0) (mean-none a b s es)
    ∙ ap₂ (λ (l m : List Node). code (join (hd (decode l)) (hd (decode m)) []).0) ea eb

-- a match from no bindings decides covering
pub match-decides : (pattern target : List Node) (n : ℕ) (o : Option (ℕ × ℕ)) (after : Bindings) (r : Bool) →
    Matched pattern 0 target 0 (replicate n None) o after → r ≡ is_some o → Decides r (Covers (word_at pattern 0) (word_at target 0))
match-decides pattern target n (Some e) after r m is =
    (λ _. let a = agreeing target after in (a.0, (m.2.back a.0 a.1).1), λ _. is)
match-decides pattern target n None after r m is =
    (λ t. absurd (false≢true (sym is ∙ t)), λ c. absurd (m c.0 (none-agrees target n c.0) c.1))
