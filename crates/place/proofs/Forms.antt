-- Reading and writing the packed form of place words.
use Rattle.std.proofs.Common.{◌≡◌, ℕ, ◌+◌, ◌-◌, ◌<◌, ◌≤◌, true, List, [], ◌++◌, length, Ok, Err, Result, sym, refl, ap, ◌∙◌, subst, append-nil, arith}
use Rattle.std.proofs.lemmas.List.{take_all}
use Rattle.std.proofs.lemmas.Bool.{lt-ltb, le-ltb}
use Rattle.bounded.specs.Elems.{elems}
use Rattle.term.specs.declared.node.Node.{Node}
use Rattle.term.specs.Coding.{code}
use Rattle.term.specs.Lawful.{lawful}
use Rattle.word.specs.declared.fault.WordFault.{WordFault}
use Rattle.word.specs.Packed.{packed, seen_after}
use Rattle.word.specs.Reads.{read_words, Gives, Added}
use Rattle.word.proofs.Laws.{lawful-writable}
use Rattle.number.proofs.Answers.{clash}
use Rattle.word.proofs.Back.{reads-packed}
use Rattle.word.proofs.Turns.{gave-fault, gave-words}
use Rattle.place.specs.declared.fault.PlaceFault.{PlaceFault}
use Rattle.place.specs.declared.fault.PlaceFault.TheVariants.{Word, Left}
use Rattle.place.specs.declared.placed.PlaceWord.{PlaceWord}
use Rattle.place.specs.Places.{meaning}
use Rattle.place.specs.Packing.{place_form, read_place, Reads, Exactly}
use Rattle.place.specs.Held.{held, few}

-- what the reader of words gave, where it began with nothing
module _ (input : List ℕ) where
  abbrev words : Result (List Node × ℕ × ℕ) WordFault
  words = read_words 1 64 0 input 0 []

  from-none : (new : List Node) → new ≡ [] → read_words 1 (64 - length new) 0 input 0 new ≡ words
  from-none new e = ap (λ (l : List Node). read_words 1 (64 - length l) 0 input 0 l) e

  -- the questions after it
  read-fault : (fault : WordFault) → words ≡ Err fault → read_place input ≡ Err (Word fault)
  unfolding read_place
  read-fault fault e = rw e

  read_left : (nodes : List Node) (end seen : ℕ) → words ≡ Ok (nodes, end, seen) → end < length input → read_place input ≡ Err (Left end)
  unfolding read_place
  read_left nodes end seen e h = rw (e, lt-ltb end (length input) h)

  read_all : (nodes : List Node) (end seen : ℕ) → words ≡ Ok (nodes, end, seen) → length input ≤ end → read_place input ≡ Ok nodes
  unfolding read_place
  read_all nodes end seen e h = rw (e, le-ltb end (length input) h)

-- what is written is read back
pub reads-back : (p : PlaceWord) → read_place (place_form p) ≡ Ok (code (meaning p))
reads-back p =
    let nodes = code (meaning p) in
    let same = (held p).nodes-of in
    let lawful-nodes : lawful nodes 1 0 ≡ true = ap (λ (l : List Node). lawful l 1 0) same ∙ p.one in
    let short : length nodes ≤ 64 = omega (arith, few p, ap length same) in
    let read = reads-packed nodes 1 64 0 (packed nodes) [] 0 [] (lawful-writable nodes 1 0 lawful-nodes (omega arith)) lawful-nodes short (sym (append-nil (packed nodes))) in
    read_all (packed nodes) nodes (0 + length (packed nodes)) (seen_after nodes 0) read (omega arith)

no-form : (input : List ℕ) (fault : PlaceFault) → read_place input ≡ Err fault → (p : PlaceWord) → place_form p ≡ input → ⊥
no-form input fault e p f = clash fault (code (meaning p)) (sym e ∙ ap read_place (sym f) ∙ reads-back p)

-- the three answers of a read
pub record Answer (input : List ℕ) (before : PlaceWord) (r : Result (Unit {0}) PlaceFault) (after : PlaceWord) : Type 0 where
  pub value : Reads (read_place input) before r after
  pub exact : Exactly input r after

refused : (input : List ℕ) (before : PlaceWord) (fault : PlaceFault) → read_place input ≡ Err fault → Answer input before (Err fault) before
refused input before fault e = record { value = subst (λ (R : Result (List Node) PlaceFault). Reads R before (Err fault) before) (sym e) (refl, refl); exact = no-form input fault e }

module _ (input : List ℕ) (before : PlaceWord) (new nodes : List Node) (none : new ≡ []) where
  pub answer-fault : (fault : WordFault) → Gives (read_words 1 (64 - length new) 0 input 0 new) new (Err fault) nodes → Answer input before (Err (Word fault)) before
  answer-fault fault g = refused input before (Word fault) (read-fault input fault (sym (from-none input new none) ∙ (gave-fault (read_words 1 (64 - length new) 0 input 0 new) new nodes fault g).0))

  module _ (end seen : ℕ) (g : Gives (read_words 1 (64 - length new) 0 input 0 new) new (Ok (end, seen)) nodes) where
    gave : read_words 1 64 0 input 0 [] ≡ Ok (nodes, end, seen)
    gave = sym (from-none input new none) ∙ gave-words (read_words 1 (64 - length new) 0 input 0 new) new nodes end seen g

    pub answer-left : end < length input → Answer input before (Err (Left end)) before
    answer-left h = refused input before (Left end) (read_left input nodes end seen gave h)

    pub answer-read : (after : PlaceWord) → elems after.nodes ≡ nodes → length input ≤ end → Added 1 (64 - length new) 0 input 0 end seen new nodes → Answer input before (Ok tt) after
    answer-read after is h a =
        let same : code (meaning after) ≡ nodes = (held after).nodes-of ∙ is in
        let all : a.nodes ≡ nodes = sym (a.added ∙ ap (λ (l : List Node). l ++ a.nodes) none) in
        record {
          value = subst (λ (R : Result (List Node) PlaceFault). Reads R before (Ok tt) after) (sym (read_all input nodes end seen gave h)) (refl, same);
          exact = ap packed same ∙ ap packed (sym all) ∙ sym a.stand.bytes ∙ take_all (end - 0) input (omega arith);
        }
