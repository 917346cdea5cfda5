-- The first choice in dictionary order: what is left, and what was passed over.
use Rattle.std.proofs.Common.{◌≡◌, ℕ, zero, suc, ◌+◌, ◌<◌, ◌≤◌, Bool, true, false, List, [], ◌∷◌, ◌++◌, map, length, get_or, take, Some, None, Option, MatchOption, Decides, sym, refl, ap, ◌∙◌, subst, inl, inr, ⊎_elim, arith}
use Rattle.std.specs.List.{range_with_len}
use Rattle.std.specs.Bool.{then_some}
use Rattle.std.proofs.lemmas.Bool.{cases_eq, false≢true}
use Rattle.std.proofs.lemmas.List.{get_or-take, get_or_push, length_push, take_all, take_at, take-take, take_more}
use Rattle.std.proofs.lemmas.List.Elements.{All-nil, All-push}
use Rattle.std.proofs.lemmas.List.FromFn.{length-map-range_with_len, get_or-map-range_with_len}
use Rattle.bounded.specs.Elems.{elems}
use Rattle.bounded.specs.declared.list.Bounded.{Bounded}
use Rattle.term.specs.declared.node.Node.{Node}
use Rattle.clauses.specs.Clauses.{Covers, literals_at}
use Rattle.subsume.specs.declared.bits.BitSet.{BitSet}
use Rattle.subsume.specs.declared.front.Front.{Front}
use Rattle.subsume.specs.declared.slot.Slot.{Slot}
use Rattle.subsume.specs.Bits.{bit_at}
use Rattle.subsume.specs.Choices.{left, slot_at, Among, Fits, Taken, Picked}
use Rattle.subsume.specs.Meeting.{place_of}
use Rattle.subsume.specs.Solving.{TurnsAt, Works, Linked, Hopeful, Spared}
use Rattle.subsume.specs.Steps.{Begins, NoneFrom, FirstFrom, Begun}
use Rattle.subsume.specs.FirstChoices.{Chooses, NoLater, FirstChoice}
use Rattle.subsume.proofs.Choosing.{chooses-working, working-chooses}
use Rattle.subsume.proofs.Covered.{covers-solved}

-- dictionary order
pub no_later-itself : (js : List ℕ) → NoLater js js
no_later-itself [] = tt
no_later-itself (j ∷ js) = inr (refl, no_later-itself js)

pub no_later-at : (js ks : List ℕ) (i : ℕ) → i < length js → i < length ks → ((l : ℕ) → l < i → get_or js l 0 ≡ get_or ks l 0) → get_or js i 0 < get_or ks i 0 → NoLater js ks
no_later-at [] ks i h k e l = absurd (omega arith)
no_later-at (j ∷ js) [] i h k e l = absurd (omega arith)
no_later-at (j ∷ js) (q ∷ ks) zero h k e l = inl l
no_later-at (j ∷ js) (q ∷ ks) (suc i) h k e l = inr (e 0 (omega arith), no_later-at js ks i (omega arith) (omega arith) (λ n b. e (suc n) (omega arith)) l)

-- what begins with one choice more
pub begins-parts : (front js : List ℕ) (j : ℕ) → Begins (front ++ j ∷ []) js → Begins front js × (get_or js (length front) 0 ≡ j)
begins-parts front js j b =
    let n = length front in
    let long = length_push front j in (
      sym (take-take n (length (front ++ j ∷ [])) js (omega (arith, long))) ∙ ap (take n) b ∙ take_at front (j ∷ []) n refl,
      sym (get_or-take (length (front ++ j ∷ [])) js n 0 (omega (arith, long))) ∙ ap (λ (l : List ℕ). get_or l n 0) b ∙ get_or_push front j 0 n refl,
    )

pub begins-more : (front js : List ℕ) (j : ℕ) → Begins front js → length front < length js → get_or js (length front) 0 ≡ j → Begins (front ++ j ∷ []) js
begins-more front js j b h e =
    ap (λ (n : ℕ). take n js) (length_push front j) ∙ take_more js (length front) 0 h ∙ ap (λ (l : List ℕ). l ++ get_or js (length front) 0 ∷ []) b ∙ ap (λ (x : ℕ). front ++ x ∷ []) e

pub begins-all : (front js : List ℕ) → Begins front js → length js ≤ length front → js ≡ front
begins-all front js b h = sym (take_all (length front) js h) ∙ b

begins-at : (front js : List ℕ) (l : ℕ) → Begins front js → l < length front → get_or js l 0 ≡ get_or front l 0
begins-at front js l b h = sym (get_or-take (length front) js l 0 h) ∙ ap (λ (x : List ℕ). get_or x l 0) b

module _ (N : List Node) (S : List ℕ) (M : List Node) (T : List ℕ) where
  -- a choice that works and takes the target j for literal i stays
  left-taken : {C : ℕ} (fronts : List (Front C)) (slots : List Slot) (sets last : List (BitSet 4)) (i j : ℕ) → Linked N S M T fronts slots → Taken fronts slots (length S) (length T) sets i j last
      → (f : ℕ → ℕ) → Among sets (length S) (length T) f → Works N S M T f → f i ≡ j → Among last (length S) (length T) f
  left-taken fronts slots sets last i j linked t f among w e =
      let mid = t.mid in
      let narrow : Among mid (length S) (length T) f = λ k inside.
      let a = among k inside in (
        a.0,
        ⊎_elim
            (λ (s : k ≡ i).
            let same : f k ≡ j = ap f s ∙ e in
            ap (λ (x : ℕ). left mid x (f k)) s
            ∙ ap (left mid i) same
            ∙ t.narrowed.here
            ∙ sym (ap (left sets i) same)
            ∙ sym (ap (λ (x : ℕ). left sets x (f k)) s)
            ∙ a.1)
            (λ s. ap (λ (ws : List ℕ). bit_at ws (f k)) (t.others k s) ∙ a.1)
            (cases_eq k i),
      ) in
      let fits : Fits fronts slots f (λ x. place_of M (w.0 x)) = λ s inside.
      let l = linked s inside in
      let k = (slot_at slots s).literal in
      l.1 (f k) (among k l.0).0 w.0 (w.1 k l.0) in
      t.pruned.keeps f (λ x. place_of M (w.0 x)) fits narrow

  pub begun-more : {C : ℕ} (fronts : List (Front C)) (slots : List Slot) (front longer : List ℕ) (sets last : List (BitSet 4)) (picks picks' : List (Option ℕ)) (j : ℕ) → Linked N S M T fronts slots
      → Taken fronts slots (length S) (length T) sets (length front) j last → Begun N S M T front sets picks → Picked last (length S) (length T) picks' → length front < length S → j < length T → longer ≡ front ++ j ∷ []
      → Begun N S M T longer last picks'
  begun-more fronts slots front longer sets last picks picks' j linked t g p more inside is = rw is record {
    few = omega (arith, length_push front j);
    inside = All-push (λ j. j < length T) front j g.inside inside;
    left = λ js c b.
        let q = begins-parts front js j b in
        left-taken fronts slots sets last (length front) j linked t (λ i. get_or js i 0) (g.left js c q.0) (chooses-working N S M T js c).works q.1;
    picked = p;
  }

  -- every choice of target was made
  works-first : (front : List ℕ) → Chooses (literals_at N S) (literals_at M T) front → FirstFrom (literals_at N S) (literals_at M T) front front
  works-first front c = (
    c,
    take_all (length front) front (omega arith),
    λ other d b.
        let long = (chooses-working N S M T front c).long in
        subst (NoLater front) (sym (begins-all front other b (omega (arith, long, (chooses-working N S M T other d).long)))) (no_later-itself front),
  )

  fails-none : (front : List ℕ) → length front ≡ length S → (Chooses (literals_at N S) (literals_at M T) front → ⊥) → NoneFrom (literals_at N S) (literals_at M T) front
  fails-none front long n other c b = n (subst (Chooses (literals_at N S) (literals_at M T)) (begins-all front other b (omega (arith, long, (chooses-working N S M T other c).long))) c)

  pub first_whole : {C : ℕ} (choice : Bounded ℕ C) (works : Bool) → length (elems choice) ≡ length S → Decides works (Chooses (literals_at N S) (literals_at M T) (elems choice))
      → (answer : Option (Bounded ℕ C)) → answer ≡ then_some works choice
      → MatchOption answer (NoneFrom (literals_at N S) (literals_at M T) (elems choice)) (λ first. FirstFrom (literals_at N S) (literals_at M T) (elems choice) (elems first))
  first_whole choice true long d answer is = rw is (works-first (elems choice) (d.0 refl))
  first_whole choice false long d answer is = rw is (fails-none (elems choice) long (λ c. false≢true (d.1 c)))

  -- no choice that works and begins so goes on with a target before j
  abbrev pub Passed : (front : List ℕ) (j : ℕ) → Type 0
  Passed front j = (other : List ℕ) → Chooses (literals_at N S) (literals_at M T) other → Begins front other → j ≤ get_or other (length front) 0

  module _ (front : List ℕ) (more : length front < length S) where
    pub passed-more : (j : ℕ) → Passed front j → NoneFrom (literals_at N S) (literals_at M T) (front ++ j ∷ []) → Passed front (j + 1)
    passed-more j p none other c b =
        ⊎_elim
        (λ (e : get_or other (length front) 0 ≡ j). absurd (none other c (begins-more front other j b (omega (arith, (chooses-working N S M T other c).long)) e)))
        (λ n. omega (arith, p other c b))
        (cases_eq (get_or other (length front) 0) j)

    -- a target that is not left
    pub none_left : (j : ℕ) (sets : List (BitSet 4)) (picks : List (Option ℕ)) → Begun N S M T front sets picks → (left sets (length front) j ≡ 1 → ⊥) → NoneFrom (literals_at N S) (literals_at M T) (front ++ j ∷ [])
    none_left j sets picks g n other c b =
        let q = begins-parts front other j b in
        n (subst (λ (x : ℕ). left sets (length front) x ≡ 1) q.1 (g.left other c q.0 (length front) more).1)

    pub passed_all : (j : ℕ) → Passed front j → length T ≤ j → NoneFrom (literals_at N S) (literals_at M T) front
    passed_all j p all other c b = let inside = (chooses-working N S M T other c).inside (length front) more in omega (arith, p other c b)

    -- the first choice that goes on with j
    pub first-found : (j : ℕ) (longer first : List ℕ) → longer ≡ front ++ j ∷ [] → Passed front j → FirstFrom (literals_at N S) (literals_at M T) longer first → FirstFrom (literals_at N S) (literals_at M T) front first
    first-found j longer first is p f =
        let q = begins-parts front first j (subst (λ (l : List ℕ). Begins l first) is f.1) in
        let long = (chooses-working N S M T first f.0).long in (
          f.0,
          q.0,
          λ other c b.
              let long' = (chooses-working N S M T other c).long in
              let n = length front in
              ⊎_elim
              (λ (e : get_or other n 0 ≡ j). f.2 other c (subst (λ (l : List ℕ). Begins l other) (sym is) (begins-more front other j b (omega arith) e)))
              (λ d. no_later-at first other n (omega arith) (omega arith) (λ l h. begins-at front first l q.0 h ∙ sym (begins-at front other l b h)) (omega (arith, q.1, d, p other c b)))
              (cases_eq (get_or other n 0) j),
        )

  -- the search found nothing
  pub none_searched : (longer : List ℕ) (sets : List (BitSet 4)) (picks : List (Option ℕ)) → Begun N S M T longer sets picks → (Hopeful N S M T sets → ⊥) → NoneFrom (literals_at N S) (literals_at M T) longer
  none_searched longer sets picks g n other c b = n ((λ i. get_or other i 0), g.left other c b, (chooses-working N S M T other c).works)

  -- at the beginning no choice is made
  pub begun-none : (front : List ℕ) (sets : List (BitSet 4)) (picks : List (Option ℕ)) → Spared N S M T sets → Picked sets (length S) (length T) picks → front ≡ [] → Begun N S M T front sets picks
  begun-none front sets picks spared p is = rw is record {
    few = omega arith;
    inside = All-nil (λ j. j < length T);
    left = λ js c b. let w = chooses-working N S M T js c in spared (λ i. get_or js i 0) w.inside w.works;
    picked = p;
  }

  covers-chooses : Covers (literals_at N S) (literals_at M T) → (js : List ℕ) × Chooses (literals_at N S) (literals_at M T) js
  covers-chooses c =
      let s = covers-solved N S M T c in
      let js = map s.0 (range_with_len 0 (length S)) in
      let at : (i : ℕ) → i < length S → s.0 i ≡ get_or js i 0 = λ i h. sym (get_or-map-range_with_len s.0 0 (length S) i i 0 h (omega arith)) in (
        js,
        working-chooses N S M T js (record {
          long = length-map-range_with_len s.0 0 (length S);
          inside = λ i h. subst (λ (j : ℕ). j < length T) (at i h) (s.1 i h);
          works = (s.2.0, λ i h. subst (TurnsAt N S M T s.2.0 i) (at i h) (s.2.1 i h));
        }),
      )

  -- the first of all choices
  pub first-of_all : {C : ℕ} (front : List ℕ) (answer : Option (Bounded ℕ C)) → front ≡ []
      → MatchOption answer (NoneFrom (literals_at N S) (literals_at M T) front) (λ first. FirstFrom (literals_at N S) (literals_at M T) front (elems first))
      → MatchOption answer (Covers (literals_at N S) (literals_at M T) → ⊥) (λ first. FirstChoice (literals_at N S) (literals_at M T) (elems first))
  first-of_all front None is none = λ c. let k = covers-chooses c in none k.0 k.1 (rw is refl)
  first-of_all front (Some first) is f = (f.0, λ other c. f.2 other c (rw is refl))
