-- The fact that is kept of fronts, as one more comes.
use Rattle.std.proofs.Common.{◌≡◌, ℕ, zero, suc, ◌+◌, ◌<◌, ◌≤◌, List, [], ◌∷◌, ◌++◌, length, get_or, Some, None, Option, inl, inr, refl, sym, ap, ◌∙◌, subst, ⊎_elim, MatchOption, arith}
use Rattle.std.proofs.lemmas.List.{get_or_append_left, get_or_push, length_push}
use Rattle.std.proofs.lemmas.Bool.{cases_eq}
use Rattle.term.specs.Coding.{word_at, Next}
use Rattle.term.specs.Words.{Word}
use Rattle.term.specs.declared.node.Node.{Node}
use Rattle.term.specs.declared.node.Node.TheVariants.{Variable, Applied}
use Rattle.term.specs.declared.walk.WordAt.{WordAt}
use Rattle.subsume.specs.declared.front.Front.{Front}
use Rattle.subsume.specs.declared.slot.Slot.{Slot}
use Rattle.subsume.specs.declared.view.View.{View}
use Rattle.subsume.specs.Choices.{no_front, front_at, slot_at}
use Rattle.subsume.specs.Fronts.{shape, stands, HasNodes, Follows, Leads, Labelled, Beyond, Grown}
use Rattle.subsume.specs.Meeting.{Reached, Advanced, place_of}
use Rattle.subsume.specs.Solving.{TurnsAt, Named, Linked, LeadsAt, Fronted}
use Rattle.subsume.proofs.Walking.{reached-first, reached-inside, reached-gives, reached-on}

-- a step does not look at which variable it is
shape-advanced : (x y : Node) → shape x ≡ shape y → (b : List Node) (o r : Option ℕ) → Advanced x b o r → Advanced y b o r
shape-advanced (Variable x) (Variable y) e b None r g = g
shape-advanced (Variable x) (Variable y) e b (Some q) (Some r) g = g
shape-advanced (Variable x) (Variable y) e b (Some q) None g = g
shape-advanced (Variable x) (Applied t l) e b o r g = absurd (cc)
shape-advanced (Applied s k) (Variable y) e b o r g = absurd (cc)
shape-advanced (Applied s k) (Applied t l) e b o r g = subst (λ (z : Node). Advanced z b o r) e g

labelled-variable : {C : ℕ} (b : List Node) (targets : List ℕ) (front : Front C) (node : Node) (labels : List ℕ) → Labelled b targets front node labels → shape node ≡ Variable 0
    → (j q : ℕ) → j < length targets → stands front j ≡ Some q → get_or labels j 0 ≡ place_of b (word_at b q)
labelled-variable b targets front (Variable x) labels l e = l
labelled-variable b targets front (Applied s k) labels l e = absurd (cc)

module _ {C : ℕ} (fronts : List (Front C)) (new : Front C) where
  abbrev more : List (Front C)
  more = fronts ++ new ∷ []

  before : (r : ℕ) → r < length fronts → front_at more r ≡ front_at fronts r
  before r h = get_or_append_left fronts (new ∷ []) (no_front C) r h

  last : front_at more (length fronts) ≡ new
  last = get_or_push fronts new (no_front C) (length fronts) refl

  long : length more ≡ length fronts + 1
  long = length_push fronts new

  -- what leads to a front that was there led to it before
  leads-before : (a : List Node) (i k r : ℕ) → r < length fronts → Leads more a i k r → Leads fronts a i k r
  leads-before a i zero r h e = e
  leads-before a i (suc k) r h e =
      let P : Front C → Type 0 = λ (z : Front C). ((z.parent < r) × (z.node ≡ shape (get_or a (i + k) (Variable 0)))) × Leads more a i k z.parent in
      let f : P (front_at fronts r) = subst P (before r h) ((e.0.0, e.0.3), e.1) in
      ((f.0.0, h, refl, f.0.1), leads-before a i k (front_at fronts r).parent (omega (arith, f.0.0, h)) f.1)

  leads-after : (a : List Node) (i k r : ℕ) → r < length fronts → Leads fronts a i k r → Leads more a i k r
  leads-after a i zero r h e = e
  leads-after a i (suc k) r h e =
      let P : Front C → Type 0 = λ (z : Front C). ((z.parent < r) × (z.node ≡ shape (get_or a (i + k) (Variable 0)))) × Leads more a i k z.parent in
      let f : P (front_at more r) = subst P (sym (before r h)) ((e.0.0, e.0.3), leads-after a i k (front_at fronts r).parent (omega (arith, e.0.0, h)) e.1) in
      ((f.0.0, omega (arith, h, long), refl, f.0.1), f.1)

  linked-after : (N : List Node) (S : List ℕ) (M : List Node) (T : List ℕ) (slots : List Slot) → Linked N S M T fronts slots → Linked N S M T more slots
  linked-after N S M T slots linked s h =
      let slot = slot_at slots s in
      let f = linked s h in
      (f.0, subst (λ (z : Front C). Named N S M T slot.literal slot.variable z.labels) (sym (before slot.front f.2)) f.1, omega (arith, f.2, long))

pub grown-by : {C : ℕ} (M : List Node) (T : List ℕ) (r : ℕ) (node : Node) (fronts after : List (Front C)) (new : Front C) (o : Option ℕ)
    → MatchOption o (after ≡ fronts) (λ s. (s ≡ length fronts) × (after ≡ fronts ++ new ∷ [])) → new.parent ≡ r → Beyond M T (front_at fronts r) node new
    → Grown M T r node fronts after
grown-by M T r node fronts after new None e p beyond = inl e
grown-by M T r node fronts after new (Some s) e p beyond = inr (new, e.1, p, beyond)

module _ (l v : View) where
  abbrev N : List Node
  N = l.nodes.now

  abbrev S : List ℕ
  S = l.starts.now

  abbrev M : List Node
  M = v.nodes.now

  abbrev T : List ℕ
  T = v.starts.now

  abbrev start : ℕ → ℕ
  start i = get_or S i 0

  abbrev literal : (i : ℕ) → i < length S → WordAt
  literal i h = record { nodes = l.nodes; start = start i; whole = l.whole; inside = l.inside i h }

  -- the word that is walked along is literal i
  pub has-nodes : (u : WordAt) (i : ℕ) → u.nodes.now ≡ N → u.start ≡ start i → (e k : ℕ) → Next u.nodes.now u.start e → start i + k ≤ e → HasNodes N (start i) k
  has-nodes u i same begins e k next h = (e, subst (λ (n : ℕ). Next N n e) begins (subst (λ (a : List Node). Next a u.start e) same next), h)

  module _ {C : ℕ} where
    -- before its end a literal stands inside the targets
    pub front-inside : (fronts : List (Front C)) (r i k : ℕ) → Fronted N S M T fronts → r < length fronts → LeadsAt N S M T fronts i k r → HasNodes N (start i) (suc k)
        → (j q : ℕ) → j < length T → stands (front_at fronts r) j ≡ Some q → q < length M
    front-inside fronts r i k f h leads nodes j q inside e =
        reached-inside (literal i leads.0) v j inside (start i + k) nodes.0 nodes.1 (omega (arith, nodes.2)) (stands (front_at fronts r) j) (f.reached r i k h leads j inside) q e

    module _ (fronts : List (Front C)) (f : Fronted N S M T fronts) (new : Front C) (node : Node) (inside : new.parent < length fronts) (beyond : Beyond M T (front_at fronts new.parent) node new) where
      -- what leads to the new front led to the one that it follows
      parent-leads : (i k : ℕ) → LeadsAt N S M T (fronts ++ new ∷ []) i (suc k) (length fronts)
          → LeadsAt N S M T fronts i k new.parent × (shape node ≡ shape (get_or N (start i + k) (Variable 0)))
      parent-leads i k leads =
          let P : Front C → Type 0 = λ (z : Front C). (z.node ≡ shape (get_or N (start i + k) (Variable 0))) × Leads (fronts ++ new ∷ []) N (start i) k z.parent in
          let g : P new = subst P (last fronts new) (leads.2.0.3, leads.2.1) in
          let nodes = leads.1 in
          ((leads.0, (nodes.0, nodes.1, omega (arith, nodes.2)), leads-before fronts new N (start i) k new.parent inside g.1), sym beyond.shaped ∙ g.0)

      new-reached : (i k : ℕ) → LeadsAt N S M T (fronts ++ new ∷ []) i k (length fronts) → (j : ℕ) → j < length T
          → Reached N (start i) (start i + k) M (get_or T j 0) (stands new j)
      new-reached i zero leads j h = let some = f.some in absurd (omega (arith, leads.2))
      new-reached i (suc k) leads j h =
          let s = start i in
          let p = parent-leads i k leads in
          let nodes = leads.1 in
          let x = get_or N (s + k) (Variable 0) in
          let old = front_at fronts new.parent in
          subst (λ (n : ℕ). Reached N s n M (get_or T j 0) (stands new j)) (omega arith)
          (reached-on (literal i leads.0) v j h (s + k) nodes.0 nodes.1 (omega (arith, nodes.2)) x refl (stands old j) (stands new j)
          (f.reached new.parent i k inside p.0 j h)
          (shape-advanced node x p.1 M (stands old j) (stands new j) (beyond.advanced j h)))

      new-named : (i k x : ℕ) → LeadsAt N S M T (fronts ++ new ∷ []) i (suc k) (length fronts) → get_or N (start i + k) (Variable 0) ≡ Variable x → Named N S M T i x new.labels
      new-named i k x leads is j h θ t = by-place (stands (front_at fronts new.parent) j) refl
        where
          gives : (o : Option ℕ) → stands (front_at fronts new.parent) j ≡ o
              → ((q : ℕ) → o ≡ Some q → (q < length M) × ((θ : ℕ → Word) → TurnsAt N S M T θ i j → θ x ≡ word_at M q)) × (o ≡ None → (θ : ℕ → Word) → TurnsAt N S M T θ i j → ⊥)
          gives o e =
              let s = start i in
              let nodes = leads.1 in
              reached-gives (literal i leads.0) v j h (s + k) nodes.0 nodes.1 (omega (arith, nodes.2)) x is o
              (subst (Reached N s (s + k) M (get_or T j 0)) e (f.reached new.parent i k inside (parent-leads i k leads).0 j h))

          by-place : (o : Option ℕ) → stands (front_at fronts new.parent) j ≡ o → get_or new.labels j 0 ≡ place_of M (θ x)
          by-place None e = absurd ((gives None e).1 refl θ t)
          by-place (Some q) e = labelled-variable M T (front_at fronts new.parent) node new.labels beyond.labels ((parent-leads i k leads).1 ∙ ap shape is) j q h e ∙ ap (place_of M) (sym (((gives (Some q) e).0 q refl).1 θ t))

      pub fronted-more : Fronted N S M T (fronts ++ new ∷ [])
      fronted-more = record {
        some = omega (arith, long fronts new);
        reached = λ r i k h leads j inside-j.
            ⊎_elim
            (λ (e : r ≡ length fronts).
            subst (λ (z : Front C). Reached N (start i) (start i + k) M (get_or T j 0) (stands z j)) (sym (ap (front_at (fronts ++ new ∷ [])) e ∙ last fronts new))
            (new-reached i k (subst (LeadsAt N S M T (fronts ++ new ∷ []) i k) e leads) j inside-j))
            (λ e.
            let h' : r < length fronts = omega (arith, h, long fronts new, e) in
            subst (λ (z : Front C). Reached N (start i) (start i + k) M (get_or T j 0) (stands z j)) (sym (before fronts new r h'))
            (f.reached r i k h' (leads.0, leads.1, leads-before fronts new N (start i) k r h' leads.2) j inside-j))
            (cases_eq r (length fronts));
        named = λ r i k x leads is.
            ⊎_elim
            (λ (e : r ≡ length fronts).
            subst (λ (z : Front C). Named N S M T i x z.labels) (sym (ap (front_at (fronts ++ new ∷ [])) e ∙ last fronts new))
            (new-named i k x (subst (LeadsAt N S M T (fronts ++ new ∷ []) i (suc k)) e leads) is))
            (λ e.
            let h : r < length (fronts ++ new ∷ []) = leads.2.0.1 in
            let h' : r < length fronts = omega (arith, h, long fronts new, e) in
            subst (λ (z : Front C). Named N S M T i x z.labels) (sym (before fronts new r h'))
            (f.named r i k x (leads.0, leads.1, leads-before fronts new N (start i) (suc k) r h' leads.2) is))
            (cases_eq r (length fronts));
      }

    -- the front where every walk begins
    pub fronted-first : (fronts : List (Front C)) → length fronts ≡ 1 → ((j : ℕ) → j < length T → stands (front_at fronts 0) j ≡ Some (get_or T j 0)) → Fronted N S M T fronts
    fronted-first fronts one begun = record {
      some = omega (arith, one);
      reached = λ r i k h leads j inside. first r k (omega (arith, h, one)) i leads j inside;
      named = λ r i k x leads is. let h : r < length fronts = leads.2.0.1 in let p = leads.2.0.0 in absurd (omega (arith, p, h, one));
    }
      where
        first : (r k : ℕ) → r ≡ 0 → (i : ℕ) → LeadsAt N S M T fronts i k r → (j : ℕ) → j < length T → Reached N (start i) (start i + k) M (get_or T j 0) (stands (front_at fronts r) j)
        first r zero e i leads j h =
            let s = start i in
            subst (λ (n : ℕ). Reached N s n M (get_or T j 0) (stands (front_at fronts r) j)) (omega arith)
            (reached-first (literal i leads.0) v j h (stands (front_at fronts r) j) (ap (λ (n : ℕ). stands (front_at fronts n) j) e ∙ begun j h))
        first r (suc k) e i leads j h = let p = leads.2.0.0 in absurd (omega (arith, p, e))

    module _ (r : ℕ) (node : Node) (fronts after : List (Front C)) (h : r < length fronts) (grown : Grown M T r node fronts after) where
      pub fronted-grown : Fronted N S M T fronts → Fronted N S M T after
      fronted-grown f = by-kind grown
        where
          by-kind : Grown M T r node fronts after → Fronted N S M T after
          by-kind (inl e) = subst (Fronted N S M T) (sym e) f
          by-kind (inr (new, e, parent, beyond)) =
              subst (Fronted N S M T) (sym e)
              (fronted-more fronts f new node (subst (λ (n : ℕ). n < length fronts) (sym parent) h) (subst (λ (n : ℕ). Beyond M T (front_at fronts n) node new) (sym parent) beyond))

      pub linked-grown : (slots : List Slot) → Linked N S M T fronts slots → Linked N S M T after slots
      linked-grown slots linked = by-kind grown
        where
          by-kind : Grown M T r node fronts after → Linked N S M T after slots
          by-kind (inl e) = subst (λ (z : List (Front C)). Linked N S M T z slots) (sym e) linked
          by-kind (inr (new, e, p, rest)) = subst (λ (z : List (Front C)). Linked N S M T z slots) (sym e) (linked-after fronts new N S M T slots linked)

      pub inside-grown : r < length after
      inside-grown = by-kind grown
        where
          by-kind : Grown M T r node fronts after → r < length after
          by-kind (inl e) = omega (arith, ap length e)
          by-kind (inr (new, e, p, rest)) = omega (arith, ap length e, long fronts new)

      leads-kept : (i k : ℕ) → Leads fronts N (start i) k r → Leads after N (start i) k r
      leads-kept i k leads = by-kind grown
        where
          by-kind : Grown M T r node fronts after → Leads after N (start i) k r
          by-kind (inl e) = subst (λ (z : List (Front C)). Leads z N (start i) k r) (sym e) leads
          by-kind (inr (new, e, p, rest)) = subst (λ (z : List (Front C)). Leads z N (start i) k r) (sym e) (leads-after fronts new N (start i) k r h leads)

      pub leads-grown : (i k : ℕ) → LeadsAt N S M T fronts i k r → LeadsAt N S M T after i k r
      leads-grown i k leads = (leads.0, leads.1, leads-kept i k leads.2)

      -- the literal stands at the front that its next node leads to
      pub leads-on : (i k s : ℕ) → Leads fronts N (start i) k r → node ≡ get_or N (start i + k) (Variable 0) → Follows after r node s → Leads after N (start i) (suc k) s
      leads-on i k s leads is follows = pack (subst (λ (n : ℕ). (n < s) × Leads after N (start i) k n) (sym follows.2) (follows.0, leads-kept i k leads))
        where
          pack : ((front_at after s).parent < s) × Leads after N (start i) k (front_at after s).parent → Leads after N (start i) (suc k) s
          pack p = ((p.0, follows.1, refl, follows.3 ∙ ap shape is), p.1)

    pub reached-by : (u : WordAt) (i : ℕ) → u.nodes.now ≡ N → u.start ≡ start i → (fronts : List (Front C)) (r k p : ℕ) (front : Front C) → Fronted N S M T fronts → r < length fronts → LeadsAt N S M T fronts i k r → start i + k ≡ p → front_at fronts r ≡ front
        → (j : ℕ) → j < length T → Reached u.nodes.now u.start p M (get_or T j 0) (stands front j)
    reached-by u i same begins fronts r k p front f h leads at is j inside =
        subst (λ (a : List Node). Reached a u.start p M (get_or T j 0) (stands front j)) (sym same)
        (subst (λ (n : ℕ). Reached N n p M (get_or T j 0) (stands front j)) (sym begins)
        (subst (λ (n : ℕ). Reached N (start i) n M (get_or T j 0) (stands front j)) at
        (subst (λ (z : Front C). Reached N (start i) (start i + k) M (get_or T j 0) (stands z j)) is
        (f.reached r i k h leads j inside))))
