-- The law over whole runs.
use Rattle.std.proofs.Common.{◌≡◌, Bool, List, [], ◌∷◌, Ok, Err, Decides, sym, ◌∙◌, subst, inl, inr, arith}
use Rattle.class.specs.declared.classes.Class.{Class}
use Rattle.class.specs.Kinds.{Subject, Laws, Over, Least}
use Rattle.class.specs.Calls.{Begun, Widened}
use Rattle.class.specs.Runs.{Call, admit, fits, issue, State, gathers, issued, rule, count, Step, Run, took, taken, Shared, Right, Answered, Holds, Law}

module _ {Thing : Type 0} (k : Subject Thing) (laws : Laws k) where
  over-up : (l m : k.member) (ns : List k.member) → k.above l m → Over k m ns → Over k l ns
  over-up l m [] h o = tt
  over-up l m (n ∷ ns) h o = (laws.through l m n h o.0, over-up l m ns h o.1)

  -- where m is least over ms, least over m and x is least over x and ms
  joins : (m x n : k.member) (ms : List k.member) → Least k m ms → Least k n (m ∷ x ∷ []) → Least k n (x ∷ ms)
  joins m x n ms L J = record { over = (J.over.1.0, over-up n m ms J.over.0 L.over); below = λ l o. J.below l (L.below l o.1, (o.0, tt)) }

  parts : (m x n : k.member) (ms : List k.member) → Least k m ms → Least k n (x ∷ ms) → Least k n (m ∷ x ∷ [])
  parts m x n ms L N = record { over = (L.below n N.over.1, (N.over.0, tt)); below = λ l o. N.below l (o.1.0, over-up l m ms o.0 L.over) }

  -- what the rule covers is what all that covers ms covers
  shared : (b : Bool) (m : k.member) (x : Thing) (ms : List k.member) → Least k m ms → Decides b (k.above m (k.means x)) → Decides b (Shared k ms x)
  shared b m x ms L d = ((λ e l o. laws.through l m (k.means x) (L.below l o) (d.0 e)), (λ f. d.1 (f m L.over)))

  abbrev Good : List k.member → Thing → Type 0
  Good ms r = Least k (k.means r) ms × k.tidy r

  widens : (ms : List k.member) (r x s : Thing) → Good ms r → Widened k r x s → Good (k.means x ∷ ms) s
  widens ms r x s G (inl w) = subst (Good (k.means x ∷ ms)) (sym w.1) (record { over = (w.0, G.0.over); below = λ l o. G.0.below l o.1 }, G.1)
  widens ms r x s G (inr w) = (joins (k.means r) (k.means x) (k.means s) ms G.0 w.1.0, w.1.1)

  stays : (ms : List k.member) (s u : State Thing) → Holds k ms s → rule u ≡ rule s → count u ≡ count s → Holds k ms u
  stays ms s u H e n =
      let G : Good ms (rule u) = subst (Good ms) (sym e) (H.least, H.tidy) in
      record { least = G.0; tidy = G.1; counted = n ∙ H.counted }

  step : (ms : List k.member) (s : State Thing) (a : Call Thing) (u : State Thing) → Holds k ms s → Step k s a u → Right k ms a × Holds k (took k ms a) u
  step ms (gathers c) (admit x (Ok o)) (gathers d) H w =
      let G = widens ms c.rule x d.rule (H.least, H.tidy) w.0 in
      ((k.means d.rule, laws.inside d.rule, G.0), record { least = G.0; tidy = G.1; counted = omega (arith, w.1, H.counted) })
  step ms (gathers c) (admit x (Err e)) (gathers d) H w =
      ((λ h. w.1.0 (h.0, h.1, parts (k.means c.rule) (k.means x) h.0 ms H.least h.2)), stays ms (gathers c) (gathers d) H w.1.2 w.2)
  step ms (gathers c) (admit x (Ok o)) (issued i) H w = elim w [ ]
  step ms (gathers c) (admit x (Err e)) (issued i) H w = elim w [ ]
  step ms (gathers c) (fits x b) u H w = (shared b (k.means c.rule) x ms H.least w.0, subst (Holds k ms) (sym w.1) H)
  step ms (gathers c) issue (gathers d) H w = elim w [ ]
  step ms (gathers c) issue (issued i) H w = (tt, stays ms (gathers c) (issued i) H w.rule w.count)
  step ms (issued i) (admit x r) u H w = elim w [ ]
  step ms (issued i) (fits x b) u H w = (shared b (k.means i.class.rule) x ms H.least w.0, subst (Holds k ms) (sym w.1) H)
  step ms (issued i) issue u H w = elim w [ ]

  run : (ms : List k.member) (s : State Thing) (calls : List (Call Thing)) (t : State Thing) → Holds k ms s → Run k s calls t → Answered k ms calls × Holds k (taken k ms calls) t
  run ms s [] t H e = (tt, subst (Holds k ms) (sym e) H)
  run ms s (a ∷ calls) t H w =
      let here = step ms s a w.0 H w.1 in
      let later = run (took k ms a) w.0 calls t here.1 w.2 in
      ((here.0, later.0), later.1)

  begins : (x : Thing) (c : Class Thing) → Begun k x c → Holds k (k.means x ∷ []) (gathers c)
  begins x c b = record {
    least = record { over = (b.rule.up, tt); below = λ l o. laws.through l (k.means x) (k.means c.rule) o.0 b.rule.down };
    tidy = b.rule.tidy;
    counted = b.count;
  }

  pub law : (x : Thing) (c : Class Thing) → Begun k x c → Law k x c
  law x c b calls s w = run (k.means x ∷ []) (gathers c) calls s (begins x c b) w
