-- A witness of covering: for each variable of a rule, the node of a mount where it is met.
use Rattle.std.specs.Prelude.{◌≡◌, ℕ, ◌+◌, ◌<◌, ◌≤◌, List, [], ◌∷◌, ◌++◌, length, take, drop, slice_index, slice_index_or, Some, None, Option, Ok, Err, Result, ◌==◌}
use Rattle.std.specs.List.{find, zip, flat_map}
use Rattle.clauses.specs.Clauses.{Covers, each}
use Rattle.clauses.specs.Beginnings.{begins}
use Rattle.record.specs.Clauses.{variables}
use Rattle.subsume.specs.FirstChoices.{FirstChoice}
use Rattle.term.specs.Words.{Word, var, app, Words, nil, cons, size}
use Rattle.witness.specs.declared.witnesses.TooFewEntries.{TooFewEntries}

-- where the variables of a word are met in a word whose nodes begin at `at`, in written order: each with the node there
abbrev mutual
  pub met : Word → Word → (at : ℕ) → List (ℕ × ℕ)
  met (var x) w at = (x, at) ∷ []
  met (app s us) (var y) at = []
  met (app s us) (app t ws) at = mets us ws (at + 1)

  pub mets : Words → Words → (at : ℕ) → List (ℕ × ℕ)
  mets nil ws at = []
  mets (cons u us) nil at = []
  mets (cons u us) (cons w ws) at = met u w at ++ mets us ws (at + size w)

-- the same of a rule's literals, each in the literal of the mount that is chosen for it
abbrev pub meetings : (rule : List Word) → (mount : Words) → (choice : List ℕ) → List (ℕ × ℕ)
meetings rule mount choice = flat_map (λ p. met p.0 (slice_index_or (each mount) p.1 (var 0)) (slice_index (begins 0 mount) p.1)) (zip rule choice)

-- for each variable of the rule, under the first choice, the node of the mount that meets the variable where it first stands
abbrev pub Witness : (rule mount : Words) → (list : List ℕ) → Type 0
Witness rule mount list =
    (choice : List ℕ) × FirstChoice (each rule) (each mount) choice
    × (length list ≡ variables rule)
    × ((x : ℕ) → x < variables rule → find (λ p. p.0 == x) (meetings (each rule) mount choice) ≡ Some (x, slice_index list x))

-- an answer of `witness`, and what the list then holds: refused, where it has not an entry for each variable; none, where the
-- rule does not cover the mount; or the count of variables, whose entries come first and are a witness
abbrev pub Witnessed : (rule mount : Words) → (before : List ℕ) → Result (Option ℕ) TooFewEntries → (after : List ℕ) → Type 0
Witnessed rule mount before (Err _) after = (length before < variables rule) × (after ≡ before)
Witnessed rule mount before (Ok None) after = (variables rule ≤ length before) × ¬ Covers (each rule) (each mount) × (after ≡ before)
Witnessed rule mount before (Ok (Some n)) after = (n ≡ variables rule) × Witness rule mount (take n after) × (drop n after ≡ drop n before) × (length after ≡ length before)

-- the number of the refusal: has the list an entry for each variable of the rule?
abbrev pub too_few_entries : ℕ
too_few_entries = 12
