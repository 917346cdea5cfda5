-- Why a rule covers a mount, in words.
use Rattle.std.specs.Prelude.{◌≡◌, ℕ, zero, suc, List, [], ◌++◌, slice_index, slice_index_or, Some, None, Ok, Err, codes, decimal, Option, Result, ◌⊎◌}
use Rattle.clauses.specs.Clauses.{Covers, each}
use Rattle.record.specs.Clauses.{variables}
use Rattle.record.specs.declared.fault.RecordFault.{RecordFault}
use Rattle.subsume.specs.FirstChoices.{FirstChoice}
use Rattle.term.specs.Coding as coding
use Rattle.term.specs.Words.{var, Words, len}
use Rattle.witness.specs.Witness.{Witness}
use Rattle.listing.specs.RecordLines.{record_fault_line}
use Rattle.listing.specs.Shown.{shown, shown_clause}

-- the first n lines
unfoldable pub lines : (line : ℕ → List ℕ) → (n : ℕ) → List ℕ
lines line zero = []
lines line (suc n) = lines line n ++ line n

-- a variable of the rule: the word of the mount that meets it where it first stands, and the node where that word begins
abbrev pub variable_line : (mount : Words) → (list : List ℕ) → (x : ℕ) → List ℕ
variable_line mount list x =
    codes "X" ++ (decimal x ++ (codes " is " ++ (shown (coding.word_at (coding.codes mount) (slice_index list x)) ++ (codes " at node " ++ (decimal (slice_index list x) ++ codes "\n")))))

-- a literal of the rule, and the literal of the mount that it becomes
abbrev pub literal_line : (rule mount : Words) → (choice : List ℕ) → (i : ℕ) → List ℕ
literal_line rule mount choice i =
    shown (slice_index_or (each rule) i (var 0)) ++ (codes " becomes " ++ (shown (slice_index_or (each mount) (slice_index choice i) (var 0)) ++ codes "\n"))

-- a line for each variable and for each literal, under the first choice that works; or that there is none
abbrev pub Told : (rule mount : Words) → (text : List ℕ) → Type 0
Told rule mount text =
    ((Covers (each rule) (each mount) → ⊥) × (text ≡ codes "not covered\n"))
    ⊎ ((choice list : List ℕ) × FirstChoice (each rule) (each mount) choice × Witness rule mount list
    × (text ≡ codes "covered\n" ++ (lines (variable_line mount list) (variables rule) ++ lines (literal_line rule mount choice) (len rule))))

-- both clauses, and why the one covers the other
abbrev pub Explained : (rule mount : Words) → (text : List ℕ) → Type 0
Explained rule mount text =
    (told : List ℕ) × Told rule mount told
    × (text ≡ codes "rule " ++ (shown_clause rule ++ (codes "\nmount " ++ (shown_clause mount ++ (codes "\n" ++ told)))))

-- the same of two inputs, or the line of the first fault, and which of the two has it
abbrev pub ExplainedFrom : (rule mount : Result Words RecordFault) → (text : List ℕ) → (fault : Option RecordFault) → Type 0
ExplainedFrom (Err f) m text fault = (text ≡ codes "rule: " ++ record_fault_line f) × (fault ≡ Some f)
ExplainedFrom (Ok r) (Err f) text fault = (text ≡ codes "mount: " ++ record_fault_line f) × (fault ≡ Some f)
ExplainedFrom (Ok r) (Ok m) text fault = Explained r m text × (fault ≡ None)
