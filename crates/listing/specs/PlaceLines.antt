-- The listing of a place word.
use Rattle.std.specs.Prelude.{ℕ, List, None, Option, Result}
use Rattle.term.specs.declared.node.Node.{Node}
use Rattle.term.specs.Coding.{hd, decode}
use Rattle.word.specs.declared.fault.Layer.{Layer}
use Rattle.place.specs.declared.fault.PlaceFault.{PlaceFault}
use Rattle.place.specs.Faults.{told, sentence}
use Rattle.listing.specs.FaultLines.{layered_line, told_of}
use Rattle.listing.specs.Shown.{shown}

-- what a fault tells: no literal is in hand
abbrev pub place_told : PlaceFault → ℕ × ℕ × Option ℕ × List Layer
place_told fault = ((told fault).0, (told fault).1, None, (told fault).2)

abbrev pub place_fault_line : PlaceFault → List ℕ
place_fault_line fault = layered_line (place_told fault) (sentence fault)

-- the text, and the fault, if there is one
unfoldable pub place_listed : Result (List Node) PlaceFault → List ℕ × Option PlaceFault
place_listed r = told_of (λ nodes. shown (hd (decode nodes))) place_fault_line r
