-- What a record means.
use Rattle.std.specs.Prelude.{List}
use Rattle.bounded.specs.Elems.{elems}
use Rattle.clauses.specs.Clauses.{each}
use Rattle.term.specs.Coding.{decode}
use Rattle.term.specs.Words.{Word, Words}
use Rattle.record.specs.declared.clause.Record.{Record}

-- its literals in order
abbrev pub literals : Record → Words
literals r = decode (elems r.nodes)

-- the same as a list, which is read as a set
abbrev pub clause : Record → List Word
clause r = each (literals r)
