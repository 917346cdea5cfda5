-- A literal stays one over other words.
use Rattle.std.proofs.Common.{ℕ}
use Rattle.term.specs.Words.{Word, var, app, Words, sub, subs}
use Rattle.term.specs.declared.node.Symbol.{Symbol}
use Rattle.term.specs.declared.node.Symbol.TheVariants.{Function, Positive, Negative}
use Rattle.clauses.specs.Clauses.{Literal}

pub literal-over : (s : Symbol) (us vs : Words) → Literal (app s us) → Literal (app s vs)
literal-over (Function f) us vs h = absurd h
literal-over (Positive p) us vs h = tt
literal-over (Negative p) us vs h = tt

pub literal-sub : (θ : ℕ → Word) (l : Word) → Literal l → Literal (sub θ l)
literal-sub θ (var x) h = absurd h
literal-sub θ (app s us) h = literal-over s us (subs θ us) h
