-- The equality of symbols and of nodes decides whether two are the same.
use Rattle.std.proofs.Common.{◌≡◌, Decides, ap, ap₂}
use Rattle.std.proofs.lemmas.Bool.Decides.{Decides-and, Decides-eqb}
use Rattle.term.specs.declared.node.Symbol.{Symbol}
use Rattle.term.specs.declared.node.Symbol.TheVariants.{Function, Positive, Negative}
use Rattle.term.specs.declared.node.Node.{Node}
use Rattle.term.specs.declared.node.Node.TheVariants.{Variable, Applied}
use Rattle.term.specs.contracts.node.SymbolPartialEq.TheImpl.{eq-value as same_symbol}
use Rattle.term.specs.contracts.node.NodePartialEq.TheImpl.{eq-value as same_node}

pub same_symbol-Decides : (s t : Symbol) → Decides (same_symbol.it s t) (s ≡ t)
same_symbol-Decides (Function f) (Function g) = let d = Decides-eqb f g in (λ e. ap Function (d.0 e), λ e. d.1 (cc))
same_symbol-Decides (Positive p) (Positive q) = let d = Decides-eqb p q in (λ e. ap Positive (d.0 e), λ e. d.1 (cc))
same_symbol-Decides (Negative p) (Negative q) = let d = Decides-eqb p q in (λ e. ap Negative (d.0 e), λ e. d.1 (cc))
same_symbol-Decides s t = (λ e. cc, λ e. cc)

pub same_node-Decides : (x y : Node) → Decides (same_node.it x y) (x ≡ y)
same_node-Decides (Variable x) (Variable y) = let d = Decides-eqb x y in (λ e. ap Variable (d.0 e), λ e. d.1 (cc))
same_node-Decides (Applied s k) (Applied t l) =
    let d = Decides-and _ _ (same_symbol-Decides s t) (Decides-eqb k l) in
    (λ e. ap₂ Applied (d.0 e).0 (d.0 e).1, λ e. d.1 (cc, cc))
same_node-Decides x y = (λ e. cc, λ e. cc)

-- what the two equalities tell, as `equality_is_exact` promises it
abbrev pub SymbolsExact : Type 0
SymbolsExact = (s t : Symbol) → Decides (same_symbol.it s t) (s ≡ t)

abbrev pub NodesExact : Type 0
NodesExact = (x y : Node) → Decides (same_node.it x y) (x ≡ y)
