-- What an answer of a read says of the definition.
use Rattle.std.proofs.Common.{◌≡◌, Ok, Err, Result, sym, ap}
use Rattle.number.proofs.Answers.{clash}
use Rattle.word.specs.Becomes.{Becomes}

pub became : {T X E : Type 0} (view : T → X) (R : Result X E) (before after : T) → Becomes view R before (Ok tt) after → R ≡ Ok (view after)
became view (Ok x) before after b = ap Ok (sym b.1)
became view (Err fault) before after b = absurd (clash fault tt (sym b.0))

pub stayed : {T X E : Type 0} (view : T → X) (R : Result X E) (before after : T) (fault : E) → Becomes view R before (Err fault) after → R ≡ Err fault
stayed view (Ok x) before after fault b = absurd (clash fault tt b.0)
stayed view (Err d) before after fault b = let h = b.0 in let e : fault ≡ d = cc in ap Err (sym e)
