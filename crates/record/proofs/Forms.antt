-- Reading and writing the packed form of records.
use Rattle.std.proofs.Common.{◌≡◌, ℕ, zero, suc, ◌+◌, ◌-◌, ◌<◌, ◌≤◌, List, ◌++◌, length, get_or, take, drop, Ok, Err, Result, sym, refl, ap, ◌∙◌, subst, ap₂, append_assoc, arith, length-append}
use Rattle.std.specs.List.{between}
use Rattle.std.proofs.lemmas.List.Edits.{between_none}
use Rattle.std.proofs.lemmas.List.{take_all, drop_at, length-drop, length-take-le}
use Rattle.std.proofs.lemmas.Bool.{lt-ltb, le-ltb, le-leb, lt-leb}
use Rattle.number.specs.declared.fault.NumberFault.{NumberFault}
use Rattle.number.specs.declared.fault.NoRoom.{NoRoom}
use Rattle.number.specs.Forms.{form}
use Rattle.number.specs.Reads.{read_number}
use Rattle.number.specs.Writes.{Wrote}
use Rattle.number.proofs.Exact.{number-stands}
use Rattle.number.proofs.Answers.{clash, ok_same}
use Rattle.term.specs.Coding.{code, codes}
use Rattle.term.specs.Words.{Words, nil, cons, ◌+++◌, len}
use Rattle.term.proofs.Codings.{all_words}
use Rattle.word.specs.Packed.{packed}
use Rattle.word.proofs.Laws.{packed_none, packed-append, between_join}
use Rattle.word.proofs.Puts.{wrote-puts}
use Rattle.word.proofs.Turns.{then-made}
use Rattle.record.specs.declared.clause.Record.{Record}
use Rattle.record.specs.declared.fault.RecordFault.{RecordFault}
use Rattle.record.specs.declared.fault.RecordFault.TheVariants.{Number, Literals, Left}
use Rattle.record.specs.Records.{literals}
use Rattle.record.specs.Reads.{read_literal, in_literal, read_literals, Builds, read_record, clause_form, Reads, Exactly}
use Rattle.record.specs.Held.{held}
use Rattle.record.proofs.Literals.{literal-added}
use Rattle.clauses.proofs.Beginnings.{push-more}
use Rattle.record.proofs.Back.{reads-back}

-- so many literals stand from `at` to `to`
record Stand (count : ℕ) (before : Words) (input : List ℕ) (at : ℕ) (ls : Words) (to : ℕ) : Type 0 where
  more : Words
  all : ls ≡ before +++ more
  many : len more ≡ count
  forward : at ≤ to
  inside : at ≤ length input → to ≤ length input
  bytes : between at to input ≡ packed (codes more)

module _ (input : List ℕ) (bytes : (i : ℕ) → get_or input i 0 < 256) where
  -- what is read stands there
  stand : (count : ℕ) (before : Words) (at : ℕ) (q : Words × ℕ) → read_literals count before input at ≡ Ok q → Stand count before input at q.0 q.1
  unfolding read_literals
  stand zero before at q e =
      subst (λ (x : Words × ℕ). Stand 0 before input at x.0 x.1) (ok_same (before, at) q e)
      (record { more = nil; all = sym (all_words before); many = refl; forward = omega arith; inside = λ h. h; bytes = between_none input at ∙ sym packed_none })
  stand (suc count) before at q e =
      let p = then-made (in_literal (len before)) (read_literal before input at) _ q e in
      let l = p.0.0 in
      let one = literal-added before input at bytes p.0 p.1 in
      let rest = stand count (before +++ cons l nil) p.0.1 q p.2 in
      record {
        more = cons l rest.more;
        all = rest.all ∙ push-more before l rest.more;
        many = ap suc rest.many;
        forward = omega (arith, one.forward, rest.forward);
        inside = λ _. rest.inside one.inside;
        bytes =
            between_join input at p.0.1 q.1 one.forward rest.forward
            ∙ ap₂ ◌++◌ one.bytes rest.bytes
            ∙ sym (packed-append (code l) (codes rest.more));
      }

  -- the questions of the whole, one after the other
  read-fault : (fault : NumberFault) → read_number input 0 ≡ Err fault → read_record input ≡ Err (Number fault)
  unfolding read_record
  read-fault fault e = rw e

  module _ (count next : ℕ) (number : read_number input 0 ≡ Ok (count, next)) where
    read-many : 16 < count → read_record input ≡ Err (Literals 0)
    unfolding read_record
    read-many h = rw (number, lt-leb count 16 h)

    read-stopped : (fault : RecordFault) → count ≤ 16 → read_literals count nil input next ≡ Err fault → read_record input ≡ Err fault
    unfolding read_record
    read-stopped fault h e = rw (number, le-leb count 16 h, e)

    read_left : (ls : Words) (end : ℕ) → count ≤ 16 → read_literals count nil input next ≡ Ok (ls, end) → end < length input → read_record input ≡ Err (Left end)
    unfolding read_record
    read_left ls end h e g = rw (number, le-leb count 16 h, e, lt-ltb end (length input) g)

    read_all : (ls : Words) (end : ℕ) → count ≤ 16 → read_literals count nil input next ≡ Ok (ls, end) → length input ≤ end → read_record input ≡ Ok ls
    unfolding read_record
    read_all ls end h e g = rw (number, le-leb count 16 h, e, le-ltb end (length input) g)

    -- what is read to the end is the form of the literals read
    form-read : (ls : Words) (end : ℕ) → read_literals count nil input next ≡ Ok (ls, end) → length input ≤ end → clause_form ls ≡ input
    form-read ls end e h =
        let n = number-stands input 0 bytes (count, next) number in
        let s = stand count nil next (ls, end) e in
        ap₂ (λ (k : ℕ) (ms : Words). form k ++ packed (codes ms)) (ap len s.all ∙ s.many) s.all
        ∙ sym (ap₂ ◌++◌ n.3 s.bytes)
        ∙ sym (between_join input 0 next end (omega arith) s.forward)
        ∙ take_all (end - 0) input (omega (arith, h))

-- the answers of a read
pub record Answer (input : List ℕ) (before : Record) (r : Result (Unit {0}) RecordFault) (after : Record) : Type 0 where
  pub value : Reads (read_record input) before r after
  pub exact : Exactly input r after

refused : (input : List ℕ) (before : Record) (fault : RecordFault) → read_record input ≡ Err fault → Answer input before (Err fault) before
refused input before fault e = record {
  value = subst (λ (R : Result Words RecordFault). Reads R before (Err fault) before) (sym e) (refl, refl);
  exact = λ ls c f. clash fault ls (sym e ∙ ap read_record (sym f) ∙ reads-back ls c);
}

-- what an answer says of the definition
built : (R : Result (Words × ℕ) RecordFault) (r : Record) (end : ℕ) → Builds R (Ok end) r → R ≡ Ok (literals r, end)
built (Ok p) r end b = λ i. Ok (sym b.0 i, sym b.1 i)
built (Err fault) r end b = absurd b

unbuilt : (R : Result (Words × ℕ) RecordFault) (fault : RecordFault) (r : Record) → Builds R (Err fault) r → R ≡ Err fault
unbuilt (Ok p) fault r b = absurd b
unbuilt (Err d) fault r b = ap Err (sym b)

module _ (input : List ℕ) (bytes : (i : ℕ) → get_or input i 0 < 256) (before : Record) where
  pub answer-number : (fault : NumberFault) → read_number input 0 ≡ Err fault → Answer input before (Err (Number fault)) before
  answer-number fault e = refused input before (Number fault) (read-fault input bytes fault e)

  module _ (count next : ℕ) (number : read_number input 0 ≡ Ok (count, next)) where
    pub answer-many : 16 < count → Answer input before (Err (Literals 0)) before
    answer-many h = refused input before (Literals 0) (read-many input bytes count next number h)

    pub answer-refused : (fault : RecordFault) (r : Record) → count ≤ 16 → Builds (read_literals count nil input next) (Err fault) r → Answer input before (Err fault) before
    answer-refused fault r h b = refused input before fault (read-stopped input bytes count next number fault h (unbuilt (read_literals count nil input next) fault r b))

    pub answer-left : (r : Record) (end : ℕ) → count ≤ 16 → Builds (read_literals count nil input next) (Ok end) r → end < length input → Answer input before (Err (Left end)) before
    answer-left r end h b g = refused input before (Left end) (read_left input bytes count next number (literals r) end h (built (read_literals count nil input next) r end b) g)

    pub answer-read : (r : Record) (end : ℕ) → count ≤ 16 → Builds (read_literals count nil input next) (Ok end) r → length input ≤ end → Answer input before (Ok tt) r
    answer-read r end h b g =
        let e = built (read_literals count nil input next) r end b in
        record {
          value = subst (λ (R : Result Words RecordFault). Reads R before (Ok tt) r) (sym (read_all input bytes count next number (literals r) end h e g)) (refl, refl);
          exact = (held r, form-read input bytes count next number (literals r) end e g);
        }

-- bytes written after a number that was left out, and then the number
module _ (count : ℕ) (others before mid : List ℕ) (at : ℕ) (start : at ≡ length (form count)) where
  long : length (form count ++ others) ≡ at + length others
  long = length-append (form count) others ∙ ap (λ (n : ℕ). n + length others) (sym start)

  pub no_room : (e : NoRoom) → Wrote others at before (Err e) mid → Wrote (form count ++ others) 0 before (Err e) mid
  no_room e w = (omega (arith, w.0, long), w.1)

  pub both-wrote : (end : ℕ) → Wrote others at before (Ok end) mid → (r : Result ℕ NoRoom) (after : List ℕ) → Wrote (form count) 0 mid r after → Wrote (form count ++ others) 0 before (Ok end) after
  both-wrote end w r after v =
      let first = form count in
      let size : length (take at before) ≡ at = length-take-le at before (omega (arith, w.0, w.1)) in
      let same : length mid ≡ length before =
      ap length w.2 ∙ length-append (take at before) (others ++ drop end before) ∙ omega (arith, size, length-append others (drop end before), length-drop end before, w.0, w.1) in
      let fits : 0 + length first ≤ length mid = omega (arith, w.0, w.1) in
      let begins : 0 + length first ≡ at = omega arith in
      let put = (wrote-puts (form count) 0 mid r after v fits).1 in
      let rest : drop (0 + length first) mid ≡ others ++ drop end before =
      ap₂ drop begins w.2 ∙ drop_at (take at before) (others ++ drop end before) at size in
      (omega (arith, w.0, long), w.1, put ∙ ap (λ (l : List ℕ). first ++ l) rest ∙ sym (append_assoc first others (drop end before)))
