-- The lines of a session while they are put: what was put so far, and how much may still come.
use Rattle.std.proofs.Common.{◌≡◌, ℕ, ◌+◌, ◌-◌, ◌*◌, ◌<◌, ◌≤◌, List, [], ◌∷◌, ◌++◌, length, None, Ok, Err, Option, sym, refl, ap, ◌∙◌, subst, append_assoc, append-nil, le-leb, arith}
use Rattle.std.specs.List.{between, flat_map}
use Rattle.std.proofs.lemmas.Grind.{flat_map-append}
use Rattle.std.proofs.lemmas.List.Edits.{length-between}
use Rattle.class.specs.declared.classes.Class.{Class}
use Rattle.entries.specs.Entries.{entry_at}
use Rattle.entries.proofs.Bounds.{EntryBy, entry_by}
use Rattle.number.specs.Faults.{told}
use Rattle.number.specs.Writes.{Wrote}
use Rattle.number.specs.declared.fault.NumberFault.{NumberFault}
use Rattle.record.specs.Reads.{read_record}
use Rattle.record.specs.declared.clause.Record.{Record}
use Rattle.session.specs.Answers.{Written}
use Rattle.session.specs.Goings.{Goes, Lined}
use Rattle.session.specs.Lines.{line_text, rule_line}
use Rattle.session.specs.Sessions.{Met, in_hand, Turn, Entries, Gives}
use Rattle.session.specs.declared.lines.Line.{Line}
use Rattle.session.specs.declared.lines.Line.TheVariants.{Bad}
use Rattle.session.proofs.Entered.{entries-none, entries-more, entries-fault}
use Rattle.session.proofs.Lengths.{short-turn, short-fault, rule-short}
use Rattle.session.proofs.Writings.{wrote-none, length-wrote, wrote-next}

-- between two entries: the lines so far, what is in hand, and what the others lead to
pub record Underway (input : List ℕ) (at : ℕ) (class : Option (Class Record)) (before : List ℕ) (to : ℕ) (out : List ℕ) : Type 0 where
  pub lines : List Line
  pub met : Option Met
  pub hand : in_hand met ≡ class
  pub turns : ℕ
  pub left : length input - at ≤ turns
  pub goes : (more : List Line) (last : Option Met) → Entries turns input at met more last → Gives input (lines ++ more) last
  pub wrote : Wrote (flat_map line_text lines) 0 before (Ok to) out
  pub room : to + 14 * (length input - at) ≤ 57344

-- before the first entry
pub underway : (input before : List ℕ) → length input ≤ 4096 → Underway input 0 None before 0 before
underway input before short = record {
  lines = [];
  met = None;
  hand = refl;
  turns = length input;
  left = omega arith;
  goes = λ more last e. e;
  wrote = wrote-none 0 before (omega arith);
  room = omega arith;
}

-- one line more
line-more : (lines : List Line) (line : Line) → flat_map line_text lines ++ line_text line ≡ flat_map line_text (lines ++ line ∷ [])
line-more lines line = sym (flat_map-append line_text lines (line ∷ []) ∙ ap (λ (l : List ℕ). flat_map line_text lines ++ l) (append-nil (line_text line)))

wrote-more : (lines : List Line) (line : Line) (before : List ℕ) (to : ℕ) (out : List ℕ) → Wrote (flat_map line_text lines) 0 before (Ok to) out
    → (end : ℕ) (after : List ℕ) → Wrote (line_text line) to out (Ok end) after → Wrote (flat_map line_text (lines ++ line ∷ [])) 0 before (Ok end) after
wrote-more lines line before to out w end after v =
    subst (λ (l : List ℕ). Wrote l 0 before (Ok end) after) (line-more lines line) (wrote-next (flat_map line_text lines) 0 to before out w (line_text line) end after v)

module _ (input : List ℕ) (at : ℕ) (class : Option (Class Record)) (before : List ℕ) (to : ℕ) (out : List ℕ) (U : Underway input at class before to out) (short : length input ≤ 4096) where
  -- an entry, and then the next one
  module _ (h : at < length input) (start end : ℕ) (is : entry_at input at ≡ Ok (start, end)) (line : Line) (after : Option (Class Record))
      (goes : Goes class (λ l m. Turn start (read_record (between start end input)) l line m) after) where
    inside : EntryBy input at (Ok (start, end))
    inside = subst (EntryBy input at) is (entry_by input at)

    pub line-short : length (line_text line) ≤ 14
    line-short =
        let g = goes U.met U.hand in
        let bytes = between start end input in
        short-turn start bytes U.met line g.0 (omega (arith, inside.0, inside.1, inside.2, length-between input start end inside.2)) g.2

    pub line-fits : 61440 ≤ length before → to + length (line_text line) ≤ length out
    line-fits room = omega (arith, U.room, line-short, length-wrote (flat_map line_text U.lines) 0 to before out U.wrote)

    pub underway-more : (next : ℕ) (put : List ℕ) → Wrote (line_text line) to out (Ok next) put → Underway input end after before next put
    underway-more next put w =
        let g = goes U.met U.hand in
        record {
          lines = U.lines ++ line ∷ [];
          met = g.0;
          hand = g.1;
          turns = U.turns - 1;
          left = omega (arith, inside.0, inside.1, U.left);
          goes = λ more last e.
              subst (λ (l : List Line). Gives input l last) (sym (append_assoc U.lines (line ∷ []) more))
              (U.goes (line ∷ more) last (entries-more U.turns input at U.met h U.left start end is line g.0 g.2 more last e));
          wrote = wrote-more U.lines line before to out U.wrote next put w;
          room = omega (arith, U.room, w.0, line-short, inside.0, inside.1);
        }

  -- the fault of a length
  module _ (h : at < length input) (fault : NumberFault) (is : entry_at input at ≡ Err fault) (question byte : ℕ) (q : question ≡ (told fault).0) (b : byte ≡ (told fault).1) where
    pub fault-short : length (line_text (Bad question byte)) ≤ 14
    fault-short =
        let by : (told fault).1 ≤ length input = subst (EntryBy input at) is (entry_by input at) in
        short-fault fault question byte q (omega arith)

    pub fault-fits : 61440 ≤ length before → to + length (line_text (Bad question byte)) ≤ length out
    fault-fits room = omega (arith, U.room, fault-short, length-wrote (flat_map line_text U.lines) 0 to before out U.wrote)

    pub lined-fault : (next : ℕ) (put : List ℕ) → Wrote (line_text (Bad question byte)) to out (Ok next) put → Lined input class before next put
    lined-fault next put w = record {
      lines = U.lines ++ Bad question byte ∷ [];
      met = U.met;
      hand = U.hand;
      told = U.goes (Bad question byte ∷ []) U.met (entries-fault U.turns input at U.met h U.left fault is question byte q b);
      wrote = wrote-more U.lines (Bad question byte) before to out U.wrote next put w;
      room = omega (arith, U.room, w.0, fault-short);
    }

  -- the end of the input
  pub lined : length input ≤ at → Lined input class before to out
  lined h = record {
    lines = U.lines;
    met = U.met;
    hand = U.hand;
    told = subst (λ (l : List Line). Gives input l U.met) (append-nil U.lines) (U.goes [] U.met (entries-none U.turns input at U.met h));
    wrote = U.wrote;
    room = omega (arith, U.room);
  }

module _ (input : List ℕ) (class : Option (Class Record)) (before : List ℕ) (to : ℕ) (out : List ℕ) (L : Lined input class before to out) where
  pub rule-fits : 61440 ≤ length before → to + length (rule_line class) ≤ length out
  rule-fits room = omega (arith, L.room, rule-short class, length-wrote (flat_map line_text L.lines) 0 to before out L.wrote)

  -- the rule after the lines
  pub written : length input ≤ 4096 → (end : ℕ) (after : List ℕ) → Wrote (rule_line class) to out (Ok end) after → Written input before end after
  written short end after w =
      let text = flat_map line_text L.lines ++ rule_line class in
      let last = ap (λ (c : Option (Class Record)). flat_map line_text L.lines ++ rule_line c) (sym L.hand) in
      (text, rw (le-leb (length input) 4096 short) (L.lines, L.met, L.told, last), wrote-next (flat_map line_text L.lines) 0 to before out L.wrote (rule_line class) end after w)
