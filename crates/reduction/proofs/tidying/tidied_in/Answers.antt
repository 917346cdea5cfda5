use Rattle.std.proofs.Common.{◌≡◌, ℕ, ◌<◌, length, All, refl, sym, ap, ◌∙◌, subst, arith, rules}
use Rattle.std.proofs.lemmas.List.{length-map}
use Rattle.std.proofs.lemmas.List.Elements.{All-nil}
use Rattle.bounded.specs.Elems.{elems}
use Rattle.clauses.specs.Clauses.{literals_at}
use Rattle.subsume.specs.Choices.{picked}
use Rattle.term.specs.Coding.{word_at}
use Rattle.reduction.specs.Tidyings.{kept, Taken}
use Rattle.reduction.proofs.Ends.{begun, begun-image, ended}
use Rattle.reduction.proofs.tidying.tidied_in.Goals as goal

pub pass-requires : goal.pass-requires
pass-requires g c =
    let a = c.args.clause in
    let N = a.nodes.now in
    let C = literals_at N a.starts.now in
    let held = c.new-2.result.words in
    let gone = c.new-3.result.words in
    let none = ap (literals_at N) c.new.ensures in
    let one = c.link-whole.ensures.0 in
    let same = c.link-whole.ensures.1 ∙ c.new-words.ensures in (
      search rules,
      (
        search rules,
        (
          search rules,
          (
            ap (λ v. v.nodes.now) (one ∙ sym same),
            (
              (one ∙ sym same, refl),
              (
                (rw same c.requires.variables, omega (arith, c.requires.small.1)),
                (
                  rw same (subst (All (λ s. s < length N)) (sym c.new.ensures) (All-nil (λ s. s < length N))),
                  rw (same, one) (record {
                    progress = begun C held gone (literals_at N (elems c.new.result)) none c.new-2.ensures c.new-3.ensures;
                    image = begun-image C held gone (literals_at N (elems c.new.result)) none c.new-3.ensures c.all_of-all.result.words
                        (λ j h. c.all_of-all.ensures j (omega (arith, length-map a.starts.now (word_at N), h, c.len.ensures)));
                  }),
                ),
              ),
            ),
          ),
        ),
      ),
    )

pub returns-in-Whole : goal.returns-in-Whole
returns-in-Whole g c =
    let a = c.args.clause in
    let C = literals_at a.nodes.now a.starts.now in
    let d = c.pass.new.decided in
    let same = c.link-whole.ensures.1 ∙ c.new-words.ensures in
    (ended C d.held.words d.gone.words (kept a.nodes.now d) (rw same at c.in-Whole.ensures.passed), rw same at c.in-Whole.ensures.inside)

pub loop-next-init : goal.loop-next-init
loop-next-init g c =
    let a = c.args.clause in
    let N = a.nodes.now in
    let S = a.starts.now in
    let C = literals_at N S in
    let same = c.link-whole.ensures.1 ∙ c.new-words.ensures in
    let passed = rw (same, c.link-whole.ensures.0) at c.in-Shrunk.ensures.passed in
    let mapped = c.targets-image.result.1.words in
    let J = literals_at N (elems c.targets-image.result.0) in
    let count : c.len-2.result ≡ length C = c.len-2.ensures ∙ sym (length-map S (word_at N)) in
    record {
      inside = rw same at c.in-Shrunk.ensures.inside;
      begun = c.targets-image.ensures.inside;
      standing = record {
        progress = passed.2;
        image = passed.3 mapped J (subst (λ (n : ℕ). Taken C n (picked c.in-Shrunk.picks) mapped J) count c.targets-image.ensures.taken);
      };
    }

pub returns-in-Whole-pass : goal.returns-in-Whole-pass
returns-in-Whole-pass g c =
    let a = c.args.clause in
    let C = literals_at a.nodes.now a.starts.now in
    let d = c.pass-in-loop-next.new.decided in
    let same = c.link-table.ensures.1 ∙ c.new-words.ensures in
    (ended C d.held.words d.gone.words (kept a.nodes.now d) (rw same at c.in-Whole-pass.ensures.passed), rw same at c.in-Whole-pass.ensures.inside)

pub loop-next-preserved : goal.loop-next-preserved
loop-next-preserved g c =
    let a = c.args.clause in
    let N = a.nodes.now in
    let C = literals_at N a.starts.now in
    let same = c.link-table.ensures.1 ∙ c.new-words.ensures in
    let passed = rw (same, c.link-table.ensures.0) at c.in-Shrunk-pass.ensures.passed in
    let mapped = c.targets.result.1.words in
    let J = literals_at N (elems c.targets.result.0) in
    let count : c.len-in-Shrunk-pass.result ≡ length (literals_at N c.as_slice.result.now) =
    c.len-in-Shrunk-pass.ensures.value ∙ sym (length-map c.as_slice.result.now (word_at N) ∙ ap length c.as_slice.ensures.value) in
    record {
      inside = rw same at c.in-Shrunk-pass.ensures.inside;
      begun = c.targets.ensures.inside;
      standing = record {
        progress = passed.2;
        image = passed.3 mapped J (subst (λ (n : ℕ). Taken C n (picked c.in-Shrunk-pass.picks) mapped J) count c.targets.ensures.taken);
      };
    }
