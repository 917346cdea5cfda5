use Rattle.std.proofs.Common.{◌≡◌, ℕ, ◌+◌, ◌-◌, ◌<◌, ◌≤◌, [], ◌∷◌, ◌++◌, length, take, Ok, Err, sym, refl, ap, ◌∙◌, arith}
use Rattle.std.proofs.lemmas.List.{take-append-le, length_push}
use Rattle.std.proofs.lemmas.Result.{err_from_is_err_and}
use Rattle.bounded.specs.Elems.{elems}
use Rattle.number.specs.Reads.{read_number}
use Rattle.word.specs.declared.fault.WordFault.TheVariants.{Number, Nodes}
use Rattle.word.specs.Reads.{node_at, read_words}
use Rattle.bounded.proofs.Rooms.{pushed_room}
use Rattle.word.proofs.Turns.{words-none, words-fault, words-full, words-refused, words_more, node-places, gives-fault, gives-read}
use Rattle.word.proofs.reading.read_each.Goals as goal

pub returns-in_err-value : goal.returns-in_err-value
returns-in_err-value g c =
    let input = c.args.input.now in
    let before = elems c.args.nodes.now in
    let held = elems c.loop-need.nodes in
    let at = c.loop-need.at in
    let fault = c.in_err-value.field-0.0 in
    let p = err_from_is_err_and c.from_residual.result c.from_residual.ensures.1 in
    let told : read_number input at ≡ Err fault = sym c.read.ensures.value ∙ c.in_err-value.was in
    let left = read_words c.loop-need.need (g.row.N - length held) c.loop-need.seen input at held in
    let all = read_words c.args.count (g.row.N - length before) c.args.seen input c.args.at before in
    record {
      value =
          gives-fault left all c.from_residual.result (Number fault) held c.loop-need.invariant.3
          (words-fault c.loop-need.need (g.row.N - length held) c.loop-need.seen input at held fault (omega arith) told)
          (p.1 ∙ ap Err p.2);
      kept = c.loop-need.invariant.1;
    }

pub returns-then-len : goal.returns-then-len
returns-then-len g c =
    let input = c.args.input.now in
    let before = elems c.args.nodes.now in
    let held = elems c.loop-need.nodes in
    let at = c.loop-need.at in
    let first : ℕ × ℕ = (c.in_ok-value.value, c.in_ok-value.next) in
    let told : read_number input at ≡ Ok first = sym c.read.ensures.value ∙ c.in_ok-value.was in
    let left = read_words c.loop-need.need (g.row.N - length held) c.loop-need.seen input at held in
    let all = read_words c.args.count (g.row.N - length before) c.args.seen input c.args.at before in
    record {
      value =
          gives-fault left all (Err (Nodes at)) (Nodes at) held c.loop-need.invariant.3
          (words-full c.loop-need.need (g.row.N - length held) c.loop-need.seen input at held first (omega arith) (omega arith) told)
          refl;
      kept = c.loop-need.invariant.1;
    }

pub returns-in_err-read : goal.returns-in_err-read
returns-in_err-read g c =
    let input = c.args.input.now in
    let before = elems c.args.nodes.now in
    let held = elems c.loop-need.nodes in
    let at = c.loop-need.at in
    let seen = c.loop-need.seen in
    let first : ℕ × ℕ = (c.in_ok-value.value, c.in_ok-value.next) in
    let fault = c.in_err-read.field-0.0 in
    let p = err_from_is_err_and c.from_residual-in_err-read.result c.from_residual-in_err-read.ensures.1 in
    let told : read_number input at ≡ Ok first = sym c.read.ensures.value ∙ c.in_ok-value.was in
    let refused : node_at seen input at first.0 first.1 ≡ Err fault = sym c.read_node.ensures ∙ c.in_err-read.was in
    let left = read_words c.loop-need.need (g.row.N - length held) seen input at held in
    let all = read_words c.args.count (g.row.N - length before) c.args.seen input c.args.at before in
    record {
      value =
          gives-fault left all c.from_residual-in_err-read.result fault held c.loop-need.invariant.3
          (words-refused c.loop-need.need (g.row.N - length held) seen input at held first fault (omega arith) (omega arith) told refused)
          (p.1 ∙ ap Err p.2);
      kept = c.loop-need.invariant.1;
    }

pub overflow_add-need : goal.overflow_add-need
overflow_add-need g c =
    let read = c.in_ok-read.read in
    let node : node_at c.loop-need.seen c.args.input.now c.loop-need.at c.in_ok-value.value c.in_ok-value.next ≡ Ok read = sym c.read_node.ensures ∙ c.in_ok-read.was in
    let few : read.places ≤ 8 = node-places c.loop-need.seen c.args.input.now c.loop-need.at c.in_ok-value.value c.in_ok-value.next read node in
    omega (arith, c.requires)

pub loop-need-preserved : goal.loop-need-preserved
loop-need-preserved g c =
    let input = c.args.input.now in
    let before = elems c.args.nodes.now in
    let held = elems c.loop-need.nodes in
    let at = c.loop-need.at in
    let seen = c.loop-need.seen in
    let first : ℕ × ℕ = (c.in_ok-value.value, c.in_ok-value.next) in
    let read = c.in_ok-read.read in
    let more = elems c.push.new.self in
    let room : length held < g.row.N = omega arith in
    let pushed : more ≡ held ++ read.node ∷ [] = pushed_room g.row.N read.node held c.push.result more c.push.ensures room in
    let longer : length more ≡ length held + 1 = ap length pushed ∙ length_push held read.node in
    let told : read_number input at ≡ Ok first = sym c.read.ensures.value ∙ c.in_ok-value.was in
    let node : node_at seen input at first.0 first.1 ≡ Ok read = sym c.read_node.ensures ∙ c.in_ok-read.was in
    let few : read.places ≤ 8 = node-places seen input at first.0 first.1 read node in
    let front : take (length before) (held ++ read.node ∷ []) ≡ before = take-append-le (length before) held (read.node ∷ []) (omega arith) ∙ c.loop-need.invariant.1 in
    let left : g.row.N - length more ≡ g.row.N - length held - 1 = omega arith in
    let step = words_more c.loop-need.need (g.row.N - length held) seen input at held first read (omega arith) (omega arith) told node in
    let inv = c.loop-need.invariant.3 in
    (omega arith, ap (take (length before)) pushed ∙ front, omega arith, cc)

pub returns : goal.returns
returns g c =
    let input = c.args.input.now in
    let before = elems c.args.nodes.now in
    let held = elems c.loop-need.nodes in
    let left = read_words c.loop-need.need (g.row.N - length held) c.loop-need.seen input c.loop-need.at held in
    let all = read_words c.args.count (g.row.N - length before) c.args.seen input c.args.at before in
    record {
      value =
          gives-read left all c.loop-need.at c.loop-need.seen held c.loop-need.invariant.3
          (words-none c.loop-need.need (g.row.N - length held) c.loop-need.seen input c.loop-need.at held (omega arith));
      kept = c.loop-need.invariant.1;
    }
