use mathlib.Core.Path.{◌≡◌, sym, ap, ◌∙◌}
use mathlib.Core.Bool.{true, false}
use lib.ListN.{get_or, drop}
use lib.Seq.{get_or-drop}
use Rattle.types.specs.Values.{reference_order}
use Rattle.types.proofs.Words.{compared_less, compared_greater}
use Rattle.index_spec.specs.Runs.{Run, run}
use Rattle.index_spec.specs.Walk.{run_from}
use Rattle.index_runs.specs.Values.{as_run}
use Rattle.index_two_runs.proofs.Two.{after_none, after_next, touch_yes, touch_apart, touch_other}
use native.Mathlib.Omega.{arith}
use Rattle.index_two_runs.proofs.after_votes.Goals as goal

pub returns-then-left-eq0 : goal.returns-then-left-eq0
returns-then-left-eq0 c = c.new.ensures ∙ after_none
    (run_from (drop c.args.pos c.args.index.now))
    c.args.words.now c.args.at c.args.left
    (omega arith)

pub returns-then-index-pos : goal.returns-then-index-pos
unfolding run_from
returns-then-index-pos c = c.new-then-index-pos.ensures ∙ after_next
    (run_from (drop c.args.pos
    c.args.index.now))
    c.args.words.now c.args.at
    c.args.left (omega arith) false
    (touch_apart (run_from (drop c.args.pos
    c.args.index.now))
    (run_from (drop c.args.at
    c.args.words.now))
    (λ (e : get_or (drop c.args.pos
    c.args.index.now) 7 0 ≡ get_or
    (drop c.args.at
    c.args.words.now) 6 0). c.if-index-pos.true
    (sym (get_or-drop c.args.pos
    c.args.index.now 7 0) ∙ e ∙ get_or-drop
    c.args.at c.args.words.now 6 0)))

pub returns-in-Equal : goal.returns-in-Equal
unfolding run_from as_run run
returns-in-Equal c = ap (λ (r : Run). r.votes) c.read_run-y.ensures ∙ after_next
    (run_from (drop c.args.pos
    c.args.index.now))
    c.args.words.now
    c.args.at
    c.args.left (omega arith) true
    (touch_yes (run_from (drop c.args.pos
    c.args.index.now))
    (run_from (drop c.args.at
    c.args.words.now))
    (sym (λ i. reference_order (c.read_run-x.ensures i).reference
    (c.read_run-y.ensures i).reference) ∙ sym c.compare-order.ensures ∙ c.in-Equal.is) (get_or-drop c.args.pos
    c.args.index.now 7 0 ∙ c.if-index-pos.false ∙ sym
    (get_or-drop c.args.at
    c.args.words.now 6 0)))

pub returns-in-Less : goal.returns-in-Less
unfolding as_run run
returns-in-Less c = c.new-in-Less.ensures ∙ after_next
    (run_from (drop c.args.pos
    c.args.index.now))
    c.args.words.now
    c.args.at
    c.args.left (omega arith) false
    (touch_other (run_from (drop c.args.pos
    c.args.index.now))
    (run_from (drop c.args.at
    c.args.words.now))
    (compared_less (run_from (drop c.args.pos
    c.args.index.now)).reference
    (run_from (drop c.args.at
    c.args.words.now)).reference
    (sym (λ i. reference_order (c.read_run-x.ensures i).reference
    (c.read_run-y.ensures i).reference) ∙ sym c.compare-order.ensures ∙ c.in-Less.is)).0)

pub returns-in-Greater : goal.returns-in-Greater
unfolding as_run run
returns-in-Greater c = c.new-in-Greater.ensures ∙ after_next
    (run_from (drop c.args.pos
    c.args.index.now))
    c.args.words.now
    c.args.at
    c.args.left (omega arith) false
    (touch_other (run_from (drop c.args.pos
    c.args.index.now))
    (run_from (drop c.args.at
    c.args.words.now))
    (compared_greater (run_from (drop c.args.pos
    c.args.index.now)).reference
    (run_from (drop c.args.at
    c.args.words.now)).reference
    (sym (λ i. reference_order (c.read_run-x.ensures i).reference
    (c.read_run-y.ensures i).reference) ∙ sym c.compare-order.ensures ∙ c.in-Greater.is)).0)
