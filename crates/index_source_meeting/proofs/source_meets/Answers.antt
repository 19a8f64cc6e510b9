use mathlib.Core.Path.{sym, subst}
use lib.ListN.{drop}
use Prim.Native.Nat.{◌+◌, ◌-◌}
use Rattle.committee_set.specs.AuthoritySet.{AuthoritySet, nobody}
use Rattle.index_spec.specs.Runs.{Run}
use Rattle.index_spec.specs.Walk.{Past, run_from, runs_from}
use Rattle.index_runs.specs.Values.{as_run}
use Rattle.index_source_meeting.specs.Source.{MetBy, SourceMet}
use Rattle.index_source_meeting.proofs.One.{votes_read, cursor_none, cursor_same, cursor_past}
use native.Mathlib.Omega.{arith}
use Rattle.index_source_meeting.proofs.source_meets.Goals as goal

pub returns-then-left-eq0 : goal.returns-then-left-eq0
unfolding SourceMet
returns-then-left-eq0 c = (
  c.requires.1,
  λ h k.
      subst (λ (v : AuthoritySet). MetBy
      (run_from (drop c.args.pos c.args.index.now))
      (runs_from c.args.left
      (drop c.args.at c.args.words.now))
      (runs_from c.args.left
      (drop c.args.at c.args.words.now)) v c.new-then-left-eq0.result)
      (sym c.new.ensures)
      (subst (MetBy (run_from (drop c.args.pos c.args.index.now))
      (runs_from c.args.left
      (drop c.args.at c.args.words.now))
      (runs_from c.args.left
      (drop c.args.at c.args.words.now)) nobody)
      (sym c.new-then-left-eq0.ensures)
      (cursor_none (run_from (drop c.args.pos c.args.index.now)) h
      c.args.words.now c.args.at
      c.args.left (omega arith))),
)

pub returns-then-same_offsets : goal.returns-then-same_offsets
unfolding SourceMet
returns-then-same_offsets c = (
  omega arith,
  λ h k.
      subst (λ (v : AuthoritySet). MetBy
      (run_from (drop c.args.pos
      c.args.index.now))
      (runs_from c.args.left
      (drop c.args.at
      c.args.words.now))
      (runs_from (c.args.left - 1)
      (drop (c.args.at + 10)
      c.args.words.now)) v c.after_votes-after.result)
      (sym (votes_read c.args.words.now
      c.args.at))
      (subst (MetBy (run_from (drop c.args.pos
      c.args.index.now))
      (runs_from c.args.left
      (drop c.args.at
      c.args.words.now))
      (runs_from (c.args.left - 1)
      (drop (c.args.at + 10)
      c.args.words.now))
      (run_from (drop c.args.at
      c.args.words.now)).votes) (sym c.after_votes-after.ensures)
      (cursor_same (run_from (drop c.args.pos
      c.args.index.now)) h
      c.args.words.now
      c.args.at
      c.args.left (omega arith) k
      (c.same_offsets.ensures c.if-same_offsets.true))),
)

pub returns-then-not-begins_past : goal.returns-then-not-begins_past
unfolding SourceMet
returns-then-not-begins_past c = tt

pub returns : goal.returns
unfolding SourceMet
returns c = (
  c.requires.1,
  λ h k.
      subst (λ (v : AuthoritySet). MetBy
      (run_from (drop c.args.pos
      c.args.index.now))
      (runs_from c.args.left
      (drop c.args.at
      c.args.words.now))
      (runs_from c.args.left
      (drop c.args.at
      c.args.words.now)) v
      c.after_votes-after-2.result) (sym c.new-2.ensures)
      (subst (MetBy (run_from (drop c.args.pos
      c.args.index.now))
      (runs_from c.args.left
      (drop c.args.at
      c.args.words.now))
      (runs_from c.args.left
      (drop c.args.at
      c.args.words.now)) nobody)
      (sym c.after_votes-after-2.ensures)
      (cursor_past (run_from (drop c.args.pos
      c.args.index.now)) h
      c.args.words.now
      c.args.at
      c.args.left (omega arith) k
      (subst (λ (y : Run). Past (run_from
      (drop c.args.pos
      c.args.index.now)).reference
      (run_from (drop c.args.pos
      c.args.index.now)).end y.reference y.start)
      c.read_run-2.ensures
      (subst (λ (x : Run). Past x.reference x.end (as_run c.read_run-2.result).reference
      (as_run c.read_run-2.result).start) c.read_run.ensures
      (c.begins_past.ensures (c.if-not-begins_past.false)))))),
)
