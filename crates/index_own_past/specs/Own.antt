-- Machinery for the contracts of inner functions: a source in other words against a run. Assumes nothing: these are definitions.
use Rattle.std.specs.Prelude.{ℕ, ◌<◌, ◌≡◌, List, drop}
use Rattle.index_spec.specs.Runs.{Run}
use Rattle.index_spec.specs.Walk.{Past, run_from}
use Rattle.index_pieces.specs.Sources.{cursor_at, cursor_left}

-- the next run of a source begins past a run; or none is left of it
pub data OwnPast (x : Run) (own ms : List ℕ) : Type 0 where
  spent : cursor_left ms 0 ≡ 0 → OwnPast x own ms
  later : 0 < cursor_left ms 0 → Past x.reference x.end (run_from (drop (cursor_at ms 0) own)).reference (run_from (drop (cursor_at ms 0) own)).start →
      OwnPast x own ms
