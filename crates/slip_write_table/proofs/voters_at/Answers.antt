use mathlib.Core.Path.{ap₂, ◌∙◌}
use Rattle.committee_set.specs.AuthoritySet.{without}
use Rattle.final_readings_spec.specs.Readings.{voters_in}
use Rattle.final_readings_spec.specs.Answers.{as_reading, is_rejecting}
use Rattle.final_voters.specs.Walk.{spoken_at}
use borrow.Author.Rules.{rules}
use Rattle.slip_write_table.proofs.voters_at.Goals as goal

named_value_remembers_both : {P0 P1 : Type 0} → P0 × P1 → record { value : P0; remembers_both : P1 }
named_value_remembers_both p = record { value = p.0; remembers_both = p.1 }

pub returns-in-Old : goal.returns-in-Old
unfolding voters_in spoken_at as_reading is_rejecting
returns-in-Old c = rw c.in-Old.is c.speakers_at-voting.ensures

pub speakers_at-rejecting-requires : goal.speakers_at-rejecting-requires
speakers_at-rejecting-requires c = (
  c.requires.0,
  c.speakers_at-voting.ensures.remembers_both,
)

pub returns : goal.returns
unfolding voters_in spoken_at as_reading is_rejecting
returns c = named_value_remembers_both (let w = c.speakers_at-rejecting.ensures in
    rw c.in_default.is
    (c.less.ensures ∙ ap₂ without c.speakers_at-voting.ensures.value w.value, w.remembers_both))
