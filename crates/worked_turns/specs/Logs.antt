-- Logs, as contracts see them.
use Rattle.std.specs.Prelude.{ℕ}
use Rattle.record_model.specs.Records.{Record, event_of}
use Rattle.record_model.specs.declared.event.Event.{Event}
use Rattle.worked_turns.specs.declared.log.Row.{Row}

-- a log: its name, the events of its rows with the passes that they are of, and how many rows more it has memory for
pub record LogValue : Type 0 where
  pub name : ℕ
  pub events : Record
  pub room : ℕ

-- the event of a row, with its pass
abbrev pub event_of_row : Row → Event × ℕ
event_of_row row = (event_of row.act row.batch, row.pass)
