-- In the arms whose literals are long, the format's own clause is the goal once the arm is named.
use Rattle.run_report.proofs.line.bad_input_text.Goals as goal

pub returns-in-HeaderShort : goal.returns-in-HeaderShort
returns-in-HeaderShort c = rw c.in-HeaderShort.is c.format-in-HeaderShort.ensures.ok

pub returns-in-Compressed : goal.returns-in-Compressed
returns-in-Compressed c = rw c.in-Compressed.is c.format-in-Compressed.ensures.ok

pub returns-in-Format : goal.returns-in-Format
returns-in-Format c = rw c.in-Format.is c.format-in-Format.ensures.ok

pub returns-in-Length : goal.returns-in-Length
returns-in-Length c = rw c.in-Length.is c.format-in-Length.ensures.ok

pub returns-in-Start : goal.returns-in-Start
returns-in-Start c = rw c.in-Start.is c.format-in-Start.ensures.ok

pub returns-in-PointsShort : goal.returns-in-PointsShort
returns-in-PointsShort c = rw c.in-PointsShort.is c.format-in-PointsShort.ensures.ok

pub returns-in-Frames : goal.returns-in-Frames
returns-in-Frames c = rw c.in-Frames.is c.format-in-Frames.ensures.ok

pub returns-in-Schedule : goal.returns-in-Schedule
returns-in-Schedule c = rw c.in-Schedule.is c.format-in-Schedule.ensures.ok
