-- For the functions inside: the tests of the counts by the counts themselves, whatever the crumb buffer holds.
use Rattle.std.specs.Prelude.{ℕ, Bool, ◌&&◌, ◌||◌, leb, ltb, eqb}
use Rattle.trail.specs.Trail.{retrace_fixes, window_places}
use Rattle.trail.specs.declared.Trail.{Trail}
use Rattle.state.specs.declared.Follow.{Follow}
use Rattle.calls.specs.Questions.{follow_fits}

-- those of the turn-round
abbrev pub turned : Trail → Bool
turned t = ltb t.retrace retrace_fixes && (eqb t.retrace 0 || leb t.retrace_len t.len)

-- the window's, the segment's and the turn-round's, where the line has line_len points
abbrev pub counted : Trail → Follow → ℕ → Bool
counted t f line_len = leb t.window_len window_places && follow_fits f.line f.segment t.len line_len && turned t
