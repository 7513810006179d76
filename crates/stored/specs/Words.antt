-- The words of a whole state, in the order of the table in crates/stored/specs/Stored.antt, and the most that each may be.
use Rattle.std.specs.Prelude.{ℕ, List, ◌∷◌, ◌++◌}
use Rattle.state.specs.declared.Homing.{Homing}
use Rattle.stored.specs.Fields.{most64, most8, flag_of, some_flag}
use Rattle.stored.specs.Parts.{place_mosts, motion_mosts, follow_mosts, course_mosts, lap_mosts, guide_mosts, guide_in}
use Rattle.stored.specs.Parts.{place_words, motion_words, follow_words, course_words, lap_words, guide_words}

-- the letters CITTUMA1
abbrev pub mark : ℕ
mark = 4848499195026161969

unfoldable pub mosts : List ℕ
mosts =
    mark ∷ most64 ∷ most64 ∷ most8 ∷ most64 ∷ place_mosts
    ++ place_mosts
    ++ 1 ∷ most64 ∷ motion_mosts
    ++ follow_mosts
    ++ course_mosts
    ++ 1 ∷ 1 ∷ lap_mosts
    ++ most64 ∷ 1 ∷ guide_mosts

unfoldable pub words_of : Homing → List ℕ
words_of h =
    mark ∷ h.trail.len ∷ h.trail.window_len ∷ h.trail.retrace ∷ h.trail.retrace_len ∷ place_words h.frame.origin
    ++ place_words h.fed
    ++ some_flag h.here ∷ h.here_ms ∷ motion_words h.motion
    ++ follow_words h.follow
    ++ course_words h.course
    ++ flag_of h.auto_follow ∷ flag_of h.arrived ∷ lap_words h.lap
    ++ h.updated_ms ∷ some_flag h.guide ∷ guide_words (guide_in h.guide)
