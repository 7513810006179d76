-- `lap::step_pass` meets its contract.
use Rattle.lap.proofs.Laps.{unmoved, completed, went_on}
use Rattle.lap.proofs.step_pass.Goals as goal

pub returns-in_default : goal.returns-in_default
returns-in_default c =
    let g = c.args in
    unmoved g.l g.p g.heading c.is_some-is_moving.result c.lap_start-start.result c.is_some-is_moving.ensures c.lap_start-start.ensures
    c.in_default.is

pub returns-then-step : goal.returns-then-step
returns-then-step c =
    let g = c.args in
    completed g.l g.p c.in-Some.from g.heading c.is_some-is_moving.result c.lap_start-start.result c.is_some-is_moving.ensures
    c.lap_start-start.ensures c.in-Some.is c.distance.result c.distance.ensures c.step.new.self c.step.result c.step.ensures c.if-step.true

pub returns-else-step : goal.returns-else-step
returns-else-step c =
    let g = c.args in
    went_on g.l g.p c.in-Some.from g.heading c.is_some-is_moving.result c.lap_start-start.result c.is_some-is_moving.ensures
    c.lap_start-start.ensures c.in-Some.is c.distance.result c.distance.ensures c.step.new.self c.step.result c.step.ensures c.if-step.false
