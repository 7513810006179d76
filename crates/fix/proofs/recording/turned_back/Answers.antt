-- `fix::recording::turned_back` meets its contract.
use mathlib.Core.Path.{refl, sym, ap}
use native.Mathlib.Omega.{arith}
use mathlib.Core.List.{List, []}
use Rattle.crumbs.specs.declared.Crumb.{Crumb}
use Rattle.crumbs.proofs.Crumbs.{take-crumbs}
use Rattle.trail.specs.View.{track, places}
use Rattle.state.specs.State.{state_of, with_track}
use Rattle.follow.specs.Engage.{cut_to, forgotten}
use Rattle.calls.specs.Fix.{turned_back}
use Rattle.fix.proofs.recording.turned_back.Goals as goal

pub returns : goal.returns
unfolding turned_back cut_to forgotten track places
returns c =
    let h = c.args.h.now in
    let t = h.trail in
    record {
      same = λ b.
          ap (λ (l : List Crumb). with_track (record {
            crumbs = l;
            tolerance = t.tolerance;
            window = [];
            retrace = 0;
            retrace_len =
                t.retrace_len;
          }) (state_of h b))
          (sym (take-crumbs t.retrace_len t.len b c.requires));
      fit = λ size f.
          record {
            whole_long = f.whole_long;
            least = f.least;
            most = f.most;
            held = omega (arith, f.held, c.requires);
            waiting =
                omega arith;
            tolerance = f.tolerance;
          };
      fewer = c.requires;
      window = refl;
    }
