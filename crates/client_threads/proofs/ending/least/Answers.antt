use Rattle.std.proofs.Common.{◌+◌, ap, sym, ◌∙◌}
use Rattle.std.specs.Prelude.{option_map}
use Rattle.client_threads.proofs.Leasts.{number_of_place}
use Rattle.client_threads.proofs.ending.least.Goals as goal

-- no place, and so no number
pub returns-in_err-place : goal.returns-in_err-place
returns-in_err-place g c = c.from_residual.ensures
    ∙ (ap (option_map (λ place. c.args.first + place)) (sym c.in_err-place.was ∙ c.first_place.ensures.place)
    ∙ number_of_place c.args.mark c.args.first g.J.Job.end c.args.jobs.now)

-- the number of the first place
pub returns : goal.returns
returns g c = ap (option_map (λ place. c.args.first + place)) (sym c.in_ok-place.was ∙ c.first_place.ensures.place)
    ∙ number_of_place c.args.mark c.args.first g.J.Job.end c.args.jobs.now
