use Rattle.std.proofs.Common.{◌≡◌}
use Rattle.std.proofs.lemmas.Result.{IfOk-weaker}
use Rattle.places.specs.declared.place.Place.TheVariants as p
use Rattle.places.specs.Views.{asked_above}
use Rattle.streams.specs.Steps.{BeginsMember}
use Rattle.streams.proofs.made.member_begun.Goals as goal

pub returns : goal.returns
returns c =
    let members = c.in_ok-members.members in
    IfOk-weaker c.asked_above.result (λ place. place ≡ asked_above members p.Start) (λ place. BeginsMember place c.args.listed)
    (λ place e. record { members = members; is = e; rows = c.in_ok-members.ensures.0; fault = c.in_ok-members.ensures.1 })
    c.asked_above.ensures
