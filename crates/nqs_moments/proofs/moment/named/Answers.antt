use Rattle.nqs_moments.proofs.moment.named.Goals as goal

pub returns : goal.returns
returns c = rw (c.in_ok-year.ensures, c.in_ok-month.ensures, c.in_ok-day.ensures, c.in_ok-hour.ensures, c.in_ok-minute.ensures, c.in_ok-second.ensures) at
    c.second_of.ensures
