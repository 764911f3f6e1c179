use Rattle.std.proofs.Common.{ℕ, arith, ap, ◌∙◌, ◌/◌, ◌%◌, List, ◌++◌}
use Rattle.jiff_core.proofs.SignedLemmas.{signed_arith}
use Rattle.nqs_moments.specs.Moment.{IsMoment}
use Rattle.nqs_text.specs.Dates.{date_text}
use Rattle.nqs_moments.proofs.Dates.{date_is_moment}
use Rattle.nqs_moments.proofs.Moments.{year_is, second_is, one_text}
use Rattle.nqs_moments.proofs.moment.print_moment.Goals as goal

pub returns-in-Ok : goal.returns-in-Ok
returns-in-Ok c =
    let date = c.date_of-date.result in
    let known = c.date_of-date.ensures in
    let moment = c.args.moment in
    let year = year_is date.year c.from.result (omega (arith, signed_arith, known.year)) known.year.1 (c.from.ensures ∙ c.unsigned_abs.ensures.value) in
    let text = rw (c.from-2.ensures, c.from-3.ensures) at c.text_of-text.ensures in
    let is : IsMoment c.text_of-text.result moment = record {
      year = c.from.result;
      month = date.month;
      day = date.day;
      hour = moment % 86400 / 3600;
      minute = moment % 86400 / 60 % 60;
      second = moment % 86400 % 60;
      text = text;
      is_second = second_is date c.from.result moment year known.day;
    } in
    let within = c.if-moment-gt253402214400.false in
    let same = one_text c.text_of-text.result (date_text moment) moment is (date_is_moment moment within) in
    record {
      printed = (within, c.text_of-text.result, is, c.in-Ok.ensures.items);
      date = c.in-Ok.ensures.items ∙ ap (λ (l : List ℕ). c.args.out.now.items ++ l) same;
    }
