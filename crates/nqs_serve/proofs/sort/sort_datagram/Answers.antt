use Rattle.std.proofs.Common.{◌≤◌, length, refl, sym, arith}
use Rattle.std.proofs.lemmas.Result.{IfOk-weaker}
use Rattle.nqs_serve.specs.Events.{Here}
use Rattle.nqs_serve.proofs.Sorting.{of_sorted, taken_sorted, from_message}
use Rattle.nqs_serve.proofs.sort.sort_datagram.Goals as goal

pub returns-in-Ok-clause-sorted : goal.returns-in-Ok-clause-sorted
returns-in-Ok-clause-sorted c =
    let here : Here = record { me = c.args.me; site = c.args.site.now } in
    let short : length c.args.bytes.now ≤ 1052672 = omega (arith, c.if-bytes-gt-LONGEST.false) in
    IfOk-weaker c.sort_read.result _ _ (λ s is. of_sorted here c.args.bytes.now s
    (from_message here c.args.bytes.now c.in-Ok.message s short (sym (c.in-Ok.ensures.answer refl)) is)) c.sort_read.ensures.sorted

pub returns-in-Ok-clause-taken : goal.returns-in-Ok-clause-taken
returns-in-Ok-clause-taken c =
    let here : Here = record { me = c.args.me; site = c.args.site.now } in
    let short : length c.args.bytes.now ≤ 1052672 = omega (arith, c.if-bytes-gt-LONGEST.false) in
    IfOk-weaker c.sort_read.result _ _ (λ s is. taken_sorted here c.args.bytes.now s
    (from_message here c.args.bytes.now c.in-Ok.message s short (sym (c.in-Ok.ensures.answer refl)) is)) c.sort_read.ensures.sorted

pub sort_read-requires : goal.sort_read-requires
sort_read-requires c = c.in-Ok.ensures.ok.1
