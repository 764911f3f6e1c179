use Rattle.std.proofs.Common.{◌≡◌, ◌∙◌, take, slice_get, sym, ap, subst, arith, Some, ◌^◌}
use Rattle.std.proofs.lemmas.Result.{err_from_is_err_and}
use Rattle.std.proofs.lemmas.List.{take_all}
use Rattle.nqs_state.specs.State.{content}
use Rattle.nqs_store.specs.Told.{record_taken, told_from}
use Rattle.nqs_store.proofs.Lists.{take-at, get_at}
use Rattle.nqs_store.proofs.Telling.{told_more, next_within, next_is, refused_from}
use Rattle.nqs_store.proofs.tell.take_records.Goals as goal

pub returns-in_err-take_record : goal.returns-in_err-take_record
returns-in_err-take_record c =
    let p = err_from_is_err_and c.from_residual.result c.from_residual.ensures.1 in
    let v = c.loop-payload.invariant in
    let i = c.loop-payload.payload-index in
    let payload = c.payload-item.result in
    let payloads = c.args.payloads.now in
    let at : slice_get payloads i ≡ Some payload = get_at payloads i payload (omega (arith, c.loop-payload-test.true, c.loop-payload.auto.payload-index-end))
    ∙ ap Some (sym c.payload-item.is) in
    let host = content c.loop-payload.state in
    record {
      ok = rw p.1 tt;
      so_far = rw p.1 tt;
      err = rw (p.1, p.2) (refused_from (content c.args.state.now) c.args.place payloads i payload _ host c.loop-payload.at _ c.as_slice.ensures at v.0 v.2
          c.in_err-take_record.ensures.err);
    }

pub overflow_add-at-in-loop-payload : goal.overflow_add-at-in-loop-payload
overflow_add-at-in-loop-payload c =
    let v = c.loop-payload.invariant in
    let i = c.loop-payload.payload-index in
    let payload = c.payload-item.result in
    let payloads = c.args.payloads.now in
    let at : slice_get payloads i ≡ Some payload = get_at payloads i payload (omega (arith, c.loop-payload-test.true, c.loop-payload.auto.payload-index-end))
    ∙ ap Some (sym c.payload-item.is) in
    let within = next_within payloads i payload at c.args.place (2 ^ 40) c.loop-payload.at c.requires.short v.2 in
    omega (arith, within, c.len.ensures)

pub loop-payload-preserved : goal.loop-payload-preserved
loop-payload-preserved c =
    let v = c.loop-payload.invariant in
    let i = c.loop-payload.payload-index in
    let payload = c.payload-item.result in
    let payloads = c.args.payloads.now in
    let at : slice_get payloads i ≡ Some payload = get_at payloads i payload (omega (arith, c.loop-payload-test.true, c.loop-payload.auto.payload-index-end))
    ∙ ap Some (sym c.payload-item.is) in
    let host = content c.loop-payload.state in
    let more = take-at payloads i payload at in (
      ap (told_from (Some (content c.args.state.now))) more ∙ told_more (Some (content c.args.state.now)) (take i payloads) host payload v.0
          ∙ ap (λ q. record_taken q (Some host)) (sym c.as_slice.ensures) ∙ c.in_ok-take_record.ensures.ok,
      c.in_ok-take_record.ensures.so_far.sound,
      omega (arith, c.len.ensures, next_is payloads i payload at c.args.place c.loop-payload.at _ v.2 more),
      c.in_ok-take_record.ensures.so_far.only,
    )

pub returns : goal.returns
returns c =
    let v = c.loop-payload.invariant in
    record {
      ok = subst (λ l. told_from (Some (content c.args.state.now)) l ≡ Some (content c.loop-payload.state))
          (take_all c.loop-payload.payload-index c.args.payloads.now (omega (arith, c.loop-payload-test.false, c.loop-payload.auto.payload-index-end))) v.0;
      so_far = record { sound = v.1; only = v.3 };
      err = tt;
    }
